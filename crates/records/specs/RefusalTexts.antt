-- The refusals in plain words.
use Rattle.std.specs.Prelude.{ℕ, List, ◌++◌, codes, decimal}
use Rattle.records.specs.declared.refusal.Part.{Part}
use Rattle.records.specs.declared.refusal.Part.TheVariants.{Words, Quantity, Standard, Book}
use Rattle.records.specs.declared.refusal.Reason.{Reason}
use Rattle.records.specs.declared.refusal.Reason.TheVariants.{Layout, Range, Measure, Observation, Form, Taken, Absent, InUse, Twice, Broken, NoLeg, Loose, NoClass, TooFew}
use Rattle.records.specs.declared.refusal.Refusal.{Refusal}
use Rattle.records.specs.Refusals.{row}

abbrev pub part_text : Part → List ℕ
part_text Words = codes "words"
part_text Quantity = codes "quantity"
part_text Standard = codes "standard"
part_text Book = codes "book"

abbrev pub reason_text : Reason → List ℕ
reason_text Layout = codes "a word is absent, surplus or of another kind than the layout's"
reason_text Range = codes "a number, a node or a zero bit breaks its range, or the nodes are equal"
reason_text Taken = codes "the number already stands"
reason_text Absent = codes "the number does not stand"
reason_text InUse = codes "a standing circuit uses the leg"
reason_text Measure = codes "the value, the back value or the due sum is not accepted"
reason_text Observation = codes "the length or the readings are not accepted"
reason_text Twice = codes "the leg is named twice"
reason_text Broken = codes "the leg does not begin where the one before it ended"
reason_text Form = codes "the form of the circuit is not accepted"
reason_text NoLeg = codes "no leg stands"
reason_text Loose = codes "no standing circuit uses the leg"
reason_text NoClass = codes "the class is not 1 to 5"
reason_text TooFew = codes "fewer words than misses"

-- number, part, place, and the reason in words
abbrev pub refusal_text : Refusal → List ℕ
refusal_text r =
    decimal (row r.reason).number
    ++ codes " " ++ part_text (row r.reason).part
    ++ codes " " ++ decimal r.place
    ++ codes ": " ++ reason_text r.reason
