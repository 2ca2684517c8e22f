use Rattle.std.proofs.Common.{◌≡◌, ◌+◌, map, take, drop, None, vec_items}
use Rattle.records.specs.Circuits.{use_record, use_read}
use Rattle.records.specs.Uses.{use_unranged}
use Rattle.records.proofs.circuit.Uses.legs.Given as goal

-- what is left is in range, and what was passed is read
abbrev pub invariant-loop-word : goal.invariant-loop-word
invariant-loop-word l =
    (use_unranged (2 + l.word-index) (drop l.word-index l.self.words.now) ≡ None)
    × (map use_record (vec_items l.uses) ≡ map use_read (take l.word-index l.self.words.now))
