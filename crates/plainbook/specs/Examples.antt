-- Books that are different and yet one survey, otherwise written; and books that are no worse than another.
use Rattle.std.specs.Prelude.{◌≡◌, ℕ, ◌-◌, ◌^◌, ◌<◌, List, [], ◌∷◌, Some, None}
use Rattle.records.specs.declared.circuit.Sense.TheVariants.{Along, Against}
use Rattle.records.specs.Circuits.{CircuitRecord, UseRecord, circuit_words}
use Rattle.records.specs.Legs.{LegRecord, leg_words}
use Rattle.quantities.specs.Meanings.{heights_terms, angles_terms}
use Rattle.quantities.specs.Terms.{Terms}
use Rattle.standards.specs.declared.class.Class.{Class}
use Rattle.standards.specs.declared.class.Class.TheVariants.{First, Second}
use Rattle.standards.specs.declared.finding.LegFinding.{LegFinding}
use Rattle.standards.specs.Classes.{class_number}
use Rattle.standards.specs.Level.{level_rules}
use Rattle.standards.specs.NoWorse.{leg_kind, circuit_kind}
use Rattle.standards.specs.Rules.{Rules}
use Rattle.standards.specs.Triangulation.{triangulation_rules}
use Rattle.plainbook.specs.Grades.{grade}
use Rattle.plainbook.specs.Promise.{Way, Ends, Pairing, leg_item, circuit_item}
use Rattle.plainbook.specs.Rewritings.{Rewriting}
use Rattle.plainbook.specs.Steps.{Call, entering, joining}
use Rattle.plainbook.specs.Surveys.{Survey}

-- ---- two level legs that make a circuit, in 0.01 mm
-- the payload that says so many below zero
abbrev pub below_zero : ℕ → ℕ
below_zero n = 2 ^ 28 - n

-- run twice over 1,000 m
abbrev pub twice_run : (number start end value back : ℕ) → LegRecord
twice_run number start end value back =
    record {
      number = number;
      start = start;
      end = end;
      value = value;
      length = record { metres = 1000 };
      readings = record { a = 3; b = 500; c = 40 };
      back = Some back;
    }

-- up from bench mark 1 to 2, with a misclosure of its own
abbrev pub up : (number misclosure : ℕ) → LegRecord
up number misclosure = twice_run number 1 2 10000 (below_zero (10000 - misclosure))

-- down from bench mark 2 to 1, with no misclosure
abbrev pub down : (number : ℕ) → LegRecord
down number = twice_run number 2 1 (below_zero 9875) 9875

abbrev pub along : ℕ → UseRecord
along n = record { leg = n; sense = Along }

abbrev pub against : ℕ → UseRecord
against n = record { leg = n; sense = Against }

-- due to close at 0
abbrev pub circuit : (number : ℕ) → List UseRecord → CircuitRecord
circuit number legs = record { number = number; due = 0; legs = legs }

-- ---- books: two legs entered and a circuit joined
abbrev pub LevelWay : Type 0
LevelWay = Way (Unit {0}) (Unit {0})

abbrev pub book : (l m : LegRecord) → CircuitRecord → LevelWay
book l m c =
    record {
      quantity = tt;
      standard = tt;
      calls = entering (leg_words l) ∷ entering (leg_words m) ∷ joining (circuit_words c) ∷ [];
    }

-- leg 1 has a misclosure of 3.50 mm
abbrev pub first_book : LevelWay
first_book = book (up 1 350) (down 2) (circuit 1 (along 1 ∷ along 2 ∷ []))

-- the legs as 11 and 12, the circuit as 5
abbrev pub renumbered_book : LevelWay
renumbered_book = book (up 11 350) (down 12) (circuit 5 (along 11 ∷ along 12 ∷ []))

-- the circuit begun at bench mark 2
abbrev pub elsewhere_book : LevelWay
elsewhere_book = book (up 1 350) (down 2) (circuit 1 (along 2 ∷ along 1 ∷ []))

-- the circuit turned round
abbrev pub turned_book : LevelWay
turned_book = book (up 1 350) (down 2) (circuit 1 (against 2 ∷ against 1 ∷ []))

-- begun elsewhere, turned round and renumbered
abbrev pub mixed_book : LevelWay
mixed_book = book (up 11 350) (down 12) (circuit 5 (against 11 ∷ against 12 ∷ []))

-- leg 1 with a misclosure of 3.01 mm
abbrev pub closer_book : LevelWay
closer_book = book (up 1 301) (down 2) (circuit 1 (along 1 ∷ along 2 ∷ []))

-- leg 1 with a misclosure of 3.00 mm
abbrev pub better_book : LevelWay
better_book = book (up 1 300) (down 2) (circuit 1 (along 1 ∷ along 2 ∷ []))

-- ---- a triangle, in 0.01 seconds of arc
-- an angle of a triangle, in 16 positions
abbrev pub corner : (number start end value : ℕ) → LegRecord
corner number start end value =
    record {
      number = number;
      start = start;
      end = end;
      value = value;
      length = record { metres = 0 };
      readings = record { a = 16; b = 40; c = 20 };
      back = None;
    }

-- 180 degrees and 1.50 seconds together
abbrev pub corners : List LegRecord
corners = corner 1 1 2 21600000 ∷ corner 2 2 3 21600050 ∷ corner 3 3 1 21600100 ∷ []

-- due to sum to 180 degrees and 1.00 second
abbrev pub triangle : CircuitRecord
triangle = record { number = 1; due = 64800100; legs = along 1 ∷ along 2 ∷ along 3 ∷ [] }

-- turned round, with the opposite due sum: the rest of the full circle
abbrev pub turned_triangle : CircuitRecord
turned_triangle = record { number = 1; due = 64799900; legs = against 3 ∷ against 2 ∷ against 1 ∷ [] }

abbrev pub entries : List LegRecord → CircuitRecord → List (Call (Unit {0}) (Unit {0}))
entries [] c = joining (circuit_words c) ∷ []
entries (l ∷ ls) c = entering (leg_words l) ∷ entries ls c

-- a book of triangulation: the angles entered and joined
abbrev pub triangle_book : CircuitRecord → Way (Unit {0}) (Unit {0})
triangle_book c = record { quantity = tt; standard = tt; calls = entries corners c }

-- ---- what they show
abbrev pub LevelEnds : LevelWay → Survey → Type 0
LevelEnds way p = Ends (λ _. heights_terms) (λ _. level_rules) way tt tt p

-- two ways end in different surveys, both gradable, and the second is the first otherwise written
pub record RewrittenUnder {Element : Type 0} (q : Terms Element) (s : Rules) (v w : Way (Unit {0}) (Unit {0})) : Type 0 where
  pub before : Survey
  pub after : Survey
  pub ends_before : Ends (λ _. q) (λ _. s) v tt tt before
  pub ends_after : Ends (λ _. q) (λ _. s) w tt tt after
  pub rewriting : Rewriting q before after
  pub different : before ≡ after → ⊥

abbrev pub OtherwiseWritten : (v w : LevelWay) → Type 0
OtherwiseWritten = RewrittenUnder heights_terms level_rules

-- the leg's own misclosure is strictly smaller in the second
pub record SmallerMisclosure (a b : Survey) (n : ℕ) : Type 0 where
  pub larger : LegFinding
  pub smaller : LegFinding
  pub before : leg_item heights_terms a n ≡ Some larger
  pub after : leg_item heights_terms b n ≡ Some smaller
  pub less : smaller.misclosure < larger.misclosure

-- two ways end in gradable surveys whose legs and circuits pair off, the second's no worse, and leg 1's misclosure is
-- strictly smaller; their best classes are the ones given
pub record NoWorseBook (v w : LevelWay) (old new : Class) : Type 0 where
  pub before : Survey
  pub after : Survey
  pub ends_before : LevelEnds v before
  pub ends_after : LevelEnds w after
  pub legs : Pairing leg_kind level_rules.directions (leg_item heights_terms before) (leg_item heights_terms after)
  pub circuits : Pairing circuit_kind level_rules.directions (circuit_item heights_terms before) (circuit_item heights_terms after)
  pub smaller : SmallerMisclosure before after 1
  pub best_before : (grade heights_terms level_rules before).best ≡ Some old
  pub best_after : (grade heights_terms level_rules after).best ≡ Some new

pub record Examples : Type 0 where
  pub renumbered : OtherwiseWritten first_book renumbered_book
  pub elsewhere : OtherwiseWritten first_book elsewhere_book
  pub turned : OtherwiseWritten first_book turned_book
  pub mixed : OtherwiseWritten first_book mixed_book
  -- a due sum that is not its own opposite
  pub triangle_turned : RewrittenUnder angles_terms triangulation_rules (triangle_book triangle) (triangle_book turned_triangle)
  -- a smaller misclosure, and the same class
  pub closer : NoWorseBook first_book closer_book Second Second
  -- a smaller misclosure, and a class that is strictly better
  pub better : NoWorseBook first_book better_book Second First
  pub higher : class_number First < class_number Second
