-- Worked figures, each on a limit or one beside it.
use Rattle.std.specs.Prelude.{◌≡◌, ℕ, Bool, true, cond, List, [], ◌∷◌, ◌++◌, pos, negsuc, Some, Ok}
use Rattle.records.specs.declared.leg.Running.{Running}
use Rattle.records.specs.declared.leg.Running.TheVariants.{Single, Double}
use Rattle.records.specs.Legs.{LegRecord, leg_decoded}
use Rattle.records.specs.Words.{signed}
use Rattle.quantities.specs.Angles.{full_circle}
use Rattle.quantities.specs.Meanings.{heights_terms, angles_terms, angle_residues}
use Rattle.quantities.specs.Residues.{signed_form}
use Rattle.standards.specs.declared.class.Class.{Class}
use Rattle.standards.specs.declared.class.Class.TheVariants.{First, Second, Third, Fourth, Fifth}
use Rattle.standards.specs.declared.finding.CircuitFinding.{CircuitFinding}
use Rattle.standards.specs.declared.finding.LegFinding.{LegFinding}
use Rattle.standards.specs.Level.{level_rules}
use Rattle.standards.specs.Triangulation.{triangulation_rules}
use Rattle.plainbook.specs.Findings.{whole_finding}
use Rattle.plainbook.specs.Grades.{Grade}
use Rattle.plainbook.specs.Steps.{Held, entering, joining, grading, listing, graded, listed, opened, run, step}

-- the numbers of the classes that pass a test
abbrev pub numbers_met : (Class → Bool) → List ℕ
numbers_met test =
    cond (test First) (1 ∷ []) []
    ++ (cond (test Second) (2 ∷ []) []
    ++ (cond (test Third) (3 ∷ []) [] ++ (cond (test Fourth) (4 ∷ []) [] ++ cond (test Fifth) (5 ∷ []) [])))

abbrev pub every_class : List ℕ
every_class = 1 ∷ 2 ∷ 3 ∷ 4 ∷ 5 ∷ []

abbrev pub all_but_first : List ℕ
all_but_first = 2 ∷ 3 ∷ 4 ∷ 5 ∷ []

-- a leg run twice, by its length and its own misclosure
abbrev pub double_leg : (metres misclosure : ℕ) → LegFinding
double_leg metres misclosure =
    record { length = record { metres = metres }; running = Double; misclosure = misclosure; readings = record { a = 3; b = 500; c = 40 } }

abbrev pub closed_circuit : (legs metres : ℕ) → Running → (closure : ℕ) → CircuitFinding
closed_circuit legs metres running closure =
    record { form = record { closed = true; legs = legs }; length = record { metres = metres }; running = running; closure = closure; misclosure = 0 }

-- the classes met under a rule, counted from 1 in its table
abbrev pub level_leg_4 : (metres misclosure : ℕ) → List ℕ
level_leg_4 metres misclosure = numbers_met (level_rules.legs.meets 3 (double_leg metres misclosure))

abbrev pub level_circuit_1 : (metres closure : ℕ) → List ℕ
level_circuit_1 metres closure = numbers_met (level_rules.circuits.meets 0 (closed_circuit 4 metres Double closure))

abbrev pub level_circuit_3 : (metres : ℕ) → List ℕ
level_circuit_3 metres = numbers_met (level_rules.circuits.meets 2 (closed_circuit 4 metres Single 0))

abbrev pub angle_circuit_1 : (closure : ℕ) → List ℕ
angle_circuit_1 closure = numbers_met (triangulation_rules.circuits.meets 0 (closed_circuit 3 0 Single closure))

abbrev pub angle_whole_1 : List ℕ → List ℕ
angle_whole_1 closures = numbers_met (triangulation_rules.whole.meets 0 (whole_finding (triangles closures)))
  where
    triangles : List ℕ → List CircuitFinding
    triangles [] = []
    triangles (z ∷ zs) = closed_circuit 3 0 Single z ∷ triangles zs

-- ---- words
abbrev pub sample_words : List ℕ
sample_words = 0x10100402 ∷ 0x20002710 ∷ 0x300003E8 ∷ 0x4037D028 ∷ 0x5FFFD8F0 ∷ []

-- leg 1, from node 1 to node 2, 10,000, 1,000 m, readings 3, 500 and 40, and a back value
abbrev pub sample_leg : LegRecord
sample_leg =
    record {
      number = 1;
      start = 1;
      end = 2;
      value = 10000;
      length = record { metres = 1000 };
      readings = record { a = 3; b = 500; c = 40 };
      back = Some 0xFFFD8F0;
    }

-- that leg with a sight difference of 41 dm
abbrev pub uneven_words : List ℕ
uneven_words = 0x10100402 ∷ 0x20002710 ∷ 0x300003E8 ∷ 0x4037D029 ∷ 0x5FFFD8F0 ∷ []

-- run once over 15,000 m
abbrev pub once_words : List ℕ
once_words = 0x10100402 ∷ 0x20002710 ∷ 0x30003A98 ∷ 0x4037D028 ∷ []

-- circuit 1, due to close at 0, of leg 1 alone: it is open
abbrev pub alone_words : List ℕ
alone_words = 0x60100000 ∷ 0x70000000 ∷ 0x80000001 ∷ []

-- ---- a level book with one leg, alone in an open circuit
abbrev pub level_book : List ℕ → Held (Unit {0}) (Unit {0})
level_book words = run (λ _. heights_terms) (λ _. level_rules) (opened tt tt) (entering words ∷ joining alone_words ∷ [])

abbrev pub GradedAs : List ℕ → Grade → Type 0
GradedAs words grade = (step (λ _. heights_terms) (λ _. level_rules) grading (level_book words)).answer ≡ Ok (graded grade)

-- a list of misses at class 1 into one word
abbrev pub ListsAtFirst : List ℕ → (miss : ℕ) → Type 0
ListsAtFirst words miss =
    ((step (λ _. heights_terms) (λ _. level_rules) (listing 1 (0 ∷ [])) (level_book words)).answer ≡ Ok (listed 1))
    × ((step (λ _. heights_terms) (λ _. level_rules) (listing 1 (0 ∷ [])) (level_book words)).words ≡ miss ∷ [])

pub record Figures : Type 0 where
  -- a leg of 1,000 m with a misclosure of 3.00 mm meets every class, and with 3.01 mm misses only class 1
  pub leg_on : level_leg_4 1000 300 ≡ every_class
  pub leg_over : level_leg_4 1000 301 ≡ all_but_first
  -- a closed level circuit of 4,000 m with a closure of 16.00 mm, and of 16.01 mm
  pub closure_on : level_circuit_1 4000 1600 ≡ every_class
  pub closure_over : level_circuit_1 4000 1601 ≡ all_but_first
  -- single running
  pub once_9999 : level_circuit_3 9999 ≡ 4 ∷ 5 ∷ []
  pub once_10000 : level_circuit_3 10000 ≡ 4 ∷ []
  pub once_24999 : level_circuit_3 24999 ≡ 4 ∷ []
  pub once_25000 : level_circuit_3 25000 ≡ []
  -- a triangle that closes within 3.01 seconds
  pub angle_over : angle_circuit_1 301 ≡ 3 ∷ 4 ∷ 5 ∷ []
  -- a residue just under a full circle is small, and one just over half a circle is below zero
  pub nearly_round : angles_terms.size (angle_residues.element (pos 129599999)) ≡ 1
  pub over_half : signed_form full_circle 64800001 ≡ negsuc 64799998
  -- two triangles that average 1.005 seconds
  pub averaged : angle_whole_1 (100 ∷ 101 ∷ []) ≡ all_but_first
  pub words_read : leg_decoded sample_words ≡ Ok sample_leg
  pub back_read : signed 0xFFFD8F0 ≡ negsuc 9999
  -- the set of classes 2 to 5, and the one miss at class 1: leg 1 under rule 3
  pub uneven_grade : GradedAs uneven_words (record { set = 30; count = 4; best = Some Second })
  pub uneven_miss : ListsAtFirst uneven_words 0xC1103001
  -- class 4 and nothing else
  pub once_grade : GradedAs once_words (record { set = 8; count = 1; best = Some Fourth })
