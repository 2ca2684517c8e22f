-- The forms of the rules, each with its law.
use Rattle.std.specs.Prelude.{ℕ, ◌*◌, ◌≤◌, Bool, not, List}
use Rattle.standards.specs.declared.finding.Directions.{Directions}
use Rattle.standards.specs.Laws.{below, above, square_below, through_asked}
use Rattle.standards.specs.Limits.{limit, at_least, at_most, at_most_each, square_at_most, less, where_asked, is_double}
use Rattle.standards.specs.NoWorse.{Kind, NoWorse, leg_kind, circuit_kind, whole_kind, more_less_less}
use Rattle.standards.specs.Tables.{Rule, law_beside}

-- a number of a finding that is no greater where the finding is no worse
abbrev pub NoGreater : {Finding : Type 0} → Kind Finding → Directions → (Finding → ℕ) → Type 0
NoGreater {Finding} kind better size = (f g : Finding) → NoWorse kind better f g → size f ≤ size g

module _ {Finding : Type 0} {kind : Kind Finding} {better : Directions} where
  -- the number is at most the limit
  abbrev pub most : (size : Finding → ℕ) → NoGreater kind better size → List ℕ → Rule kind better
  most size no_greater limits =
      record {
        meets = λ f. at_most (size f) limits;
        law = λ f g w k. below (size f) (size g) (limit limits k) (no_greater f g w);
      }

  -- the number is at most the limit for each of so many
  abbrev pub most_each : (count size : Finding → ℕ) → NoGreater kind better size → List ℕ → Rule kind better
  most_each count size no_greater limits =
      record {
        meets = λ f. at_most_each (size f) limits (count (kind.others f));
        law =
            law_beside (λ o f. at_most_each (size f) limits (count o))
            (λ o f g w k. below (size f) (size g) (limit limits k * count o) (no_greater f g w));
      }

  -- the square is at most factor × k² × metres, asked of some findings only
  abbrev pub most_squared : (asked : Finding → Bool) (metres size : Finding → ℕ) → NoGreater kind better size → (factor : ℕ) → List ℕ
      → Rule kind better
  most_squared asked metres size no_greater factor limits =
      record {
        meets = λ f. where_asked (asked (kind.others f)) (square_at_most (size f) factor limits (metres (kind.others f)));
        law =
            law_beside (λ o f. where_asked (asked o) (square_at_most (size f) factor limits (metres o)))
            (λ o f g w k.
            through_asked (asked o) (square_at_most (size g) factor limits (metres o))
            (square_at_most (size f) factor limits (metres o)) k (square_below (size f) (size g) _ (no_greater f g w)));
      }

-- Legs

abbrev pub a_at_least : List ℕ → Rule leg_kind more_less_less
a_at_least limits =
    record {
      meets = λ f. at_least f.readings.a limits;
      law = λ f g w k. above f.readings.a g.readings.a (limit limits k) w.a;
    }

abbrev pub b_at_most : List ℕ → Rule leg_kind more_less_less
b_at_most = most (λ f. f.readings.b) (λ f g w. w.b)

abbrev pub c_at_most : List ℕ → Rule leg_kind more_less_less
c_at_most = most (λ f. f.readings.c) (λ f g w. w.c)

-- the own misclosure of a leg that was run twice: p² ≤ factor × k² × length
abbrev pub double_misclosure : (factor : ℕ) → List ℕ → Rule leg_kind more_less_less
double_misclosure =
    most_squared (λ f. is_double f.running) (λ f. f.length.metres) (λ f. f.misclosure) (λ f g w. w.sizes.0)

-- Circuits

-- the closure of a closed circuit: z² ≤ factor × k² × length
abbrev pub closed_closure : (factor : ℕ) → List ℕ → Rule circuit_kind more_less_less
closed_closure =
    most_squared (λ f. f.form.closed) (λ f. f.length.metres) (λ f. f.closure) (λ f g w. w.sizes.0)

-- the summed misclosure of an open circuit: s² ≤ factor × k² × length
abbrev pub open_misclosure : (factor : ℕ) → List ℕ → Rule circuit_kind more_less_less
open_misclosure =
    most_squared (λ f. not f.form.closed) (λ f. f.length.metres) (λ f. f.misclosure) (λ f g w. w.sizes.1.0)

-- the length of a circuit with a leg that was run once
abbrev pub single_length : List ℕ → Rule circuit_kind more_less_less
single_length limits =
    record {
      meets = λ f. where_asked (not (is_double f.running)) (less f.length.metres limits);
      law =
          law_beside (λ o f. where_asked (not (is_double o.running)) (less o.length.metres limits))
          (λ o f g w k met. met);
    }

abbrev pub closure_at_most : List ℕ → Rule circuit_kind more_less_less
closure_at_most = most (λ f. f.closure) (λ f g w. w.sizes.0)

-- The whole

-- the sum of closures, averaged over the closed circuits: t ≤ k × n
abbrev pub closures_at_most_each : List ℕ → Rule whole_kind more_less_less
closures_at_most_each = most_each (λ f. f.circuits) (λ f. f.closures) (λ f g w. w.sizes.0)
