-- The classes by number; tests of the five classes: a row of them, how many pass, and the best that passes.
use Rattle.std.specs.Prelude.{◌≡◌, ℕ, zero, suc, ◌+◌, ◌-◌, ◌≤◌, Bool, true, false, cond, List, [], ◌∷◌, Some, None, Option, MatchOption, ◌≢◌, slice_index_or}
use Rattle.standards.specs.declared.class.Class.{Class}
use Rattle.standards.specs.declared.class.Class.TheVariants.{First, Second, Third, Fourth, Fifth}

-- 1 is the best
abbrev pub class_number : Class → ℕ
class_number First = 1
class_number Second = 2
class_number Third = 3
class_number Fourth = 4
class_number Fifth = 5

abbrev pub class_at : ℕ → Option Class
class_at zero = None
class_at (suc zero) = Some First
class_at (suc (suc zero)) = Some Second
class_at (suc (suc (suc zero))) = Some Third
class_at (suc (suc (suc (suc zero)))) = Some Fourth
class_at (suc (suc (suc (suc (suc zero))))) = Some Fifth
class_at (suc (suc (suc (suc (suc (suc n)))))) = None

-- the class that has the number, or none where no class has it
abbrev pub Named : ℕ → Option Class → Type 0
Named n r = MatchOption r ((k : Class) → class_number k ≢ n) (λ k. class_number k ≡ n)

-- five entries, one for each class from 1 to 5
abbrev pub row : {X : Type 0} → X → X → X → X → X → List X
row a b c d e = a ∷ b ∷ c ∷ d ∷ e ∷ []

-- the entry of a class, and `other` where the row is too short
abbrev pub entry : {X : Type 0} → X → List X → Class → X
entry other xs k = slice_index_or xs (class_number k - 1) other

-- how many classes pass a test
abbrev pub members : (Class → Bool) → ℕ
members test =
    cond (test First) 1 0 + cond (test Second) 1 0 + cond (test Third) 1 0 + cond (test Fourth) 1 0 + cond (test Fifth) 1 0

-- the best class that passes a test
abbrev pub least : (Class → Bool) → Option Class
least test =
    cond (test First) (Some First)
    (cond (test Second) (Some Second)
    (cond (test Third) (Some Third) (cond (test Fourth) (Some Fourth) (cond (test Fifth) (Some Fifth) None))))

-- a class that passes, and no class with a lower number does; or none, where none passes
abbrev pub Least : (Class → Bool) → Option Class → Type 0
Least test r =
    MatchOption r ((k : Class) → test k ≡ false)
    (λ best. (test best ≡ true) × ((k : Class) → test k ≡ true → class_number best ≤ class_number k))
