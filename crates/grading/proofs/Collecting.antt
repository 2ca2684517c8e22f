-- Findings collected, one for each value of a map. Assumes nothing.
use Rattle.std.proofs.Common.{◌≡◌, ℕ, ◌+◌, ◌-◌, ◌^◌, ◌≤◌, min, cond, List, [], ◌∷◌, map, sym, ap, ◌∙◌, arith}
use Rattle.std.proofs.lemmas.Simd.{map-map}
use Rattle.std.specs.BTreeMap.{BTreeMap}
use Rattle.std.specs.BTreeMap.{values}
use Rattle.std.specs.List.{range_with_len}
use Rattle.std.specs.Option.{option_map}
use Rattle.records.specs.declared.circuit.Circuit.{Circuit}
use Rattle.records.specs.Circuits.{circuit_record}
use Rattle.records.specs.Legs.{leg_record}
use Rattle.quantities.specs.Terms.{Terms}
use Rattle.standards.specs.declared.finding.CircuitFinding.{CircuitFinding}
use Rattle.standards.specs.Observed.{leg_finding}
use Rattle.plainbook.specs.Findings.{circuit_finding, leg_findings, circuit_findings, closed_count, closure_sum, whole_finding}
use Rattle.plainbook.specs.Surveys.{standing, leg_numbers, circuit_numbers}
use Rattle.plainbook.proofs.Items.{map_standing}
use Rattle.survey.specs.declared.book.Book.{Book}
use Rattle.survey.specs.Books.{surveyed}
use Rattle.survey.specs.Numbered.{Numbered, table}
use Rattle.survey.proofs.Orders.{vals_stand}

-- what stands, read by g and then by f
read_twice : {X Y W : Type 0} (f : Y → W) (g : X → Y) (high : ℕ) (m : BTreeMap ℕ X) → Numbered high m → map f (standing (λ n. option_map g (table m n)) (range_with_len 1 high)) ≡ map (λ x. f (g x)) (values m)
read_twice f g high m o =
    ap (map f) (sym (map_standing g (table m) (range_with_len 1 high)) ∙ ap (map g) (vals_stand high m o)) ∙ map-map f g (values m)

module _ {Q S Element : Type 0} (q : Terms Element) (b : Book Q S) where
  pub legs_found : leg_findings q (surveyed b) ≡ map (λ l. leg_finding q (leg_record l)) (values b.legs)
  unfolding leg_numbers
  legs_found = read_twice (leg_finding q) leg_record 128 b.legs b.legs_numbered

  abbrev pub circuit_shown : Circuit → CircuitFinding
  circuit_shown c = circuit_finding q (surveyed b) (circuit_record c)

  pub circuits_found : circuit_findings q (surveyed b) ≡ map (λ c. circuit_finding q (surveyed b) (circuit_record c)) (values b.circuits)
  unfolding circuit_numbers
  circuits_found = read_twice (circuit_finding q (surveyed b)) circuit_record 32 b.circuits b.circuits_numbered

-- ---- the whole, one finding after another
pub record Counted (n sum : ℕ) (rest all : List CircuitFinding) : Type 0 where
  pub circuits : n + closed_count rest ≡ closed_count all
  pub closures : min (sum + closure_sum rest) (2 ^ 64 - 1) ≡ min (closure_sum all) (2 ^ 64 - 1)

pub counted_turn : {A : Type 0} (g : A → CircuitFinding) (xs ys : List A) (x : A) (f : CircuitFinding) (n n' sum sum' : ℕ) (all : List CircuitFinding) → xs ≡ x ∷ ys → f ≡ g x → n' ≡ n + cond f.form.closed 1 0 → sum' ≡ min (sum + f.closure) (2 ^ 64 - 1)
    → Counted n sum (map g xs) all → Counted n' sum' (map g ys) all
counted_turn g xs ys x f n n' sum sum' all turn is en es h =
    let count : closed_count (map g xs) ≡ cond f.form.closed 1 0 + closed_count (map g ys) = ap (λ l. closed_count (map g l)) turn ∙ sym (ap (λ f. cond f.form.closed 1 0 + closed_count (map g ys)) is) in
    let total : closure_sum (map g xs) ≡ f.closure + closure_sum (map g ys) = ap (λ l. closure_sum (map g l)) turn ∙ sym (ap (λ f. f.closure + closure_sum (map g ys)) is) in
    record { circuits = omega (arith, h.circuits, count, en); closures = omega (arith, h.closures, total, es) }

pub counted_all : {A : Type 0} (g : A → CircuitFinding) (xs : List A) (n sum : ℕ) (all : List CircuitFinding) → xs ≡ [] → sum ≤ 2 ^ 64 - 1 → Counted n sum (map g xs) all → record { circuits = n; closures = sum } ≡ whole_finding all
counted_all g xs n sum all none fits h =
    let count : n ≡ closed_count all = omega (arith, h.circuits, ap (λ l. closed_count (map g l)) none) in
    let total : sum ≡ min (closure_sum all) (2 ^ 64 - 1) = omega (arith, h.closures, ap (λ l. closure_sum (map g l)) none) in
    λ i. record { circuits = count i; closures = total i }
