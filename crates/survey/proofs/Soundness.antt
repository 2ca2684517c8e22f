-- What stands in a book, as a sound survey. Assumes nothing.
use Rattle.std.proofs.Common.{◌≡◌, ℕ, not, T, eqb, [], is_some, Some, None, Option, sym, refl, ap, ◌∙◌, subst, arith}
use Rattle.std.specs.BTreeMap.{BTreeMap}
use Rattle.std.specs.BTreeMap.{Updates, IsUnchanged}
use Rattle.std.specs.Map.{update}
use Rattle.std.specs.Ordering.{nat_cmp}
use Rattle.std.specs.Option.{option_map}
use Rattle.std.proofs.lemmas.Bool.{not-true}
use Rattle.records.specs.declared.circuit.Circuit.{Circuit}
use Rattle.records.specs.declared.leg.Leg.{Leg}
use Rattle.records.specs.declared.refusal.Refusal.{Refusal}
use Rattle.records.specs.Circuits.{CircuitRecord, circuit_record}
use Rattle.records.specs.Legs.{LegRecord, leg_record}
use Rattle.records.specs.Refusals.{first}
use Rattle.plainbook.specs.Refusals.{chain_refusals}
use Rattle.plainbook.specs.Surveys.{Survey}
use Rattle.plainbook.proofs.Invariant.{Sound}
use Rattle.survey.specs.declared.book.Book.{Book}
use Rattle.survey.specs.Books.{surveyed}
use Rattle.survey.specs.Numbered.{Numbered, table, every}
use Rattle.survey.specs.Standing.{standing_legs, standing_circuits, chains_over}
use Rattle.survey.proofs.Tables.{ordered, in_range, every_at, every_from, mapped_isSome, mapped_update, none_from_isSome, passes, passed, table_sets, table_unchanged}

pub mapped_some : {X Y : Type 0} (f : X → Y) (o : Option X) (y : Y) → option_map f o ≡ Some y → (x : X) × (o ≡ Some x) × (f x ≡ y)
mapped_some f None y e = let z : ◌≡◌ {A = ℕ} 0 1 = cc in absurd (omega arith)
mapped_some f (Some x) y e = (x, refl, cc)

module _ {Q S : Type 0} (b : Book Q S) where
  pub sound : Sound (surveyed b)
  sound =
      record {
        leg_range = λ n e. in_range 128 b.legs b.legs_numbered n (sym (mapped_isSome leg_record (table b.legs n)) ∙ e);
        circuit_range = λ n e. in_range 32 b.circuits b.circuits_numbered n (sym (mapped_isSome circuit_record (table b.circuits n)) ∙ e);
        chains =
            λ n c e.
            let there = mapped_some circuit_record (table b.circuits n) c e in
            let chain = none_from_isSome _ (not-true _ (passed _ (every_at (chains_over b.legs) b.circuits b.chained n there.0 there.1))) in
            subst (λ x. first (chain_refusals (standing_legs b.legs) [] None 2 x.legs) ≡ None) there.2 chain;
      }

module _ where
  -- the circuits of a sound survey chain
  pub chained : (legs : BTreeMap ℕ Leg) (circuits : BTreeMap ℕ Circuit) (p : Survey) → Numbered 32 circuits → Sound p → standing_legs legs ≡ p.legs → standing_circuits circuits ≡ p.circuits → T (every (chains_over legs) circuits)
  chained legs circuits p o sound same_legs same_circuits =
      every_from (chains_over legs) circuits (ordered 32 circuits o)
      (λ n c is.
      let stands : p.circuits n ≡ Some (circuit_record c) = sym (ap (λ (f : ℕ → Option CircuitRecord). f n) same_circuits) ∙ ap (option_map circuit_record) is in
      let chain = sound.chains n (circuit_record c) stands in
      let here : first (chain_refusals (standing_legs legs) [] None 2 (circuit_record c).legs) ≡ None = ap (λ (f : ℕ → Option LegRecord). first (chain_refusals f [] None 2 (circuit_record c).legs)) same_legs ∙ chain in
      passes _ (ap (λ (o : Option Refusal). not (is_some o)) here))

-- a map after a change, read by f
module _ {X Y : Type 0} (f : X → Y) where
  pub read_sets : (m n : BTreeMap ℕ X) (k : ℕ) (w : Option X) → Updates nat_cmp m n k w →
      ◌≡◌ {A = ℕ → Option Y} (λ q. option_map f (table n q)) (update eqb (λ q. option_map f (table m q)) k (option_map f w))
  read_sets m n k w s = λ i q. (ap (λ (g : ℕ → Option X). option_map f (g q)) (table_sets m n k w s) ∙ mapped_update f (table m) k w q) i

  pub read_unchanged : (m n : BTreeMap ℕ X) → IsUnchanged m n → ◌≡◌ {A = ℕ → Option Y} (λ q. option_map f (table n q)) (λ q. option_map f (table m q))
  read_unchanged m n u = λ i q. option_map f (table_unchanged m n u i q)
