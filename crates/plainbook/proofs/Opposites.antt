-- What follows from a quantity's laws alone. Assumes nothing.
use Rattle.std.proofs.Common.{◌≡◌, List, [], ◌∷◌, map, sym, refl, ap, ◌∙◌, ap₂}
use Rattle.quantities.specs.Sums.{total}
use Rattle.quantities.specs.Terms.{Terms}
use Rattle.plainbook.proofs.Folds.{Monoid, fold}

module _ {Element : Type 0} (q : Terms Element) where
  pub zero_plus : (x : Element) → q.plus q.zero x ≡ x
  zero_plus x = q.plus_comm q.zero x ∙ q.plus_zero x

  pub sums : Monoid Element
  sums = record { op = q.plus; unit = q.zero; assoc = q.plus_assoc; comm = q.plus_comm; left = zero_plus }

  -- what sums with x to zero is its opposite
  pub opposite_is : (x y : Element) → q.plus x y ≡ q.zero → y ≡ q.opposite x
  opposite_is x y e =
      sym (zero_plus y)
      ∙ ap (λ z. q.plus z y) (sym (q.plus_comm (q.opposite x) x ∙ q.plus_opposite x))
      ∙ q.plus_assoc (q.opposite x) x y
      ∙ ap (q.plus (q.opposite x)) e
      ∙ q.plus_zero (q.opposite x)

  pub opposite_twice : (x : Element) → q.opposite (q.opposite x) ≡ x
  opposite_twice x = sym (opposite_is (q.opposite x) x (q.plus_comm (q.opposite x) x ∙ q.plus_opposite x))

  pub opposite_zero : q.opposite q.zero ≡ q.zero
  opposite_zero = sym (opposite_is q.zero q.zero (q.plus_zero q.zero))

  pub opposite_plus : (x y : Element) → q.opposite (q.plus x y) ≡ q.plus (q.opposite x) (q.opposite y)
  opposite_plus x y =
      sym (opposite_is (q.plus x y) (q.plus (q.opposite x) (q.opposite y))
      (q.plus_assoc x y (q.plus (q.opposite x) (q.opposite y))
      ∙ ap (q.plus x) (ap (q.plus y) (q.plus_comm (q.opposite x) (q.opposite y)) ∙ sym (q.plus_assoc y (q.opposite y) (q.opposite x)) ∙ ap (λ z. q.plus z (q.opposite x)) (q.plus_opposite y) ∙ zero_plus (q.opposite x))
      ∙ q.plus_opposite x))

  -- a total is a fold
  pub total_fold : {X : Type 0} (f : X → Element) (xs : List X) → total q (map f xs) ≡ fold sums f xs
  unfolding sums
  total_fold f [] = refl
  total_fold f (x ∷ xs) = ap (q.plus (f x)) (total_fold f xs)

  -- opposites sum to the opposite
  pub total_opposite : {X : Type 0} (f g : X → Element) → ((x : X) → g x ≡ q.opposite (f x)) → (xs : List X) → total q (map g xs) ≡ q.opposite (total q (map f xs))
  total_opposite f g e [] = sym opposite_zero
  total_opposite f g e (x ∷ xs) = ap₂ q.plus (e x) (total_opposite f g e xs) ∙ sym (opposite_plus (f x) (total q (map f xs)))
