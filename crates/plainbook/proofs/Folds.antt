-- Sums over a list in any order, for an operation that is associative and commutative. Assumes nothing.
use Rattle.std.proofs.Common.{◌≡◌, List, [], ◌∷◌, ◌++◌, map, reverse, sym, refl, ap, ◌∙◌, ap₂}
use Rattle.std.proofs.lemmas.List.{reverse-append}

pub record Monoid (M : Type 0) : Type 0 where
  pub op : M → M → M
  pub unit : M
  pub assoc : (x y z : M) → op (op x y) z ≡ op x (op y z)
  pub comm : (x y : M) → op x y ≡ op y x
  pub left : (x : M) → op unit x ≡ x

module _ {X M : Type 0} (m : Monoid M) (f : X → M) where
  abbrev pub fold : List X → M
  fold [] = m.unit
  fold (x ∷ xs) = m.op (f x) (fold xs)

  pub fold_append : (xs ys : List X) → fold (xs ++ ys) ≡ m.op (fold xs) (fold ys)
  fold_append [] ys = sym (m.left (fold ys))
  fold_append (x ∷ xs) ys = ap (m.op (f x)) (fold_append xs ys) ∙ sym (m.assoc (f x) (fold xs) (fold ys))

  pub fold_swap : (xs ys : List X) → fold (xs ++ ys) ≡ fold (ys ++ xs)
  fold_swap xs ys = fold_append xs ys ∙ m.comm (fold xs) (fold ys) ∙ sym (fold_append ys xs)

  pub fold_reverse : (xs : List X) → fold (reverse xs) ≡ fold xs
  fold_reverse [] = refl
  fold_reverse (x ∷ xs) =
      ap fold (reverse-append (x ∷ []) xs)
      ∙ fold_append (reverse xs) (x ∷ [])
      ∙ ap₂ m.op (fold_reverse xs) (m.comm (f x) m.unit ∙ m.left (f x))
      ∙ m.comm (fold xs) (f x)

pub fold_map : {X Y M : Type 0} (m : Monoid M) (f : Y → M) (g : X → Y) (xs : List X) → fold m f (map g xs) ≡ fold m (λ x. f (g x)) xs
fold_map m f g [] = refl
fold_map m f g (x ∷ xs) = ap (m.op (f (g x))) (fold_map m f g xs)
