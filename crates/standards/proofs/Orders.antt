-- To be no worse is a preorder, whatever the kind of finding and whichever way its readings are better.
use Rattle.std.proofs.Common.{ℕ, ◌≤◌, List, [], ◌∷◌, refl, ◌∙◌, le_trans, le_refl}
use Rattle.std.specs.List.{AllZip}
use Rattle.standards.specs.declared.finding.Directions.{Directions}
use Rattle.standards.specs.declared.finding.Direction.{Direction}
use Rattle.standards.specs.declared.finding.Direction.TheVariants.{More, Less, Equal}
use Rattle.standards.specs.NoWorse.{Kind, NoWorseReading, Preorder}

sizes_same : (xs : List ℕ) → AllZip ◌≤◌ xs xs
sizes_same [] = tt
sizes_same (x ∷ xs) = (le_refl x, sizes_same xs)

sizes_through : (xs ys zs : List ℕ) → AllZip ◌≤◌ xs ys → AllZip ◌≤◌ ys zs → AllZip ◌≤◌ xs zs
sizes_through [] [] [] p q = tt
sizes_through [] [] (z ∷ zs) p q = q
sizes_through [] (y ∷ ys) zs p q = absurd p
sizes_through (x ∷ xs) [] zs p q = absurd p
sizes_through (x ∷ xs) (y ∷ ys) [] p q = q
sizes_through (x ∷ xs) (y ∷ ys) (z ∷ zs) (p, ps) (q, qs) = (le_trans p q, sizes_through xs ys zs ps qs)

reading_same : (d : Direction) (x : ℕ) → NoWorseReading d x x
reading_same More x = le_refl x
reading_same Less x = le_refl x
reading_same Equal x = refl

reading_through : (d : Direction) (x y z : ℕ) → NoWorseReading d x y → NoWorseReading d y z → NoWorseReading d x z
reading_through More x y z p q = le_trans q p
reading_through Less x y z p q = le_trans p q
reading_through Equal x y z p q = p ∙ q

pub preorder : {Finding : Type 0} (kind : Kind Finding) (better : Directions) → Preorder kind better
preorder kind better =
    record {
      same =
          λ f.
          record {
            sizes = sizes_same (kind.sizes f);
            a = reading_same better.a _;
            b = reading_same better.b _;
            c = reading_same better.c _;
            others = refl;
          };
      through =
          λ f g h p q.
          record {
            sizes = sizes_through (kind.sizes f) (kind.sizes g) (kind.sizes h) p.sizes q.sizes;
            a = reading_through better.a _ _ _ p.a q.a;
            b = reading_through better.b _ _ _ p.b q.b;
            c = reading_through better.c _ _ _ p.c q.c;
            others = p.others ∙ q.others;
          };
    }
