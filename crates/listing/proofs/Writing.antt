-- Words put in their place one after another, as far as there are words. Assumes nothing.
use Rattle.std.proofs.Common.{◌≡◌, ℕ, zero, suc, ◌+◌, ◌<◌, ◌≤◌, List, [], ◌∷◌, ◌++◌, length, set, sym, refl, ap, ◌∙◌, add-one, arith}
use Rattle.plainbook.specs.Steps.{written}
use Rattle.listing.specs.Writing.{put}

pub put_none : (at : ℕ) (ws : List ℕ) → put at [] ws ≡ ws
put_none at [] = refl
put_none zero (w ∷ ws) = refl
put_none (suc at) (w ∷ ws) = ap (λ xs. w ∷ xs) (put_none at ws)

put_beyond : (at : ℕ) (new ws : List ℕ) → length ws ≤ at → put at new ws ≡ ws
put_beyond at new [] h = refl
put_beyond zero new (w ∷ ws) h = absurd (omega arith)
put_beyond (suc at) new (w ∷ ws) h = ap (λ xs. w ∷ xs) (put_beyond at new ws (omega arith))

-- the first of the words to be put, written
pub put_one : (at w : ℕ) (rest ws : List ℕ) → at < length ws → put (at + 1) rest (set ws at w) ≡ put at (w ∷ rest) ws
put_one at w rest ws h = ap (λ n. put n rest (set ws at w)) (add-one at) ∙ go at ws h
  where
    go : (at : ℕ) (ws : List ℕ) → at < length ws → put (suc at) rest (set ws at w) ≡ put at (w ∷ rest) ws
    go at [] h = absurd (omega arith)
    go zero (v ∷ ws) h = refl
    go (suc at) (v ∷ ws) h = ap (λ xs. v ∷ xs) (go at ws (omega arith))

-- or passed over, where there is no word for it
pub put_past : (at w : ℕ) (rest ws : List ℕ) → length ws ≤ at → put (at + 1) rest ws ≡ put at (w ∷ rest) ws
put_past at w rest ws h = let far : length ws ≤ at + 1 = omega arith in put_beyond (at + 1) rest ws far ∙ sym (put_beyond at (w ∷ rest) ws h)

-- words put after words that were put
pub put_put : (at : ℕ) (new more ws : List ℕ) → put (at + length new) more (put at new ws) ≡ put at (new ++ more) ws
put_put at new more [] = refl
put_put zero [] more (w ∷ ws) = refl
put_put zero (x ∷ new) more (w ∷ ws) =
    let one_more : zero + length (x ∷ new) ≡ suc (zero + length new) = omega arith in
    ap (λ n. put n more (x ∷ put zero new ws)) one_more ∙ ap (λ xs. x ∷ xs) (put_put zero new more ws)
put_put (suc at) new more (w ∷ ws) =
    let one_more : suc at + length new ≡ suc (at + length new) = omega arith in
    ap (λ n. put n more (w ∷ put at new ws)) one_more ∙ ap (λ xs. w ∷ xs) (put_put at new more ws)

-- where there are words for all, those beyond keep what they held
pub put_first : (new ws : List ℕ) → length new ≤ length ws → put 0 new ws ≡ written new ws
put_first [] [] h = refl
put_first [] (w ∷ ws) h = refl
put_first (x ∷ new) [] h = absurd (omega arith)
put_first (x ∷ new) (w ∷ ws) h = ap (λ xs. x ∷ xs) (put_first new ws (omega arith))
