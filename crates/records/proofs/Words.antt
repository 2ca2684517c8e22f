-- Words, payloads and their fields. Assumes nothing.
use Rattle.std.proofs.Common.{◌≡◌, ℕ, ◌+◌, ◌*◌, ◌^◌, ◌<◌, arith}
use Rattle.records.specs.declared.word.Kind.{Kind}
use Rattle.records.specs.Words.{kind, kind_number, payload, word, bits}

module _ (k : Kind) (p : ℕ) (h : p < 2 ^ 28) where
  pub kind_word : kind (word k p) ≡ kind_number k
  kind_word = omega arith

  pub payload_word : payload (word k p) ≡ p
  payload_word = omega arith

pub word_is : (k : Kind) (w : ℕ) → kind w ≡ kind_number k → w ≡ word k (payload w)
word_is k w e = omega arith

pub payload_fits : (w : ℕ) → payload w < 2 ^ 28
payload_fits w = omega arith

-- three fields of 8, 10 and 10 bits
abbrev pub packed : ℕ → ℕ → ℕ → ℕ
packed high middle low = high * 2 ^ 20 + middle * 2 ^ 10 + low

module _ (high middle low : ℕ) (h : high < 2 ^ 8) (m : middle < 2 ^ 10) (l : low < 2 ^ 10) where
  pub packed_fits : packed high middle low < 2 ^ 28
  packed_fits = omega arith

  pub high_packed : bits 20 8 (packed high middle low) ≡ high
  high_packed = omega arith

  pub middle_packed : bits 10 10 (packed high middle low) ≡ middle
  middle_packed = omega arith

  pub low_packed : bits 0 10 (packed high middle low) ≡ low
  low_packed = omega arith

pub packed_is : (p : ℕ) → p < 2 ^ 28 → p ≡ packed (bits 20 8 p) (bits 10 10 p) (bits 0 10 p)
packed_is p h = omega arith

pub high_fits : (p : ℕ) → bits 20 8 p < 2 ^ 8
high_fits p = omega arith

pub ten_fits : (low p : ℕ) → bits low 10 p < 2 ^ 10
ten_fits low p = omega arith
