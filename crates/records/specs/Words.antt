-- A word has 32 bits: the top four are its kind, the other 28 its payload.
use Rattle.std.specs.Prelude.{ℕ, suc, ◌+◌, ◌-◌, ◌*◌, ◌/◌, ◌%◌, ◌^◌, cond, ℤ, pos, negsuc, nat_lt}
use Rattle.records.specs.declared.word.Kind.{Kind}
use Rattle.records.specs.declared.word.Kind.TheVariants as kinds

abbrev pub kind_number : Kind → ℕ
kind_number kinds.Leg = 1
kind_number kinds.Value = 2
kind_number kinds.Length = 3
kind_number kinds.Readings = 4
kind_number kinds.Back = 5
kind_number kinds.Circuit = 6
kind_number kinds.Due = 7
kind_number kinds.Use = 8

abbrev pub kind : ℕ → ℕ
kind w = w / 2 ^ 28

abbrev pub payload : ℕ → ℕ
payload w = w % 2 ^ 28

-- the word of a kind that holds a payload
abbrev pub word : Kind → ℕ → ℕ
word k p = kind_number k * 2 ^ 28 + p

-- `width` bits of a payload, from the bit `low` up
abbrev pub bits : (low width : ℕ) → ℕ → ℕ
bits low width p = p / 2 ^ low % 2 ^ width

-- a payload read as two's complement on 28 bits
abbrev pub signed : ℕ → ℤ
signed p = cond (nat_lt p (2 ^ 27)) (pos p) (negsuc (2 ^ 28 - suc p))
