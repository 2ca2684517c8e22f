-- The classes that a set holds.
use Rattle.std.specs.Prelude.{◌≡◌, ℕ, ◌-◌, ◌/◌, ◌%◌, ◌^◌, Bool, ◌==◌}
use Rattle.standards.specs.declared.class.Class.{Class}
use Rattle.standards.specs.declared.class_set.ClassSet.{ClassSet}
use Rattle.standards.specs.Classes.{class_number}

-- the bit of a class, class 1 lowest
abbrev pub bit : ℕ → Class → Bool
bit bits k = bits / 2 ^ (class_number k - 1) % 2 == 1

abbrev pub holds : ClassSet → Class → Bool
holds s k = bit s.bits k

-- sets with the same members are equal
abbrev pub SetsByMembers : Type 0
SetsByMembers = (s t : ClassSet) → ((k : Class) → holds s k ≡ holds t k) → s ≡ t
