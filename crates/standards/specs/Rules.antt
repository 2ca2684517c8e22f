-- What a standard says: what it accepts, its rules for each kind of finding, and the law that they keep.
use Rattle.std.specs.Prelude.{◌≡◌, ℕ, ◌≤◌, Bool, true}
use Rattle.records.specs.declared.leg.Length.{Length}
use Rattle.records.specs.declared.leg.Readings.{Readings}
use Rattle.standards.specs.declared.class.Class.{Class}
use Rattle.standards.specs.declared.finding.Directions.{Directions}
use Rattle.standards.specs.declared.finding.Form.{Form}
use Rattle.standards.specs.NoWorse.{Kind, NoWorse, leg_kind, circuit_kind, whole_kind}

-- The rules for one kind of finding, counted from 0, and the classes that a finding meets under each. Under each rule a
-- finding that is no worse meets every class that the other meets. Nothing says that a lower class is easier.
pub record Table {Finding : Type 0} (kind : Kind Finding) (better : Directions) : Type 0 where
  pub count : ℕ
  pub few : count ≤ 255
  pub meets : ℕ → Finding → Class → Bool
  pub law : (rule : ℕ) (f g : Finding) → NoWorse kind better f g → (k : Class) → meets rule g k ≡ true → meets rule f k ≡ true

pub record Rules : Type 0 where
  pub directions : Directions
  pub accepts_length : Length → Bool
  pub accepts_readings : Readings → Bool
  pub accepts_form : Form → Bool
  pub legs : Table leg_kind directions
  pub circuits : Table circuit_kind directions
  pub whole : Table whole_kind directions
