-- Everything that stands was accepted: by the ranges of a record, by the quantity, by the standard and by the book.
use Rattle.std.specs.Prelude.{◌≡◌, ℕ, true, false, List, [], ◌∷◌, is_some, Some, None, Option}
use Rattle.records.specs.Circuits.{CircuitRecord, UseRecord, circuit_fits}
use Rattle.records.specs.Legs.{LegRecord, leg_fits}
use Rattle.quantities.specs.Terms.{Terms}
use Rattle.standards.specs.Rules.{Rules}
use Rattle.plainbook.specs.Findings.{form}
use Rattle.plainbook.specs.Surveys.{Survey, Run, runs, begins, ends, names}

-- every leg that is named stands
abbrev pub AllStand : (legs : ℕ → Option LegRecord) → List UseRecord → Type 0
AllStand legs [] = Unit {0}
AllStand legs (u ∷ us) = (is_some (legs u.leg) ≡ true) × AllStand legs us

-- no leg is named twice
abbrev pub NoneTwice : List UseRecord → Type 0
NoneTwice [] = Unit {0}
NoneTwice (u ∷ us) = (names u.leg us ≡ false) × NoneTwice us

-- the first leg begins at the node, where one is given, and each other leg where the one before it ended
abbrev pub Follows : (node : Option ℕ) → List Run → Type 0
Follows at [] = Unit {0}
Follows None (r ∷ rs) = Follows (Some (ends r.sense r.leg)) rs
Follows (Some n) (r ∷ rs) = (n ≡ begins r.sense r.leg) × Follows (Some (ends r.sense r.leg)) rs

-- each leg begins where the one before it ended
abbrev pub Linked : List Run → Type 0
Linked rs = Follows None rs

module _ {Element : Type 0} (q : Terms Element) (s : Rules) where
  -- the leg at a number has that number and fits a record, and the quantity and the standard accept what it says
  pub record LegAccepted (n : ℕ) (l : LegRecord) : Type 0 where
    pub number : l.number ≡ n
    pub fits : leg_fits l ≡ true
    pub value : q.accepts_value l.value ≡ true
    pub back : q.accepts_back l.back ≡ true
    pub length : s.accepts_length l.length ≡ true
    pub readings : s.accepts_readings l.readings ≡ true

  -- the circuit at a number has that number and fits a record, its legs stand, once each, and link, and its due sum and its form are accepted
  pub record CircuitAccepted (legs : ℕ → Option LegRecord) (n : ℕ) (c : CircuitRecord) : Type 0 where
    pub number : c.number ≡ n
    pub fits : circuit_fits c ≡ true
    pub due : q.accepts_due c.due ≡ true
    pub stand : AllStand legs c.legs
    pub once : NoneTwice c.legs
    pub linked : Linked (runs legs c.legs)
    pub form : s.accepts_form (form (runs legs c.legs)) ≡ true

  -- so of every leg and every circuit that stands
  pub record Accepted (p : Survey) : Type 0 where
    pub legs : (n : ℕ) (l : LegRecord) → p.legs n ≡ Some l → LegAccepted n l
    pub circuits : (n : ℕ) (c : CircuitRecord) → p.circuits n ≡ Some c → CircuitAccepted p.legs n c
