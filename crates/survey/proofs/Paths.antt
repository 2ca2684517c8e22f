-- The way along a circuit's legs: what it has run and what is left decide the form. Assumes nothing.
use Rattle.std.proofs.Common.{◌≡◌, ℕ, ◌+◌, ◌<◌, min, Bool, eqb, List, [], ◌∷◌, length, Some, None, Option, refl, arith}
use Rattle.standards.specs.declared.finding.Form.{Form}
use Rattle.plainbook.specs.Findings.{form}
use Rattle.plainbook.specs.Surveys.{Run, closed, last_node, begins, ends}
use Rattle.survey.specs.declared.path.Path.{Path}
use Rattle.survey.specs.Paths.{begun, followed, back_again, path_form}

abbrev closes : Option (ℕ × ℕ) → List Run → Bool
closes None rs = closed rs
closes (Some nodes) rs = eqb nodes.0 (last_node nodes.1 rs)

abbrev pub form_after : Path → List Run → Form
form_after p rs = record { closed = closes p.nodes rs; legs = p.legs + length rs }

pub form_start : (rs : List Run) → form_after (record { nodes = None; legs = 0 }) rs ≡ form rs
form_start rs = let e : 0 + length rs ≡ length rs = omega arith in λ i. record { closed = closed rs; legs = e i }

pub form_more : (p : Path) (r : Run) (rs : List Run) → p.legs < 255 → form_after (followed p r) rs ≡ form_after p (r ∷ rs)
form_more p r rs few =
    let legs : min (p.legs + 1) 255 + length rs ≡ p.legs + length (r ∷ rs) = omega arith in
    λ i. record { closed = shut p.nodes i; legs = legs i }
  where
    shut : (o : Option (ℕ × ℕ)) → closes (Some (begun o (begins r.sense r.leg), ends r.sense r.leg)) rs ≡ closes o (r ∷ rs)
    shut None = refl
    shut (Some nodes) = refl

pub form_end : (p : Path) → path_form p ≡ form_after p []
form_end p = let legs : p.legs ≡ p.legs + 0 = omega arith in λ i. record { closed = shut p.nodes i; legs = legs i }
  where
    shut : (o : Option (ℕ × ℕ)) → back_again o ≡ closes o []
    shut None = refl
    shut (Some nodes) = refl
