-- The way along a circuit's legs, one leg after another.
use Rattle.std.specs.Prelude.{ℕ, ◌+◌, min, Bool, false, Some, None, Option, ◌==◌}
use Rattle.std.specs.Option.{option_map}
use Rattle.standards.specs.declared.finding.Form.{Form}
use Rattle.plainbook.specs.Surveys.{Run, begins, ends}
use Rattle.survey.specs.declared.path.Path.{Path}

-- where the way began, if it begins at a node where it has not begun
abbrev pub begun : Option (ℕ × ℕ) → ℕ → ℕ
begun None node = node
begun (Some nodes) node = nodes.0

-- where the way has come to
abbrev pub come_to : Path → Option ℕ
come_to p = option_map (λ nodes. nodes.1) p.nodes

-- the way with one leg more; the count of legs stops at 255
abbrev pub followed : Path → Run → Path
followed p r = record { nodes = Some (begun p.nodes (begins r.sense r.leg), ends r.sense r.leg); legs = min (p.legs + 1) 255 }

abbrev pub back_again : Option (ℕ × ℕ) → Bool
back_again None = false
back_again (Some nodes) = nodes.0 == nodes.1

abbrev pub path_form : Path → Form
path_form p = record { closed = back_again p.nodes; legs = p.legs }
