-- What a standard refuses, and where: a leg's length, which is tried first, or its readings, and a circuit's form.
use Rattle.std.specs.Prelude.{◌≡◌, ℕ, Bool, true, cond, List, [], ◌∷◌, Some, None, Option}
use Rattle.records.specs.declared.refusal.Reason.TheVariants.{Observation, Form as FormRefused}
use Rattle.records.specs.declared.refusal.Refusal.{Refusal}
use Rattle.records.specs.Legs.{LegRecord}
use Rattle.records.specs.Refusals.{refusal}
use Rattle.standards.specs.declared.finding.Form.{Form}
use Rattle.standards.specs.Rules.{Rules}

-- the index of the word that is refused; a form is found at the first word of its circuit
abbrev pub length_place : ℕ
length_place = 2

abbrev pub readings_place : ℕ
readings_place = 3

abbrev pub form_place : ℕ
form_place = 0

-- a place to refuse, where a test fails
abbrev pub refused_at : ℕ → Bool → Option ℕ
refused_at place accepted = cond accepted None (Some place)

abbrev pub observation_refusals : Rules → LegRecord → List (Option Refusal)
observation_refusals rules leg =
    refusal Observation (refused_at length_place (rules.accepts_length leg.length))
    ∷ refusal Observation (refused_at readings_place (rules.accepts_readings leg.readings))
    ∷ []

abbrev pub form_refusals : Rules → Form → List (Option Refusal)
form_refusals rules form = refusal FormRefused (refused_at form_place (rules.accepts_form form)) ∷ []

-- a leg whose length and readings the standard accepts
abbrev pub Observed : Rules → LegRecord → Type 0
Observed rules leg = (rules.accepts_length leg.length ≡ true) × (rules.accepts_readings leg.readings ≡ true)
