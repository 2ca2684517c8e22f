-- A leg as it is run, as the plain book has it.
use Rattle.records.specs.Legs.{leg_record}
use Rattle.plainbook.specs.Surveys as plain
use Rattle.survey.specs.declared.run.Run.{Run}

abbrev pub run_record : Run → plain.Run
run_record r = record { leg = leg_record r.leg.now; sense = r.sense }
