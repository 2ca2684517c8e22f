use Rattle.std.proofs.Common.{rules}
use Rattle.records.proofs.LegLaws.{legs_read_back}
use Rattle.records.proofs.leg.Leg.encode.Goals as goal

pub returns-in-None : goal.returns-in-None
returns-in-None c = record { words = search rules; law = legs_read_back }

pub returns-in-Some : goal.returns-in-Some
returns-in-Some c = record { words = search rules; law = legs_read_back }
