-- The finding of a leg: what its record shows under a quantity.
use Rattle.records.specs.Legs.{LegRecord, running}
use Rattle.quantities.specs.Terms.{Terms}
use Rattle.standards.specs.declared.finding.LegFinding.{LegFinding}

abbrev pub leg_finding : {Element : Type 0} → Terms Element → LegRecord → LegFinding
leg_finding quantity leg =
    record {
      length = leg.length;
      running = running leg.back;
      misclosure = quantity.size (quantity.misclosure leg.value leg.back);
      readings = leg.readings;
    }
