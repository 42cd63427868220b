use Rattle.std.proofs.Common.{ap, sym, subst}
use Rattle.expiring_map.specs.Map.{IsFilled}
use Rattle.expiring_map.specs.Kept.{map_kept}
use Rattle.expiring_map.proofs.Filled.{IsFilled-empty}
use Rattle.expiring_map.proofs.map.ExpiringMap.new.Goals as goal

pub invariant_of-result : goal.invariant_of-result
invariant_of-result c = record {
  ordered = c.new.ensures.ordered;
  filled = subst IsFilled (sym (ap map_kept c.new.ensures.empty)) IsFilled-empty;
}
