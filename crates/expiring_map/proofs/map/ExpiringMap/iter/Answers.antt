use Rattle.std.proofs.Common.{ap, sym, ◌∙◌}
use Rattle.std.specs.Prelude.{map}
use Rattle.expiring_map.specs.Map.{pairs_of}
use Rattle.expiring_map.specs.Kept.{pair_kept}
use Rattle.expiring_map.proofs.Seen.{pairs-seen}
use Rattle.expiring_map.proofs.map.ExpiringMap.iter.Goals as goal

pub returns-clause-rest : goal.returns-clause-rest
returns-clause-rest c = ap (map pair_kept) c.iter.ensures.rest ∙ sym (pairs-seen c.self.inside.kept.entries c.iter.ensures.ordered) ∙ ap pairs_of c.self.view_is
