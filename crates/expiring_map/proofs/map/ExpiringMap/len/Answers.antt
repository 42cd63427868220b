use Rattle.std.proofs.Common.{ap, sym, ◌∙◌}
use Rattle.std.specs.FinMap as fin
use Rattle.expiring_map.proofs.MapLemmas.{length-pairs_of}
use Rattle.expiring_map.proofs.Seen.{len-seen}
use Rattle.expiring_map.proofs.map.ExpiringMap.len.Goals as goal

pub returns-clause-count : goal.returns-clause-count
returns-clause-count c = c.len.ensures.len ∙ sym (len-seen c.self.inside.kept.entries c.len.ensures.ordered) ∙ ap fin.len c.self.view_is

pub returns-clause-pairs : goal.returns-clause-pairs
returns-clause-pairs c = returns-clause-count c ∙ sym (length-pairs_of c.args.self.now)
