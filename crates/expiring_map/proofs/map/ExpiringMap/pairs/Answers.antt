use Rattle.std.proofs.Common.{◌≡◌, ap, sym, ◌∙◌, arith}
use Rattle.std.specs.Prelude.{map}
use Rattle.std.proofs.lemmas.Grind.{common_steps}
use Rattle.expiring_map.specs.Map.{pairs_of}
use Rattle.expiring_map.specs.Kept.{pair_kept}
use Rattle.expiring_map.proofs.Seen.{pairs-seen}
use Rattle.expiring_map.proofs.map.ExpiringMap.pairs.Goals as goal

pub returns-clause-ok : goal.returns-clause-ok
returns-clause-ok c =
    let whole : c.loop-key.pairs.items ≡ map pair_kept c.self.inside.kept.entries = grind (arith, common_steps) in
    c.of_vec.ensures ∙ whole ∙ sym (pairs-seen c.self.inside.kept.entries c.self.invariant.ordered) ∙ ap pairs_of c.self.view_is
