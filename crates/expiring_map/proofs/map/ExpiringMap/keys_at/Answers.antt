use Rattle.std.proofs.Common.{◌≡◌, ap, sym, ◌∙◌, arith}
use Rattle.std.proofs.lemmas.Grind.{common_steps}
use Rattle.expiring_map.specs.Live.{keys_at}
use Rattle.expiring_map.proofs.Moments.{live_keys, keys-seen}
use Rattle.expiring_map.proofs.map.ExpiringMap.keys_at.Goals as goal

pub returns : goal.returns
returns c =
    let whole : c.loop-key.keys.items ≡ live_keys c.args.now c.self.inside.kept.entries = grind (arith, common_steps) in
    c.of_vec.ensures ∙ whole ∙ sym (keys-seen c.args.now c.self.inside.kept.entries c.self.invariant.ordered) ∙ ap (λ m. keys_at m c.args.now) c.self.view_is
