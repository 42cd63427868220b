use Rattle.std.proofs.Common.{◌≡◌, ap, ◌∙◌, rules}
use Rattle.std.specs.Prelude.{count_by}
use Rattle.std.specs.Map.{values_of}
use Rattle.expiring_map.specs.Kept.{value_kept}
use Rattle.expiring_map.specs.Live.{is_live, count_at}
use Rattle.expiring_map.proofs.Moments.{count-seen}
use Rattle.expiring_map.proofs.map.ExpiringMap.count_at.Goals as goal

pub returns : goal.returns
returns c =
    let counted : c.count.result ≡ count_by (λ kept. is_live c.args.now (value_kept kept)) (values_of c.self.inside.kept.entries) = search rules in
    counted ∙ count-seen c.args.now c.self.inside.kept.entries c.self.invariant.ordered ∙ ap (λ m. count_at m c.args.now) c.self.view_is
