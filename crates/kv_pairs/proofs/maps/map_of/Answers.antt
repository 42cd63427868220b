use Rattle.std.proofs.Common.{ap, ◌∙◌}
use Rattle.kv_pairs.specs.Mapped.{with_items}
use Rattle.kv_pairs.proofs.Turns.{the_map}
use Rattle.kv_pairs.proofs.maps.map_of.Goals as goal

pub returns-clause-ok : goal.returns-clause-ok
returns-clause-ok c =
    the_map c.args.flag c.args.items _ (c.in_ok-extend.ensures.ok ∙ ap (λ m. with_items c.args.flag m c.args.items) c.new-map.ensures) c.in_ok-extend.ensures.all
