use Rattle.opener.proofs.Planning.{can_clear}
use Rattle.opener.proofs.plan.plan_clear.Goals as goal

pub start_rewrite-requires : goal.start_rewrite-requires
start_rewrite-requires c = can_clear c.args.standing.now c.new-map.result c.args.who c.new-map.ensures c.requires
