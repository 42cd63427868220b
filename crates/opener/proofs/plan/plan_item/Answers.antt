use Rattle.std.proofs.Common.{ℕ, inr}
use Rattle.std.specs.Prelude.{Result, Ok, Err, IfOk}
use Rattle.change_log.specs.declared.change.Change.{Change}
use Rattle.loader.specs.declared.loaded.Image.{Image}
use Rattle.opener.specs.Plans.{IsItemPlan, IsRoomPlan}
use Rattle.opener.specs.declared.calls.Stop.{Stop}
use Rattle.opener.specs.declared.plan.Plan.{Plan}
use Rattle.opener.proofs.plan.plan_item.Goals as goal

planned : (change : Change) (now : ℕ) (i : Image) (r : Result Plan Stop) → IfOk r (λ plan. IsRoomPlan change now i plan) → IfOk r (λ plan. IsItemPlan change now i plan)
planned change now i (Ok plan) h = inr h
planned change now i (Err stop) h = h

pub returns-clause-ok : goal.returns-clause-ok
returns-clause-ok c = planned c.args.change c.args.now c.args.image c.plan_room.result c.plan_room.ensures.ok
