use Rattle.std.proofs.Common.{refl}
use Rattle.std.specs.Prelude.{Decides}
use Rattle.change_log.specs.History.{Legal}
use Rattle.std.proofs.lemmas.Result.{IfOk-weaker}
use Rattle.change_log.proofs.check.check_legal.Goals as goal

pub returns : goal.returns
returns c =
    IfOk-weaker c.are_placed.result _ (λ legal. Decides legal (Legal c.args.base.now c.args.changes.now c.args.answers.now)) (λ placed h. (
      λ yes. record {
        in_order = c.if-not-are_in_order.ensures.0 refl;
        placed = h.0 yes;
        made = c.if-not-are_made.ensures.0 refl;
        owned = c.if-not-are_owned.ensures.0 refl;
        followed = c.if-not-are_followed.ensures.0 refl;
      },
      λ legal. h.1 legal.placed,
    )) c.are_placed.ensures
