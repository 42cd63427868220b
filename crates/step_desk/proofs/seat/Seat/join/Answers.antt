use Rattle.std.proofs.Common.{sym, subst}
use Rattle.step_desk.specs.Numbers.{GoesOn}
use Rattle.step_desk.specs.Steps.{M}
use Rattle.step_desk.specs.Passes.{PassState}
use Rattle.step_desk.proofs.Keeping.{both_go_on}
use Rattle.step_desk.proofs.seat.Seat.join.Goals as goal

pub returns-clause-ours : goal.returns-clause-ours
returns-clause-ours c =
    subst (λ (k : PassState). GoesOn k.view c.join.new.hand.token.me.0.seen) c.self.view_is
    (subst (λ (m : M). GoesOn c.self.inside.hand.token.me.0 m.0.seen) (sym c.join.ensures.view) (both_go_on c.self.inside.hand.token.me.0 c.other.inside.hand.token.me.0 c.join.ensures.follows).0)

pub returns-clause-theirs : goal.returns-clause-theirs
returns-clause-theirs c =
    subst (λ (k : PassState). GoesOn k.view c.join.new.hand.token.me.0.seen) c.other.view_is
    (subst (λ (m : M). GoesOn c.other.inside.hand.token.me.0 m.0.seen) (sym c.join.ensures.view) (both_go_on c.self.inside.hand.token.me.0 c.other.inside.hand.token.me.0 c.join.ensures.follows).1)
