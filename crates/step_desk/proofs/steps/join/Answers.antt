use Rattle.std.proofs.Common.{rules, ◌∙◌, ap, subst}
use Rattle.region_words.specs.Lawful.{Lawful}
use Rattle.step_desk.specs.Steps.{M}
use Rattle.step_desk.proofs.Moves.{settles_allowed}
use Rattle.step_desk.proofs.Passing.{joins_allowed}
use Rattle.step_desk.proofs.Turning.{told_follows}
use Rattle.step_desk.proofs.Keeping.{joined_pass}
use Rattle.step_desk.proofs.steps.join.Goals as goal

pub join_seat-requires : goal.join_seat-requires
join_seat-requires c = (search rules, search rules, c.requires.other.ready.slots, search rules, joins_allowed _ _ _ _ _ _ c.requires.pass.ready.live c.requires.pass.ready.stage c.requires.other.ready.live c.requires.other.ready.stage)

pub load-requires : goal.load-requires
load-requires c = (search rules, search rules, settles_allowed _ _ _ _ _ (ap (λ (m : M). m.0.live) c.join_seat.ensures.2 ∙ c.requires.pass.ready.live))

pub returns-clause-pass : goal.returns-clause-pass
returns-clause-pass c =
    let is = c.join_seat.ensures.2 in
    let settled = c.load.ensures.2.1 in
    rw c.max-hand.ensures (joined_pass _ _ _ _ _ _ _ c.requires.pass c.requires.other (c.load.ensures.2.0 ∙ is)
    (told_follows c.args.hand.now.token.me.0 c.args.other.token.me.0 c.args.hand.now.token.me.1 c.join_seat.new.seat.me is settled.follows)
    (subst (λ (m : M). Lawful m.0.about.start m.0.seen) is settled.lawful))

pub returns-clause-follows : goal.returns-clause-follows
returns-clause-follows c = told_follows c.args.hand.now.token.me.0 c.args.other.token.me.0 c.args.hand.now.token.me.1 c.join_seat.new.seat.me c.join_seat.ensures.2 c.load.ensures.2.1.follows
