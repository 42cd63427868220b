use Rattle.std.proofs.Common.{◌≡◌, ◌≤◌, refl}
use Rattle.change_log.specs.declared.call.Answer.{Answer}
use Rattle.change_log.proofs.Each.{all_later, pairs_more}
use Rattle.change_log.proofs.in_order.are_in_order.Goals as goal

abbrev InOrder : Answer → Answer → Type 0
InOrder a b = a.who ≡ b.who → a.ended ≤ b.begun

pub returns-then-not-precedes_own : goal.returns-then-not-precedes_own
returns-then-not-precedes_own c = (λ no. absurd cc, λ pairs. c.if-not-precedes_own.ensures.1 (all_later InOrder c.args.answers.now c.loop-i.i c.index-answers-i.result c.loop-i-test.true c.index-answers-i.is pairs))

pub loop-i-preserved : goal.loop-i-preserved
loop-i-preserved c = pairs_more InOrder c.args.answers.now c.loop-i.i c.index-answers-i.result c.loop-i-test.true c.index-answers-i.is c.loop-i.invariant (c.if-not-precedes_own.ensures.0 refl)
