use Rattle.std.proofs.Common.{rules, ◌∙◌, ap, subst}
use Rattle.std.proofs.lemmas.Result.{err_from_is_err_and}
use Rattle.step_desk.specs.Passes.{IsKnown, PassState}
use Rattle.step_desk.proofs.Carrying.{from_taken, ended_is, may_tear}
use Rattle.step_desk.proofs.Sharing.{back, done, call_made, moved_death, ok_dies, stops_on}
use Rattle.step_desk.proofs.Peeking.{turned_stop}
use Rattle.step_desk.proofs.seat.SeatShare.die.Goals as goal

pub die-outcome-requires-clause-alive : goal.die-outcome-requires-clause-alive
die-outcome-requires-clause-alive c =
    let is = ap (λ (k : PassState). k.view) c.self.view_is in
    ended_is c.args.self.now.view c.in_ok-taken.taken.region (subst IsKnown is c.self.invariant.1.known) (from_taken _ _ _ _ is c.in_ok-taken.ensures.ok) ∙ c.requires.alive

pub die-outcome-requires-clause-torn : goal.die-outcome-requires-clause-torn
die-outcome-requires-clause-torn c =
    let is = ap (λ (k : PassState). k.view) c.self.view_is in
    may_tear c.args.self.now.view c.in_ok-taken.taken.region (subst IsKnown is c.self.invariant.1.known) (from_taken _ _ _ _ is c.in_ok-taken.ensures.ok) c.args.self.now.table c.args.self.now.counts c.args.torn c.requires.torn

pub put-requires-clause-holds : goal.put-requires-clause-holds
put-requires-clause-holds c =
    let is = ap (λ (k : PassState). k.view) c.self.view_is in
    back c.self.inside.hand.token.me c.take.new.hand.token.me c.args.self.now.view c.in_ok-taken.taken.region c.die-outcome.new.self _ _ is c.self.invariant.1 c.in_ok-taken.ensures.ok
    (moved_death _ _ c.die-outcome.result c.args.torn c.die-outcome.ensures.ok c.die-outcome.ensures.err)

pub invariant_of-self-2 : goal.invariant_of-self-2
invariant_of-self-2 c = (
  search rules,
  done c.self.inside.hand.token.me c.take.new.hand.token.me c.put.new.hand.token.me c.in_ok-taken.taken.region c.die-outcome.new.self _ _ _ _ c.self.invariant.1 c.in_ok-taken.ensures.ok
      (moved_death _ _ c.die-outcome.result c.args.torn c.die-outcome.ensures.ok c.die-outcome.ensures.err) c.put.ensures.given (search rules) c.put.ensures.made,
)

pub returns-clause-ok : goal.returns-clause-ok
returns-clause-ok c =
    let m = call_made c.self.inside.hand.token.me c.take.new.hand.token.me c.put.new.hand.token.me c.args.self.now c.in_ok-taken.taken.region c.die-outcome.new.self _ _ c.self.inside.hand.token.table_id c.put.new.hand.token.table_id c.self.inside.hand.counts c.self.view_is c.self.invariant.1 c.in_ok-taken.ensures.ok c.put.ensures.given (search rules) in
    ok_dies _ _ _ _ _ m c.put.new.hand.counts c.after_call-self-inside.result (search rules) c.die-outcome.result c.args.torn c.requires.torn c.after_call-self-inside.ensures.ok c.die-outcome.ensures.ok

pub returns-clause-err : goal.returns-clause-err
returns-clause-err c =
    let m = call_made c.self.inside.hand.token.me c.take.new.hand.token.me c.put.new.hand.token.me c.args.self.now c.in_ok-taken.taken.region c.die-outcome.new.self _ _ c.self.inside.hand.token.table_id c.put.new.hand.token.table_id c.self.inside.hand.counts c.self.view_is c.self.invariant.1 c.in_ok-taken.ensures.ok c.put.ensures.given (search rules) in
    stops_on _ _ _ _ _ m c.put.new.hand.counts c.after_call-self-inside.result (search rules) c.die-outcome.result c.after_call-self-inside.ensures.err c.die-outcome.ensures.err

pub returns-in_err-taken-clause-err : goal.returns-in_err-taken-clause-err
returns-in_err-taken-clause-err c =
    let p = err_from_is_err_and c.from_residual.result c.from_residual.ensures.1 in
    rw (p.1, p.2)
    (turned_stop c.self.inside.hand.token.me c.take.new.hand.token.me c.args.self.now _ _ c.self.inside.hand.token.table_id c.take.new.hand.token.table_id c.self.inside.hand.counts c.take.new.hand.counts c.in_err-taken.field-0.0 c.self.view_is c.self.invariant.1
    (search rules) (search rules) c.in_err-taken.ensures.err.0 c.in_err-taken.ensures.err.1)
