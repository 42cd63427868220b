use Rattle.std.proofs.Common.{rules, arith, ◌∙◌, ap, subst}
use Rattle.std.proofs.lemmas.Result.{err_from_is_err_and}
use Rattle.region_words.specs.Local.{seat_state}
use Rattle.region_words.specs.Share.{loaded}
use Rattle.step_desk.specs.Passes.{IsKnown, PassState}
use Rattle.step_desk.proofs.Carrying.{from_taken, ended_is, has_word}
use Rattle.step_desk.proofs.Sharing.{back, done, call_made, moved_by, ok_loaded, stops_on}
use Rattle.step_desk.proofs.Peeking.{turned_stop}
use Rattle.step_desk.proofs.seat.SeatShare.load.Goals as goal

pub load-outcome-requires-clause-alive : goal.load-outcome-requires-clause-alive
load-outcome-requires-clause-alive c =
    let is = ap (λ (k : PassState). k.view) c.self.view_is in
    ended_is c.args.self.now.view c.in_ok-taken.taken.region (subst IsKnown is c.self.invariant.1.known) (from_taken _ _ _ _ is c.in_ok-taken.ensures.ok) ∙ c.requires.alive

pub load-outcome-requires-clause-inside : goal.load-outcome-requires-clause-inside
load-outcome-requires-clause-inside c =
    let is = ap (λ (k : PassState). k.view) c.self.view_is in
    has_word c.args.self.now.view c.in_ok-taken.taken.region (subst IsKnown is c.self.invariant.1.known) (from_taken _ _ _ _ is c.in_ok-taken.ensures.ok) c.args.self.now.table c.args.self.now.counts c.args.side c.args.word c.requires.inside

pub put-requires-clause-holds : goal.put-requires-clause-holds
put-requires-clause-holds c =
    let is = ap (λ (k : PassState). k.view) c.self.view_is in
    back c.self.inside.hand.token.me c.take.new.hand.token.me c.args.self.now.view c.in_ok-taken.taken.region c.load-outcome.new.self _ _ is c.self.invariant.1 c.in_ok-taken.ensures.ok
    (moved_by _ _ c.load-outcome.result (loaded (seat_state c.in_ok-taken.taken.region)) (omega arith) c.load-outcome.ensures.ok c.load-outcome.ensures.err)

pub invariant_of-self-2 : goal.invariant_of-self-2
invariant_of-self-2 c = (
  search rules,
  done c.self.inside.hand.token.me c.take.new.hand.token.me c.put.new.hand.token.me c.in_ok-taken.taken.region c.load-outcome.new.self _ _ _ _ c.self.invariant.1 c.in_ok-taken.ensures.ok
      (moved_by _ _ c.load-outcome.result (loaded (seat_state c.in_ok-taken.taken.region)) (omega arith) c.load-outcome.ensures.ok c.load-outcome.ensures.err) c.put.ensures.given (search rules) c.put.ensures.made,
)

pub returns-clause-ok : goal.returns-clause-ok
returns-clause-ok c =
    let m = call_made c.self.inside.hand.token.me c.take.new.hand.token.me c.put.new.hand.token.me c.args.self.now c.in_ok-taken.taken.region c.load-outcome.new.self _ _ c.self.inside.hand.token.table_id c.put.new.hand.token.table_id c.self.inside.hand.counts c.self.view_is c.self.invariant.1 c.in_ok-taken.ensures.ok c.put.ensures.given (search rules) in
    ok_loaded _ _ _ _ _ m c.put.new.hand.counts c.after_load-self-inside.result (search rules) c.load-outcome.result c.after_load-self-inside.ensures.ok c.load-outcome.ensures.ok

pub returns-clause-err : goal.returns-clause-err
returns-clause-err c =
    let m = call_made c.self.inside.hand.token.me c.take.new.hand.token.me c.put.new.hand.token.me c.args.self.now c.in_ok-taken.taken.region c.load-outcome.new.self _ _ c.self.inside.hand.token.table_id c.put.new.hand.token.table_id c.self.inside.hand.counts c.self.view_is c.self.invariant.1 c.in_ok-taken.ensures.ok c.put.ensures.given (search rules) in
    stops_on _ _ _ _ _ m c.put.new.hand.counts c.after_load-self-inside.result (search rules) c.load-outcome.result c.after_load-self-inside.ensures.err c.load-outcome.ensures.err

pub returns-in_err-taken-clause-err : goal.returns-in_err-taken-clause-err
returns-in_err-taken-clause-err c =
    let p = err_from_is_err_and c.from_residual.result c.from_residual.ensures.1 in
    rw (p.1, p.2)
    (turned_stop c.self.inside.hand.token.me c.take.new.hand.token.me c.args.self.now _ _ c.self.inside.hand.token.table_id c.take.new.hand.token.table_id c.self.inside.hand.counts c.take.new.hand.counts c.in_err-taken.field-0.0 c.self.view_is c.self.invariant.1
    (search rules) (search rules) c.in_err-taken.ensures.err.0 c.in_err-taken.ensures.err.1)
