use Rattle.std.proofs.Common.{rules, refl, arith, ◌∙◌, ap, subst}
use Rattle.std.proofs.lemmas.Result.{err_from_is_err_and}
use Rattle.region_words.specs.Local.{seat_state}
use Rattle.region_words.specs.Share.{stored}
use Rattle.region_words.specs.declared.event.What.TheVariants.{Grow}
use Rattle.step_desk.specs.Passes.{IsKnown, PassState, state_of}
use Rattle.step_desk.proofs.Carrying.{from_taken, lock_is, may_store}
use Rattle.step_desk.proofs.Sharing.{back, done, call_made, moved_by, ok_called, stored_same, stops_on}
use Rattle.step_desk.proofs.Peeking.{turned_stop}
use Rattle.step_desk.proofs.seat.SeatShare.grow.Goals as goal

pub grow-outcome-requires-clause-held : goal.grow-outcome-requires-clause-held
grow-outcome-requires-clause-held c =
    let is = ap (λ (k : PassState). k.view) c.self.view_is in
    lock_is c.args.self.now.view c.in_ok-taken.taken.region (subst IsKnown is c.self.invariant.1.known) (from_taken _ _ _ _ is c.in_ok-taken.ensures.ok) ∙ c.requires.held

pub grow-outcome-requires-clause-lawful : goal.grow-outcome-requires-clause-lawful
grow-outcome-requires-clause-lawful c =
    let is = ap (λ (k : PassState). k.view) c.self.view_is in
    may_store c.args.self.now.view c.in_ok-taken.taken.region (subst IsKnown is c.self.invariant.1.known) (from_taken _ _ _ _ is c.in_ok-taken.ensures.ok) (Grow c.args.size) tt c.requires.held c.requires.lawful

pub put-requires-clause-holds : goal.put-requires-clause-holds
put-requires-clause-holds c =
    let is = ap (λ (k : PassState). k.view) c.self.view_is in
    back c.self.inside.hand.token.me c.take.new.hand.token.me c.args.self.now.view c.in_ok-taken.taken.region c.grow-outcome.new.self _ _ is c.self.invariant.1 c.in_ok-taken.ensures.ok
    (moved_by _ _ c.grow-outcome.result (stored (Grow c.args.size) (seat_state c.in_ok-taken.taken.region)) (omega arith) c.grow-outcome.ensures.ok c.grow-outcome.ensures.err)

pub invariant_of-self-2 : goal.invariant_of-self-2
invariant_of-self-2 c = (
  search rules,
  done c.self.inside.hand.token.me c.take.new.hand.token.me c.put.new.hand.token.me c.in_ok-taken.taken.region c.grow-outcome.new.self _ _ _ _ c.self.invariant.1 c.in_ok-taken.ensures.ok
      (moved_by _ _ c.grow-outcome.result (stored (Grow c.args.size) (seat_state c.in_ok-taken.taken.region)) (omega arith) c.grow-outcome.ensures.ok c.grow-outcome.ensures.err) c.put.ensures.given (search rules) c.put.ensures.made,
)

pub returns-clause-ok : goal.returns-clause-ok
returns-clause-ok c =
    let m = call_made c.self.inside.hand.token.me c.take.new.hand.token.me c.put.new.hand.token.me c.args.self.now c.in_ok-taken.taken.region c.grow-outcome.new.self _ _ c.self.inside.hand.token.table_id c.put.new.hand.token.table_id c.self.inside.hand.counts c.self.view_is c.self.invariant.1 c.in_ok-taken.ensures.ok c.put.ensures.given (search rules) in
    ok_called _ _ _ _ _ m c.put.new.hand.counts c.after_call-self-inside.result (search rules) c.grow-outcome.result (stored (Grow c.args.size) (seat_state c.in_ok-taken.taken.region)) (stored (Grow c.args.size) (state_of c.args.self.now)) (stored_same _ _ _ _ _ m (Grow c.args.size)) refl c.after_call-self-inside.ensures.ok c.grow-outcome.ensures.ok

pub returns-clause-err : goal.returns-clause-err
returns-clause-err c =
    let m = call_made c.self.inside.hand.token.me c.take.new.hand.token.me c.put.new.hand.token.me c.args.self.now c.in_ok-taken.taken.region c.grow-outcome.new.self _ _ c.self.inside.hand.token.table_id c.put.new.hand.token.table_id c.self.inside.hand.counts c.self.view_is c.self.invariant.1 c.in_ok-taken.ensures.ok c.put.ensures.given (search rules) in
    stops_on _ _ _ _ _ m c.put.new.hand.counts c.after_call-self-inside.result (search rules) c.grow-outcome.result c.after_call-self-inside.ensures.err c.grow-outcome.ensures.err

pub returns-in_err-taken-clause-err : goal.returns-in_err-taken-clause-err
returns-in_err-taken-clause-err c =
    let p = err_from_is_err_and c.from_residual.result c.from_residual.ensures.1 in
    rw (p.1, p.2)
    (turned_stop c.self.inside.hand.token.me c.take.new.hand.token.me c.args.self.now _ _ c.self.inside.hand.token.table_id c.take.new.hand.token.table_id c.self.inside.hand.counts c.take.new.hand.counts c.in_err-taken.field-0.0 c.self.view_is c.self.invariant.1
    (search rules) (search rules) c.in_err-taken.ensures.err.0 c.in_err-taken.ensures.err.1)
