use Rattle.std.proofs.Common.{rules, refl, ◌∙◌, ap, subst}
use Rattle.std.proofs.lemmas.Result.{err_from_is_err_and}
use Rattle.region_words.specs.Local.{seat_state}
use Rattle.region_words.specs.Share.{reserving}
use Rattle.step_desk.specs.Passes.{IsKnown, PassState, state_of}
use Rattle.step_desk.proofs.Carrying.{from_taken, ended_is, lock_is}
use Rattle.step_desk.proofs.Sharing.{back, done, call_made, moved_reserve, ok_called, reserving_same, room_reserved, stops_reserving}
use Rattle.step_desk.proofs.Peeking.{turned_reserving}
use Rattle.step_desk.proofs.seat.SeatShare.reserve.Goals as goal

pub reserve-outcome-requires-clause-alive : goal.reserve-outcome-requires-clause-alive
reserve-outcome-requires-clause-alive c =
    let is = ap (λ (k : PassState). k.view) c.self.view_is in
    ended_is c.args.self.now.view c.in_ok-taken.taken.region (subst IsKnown is c.self.invariant.1.known) (from_taken _ _ _ _ is c.in_ok-taken.ensures.ok) ∙ c.requires.alive

pub reserve-outcome-requires-clause-held : goal.reserve-outcome-requires-clause-held
reserve-outcome-requires-clause-held c =
    let is = ap (λ (k : PassState). k.view) c.self.view_is in
    lock_is c.args.self.now.view c.in_ok-taken.taken.region (subst IsKnown is c.self.invariant.1.known) (from_taken _ _ _ _ is c.in_ok-taken.ensures.ok) ∙ c.requires.held

pub put-requires-clause-holds : goal.put-requires-clause-holds
put-requires-clause-holds c =
    let is = ap (λ (k : PassState). k.view) c.self.view_is in
    back c.self.inside.hand.token.me c.take.new.hand.token.me c.args.self.now.view c.in_ok-taken.taken.region c.reserve-outcome.new.self _ _ is c.self.invariant.1 c.in_ok-taken.ensures.ok
    (moved_reserve _ _ c.reserve-outcome.result c.args.events c.args.size c.reserve-outcome.ensures.ok c.reserve-outcome.ensures.err)

pub invariant_of-self-2 : goal.invariant_of-self-2
invariant_of-self-2 c = (
  search rules,
  done c.self.inside.hand.token.me c.take.new.hand.token.me c.put.new.hand.token.me c.in_ok-taken.taken.region c.reserve-outcome.new.self _ _ _ _ c.self.invariant.1 c.in_ok-taken.ensures.ok
      (moved_reserve _ _ c.reserve-outcome.result c.args.events c.args.size c.reserve-outcome.ensures.ok c.reserve-outcome.ensures.err) c.put.ensures.given (search rules) c.put.ensures.made,
)

pub returns-clause-ok : goal.returns-clause-ok
returns-clause-ok c =
    let m = call_made c.self.inside.hand.token.me c.take.new.hand.token.me c.put.new.hand.token.me c.args.self.now c.in_ok-taken.taken.region c.reserve-outcome.new.self _ _ c.self.inside.hand.token.table_id c.put.new.hand.token.table_id c.self.inside.hand.counts c.self.view_is c.self.invariant.1 c.in_ok-taken.ensures.ok c.put.ensures.given (search rules) in
    ok_called _ _ _ _ _ m c.put.new.hand.counts c.after_call-self-inside.result (search rules) c.reserve-outcome.result (reserving c.args.events c.args.size (seat_state c.in_ok-taken.taken.region)) (reserving c.args.events c.args.size (state_of c.args.self.now)) (reserving_same _ _ _ _ _ m c.args.events c.args.size) refl c.after_call-self-inside.ensures.ok c.reserve-outcome.ensures.ok

pub returns-clause-err : goal.returns-clause-err
returns-clause-err c =
    let m = call_made c.self.inside.hand.token.me c.take.new.hand.token.me c.put.new.hand.token.me c.args.self.now c.in_ok-taken.taken.region c.reserve-outcome.new.self _ _ c.self.inside.hand.token.table_id c.put.new.hand.token.table_id c.self.inside.hand.counts c.self.view_is c.self.invariant.1 c.in_ok-taken.ensures.ok c.put.ensures.given (search rules) in
    stops_reserving _ _ _ _ _ m c.put.new.hand.counts c.after_call-self-inside.result (search rules) c.reserve-outcome.result c.args.events c.requires.held c.after_call-self-inside.ensures.err c.reserve-outcome.ensures.err

pub returns-clause-room : goal.returns-clause-room
returns-clause-room c =
    let m = call_made c.self.inside.hand.token.me c.take.new.hand.token.me c.put.new.hand.token.me c.args.self.now c.in_ok-taken.taken.region c.reserve-outcome.new.self _ _ c.self.inside.hand.token.table_id c.put.new.hand.token.table_id c.self.inside.hand.counts c.self.view_is c.self.invariant.1 c.in_ok-taken.ensures.ok c.put.ensures.given (search rules) in
    room_reserved _ _ _ _ _ m c.put.new.hand.counts c.after_call-self-inside.result (search rules) c.reserve-outcome.result c.args.events c.args.size c.requires.held c.reserve-outcome.ensures.ok c.reserve-outcome.ensures.room

pub returns-in_err-taken-clause-err : goal.returns-in_err-taken-clause-err
returns-in_err-taken-clause-err c =
    let p = err_from_is_err_and c.from_residual.result c.from_residual.ensures.1 in
    rw (p.1, p.2)
    (turned_reserving c.self.inside.hand.token.me c.take.new.hand.token.me c.args.self.now _ _ c.self.inside.hand.token.table_id c.take.new.hand.token.table_id c.self.inside.hand.counts c.take.new.hand.counts c.in_err-taken.field-0.0 c.self.view_is c.self.invariant.1
    (search rules) (search rules) c.in_err-taken.ensures.err.0 c.in_err-taken.ensures.err.1 c.args.events)
