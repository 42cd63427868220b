use Rattle.std.proofs.Common.{rules, refl, ◌≡◌, arith, ◌∙◌, ap, subst}
use Rattle.region_words.specs.Local.{seat_state}
use Rattle.region_words.specs.Share.{stored}
use Rattle.region_words.specs.declared.event.What.TheVariants.{Store}
use Rattle.step_desk.specs.Passes.{IsKnown, PassState, state_of}
use Rattle.step_desk.proofs.Carrying.{from_taken, lock_is, may_store}
use Rattle.step_desk.proofs.Sharing.{back, done, call_made, moved_store, ok_called, stored_same, stops_store}
use Rattle.step_desk.proofs.seat.SeatShare.store.Goals as goal

pub store-outcome-requires-clause-held : goal.store-outcome-requires-clause-held
store-outcome-requires-clause-held c =
    let is = ap (λ (k : PassState). k.view) c.self.view_is in
    lock_is c.args.self.now.view c.in-Ok.taken.region (subst IsKnown is c.self.invariant.1.known) (from_taken _ _ _ _ is c.in-Ok.ensures.ok) ∙ c.requires.held

pub store-outcome-requires-clause-lawful : goal.store-outcome-requires-clause-lawful
store-outcome-requires-clause-lawful c =
    let is = ap (λ (k : PassState). k.view) c.self.view_is in
    may_store c.args.self.now.view c.in-Ok.taken.region (subst IsKnown is c.self.invariant.1.known) (from_taken _ _ _ _ is c.in-Ok.ensures.ok) (Store c.args.side c.args.word c.args.value c.args.mark) tt c.requires.held c.requires.lawful

pub put-requires-clause-holds : goal.put-requires-clause-holds
put-requires-clause-holds c =
    let is = ap (λ (k : PassState). k.view) c.self.view_is in
    back c.self.inside.hand.token.me c.take.new.hand.token.me c.args.self.now.view c.in-Ok.taken.region c.store-outcome.new.self _ _ is c.self.invariant.1 c.in-Ok.ensures.ok
    (moved_store _ _ c.store-outcome.result (stored (Store c.args.side c.args.word c.args.value c.args.mark) (seat_state c.in-Ok.taken.region)) (λ u. u.mark ≡ c.args.mark) (omega arith) c.store-outcome.ensures.ok c.store-outcome.ensures.err)

pub invariant_of-self-2 : goal.invariant_of-self-2
invariant_of-self-2 c = (
  search rules,
  done c.self.inside.hand.token.me c.take.new.hand.token.me c.put.new.hand.token.me c.in-Ok.taken.region c.store-outcome.new.self _ _ _ _ c.self.invariant.1 c.in-Ok.ensures.ok
      (moved_store _ _ c.store-outcome.result (stored (Store c.args.side c.args.word c.args.value c.args.mark) (seat_state c.in-Ok.taken.region)) (λ u. u.mark ≡ c.args.mark) (omega arith) c.store-outcome.ensures.ok c.store-outcome.ensures.err) c.put.ensures.given (search rules) c.put.ensures.made,
)

pub returns-clause-ok : goal.returns-clause-ok
returns-clause-ok c =
    let m = call_made c.self.inside.hand.token.me c.take.new.hand.token.me c.put.new.hand.token.me c.args.self.now c.in-Ok.taken.region c.store-outcome.new.self _ _ c.self.inside.hand.token.table_id c.put.new.hand.token.table_id c.self.inside.hand.counts c.self.view_is c.self.invariant.1 c.in-Ok.ensures.ok c.put.ensures.given (search rules) in
    ok_called _ _ _ _ _ m c.put.new.hand.counts c.after_store-self-inside.result (search rules) c.store-outcome.result (stored (Store c.args.side c.args.word c.args.value c.args.mark) (seat_state c.in-Ok.taken.region)) (stored (Store c.args.side c.args.word c.args.value c.args.mark) (state_of c.args.self.now)) (stored_same _ _ _ _ _ m (Store c.args.side c.args.word c.args.value c.args.mark)) refl c.after_store-self-inside.ensures.ok c.store-outcome.ensures.ok

pub returns-clause-err : goal.returns-clause-err
returns-clause-err c =
    let m = call_made c.self.inside.hand.token.me c.take.new.hand.token.me c.put.new.hand.token.me c.args.self.now c.in-Ok.taken.region c.store-outcome.new.self _ _ c.self.inside.hand.token.table_id c.put.new.hand.token.table_id c.self.inside.hand.counts c.self.view_is c.self.invariant.1 c.in-Ok.ensures.ok c.put.ensures.given (search rules) in
    stops_store _ _ _ _ _ m c.put.new.hand.counts c.after_store-self-inside.result (search rules) c.store-outcome.result (λ u. u.mark ≡ c.args.mark) c.after_store-self-inside.ensures.err c.store-outcome.ensures.err
