use Rattle.std.proofs.Common.{◌+◌, ◌≤◌, false, length, sym, subst, ◌∙◌}
use Rattle.lock_rules.specs.Locks.{MayTake, IsLeastAgainst}
use Rattle.lock_rules.specs.declared.table.Tried.TheVariants.{Taken, Busy}
use Rattle.region_words.specs.Past.{locks_after}
use Rattle.region_words.specs.Share.{Goes, StopsTrying, HasRoom, most_events, refused, locked}
use Rattle.region_words.specs.Local.{Seated, HasPlace, seat_state, seat_refused, seat_made, kept_in, TriedIn, LacksPlaces, stop_of}
use Rattle.region_words.specs.declared.event.What.TheVariants.{Lock}
use Rattle.region_words.proofs.Accounts.{kept_few}
use Rattle.region_words.proofs.Permits.{may_lock}
use Rattle.region_words.proofs.SeatCalls.{living, local_made, stops_trying, after_refusing, after_lock}
use Rattle.region_words.proofs.seat.LocalSeatShare.try_lock.Goals as goal

pub returns-in-Ok-Taken-clause-ok : goal.returns-in-Ok-Taken-clause-ok
returns-in-Ok-Taken-clause-ok c =
    let s = c.args.self.now in
    let e = c.self.view_is ∙ c.in_ok-begin.ensures.ok in
    let is = c.in_ok-begin.ensures.good in
    let maker = c.in_ok-begin.ensures.maker in
    let t : TriedIn c.self.inside.region c.lock.new.self c.self.inside.who c.args.kind Taken =
    subst (λ x. TriedIn c.self.inside.region c.lock.new.self c.self.inside.who c.args.kind x) c.in-Ok-Taken.field-0-is c.in-Ok-Taken.ensures.ok in
    let may = subst (λ (x : Seated). MayTake (locks_after x.region.past) x.who c.args.kind) e t.1 in
    let few = subst (λ (x : Seated). length x.region.past + kept_in x.region.accounts + 2 ≤ most_events) e t.2 in
    let live = living s.who s.region is maker c.requires.alive in
    let lawful = may_lock s.region.start s.region.past s.who c.args.kind is.lawful maker live.0 may in
    let place : HasPlace s.region s.who (Lock c.args.kind) = record { kept = live.1; room = few } in
    rw t.0
    (subst (λ (x : Seated). Goes (locked c.args.kind (seat_state s)) (seat_state s) (seat_state (seat_made (Lock c.args.kind) x)) × HasRoom (seat_state (seat_made (Lock c.args.kind) x))) (sym e)
    (record { after = after_lock s.who s.region is maker c.args.kind may lawful place; not_due = c.in_ok-begin.ensures.due }, kept_few _ (local_made s.who s.region is maker false (Lock c.args.kind) lawful place)))

pub returns-in-Ok-Busy-clause-ok : goal.returns-in-Ok-Busy-clause-ok
returns-in-Ok-Busy-clause-ok c =
    let s = c.args.self.now in
    let e = c.self.view_is ∙ c.in_ok-begin.ensures.ok in
    let is = c.in_ok-begin.ensures.good in
    let maker = c.in_ok-begin.ensures.maker in
    let t : TriedIn c.self.inside.region c.lock.new.self c.self.inside.who c.args.kind (Busy c.in-Ok-Busy.holder) =
    subst (λ x. TriedIn c.self.inside.region c.lock.new.self c.self.inside.who c.args.kind x) c.in-Ok-Busy.field-0-is c.in-Ok-Busy.ensures.ok in
    let least = subst (λ (x : Seated). IsLeastAgainst (locks_after x.region.past) x.who c.args.kind c.in-Ok-Busy.holder) e t.1 in
    rw (c.count_busy.ensures, t.0)
    (subst (λ (x : Seated). Goes (refused (seat_state s)) (seat_state s) (seat_state (seat_refused x)) × IsLeastAgainst (locks_after x.region.past) x.who c.args.kind c.in-Ok-Busy.holder) (sym e)
    (record { after = after_refusing s.who s.region is maker; not_due = c.in_ok-begin.ensures.due }, least))

pub returns-in-Err-clause-err : goal.returns-in-Err-clause-err
returns-in-Err-clause-err c =
    let s = c.args.self.now in
    let e = c.self.view_is ∙ c.in_ok-begin.ensures.ok in
    let is = c.in_ok-begin.ensures.good in
    let maker = c.in_ok-begin.ensures.maker in
    let lacks = subst (λ (t : Seated). LacksPlaces t.region 2 c.in-Err.stop) e c.in-Err.ensures.err in
    let free = subst (λ (t : Seated). MayTake (locks_after t.region.past) t.who c.args.kind) e c.in-Err.ensures.free in
    rw (c.stop_of.ensures, c.in-Err.ensures.same)
    (subst (λ (t : Seated). StopsTrying c.args.kind (stop_of c.in-Err.stop) (seat_state s) (seat_state t)) (sym e) (stops_trying s.who s.region is maker c.args.kind c.in-Err.stop lacks free c.in_ok-begin.ensures.due))
