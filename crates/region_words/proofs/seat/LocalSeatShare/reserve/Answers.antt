use Rattle.std.proofs.Common.{◌+◌, ◌≤◌, length, sym, subst, ◌∙◌}
use Rattle.region_words.specs.Share.{Goes, StopsReserving, HasRoom, most_events, reserving}
use Rattle.region_words.specs.Local.{Seated, seat_state, seat_reserved, kept_in, LacksPlaces, stop_of}
use Rattle.region_words.proofs.Accounts.{kept_few}
use Rattle.region_words.proofs.SeatCalls.{local_reserving, stops_reserving, after_reserving}
use Rattle.region_words.proofs.seat.LocalSeatShare.reserve.Goals as goal

pub returns-clause-ok : goal.returns-clause-ok
returns-clause-ok c =
    let s = c.args.self.now in
    let e = c.self.view_is ∙ c.in_ok-begin.ensures.ok in
    let is = c.in_ok-begin.ensures.good in
    let maker = c.in_ok-begin.ensures.maker in
    let few = subst (λ (t : Seated). length t.region.past + kept_in t.region.accounts + c.args.events ≤ most_events) e c.in_default.ensures.room in
    rw c.in_default.ensures.ok
    (subst (λ (t : Seated). Goes (reserving c.args.events c.args.size (seat_state s)) (seat_state s) (seat_state (seat_reserved c.args.events c.args.size t))) (sym e)
    (record { after = after_reserving s.who s.region is maker c.args.events c.args.size c.requires.held few; not_due = c.in_ok-begin.ensures.due }))

pub returns-clause-room : goal.returns-clause-room
returns-clause-room c =
    let s = c.args.self.now in
    let e = c.self.view_is ∙ c.in_ok-begin.ensures.ok in
    let is = c.in_ok-begin.ensures.good in
    let maker = c.in_ok-begin.ensures.maker in
    let few = subst (λ (t : Seated). length t.region.past + kept_in t.region.accounts + c.args.events ≤ most_events) e c.in_default.ensures.room in
    rw c.in_default.ensures.ok
    (subst (λ (t : Seated). HasRoom (seat_state (seat_reserved c.args.events c.args.size t))) (sym e) (kept_few _ (local_reserving s.who s.region is maker c.args.events c.args.size c.requires.held few)))

pub returns-in-Err-clause-err : goal.returns-in-Err-clause-err
returns-in-Err-clause-err c =
    let s = c.args.self.now in
    let e = c.self.view_is ∙ c.in_ok-begin.ensures.ok in
    let is = c.in_ok-begin.ensures.good in
    let maker = c.in_ok-begin.ensures.maker in
    let lacks = subst (λ (t : Seated). LacksPlaces t.region c.args.events c.in-Err.stop) e c.in-Err.ensures.err in
    rw (c.stop_of.ensures, c.in-Err.ensures.same)
    (subst (λ (t : Seated). StopsReserving c.args.events (stop_of c.in-Err.stop) (seat_state s) (seat_state t)) (sym e) (stops_reserving s.who s.region is maker c.args.events c.in-Err.stop lacks c.in_ok-begin.ensures.due))
