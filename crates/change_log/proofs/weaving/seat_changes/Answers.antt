use Rattle.std.proofs.Common.{◌+◌, ◌++◌, ◌∷◌, [], drop, ap, sym, ◌∙◌, append_assoc}
use Rattle.change_log.specs.Seats.{change_seat, change_seats}
use Rattle.change_log.proofs.Counted.{change_seats_more}
use Rattle.change_log.proofs.weaving.seat_changes.Goals as goal

pub loop-place-preserved : goal.loop-place-preserved
loop-place-preserved c =
    ap (λ l. l ++ change_seats (c.loop-place.place + 1) (drop (c.loop-place.place + 1) c.args.changes.now)) c.in_ok-push.ensures.items
    ∙ append_assoc c.loop-place.seats.items (change_seat c.loop-place.place ∷ []) (change_seats (c.loop-place.place + 1) (drop (c.loop-place.place + 1) c.args.changes.now))
    ∙ ap (λ l. c.loop-place.seats.items ++ l) (sym (change_seats_more c.loop-place.place c.loop-place.place c.args.changes.now c.loop-place-test.true))
    ∙ c.loop-place.invariant
