use Rattle.std.proofs.Common.{◌≡◌, ◌++◌, drop}
use Rattle.change_log.specs.Seats.{change_seats}
use Rattle.change_log.proofs.weaving.seat_changes.Given as goal

abbrev pub invariant-loop-place : goal.invariant-loop-place
invariant-loop-place l = l.seats.items ++ change_seats l.place (drop l.place l.changes) ≡ l.initial.seats.items ++ change_seats 0 l.changes
