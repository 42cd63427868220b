use Rattle.std.proofs.Common.{◌≡◌, ◌++◌, drop}
use Rattle.change_log.specs.Seats.{read_seats}
use Rattle.change_log.proofs.weaving.seat_reads.Given as goal

abbrev pub invariant-loop-number : goal.invariant-loop-number
invariant-loop-number l = l.seats.items ++ read_seats l.number (drop l.number l.answers) ≡ l.initial.seats.items ++ read_seats 0 l.answers
