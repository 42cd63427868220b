use Rattle.std.proofs.Common.{◌≢◌, [], length}
use Rattle.region_words.specs.Rows.{Row}
use Rattle.region_words.specs.Owing.{IsOwing}
use Rattle.region_words.specs.Local.{seat_state}
use Rattle.stores_bench.proofs.work.finish.Given as goal

abbrev pub invariant-loop : goal.invariant-loop
invariant-loop l = (l.row.events ≢ []) × ((r : Row) × IsOwing r l.row.events (seat_state l.seat))

abbrev pub decreases-loop : goal.decreases-loop
decreases-loop l = length l.row.events
