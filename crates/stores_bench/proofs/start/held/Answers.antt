use Rattle.std.proofs.Common.{subst}
use Rattle.lock_rules.specs.declared.table.LockKind.TheVariants.{Exclusive}
use Rattle.region_words.specs.Share.{Tries}
use Rattle.region_words.specs.Local.{seat_state}
use Rattle.stores_bench.proofs.Held.{held_first, start_of}
use Rattle.stores_bench.proofs.start.held.Goals as goal

pub returns-clause-held : goal.returns-clause-held
returns-clause-held c =
    let s = c.in_ok-seat.seat in
    let t = c.try_lock.new.self in
    let tried = subst (λ tried. Tries Exclusive tried (seat_state s) (seat_state t)) c.in-Taken.is c.in_ok-try_lock.ensures.ok in
    let start = start_of s.region.start c.in_ok-body.body.items c.in_ok-meta.meta.items c.in_ok-seat.ensures.start c.in_ok-body.ensures.first c.in_ok-meta.ensures in
    held_first s t c.in_ok-seat.ensures.maker c.in_ok-seat.ensures.alive start c.in_ok-seat.ensures.past tried.0
