use Rattle.std.proofs.Common.{arith}
use Rattle.world.proofs.Fresh.{world_of_none}
use Rattle.world.proofs.world_core.WorldCore.new.Goals as goal

pub invariant_of-result : goal.invariant_of-result
invariant_of-result c =
    rw (c.new.ensures.items, c.new-2.ensures.items, c.new-2.ensures.len, c.new-2.ensures.capacity)
    (world_of_none c.args.region c.seat.result c.seat.ensures c.requires.past c.requires.new c.requires.accepted, omega arith, tt)

pub returns-clause-sound : goal.returns-clause-sound
returns-clause-sound c =
    rw (c.new.ensures.items, c.new-2.ensures.items) (world_of_none c.args.region c.seat.result c.seat.ensures c.requires.past c.requires.new c.requires.accepted)
