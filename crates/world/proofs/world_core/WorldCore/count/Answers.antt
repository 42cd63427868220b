use Rattle.std.proofs.Common.{subst}
use Rattle.world.specs.World.{IsSound}
use Rattle.world.proofs.world_core.WorldCore.count.Goals as goal

pub returns-clause-sound : goal.returns-clause-sound
returns-clause-sound c = subst IsSound c.self.view_is c.self.invariant.0
