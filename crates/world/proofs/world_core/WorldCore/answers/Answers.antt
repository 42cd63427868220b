use Rattle.std.proofs.Common.{subst}
use Rattle.world.specs.Moves.{IsOneHistory}
use Rattle.world.proofs.Together.{world_is_legal}
use Rattle.world.proofs.world_core.WorldCore.answers.Goals as goal

pub returns-clause-history : goal.returns-clause-history
returns-clause-history c =
    let inside = c.self.inside in
    subst IsOneHistory c.self.view_is (λ apart. world_is_legal inside.seat.region inside.openers.items inside.answers.items c.self.invariant.0 apart)
