use Rattle.std.proofs.Common.{true, subst}
use Rattle.std.specs.Prelude.{is_some}
use Rattle.world.specs.Moves.{Dies, world_of}
use Rattle.world.specs.World.{WorldState}
use Rattle.world.proofs.world_core.WorldCore.die.Goals as goal

pub returns-clause-dies : goal.returns-clause-dies
returns-clause-dies c =
    let inside = c.self.inside in
    let noted = is_some inside.start_map in
    let now : WorldState = world_of c.die_at.new.seat c.die_at.new.openers.items inside.answers.items noted in
    subst (λ (w : WorldState). Dies c.args.who c.args.torn true w now) c.self.view_is
    (subst (λ who. Dies who c.args.torn true (world_of inside.seat inside.openers.items inside.answers.items noted) now) c.in-Some.ensures.some.0 (c.die_at.ensures.dies noted))
