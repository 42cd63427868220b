use Rattle.std.proofs.Common.{◌≡◌, ℕ, List, [], length}
use Rattle.std.specs.Prelude.{Option}
use Rattle.opener.specs.State.{OpenerState}
use Rattle.opener.specs.declared.calls.Step.TheVariants as step
use Rattle.region_words.specs.Region.{Region}
use Rattle.region_words.specs.declared.event.Event.{Event}
use Rattle.world.specs.World.{IsSound, Lives}
use Rattle.world.specs.Moves.{CameFrom}
use Rattle.world.specs.declared.moves.Moved.TheVariants as moved
use Rattle.script_lang.specs.Parts.{Running}
use Rattle.mmkv_top.specs.Progress.{Stepped, Walks, seat_at}
use Rattle.mmkv_top.proofs.moves.steps.Given as goal

abbrev pub invariant-loop : goal.invariant-loop
invariant-loop g l =
    IsSound l.world.core × (length l.world.core.openers ≡ length l.fn.world.core.openers)
    × ((o : OpenerState) → Lives l.fn.world.core.openers l.fn.who o → (start : Region) (past : List Event) (held : ℕ) (before : Option Running) →
    Stepped l.fn.who (length l.fn.world.core.openers) start past held before o.work 0 step.Going [] o (seat_at l.fn.who l.fn.world.core.region) →
    Walks l.fn.who (length l.fn.world.core.openers) start past held before o.work l.counter moved.Going l.fn.world.core l.world.core)
    × CameFrom l.fn.world.core l.world.core
