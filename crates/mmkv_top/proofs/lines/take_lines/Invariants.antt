use Rattle.std.specs.Prelude.{◌≡◌, [], map}
use Rattle.world.specs.World.{IsSound}
use Rattle.world.specs.Moves.{CameFrom}
use Rattle.mmkv_top.specs.Stocked.{OfAll}
use Rattle.mmkv_top.specs.contracts.lines.take_lines.{dyn-1-ghosts}
use Rattle.mmkv_top.specs.contracts.lines.take_lines.dyn-1.{members}
use Rattle.mmkv_top.specs.State.{play_state}
use Rattle.script_lang.specs.Played.{stock_of}
use Rattle.script_lang.specs.Script.{texts_of, without_feed}
use Rattle.mmkv_top.specs.Progress.{IsTaken}
use Rattle.mmkv_top.proofs.lines.take_lines.Given as goal

abbrev pub invariant-loop-line : goal.invariant-loop-line
invariant-loop-line g l =
    IsSound l.world.core
    × IsTaken (stock_of l.fn.handlers) (stock_of l.handlers) l.fn.world.core.region.start (texts_of l.fn.script) (map without_feed l.line-iterator) (play_state l.world.core l.text.items) l.count
    × CameFrom l.fn.world.core l.world.core
    × OfAll (λ h. ((members (dyn-1-ghosts g.dyn-1) h).told h.1 ≡ []) × ((members (dyn-1-ghosts g.dyn-1) h).changes_told h.1 ≡ [])) l.handlers
