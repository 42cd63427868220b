use Rattle.std.specs.Prelude.{◌≡◌, [], All, length, map}
use Rattle.script_lang.specs.Played.{stock_of}
use Rattle.script_lang.specs.Script.{texts_of, without_feed}
use Rattle.race_core.specs.Stocked.{OfAll}
use Rattle.race_core.specs.Reading.{IsTaken}
use Rattle.race_core.specs.contracts.script.take_lines.{dyn-1-ghosts}
use Rattle.race_core.specs.contracts.script.take_lines.dyn-1.{members}
use Rattle.race_core.proofs.script.take_lines.Given as goal

abbrev pub invariant-loop-line : goal.invariant-loop-line
invariant-loop-line g l =
    IsTaken (stock_of l.fn.stock) (stock_of l.stock) (texts_of l.fn.script) (map without_feed l.line-iterator) l.field.openers.items l.count
    × OfAll (λ h. ((members (dyn-1-ghosts g.dyn-1) (h.vtable, h.value)).told h.value ≡ []) × ((members (dyn-1-ghosts g.dyn-1) (h.vtable, h.value)).changes_told h.value ≡ [])) l.stock
    × All (λ h. ((members (dyn-1-ghosts g.dyn-1) (h.vtable, h.value)).told h.value ≡ []) × ((members (dyn-1-ghosts g.dyn-1) (h.vtable, h.value)).changes_told h.value ≡ [])) l.field.handlers.items
    × (length l.field.handlers.items ≡ length l.field.openers.items)
