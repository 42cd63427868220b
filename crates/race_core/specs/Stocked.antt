-- What holds of the handlers of a stock.
use Rattle.std.specs.Prelude.{All}
use Rattle.std.specs.declared.alloc.Global.{Global}
use Rattle.std.specs.declared.dyn_box.DynBox.{DynBox}
use Rattle.handlers.specs.declared.stock.HandlerStock.{HandlerStock}

-- this holds of each of them
unfoldable pub OfAll : {A : Type 0} {Is : A → Type 0} → (DynBox A Global Is → Type 0) → HandlerStock A Is → Type 0
OfAll P stock = All P stock.discard.items × All P stock.recover.items × All P stock.leave.items
