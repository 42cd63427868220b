-- What holds of the handlers of a stock.
use Rattle.std.specs.Prelude.{All}
use Rattle.handlers.specs.declared.stock.HandlerStock.{HandlerStock}

-- this holds of each of them, as the object that it is
unfoldable pub OfAll : {A : Type 0} {Is : A → Type 0} → ((x : A) × Is x → Type 0) → HandlerStock A Is → Type 0
OfAll P stock =
    All (λ h. P (h.vtable, h.value)) stock.discard.items × All (λ h. P (h.vtable, h.value)) stock.recover.items × All (λ h. P (h.vtable, h.value)) stock.leave.items
