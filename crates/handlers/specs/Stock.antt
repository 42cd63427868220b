-- What is drawn from a stock.
use Rattle.std.specs.Prelude.{◌≡◌, ◌≢◌, List, [], ◌∷◌, ◌++◌, Option, Some, None}
use Rattle.handlers.specs.declared.handler.Strategy.{Strategy}

-- the last of a list is taken, where it has one
abbrev pub TakesLast : {A : Type 0} → List A → List A → Option A → Type 0
TakesLast old new None = (old ≡ []) × (new ≡ [])
TakesLast old new (Some last) = old ≡ new ++ last ∷ []

-- of the handlers of this strategy the last is drawn where it is the one asked for, and they are as before where it isn't
abbrev pub Draws : {A : Type 0} → (asked strategy : Strategy) → List A → List A → Option A → Type 0
Draws asked strategy old new drawn = (asked ≡ strategy → TakesLast old new drawn) × (asked ≢ strategy → new ≡ old)
