-- The handlers of a world's openers.
use Rattle.std.specs.Prelude.{◌≡◌, Bool, List, [], ◌∷◌, Option, None, is_some, map, not, if◌then◌else◌}
use Rattle.opener.specs.Opener.{is_ended}
use Rattle.opener.specs.State.{OpenerState}

abbrev pub is_alive : OpenerState → Bool
is_alive o = not (is_ended o.work)

-- each opener has its handler as long as it lives, and none from then on
abbrev pub HaveHandlers : {A : Type 0} → List OpenerState → List (Option A) → Type 0
HaveHandlers openers handlers = map is_some handlers ≡ map is_alive openers

-- these handlers of openers, but none where an opener has ended
abbrev pub of_living : {A : Type 0} → List OpenerState → List (Option A) → List (Option A)
of_living (o ∷ openers) (handler ∷ handlers) = (if is_ended o.work then None else handler) ∷ of_living openers handlers
of_living _ _ = []
