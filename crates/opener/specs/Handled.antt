-- An opener's handler.
use Rattle.std.specs.Prelude.{◌≡◌, Option, None, if◌then◌else◌}
use Rattle.opener.specs.Opener.{is_ended}
use Rattle.opener.specs.declared.work.Work.{Work}

-- as long as an opener lives its handler is the one that it was, with all that it was asked and told so far; at its end it is given up
abbrev pub HandlerStays : {A : Type 0} → Work → Option A → Option A → Type 0
HandlerStays work old new = new ≡ (if is_ended work then None else old)
