-- A call that goes on.
use Rattle.std.specs.Prelude.{◌≡◌}
use Rattle.opener.specs.declared.work.Running.{Running}

-- the same call of the same begin
pub record SameCall (old new : Running) : Type 0 where
  pub call : new.call ≡ old.call
  pub now : new.now ≡ old.now
  pub begun : new.begun ≡ old.begun
