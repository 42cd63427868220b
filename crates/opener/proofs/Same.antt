-- What is counted leaves the call that it was.
use Rattle.std.proofs.Common.{◌≡◌, ◌+◌, ap}
use Rattle.std.specs.Prelude.{Some}
use Rattle.lock_rules.specs.declared.table.LockKind.{LockKind}
use Rattle.region_words.specs.declared.next.Next.{Next}
use Rattle.region_words.specs.declared.next.Next.TheVariants as next
use Rattle.opener.specs.Continues.{SameCall}
use Rattle.opener.specs.Counted.{counted, with_stored}
use Rattle.opener.specs.declared.work.Running.{Running}

-- the same call, and the lock that it has taken
pub record SameLock (old new : Running) : Type 0 where
  pub same : SameCall old new
  pub taken : new.taken ≡ old.taken

pub loaded_same : (old new : Running) → new ≡ record old { loads = counted (old.loads + 1) } → SameLock old new
loaded_same old new e =
    record {
      same = record { call = ap (λ (r : Running). r.call) e; now = ap (λ (r : Running). r.now) e; begun = ap (λ (r : Running). r.begun) e };
      taken = ap (λ (r : Running). r.taken) e;
    }

pub locked_same : (old new : Running) (kind : LockKind) → new ≡ record old { taken = Some kind; locks = counted (old.locks + 1) } → SameCall old new × (new.taken ≡ Some kind)
locked_same old new kind e = (
  record { call = ap (λ (r : Running). r.call) e; now = ap (λ (r : Running). r.now) e; begun = ap (λ (r : Running). r.begun) e },
  ap (λ (r : Running). r.taken) e,
)

pub stored_same : (event : Next) (old new : Running) → new ≡ with_stored event old → SameLock old new
stored_same (next.Store side word value) old new e =
    record {
      same = record { call = ap (λ (r : Running). r.call) e; now = ap (λ (r : Running). r.now) e; begun = ap (λ (r : Running). r.begun) e };
      taken = ap (λ (r : Running). r.taken) e;
    }
stored_same (next.Grow size) old new e =
    record {
      same = record { call = ap (λ (r : Running). r.call) e; now = ap (λ (r : Running). r.now) e; begun = ap (λ (r : Running). r.begun) e };
      taken = ap (λ (r : Running). r.taken) e;
    }
stored_same next.End old new e =
    record {
      same = record { call = ap (λ (r : Running). r.call) e; now = ap (λ (r : Running). r.now) e; begun = ap (λ (r : Running). r.begun) e };
      taken = ap (λ (r : Running). r.taken) e;
    }
