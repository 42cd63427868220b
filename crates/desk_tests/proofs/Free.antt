-- Before anything happened nobody holds a lock.
use Rattle.std.proofs.Common.{◌≡◌, ℕ}
use Rattle.std.specs.Prelude.{None}
use Rattle.lock_rules.specs.Locks.{unlocked}
use Rattle.region_words.specs.Share.{lock_of}
use Rattle.region_words.proofs.LockOf.{lock_at_first}

pub none_at_first : (who : ℕ) → lock_of unlocked who ≡ None
none_at_first who = lock_at_first who
