-- The kind of lock that a call takes.
use Rattle.std.proofs.Common.{◌≡◌, refl, false}
use Rattle.std.specs.Prelude.{Some}
use Rattle.change_log.specs.declared.call.Call.{Call}
use Rattle.change_log.specs.declared.call.Call.TheVariants as call
use Rattle.lock_rules.specs.declared.table.LockKind.TheVariants.{Shared, Exclusive}
use Rattle.opener.specs.Calls.{IsPlain, is_write, kind_of}
use Rattle.opener.specs.Plans.{CanWrite}

pub reads_shared : (asked : Call) → IsPlain asked → is_write asked ≡ false → kind_of asked ≡ Some Shared
reads_shared (call.Get key) plain read = refl
reads_shared call.Keys plain read = refl
reads_shared call.Count plain read = refl
reads_shared call.Sync plain read = refl
reads_shared (call.Put key value seconds) plain read = absurd cc
reads_shared (call.Remove key) plain read = absurd cc
reads_shared call.Clear plain read = absurd cc
reads_shared (call.Enable seconds) plain read = absurd cc
reads_shared call.Disable plain read = absurd cc
reads_shared call.Hold plain read = absurd plain
reads_shared call.Release plain read = absurd plain

pub writes_exclusive : (asked : Call) → CanWrite asked → kind_of asked ≡ Some Exclusive
writes_exclusive (call.Put key value seconds) can = refl
writes_exclusive (call.Remove key) can = refl
writes_exclusive call.Clear can = refl
writes_exclusive (call.Get key) can = absurd can
writes_exclusive call.Keys can = absurd can
writes_exclusive call.Count can = absurd can
writes_exclusive (call.Enable seconds) can = refl
writes_exclusive call.Disable can = refl
writes_exclusive call.Hold can = absurd can
writes_exclusive call.Release can = absurd can
writes_exclusive call.Sync can = absurd can
