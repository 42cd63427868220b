-- Calls, what they ask of an opener, and how they stop.
use Rattle.std.specs.Prelude.{◌≡◌, ℕ, ◌+◌, ◌-◌, Bool, true, false, Option, Some, None, ⊤}
use Rattle.region_words.specs.declared.stops.ShareStop.{ShareStop}
use Rattle.region_words.specs.declared.stops.ShareStop.TheVariants as stop
use Rattle.change_log.specs.declared.call.Call.{Call}
use Rattle.change_log.specs.declared.call.Call.TheVariants as call
use Rattle.lock_rules.specs.declared.table.LockKind.{LockKind}
use Rattle.lock_rules.specs.declared.table.LockKind.TheVariants.{Shared, Exclusive}
use Rattle.opener.specs.declared.calls.Step.{Step}
use Rattle.opener.specs.declared.calls.Step.TheVariants as step
use Rattle.opener.specs.declared.calls.Stop.TheVariants as why
use Rattle.opener.specs.declared.work.Running.{Running}
use Rattle.opener.specs.declared.work.Stage.{Stage}
use Rattle.opener.specs.declared.work.Stage.TheVariants.{LockShared, LockExclusive, Hold}
use Rattle.opener.specs.declared.work.Work.{Work}
use Rattle.opener.specs.declared.work.Work.TheVariants.{Idle, Ended, Runs}
use Rattle.opener.specs.State.{OpenerState}
use Rattle.opener.specs.Plans.{CanWrite}

-- the opener keeps no image and runs no call
abbrev pub IsGivenUp : OpenerState → OpenerState → Type 0
IsGivenUp old new = (new.who ≡ old.who) × (new.holds ≡ old.holds) × (new.image ≡ None) × (new.work ≡ Idle)

-- the opener after a call on its share that was not answered
abbrev pub AfterStop : ShareStop → OpenerState → Running → Stage → Step → OpenerState → Type 0
AfterStop stop.Turn old running stage result new = (result ≡ step.Again) × (new ≡ record old { work = Runs running stage })
AfterStop stop.Failed old running stage result new =
    (result ≡ step.Stopped why.Fault) × (new.who ≡ old.who) × (new.holds ≡ 0) × (new.image ≡ None) × (new.work ≡ Ended)
AfterStop stop.Memory old running stage result new = (result ≡ step.Stopped why.Memory) × IsGivenUp old new
AfterStop stop.JournalFull old running stage result new = (result ≡ step.Stopped why.JournalFull) × IsGivenUp old new

-- a call that changes the map
abbrev pub is_write : Call → Bool
is_write (call.Put key value seconds) = true
is_write (call.Remove key) = true
is_write call.Clear = true
is_write (call.Enable seconds) = true
is_write call.Disable = true
is_write _ = false

-- a call that finds a map, or changes it
abbrev pub IsPlain : Call → Type 0
IsPlain (call.Get key) = ⊤
IsPlain call.Keys = ⊤
IsPlain call.Count = ⊤
IsPlain call.Sync = ⊤
IsPlain asked = CanWrite asked

-- how many holds an answered call leaves
abbrev pub holds_after : Call → ℕ → ℕ
holds_after call.Hold holds = holds + 1
holds_after call.Release holds = holds - 1
holds_after _ holds = holds

-- the kind of lock that a call takes for itself: shared to read, exclusive to write and to hold
abbrev pub kind_of : Call → Option LockKind
kind_of (call.Get key) = Some Shared
kind_of call.Keys = Some Shared
kind_of call.Count = Some Shared
kind_of call.Sync = Some Shared
kind_of call.Release = None
kind_of asked = Some Exclusive

-- the kind that a step of a call at this stage tries
abbrev pub kind_tried : Call → Stage → Option LockKind
kind_tried asked (LockShared extent) = kind_of asked
kind_tried asked LockExclusive = kind_of asked
kind_tried asked Hold = kind_of asked
kind_tried asked _ = None

-- an opener at this work tries this kind
abbrev pub IsTried : Work → LockKind → Type 0
IsTried (Runs running stage) kind = kind_tried running.call stage ≡ Some kind
IsTried _ kind = ⊥
