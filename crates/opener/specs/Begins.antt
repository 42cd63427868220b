-- How a call begins.
use Rattle.std.specs.Prelude.{◌≡◌, ℕ, ⊤, Bool, true, false, List, Option, Some, None, length, nat_lt, nat_le, ◌==◌, ◌||◌, ◌&&◌, if◌then◌else◌}
use Rattle.change_log.specs.declared.call.Call.{Call}
use Rattle.change_log.specs.declared.call.Call.TheVariants as call
use Rattle.kv_pairs.specs.declared.packed.TheConstants.{LONGEST_FIELD}
use Rattle.lock_rules.specs.declared.limits.TheConstants.{MOST_HOLDS}
use Rattle.region_words.specs.Rows.{AreBytes}
use Rattle.loader.specs.declared.loaded.Image.{Image}
use Rattle.opener.specs.State.{OpenerState}
use Rattle.opener.specs.Calls.{is_write}
use Rattle.opener.specs.Ends.{Notices}
use Rattle.opener.specs.declared.calls.Refused.{Refused}
use Rattle.opener.specs.declared.calls.Refused.TheVariants as why
use Rattle.opener.specs.declared.work.Running.{Running}
use Rattle.opener.specs.declared.work.Stage.{Stage}
use Rattle.opener.specs.declared.work.Stage.TheVariants as stage
use Rattle.opener.specs.declared.work.Work.{Work}
use Rattle.opener.specs.declared.work.Work.TheVariants.{Idle, Ended, Runs}

-- why a key is refused, or a pair
abbrev pub key_refusal : List ℕ → Option Refused
key_refusal key = if length key == 0 then Some why.EmptyKey else (if nat_lt LONGEST_FIELD (length key) then Some why.TooLong else None)

abbrev pub pair_refusal : List ℕ → List ℕ → Option Refused
pair_refusal key value =
    if length key == 0 then Some why.EmptyKey
    else (if length value == 0 then Some why.EmptyValue
    else (if nat_lt LONGEST_FIELD (length key) || nat_lt LONGEST_FIELD (length value) then Some why.TooLong else None))

-- why a call is refused for what it asks, beside so many holds
abbrev pub call_refusal : Call → ℕ → Option Refused
call_refusal (call.Get key) holds = key_refusal key
call_refusal (call.Remove key) holds = key_refusal key
call_refusal (call.Put key value seconds) holds = pair_refusal key value
call_refusal call.Release holds = if holds == 0 then Some why.NotHeld else None
call_refusal call.Hold holds = if nat_le MOST_HOLDS holds then Some why.TooDeep else None
call_refusal _ holds = None

-- key and value are bytes
abbrev pub HasBytes : Call → Type 0
HasBytes (call.Put key value seconds) = AreBytes key × AreBytes value
HasBytes (call.Remove key) = AreBytes key
HasBytes _ = ⊤

-- the first reason for which a call isn't begun
abbrev pub refusal_at : Work → Call → ℕ → Option Refused
refusal_at Idle asked holds = call_refusal asked holds
refusal_at Ended asked holds = Some why.Ended
refusal_at (Runs running next) asked holds = Some why.CallRunning

abbrev pub refusal : OpenerState → Call → Option Refused
refusal o asked = refusal_at o.work asked o.holds

-- a write asks for the lock first where nothing is held; another call looks at the region at once
abbrev pub IsFirstPlain : Bool → Option Image → ℕ → Stage → Type 0
IsFirstPlain true image holds next = next ≡ stage.LockExclusive
IsFirstPlain false image holds next = Notices image holds None next

abbrev pub IsFirst : Option Image → ℕ → Call → Stage → Type 0
IsFirst image holds call.Hold next = next ≡ stage.Hold
IsFirst image holds call.Release next = next ≡ stage.Release
IsFirst image holds asked next = IsFirstPlain (is_write asked && (holds == 0)) image holds next

-- a call of which nothing is made yet
abbrev pub begun_at : Call → ℕ → ℕ → Running
begun_at asked now changes = record { call = asked; now = now; begun = changes; taken = None; loads = 0; stores = 0; locks = 0 }

-- the call runs, and has made no step
pub record Begins (asked : Call) (now changes : ℕ) (old new : OpenerState) : Type 0 where
  pub next : Stage
  pub first : IsFirst old.image old.holds asked next
  pub work : new ≡ record old { work = Runs (begun_at asked now changes) next }
