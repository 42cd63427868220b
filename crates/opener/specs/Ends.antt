-- What an opener is left with after a stage.
use Rattle.std.specs.Prelude.{◌≡◌, ℕ, ◌-◌, ◌⊎◌, Bool, true, false, Option, Some, None, max, ◌==◌, if◌then◌else◌, ⊤}
use Rattle.expiring_map.specs.Map.{Map}
use Rattle.change_log.specs.History.{reply_in}
use Rattle.change_log.specs.declared.call.Reply.{Reply}
use Rattle.change_log.specs.declared.call.Reply.TheVariants.{Done}
use Rattle.change_log.specs.declared.call.Answer.{Answer}
use Rattle.lock_rules.specs.declared.table.LockKind.{LockKind}
use Rattle.lock_rules.specs.declared.table.LockKind.TheVariants.{Exclusive}
use Rattle.meta_record.specs.declared.record.RecordFault.{RecordFault}
use Rattle.meta_record.specs.declared.record.RecordFault.TheVariants as fault
use Rattle.meta_record.specs.declared.shown.Shown.{Shown}
use Rattle.meta_record.specs.declared.shown.Shown.TheVariants.{Whole}
use Rattle.region_words.specs.Region.{Region}
use Rattle.region_words.specs.Making.{Making}
use Rattle.region_words.specs.declared.standing.Standing.{Standing}
use Rattle.loader.specs.Loads.{Load, HasLoaded, is_done, loads_of}
use Rattle.loader.specs.Maps.{map_of_image}
use Rattle.loader.specs.declared.loaded.Image.{Image}
use Rattle.loader.specs.declared.loaded.Loaded.{Loaded}
use Rattle.opener.specs.Calls.{is_write}
use Rattle.loader.specs.PartialLoads.{IsSoundImage}
use Rattle.opener.specs.declared.calls.Step.{Step}
use Rattle.opener.specs.declared.calls.Step.TheVariants as step
use Rattle.opener.specs.declared.calls.Stop.{Stop}
use Rattle.opener.specs.declared.calls.Stop.TheVariants as why
use Rattle.opener.specs.declared.plan.Plan.TheVariants.{Append}
use Rattle.opener.specs.declared.work.Running.{Running}
use Rattle.opener.specs.declared.work.End.{End}
use Rattle.opener.specs.declared.work.End.TheVariants as end
use Rattle.opener.specs.declared.work.Extent.TheVariants.{Full}
use Rattle.opener.specs.declared.work.Stage.{Stage}
use Rattle.opener.specs.declared.work.Stage.TheVariants as stage
use Rattle.opener.specs.declared.work.Work.TheVariants.{Idle, Runs}
use Rattle.opener.specs.State.{OpenerState}

-- the answer of a call at this place
abbrev pub answer_of : ℕ → Running → ℕ → ℕ → Reply → Answer
answer_of who running place ended reply =
    record {
      who = who;
      call = running.call;
      now = running.now;
      begun = running.begun;
      place = place;
      ended = ended;
      reply = reply;
      loads = running.loads;
      stores = running.stores;
      locks = running.locks;
    }

-- why a call stops whose record is refused
abbrev pub stop_of : RecordFault → Stop
stop_of (fault.Version n) = why.Version n
stop_of (fault.Flags n) = why.Flags n

-- the call is over: it is answered, or stopped, and then no image is kept
abbrev pub Finishes : Running → End → ℕ → OpenerState → Step → OpenerState → Type 0
Finishes running (end.Answer place reply) ended old result new =
    (result ≡ step.Answered (answer_of old.who running place ended reply)) × (new ≡ record old { work = Idle })
Finishes running (end.Stop stop) ended old result new = (result ≡ step.Stopped stop) × (new ≡ record old { image = None; work = Idle })

-- a hold or a release is answered, and leaves so many holds
abbrev pub IsDone : Running → ℕ → ℕ → OpenerState → Step → OpenerState → Type 0
IsDone running holds place old result new =
    (result ≡ step.Answered (answer_of old.who running place place Done)) × (new ≡ record old { holds = holds; work = Idle })

-- the call goes on with this stage
abbrev pub GoesOn : Running → Stage → OpenerState → Step → OpenerState → Type 0
GoesOn running stage old result new = (result ≡ step.Going) × (new ≡ record old { work = Runs running stage })

-- the call waits for a holder
abbrev pub Waits : Running → Stage → ℕ → OpenerState → Step → OpenerState → Type 0
Waits running stage holder old result new = (result ≡ step.Blocked holder) × (new ≡ record old { work = Runs running stage })

-- a lock that the call has taken itself is given up first
abbrev pub LeavesBy : Option LockKind → Running → End → ℕ → OpenerState → Step → OpenerState → Type 0
LeavesBy None running how ended old result new = Finishes running how ended old result new
LeavesBy (Some kind) running how ended old result new = GoesOn running (stage.Unlock how) old result new

abbrev pub Leaves : Running → End → ℕ → OpenerState → Step → OpenerState → Type 0
Leaves running how ended old result new = LeavesBy running.taken running how ended old result new

-- a load of which nothing is made yet
pub record IsFresh (l : Load) : Type 0 where
  pub none : loads_of l ≡ 0
  pub going : is_done l ≡ false
  pub told : (r : Region) → HasLoaded l r

-- the lock that is held beside so many holds by a call that has taken this one
abbrev pub lock_by : ℕ → Option LockKind → Option LockKind
lock_by holds taken = if holds == 0 then taken else Some Exclusive

-- the whole region is loaded next, or a shared lock is asked for where nothing is held
abbrev pub ReadsBy : Option LockKind → Stage → Type 0
ReadsBy None next = next ≡ stage.LockShared Full
ReadsBy (Some kind) next = (loading : Load) × (next ≡ stage.Load loading) × IsFresh loading

abbrev pub Reads : ℕ → Option LockKind → Stage → Type 0
Reads holds taken next = ReadsBy (lock_by holds taken) next

-- a look at the checksum is next where an image is kept, and a load where none is
abbrev pub Notices : Option Image → ℕ → Option LockKind → Stage → Type 0
Notices None holds taken next = Reads holds taken next
Notices (Some i) holds taken next = next ≡ stage.PeekChecksum

-- this holds of the image that is kept
abbrev pub OnImage : Option Image → (Image → Type 0) → Type 0
OnImage None P = ⊤
OnImage (Some i) P = P i

-- the call ends with the reply of this map, or memory is short
abbrev pub Replies : Running → Image → ℕ → End → Type 0
Replies running i place how =
    ((reply : Reply) × (reply ≡ reply_in (map_of_image i) running.now running.call) × (how ≡ end.Answer place reply)) ⊎ (how ≡ end.Stop why.Memory)

-- a write goes on to the file's size, and another call is answered by the image
abbrev pub IsReadyBy : Bool → Running → ℕ → ℕ → OpenerState → Step → OpenerState → Type 0
IsReadyBy true running place ended old result new = GoesOn running stage.Size old result new
IsReadyBy false running place ended old result new =
    (how : End) × OnImage old.image (λ i. Replies running i place how) × Leaves running how ended old result new

abbrev pub IsReady : Running → ℕ → ℕ → OpenerState → Step → OpenerState → Type 0
IsReady running place ended old result new = IsReadyBy (is_write running.call) running place ended old result new

-- a whole image is kept; without one the call stops
abbrev pub IsLoadedBy : Shown → Running → Loaded → ℕ → OpenerState → Step → OpenerState → Type 0
IsLoadedBy (Whole n) running loaded place old result new = IsReady running place place (record old { image = Some loaded.image }) result new
IsLoadedBy shown running loaded place old result new = Leaves running (end.Stop (why.NotWhole shown)) place old result new

abbrev pub IsLoaded : Running → Loaded → ℕ → OpenerState → Step → OpenerState → Type 0
IsLoaded running loaded place old result new = IsLoadedBy loaded.shown running loaded place old result new

-- the image, with the size of the file that was asked for: a file never shrinks
abbrev pub sized_image : Image → ℕ → Image
sized_image i size = record i { standing = record i.standing { file_size = max size i.standing.file_size } }

-- an image is kept, and it is sound beside a file of this size
abbrev pub IsKeptSound : Option Image → ℕ → Type 0
IsKeptSound None size = ⊥
IsKeptSound (Some i) size = IsSoundImage (sized_image i size)

-- all is stored: the call's change is the last of so many, and the image is kept
abbrev pub Written : Running → Image → ℕ → OpenerState → Step → OpenerState → Type 0
Written running image ended old result new = Leaves running (end.Answer (ended - 1) Done) ended (record old { image = Some image }) result new

-- the pairs are written anew: an item is appended next, or the call ends
abbrev pub Rewritten : Running → Standing → Option Making → Map → ℕ → OpenerState → Step → OpenerState → Type 0
Rewritten running standing (Some appending) map ended old result new = GoesOn running (stage.Store (Append appending map)) old result new
Rewritten running standing None map ended old result new = Written running (record { standing = standing; map = map }) ended old result new
