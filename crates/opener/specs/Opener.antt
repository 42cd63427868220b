-- An opener and the share that it uses.
use Rattle.std.specs.Prelude.{◌≡◌, ◌≢◌, ℕ, ◌+◌, ◌<◌, ◌≤◌, ◌⊎◌, Bool, true, false, List, [], ◌∷◌, ◌++◌, ◌==◌, if◌then◌else◌, length, take, slice_get, Option, Some, None, IfSome, Err, ⊤}
use Rattle.change_log.specs.Acts.{act_of, replay}
use Rattle.change_log.specs.History.{reply_in, IsMade}
use Rattle.change_log.specs.Settled.{AreOfCall}
use Rattle.change_log.specs.declared.call.Call.{Call}
use Rattle.change_log.specs.declared.call.Call.TheVariants as call
use Rattle.change_log.specs.declared.call.Reply.{Reply}
use Rattle.change_log.specs.declared.call.Answer.{Answer}
use Rattle.meta_record.specs.Records.{checked}
use Rattle.meta_record.specs.declared.record.RecordFault.TheVariants as fault
use Rattle.meta_record.specs.declared.shown.Shown.TheVariants.{Whole}
use Rattle.lock_rules.specs.declared.limits.TheConstants.{MOST_HOLDS, MOST_OPENERS}
use Rattle.lock_rules.specs.declared.table.LockKind.{LockKind}
use Rattle.lock_rules.specs.declared.table.LockKind.TheVariants.{Exclusive}
use Rattle.lock_rules.specs.declared.table.Tried.TheVariants.{Busy}
use Rattle.region_words.specs.Region.{Region, IsAccepted, record_of, header, base, shown, file_size}
use Rattle.region_words.specs.Past.{region_after, changes_of, locks_after}
use Rattle.region_words.specs.Apart.{Apart}
use Rattle.region_words.specs.Lawful.{Between, Reaches, map_after}
use Rattle.region_words.specs.Outcome.{AtRest}
use Rattle.region_words.specs.Rows.{standing}
use Rattle.region_words.specs.Images.{IsKept, checksum_at, sequence_at}
use Rattle.region_words.specs.Standings.{IsStandingOf}
use Rattle.region_words.specs.Told.{History, OnTold}
use Rattle.region_words.specs.Share.{ShareState, Agrees, After, Left, Fails, IsTurnedAway, Tries, StopsTrying, StopsReserving, lock_of}
use Rattle.region_words.specs.declared.event.Event.{Event}
use Rattle.region_words.specs.declared.event.What.{What}
use Rattle.region_words.specs.declared.stops.Peek.{Peek}
use Rattle.region_words.specs.declared.stops.ShareStop.TheVariants as stop
use Rattle.loader.specs.Loads.{HasLoaded, is_done, loads_of}
use Rattle.loader.specs.Maps.{map_of_image}
use Rattle.loader.specs.declared.loaded.Image.{Image}
use Rattle.opener.specs.Calls.{IsPlain, IsTried, holds_after, is_write}
use Rattle.opener.specs.Continues.{SameCall}
use Rattle.opener.specs.Ends.{OnImage, lock_by}
use Rattle.opener.specs.Extents.{CanLoad}
use Rattle.loader.specs.PartialLoads.{HasLoadedPart, IsGoing, IsSoundImage, kept_image}
use Rattle.opener.specs.Plans.{CanWrite, IsPlanOf, events_in, refusal_of}
use Rattle.opener.specs.declared.plan.Plan.{Plan}
use Rattle.opener.specs.State.{OpenerState}
use Rattle.opener.specs.Writes.{CanReserve, IsSoundPlan, PlanLeads, PlanStarts, HasMadeSoFar, OwesPlan, commits_in, events_of}
use Rattle.opener.specs.declared.calls.Step.{Step}
use Rattle.opener.specs.declared.calls.Step.TheVariants as step
use Rattle.opener.specs.declared.calls.Stop.{Stop}
use Rattle.opener.specs.declared.calls.Stop.TheVariants.{Fault, Memory, JournalFull, NotWhole, Version, Flags, Full, SequenceEnd, ExpiryOff, ExpiryRange, AlreadyOn, AlreadyOff}
use Rattle.opener.specs.declared.work.Running.{Running}
use Rattle.opener.specs.declared.work.End.{End}
use Rattle.opener.specs.declared.work.End.TheVariants as end
use Rattle.opener.specs.declared.work.Stage.{Stage}
use Rattle.opener.specs.declared.work.Stage.TheVariants.{PeekChecksum, PeekSequence, LockShared, LockExclusive, Continue, Load, Size, Reserve, Store, Unlock, Hold, Release}
use Rattle.opener.specs.declared.work.Work.{Work}
use Rattle.opener.specs.declared.work.Work.TheVariants.{Idle, Ended, Runs}

-- the same opener, at this stage of a call
abbrev pub running_as : OpenerState → Running → Stage → OpenerState
running_as o running stage = record o { work = Runs running stage }

-- the lock that is held: a hold's, or the one that the call has taken itself
abbrev pub lock_in : ℕ → Work → Option LockKind
lock_in holds Idle = lock_by holds None
lock_in holds Ended = None
lock_in holds (Runs running stage) = lock_by holds running.taken

abbrev pub is_ended : Work → Bool
is_ended Idle = false
is_ended Ended = true
is_ended (Runs running stage) = false

-- stores are under way
abbrev pub is_storing : Work → Bool
is_storing (Runs running (Store plan)) = true
is_storing _ = false

-- a call stops so for what it saw
abbrev pub IsSeen : Stop → Type 0
IsSeen Fault = ⊥
IsSeen _ = ⊤

abbrev pub MayEnd : End → Type 0
MayEnd (end.Answer place reply) = ⊤
MayEnd (end.Stop why) = IsSeen why

-- a call comes to a stage only so
abbrev pub Suits : Call → Stage → Type 0
Suits asked (LockShared extent) = IsPlain asked × (is_write asked ≡ false)
Suits asked LockExclusive = CanWrite asked
Suits asked Size = CanWrite asked
Suits asked (Reserve plan) = CanWrite asked
Suits asked (Store plan) = CanWrite asked
Suits asked Hold = asked ≡ call.Hold
Suits asked Release = asked ≡ call.Release
Suits asked _ = IsPlain asked

-- a write looks at the region under an exclusive lock
abbrev pub LooksUnder : Running → Option LockKind → Type 0
LooksUnder running lock = is_write running.call ≡ true → lock ≡ Some Exclusive

-- another call has taken no lock itself where it does
abbrev pub LooksFree : Running → Type 0
LooksFree running = is_write running.call ≡ false → running.taken ≡ None

-- what a stage wants of the opener, whatever the share tells
abbrev pub IsAtStage : OpenerState → Running → Stage → Type 0
IsAtStage o running PeekChecksum = (o.image ≢ None) × LooksUnder running (lock_by o.holds running.taken) × LooksFree running
IsAtStage o running (PeekSequence peek) = (o.image ≢ None) × LooksUnder running (lock_by o.holds running.taken) × LooksFree running
IsAtStage o running (LockShared extent) = (o.holds ≡ 0) × (running.taken ≡ None) × CanLoad extent o.image
IsAtStage o running LockExclusive = (o.holds ≡ 0) × (running.taken ≡ None)
IsAtStage o running (Continue loading) =
    IsGoing loading × (lock_by o.holds running.taken ≢ None) × LooksUnder running (lock_by o.holds running.taken)
    × IsSoundImage (kept_image loading.map loading) × (o.image ≡ None)
IsAtStage o running (Load loading) =
    (is_done loading ≡ false) × (lock_by o.holds running.taken ≢ None) × LooksUnder running (lock_by o.holds running.taken)
IsAtStage o running Size = (o.image ≢ None) × (lock_by o.holds running.taken ≡ Some Exclusive)
IsAtStage o running (Reserve plan) = (lock_by o.holds running.taken ≡ Some Exclusive) × CanReserve plan × IsSoundPlan o.who running plan
    × AreOfCall o.who running.call running.now (commits_in plan)
IsAtStage o running (Store plan) = (lock_by o.holds running.taken ≡ Some Exclusive) × IsSoundPlan o.who running plan
IsAtStage o running (Unlock how) = (running.taken ≢ None) × MayEnd how
IsAtStage o running Hold = (o.holds < MOST_HOLDS) × (running.taken ≡ None)
IsAtStage o running Release = 0 < o.holds

-- under a hold a call takes no lock itself
abbrev pub IsAt : OpenerState → Work → Type 0
IsAt o Idle = ⊤
IsAt o Ended = o.holds ≡ 0
IsAt o (Runs running stage) = (0 < o.holds → running.taken ≡ None) × Suits running.call stage × IsAtStage o running stage

-- no row is under way, and the region shows this image whole: the map of the history
pub record IsShown (i : Image) (start : Region) (past : List Event) : Type 0 where
  pub kept : IsKept start past i.standing.size (map_of_image i)
  pub known : IsStandingOf (region_after start past) i.standing.size i.standing
  pub history : map_of_image i ≡ map_after start past

-- it did at an earlier moment
pub record WasShown (i : Image) (start : Region) (past : List Event) : Type 0 where
  pub later : List Event
  pub earlier : List Event
  pub is : later ++ earlier ≡ past
  pub shown : IsShown i start earlier

-- What is known of the image that is kept: where checksums tell payloads apart, the start's record is accepted, and the image was
-- shown. That the file is no shorter, and has no version only where none is known, holds whatever the checksums are.
pub record IsImage (i : Image) (start : Region) (past : List Event) : Type 0 where
  pub accepted : Apart start past → IsAccepted start
  pub file : i.standing.file_size ≤ file_size (region_after start past)
  pub firm : (record_of (region_after start past)).version ≡ 0 → i.standing.version ≡ 0
  pub shown : IsAccepted start → Apart start past → WasShown i start past

abbrev pub ImageIs : Option Image → Region → List Event → Type 0
ImageIs image start past = OnImage image (λ i. IsImage i start past)

-- this was peeked at an earlier moment
pub record WasPeeked (image : Option Image) (peek : Peek) (begun : ℕ) (start : Region) (past : List Event) : Type 0 where
  pub later : List Event
  pub earlier : List Event
  pub is : later ++ earlier ≡ past
  pub place : peek.changes ≡ length (changes_of earlier)
  pub since : begun ≤ peek.changes
  pub checksum : peek.checksum ≡ checksum_at start earlier
  pub kept : ImageIs image start earlier

-- the reply is that of the history's map after so many changes
abbrev pub ReplyIs : Call → ℕ → Reply → ℕ → Region → List Event → Type 0
ReplyIs asked now reply place start past =
    IsAccepted start → Apart start past → reply ≡ reply_in (replay (base start) (take place (changes_of past))) now asked

-- the change that a call makes is this opener's, at this place
abbrev pub ChangeIs : ℕ → Running → ℕ → List Event → Type 0
ChangeIs who running place past =
    IfSome (act_of running.call running.now) (λ act. slice_get (changes_of past) place ≡ Some (record { maker = who; act = act }))

-- What a call of this kind finds in the region is the reason to stop. Where it finds no whole image, no row is under way, and the record
-- is accepted.
abbrev pub StopIs : Running → Stop → Region → List Event → Type 0
StopIs running (NotWhole seen) start past =
    (shown (region_after start past) ≡ seen) × ((n : ℕ) → seen ≢ Whole n) × (Apart start past → AtRest start past) × IsAccepted (region_after start past)
StopIs running (Version n) start past = let r = region_after start past in checked (record_of r) (header r) ≡ Err (fault.Version n)
StopIs running (Flags n) start past = let r = region_after start past in checked (record_of r) (header r) ≡ Err (fault.Flags n)
StopIs running Memory start past = ⊤
StopIs running JournalFull start past = ⊤
StopIs running why start past =
    IsAccepted start → Apart start past → refusal_of running.call running.now (standing (region_after start past)) (map_after start past) ≡ Some why

-- how a call ends once its lock is given up
abbrev pub EndIs : ℕ → End → Running → Region → List Event → Type 0
EndIs who (end.Answer place reply) running start past =
    (running.begun ≤ place) × (place ≤ length (changes_of past)) × ReplyIs running.call running.now reply place start past × ChangeIs who running place past
EndIs who (end.Stop why) running start past = ⊤

-- a write's change is the last of so many; the place of another call is their number
abbrev pub IsLastPlace : Bool → ℕ → ℕ → Type 0
IsLastPlace true place ended = place + 1 ≡ ended
IsLastPlace false place ended = place ≡ ended

-- the image that is kept has the checksum and the sequence of the region
abbrev pub MatchesRegion : Option Image → Region → List Event → Type 0
MatchesRegion None start past = ⊥
MatchesRegion (Some i) start past = (i.standing.checksum ≡ checksum_at start past) × (i.standing.sequence ≡ sequence_at start past)

-- so it has after a load, and after a write where checksums tell payloads apart
abbrev pub KeepsWords : Bool → Option Image → Region → List Event → Type 0
KeepsWords true image start past = IsAccepted start → Apart start past → MatchesRegion image start past
KeepsWords false image start past = MatchesRegion image start past

-- the region is still as the answer to come found it or left it
abbrev pub EndsNow : Option Image → End → Running → Region → List Event → Type 0
EndsNow image (end.Answer place reply) running start past =
    IsLastPlace (is_write running.call) place (length (changes_of past)) × KeepsWords (is_write running.call) image start past
EndsNow image (end.Stop why) running start past = ⊤

-- the image that the region shows, with the map of the history
abbrev pub image_at : Region → List Event → Image
image_at start past = record { standing = standing (region_after start past); map = map_after start past }

-- the plan is the one that the running call makes in the region as it is
abbrev pub PlanIs : ℕ → Running → Plan → Region → List Event → Type 0
PlanIs who running plan start past = IsAccepted start → Apart start past → IsPlanOf who running.call running.now (image_at start past) plan

-- the events of one opener among these, the first of them first
abbrev pub made_among : ℕ → List Event → List What
made_among who [] = []
made_among who (e ∷ later) = made_among who later ++ (if e.who == who then e.what ∷ [] else [])

-- The stores under way are those of a plan that the call made at an earlier moment, as its opener held the lock exclusive: it has made the
-- first events of that plan since, and no others, and these are left.
pub record IsUnderWay (who : ℕ) (running : Running) (plan : Plan) (start : Region) (past : List Event) : Type 0 where
  pub later : List Event
  pub earlier : List Event
  pub is : later ++ earlier ≡ past
  pub since : running.begun ≤ length (changes_of earlier)
  pub held : lock_of (locks_after earlier) who ≡ Some Exclusive
  pub whole : Plan
  pub planned : PlanIs who running whole start earlier
  pub rest : events_of whole ≡ made_among who later ++ events_of plan

-- what each stage knows of the journal
abbrev pub StageIs : OpenerState → Running → Stage → Region → List Event → Type 0
StageIs o running (PeekSequence peek) start past =
    WasPeeked o.image peek running.begun start past × (lock_by o.holds running.taken ≡ Some Exclusive → peek.checksum ≡ checksum_at start past)
StageIs o running (Continue loading) start past = HasLoadedPart loading (region_after start past) × IsImage (kept_image loading.map loading) start past
StageIs o running (Load loading) start past = HasLoaded loading (region_after start past)
StageIs o running Size start past = OnImage o.image (λ i. IsAccepted start → Apart start past → IsShown i start past)
StageIs o running (Reserve plan) start past = PlanStarts o.who running plan start past × PlanLeads plan start past × PlanIs o.who running plan start past
StageIs o running (Store plan) start past = PlanLeads plan start past × HasMadeSoFar o.who running plan past × IsUnderWay o.who running plan start past
StageIs o running (Unlock how) start past = EndIs o.who how running start past × EndsNow o.image how running start past
StageIs o running _ start past = ⊤

abbrev pub WorkIs : OpenerState → Work → Region → List Event → Type 0
WorkIs o Idle start past = ⊤
WorkIs o Ended start past = ⊤
WorkIs o (Runs running stage) start past = (running.begun ≤ length (changes_of past)) × StageIs o running stage start past

-- no row is under way, and none has just made room for another
abbrev pub IsCalm : Region → List Event → Type 0
IsCalm start past = Reaches start past (Between None)

-- what an opener knows of its share's journal
pub record Facts (o : OpenerState) (start : Region) (past : List Event) : Type 0 where
  pub image : ImageIs o.image start past
  pub rests : lock_in o.holds o.work ≡ Some Exclusive → is_storing o.work ≡ false → Apart start past → IsCalm start past
  pub work : WorkIs o o.work start past

pub record Knows (o : OpenerState) (s : ShareState) (h : History) : Type 0 where
  pub agrees : Agrees s h
  pub facts : Facts o h.start h.past

-- the stores to come are owed; where none are to come, no place is reserved
abbrev pub Owes : OpenerState → Work → ShareState → Type 0
Owes o (Runs running (Store plan)) s = OwesPlan o.who running plan s
Owes o _ s = s.reserved s.who ≡ 0

-- the share stands as the opener's last call left it
pub record Tied (o : OpenerState) (s : ShareState) : Type 0 where
  pub who : s.who ≡ o.who
  pub maker : (1 ≤ o.who) × (o.who ≤ MOST_OPENERS)
  pub ended : s.ended ≡ is_ended o.work
  pub holds : s.holds ≡ lock_in o.holds o.work
  pub deep : o.holds ≤ MOST_HOLDS
  pub sound : OnImage o.image IsSoundImage
  pub at : IsAt o o.work
  pub owes : Owes o o.work s
  pub told : OnTold s.told (Knows o s)

-- an answer stands in the history, between its begin and its end, and an own change stands at its place
pub record IsAnswer (a : Answer) (start : Region) (past : List Event) : Type 0 where
  pub begun : a.begun ≤ a.place
  pub placed : a.place ≤ a.ended
  pub ended : a.ended ≡ length (changes_of past)
  pub reply : ReplyIs a.call a.now a.reply a.place start past
  pub made : IsMade (base start) (changes_of past) a

abbrev pub OnAnswer : Step → (Answer → Type 0) → Type 0
OnAnswer (step.Answered a) P = P a
OnAnswer _ P = ⊤

-- an answer of the call that ran
pub record IsAnswerOf (a : Answer) (who : ℕ) (running : Running) : Type 0 where
  pub by : a.who ≡ who
  pub call_is : a.call ≡ running.call
  pub moment : a.now ≡ running.now
  pub begun : a.begun ≡ running.begun

-- the call runs on
abbrev pub RunsOn : Running → Work → Type 0
RunsOn running Idle = ⊥
RunsOn running Ended = ⊥
RunsOn running (Runs next stage) = SameCall running next

-- What is answered is the call that ran, and until then it runs on. The holds change by an answered hold or release alone, and a fault
-- gives them up.
abbrev pub KeepsCall : ℕ → ℕ → Running → Step → OpenerState → Type 0
KeepsCall who holds running step.Idle new = ⊥
KeepsCall who holds running (step.Answered a) new = IsAnswerOf a who running × (new.work ≡ Idle) × (new.holds ≡ holds_after running.call holds)
KeepsCall who holds running (step.Stopped Fault) new = (new.work ≡ Ended) × (new.holds ≡ 0)
KeepsCall who holds running (step.Stopped why) new = (new.work ≡ Idle) × (new.holds ≡ holds)
KeepsCall who holds running _ new = RunsOn running new.work × (new.holds ≡ holds)

-- without a call that runs, nothing is made
abbrev pub KeepsWork : OpenerState → Step → OpenerState → Type 0
KeepsWork old result new = KeepsWorkOf old.work result
  where
    KeepsWorkOf : Work → Step → Type 0
    KeepsWorkOf Idle result = (result ≡ step.Idle) × (new ≡ old)
    KeepsWorkOf Ended result = (result ≡ step.Idle) × (new ≡ old)
    KeepsWorkOf (Runs running stage) result = KeepsCall old.who old.holds running result new

-- at most one call was made on the share, and it made at most one event
abbrev pub MakesOne : ShareState → ShareState → Type 0
MakesOne s t = (t ≡ s) ⊎ ((left : Left) × After left s t × (length left.own ≤ 1))

-- the stop with which a call ends once its lock is given up
abbrev pub stop_found : Work → Option Stop
stop_found (Runs running (Unlock (end.Stop why))) = Some why
stop_found _ = None

-- the share had no places for the stores that the call makes in the region as it is
abbrev pub HasNoPlaces : Work → ShareState → ShareState → Type 0
HasNoPlaces (Runs running (Reserve plan)) s t =
    StopsReserving (events_in plan) stop.JournalFull s t × (s.reserved s.who ≡ 0) × OnTold t.told (λ h. PlanIs s.who running plan h.start h.past)
HasNoPlaces _ s t = ⊥

-- where a call finds this in the region: that the record is refused by the tenth load, the last of the record and the header; that no
-- image is whole once it is loaded; and why a write isn't made once the file's size is known
abbrev pub IsFoundAt : Stage → Stop → Type 0
IsFoundAt (Load loading) (Version n) = loads_of loading ≡ 9
IsFoundAt (Load loading) (Flags n) = loads_of loading ≡ 9
IsFoundAt (Load loading) (NotWhole seen) = ⊤
IsFoundAt Size (Full need) = ⊤
IsFoundAt Size SequenceEnd = ⊤
IsFoundAt Size ExpiryOff = ⊤
IsFoundAt Size ExpiryRange = ⊤
IsFoundAt Size AlreadyOn = ⊤
IsFoundAt Size AlreadyOff = ⊤
IsFoundAt _ _ = ⊥

-- a write is refused by one that holds exclusive
abbrev pub IsHeldFor : Stop → ShareState → Type 0
IsHeldFor (Full need) t = t.holds ≡ Some Exclusive
IsHeldFor SequenceEnd t = t.holds ≡ Some Exclusive
IsHeldFor ExpiryOff t = t.holds ≡ Some Exclusive
IsHeldFor ExpiryRange t = t.holds ≡ Some Exclusive
IsHeldFor AlreadyOn t = t.holds ≡ Some Exclusive
IsHeldFor AlreadyOff t = t.holds ≡ Some Exclusive
IsHeldFor _ t = ⊤

-- why a call stops
abbrev pub HasReason : Work → Stop → ShareState → ShareState → Type 0
HasReason old Fault s t = Fails s t
HasReason old Memory s t = ⊤
HasReason old JournalFull s t = ((kind : LockKind) × IsTried old kind × StopsTrying kind stop.JournalFull s t) ⊎ HasNoPlaces old s t
HasReason (Runs running stage) why s t = IsFoundAt stage why × IsHeldFor why t × OnTold t.told (λ h. StopIs running why h.start h.past)
HasReason _ why s t = ⊥

-- a stop has its reason where it is found, and after that its call only gives its lock up
abbrev pub HasStopped : Option Stop → Work → Stop → ShareState → ShareState → Type 0
HasStopped None old why s t = HasReason old why s t
HasStopped (Some found) old why s t = (why ≡ found) ⊎ ((why ≡ Fault) × Fails s t)

-- why a step of a call that was at this work came to this
abbrev pub HasCause : Work → Step → Work → ShareState → ShareState → Type 0
HasCause old step.Idle new s t = t ≡ s
HasCause old step.Going new s t = IfSome (stop_found new) (λ why. HasReason old why s t)
HasCause old step.Again new s t = IsTurnedAway s t × (new ≡ old)
HasCause old (step.Blocked holder) new s t = (kind : LockKind) × IsTried old kind × Tries kind (Busy holder) s t
HasCause old (step.Answered a) new s t = ⊤
HasCause old (step.Stopped why) new s t = HasStopped (stop_found old) old why s t
