-- How far a script has been played.
use Rattle.std.specs.Prelude.{◌≡◌, ◌≢◌, ℕ, ◌*◌, ◌+◌, ◌-◌, ◌<◌, ◌≤◌, ◌⊎◌, Bool, List, [], ◌∷◌, ◌++◌, All, Option, Some, None, Result, Ok, Err, length, flat_map, slice_get, slice_set, IfSome, IsTrue, false, true, is_some, nat_le, option_map, codes, decimal, ⊤}
use Rattle.change_log.specs.Settled.{AreEndedBy}
use Rattle.change_log.specs.declared.call.Answer.{Answer}
use Rattle.change_log.specs.declared.call.Call.{Call as Asked}
use Rattle.handlers.specs.declared.handler.Strategy.{Strategy}
use Rattle.opener.specs.Adds.{AreMadeBy, AreStoredBy}
use Rattle.opener.specs.Bound.{steps_left}
use Rattle.opener.specs.Counted.{counted}
use Rattle.opener.specs.Calls.{holds_after}
use Rattle.opener.specs.Opener.{OnAnswer, IsAnswer, is_ended, stop_found}
use Rattle.opener.specs.Settles.{answers_by}
use Rattle.opener.specs.State.{OpenerState}
use Rattle.opener.specs.declared.calls.Step.{Step}
use Rattle.opener.specs.declared.calls.Step.TheVariants as step
use Rattle.opener.specs.declared.work.Running.{Running as Call}
use Rattle.opener.specs.declared.calls.Stop.{Stop}
use Rattle.opener.specs.declared.calls.Stop.TheVariants as stop
use Rattle.opener.specs.declared.work.End.TheVariants as end
use Rattle.opener.specs.declared.work.Stage.TheVariants.{Unlock}
use Rattle.opener.specs.declared.work.Work.{Work}
use Rattle.opener.specs.declared.work.Work.TheVariants.{Idle, Runs}
use Rattle.meta_record.specs.declared.shown.Shown.TheVariants.{Whole}
use Rattle.region_words.specs.Apart.{Apart}
use Rattle.region_words.specs.Region.{IsRegion, Region, file_size, shown}
use Rattle.region_words.specs.Past.{AreSteps, NoneDies, changes_of, region_after}
use Rattle.region_words.specs.Local.{Local, Seated, account_of}
use Rattle.region_words.specs.declared.event.Event.{Event}
use Rattle.region_words.specs.declared.event.What.{What}
use Rattle.script_lang.specs.Lines.{IsLine}
use Rattle.script_lang.specs.Texts.{line as text_line, outcome_line}
use Rattle.script_lang.specs.declared.line.Line.{Line}
use Rattle.script_lang.specs.declared.outcome.Outcome.{Outcome}
use Rattle.script_lang.specs.declared.outcome.Outcome.TheVariants.{Answered, Blocked, Stopped}
use Rattle.script_lang.specs.declared.outcome.Reason.{Reason}
use Rattle.world.specs.World.{Lives, WorldState}
use Rattle.world.specs.Moves.{IsSaid}
use Rattle.world.specs.declared.moves.Moved.{Moved}
use Rattle.world.specs.declared.moves.Moved.TheVariants as moved
use Rattle.mmkv_top.specs.declared.halt.Halt.{Halt}
use Rattle.mmkv_top.specs.declared.halt.Halt.TheVariants as halt
use Rattle.script_lang.specs.declared.limits.TheConstants.{LARGEST_COUNT, LARGEST_LINE}
use Rattle.mmkv_top.specs.State.{PlayState}
use Rattle.mmkv_top.specs.Ending.{ending}
use Rattle.mmkv_top.specs.declared.ending.Ending.{Ending}
use Rattle.script_lang.specs.Parts.{Part, lines_of, past_of, outcomes_of, answers_in, strategies, holds_of, asked_of, locks_among, stores_among, Running, running, going_on}
use Rattle.script_lang.specs.Played.{Stock, stocked, drawn, AreHeld, ArePlayed, AreReasoned, AreRoomy, AreTorn, MeetsFullJournal, MeetsNoImage, AsksFor, IsTooFull, IsAnsweredBy, IsBlockedBy, WasRefused, reason_said}
use Rattle.script_lang.specs.Kept.{ReadByWords, kept_of, looked, looks_of}
use Rattle.script_lang.specs.Script.{IsWithin, AreLines}
use Rattle.script_lang.specs.Journal.{AreAnswered, AreHistories, AreInTime, ArePlayable, CanTake, IsFirstRefused, IsHalted, IsRefusedIn, ShowAtRest}
use Rattle.mmkv_top.specs.Looking.{HasLooked, IsLooking}
use Rattle.mmkv_top.specs.Play.{not_yet}

-- the opener runs this call
pub record Follows (c : Call) (r : Running) : Type 0 where
  pub call : c.call ≡ r.call
  pub moment : c.now ≡ r.now
  pub begun : c.begun ≡ length (changes_of r.past)
  pub stores : c.stores ≡ counted (stores_among r.since)
  pub locks : c.locks ≡ counted (locks_among r.since)

-- the opener runs the call that runs after the lines
abbrev pub FollowsWork : Work → Option Running → Type 0
FollowsWork Idle None = ⊤
FollowsWork (Runs c stage) (Some r) = Follows c r
FollowsWork _ _ = ⊥

-- The last step of a line came to this, where the events so far are these and this call ran, if any, beside so many holds.
abbrev pub CameTo : ℕ → List Event → ℕ → Option Running → Step → OpenerState → Type 0
CameTo who past held r step.Going o = FollowsWork o.work r × (o.holds ≡ held)
CameTo who past held None step.Idle o = FollowsWork o.work None × (o.holds ≡ held)
CameTo who past held (Some r) (step.Blocked holder) o =
    FollowsWork o.work (Some r) × (o.holds ≡ held) × IsBlockedBy past r who holder
CameTo who past held (Some r) (step.Answered a) o = (o.work ≡ Idle) × (o.holds ≡ holds_after r.call held) × IsAnsweredBy past r who a
CameTo who past held (Some r) (step.Stopped why) o = (o.work ≡ Idle) × (o.holds ≡ held)
CameTo who past held _ _ o = ⊥

-- after so many steps of a line so many fewer are left to the call, within a data file of no fewer words than it has
abbrev pub LeavesFewer : Step → Work → Work → ℕ → ℕ → Type 0
LeavesFewer step.Going first work count size = (words : ℕ) → size ≤ 4 * words → steps_left words work + count ≤ steps_left words first
LeavesFewer (step.Blocked holder) first work count size = (words : ℕ) → size ≤ 4 * words → steps_left words work ≤ steps_left words first
LeavesFewer _ first work count size = ⊤

-- where the reason of a stop is one that is printed, the write was refused for it
abbrev pub StopHolds : ℕ → Stop → Asked → ℕ → ℕ → Region → List Event → Type 0
StopHolds who why asked now begun start past = IsTrue (is_some (reason_said why)) → WasRefused who why asked now begun start past

-- so it is of a stop that is found, and of one that a step came to
abbrev pub FoundIs : ℕ → Work → Region → List Event → Type 0
FoundIs who (Runs c (Unlock (end.Stop why))) start past = StopHolds who why c.call c.now c.begun start past
FoundIs who _ start past = ⊤

abbrev pub StoppedIs : ℕ → Step → Option Running → Region → List Event → Type 0
StoppedIs who (step.Stopped why) (Some r) start past = StopHolds who why r.call r.now (length (changes_of r.past)) start past
StoppedIs who _ before start past = ⊤

-- At an earlier moment the region showed no whole image. Where the start shows one, an opener had died, or checksums don't tell payloads apart
-- there.
pub record SawNoImage (start : Region) (past : List Event) : Type 0 where
  pub later : List Event
  pub earlier : List Event
  pub is : later ++ earlier ≡ past
  pub not_whole : (n : ℕ) → shown (region_after start earlier) ≢ Whole n
  pub apart : (n : ℕ) → shown start ≡ Whole n → NoneDies earlier → Apart start earlier → ⊥

-- what a stop tells of the region: the record of an accepted region is never refused, and no call fails
abbrev pub StopSaw : Stop → Region → List Event → Type 0
StopSaw (stop.NotWhole seen) start past = SawNoImage start past
StopSaw (stop.Version n) start past = ⊥
StopSaw (stop.Flags n) start past = ⊥
StopSaw stop.Fault start past = ⊥
StopSaw _ start past = ⊤

-- so it is of a stop that is found, and of one that a step came to
abbrev pub FoundSaw : Work → Region → List Event → Type 0
FoundSaw work start past = IfSome (stop_found work) (λ why. StopSaw why start past)

abbrev pub StoppedSaw : Step → Region → List Event → Type 0
StoppedSaw (step.Stopped why) start past = StopSaw why start past
StoppedSaw _ start past = ⊤

-- no want of places was found
abbrev pub IsUnfull : Work → Type 0
IsUnfull work = stop_found work ≢ Some stop.JournalFull

-- after fewer events than so many the call that runs asked for places that the journal hadn't, where so many openers were opened
pub record MetFull (who opened : ℕ) (start : Region) (past : List Event) (before : Option Running) (count : ℕ) : Type 0 where
  pub call : Running
  pub runs : before ≡ Some call
  pub made : List Event
  pub few : length made < count
  pub own : AreSteps who made
  pub asked : ℕ
  pub asks : AsksFor start who call (made ++ past) asked
  pub full : IsTooFull opened (made ++ past) asked

-- so it is where a step came to that
abbrev pub StoppedFull : ℕ → ℕ → Step → Region → List Event → Option Running → ℕ → Type 0
StoppedFull who opened (step.Stopped stop.JournalFull) start past before count = MetFull who opened start past before count
StoppedFull who opened _ start past before count = ⊤

-- the first openers, so many, were let in, and nobody else
abbrev pub IsOpenTo : ℕ → Local → Type 0
IsOpenTo opened l = (w : ℕ) → 1 ≤ w → (account_of l.accounts w).admitted ≡ nat_le w opened

-- the seat of an opener
abbrev pub seat_at : ℕ → Local → Seated
seat_at who l = record { who = who; region = l }

-- The stores and growths of the call that runs, once a step came to this. The stores are among them.
abbrev pub HasStored : Step → Work → Option Running → Type 0
HasStored last work None = ⊤
HasStored last work (Some r) = (stored : List What) × (stores_among r.since ≤ length stored) × AreStoredBy last work stored

-- what the call that runs has changed, once a step came to this
abbrev pub HasMarked : ℕ → Step → Work → Option Running → Type 0
HasMarked who last work None = ⊤
HasMarked who last work (Some r) = (c : Call) × (c.call ≡ r.call) × (c.now ≡ r.now) × AreMadeBy who c last work (changes_of r.since)

-- So many steps of an opener, which was at this work, were made at most, the last of them came to this, and these are their events. So many
-- openers were opened.
pub record Stepped (who opened : ℕ) (start : Region) (past : List Event) (held : ℕ) (before : Option Running) (first : Work) (count : ℕ) (last : Step) (made : List Event) (o : OpenerState) (s : Seated) : Type 0 where
  pub few : length made ≤ count
  pub own : AreSteps who made
  pub idle : before ≡ None → made ≡ []
  pub number : o.who ≡ who
  pub seat : s.who ≡ who
  pub start_is : s.region.start ≡ start
  pub past_is : s.region.past ≡ made ++ past
  pub steady : s.region.failing.listed ≡ []
  pub answer : OnAnswer last (λ a. IsAnswer a s.region.start s.region.past)
  pub came : CameTo who s.region.past held (option_map (going_on made) before) last o
  pub fewer : LeavesFewer last first o.work count (file_size (region_after s.region.start s.region.past))
  pub found : FoundIs who o.work s.region.start s.region.past
  pub stopped : StoppedIs who last before s.region.start s.region.past
  pub open_to : IsOpenTo opened s.region
  pub saw : FoundSaw o.work s.region.start s.region.past
  pub stopped_saw : StoppedSaw last s.region.start s.region.past
  pub unfull : IsUnfull o.work
  pub full : StoppedFull who opened last start past before count
  pub stored : HasStored last o.work (option_map (going_on made) before)
  pub marked : HasMarked who last o.work (option_map (going_on made) before)

-- a step of an opener came to this and left it so; its answer is behind the others, and nobody else moved
pub record Leaves (who : ℕ) (next : OpenerState) (came : Step) (old new : WorldState) : Type 0 where
  pub openers : new.openers ≡ slice_set old.openers (who - 1) next
  pub answers : new.answers ≡ old.answers ++ answers_by came

-- so many steps of an opener that lived were made at most, and this is said of the last
pub record Walks (who opened : ℕ) (start : Region) (past : List Event) (held : ℕ) (before : Option Running) (first : Work) (count : ℕ) (said : Moved) (old new : WorldState) : Type 0 where
  pub next : OpenerState
  pub came : Step
  pub made : List Event
  pub is : IsSaid (length old.answers) came said
  pub stepped : Stepped who opened start past held before first count came made next (seat_at who new.region)
  pub leaves : Leaves who next came old new
  pub looking : (o : OpenerState) → Lives old.openers who o → (kept : Option (List Event)) (looks : List (List Event)) →
      (Apart start past → IsLooking start kept looks o.image o.work before) → Apart start (made ++ past) →
      HasLooked start kept looks (looked looks count past) came next (option_map (going_on made) before) (made ++ past)

-- the outcome of a line whose last step of an opener came to this, if it has one
abbrev pub IsOutcomeAt : ℕ → Step → Option Outcome → Type 0
IsOutcomeAt who (step.Blocked holder) o = o ≡ Some (Blocked who holder)
IsOutcomeAt who (step.Answered a) o = o ≡ Some (Answered a)
IsOutcomeAt who (step.Stopped why) o = (r : Reason) × (o ≡ Some (Stopped who r)) × (reason_said why ≡ Some r)
IsOutcomeAt who _ o = o ≡ None

-- an answer that is said of a step stands among the answers
abbrev pub IsPlaced : ℕ → Moved → Type 0
IsPlaced count (moved.Answered place) = place < count
IsPlaced count _ = ⊤

-- no reason is printed for what a call that stops so saw
abbrev pub IsUnsaid : Stop → Type 0
IsUnsaid (stop.NotWhole seen) = ⊤
IsUnsaid (stop.Version n) = ⊤
IsUnsaid (stop.Flags n) = ⊤
IsUnsaid stop.Fault = ⊤
IsUnsaid _ = ⊥

-- why a stop without a reason that is printed ends the play
abbrev pub IsHaltOf : Stop → Halt → Type 0
IsHaltOf why halt.Refused = ⊥
IsHaltOf why halt.Memory = ⊤
IsHaltOf why halt.JournalFull = why ≡ stop.JournalFull
IsHaltOf why halt.NotWhole = IsUnsaid why

-- and so does a step that came to one
abbrev pub HaltsBy : Moved → Halt → Type 0
HaltsBy last halt.Memory = ⊤
HaltsBy last why = (found : Stop) × (last ≡ moved.Stopped found) × IsHaltOf found why

-- the text of a line whose last step of an opener came to this, where these are all answers
abbrev pub IsTextOf : ℕ → List Answer → Moved → List ℕ → Type 0
IsTextOf who answers (moved.Answered place) text = (a : Answer) × (slice_get answers place ≡ Some a) × (text ≡ outcome_line (Answered a))
IsTextOf who answers (moved.Blocked holder) text = text ≡ outcome_line (Blocked who holder)
IsTextOf who answers (moved.Stopped why) text = (r : Reason) × (text ≡ outcome_line (Stopped who r)) × (reason_said why ≡ Some r)
IsTextOf who answers _ text = text ≡ []

-- it is added
abbrev pub Notes : ℕ → List Answer → Moved → List ℕ → List ℕ → Type 0
Notes who answers last old new = (more : List ℕ) × IsTextOf who answers last more × (new ≡ old ++ more)

-- what an opener answered was answered before its running call began
abbrev pub AreEarlier : ℕ → Option Running → List Answer → Type 0
AreEarlier who None answers = ⊤
AreEarlier who (Some r) answers = All (λ a. a.who ≡ who → a.ended ≤ length (changes_of r.past)) answers

-- the steps left to a call that runs, and those that were asked of it, are at most six a word and a hundred
abbrev pub IsBounded : Work → ℕ → ℕ → Type 0
IsBounded (Runs c stage) asked size = (words : ℕ) → size ≤ 4 * words → steps_left words (Runs c stage) + asked ≤ 6 * words + 100
IsBounded _ asked size = ⊤

-- a living opener after these lines
pub record IsOpened (start : Region) (parts : List Part) (who : ℕ) (o : OpenerState) : Type 0 where
  pub follows : FollowsWork o.work (running who parts)
  pub holds : o.holds ≡ holds_of who parts
  pub earlier : AreEarlier who (running who parts) (answers_in (outcomes_of parts))
  pub bounded : IsBounded o.work (asked_of who parts) (file_size (region_after start (past_of parts)))
  pub found : FoundIs who o.work start (past_of parts)
  pub saw : FoundSaw o.work start (past_of parts)
  pub unfull : IsUnfull o.work
  pub stored : HasStored step.Going o.work (running who parts)
  pub marked : HasMarked who step.Going o.work (running who parts)
  pub looking : Apart start (past_of parts) → IsLooking start (kept_of who parts) (looks_of who parts) o.image o.work (running who parts)

-- an opener that died runs nothing and holds nothing
pub record IsGone (parts : List Part) (who : ℕ) : Type 0 where
  pub idle : running who parts ≡ None
  pub held : holds_of who parts ≡ 0

-- an opener after these lines, be it alive or dead
pub record IsLeft (start : Region) (parts : List Part) (who : ℕ) (o : OpenerState) : Type 0 where
  pub alive : is_ended o.work ≡ false → IsOpened start parts who o
  pub dead : is_ended o.work ≡ true → IsGone parts who

-- so many openers were opened, and none has this number
abbrev pub IsNobody : ℕ → ℕ → Type 0
IsNobody opened who = (who ≡ 0) ⊎ (opened < who)

-- nothing was done by it
pub record IsUnopened (parts : List Part) (who : ℕ) : Type 0 where
  pub idle : running who parts ≡ None
  pub held : holds_of who parts ≡ 0
  pub keeps : kept_of who parts ≡ None

-- these parts were played, and so much is left of the stock
pub record IsAt (stock left : Stock) (start : Region) (parts : List Part) (p : PlayState) : Type 0 where
  pub region : IsRegion start
  pub start_is : p.world.region.start ≡ start
  pub past : p.world.region.past ≡ past_of parts
  pub answers : p.world.answers ≡ answers_in (outcomes_of parts)
  pub text : p.text ≡ flat_map outcome_line (outcomes_of parts)
  pub steady : p.world.region.failing.listed ≡ []
  pub each : ArePlayed stock parts
  pub playable : ArePlayable parts
  pub in_time : AreInTime start parts
  pub reasoned : AreReasoned start parts
  pub torn : AreTorn start parts
  pub held : AreHeld parts
  pub roomy : AreRoomy parts
  pub histories : AreHistories start parts
  pub shown : ShowAtRest start parts
  pub by_words : ReadByWords start parts
  pub answered : AreAnswered start (past_of parts) (answers_in (outcomes_of parts))
  pub within : AreEndedBy (length (changes_of (past_of parts))) (answers_in (outcomes_of parts))
  pub count : length p.world.openers ≡ length (strategies parts)
  pub open_to : IsOpenTo (length (strategies parts)) p.world.region
  pub drawn : (s : Strategy) → stocked left s + drawn s (strategies parts) ≡ stocked stock s
  pub openers : (i : ℕ) (o : OpenerState) → slice_get p.world.openers i ≡ Some o → IsLeft start parts (i + 1) o
  pub unopened : (who : ℕ) → IsNobody (length (strategies parts)) who → IsUnopened parts who

-- a line was taken
abbrev pub TakesOne : Stock → Stock → Region → List Part → Option Line → PlayState → Type 0
TakesOne stock left start parts line new =
    (made : List Event) × (outcome : Option Outcome) × IsAt stock left start (record { line = line; made = made; outcome = outcome } ∷ parts) new

-- why it ended the play
abbrev pub HasHalted : Stock → Region → List Part → Option Line → Halt → Type 0
HasHalted stock start parts line halt.Refused = CanTake stock parts line → ⊥
HasHalted stock start parts line halt.Memory = ⊤
HasHalted stock start parts line halt.JournalFull = (l : Line) × (line ≡ Some l) × CanTake stock parts line × MeetsFullJournal start parts l
HasHalted stock start parts line halt.NotWhole = (l : Line) × (line ≡ Some l) × CanTake stock parts line × MeetsNoImage start parts l

abbrev pub Takes : {A : Type 0} → Stock → Stock → Region → List Part → Option Line → PlayState → Result A Halt → Type 0
Takes stock left start parts line new (Ok _) = TakesOne stock left start parts line new
Takes stock left start parts line new (Err why) = HasHalted stock start parts line why

-- the first texts of a script were taken as these parts, so many
pub record AreTaken (texts rest : List (List ℕ)) (parts : List Part) (count : ℕ) : Type 0 where
  pub front : List (List ℕ)
  pub are : texts ≡ front ++ rest
  pub within : IsWithin front
  pub lines : AreLines front (lines_of parts)
  pub counted : count ≡ length front

-- so many texts were taken, and these are left
pub record IsTaken (stock left : Stock) (start : Region) (texts rest : List (List ℕ)) (p : PlayState) (count : ℕ) : Type 0 where
  pub parts : List Part
  pub taken : AreTaken texts rest parts count
  pub at : IsAt stock left start parts p

-- the text of a line behind so many others is one too many, is too long, or names nothing that can be done
abbrev pub IsRefusedAfter : Stock → ℕ → List Part → List ℕ → Type 0
IsRefusedAfter stock count parts text = (LARGEST_COUNT ≤ count) ⊎ (LARGEST_LINE < length text) ⊎ IsRefusedIn stock parts text

-- the text of a line behind so many others was taken
pub record TakesText (stock left : Stock) (start : Region) (parts : List Part) (count : ℕ) (text : List ℕ) (new : PlayState) : Type 0 where
  pub few : count < LARGEST_COUNT
  pub short : length text ≤ LARGEST_LINE
  pub named : Option Line
  pub is : IsLine text named
  pub one : TakesOne stock left start parts named new

-- why the text of a line ended the play
abbrev pub TextHalts : Stock → Region → List Part → ℕ → List ℕ → Halt → Type 0
TextHalts stock start parts count text halt.Refused = IsRefusedAfter stock count parts text
TextHalts stock start parts count text halt.Memory = ⊤
TextHalts stock start parts count text halt.JournalFull = (l : Line) × IsLine text (Some l) × CanTake stock parts (Some l) × MeetsFullJournal start parts l
TextHalts stock start parts count text halt.NotWhole = (l : Line) × IsLine text (Some l) × CanTake stock parts (Some l) × MeetsNoImage start parts l

abbrev pub TakesOrHalts : {A : Type 0} → Stock → Stock → Region → List Part → ℕ → List ℕ → PlayState → Result A Halt → Type 0
TakesOrHalts stock left start parts count text new (Ok _) = TakesText stock left start parts count text new
TakesOrHalts stock left start parts count text new (Err why) = TextHalts stock start parts count text why

-- the line of this number ended the play
abbrev pub HaltsAt : Stock → Region → List (List ℕ) → Bool → ℕ → Halt → Type 0
HaltsAt stock start texts beyond number halt.Refused = IsFirstRefused stock start texts beyond number
HaltsAt stock start texts beyond number halt.Memory = ⊤
HaltsAt stock start texts beyond number halt.JournalFull = (h : IsHalted stock start texts number) × MeetsFullJournal start h.before.parts h.named
HaltsAt stock start texts beyond number halt.NotWhole = (h : IsHalted stock start texts number) × MeetsNoImage start h.before.parts h.named

-- the ending that goes with why a line of this number ended the play
abbrev pub IsEndingAt : ℕ → Halt → Ending → Type 0
IsEndingAt number halt.Refused e = e ≡ ending 9 (text_line (codes "script" ∷ decimal number ∷ []))
IsEndingAt number halt.JournalFull e = e ≡ ending 16 (text_line (codes "journal" ∷ decimal number ∷ []))
IsEndingAt number halt.NotWhole e = e ≡ not_yet
IsEndingAt number halt.Memory e = ⊥
