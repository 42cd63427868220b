-- What a world's calls do.
use Rattle.std.specs.Prelude.{◌≡◌, ◌≢◌, ℕ, ◌+◌, ◌-◌, ◌*◌, ◌<◌, ◌≤◌, List, [], ◌∷◌, ◌++◌, ◌^◌, ◌⊎◌, ◌==◌, if◌then◌else◌, length, slice_set, Bool, true, false, Option, Some, None, ⊤}
use Rattle.change_log.specs.History.{Legal}
use Rattle.change_log.specs.declared.call.Answer.{Answer}
use Rattle.change_log.specs.declared.call.Call.{Call}
use Rattle.lock_rules.specs.declared.limits.TheConstants.{MOST_OPENERS}
use Rattle.region_words.specs.Apart.{Apart}
use Rattle.region_words.specs.Local.{LacksPlaces, Seated, account_of, after_admission, with_account}
use Rattle.region_words.specs.Outcome.{AtRest, ShowsHistory}
use Rattle.region_words.specs.Past.{NoneDies, changes_of, region_after}
use Rattle.region_words.specs.Region.{base}
use Rattle.region_words.specs.declared.places.AdmitStop.{AdmitStop}
use Rattle.region_words.specs.declared.places.AdmitStop.TheVariants as admit
use Rattle.opener.specs.Adds.{AddsTo}
use Rattle.opener.specs.Begins.{Begins, refusal}
use Rattle.opener.specs.Bound.{Falls, steps_left}
use Rattle.opener.specs.Deaths.{DiesAt}
use Rattle.opener.specs.Fresh.{CountedBy, CountsSoFar}
use Rattle.opener.specs.Opener.{HasCause, IsAnswer, KeepsWork, MakesOne, OnAnswer}
use Rattle.opener.specs.Quick.{ended_as}
use Rattle.opener.specs.Quiet.{RestsQuietly}
use Rattle.opener.specs.Settles.{answers_by}
use Rattle.opener.specs.State.{OpenerState}
use Rattle.opener.specs.Steps.{ActsAt, IsPlaceOf, KeepsImage, LeavesStores, OnRunning, TakesTried, peek_of}
use Rattle.opener.specs.declared.calls.Step.{Step}
use Rattle.opener.specs.declared.calls.Step.TheVariants as step
use Rattle.opener.specs.declared.work.Work.TheVariants.{Idle}
use Rattle.world.specs.World.{WorldState, Lives, share_of}
use Rattle.world.specs.declared.moves.Moved.{Moved}
use Rattle.world.specs.declared.moves.Moved.TheVariants as moved
use Rattle.world.specs.declared.stops.OpenStop.{OpenStop}
use Rattle.world.specs.declared.stops.OpenStop.TheVariants as opening
use Rattle.world.specs.declared.stops.WorldStop.{WorldStop}
use Rattle.world.specs.declared.stops.WorldStop.TheVariants as stop

abbrev pub world_of : Seated → List OpenerState → List Answer → Bool → WorldState
world_of s openers answers noted = record { region = s.region; openers = openers; answers = answers; noted = noted }

-- how often an opener has loaded in the region
abbrev pub loads_of : WorldState → ℕ → ℕ
loads_of w who = (account_of w.region.accounts who).loads

-- an opener of this number that has made no call
abbrev pub new_opener : ℕ → OpenerState
new_opener who = record { who = who; image = None; holds = 0; work = Idle }

-- an opener was opened, with the next number, and has made no call
pub record Opens (who : ℕ) (old new : WorldState) : Type 0 where
  pub number : who ≡ length old.openers + 1
  pub least : length old.openers < MOST_OPENERS
  pub openers : new.openers ≡ old.openers ++ new_opener who ∷ []
  pub answers : new.answers ≡ old.answers
  pub noted : new.noted ≡ old.noted
  pub region : new.region ≡ with_account old.region who (after_admission (account_of old.region.accounts who))

-- why an opener was not let in
abbrev pub stop_of_admission : AdmitStop → OpenStop
stop_of_admission admit.JournalFull = opening.JournalFull
stop_of_admission admit.Memory = opening.Memory

-- why none was opened: the most are there, which is looked at first; or the journal has no place for one more death
abbrev pub IsNotOpened : OpenStop → WorldState → Type 0
IsNotOpened opening.TooMany w = length w.openers ≡ MOST_OPENERS
IsNotOpened opening.JournalFull w = (length w.openers < MOST_OPENERS) × LacksPlaces w.region 1 admit.JournalFull
IsNotOpened opening.Memory w = length w.openers < MOST_OPENERS

-- the call of an opener runs, and has made no step
pub record BeginsCall (who : ℕ) (asked : Call) (now : ℕ) (o next : OpenerState) (old new : WorldState) : Type 0 where
  pub lives : Lives old.openers who o
  pub first : refusal o asked ≡ None
  pub begins : Begins asked now (length (changes_of old.region.past)) o next
  pub few : (words : ℕ) → steps_left words next.work ≤ 6 * words + 100
  pub counts : CountsSoFar next.work
  pub openers : new.openers ≡ slice_set old.openers (who - 1) next
  pub answers : new.answers ≡ old.answers
  pub region : new.region ≡ old.region
  pub noted : new.noted ≡ old.noted

abbrev pub Begun : ℕ → Call → ℕ → WorldState → WorldState → Type 0
Begun who asked now old new = (o next : OpenerState) × BeginsCall who asked now o next old new

-- why no call was begun: no opener of that number lives, or the call is refused for the first reason that holds
abbrev pub IsNotBegun : WorldStop → ℕ → Call → WorldState → Type 0
IsNotBegun stop.NoOpener who asked w = (o : OpenerState) → Lives w.openers who o → ⊥
IsNotBegun (stop.Refused why) who asked w = (o : OpenerState) × Lives w.openers who o × (refusal o asked ≡ Some why)
IsNotBegun stop.Memory who asked w = (o : OpenerState) × Lives w.openers who o

-- An opener made a step, which came to this and left it so. All that an opener's step promises stands, and nobody else moved.
pub record Steps (who : ℕ) (o next : OpenerState) (came : Step) (old new : WorldState) : Type 0 where
  pub lives : Lives old.openers who o
  pub number : o.who ≡ who
  pub openers : new.openers ≡ slice_set old.openers (who - 1) next
  pub answers : new.answers ≡ old.answers ++ answers_by came
  pub start : new.region.start ≡ old.region.start
  pub noted : new.noted ≡ old.noted
  pub makes : MakesOne (share_of old.region who) (share_of new.region who)
  pub others : (w : ℕ) → 1 ≤ w → w ≤ MOST_OPENERS → w ≢ who → loads_of new w ≡ loads_of old w
  pub adds : AddsTo o.who o.work came next.work (share_of old.region who) (share_of new.region who)
  pub call : KeepsWork o came next
  pub cause : HasCause o.work came next.work (share_of old.region who) (share_of new.region who)
  pub takes : TakesTried o.work (share_of old.region who) (share_of new.region who)
  pub acts : OnRunning o.work (λ at. ActsAt came at o.image next.work (share_of old.region who) (share_of new.region who))
  pub stores : OnRunning o.work (λ at. LeavesStores came at next.work)
  pub answer : OnAnswer came (λ a. IsAnswer a new.region.start new.region.past)
  pub place : OnRunning o.work (λ at. OnAnswer came (IsPlaceOf (peek_of at)))
  pub image : OnRunning o.work (λ at. KeepsImage came at o.image next (share_of new.region who))
  pub counts : OnRunning o.work (λ at. CountedBy came at next.work)
  pub falls : Falls o.work came next.work (share_of new.region who)

-- this holds where a step was an answer
abbrev pub IfAnswered : Step → Type 0 → Type 0
IfAnswered (step.Answered a) P = P
IfAnswered _ P = ⊤

-- what a step came to, as the world says it behind so many answers
abbrev pub IsSaid : ℕ → Step → Moved → Type 0
IsSaid count step.Idle said = said ≡ moved.Idle
IsSaid count step.Going said = said ≡ moved.Going
IsSaid count step.Again said = ⊥
IsSaid count (step.Blocked holder) said = said ≡ moved.Blocked holder
IsSaid count (step.Answered a) said = said ≡ moved.Answered count
IsSaid count (step.Stopped why) said = said ≡ moved.Stopped why

-- the step of an opener that lives; where none of that number does, nothing moved
abbrev pub Moves : ℕ → Moved → WorldState → WorldState → Type 0
Moves who moved.NoOpener old new = (new ≡ old) × ((o : OpenerState) → Lives old.openers who o → ⊥)
Moves who said old new = (o next : OpenerState) × (came : Step) × IsSaid (length old.answers) came said × Steps who o next came old new

-- An opener died. Where its next step would have stored a payload word, that one is torn to these bits, where any are given; nobody else
-- moved, and nothing was answered.
pub record Kills (who : ℕ) (bits : Option ℕ) (o : OpenerState) (old new : WorldState) : Type 0 where
  pub lives : Lives old.openers who o
  pub dies : DiesAt o.work bits (share_of old.region who) (share_of new.region who)
  pub openers : new.openers ≡ slice_set old.openers (who - 1) (ended_as who)
  pub answers : new.answers ≡ old.answers
  pub start : new.region.start ≡ old.region.start
  pub noted : new.noted ≡ old.noted
  pub others : (w : ℕ) → 1 ≤ w → w ≤ MOST_OPENERS → w ≢ who → loads_of new w ≡ loads_of old w

-- the death of the opener of this number, where it lives; where none of that number does, nothing moved
abbrev pub Dies : ℕ → Option ℕ → Bool → WorldState → WorldState → Type 0
Dies who bits true old new = (o : OpenerState) × Kills who bits o old new
Dies who bits false old new = (new ≡ old) × ((o : OpenerState) → Lives old.openers who o → ⊥)

-- as long as checksums tell payloads apart, answers and changes are one legal history
abbrev pub IsOneHistory : WorldState → Type 0
IsOneHistory w = Apart w.region.start w.region.past → Legal (base w.region.start) (changes_of w.region.past) w.answers

-- as long as they do, where no row is under way the region shows the map of that history, unless a death cut a rewrite, or the start
-- was broken and nothing was changed
abbrev pub RestsWithItsHistory : WorldState → Type 0
RestsWithItsHistory w = Apart w.region.start w.region.past → AtRest w.region.start w.region.past → ShowsHistory w.region.start w.region.past

-- and where none of the openers has died, it shows that map, unless the start was damaged and nothing was changed, and a whole image
-- where the start shows one
abbrev pub RestsWithoutDeath : WorldState → Type 0
RestsWithoutDeath w = Apart w.region.start w.region.past → NoneDies w.region.past → AtRest w.region.start w.region.past → RestsQuietly w.region.start w.region.past

-- as long as another holds the lock for itself, nothing is stored or changed
abbrev pub HoldsAreKept : ℕ → WorldState → WorldState → Type 0
HoldsAreKept who old new =
    (other : ℕ) (p : OpenerState) → other ≢ who → Lives old.openers other p → 0 < p.holds →
    (region_after new.region.start new.region.past ≡ region_after old.region.start old.region.past) × (changes_of new.region.past ≡ changes_of old.region.past)

-- what moves a world: an opener is opened, begins a call, makes a step, or dies
pub data Move : Type 0 where
  Opening : ℕ → Move
  Beginning : ℕ → Call → ℕ → Move
  Stepping : ℕ → Moved → Move
  Dying : ℕ → Option ℕ → Move

abbrev pub IsMove : Move → WorldState → WorldState → Type 0
IsMove (Opening who) old new = Opens who old new
IsMove (Beginning who asked now) old new = Begun who asked now old new
IsMove (Stepping who said) old new = Moves who said old new
IsMove (Dying who bits) old new = Dies who bits true old new

-- these moves, the latest first, lead from one world to the other
abbrev pub Lead : List Move → WorldState → WorldState → Type 0
Lead [] old new = new ≡ old
Lead (m ∷ moves) old new = (between : WorldState) × Lead moves old between × IsMove m between new

-- a world came from another by moves alone
pub record CameFrom (old new : WorldState) : Type 0 where
  pub moves : List Move
  pub lead : Lead moves old new

-- the loads that an opener's answers count
abbrev pub loads_in : ℕ → List Answer → ℕ
loads_in who [] = 0
loads_in who (a ∷ answers) = (if a.who == who then a.loads else 0) + loads_in who answers

-- an opener's answers count no more loads than it made since the first of these worlds, unless its count stands at its end
abbrev pub CountsLoads : ℕ → WorldState → WorldState → Type 0
CountsLoads who old new = (loads_in who new.answers ≤ loads_of new who - loads_of old who) ⊎ (loads_of new who ≡ 2 ^ 64 - 1)
