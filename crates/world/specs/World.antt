-- Several openers of one region.
use Rattle.std.specs.Prelude.{◌≡◌, ℕ, ◌+◌, ◌-◌, ◌<◌, ◌≤◌, Bool, true, false, List, [], length, filter, slice_get, All, Some}
use Rattle.change_log.specs.EachCaller.{answers_of}
use Rattle.change_log.specs.declared.call.Answer.{Answer}
use Rattle.lock_rules.specs.declared.limits.TheConstants.{MOST_OPENERS}
use Rattle.region_words.specs.Lawful.{Lawful}
use Rattle.region_words.specs.Local.{Local, account_of, kept_after, seat_state}
use Rattle.region_words.specs.Past.{NoneOf}
use Rattle.region_words.specs.Region.{IsAccepted}
use Rattle.region_words.specs.Share.{ShareState, most_events}
use Rattle.region_words.specs.Told.{History}
use Rattle.opener.specs.Fresh.{CountsSoFar}
use Rattle.opener.specs.Opener.{Tied, is_ended}
use Rattle.opener.specs.Settles.{AreSettled}
use Rattle.opener.specs.State.{OpenerState}
use Rattle.opener.specs.declared.work.Work.{Work}
use Rattle.opener.specs.declared.work.Work.TheVariants.{Idle, Ended, Runs}

-- the region, the openers in the order of their numbers, what they answered, the first answer first, and whether the map that the region
-- showed at its start was noted
pub record WorldState : Type 0 where
  pub region : Local
  pub openers : List OpenerState
  pub answers : List Answer
  pub noted : Bool

-- the share with which this opener makes its calls
abbrev pub share_of : Local → ℕ → ShareState
share_of l who = seat_state (record { who = who; region = l })

abbrev pub history_of : Local → History
history_of l = record { start = l.start; past = l.past }

-- the opener of this number is this one, and lives
pub record Lives (openers : List OpenerState) (who : ℕ) (o : OpenerState) : Type 0 where
  pub numbered : 1 ≤ who
  pub there : slice_get openers (who - 1) ≡ Some o
  pub alive : is_ended o.work ≡ false

-- an opener is tied to the region, all that it answered is settled, and its call counts so far as its stage tells
pub record OpenerIs (l : Local) (answers : List Answer) (who : ℕ) (o : OpenerState) : Type 0 where
  pub number : o.who ≡ who
  pub tied : Tied o (share_of l who)
  pub settled : AreSettled o (answers_of who answers) (history_of l)
  pub counted : CountsSoFar o.work

-- a number that no opener has: nothing was made or answered by it
pub record IsUnused (l : Local) (answers : List Answer) (who : ℕ) : Type 0 where
  pub outside : (account_of l.accounts who).admitted ≡ false
  pub silent : NoneOf who l.past
  pub unanswered : answers_of who answers ≡ []

-- what is true of every world
pub record IsWorld (l : Local) (openers : List OpenerState) (answers : List Answer) : Type 0 where
  pub few : length openers ≤ MOST_OPENERS
  pub accepted : IsAccepted l.start
  pub lawful : Lawful l.start l.past
  pub each : (i : ℕ) (o : OpenerState) → slice_get openers i ≡ Some o → OpenerIs l answers (i + 1) o
  pub unused : (who : ℕ) → length openers < who → IsUnused l answers who
  pub theirs : All (λ a. (1 ≤ a.who) × (a.who ≤ length openers)) answers
  -- the journal has room for the events and the places that are kept for the openers
  pub roomy : length l.past + kept_after l ≤ most_events

-- and so of this one
abbrev pub IsSound : WorldState → Type 0
IsSound w = IsWorld w.region w.openers w.answers

-- some opener of this number lives
abbrev pub IsLiving : List OpenerState → ℕ → Type 0
IsLiving openers who = (o : OpenerState) × Lives openers who o

abbrev pub runs_call : Work → Bool
runs_call Idle = false
runs_call Ended = false
runs_call (Runs running stage) = true

-- how many calls run, each of which may be answered yet
abbrev pub calls_running : List OpenerState → ℕ
calls_running openers = length (filter (λ o. runs_call o.work) openers)
