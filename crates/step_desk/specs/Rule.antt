-- What holds of a desk between any two steps on its table.
use Rattle.std.specs.Prelude.{◌≡◌, ◌≢◌, ℕ, ◌<◌, ◌≤◌, ◌^◌, Bool, true, List, [], ◌∷◌, ◌++◌, length, Option, Some}
use mathlib.Core.Option.{some}
use lib.ListN.{get_elem?}
use Rattle.atomic_table.specs.Table.{State}
use Rattle.lock_rules.specs.declared.table.LockKind.TheVariants.{Exclusive}
use Rattle.region_words.specs.Region.{Region}
use Rattle.region_words.specs.Past.{NoneOf}
use Rattle.region_words.specs.Lawful.{Lawful}
use Rattle.region_words.specs.Local.{Local, account_of, lock_after, reserved_in}
use Rattle.region_words.specs.declared.event.Event.{Event}
use Rattle.step_desk.specs.declared.view.Stage.{Stage}
use Rattle.step_desk.specs.declared.view.Stage.TheVariants.{Idle, Holding, Counted}
use Rattle.step_desk.specs.declared.view.View.{View}
use Rattle.step_desk.specs.Mirrors.{Words, checksum_after, sequence_after, mirror, Quiet}
use Rattle.step_desk.specs.Numbers.{Among, Answers, others_to}

-- the size of the data file for which an opener has reserved room
abbrev pub room_in : Local → ℕ → ℕ
room_in l who = (account_of l.accounts who).room

abbrev pub is_admitted : Local → ℕ → Bool
is_admitted l who = (account_of l.accounts who).admitted

-- a region that goes on from the one with which the desk began
pub record Continues (about x : Local) : Type 0 where
  pub start : x.start ≡ about.start
  pub listed : x.failing.listed ≡ about.failing.listed
  pub admitted : (n : ℕ) → is_admitted x n ≡ is_admitted about n
  pub lawful : Lawful about.start x.past
  -- only who holds exclusive has places reserved
  pub unreserved : (n : ℕ) → lock_after x.past n ≢ Some Exclusive → reserved_in x n ≡ 0

-- A pass without the turn has none of its numbers in the turn's word. One with the turn knows the region that the desk has.
abbrev pub StageIs : ℕ → ℕ → Local → View → Stage → Type 0
StageIs turn count now v Idle = (n : ℕ) → Answers v n → turn ≢ n
StageIs turn count now v Holding = (turn ≡ v.who) × (now ≡ v.held) × (now.past ≡ v.seen)
StageIs turn count now v Counted = (turn ≡ v.who) × (now ≡ v.held) × (now.past ≡ v.seen) × (count ≡ length now.past)

-- a number that was not yet handed out has done nothing, and has nothing reserved
pub record IsFresh (now : Local) (v : View) (n : ℕ) : Type 0 where
  pub none : NoneOf n now.past
  pub places : reserved_in now n ≡ 0
  pub room : room_in now n ≡ 0
  pub not_own : v.who ≢ n
  pub not_taken : Among n v.taken → ⊥

-- A pass that no other has taken in, by the region that the desk has now. `owner` says which pass answers for a number.
pub record LiveIs (about : Local) (seats : ℕ) (now : Local) (turn count : ℕ) (owner : ℕ → ℕ) (id : ℕ) (v : View) : Type 0 where
  pub about_is : v.about ≡ about
  pub owns : (n : ℕ) → Answers v n → (owner n ≡ id) × (1 ≤ n) × (n ≤ seats)
  pub later : List Event
  pub past : now.past ≡ later ++ v.seen
  -- it has seen all events of its numbers
  pub others : (n : ℕ) → Answers v n → NoneOf n later
  pub fresh : (n : ℕ) → Among n v.hands → IsFresh now v n
  pub places : reserved_in now v.who ≡ v.places
  pub room : room_in now v.who ≡ v.room
  -- and what it was told has all events of the numbers for which that was told
  pub heard : List Event
  pub heard_past : now.past ≡ heard ++ v.told
  pub heard_others : (n : ℕ) → Among n v.told_of → Answers v n × NoneOf n heard
  pub stage : StageIs turn count now v v.stage

abbrev pub Views : Local → ℕ → Local → ℕ → ℕ → (ℕ → ℕ) → List View → Type 0
Views about seats now turn count owner views =
    (i : ℕ) (v : View) → get_elem? views i ≡ some v → v.live ≡ true → LiveIs about seats now turn count owner i v

-- This is the mirror of an earlier journal, and the word that it mirrors has not changed since.
pub record Mirrored (word : Words) (start : Region) (past : List Event) (shown : ℕ) : Type 0 where
  pub shown_at : List Event
  pub since : List Event
  pub past_is : past ≡ since ++ shown_at
  pub shown_is : shown ≡ mirror word start shown_at
  pub quiet : Quiet word start since shown_at
  pub fits : word start shown_at < 2 ^ 32

-- A desk that began with this region and this number of seats. Word 0 is the count of the events, and word 1 the number whose turn it is, or 0.
pub record TableIs (about : Local) (seats : ℕ) (s : State (Option Local) View) : Type 0 where
  -- the region that the desk has now: its journal is the desk's
  pub now : Local
  pub owner : ℕ → ℕ
  pub count : ℕ
  pub turn : ℕ
  pub shown : ℕ
  pub sequence : ℕ
  pub words : s.words ≡ count ∷ turn ∷ shown ∷ sequence ∷ []
  pub few : turn ≤ seats
  pub each : Views about seats now turn count owner s.views
  -- while the turn is free, the region lies in the slot, and is counted
  pub free : turn ≡ 0 → (s.homes ≡ some (Some now) ∷ []) × (count ≡ length now.past)
  pub continues : Continues about now
  pub beyond : (n : ℕ) → seats < n → NoneOf n now.past
  -- words 2 and 3 mirror the checksum and the sequence
  pub of_checksum : Mirrored checksum_after about.start now.past shown
  pub of_sequence : Mirrored sequence_after about.start now.past sequence

-- the pass of opener 1, which may hand out the other numbers
abbrev pub newcomer : Local → ℕ → View
newcomer about seats =
    record {
      live = true;
      stage = Idle;
      who = 1;
      about = about;
      seen = [];
      held = about;
      told = [];
      told_of = [];
      places = 0;
      room = 0;
      turns = 0;
      hands = others_to seats;
      taken = [];
    }
