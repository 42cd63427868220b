-- A desk, and a pass or a seat at it, as contracts see them.
use Rattle.std.specs.Prelude.{◌≡◌, ◌≢◌, ℕ, ◌<◌, ◌≤◌, ◌^◌, ◌==◌, not, ◌||◌, if◌then◌else◌, false, List, length, Some, None}
use base.Stored.{Gv, Coded, coded×, coded_list, coded_ℕ}
use Rattle.atomic_table.specs.Seated.{TableId, table_id_coded}
use Rattle.lock_rules.specs.declared.limits.TheConstants.{MOST_OPENERS}
use Rattle.lock_rules.specs.declared.table.LockKind.TheVariants.{Exclusive}
use Rattle.lock_rules.specs.declared.table.Tried.{Tried}
use Rattle.lock_rules.specs.declared.table.Tried.TheVariants.{Taken, Busy}
use Rattle.region_words.specs.Outside.{one_more}
use Rattle.region_words.specs.Region.{Region, IsRegion}
use Rattle.region_words.specs.Past.{has_died}
use Rattle.region_words.specs.Lawful.{Lawful}
use Rattle.region_words.specs.Share.{ShareState, Counts, IsSameShare}
use Rattle.region_words.specs.Local.{Local, Seated, lock_after}
use Rattle.region_words.specs.declared.event.Event.{Event}
use Rattle.region_words.specs.declared.stops.ShareStop.{ShareStop}
use Rattle.region_words.specs.declared.stops.ShareStop.TheVariants.{Failed, Turn, Memory, JournalFull}
use Rattle.step_desk.specs.declared.counts.CallCounts.{CallCounts}
use Rattle.step_desk.specs.declared.view.View.{View}
use Rattle.step_desk.specs.Mirrors.{checksum_after, sequence_after, changes_made}
use Rattle.step_desk.specs.Numbers.{Among}
use Rattle.step_desk.specs.Rule.{is_admitted}
use Rattle.step_desk.specs.Steps.{M, IsReady, Took}

-- which desk it is, the region with which it began, and its number of seats
pub record DeskState : Type 0 where
  pub table : TableId
  pub about : Local
  pub seats : ℕ

-- of which desk a pass or a seat is, what it knows of it, and how often its calls failed, loaded and were answered Busy
pub record PassState : Type 0 where
  pub table : TableId
  pub view : View
  pub counts : CallCounts

-- four words, and a slot for the region
abbrev pub HasShape : TableId → Type 0
HasShape t = (t.words ≡ 4) × (t.slots ≡ 1)

abbrev pub no_counts : CallCounts
no_counts = record { faults = 0; loads = 0; busy = 0 }

abbrev pub counts_of : CallCounts → ℕ → Counts
counts_of c turns = record { faults = c.faults; loads = c.loads; busy = c.busy; turns = turns }

-- the counts after a call that was not answered
abbrev pub counts_after_stop : ShareStop → CallCounts → CallCounts
counts_after_stop Failed c = record c { faults = one_more c.faults }
counts_after_stop Turn c = c
counts_after_stop Memory c = c
counts_after_stop JournalFull c = c

-- and after a try for the lock that was answered
abbrev pub counts_after_try : Tried → CallCounts → CallCounts
counts_after_try Taken c = c
counts_after_try (Busy holder) c = record c { busy = one_more c.busy }

-- what is true of what every pass knows
pub record IsKnown (v : View) : Type 0 where
  pub maker : (1 ≤ v.who) × (v.who ≤ MOST_OPENERS)
  pub region : IsRegion v.about.start
  pub lawful : Lawful v.about.start v.seen
  pub unreserved : lock_after v.seen v.who ≢ Some Exclusive → (v.places ≡ 0) × (v.room ≡ 0)
  pub hands : (n : ℕ) → Among n v.hands → (1 ≤ n) × (n ≤ MOST_OPENERS)

-- a pass between two calls, with its number and the number of changes that it has seen
pub record PassIs (me : M) (who made : ℕ) : Type 0 where
  pub ready : IsReady who me
  pub made_is : made ≡ changes_made me.0.seen
  pub known : IsKnown me.0

-- the region was taken from the desk, in a seat of the pass's number
pub record IsTaken (me : M) (x : Seated) (new : M) : Type 0 where
  pub who : x.who ≡ me.0.who
  pub took : Took me x.region None new

-- these are the checksum, the sequence, the number of changes and the number of events
pub record IsShown (checksum sequence changes events : ℕ) (start : Region) (past : List Event) : Type 0 where
  pub checksum_is : checksum ≡ checksum_after start past
  pub sequence_is : sequence ≡ sequence_after start past
  pub changes_are : changes ≡ changes_made past
  pub events_are : events ≡ length past
  pub checksum_fits : checksum < 2 ^ 32
  pub sequence_fits : sequence < 2 ^ 32

-- what no call on a seat changes: its desk, and the numbers that it may hand out and those that it has taken in
abbrev pub tag_coded : Coded (TableId × (List ℕ × List ℕ))
tag_coded = coded× table_id_coded (coded× (coded_list coded_ℕ) (coded_list coded_ℕ))

abbrev pub tag_of : TableId → View → Gv
tag_of table v = tag_coded.code (table, (v.hands, v.taken))

-- A seat stands for a share that isn't alone and tells the journal that it has seen.
abbrev pub share_of : TableId → View → CallCounts → ShareState
share_of table v counts =
    record {
      who = v.who;
      told = Some (record { start = v.about.start; past = v.seen });
      holds = lock_after v.seen v.who;
      ended = not (is_admitted v.about v.who) || has_died v.seen v.who;
      alone = false;
      turnless = false;
      admitted = is_admitted v.about;
      reserved = λ w. if w == v.who then v.places else 0;
      room = λ w. if w == v.who then v.room else 0;
      fails = Some v.about.failing.listed;
      calls = 0;
      counts = counts_of counts v.turns;
      tag = tag_of table v;
    }

abbrev pub state_of : PassState → ShareState
state_of s = share_of s.table s.view s.counts

-- the same place at the same desk, with the same numbers
pub record StaysAt (old new : PassState) : Type 0 where
  pub table : new.table ≡ old.table
  pub who : new.view.who ≡ old.view.who
  pub hands : new.view.hands ≡ old.view.hands
  pub taken : new.view.taken ≡ old.view.taken
  pub fails : new.view.about.failing.listed ≡ old.view.about.failing.listed

-- What no call on a share changes says of a seat where it is: a user that knows it as a share alone has lost nothing.
abbrev pub SeatsStay : Type 0
SeatsStay = (old new : PassState) → IsSameShare (state_of old) (state_of new) → StaysAt old new
