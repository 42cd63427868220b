-- A region in memory: where it started, what has happened, and what is kept for its openers.
use Rattle.std.specs.Prelude.{◌≡◌, ◌≢◌, ℕ, ◌+◌, ◌-◌, ◌<◌, ◌≤◌, zero, suc, Bool, true, false, List, [], ◌∷◌, length, replicate, Option, Some, None, not, ◌&&◌, ◌||◌, ◌==◌, if◌then◌else◌, nat_lt, max, slice_index_or, slice_set, ⊤}
use base.Stored.{coded_list, coded_ℕ}
use Rattle.lock_rules.specs.Locks.{Locks, MayTake, IsLeastAgainst}
use Rattle.lock_rules.specs.declared.limits.TheConstants.{MOST_OPENERS}
use Rattle.lock_rules.specs.declared.table.Tried.{Tried}
use Rattle.lock_rules.specs.declared.table.Tried.TheVariants.{Taken, Busy}
use Rattle.lock_rules.specs.declared.table.LockKind.{LockKind}
use Rattle.lock_rules.specs.declared.table.LockKind.TheVariants.{Exclusive}
use Rattle.region_words.specs.Region.{Region, IsRegion}
use Rattle.region_words.specs.Past.{region_after, changes_of, locks_after, has_died}
use Rattle.region_words.specs.Lawful.{Lawful}
use Rattle.region_words.specs.Outside.{Tally, one_more, after_call}
use Rattle.region_words.specs.Stores.{filled_up}
use Rattle.region_words.specs.Share.{ShareState, most_events, total, unlock_place, lock_of, places_kept}
use Rattle.region_words.specs.declared.account.Account.{Account}
use Rattle.region_words.specs.declared.places.AdmitStop.{AdmitStop}
use Rattle.region_words.specs.declared.places.AdmitStop.TheVariants.{JournalFull, Memory}
use Rattle.region_words.specs.declared.stops.ShareStop.{ShareStop}
use Rattle.region_words.specs.declared.stops.ShareStop.TheVariants as share
use Rattle.region_words.specs.Places.{LacksRoom}
use Rattle.region_words.specs.declared.event.What.{What}
use Rattle.region_words.specs.declared.event.What.TheVariants.{Store, Grow, Lock, Unlock, Died}
use Rattle.region_words.specs.declared.event.Event.{Event}

-- A region in memory. The accounts are those of the openers, at their numbers, which begin with 1; `failing` has the calls that are to
-- fail and the number of calls made.
pub record Local : Type 0 where
  pub start : Region
  pub past : List Event
  pub accounts : List Account
  pub failing : Tally

-- that of an opener that was never admitted
abbrev pub no_account : Account
no_account = record { admitted = false; kept = 0; room = 0; faults = 0; loads = 0; busy = 0 }

abbrev pub account_of : List Account → ℕ → Account
account_of accounts who = slice_index_or accounts who no_account

-- the places in the accounts of all openers
abbrev pub kept_in : List Account → ℕ
kept_in accounts = total (λ w. (account_of accounts w).kept) MOST_OPENERS

-- the lock that an opener holds after these events
abbrev pub lock_after : List Event → ℕ → Option LockKind
lock_after past who = lock_of (locks_after past) who

-- the places of an opener that aren't for its death or its unlock
abbrev pub reserved_in : Local → ℕ → ℕ
reserved_in l who = (account_of l.accounts who).kept - (1 + unlock_place (lock_after l.past who))

-- the places kept for all openers, by what has happened
abbrev pub kept_after : Local → ℕ
kept_after l = places_kept (λ w. (account_of l.accounts w).admitted) (reserved_in l) l.past

-- an account agrees with what has happened
pub record IsAccount (past : List Event) (who : ℕ) (a : Account) : Type 0 where
  -- an opener has places as long as it lives
  pub lives : (a.admitted && not (has_died past who)) ≡ nat_lt 0 a.kept
  pub fresh : a.admitted ≡ false → has_died past who ≡ false
  pub unlocks : 0 < a.kept → 1 + unlock_place (lock_after past who) ≤ a.kept
  pub idle : a.kept ≡ 0 → lock_after past who ≡ None
  -- only who holds exclusive has more, or room
  pub unreserved : lock_after past who ≢ Some Exclusive → (a.kept ≤ 1 + unlock_place (lock_after past who)) × (a.room ≡ 0)

-- what is true of every region in memory
pub record IsLocal (l : Local) : Type 0 where
  pub region : IsRegion l.start
  pub lawful : Lawful l.start l.past
  pub accounts : length l.accounts ≡ 65
  pub each : (who : ℕ) → IsAccount l.past who (account_of l.accounts who)
  pub few : length l.past + kept_in l.accounts ≤ most_events

-- a region of these files, filled up to whole pages, in which nothing has happened
abbrev pub opening : List ℕ → List ℕ → Local
opening body meta =
    record {
      start = record { data_bytes = filled_up body; meta_bytes = filled_up meta };
      past = [];
      accounts = replicate 65 no_account;
      failing = record { listed = []; made = 0; faults = 0 };
    }

abbrev pub event_of : ℕ → What → Event
event_of who what = record { who = who; what = what }

abbrev pub with_account : Local → ℕ → Account → Local
with_account l who a = record l { accounts = slice_set l.accounts who a }

-- what an event leaves of the account of its opener
abbrev pub account_after : What → Account → Account
account_after (Store side word value mark) a = record a { kept = a.kept - 1 }
account_after (Grow size) a = record a { kept = a.kept - 1 }
account_after (Lock kind) a = record a { kept = a.kept + 1 }
account_after Unlock a = record a { kept = 1; room = 0 }
account_after (Died torn) a = record a { kept = 0; room = 0 }

-- an event takes one of the places that are kept for its opener
abbrev pub IsKeptFor : Account → Option LockKind → What → Type 0
IsKeptFor a lock (Store side word value mark) = 0 < a.kept - (1 + unlock_place lock)
IsKeptFor a lock (Grow size) = 0 < a.kept - (1 + unlock_place lock)
IsKeptFor a lock (Lock kind) = 0 < a.kept
IsKeptFor a lock Unlock = ⊤
IsKeptFor a lock (Died torn) = 0 < a.kept

-- a lock wants a place for itself and keeps one for its unlock
abbrev pub HasRoomFor : Local → What → Type 0
HasRoomFor l (Store side word value mark) = ⊤
HasRoomFor l (Grow size) = ⊤
HasRoomFor l (Lock kind) = length l.past + kept_in l.accounts + 2 ≤ most_events
HasRoomFor l Unlock = ⊤
HasRoomFor l (Died torn) = ⊤

-- the journal has a place for this event
pub record HasPlace (l : Local) (who : ℕ) (what : What) : Type 0 where
  pub kept : IsKeptFor (account_of l.accounts who) (lock_after l.past who) what
  pub room : HasRoomFor l what

-- the region after one more event
abbrev pub with_event : Local → ℕ → What → Local
with_event l who what =
    record l {
      past = event_of who what ∷ l.past;
      accounts = slice_set l.accounts who (account_after what (account_of l.accounts who));
    }

-- the region after one more call, which failed or not
abbrev pub called : Local → Bool → Local
called l fails = record l { failing = after_call l.failing fails }

-- an account after one more load, one more answer Busy, one more fault, and with more reserved
abbrev pub after_load : Account → Account
after_load a = record a { loads = one_more a.loads }

abbrev pub after_refusal : Account → Account
after_refusal a = record a { busy = one_more a.busy }

abbrev pub after_fault : Account → Account
after_fault a = record a { faults = one_more a.faults }

abbrev pub after_reserve : ℕ → ℕ → Account → Account
after_reserve events size a = record a { kept = a.kept + events; room = max a.room size }

-- a region in memory with the opener whose calls are made on it
pub record Seated : Type 0 where
  pub who : ℕ
  pub region : Local

-- how often the openers from n down to 1 have loaded, but for one of them
unfoldable pub loads_beside : ℕ → List Account → ℕ → List ℕ
loads_beside who accounts zero = []
loads_beside who accounts (suc n) = (if suc n == who then 0 else (account_of accounts (suc n)).loads) ∷ loads_beside who accounts n

-- It stands for a share that is alone and tells everything. None of its calls is counted for another opener.
abbrev pub seat_state : Seated → ShareState
seat_state s =
    let l = s.region in
    let a = account_of l.accounts s.who in
    record {
      who = s.who;
      told = Some (record { start = l.start; past = l.past });
      holds = lock_after l.past s.who;
      ended = not a.admitted || has_died l.past s.who;
      alone = true;
      turnless = true;
      admitted = λ w. (account_of l.accounts w).admitted;
      reserved = reserved_in l;
      room = λ w. (account_of l.accounts w).room;
      fails = Some l.failing.listed;
      calls = l.failing.made;
      counts = record { faults = a.faults; loads = a.loads; busy = a.busy; turns = 0 };
      tag = (coded_list coded_ℕ).code (loads_beside s.who l.accounts MOST_OPENERS);
    }

-- what the fields of a region in memory say: the bytes and the locks are those after the events, and there is memory for the places kept
pub record Keeps (l : Local) (body meta : List ℕ) (locks : Locks) (kept changes places room : ℕ) : Type 0 where
  pub good : IsLocal l
  pub data_is : body ≡ (region_after l.start l.past).data_bytes
  pub meta_is : meta ≡ (region_after l.start l.past).meta_bytes
  pub locks_are : locks ≡ locks_after l.past
  pub kept_is : kept ≡ kept_in l.accounts
  pub changes_are : changes ≡ length (changes_of l.past)
  -- the journal has memory for so many events, and the data file for so many bytes
  pub places_for_all : length l.past + kept ≤ places
  pub room_for_each : (who : ℕ) → (account_of l.accounts who).room ≤ room

-- a growth has room
abbrev pub HasRoomToGrow : Local → ℕ → What → Type 0
HasRoomToGrow l who (Store side word value mark) = ⊤
HasRoomToGrow l who (Grow size) = size ≤ (account_of l.accounts who).room
HasRoomToGrow l who (Lock kind) = ⊤
HasRoomToGrow l who Unlock = ⊤
HasRoomToGrow l who (Died torn) = ⊤

-- why so many places more aren't kept
abbrev pub LacksPlaces : Local → ℕ → AdmitStop → Type 0
LacksPlaces l asked = LacksRoom (length l.past + kept_after l + asked)

-- the account of an opener that was admitted
abbrev pub after_admission : Account → Account
after_admission a = record a { admitted = true; kept = 1 }

-- the event takes a place that is kept
abbrev pub TakesPlace : Local → ℕ → What → Type 0
TakesPlace l who (Lock kind) = ⊥
TakesPlace l who what = IsKeptFor (account_of l.accounts who) (lock_after l.past who) what

-- a try for the lock: it is taken, and there were places, or the least holder stands against it
abbrev pub TriedIn : Local → Local → ℕ → LockKind → Tried → Type 0
TriedIn old new who kind Taken =
    (new ≡ with_event old who (Lock kind)) × MayTake (locks_after old.past) who kind × (length old.past + kept_in old.accounts + 2 ≤ most_events)
TriedIn old new who kind (Busy holder) = (new ≡ old) × IsLeastAgainst (locks_after old.past) who kind holder

-- the region after one more fault of this opener
abbrev pub with_fault : Local → ℕ → Local
with_fault l who = with_account l who (after_fault (account_of l.accounts who))

-- a seat after a call was counted, and after what the call then did
abbrev pub seat_called : Seated → Seated
seat_called s = record { who = s.who; region = called s.region false }

abbrev pub seat_loaded : Seated → Seated
seat_loaded s = record { who = s.who; region = with_account s.region s.who (after_load (account_of s.region.accounts s.who)) }

abbrev pub seat_refused : Seated → Seated
seat_refused s = record { who = s.who; region = with_account s.region s.who (after_refusal (account_of s.region.accounts s.who)) }

abbrev pub seat_reserved : ℕ → ℕ → Seated → Seated
seat_reserved events size s =
    record { who = s.who; region = with_account s.region s.who (after_reserve events size (account_of s.region.accounts s.who)) }

abbrev pub seat_made : What → Seated → Seated
seat_made what s = record { who = s.who; region = with_event s.region s.who what }

-- the stop of a share for want of places
abbrev pub stop_of : AdmitStop → ShareStop
stop_of JournalFull = share.JournalFull
stop_of Memory = share.Memory
