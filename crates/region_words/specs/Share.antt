-- What a share stands for, and what its calls do to it.
use Rattle.std.specs.Prelude.{◌≡◌, ◌≢◌, ℕ, zero, suc, ◌+◌, ◌-◌, ◌<◌, ◌≤◌, Bool, true, false, List, [], ◌∷◌, ◌++◌, length, map, Option, Some, None, Contains, max, not, ◌||◌, ◌&&◌, if◌then◌else◌, ⊤}
use Rattle.std.specs.FinSet as set
use base.Stored.{Gv}
use Rattle.lock_rules.specs.Locks.{Locks, holds_exclusive, MayTake, IsLeastAgainst}
use Rattle.lock_rules.specs.declared.limits.TheConstants.{MOST_OPENERS}
use Rattle.lock_rules.specs.declared.table.LockKind.{LockKind}
use Rattle.lock_rules.specs.declared.table.LockKind.TheVariants.{Shared, Exclusive}
use Rattle.lock_rules.specs.declared.table.Tried.{Tried}
use Rattle.lock_rules.specs.declared.table.Tried.TheVariants.{Taken, Busy}
use Rattle.meta_record.specs.Words.{word_at, torn}
use Rattle.region_words.specs.Region.{Region, IsRegion}
use Rattle.region_words.specs.Past.{region_after, locks_after, has_died, NoneOf}
use Rattle.region_words.specs.Lawful.{Lawful, IsWordOf}
use Rattle.region_words.specs.Outside.{one_more}
use Rattle.region_words.specs.Told.{History, OnTold, TellsThat, OnBoth}
use Rattle.region_words.specs.declared.event.Side.{Side}
use Rattle.region_words.specs.declared.event.Side.TheVariants.{Data, Meta}
use Rattle.region_words.specs.declared.event.TornWord.{TornWord}
use Rattle.region_words.specs.declared.event.What.{What}
use Rattle.region_words.specs.declared.event.What.TheVariants.{Lock, Unlock, Died}
use Rattle.region_words.specs.declared.event.Event.{Event}
use Rattle.region_words.specs.declared.places.TheConstants.{MOST_EVENTS}
use Rattle.region_words.specs.declared.stops.ShareStop.{ShareStop}
use Rattle.region_words.specs.declared.stops.ShareStop.TheVariants.{Failed, Turn, Memory, JournalFull}
use Rattle.region_words.specs.declared.stops.TornStore.{TornStore}

-- the events and the kept places that a journal has room for
abbrev pub most_events : ℕ
most_events = MOST_EVENTS

-- how often this opener's calls failed, loaded, were answered Busy, and were answered Turn
pub record Counts : Type 0 where
  pub faults : ℕ
  pub loads : ℕ
  pub busy : ℕ
  pub turns : ℕ

-- What a share stands for. `admitted`, `reserved` and `room` speak of any opener, as far as the share knows them: who may
-- make events, the places that are reserved, and the size of the data file for which room is kept. `fails` lists the
-- numbers of the calls that are to fail, where that is settled beforehand. `tag` is whatever else no call changes, as a code.
pub record ShareState : Type 0 where
  pub who : ℕ
  pub told : Option History
  pub holds : Option LockKind
  pub ended : Bool
  pub alone : Bool
  pub turnless : Bool
  pub admitted : ℕ → Bool
  pub reserved : ℕ → ℕ
  pub room : ℕ → ℕ
  pub fails : Option (List ℕ)
  pub calls : ℕ
  pub counts : Counts
  pub tag : Gv

-- the lock that an opener holds
abbrev pub lock_of : Locks → ℕ → Option LockKind
lock_of locks who =
    if holds_exclusive locks who then Some Exclusive else (if set.contains locks.shared who then Some Shared else None)

-- the sum of f 1 to f n
unfoldable pub total : (ℕ → ℕ) → ℕ → ℕ
total f zero = 0
total f (suc n) = total f n + f (suc n)

-- the place for the unlock of a lock
abbrev pub unlock_place : Option LockKind → ℕ
unlock_place None = 0
unlock_place (Some kind) = 1

-- the places kept for an opener: for its death, for the unlock of the lock that it holds, and what is reserved
abbrev pub places_for : (ℕ → Bool) → (ℕ → ℕ) → List Event → ℕ → ℕ
places_for admitted reserved past who =
    if admitted who && not (has_died past who) then 1 + unlock_place (lock_of (locks_after past) who) + reserved who else 0

-- the places kept for all openers
abbrev pub places_kept : (ℕ → Bool) → (ℕ → ℕ) → List Event → ℕ
places_kept admitted reserved past = total (places_for admitted reserved past) MOST_OPENERS

-- what a share says of itself is what its history says
pub record Agrees (s : ShareState) (h : History) : Type 0 where
  pub region : IsRegion h.start
  pub lawful : Lawful h.start h.past
  pub holds : lock_of (locks_after h.past) s.who ≡ s.holds
  pub ended : s.ended ≡ (not (s.admitted s.who) || has_died h.past s.who)
  pub few : s.alone ≡ true → length h.past + places_kept s.admitted s.reserved h.past ≤ most_events

-- whatever a share tells: its opener's number, and that only who holds exclusive has places or room reserved
pub record IsSound (s : ShareState) : Type 0 where
  pub maker : (1 ≤ s.who) × (s.who ≤ MOST_OPENERS)
  pub unreserved : s.holds ≢ Some Exclusive → (s.reserved s.who ≡ 0) × (s.room s.who ≡ 0)
  pub told : OnTold s.told (Agrees s)

-- these events, made by this opener
abbrev pub made_by : ℕ → List What → List Event
made_by who own = map (λ what. record { who = who; what = what }) own

-- events of others, and then these of one's own
pub record Grows (who : ℕ) (alone : Bool) (own : List What) (old new : History) : Type 0 where
  pub start : new.start ≡ old.start
  pub others : List Event
  pub by_others : NoneOf who others
  pub none : alone ≡ true → others ≡ []
  pub past : new.past ≡ made_by who own ++ (others ++ old.past)

-- what no call changes
pub record IsSameShare (old new : ShareState) : Type 0 where
  pub who : new.who ≡ old.who
  pub alone : new.alone ≡ old.alone
  pub turnless : new.turnless ≡ old.turnless
  pub fails : new.fails ≡ old.fails
  pub tag : new.tag ≡ old.tag
  pub admitted : (w : ℕ) → new.admitted w ≡ old.admitted w
  pub reserved : (w : ℕ) → w ≢ old.who → new.reserved w ≡ old.reserved w
  pub room : (w : ℕ) → w ≢ old.who → new.room w ≡ old.room w

-- what a call leaves to its opener: the events that it made, its lock, its end, its places and room, its counts
pub record Left : Type 0 where
  pub own : List What
  pub holds : Option LockKind
  pub ended : Bool
  pub places : ℕ
  pub room : ℕ
  pub counts : Counts

pub record After (left : Left) (old new : ShareState) : Type 0 where
  pub same : IsSameShare old new
  pub holds : new.holds ≡ left.holds
  pub ended : new.ended ≡ left.ended
  pub places : new.reserved old.who ≡ left.places
  pub room : new.room old.who ≡ left.room
  pub counts : new.counts ≡ left.counts
  pub calls : old.alone ≡ true → new.calls ≡ one_more old.calls
  pub told : OnBoth old.told new.told (Grows old.who old.alone left.own)
  pub sound : IsSound new

-- as it was
abbrev pub unmoved : ShareState → Left
unmoved s =
    record { own = []; holds = s.holds; ended = s.ended; places = s.reserved s.who; room = s.room s.who; counts = s.counts }

-- one event more, which takes one of its places
abbrev pub stored : What → ShareState → Left
stored what s =
    record { own = what ∷ []; holds = s.holds; ended = s.ended; places = s.reserved s.who - 1; room = s.room s.who; counts = s.counts }

abbrev pub locked : LockKind → ShareState → Left
locked kind s =
    record { own = Lock kind ∷ []; holds = Some kind; ended = s.ended; places = s.reserved s.who; room = s.room s.who; counts = s.counts }

-- an unlock gives the places and the room back
abbrev pub unlocked_by : ShareState → Left
unlocked_by s = record { own = Unlock ∷ []; holds = None; ended = s.ended; places = 0; room = 0; counts = s.counts }

-- and so does a death
abbrev pub died : Option TornWord → ShareState → Left
died torn s = record { own = Died torn ∷ []; holds = None; ended = true; places = 0; room = 0; counts = s.counts }

-- a failed call is a death, which tears no word
abbrev pub failed : ShareState → Left
failed s =
    record { own = Died None ∷ []; holds = None; ended = true; places = 0; room = 0; counts = record s.counts { faults = one_more s.counts.faults } }

abbrev pub loaded : ShareState → Left
loaded s =
    record {
      own = [];
      holds = s.holds;
      ended = s.ended;
      places = s.reserved s.who;
      room = s.room s.who;
      counts = record s.counts { loads = one_more s.counts.loads };
    }

abbrev pub refused : ShareState → Left
refused s =
    record {
      own = [];
      holds = s.holds;
      ended = s.ended;
      places = s.reserved s.who;
      room = s.room s.who;
      counts = record s.counts { busy = one_more s.counts.busy };
    }

abbrev pub turned_away : ShareState → Left
turned_away s =
    record {
      own = [];
      holds = s.holds;
      ended = s.ended;
      places = s.reserved s.who;
      room = s.room s.who;
      counts = record s.counts { turns = one_more s.counts.turns };
    }

-- places and room are reserved
abbrev pub reserving : ℕ → ℕ → ShareState → Left
reserving events size s =
    record {
      own = [];
      holds = s.holds;
      ended = s.ended;
      places = s.reserved s.who + events;
      room = max (s.room s.who) size;
      counts = s.counts;
    }

-- this holds of the calls that are to fail, where they are listed
abbrev pub OnListed : Option (List ℕ) → (List ℕ → Type 0) → Type 0
OnListed None P = ⊤
OnListed (Some list) P = P list

-- a share that is alone fails at the listed calls, and another only where some are listed
abbrev pub IsDue : ShareState → Type 0
IsDue s = OnListed s.fails (λ list. (list ≢ []) × (s.alone ≡ true → Contains list s.calls))

abbrev pub IsNotDue : ShareState → Type 0
IsNotDue s = OnListed s.fails (λ list. s.alone ≡ true → Contains list s.calls → ⊥)

-- a call that was answered, and left this
pub record Goes (left : Left) (old new : ShareState) : Type 0 where
  pub after : After left old new
  pub not_due : IsNotDue old

-- a call that failed
pub record Fails (old new : ShareState) : Type 0 where
  pub after : After (failed old) old new
  pub due : IsDue old

-- a call that wasn't this opener's turn
pub record IsTurnedAway (old new : ShareState) : Type 0 where
  pub after : After (turned_away old) old new
  pub takes_turns : old.turnless ≡ false

-- a call that was not answered
abbrev pub Stops : ShareStop → ShareState → ShareState → Type 0
Stops Failed old new = Fails old new
Stops Turn old new = IsTurnedAway old new
Stops Memory old new = ⊥
Stops JournalFull old new = ⊥

-- Events and kept places, with so many more, are too many for the journal. A share may know nothing of what others reserved
-- and yet count all kept places: only who holds exclusive has any reserved, places are reserved by who holds exclusive, and
-- they are counted for a try where no lock stands against it. So at each moment at which they are counted nobody else has any.
abbrev pub IsFull : ℕ → ShareState → Type 0
IsFull asked s = TellsThat s.told (λ h. most_events < length h.past + places_kept s.admitted s.reserved h.past + asked)

-- they are not too many
abbrev pub HasRoom : ShareState → Type 0
HasRoom s = OnTold s.told (λ h. length h.past + places_kept s.admitted s.reserved h.past ≤ most_events)

-- a call that reserves places, and was not answered
abbrev pub StopsReserving : ℕ → ShareStop → ShareState → ShareState → Type 0
StopsReserving asked Failed old new = Fails old new
StopsReserving asked Turn old new = IsTurnedAway old new
StopsReserving asked Memory old new = Goes (unmoved old) old new
StopsReserving asked JournalFull old new = Goes (unmoved old) old new × IsFull asked new

-- no lock stands against a try
abbrev pub IsFree : LockKind → ShareState → Type 0
IsFree kind s = OnTold s.told (λ h. MayTake (locks_after h.past) s.who kind)

-- a try for the lock that was not answered: it wants a place for its event and one for the unlock
abbrev pub StopsTrying : LockKind → ShareStop → ShareState → ShareState → Type 0
StopsTrying kind Failed old new = Fails old new
StopsTrying kind Turn old new = IsTurnedAway old new
StopsTrying kind Memory old new = Goes (unmoved old) old new × IsFree kind new
StopsTrying kind JournalFull old new = Goes (unmoved old) old new × IsFull 2 new × IsFree kind new

-- a try for the lock that was answered
abbrev pub Tries : LockKind → Tried → ShareState → ShareState → Type 0
Tries kind Taken old new = Goes (locked kind old) old new × HasRoom new
Tries kind (Busy holder) old new =
    Goes (refused old) old new × OnTold new.told (λ h. IsLeastAgainst (locks_after h.past) new.who kind holder)

-- where the journal is told, it is lawful with this event
abbrev pub MayMake : What → ShareState → Type 0
MayMake what s = OnTold s.told (λ h. Lawful h.start (record { who = s.who; what = what } ∷ h.past))

-- the word that a death leaves where it tears a store
abbrev pub torn_word : Region → Option TornStore → Option TornWord
torn_word r None = None
torn_word r (Some t) = Some (record { word = t.word; value = torn (word_at r.data_bytes t.word) t.new t.bits })

-- the word that is torn lies in the file
abbrev pub HasTornWord : Region → Option TornStore → Type 0
HasTornWord r None = ⊤
HasTornWord r (Some t) = IsWordOf r Data t.word

-- a death may tear the word so
abbrev pub MayTearAt : Option TornStore → ShareState → Type 0
MayTearAt None s = ⊤
MayTearAt torn s =
    (s.holds ≡ Some Exclusive)
    × OnTold s.told (λ h. Lawful h.start (record { who = s.who; what = Died (torn_word (region_after h.start h.past) torn) } ∷ h.past))

-- a death that was asked for
pub record Dies (by : Option TornStore) (old new : ShareState) : Type 0 where
  pub left : Option TornWord
  pub torn : OnTold old.told (λ h. left ≡ torn_word (region_after h.start h.past) by)
  pub goes : Goes (died left old) old new

abbrev pub word_in : Region → Side → ℕ → ℕ
word_in r Data word = word_at r.data_bytes word
word_in r Meta word = word_at r.meta_bytes word

-- where the journal is told, the word lies in its file
abbrev pub HasWord : Side → ℕ → ShareState → Type 0
HasWord side word s = OnTold s.told (λ h. IsWordOf (region_after h.start h.past) side word)
