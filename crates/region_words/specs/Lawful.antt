use Rattle.std.specs.Prelude.{◌≡◌, ℕ, ◌+◌, ◌*◌, ◌%◌, ◌^◌, ◌<◌, ◌≤◌, ◌⊎◌, Bool, true, false, List, [], ◌∷◌, Option, Some, None, length, IsTrue, ⊤}
use Rattle.expiring_map.specs.Map.{Map}
use Rattle.kv_pairs.specs.Growth.{largest}
use Rattle.change_log.specs.Acts.{replay}
use Rattle.lock_rules.specs.Locks.{Locks, holds, holds_exclusive, MayTake}
use Rattle.lock_rules.specs.declared.limits.TheConstants.{MOST_OPENERS}
use Rattle.meta_record.specs.Words.{word_at, torn}
use Rattle.region_words.specs.Region.{Region, IsAccepted, file_size, base}
use Rattle.region_words.specs.Past.{region_after, changes_of, locks_after, has_died}
use Rattle.region_words.specs.Rows.{Row, Append, Pack, Clear, Enable, Disable, Restore, Discard, Recover, SizeRepair, MayBegin, events_of}
use Rattle.region_words.specs.Apart.{Apart}
use Rattle.region_words.specs.declared.event.Side.{Side}
use Rattle.region_words.specs.declared.event.Side.TheVariants.{Data, Meta}
use Rattle.region_words.specs.declared.event.Mark.{Mark}
use Rattle.region_words.specs.declared.event.Mark.TheVariants.{Plain, Commit}
use Rattle.region_words.specs.declared.event.TornWord.{TornWord}
use Rattle.region_words.specs.declared.event.What.{What}
use Rattle.region_words.specs.declared.event.What.TheVariants.{Store, Grow, Lock, Unlock, Died}
use Rattle.region_words.specs.declared.event.Event.{Event}

-- a word of this place stands in the file
abbrev pub IsWordOf : Region → Side → ℕ → Type 0
IsWordOf r Data word = 4 * word + 4 ≤ length r.data_bytes
IsWordOf r Meta word = 4 * word + 4 ≤ length r.meta_bytes

-- a version that is stored is 3 or 4
abbrev pub IsVersionStore : Side → ℕ → ℕ → Type 0
IsVersionStore Data word value = ⊤
IsVersionStore Meta word value = word ≡ 1 → (value ≡ 3) ⊎ (value ≡ 4)

-- the change that a mark commits is its maker's own
abbrev pub IsMarkOf : ℕ → Mark → Type 0
IsMarkOf who Plain = ⊤
IsMarkOf who (Commit change) = change.maker ≡ who

-- A torn word is a payload word.
abbrev pub IsTornIn : Region → Option TornWord → Type 0
IsTornIn r None = ⊤
IsTornIn r (Some t) = (1 ≤ t.word) × IsWordOf r Data t.word × (t.value < 2 ^ 32)

abbrev pub IsTearer : Locks → ℕ → Option TornWord → Type 0
IsTearer locks who None = ⊤
IsTearer locks who (Some t) = IsTrue (holds_exclusive locks who)

-- what any opener may do, whatever the checksums are: words are changed under the exclusive lock alone, within the files
abbrev pub IsPossible : Region → Locks → ℕ → What → Type 0
IsPossible r locks who (Store side word value mark) =
    IsTrue (holds_exclusive locks who) × IsWordOf r side word × (value < 2 ^ 32) × IsVersionStore side word value × IsMarkOf who mark
IsPossible r locks who (Grow size) =
    IsTrue (holds_exclusive locks who) × (file_size r < size) × (size ≤ largest) × (size % 4096 ≡ 0)
IsPossible r locks who (Lock kind) = MayTake locks who kind
IsPossible r locks who Unlock = IsTrue (holds locks who)
IsPossible r locks who (Died torn) = IsTearer locks who torn × IsTornIn r torn

-- an event that may come after this past, whatever the checksums are
pub record IsPermitted (start : Region) (past : List Event) (e : Event) : Type 0 where
  pub maker : (1 ≤ e.who) × (e.who ≤ MOST_OPENERS)
  pub alive : has_died past e.who ≡ false
  pub possible : IsPossible (region_after start past) (locks_after past) e.who e.what
  pub accepted : IsAccepted start → IsAccepted (region_after start (e ∷ past))

-- Where a hold stands: between rows, with the room that a write-back just made for an item; or within a row, with its events to come.
pub data Phase : Type 0 where
  Between : Option ℕ → Phase
  Within : Row → List What → Phase

-- what a row that has ended leaves
abbrev pub room_of : Row → Option ℕ
room_of (Append a) = None
room_of (Pack now need) = Some need
room_of Clear = None
room_of (Enable now seconds) = None
room_of (Disable now) = None
room_of Restore = None
room_of Discard = None
room_of Recover = None
room_of SizeRepair = None

-- the phase in which these events of the row are to come
abbrev pub phase_with : Row → List What → Phase
phase_with row [] = Between (room_of row)
phase_with row (what ∷ rest) = Within row (what ∷ rest)

-- the events to come: of the row under way, or of a row that may begin, where the record is accepted
abbrev pub MayComeNext : Region → Map → ℕ → Phase → Row → List What → Type 0
MayComeNext r m who (Within row rest) next events = (next ≡ row) × (events ≡ rest)
MayComeNext r m who (Between room) next events = MayBegin r m room next × (events ≡ events_of r m who next) × IsAccepted r

-- the word whose store is the next event is torn so, with these bits
abbrev pub IsTornWith : Region → Map → ℕ → Phase → ℕ → TornWord → Type 0
IsTornWith r m who phase bits t =
    (row : Row) × (new : ℕ) × (rest : List What) × MayComeNext r m who phase row (Store Data t.word new Plain ∷ rest)
    × (t.value ≡ torn (word_at r.data_bytes t.word) new bits)

-- a word may be torn where its store is the next event, with any bits
abbrev pub MayTear : Region → Map → ℕ → Phase → Option TornWord → Type 0
MayTear r m who phase None = ⊤
MayTear r m who phase (Some t) = (bits : ℕ) × IsTornWith r m who phase bits t

-- the next event of a row
abbrev pub Advances : Region → Map → ℕ → Phase → What → Phase → Type 0
Advances r m who old what new =
    (row : Row) × (rest : List What) × MayComeNext r m who old row (what ∷ rest) × (new ≡ phase_with row rest)

-- a death cuts the row of the exclusive holder, and nobody else's
abbrev pub Dies : Bool → Region → Map → ℕ → Phase → Option TornWord → Phase → Type 0
Dies true r m who old torn new = MayTear r m who old torn × (new ≡ Between None)
Dies false r m who old torn new = new ≡ old

-- from one phase to the next by an event
abbrev pub IsStep : Region → Map → Locks → ℕ → Phase → What → Phase → Type 0
IsStep r m locks who old (Lock kind) new = new ≡ old
IsStep r m locks who old Unlock new = ((room : Option ℕ) × (old ≡ Between room)) × (new ≡ Between None)
IsStep r m locks who old (Died torn) new = Dies (holds_exclusive locks who) r m who old torn new
IsStep r m locks who old what new = Advances r m who old what new

-- the map of the history so far
abbrev pub map_after : Region → List Event → Map
map_after start past = replay (base start) (changes_of past)

-- the stores and growths of these events are rows one after another, which lead to this phase
abbrev pub Reaches : Region → List Event → Phase → Type 0
Reaches start [] phase = phase ≡ Between None
Reaches start (e ∷ past) phase =
    (old : Phase) × Reaches start past old
    × IsStep (region_after start past) (map_after start past) (locks_after past) e.who old e.what phase

-- each event is permitted, and as long as checksums tell payloads apart the events are rows
abbrev pub Lawful : Region → List Event → Type 0
Lawful start [] = Unit {0}
Lawful start (e ∷ past) =
    Lawful start past × IsPermitted start past e × (Apart start past → (phase : Phase) × Reaches start (e ∷ past) phase)
