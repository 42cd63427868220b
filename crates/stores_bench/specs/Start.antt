-- The region in which a row is made.
use Rattle.std.specs.Prelude.{◌≡◌, ℕ, false, List, [], ◌∷◌, ◌++◌, Some}
use Rattle.kv_pairs.specs.Growth.{IsFileSize}
use Rattle.change_log.specs.declared.change.Act.TheVariants as act
use Rattle.change_log.specs.declared.change.Change.{Change}
use Rattle.lock_rules.specs.declared.table.LockKind.TheVariants.{Exclusive}
use Rattle.region_words.specs.Region.{Region, file_size}
use Rattle.region_words.specs.Stores.{filled_up}
use Rattle.region_words.specs.Local.{Seated, seat_state, event_of}
use Rattle.region_words.specs.declared.event.What.TheVariants.{Lock}
use Rattle.region_words.specs.declared.event.Event.{Event}
use Rattle.region_words.specs.declared.standing.Standing.{Standing}
use Rattle.stores_bench.specs.declared.start.TheConstants.{FIRST_BYTES, RECORD_BYTES}

-- a region whose files begin with the start's bytes
abbrev pub started : List ℕ → Region
started behind = record { data_bytes = FIRST_BYTES ++ behind; meta_bytes = filled_up RECORD_BYTES }

abbrev pub IsStart : Region → Type 0
IsStart r = (behind : List ℕ) × (r ≡ started behind)

-- opener 1 took the lock
abbrev pub lock : List Event
lock = event_of 1 (Lock Exclusive) ∷ []

-- opener 1 holds the lock, and nothing else has happened
pub record IsHeld (s : Seated) : Type 0 where
  pub who : s.who ≡ 1
  pub alive : (seat_state s).ended ≡ false
  pub holds : (seat_state s).holds ≡ Some Exclusive
  pub start : IsStart s.region.start
  pub past : s.region.past ≡ lock

-- what it knows of the image in a file of this size
abbrev pub known_of : ℕ → Standing
known_of size = record { sequence = 1; version = 3; flag = false; size = 4; checksum = 0; tail = 0; file_size = size }

-- it holds the lock and knows the image
pub record IsReady (s : Seated) (standing : Standing) : Type 0 where
  pub held : IsHeld s
  pub known : standing ≡ known_of (file_size s.region.start)
  pub file : IsFileSize (file_size s.region.start)

-- a put of opener 1, of the key k
abbrev pub put_by_one : List ℕ → Change
put_by_one value = record { maker = 1; act = act.Put (0x6b ∷ []) value 0 }
