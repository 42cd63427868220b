use Rattle.std.specs.Prelude.{◌≡◌, ℕ, ◌-◌, ◌%◌, ◌<◌, ◌≤◌, ◌⊎◌, Bool, List, Option, Some, None, length, All, IsOk, Result, Ok, Err, option_and_then, is_some, unwrap_or, ◌==◌, if◌then◌else◌}
use Rattle.std.specs.FinMap as fin
use Rattle.expiring_map.specs.Map.{Map}
pub use Rattle.kv_pairs.specs.Mapped.{map_in}
use Rattle.kv_pairs.specs.Growth.{largest}
use Rattle.meta_record.specs.Words.{word_at, fits, payload}
use Rattle.meta_record.specs.Records.{record_at, checked, shown_size}
use Rattle.meta_record.specs.declared.record.Record.{Record}
use Rattle.meta_record.specs.declared.record.RecordFault.{RecordFault}
use Rattle.meta_record.specs.declared.shown.Damage.TheVariants.{Content}
use Rattle.meta_record.specs.declared.shown.Shown.{Shown}
use Rattle.meta_record.specs.declared.shown.Shown.TheVariants.{Whole, Header, Last, Damaged}
use Rattle.region_words.specs.declared.shelf.TheConstants.{LARGEST_META}

-- the bytes of the two files
pub record Region : Type 0 where
  pub data_bytes : List ℕ
  pub meta_bytes : List ℕ

-- a file is whole pages of bytes, no more than so many
pub record IsFile (bytes : List ℕ) (limit : ℕ) : Type 0 where
  pub pages : length bytes % 4096 ≡ 0
  pub not_empty : 0 < length bytes
  pub most : length bytes ≤ limit
  pub small : All (λ b. b < 256) bytes

pub record IsRegion (r : Region) : Type 0 where
  pub data_file : IsFile r.data_bytes largest
  pub meta_file : IsFile r.meta_bytes LARGEST_META

abbrev pub region_of : List ℕ → List ℕ → Region
region_of body meta = record { data_bytes = body; meta_bytes = meta }

abbrev pub header : Region → ℕ
header r = word_at r.data_bytes 0

abbrev pub record_of : Region → Record
record_of r = record_at r.meta_bytes

abbrev pub file_size : Region → ℕ
file_size r = length r.data_bytes

-- pairs have expiries
abbrev pub flag : Region → Bool
flag r = (record_of r).flags == 1

-- the payload of this size
abbrev pub payload_of : Region → ℕ → List ℕ
payload_of r n = payload r.data_bytes n

abbrev pub IsAccepted : Region → Type 0
IsAccepted r = IsOk (checked (record_of r) (header r))

-- an image without a map is damage
abbrev pub if_it_has_a_map : Region → Shown → Shown
if_it_has_a_map r (Whole n) = if is_some (map_in (flag r) (payload_of r n)) then Whole n else Damaged Content
if_it_has_a_map r (Header n) = if is_some (map_in (flag r) (payload_of r n)) then Header n else Damaged Content
if_it_has_a_map r (Last n) = if is_some (map_in (flag r) (payload_of r n)) then Last n else Damaged Content
if_it_has_a_map r (Damaged d) = Damaged d

-- what a region shows
unfoldable pub shown : Region → Shown
shown r = if_it_has_a_map r (shown_size (record_of r) (header r) r.data_bytes)

abbrev pub if_accepted : Result (Unit {0}) RecordFault → Shown → Result Shown RecordFault
if_accepted (Ok _) s = Ok s
if_accepted (Err fault) s = Err fault

-- what an accepted region shows, or why it is refused
abbrev pub shown_if_accepted : Region → Result Shown RecordFault
shown_if_accepted r = if_accepted (checked (record_of r) (header r)) (shown r)

-- the size of the image shown
abbrev pub size_of : Shown → Option ℕ
size_of (Whole n) = Some n
size_of (Header n) = Some n
size_of (Last n) = Some n
size_of (Damaged d) = None

-- the same, and 0 for a damaged region
abbrev pub size_shown : Region → ℕ
size_shown r = unwrap_or (size_of (shown r)) 0

-- the map of the image shown: none where the region is damaged
abbrev pub map_shown : Region → Option Map
map_shown r = option_and_then (λ n. map_in (flag r) (payload_of r n)) (size_of (shown r))

-- the map with which a history of the region begins
abbrev pub base : Region → Map
base r = unwrap_or (map_shown r) fin.empty

-- the region shows this map, not by its last confirmed image
abbrev pub ShowsMap : Region → Map → Type 0
ShowsMap r m = ((n : ℕ) × ((shown r ≡ Whole n) ⊎ (shown r ≡ Header n))) × (map_shown r ≡ Some m)

-- the payload from which a damaged region is recovered
abbrev pub recovery_payload : Region → List ℕ
recovery_payload r = payload_of r (if fits r.data_bytes (record_of r).size then (record_of r).size else file_size r - 4)
