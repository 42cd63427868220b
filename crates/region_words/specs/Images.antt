-- An image that an opener keeps, and what is known of it later on.
use Rattle.std.specs.Prelude.{◌≡◌, ℕ, ◌≤◌, List, [], ◌++◌, Option, Some, drop}
use Rattle.expiring_map.specs.Map.{Map}
use Rattle.kv_pairs.specs.Reading.{units_at}
use Rattle.kv_pairs.specs.Mapped.{with_items}
use Rattle.kv_pairs.specs.declared.item.Item.{Item}
use Rattle.change_log.specs.Acts.{replay}
use Rattle.meta_record.specs.declared.shown.Shown.TheVariants.{Whole}
use Rattle.region_words.specs.Region.{Region, record_of, payload_of, file_size, flag, shown, map_shown}
use Rattle.region_words.specs.Past.{region_after, changes_of}
use Rattle.region_words.specs.Lawful.{Phase, Between, Reaches}
use Rattle.region_words.specs.declared.event.Event.{Event}

-- an image: the region that showed it, its size and its map
pub record Image : Type 0 where
  pub region : Region
  pub size : ℕ
  pub pairs : Map

abbrev pub image_of : Region → List Event → ℕ → Map → Image
image_of start past n m = record { region = region_after start past; size = n; pairs = m }

abbrev pub kept_bytes : Image → List ℕ
kept_bytes k = payload_of k.region k.size

-- no row is under way, whichever rows these events are read as
abbrev pub IsResting : Region → List Event → Type 0
IsResting start past = (p : Phase) → Reaches start past p → (room : Option ℕ) × (p ≡ Between room)

-- At this moment no row is under way, and the region shows a whole image of this size with this map.
pub record IsKept (start : Region) (past : List Event) (n : ℕ) (m : Map) : Type 0 where
  pub rests : IsResting start past
  pub shows : shown (region_after start past) ≡ Whole n
  pub maps : map_shown (region_after start past) ≡ Some m

abbrev pub sequence_at : Region → List Event → ℕ
sequence_at start past = (record_of (region_after start past)).sequence

abbrev pub checksum_at : Region → List Event → ℕ
checksum_at start past = (record_of (region_after start past)).checksum

-- The image stands in this region as it was: what is stored meanwhile goes on from its payload.
pub record SameImage (k : Image) (r : Region) : Type 0 where
  pub content_is : payload_of r k.size ≡ kept_bytes k
  pub file_is : file_size k.region ≤ file_size r
  pub flag_is : flag r ≡ flag k.region
  pub version_is : (record_of r).version ≡ (record_of k.region).version
  pub last_size_is : (record_of r).last_size ≡ (record_of k.region).last_size
  pub last_checksum_is : (record_of r).last_checksum ≡ (record_of k.region).last_checksum
  pub size_is : k.size ≤ (record_of r).size
  pub extends : (z : ℕ) → k.size ≤ z → payload_of r z ≡ kept_bytes k ++ drop k.size (payload_of r z)

-- the bytes of the record's image behind the first n
abbrev pub bytes_behind : Region → ℕ → List ℕ
bytes_behind r n = drop n (payload_of r (record_of r).size)

-- The record's image is whole, and the items behind the first n bytes take the map m to its map, as the changes meanwhile do.
pub record LoadsOn (start : Region) (past later : List Event) (n : ℕ) (m : Map) : Type 0 where
  pub items : List Item
  pub reads : units_at (bytes_behind (region_after start (later ++ past)) n) ≡ (items, [])
  pub shows : shown (region_after start (later ++ past)) ≡ Whole (record_of (region_after start (later ++ past))).size
  pub maps : map_shown (region_after start (later ++ past)) ≡ Some (with_items (flag (region_after start past)) m items)
  pub replayed : with_items (flag (region_after start past)) m items ≡ replay m (changes_of later)
