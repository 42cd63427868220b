-- What the rows need of the texts of payloads: premises here, to be proved where the texts are defined.
use Rattle.std.proofs.Common.{◌≡◌, ℕ, ◌+◌, ◌^◌, ◌<◌, ◌≤◌, Bool, true, false, List, ◌++◌, length}
use Rattle.std.specs.Prelude.{Some, drop}
use Rattle.expiring_map.specs.Map.{Map, map_of_pairs, pairs_of}
use Rattle.kv_pairs.specs.Growth.{largest}
use Rattle.change_log.specs.Acts.{applied}
use Rattle.change_log.specs.declared.change.Act.{Act}
use Rattle.region_words.specs.Region.{Region, flag, map_in}
use Rattle.region_words.specs.Rows.{Row, Append, Pack, Clear, Enable, Disable, Restore, Discard, Recover, SizeRepair, AreBytes, IsAppendable, item_of, flag_after, payload_after, row_map}

-- rows that put the packed pairs of the map in place of an image
abbrev pub IsPacking : Bool → Row → Type 0
IsPacking flag (Pack now need) = Unit {0}
IsPacking flag Clear = Unit {0}
IsPacking flag (Enable now seconds) = (flag ≡ false) × (now + seconds < 2 ^ 32)
IsPacking flag (Disable now) = flag ≡ true
IsPacking flag (Append a) = ⊥
IsPacking flag Restore = ⊥
IsPacking flag Discard = ⊥
IsPacking flag Recover = ⊥
IsPacking flag SizeRepair = ⊥

pub record TextLaws : Type 0 where
  pub pairs : (m : Map) → map_of_pairs (pairs_of m) ≡ m
  pub item_bytes : (flag : Bool) (a : Act) → IsAppendable flag a → AreBytes (item_of flag a) × (0 < length (item_of flag a))
  pub appended : (flag : Bool) (p : List ℕ) (m : Map) (a : Act) → AreBytes p → length p ≤ largest → 0 < length p → map_in flag p ≡ Some m → IsAppendable flag a →
      map_in flag (p ++ item_of flag a) ≡ Some (applied m a)
  pub packs : (r : Region) (m : Map) (row : Row) (p : List ℕ) → AreBytes p → length p ≤ largest → map_in (flag r) p ≡ Some m → IsPacking (flag r) row →
      AreBytes (payload_after r m row) × (map_in (flag_after r row) (payload_after r m row) ≡ Some (row_map r m row))
  pub recovers : (r : Region) (m : Map) → AreBytes (drop 4 r.data_bytes) → length r.data_bytes ≤ largest →
      AreBytes (payload_after r m Recover) × (map_in (flag r) (payload_after r m Recover) ≡ Some (row_map r m Recover))
