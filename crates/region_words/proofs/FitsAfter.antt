-- What a map takes, packed, after a change.
use Rattle.std.proofs.Common.{ℕ, ◌+◌, ◌≤◌, Bool, length, arith}
use Rattle.expiring_map.specs.Map.{Map, value_until}
use Rattle.kv_pairs.specs.Growth.{largest}
use Rattle.kv_pairs.specs.Mapped.{packed_size}
use Rattle.kv_pairs.specs.Fits.{FitsIn}
use Rattle.kv_pairs.proofs.PackedSizes.{put_fits, removed_fits, live_fits, empty_size}
use Rattle.change_log.specs.Acts.{applied}
use Rattle.change_log.specs.declared.change.Act.{Act}
use Rattle.change_log.specs.declared.change.Act.TheVariants as act
use Rattle.region_words.specs.Rows.{IsAppendable, item_of}
use Rattle.region_words.proofs.PackedBytes.{appended_packs, pack_packs, clear_packs}

-- a put or remove adds its item at most
appended_size : (flag : Bool) (m : Map) (a : Act) → IsAppendable flag a → packed_size flag (applied m a) ≤ packed_size flag m + length (item_of flag a)
appended_size flag m (act.Put key value expiry) h = put_fits flag m key (value_until value expiry)
appended_size flag m (act.Remove key) h = omega (arith, removed_fits flag m key)
appended_size flag m act.Clear h = absurd h
appended_size flag m (act.Pack now) h = absurd h
appended_size flag m (act.Enable now seconds) h = absurd h
appended_size flag m (act.Disable now) h = absurd h
appended_size flag m (act.Restored pairs) h = absurd h
appended_size flag m act.Discarded h = absurd h
appended_size flag m (act.Recovered pairs) h = absurd h

pub appended_fits : (flag : Bool) (m : Map) (a : Act) (room : ℕ) → FitsIn flag m room → IsAppendable flag a → length (item_of flag a) ≤ largest →
    FitsIn flag (applied m a) (room + length (item_of flag a))
appended_fits flag m a room f h short =
    record { pairs = appended_packs flag m a h short f.pairs; size = omega (arith, appended_size flag m a h, f.size) }

-- a write-back adds nothing
pub packed_fits : (flag : Bool) (m : Map) (now room : ℕ) → FitsIn flag m room → FitsIn flag (applied m (act.Pack now)) room
packed_fits flag m now room f = record { pairs = pack_packs flag m now f.pairs; size = omega (arith, live_fits flag m now, f.size) }

-- and a map that is cleared takes the heading alone
pub cleared_fits : (flag : Bool) (m : Map) → FitsIn flag (applied m act.Clear) 4
cleared_fits flag m = record { pairs = clear_packs flag m; size = omega (arith, empty_size flag) }
