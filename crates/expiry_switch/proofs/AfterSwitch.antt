-- What a map takes, packed, after a switch, and how few events a switch has beside its payload.
use Rattle.std.proofs.Common.{ℕ, ◌+◌, ◌^◌, ◌<◌, ◌≤◌, Bool, true, false, [], ◌∷◌, length, arith, length-append}
use Rattle.std.specs.Prelude.{Some, nat_lt, if◌then◌else◌}
use Rattle.expiring_map.specs.Map.{Map}
use Rattle.expiring_map.specs.Live.{live_part}
use Rattle.kv_pairs.specs.Growth.{largest}
use Rattle.kv_pairs.specs.Fits.{FitsIn}
use Rattle.kv_pairs.proofs.PackedSizes.{live_fits}
use Rattle.kv_pairs.proofs.OtherExpiry.{with_expiry_size}
use Rattle.change_log.specs.Acts.{applied, expiry_after}
use Rattle.change_log.specs.declared.change.Act.TheVariants as act
use Rattle.region_words.specs.Rows.{growth, next_sequence, store_meta, close_sizes}
use Rattle.region_words.specs.declared.standing.Standing.{Standing}
use Rattle.region_words.specs.declared.event.What.{What}
use Rattle.region_words.proofs.PackedBytes.{enable_packs, disable_packs}
use Rattle.expiry_switch.specs.PartsInside.{opening}

-- a map that stands in a file can be packed under the other flag
pub enabled_fits : (flag : Bool) (m : Map) (now seconds : ℕ) → now + seconds < 2 ^ 32 → FitsIn flag m largest → FitsIn true (applied m (act.Enable now seconds)) (2 ^ 30)
enabled_fits flag m now seconds h f =
    record { pairs = enable_packs flag m now seconds h f.pairs; size = omega (arith, with_expiry_size flag true m (expiry_after now seconds), f.size) }

pub disabled_fits : (flag : Bool) (m : Map) (now : ℕ) → FitsIn flag m largest → FitsIn false (applied m (act.Disable now)) (2 ^ 30)
disabled_fits flag m now f =
    record { pairs = disable_packs flag m now f.pairs; size = omega (arith, with_expiry_size flag false (live_part m now) 0, live_fits flag m now, f.size) }

at_most_one : (b : Bool) (what : What) → length (if b then what ∷ [] else []) ≤ 1
at_most_one true what = omega arith
at_most_one false what = omega arith

pub few_before : (s : Standing) (size : ℕ) → length (opening s size) ≤ 6
few_before s size =
    omega (arith, length-append (growth s (Some size)) (next_sequence s ∷ store_meta 1 4 ∷ close_sizes), at_most_one (nat_lt s.file_size size) (What.Grow size))
