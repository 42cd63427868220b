-- A map of pairs that can be packed is packed to bytes, and the maps of images and of what is appended to them are such.
use Rattle.std.proofs.Common.{◌≡◌, ℕ, ◌+◌, ◌^◌, ◌<◌, ◌≤◌, Bool, true, false, cond, [], length, drop, refl, sym, ◌∙◌, arith, subst, length-append, length-take, length-drop}
use Rattle.std.specs.Prelude.{Option, Some, None, option_and_then, ◌==◌}
use Rattle.std.specs.Int.{to_le_bytes, w32}
use Rattle.std.specs.Ordering.{eq_by_cmp}
use Rattle.std.specs.Cmp.Lexicographic.{nat_list_cmp_total}
use Rattle.std.specs.FinMap as fin
use Rattle.expiring_map.specs.Map.{Map, value_until}
use Rattle.expiring_map.specs.Live.{live_part, with_expiry}
use Rattle.expiring_map.proofs.Refold.{order, same_keys, is_equal}
use Rattle.kv_pairs.specs.Lengths.{shortest}
use Rattle.kv_pairs.specs.Growth.{largest}
use Rattle.kv_pairs.specs.Mapped.{packed, map_in, stored, length_prefixed, IsPackablePair, IsPackable}
use Rattle.kv_pairs.proofs.GoodItems.{Small-from, Small-to, Small-take, Small-drop}
use Rattle.kv_pairs.proofs.Packables.{to_packable, from_packable}
use Rattle.kv_pairs.proofs.Packing.{packed_small, read_packs, packable_live, packable_expiring, packable_empty}
use Rattle.change_log.specs.Acts.{applied, expiry_after}
use Rattle.change_log.specs.declared.change.Act.{Act}
use Rattle.change_log.specs.declared.change.Act.TheVariants as act
use Rattle.region_words.specs.Region.{Region, IsRegion, flag, payload_of, shown, size_of, map_shown}
use Rattle.region_words.specs.Rows.{AreBytes, IsAppendable, item_of}

-- a packed map is bytes
pub packed_bytes : (flag : Bool) (m : Map) → IsPackable flag m → AreBytes (packed flag m)
packed_bytes flag m p = Small-to (packed flag m) (packed_small flag m (from_packable flag m p))

-- what a rewrite leaves of a map that can be packed can be packed
pub pack_packs : (flag : Bool) (m : Map) (now : ℕ) → IsPackable flag m → IsPackable flag (applied m (act.Pack now))
pack_packs flag m now p = to_packable flag (live_part m now) (packable_live flag m now (from_packable flag m p))

pub clear_packs : (flag : Bool) (m : Map) → IsPackable flag (applied m act.Clear)
clear_packs flag m = to_packable flag fin.empty (packable_empty flag)

in_range : (now seconds : ℕ) → now + seconds < 2 ^ 32 → expiry_after now seconds < 2 ^ 32
in_range now seconds h = go (seconds == 0)
  where
    go : (b : Bool) → cond b 0 (now + seconds) < 2 ^ 32
    go true = omega arith
    go false = h

pub enable_packs : (flag : Bool) (m : Map) (now seconds : ℕ) → now + seconds < 2 ^ 32 → IsPackable flag m → IsPackable true (applied m (act.Enable now seconds))
enable_packs flag m now seconds h p =
    to_packable true (with_expiry (expiry_after now seconds) m)
    (packable_expiring flag true m (expiry_after now seconds) (in_range now seconds h) (λ f. absurd cc) (from_packable flag m p))

pub disable_packs : (flag : Bool) (m : Map) (now : ℕ) → IsPackable flag m → IsPackable false (applied m (act.Disable now))
disable_packs flag m now p =
    to_packable false (with_expiry 0 (live_part m now))
    (packable_expiring flag false (live_part m now) 0 (omega arith) (λ f. refl) (packable_live flag m now (from_packable flag m p)))

-- the map of an image can be packed
pub shown_packs : (r : Region) (m : Map) → IsRegion r → map_shown r ≡ Some m → IsPackable (flag r) m
shown_packs r m is e = go (size_of (shown r)) e
  where
    go : (o : Option ℕ) → option_and_then (λ n. map_in (flag r) (payload_of r n)) o ≡ Some m → IsPackable (flag r) m
    go None f = absurd cc
    go (Some n) f =
        let short : length (payload_of r n) ≤ largest = omega (arith, length-take n (drop 4 r.data_bytes), length-drop 4 r.data_bytes, is.data_file.most) in
        to_packable (flag r) m (read_packs (flag r) (payload_of r n) m (Small-take n (drop 4 r.data_bytes) (Small-drop 4 r.data_bytes (Small-from r.data_bytes is.data_file.small))) short f)

-- a put or remove of an item that fits in a file leaves a map that can be packed
pub appended_packs : (flag : Bool) (m : Map) (a : Act) → IsAppendable flag a → length (item_of flag a) ≤ largest → IsPackable flag m → IsPackable flag (applied m a)
appended_packs flag m (act.Put key value expiry) (k, v, vl, vb, ex, off) short p q d e = go (eq_by_cmp order q key) refl (sym (fin.get-insert nat_list_cmp_total m key (value_until value expiry) q) ∙ e)
  where
    stored_long : (b : Bool) → length value ≤ length (stored b (value_until value expiry))
    stored_long true = omega (arith, length-append value (to_le_bytes w32 expiry))
    stored_long false = omega (arith, length-append value [])

    item_long : length key + length value ≤ length (item_of flag (act.Put key value expiry))
    item_long =
        let d = stored flag (value_until value expiry) in
        omega (arith, length-append (length_prefixed key) (length_prefixed d), length-append (shortest (length key)) key, length-append (shortest (length d)) d, stored_long flag)

    pair : IsPackablePair flag key (value_until value expiry)
    pair =
        record {
          key_some = k.0;
          key_short = omega (arith, item_long, short);
          key_bytes = k.2;
          value_some = v;
          value_short = omega (arith, item_long, short);
          value_bytes = vb;
          expiry_small = ex;
          no_expiry = off;
        }

    go : (b : Bool) → eq_by_cmp order q key ≡ b → cond (eq_by_cmp order q key) (Some (value_until value expiry)) (fin.get m q) ≡ Some d → IsPackablePair flag q d
    go true t f =
        let same : cond (eq_by_cmp order q key) (Some (value_until value expiry)) (fin.get m q) ≡ Some (value_until value expiry) = rw t refl in
        let value_is : value_until value expiry ≡ d = cc in
        subst (λ z. IsPackablePair flag z d) (sym (same_keys q key (is_equal _ t))) (subst (IsPackablePair flag key) value_is pair)
    go false t f =
        let same : cond (eq_by_cmp order q key) (Some (value_until value expiry)) (fin.get m q) ≡ fin.get m q = rw t refl in
        p q d (sym same ∙ f)
appended_packs flag m (act.Remove key) h short p q d e = p q d (removed (eq_by_cmp order q key) (sym (fin.get-remove nat_list_cmp_total m key q) ∙ e))
  where
    removed : (b : Bool) → cond b None (fin.get m q) ≡ Some d → fin.get m q ≡ Some d
    removed true f = absurd cc
    removed false f = f
appended_packs flag m act.Clear h short p q d e = absurd h
appended_packs flag m (act.Pack now) h short p q d e = absurd h
appended_packs flag m (act.Enable now seconds) h short p q d e = absurd h
appended_packs flag m (act.Disable now) h short p q d e = absurd h
appended_packs flag m (act.Restored pairs) h short p q d e = absurd h
appended_packs flag m act.Discarded h short p q d e = absurd h
appended_packs flag m (act.Recovered pairs) h short p q d e = absurd h
