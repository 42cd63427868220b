-- The premises on texts hold.
use Rattle.std.proofs.Common.{◌≡◌, ℕ, ◌+◌, ◌-◌, ◌^◌, ◌<◌, ◌≤◌, Bool, true, false, cond, List, [], length, drop, refl, sym, arith, subst, length-append, length-take, length-drop}
use Rattle.std.specs.Prelude.{Some, ◌==◌, if◌then◌else◌}
use Rattle.std.specs.FinMap as fin
use Rattle.expiring_map.specs.Map.{Map, value_until, map_of_pairs, pairs_of}
use Rattle.expiring_map.specs.Live.{live_part, with_expiry}
use Rattle.expiring_map.proofs.Refold.{pairs_again}
use Rattle.kv_pairs.specs.Lengths.{shortest}
use Rattle.kv_pairs.specs.Growth.{largest}
use Rattle.kv_pairs.specs.Mapped.{packed, greedy_map, length_prefixed, stored}
use Rattle.kv_pairs.proofs.GoodItems.{Small-from, Small-to, Small-take, Small-append}
use Rattle.kv_pairs.proofs.GrammarRead.{Small}
use Rattle.kv_pairs.proofs.Packing.{Packable, packed_map, packed_small, put_small, text_small, read_packs, greedy_packs, packable_live, packable_expiring, packable_empty}
use Rattle.change_log.specs.Acts.{expiry_after}
use Rattle.change_log.specs.declared.change.Act.{Act}
use Rattle.change_log.specs.declared.change.Act.TheVariants as act
use Rattle.meta_record.specs.Words.{fits}
use Rattle.region_words.specs.Region.{Region, flag, map_in, recovery_payload, record_of, file_size}
use Rattle.region_words.specs.Rows.{Row, Append, Pack, Clear, Enable, Disable, Restore, Discard, Recover, SizeRepair, AreBytes, IsAppendable, item_of, flag_after, payload_after, row_map}
use Rattle.region_words.proofs.AppendedMap.{appended_map}
use Rattle.region_words.proofs.TextLaws.{TextLaws, IsPacking}

item_bytes : (flag : Bool) (a : Act) → IsAppendable flag a → AreBytes (item_of flag a) × (0 < length (item_of flag a))
item_bytes flag (act.Put key value expiry) (k, v, vl, vb, e, off) =
    let d = value_until value expiry in (
      Small-to (item_of flag (act.Put key value expiry)) (put_small flag key d (Small-from key k.2) (Small-from value vb)),
      omega (arith, length-append (length_prefixed key) (length_prefixed (stored flag d)), length-append (shortest (length key)) key, k.0),
    )
item_bytes flag (act.Remove key) k = (
  Small-to (item_of flag (act.Remove key)) (Small-append (length_prefixed key) (length_prefixed []) (text_small key (Small-from key k.2)) (text_small [] tt)),
  omega (arith, length-append (length_prefixed key) (length_prefixed []), length-append (shortest (length key)) key, k.0),
)
item_bytes flag act.Clear a = absurd a
item_bytes flag (act.Pack now) a = absurd a
item_bytes flag (act.Enable now seconds) a = absurd a
item_bytes flag (act.Disable now) a = absurd a
item_bytes flag (act.Restored pairs) a = absurd a
item_bytes flag act.Discarded a = absurd a
item_bytes flag (act.Recovered pairs) a = absurd a

-- a map that can be packed is what its payload is read as
whole : (flag : Bool) (m : Map) → Packable flag m → AreBytes (packed flag m) × (map_in flag (packed flag m) ≡ Some m)
whole flag m p = (Small-to (packed flag m) (packed_small flag m p), packed_map flag m p)

in_range : (now seconds : ℕ) → now + seconds < 2 ^ 32 → expiry_after now seconds < 2 ^ 32
in_range now seconds h = go (seconds == 0)
  where
    go : (b : Bool) → cond b 0 (now + seconds) < 2 ^ 32
    go true = omega arith
    go false = h

packs : (r : Region) (m : Map) (row : Row) (p : List ℕ) → AreBytes p → length p ≤ largest → map_in (flag r) p ≡ Some m → IsPacking (flag r) row →
    AreBytes (payload_after r m row) × (map_in (flag_after r row) (payload_after r m row) ≡ Some (row_map r m row))
packs r m (Pack now need) p bytes le e ok = whole (flag r) (live_part m now) (packable_live (flag r) m now (read_packs (flag r) p m (Small-from p bytes) le e))
packs r m Clear p bytes le e ok = whole (flag r) fin.empty (packable_empty (flag r))
packs r m (Enable now seconds) p bytes le e ok =
    whole true (with_expiry (expiry_after now seconds) m)
    (packable_expiring (flag r) true m (expiry_after now seconds) (in_range now seconds ok.1) (λ f. absurd cc) (read_packs (flag r) p m (Small-from p bytes) le e))
packs r m (Disable now) p bytes le e ok =
    whole false (with_expiry 0 (live_part m now))
    (packable_expiring (flag r) false (live_part m now) 0 (omega arith) (λ f. refl) (packable_live (flag r) m now (read_packs (flag r) p m (Small-from p bytes) le e)))
packs r m (Append a) p bytes le e ok = absurd ok
packs r m Restore p bytes le e ok = absurd ok
packs r m Discard p bytes le e ok = absurd ok
packs r m Recover p bytes le e ok = absurd ok
packs r m SizeRepair p bytes le e ok = absurd ok

recovers : (r : Region) (m : Map) → AreBytes (drop 4 r.data_bytes) → length r.data_bytes ≤ largest →
    AreBytes (payload_after r m Recover) × (map_in (flag r) (payload_after r m Recover) ≡ Some (row_map r m Recover))
recovers r m bytes le =
    let n = if fits r.data_bytes (record_of r).size then (record_of r).size else file_size r - 4 in
    let p = recovery_payload r in
    let small : Small p = Small-take n (drop 4 r.data_bytes) (Small-from (drop 4 r.data_bytes) bytes) in
    let short : length p ≤ largest = omega (arith, length-take n (drop 4 r.data_bytes), length-drop 4 r.data_bytes, le) in
    let can : Packable (flag r) (map_of_pairs (pairs_of (greedy_map (flag r) p))) = subst (Packable (flag r)) (sym (pairs_again (greedy_map (flag r) p))) (greedy_packs (flag r) p small short) in
    whole (flag r) (map_of_pairs (pairs_of (greedy_map (flag r) p))) can

pub text_laws : TextLaws
text_laws =
    record {
      pairs = pairs_again;
      item_bytes = item_bytes;
      appended = λ flag p m a bytes le some e ok. appended_map flag p m a some (Small-from p bytes) e ok;
      packs = packs;
      recovers = recovers;
    }
