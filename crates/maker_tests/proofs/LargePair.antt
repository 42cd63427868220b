-- A map of one pair whose value nearly fills the largest file.
use Rattle.std.proofs.Common.{◌≡◌, ℕ, ◌+◌, ◌≤◌, ◌^◌, List, [], ◌∷◌, ◌++◌, false, refl, lit≤, lit<, arith}
use Rattle.std.proofs.lemmas.List.{length-append}
use Rattle.std.specs.Prelude.{length}
use Rattle.std.specs.FinMap as fin
use Rattle.expiring_map.specs.Map.{Map, value_until, with_pair}
use Rattle.kv_pairs.specs.Fits.{FitsIn}
use Rattle.kv_pairs.specs.Growth.{largest}
use Rattle.kv_pairs.specs.Lengths.{shortest}
use Rattle.kv_pairs.specs.Mapped.{length_prefixed, put_item}
use Rattle.kv_pairs.proofs.PackedSizes.{put_fits, empty_size}
use Rattle.kv_pairs.proofs.Shortest.{four_groups, one_group}
use Rattle.change_log.specs.declared.change.Act.TheVariants as act
use Rattle.region_words.specs.Rows.{AreBytes, IsAppendable, IsKey}
use Rattle.region_words.proofs.FitsAfter.{cleared_fits}
use Rattle.region_words.proofs.PackedBytes.{appended_packs}
use Rattle.region_words.proofs.Regions.{All-from_Small}

abbrev pub key : List ℕ
key = 97 ∷ []

is_key : IsKey key
is_key = (lit< tt, lit≤ tt, All-from_Small (97 ∷ []) (lit< tt, tt))

pub with_parts : {m : Map} {k v w : List ℕ} → m ≡ fin.empty → k ≡ key → v ≡ w → with_pair m (record { key = k; value = v; expiry = 0 }) ≡ fin.insert fin.empty key (value_until w 0)
with_parts {m} {k} {v} {w} m_is k_is v_is = rw (m_is, k_is, v_is) refl

-- the pair's item takes no more than 12 bytes beside the value
item : (v : List ℕ) → 2 ^ 21 ≤ length v → length v ≤ 67108847 → length (put_item false key (value_until v 0)) ≤ length v + 12
item v least most =
    let stored = length-append v [] in
    let four = four_groups (length (v ++ [])) (omega (arith, stored, least)) (omega (arith, stored, most)) in
    omega (arith, stored, four, one_group 1 (lit< tt), length-append (shortest 1) key, length-append (shortest (length (v ++ []))) (v ++ []), length-append (length_prefixed key) (length_prefixed (v ++ [])))

pub fits : (v : List ℕ) → AreBytes v → 2 ^ 21 ≤ length v → length v ≤ 67108847 → FitsIn false (fin.insert fin.empty key (value_until v 0)) largest
fits v bytes least most =
    let none = cleared_fits false fin.empty in
    let size = item v least most in
    let appendable : IsAppendable false (act.Put key v 0) = (is_key, omega (arith, least), omega (arith, most), bytes, lit< tt, λ _. refl) in
    record {
      pairs = appended_packs false fin.empty (act.Put key v 0) appendable (omega (arith, size, most)) none.pairs;
      size = omega (arith, put_fits false fin.empty key (value_until v 0), empty_size false, size, most);
    }
