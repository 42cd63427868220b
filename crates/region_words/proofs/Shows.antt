-- When a region shows what.
use Rattle.std.proofs.Common.{◌≡◌, ℕ, Bool, true, false, cond, refl, ap, ◌∙◌}
use Rattle.std.specs.Prelude.{is_some, unwrap_or, not, ◌&&◌, ◌==◌}
use Rattle.meta_record.specs.Records.{agrees}
use Rattle.meta_record.specs.declared.shown.Damage.{Damage}
use Rattle.meta_record.specs.declared.shown.Damage.TheVariants.{Content}
use Rattle.meta_record.specs.declared.shown.Shown.TheVariants.{Whole, Header, Last, Damaged}
use Rattle.region_words.specs.Region.{Region, header, record_of, flag, payload_of, shown, size_of, size_shown, if_it_has_a_map, map_in}

module _ (r : Region) where
  abbrev pub whole : Bool
  whole = agrees r.data_bytes (record_of r).size (record_of r).checksum

  abbrev pub by_header : Bool
  by_header = not (header r == (record_of r).size) && agrees r.data_bytes (header r) (record_of r).checksum

  abbrev pub by_last : Bool
  by_last = agrees r.data_bytes (record_of r).last_size (record_of r).last_checksum

  pub shows_whole : whole ≡ true → is_some (map_in (flag r) (payload_of r (record_of r).size)) ≡ true → shown r ≡ Whole (record_of r).size
  unfolding shown
  shows_whole a c = rw a (rw c refl)

  pub shows_header : whole ≡ false → by_header ≡ true → is_some (map_in (flag r) (payload_of r (header r))) ≡ true → shown r ≡ Header (header r)
  unfolding shown
  shows_header a b c = rw a (rw b (rw c refl))

  pub shows_last : whole ≡ false → by_header ≡ false → by_last ≡ true → is_some (map_in (flag r) (payload_of r (record_of r).last_size)) ≡ true → shown r ≡ Last (record_of r).last_size
  unfolding shown
  shows_last a b d c = rw a (rw b (rw d (rw c refl)))

  -- what is shown Whole or Header has a map, and which rule showed it
  kept_whole : (c : Bool) (s n : ℕ) → cond c (Whole s) (Damaged Content) ≡ Whole n → (n ≡ s) × (c ≡ true)
  kept_whole true s n e = (cc, refl)
  kept_whole false s n e = absurd cc

  not_whole : (c : Bool) (h n : ℕ) → cond c (Header h) (Damaged Content) ≡ Whole n → ⊥
  not_whole true h n e = absurd cc
  not_whole false h n e = absurd cc

  last_not_whole : (c : Bool) (h n : ℕ) → cond c (Last h) (Damaged Content) ≡ Whole n → ⊥
  last_not_whole true h n e = absurd cc
  last_not_whole false h n e = absurd cc

  by_rules : (b1 b2 b3 : Bool) (s h l n : ℕ) (d : Damage) →
      if_it_has_a_map r (cond b1 (Whole s) (cond b2 (Header h) (cond b3 (Last l) (Damaged d)))) ≡ Whole n →
      (n ≡ s) × (b1 ≡ true) × (is_some (map_in (flag r) (payload_of r s)) ≡ true)
  by_rules true b2 b3 s h l n d e = let k = kept_whole _ s n e in (k.0, refl, k.1)
  by_rules false true b3 s h l n d e = absurd (not_whole _ h n e)
  by_rules false false true s h l n d e = absurd (last_not_whole _ l n e)
  by_rules false false false s h l n d e = absurd cc

  pub whole_shown : (n : ℕ) → shown r ≡ Whole n →
      (n ≡ (record_of r).size) × (whole ≡ true) × (is_some (map_in (flag r) (payload_of r (record_of r).size)) ≡ true)
  unfolding shown
  whole_shown n e = by_rules whole by_header by_last (record_of r).size (header r) (record_of r).last_size n _ e

  -- the size of a whole image is the record's
  pub size_is_shown : (n : ℕ) → shown r ≡ Whole n → size_shown r ≡ (record_of r).size
  size_is_shown n e = ap (λ s. unwrap_or (size_of s) 0) e ∙ (whole_shown n e).0
