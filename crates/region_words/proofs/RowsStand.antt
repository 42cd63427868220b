-- Each row that may begin leaves a kept image standing until it stores the sequence.
use Rattle.std.proofs.Common.{◌≡◌, ◌≢◌, ◌⊎◌, ℕ, zero, suc, ◌+◌, ◌-◌, ◌*◌, ◌/◌, ◌%◌, ◌<◌, ◌≤◌, Bool, true, false, cond, List, [], ◌∷◌, ◌++◌, length, replicate, refl, sym, ap, ◌∙◌, inl, inr, arith, append-nil, subst, length-append}
use Rattle.std.specs.Prelude.{Option, Contains, slice_index, unwrap_or, nat_lt, not, ◌==◌, ◌&&◌}
use Rattle.std.specs.Int.{to_le_bytes, w32}
use Rattle.std.proofs.lemmas.Bool.Decides.{nat_tests}
use Rattle.std.proofs.lemmas.List.{get_or_append_left}
use Rattle.crc_words.specs.Crc.{crc}
use Rattle.expiring_map.specs.Map.{Map, value_until}
use Rattle.kv_pairs.specs.Lengths.{shortest, shortest_in}
use Rattle.kv_pairs.specs.Mapped.{length_prefixed, stored}
use Rattle.meta_record.specs.Words.{fits}
use Rattle.meta_record.specs.Records.{agrees}
use Rattle.meta_record.specs.declared.shown.Damage.{Damage}
use Rattle.meta_record.specs.declared.shown.Damage.TheVariants.{Content}
use Rattle.meta_record.specs.declared.shown.Shown.TheVariants.{Whole, Header, Last, Damaged}
use Rattle.meta_record.proofs.WordLemmas.{same_word, other_word}
use Rattle.change_log.specs.Acts.{is_append}
use Rattle.change_log.specs.declared.change.Act.{Act}
use Rattle.change_log.specs.declared.change.Act.TheVariants as act
use Rattle.change_log.specs.declared.change.Change.{Change}
use Rattle.region_words.specs.Region.{Region, IsRegion, record_of, header, flag, payload_of, shown, size_of, if_it_has_a_map, file_size}
use Rattle.region_words.specs.Past.{region_step}
use Rattle.region_words.specs.Apart.{recorded_payloads}
use Rattle.region_words.specs.Rows.{SizeRepair, events_of, item_of, IsAppendable, store_meta}
use Rattle.region_words.proofs.OfRegion.{growth}
use Rattle.region_words.specs.declared.event.What.{What}
use Rattle.region_words.specs.declared.event.What.TheVariants.{Grow}
use Rattle.region_words.proofs.WordStores.{Small}
use Rattle.region_words.proofs.Regions.{Small-from_All, joined_bytes, word_bytes}
use Rattle.region_words.proofs.Shows.{whole, by_header, by_last}
use Rattle.region_words.proofs.WordsRead.{length-payload, same_payload}
use Rattle.region_words.proofs.Stands.{Stands, Fine, Within, IsGrown, IsAt, data_stands, size_among, header_among, fits_means}
use Rattle.region_words.specs.Images.{Image, kept_bytes}

-- the bytes of an item
short_bytes : (k n : ℕ) → Small (shortest_in k n)
short_bytes zero n = tt
short_bytes (suc k) n = go (nat_lt n 128) refl (short_bytes k (n / 128))
  where
    go : (b : Bool) → nat_lt n 128 ≡ b → Small (shortest_in k (n / 128)) → Small (cond b (n ∷ []) ((n % 128 + 128) ∷ shortest_in k (n / 128)))
    go true e s = let low : n < 128 = grind (arith, nat_tests) in (omega (arith, low), tt)
    go false e s = (omega arith, s)

text_bytes : (bytes : List ℕ) → Small bytes → Small (length_prefixed bytes)
unfolding shortest
text_bytes bytes s = joined_bytes (shortest_in 5 (length bytes)) bytes (short_bytes 5 (length bytes)) s

stored_bytes : (flag : Bool) (value : List ℕ) (expiry : ℕ) → Small value → Small (stored flag (value_until value expiry))
stored_bytes false value expiry s = joined_bytes value [] s tt
stored_bytes true value expiry s = joined_bytes value (to_le_bytes w32 expiry) s (word_bytes expiry)

pub item_bytes : (flag : Bool) (a : Act) → IsAppendable flag a → Small (item_of flag a)
item_bytes flag (act.Put key value expiry) (is_key, v, vl, vb, ex, off) =
    joined_bytes (length_prefixed key) (length_prefixed (stored flag (value_until value expiry))) (text_bytes key (Small-from_All key is_key.2))
    (text_bytes (stored flag (value_until value expiry)) (stored_bytes flag value expiry (Small-from_All value vb)))
item_bytes flag (act.Remove key) is_key = joined_bytes (length_prefixed key) (length_prefixed []) (text_bytes key (Small-from_All key is_key.2)) (text_bytes [] tt)
item_bytes flag act.Clear a = absurd a
item_bytes flag (act.Pack now) a = absurd a
item_bytes flag (act.Enable now seconds) a = absurd a
item_bytes flag (act.Disable now) a = absurd a
item_bytes flag (act.Restored pairs) a = absurd a
item_bytes flag act.Discarded a = absurd a
item_bytes flag (act.Recovered pairs) a = absurd a

key_first : (key rest : List ℕ) → 0 < length key → 0 < length (length_prefixed key ++ rest)
key_first key rest h = omega (arith, h, length-append (length_prefixed key) rest, length-append (shortest (length key)) key)

pub some_item : (flag : Bool) (a : Act) → IsAppendable flag a → 0 < length (item_of flag a)
some_item flag (act.Put key value expiry) h = key_first key (length_prefixed (stored flag (value_until value expiry))) h.0.0
some_item flag (act.Remove key) is_key = key_first key (length_prefixed []) is_key.0
some_item flag act.Clear a = absurd a
some_item flag (act.Pack now) a = absurd a
some_item flag (act.Enable now seconds) a = absurd a
some_item flag (act.Disable now) a = absurd a
some_item flag (act.Restored pairs) a = absurd a
some_item flag act.Discarded a = absurd a
some_item flag (act.Recovered pairs) a = absurd a

pub appendable_is : (flag : Bool) (a : Act) → IsAppendable flag a → is_append a ≡ true
appendable_is flag (act.Put key value expiry) h = refl
appendable_is flag (act.Remove key) h = refl
appendable_is flag act.Clear a = absurd a
appendable_is flag (act.Pack now) a = absurd a
appendable_is flag (act.Enable now seconds) a = absurd a
appendable_is flag (act.Disable now) a = absurd a
appendable_is flag (act.Restored pairs) a = absurd a
appendable_is flag act.Discarded a = absurd a
appendable_is flag (act.Recovered pairs) a = absurd a

-- what a region shows by its header
module _ (r : Region) where
  kept_header : (c : Bool) (s n : ℕ) → cond c (Header s) (Damaged Content) ≡ Header n → n ≡ s
  kept_header true s n e = cc
  kept_header false s n e = absurd cc

  whole_not : (c : Bool) (s n : ℕ) → cond c (Whole s) (Damaged Content) ≡ Header n → ⊥
  whole_not true s n e = absurd cc
  whole_not false s n e = absurd cc

  last_not : (c : Bool) (s n : ℕ) → cond c (Last s) (Damaged Content) ≡ Header n → ⊥
  last_not true s n e = absurd cc
  last_not false s n e = absurd cc

  by_rules : (b1 b2 b3 : Bool) (s h l n : ℕ) (d : Damage) →
      if_it_has_a_map r (cond b1 (Whole s) (cond b2 (Header h) (cond b3 (Last l) (Damaged d)))) ≡ Header n → (n ≡ h) × (b2 ≡ true)
  by_rules true b2 b3 s h l n d e = absurd (whole_not _ s n e)
  by_rules false true b3 s h l n d e = (kept_header _ h n e, refl)
  by_rules false false true s h l n d e = absurd (last_not _ l n e)
  by_rules false false false s h l n d e = absurd cc

  pub header_shown : (n : ℕ) → shown r ≡ Header n → (n ≡ header r) × (by_header r ≡ true)
  unfolding shown
  header_shown n e = by_rules (whole r) (by_header r) (by_last r) (record_of r).size (header r) (record_of r).last_size n _ e

  -- where the header's size shows the image, the repair of the size stores that
  pub size_repair_is : (m : Map) (who n : ℕ) → shown r ≡ Header n → events_of r m who SizeRepair ≡ store_meta 7 (header r) ∷ []
  unfolding events_of
  size_repair_is m who n e = ap (λ z. store_meta 7 z ∷ []) (ap (λ s. unwrap_or (size_of s) 0) e ∙ (header_shown n e).0)

and_left : (a b : Bool) → (a && b) ≡ true → a ≡ true
and_left true b e = refl
and_left false b e = absurd cc

and_right : (a b : Bool) → (a && b) ≡ true → b ≡ true
and_right true b e = e
and_right false b e = absurd cc

same_number : (a b : ℕ) → (a == b) ≡ true → a ≡ b
same_number a b e = grind (arith, nat_tests)

-- the parts of an agreement
pub agrees_fits : (bytes : List ℕ) (n c : ℕ) → agrees bytes n c ≡ true → fits bytes n ≡ true
agrees_fits bytes n c e = and_left _ _ e

pub agrees_crc : (r : Region) (n c : ℕ) → agrees r.data_bytes n c ≡ true → crc (payload_of r n) ≡ c
agrees_crc r n c e = same_number _ _ (and_right (fits r.data_bytes n) _ e)

-- different ones of these have different checksums
abbrev pub IsApart : List (List ℕ) → Type 0
IsApart S = (s t : List ℕ) → Contains S s → Contains S t → crc s ≡ crc t → s ≡ t

pub same_flag : (k : Image) (S : List (List ℕ)) (more : List Change) (r : Region) → Stands k S more r → flag r ≡ flag k.region
same_flag k S more r s = λ i. (s.words 26 (omega arith) (omega arith) i + 4294967296 * s.words 27 (omega arith) (omega arith) i) == 1

module _ (k : Image) (kept_fit : 4 + k.size ≤ length k.region.data_bytes) (S : List (List ℕ)) (more : List Change) (r : Region)
    (apart : IsApart S) (holds : Within (recorded_payloads r) S) (region : IsRegion r) (s : Stands k S more r) where
  kept_length : length (kept_bytes k) ≡ k.size
  kept_length = length-payload k.region.data_bytes k.size kept_fit

  pub at_least : k.size ≤ length s.current
  at_least = go s.grown
    where
      go : IsGrown k more s.current (record_of r).size → k.size ≤ length s.current
      go (inl e) = omega (arith, ap length e.1, kept_length)
      go (inr e) = omega (arith, e.1)

  -- a size that agrees is that of the current payload
  pub by_size : agrees r.data_bytes (record_of r).size (record_of r).checksum ≡ true → payload_of r (record_of r).size ≡ s.current
  by_size a =
      let fit = fits_means r.data_bytes (record_of r).size (agrees_fits r.data_bytes (record_of r).size (record_of r).checksum a) in
      apart (payload_of r (record_of r).size) s.current (holds _ (size_among r fit)) s.among (agrees_crc r (record_of r).size (record_of r).checksum a ∙ s.sum_of)

  pub by_head : agrees r.data_bytes (header r) (record_of r).checksum ≡ true → payload_of r (header r) ≡ s.current
  by_head a =
      let fit = fits_means r.data_bytes (header r) (agrees_fits r.data_bytes (header r) (record_of r).checksum a) in
      apart (payload_of r (header r)) s.current (holds _ (header_among r fit)) s.among (agrees_crc r (header r) (record_of r).checksum a ∙ s.sum_of)

  pub raised_fine : (t : Region) (v : ℕ) (rest : List What) → Stands k S more t → Fine k S more t (store_meta 2 v ∷ rest)
  unfolding Fine
  raised_fine t v rest st = (st, tt, λ T step quiet. absurd cc)

  -- a longer file has the same words and payloads
  on_at : (size z : ℕ) → IsAt r s.current z → IsAt (region_step r (Grow size)) s.current z
  on_at size z h =
      let zeros : List ℕ = replicate (size - length r.data_bytes) 0 in
      let longer : length r.data_bytes ≤ length (r.data_bytes ++ zeros) = omega (arith, length-append r.data_bytes zeros) in
      (omega (arith, h.0, longer), same_payload r.data_bytes (r.data_bytes ++ zeros) z h.0 longer (λ i lt. get_or_append_left r.data_bytes zeros 0 (4 + i) (omega (arith, lt, h.0))) ∙ h.1)

  same_header : (size : ℕ) → header (region_step r (Grow size)) ≡ header r
  same_header size =
      let zeros : List ℕ = replicate (size - length r.data_bytes) 0 in
      let byte : (i : ℕ) → i < 4 → slice_index (r.data_bytes ++ zeros) i ≡ slice_index r.data_bytes i = λ i lt. get_or_append_left r.data_bytes zeros 0 i (omega (arith, lt, kept_fit, s.file_is)) in
      let b0 = byte 0 (omega arith) in
      let b1 = byte 1 (omega arith) in
      let b2 = byte 2 (omega arith) in
      let b3 = byte 3 (omega arith) in
      λ i. b0 i + 256 * b1 i + 65536 * b2 i + 16777216 * b3 i

  found_on : (size : ℕ) → IsAt r s.current (record_of r).size ⊎ IsAt r s.current (header r) →
      IsAt (region_step r (Grow size)) s.current (record_of r).size ⊎ IsAt (region_step r (Grow size)) s.current (header (region_step r (Grow size)))
  found_on size (inl h) = inl (on_at size (record_of r).size h)
  found_on size (inr h) = inr (subst (IsAt (region_step r (Grow size)) s.current) (sym (same_header size)) (on_at size (header r) h))

  grown_fine : (size v : ℕ) (rest : List What) → Fine k S more r (Grow size ∷ store_meta 2 v ∷ rest)
  unfolding Fine
  grown_fine size v rest = (
    s,
    tt,
    λ T step quiet.
        let t = region_step r (Grow size) in
        let st : Stands k T more t =
        data_stands k S T more r t.data_bytes step.wide s (omega (arith, length-append r.data_bytes (replicate (size - length r.data_bytes) 0)))
        (λ i lt. get_or_append_left r.data_bytes (replicate (size - length r.data_bytes) 0) 0 (4 + i) (omega (arith, lt, kept_fit, s.file_is)) ∙ s.front i lt)
        (found_on size s.found) in
        (tt, subst (λ z. Fine k T z t (store_meta 2 v ∷ rest)) (sym (append-nil more)) (st, tt, λ U step quiet. absurd cc)),
  )

  pub growth_fine : (size : Option ℕ) (v : ℕ) (xs ys zs : List What) → Fine k S more r (growth r size ++ store_meta 2 v ∷ xs ++ ys ++ zs)
  growth_fine size v xs ys zs = go (nat_lt (file_size r) (unwrap_or size 0))
    where
      go : (b : Bool) → Fine k S more r (cond b (Grow (unwrap_or size 0) ∷ []) [] ++ store_meta 2 v ∷ xs ++ ys ++ zs)
      go true = grown_fine (unwrap_or size 0) v (xs ++ ys ++ zs)
      go false = raised_fine r v (xs ++ ys ++ zs) s

  pub resize_fine : (n : ℕ) → shown r ≡ Header n → Fine k S more r (store_meta 7 (header r) ∷ [])
  unfolding Fine
  resize_fine n e =
      let is = header_shown r n e in
      let there : agrees r.data_bytes (header r) (record_of r).checksum ≡ true = and_right (not (header r == (record_of r).size)) (agrees r.data_bytes (header r) (record_of r).checksum) is.1 in
      let same = by_head there in
      let fit = fits_means r.data_bytes (header r) (agrees_fits r.data_bytes (header r) (record_of r).checksum there) in
      let size : header r ≡ length s.current = sym (length-payload r.data_bytes (header r) fit) ∙ ap length same in (
        s,
        tt,
        λ T step quiet.
            let other = λ (x : ℕ) (n : x ≢ 7). other_word r.meta_bytes 7 (header r) step.inside.0 x n in
            let now = same_word r.meta_bytes 7 (header r) step.inside.0 step.inside.1 in (
              inr (refl, refl),
              subst (λ z. Stands k T z (region_step r (store_meta 7 (header r)))) (sym (append-nil more))
                  (record {
                    current = s.current;
                    among = step.wide s.current s.among;
                    sum_of = other 0 (omega arith) ∙ s.sum_of;
                    maps = s.maps;
                    grown = sized s.grown (record_of (region_step r (store_meta 7 (header r)))).size (now ∙ size);
                    found = inl (subst (IsAt r s.current) (sym now) (fit, same));
                    size_is = omega (arith, now, size, at_least);
                    front = s.front;
                    file_is = s.file_is;
                    words = λ x n0 n7. other x n7 ∙ s.words x n0 n7;
                  }),
            ),
      )
    where
      sized : IsGrown k more s.current (record_of r).size → (z : ℕ) → z ≡ length s.current → IsGrown k more s.current z
      sized (inl g) z e = inl (g.0, g.1, omega (arith, e, ap length g.1, kept_length))
      sized (inr g) z e = inr g
