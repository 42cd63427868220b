-- What a region shows by its checksums, and by its map.
use Rattle.std.proofs.Common.{◌≡◌, ℕ, Bool, true, false, cond, List, [], length, refl, sym, ap, ◌∙◌, arith}
use Rattle.std.specs.Prelude.{Some, None, is_some, unwrap_or, ◌&&◌, ◌==◌}
use Rattle.std.specs.FinMap as fin
use Rattle.std.proofs.lemmas.Bool.Decides.{nat_tests}
use Rattle.crc_words.specs.Crc.{crc}
use Rattle.expiring_map.specs.Map.{Map}
use Rattle.meta_record.specs.Words.{payload}
use Rattle.meta_record.specs.Records.{agrees}
use Rattle.meta_record.specs.declared.shown.Damage.{Damage}
use Rattle.meta_record.specs.declared.shown.Damage.TheVariants.{Content}
use Rattle.meta_record.specs.declared.shown.Shown.{Shown}
use Rattle.meta_record.specs.declared.shown.Shown.TheVariants.{Whole, Header, Last, Damaged}
use Rattle.region_words.specs.Region.{Region, header, record_of, flag, payload_of, shown, size_of, map_in, if_it_has_a_map}
use Rattle.region_words.specs.Standings.{standing_of}
use Rattle.loader.specs.FirstWords.{AreFirst, record_in, standing_in}
use Rattle.loader.specs.Candidates.{ShowsSize, candidate_agrees}
use Rattle.loader.specs.Outlooks.{IsFoundIn, checksum_of}
use Rattle.loader.specs.declared.first_words.FirstWords.{FirstWords}
use Rattle.loader.specs.declared.candidates.Candidate.TheVariants as by
use Rattle.loader.proofs.Answered.{record-is, standing-is}

pub no_bytes : crc [] ≡ 0
unfolding crc
no_bytes = refl

agrees-sum : (body : List ℕ) (size checksum : ℕ) → agrees body size checksum ≡ true → crc (payload body size) ≡ checksum
agrees-sum body size checksum e = go (crc (payload body size)) checksum _ e
  where
    go : (a b : ℕ) (c : Bool) → (c && (a == b)) ≡ true → a ≡ b
    go a b true e = grind (arith, nat_tests)
    go a b false e = absurd cc

-- which test shows an image
by_whole : (a b c : Bool) (s h l n : ℕ) (d : Damage) → cond a (Whole s) (cond b (Header h) (cond c (Last l) (Damaged d))) ≡ Whole n → (a ≡ true) × (n ≡ s)
by_whole true b c s h l n d e = (refl, cc)
by_whole false true c s h l n d e = absurd cc
by_whole false false true s h l n d e = absurd cc
by_whole false false false s h l n d e = absurd cc

by_header : (a b c : Bool) (s h l n : ℕ) (d : Damage) → cond a (Whole s) (cond b (Header h) (cond c (Last l) (Damaged d))) ≡ Header n → (b ≡ true) × (n ≡ h)
by_header true b c s h l n d e = absurd cc
by_header false true c s h l n d e = (refl, cc)
by_header false false true s h l n d e = absurd cc
by_header false false false s h l n d e = absurd cc

by_last : (a b c : Bool) (s h l n : ℕ) (d : Damage) → cond a (Whole s) (cond b (Header h) (cond c (Last l) (Damaged d))) ≡ Last n → (c ≡ true) × (n ≡ l)
by_last true b c s h l n d e = absurd cc
by_last false true c s h l n d e = absurd cc
by_last false false true s h l n d e = (refl, cc)
by_last false false false s h l n d e = absurd cc

second : (b c : Bool) → (b && c) ≡ true → c ≡ true
second true c e = e
second false c e = absurd cc

module _ (r : Region) where
  -- the image that is shown has its checksum
  sum-is : (s : Shown) (n : ℕ) → ShowsSize r s → size_of s ≡ Some n → checksum_of (record_of r) s ≡ crc (payload_of r n)
  sum-is (Whole m) n shows e =
      let k = by_whole (candidate_agrees by.Record r) (candidate_agrees by.Header r) (candidate_agrees by.Last r) (record_of r).size (header r) (record_of r).last_size m _ shows.is in
      let size : n ≡ (record_of r).size = cc in
      sym (ap (λ x. crc (payload_of r x)) size ∙ agrees-sum r.data_bytes (record_of r).size (record_of r).checksum k.0)
  sum-is (Header m) n shows e =
      let k = by_header (candidate_agrees by.Record r) (candidate_agrees by.Header r) (candidate_agrees by.Last r) (record_of r).size (header r) (record_of r).last_size m _ shows.is in
      let size : n ≡ header r = cc in
      sym (ap (λ x. crc (payload_of r x)) size ∙ agrees-sum r.data_bytes (header r) (record_of r).checksum (second _ _ k.0))
  sum-is (Last m) n shows e =
      let k = by_last (candidate_agrees by.Record r) (candidate_agrees by.Header r) (candidate_agrees by.Last r) (record_of r).size (header r) (record_of r).last_size m _ shows.is in
      let size : n ≡ (record_of r).last_size = cc in
      sym (ap (λ x. crc (payload_of r x)) size ∙ agrees-sum r.data_bytes (record_of r).last_size (record_of r).last_checksum k.0)
  sum-is (Damaged d) n shows e = absurd cc

  abbrev maps : ℕ → Bool
  maps n = is_some (map_in (flag r) (payload_of r n))

  shown_by : (s : Shown) → ShowsSize r s → shown r ≡ if_it_has_a_map r s
  unfolding shown
  shown_by s shows = ap (if_it_has_a_map r) shows.is

  mapped : (s : Shown) (n : ℕ) → size_of s ≡ Some n → maps n ≡ true → if_it_has_a_map r s ≡ s
  mapped (Whole m) n e h = let same : m ≡ n = cc in rw (ap maps same ∙ h) refl
  mapped (Header m) n e h = let same : m ≡ n = cc in rw (ap maps same ∙ h) refl
  mapped (Last m) n e h = let same : m ≡ n = cc in rw (ap maps same ∙ h) refl
  mapped (Damaged d) n e h = absurd cc

  unmapped : (s : Shown) (n : ℕ) → size_of s ≡ Some n → maps n ≡ false → if_it_has_a_map r s ≡ Damaged Content
  unmapped (Whole m) n e h = let same : m ≡ n = cc in rw (ap maps same ∙ h) refl
  unmapped (Header m) n e h = let same : m ≡ n = cc in rw (ap maps same ∙ h) refl
  unmapped (Last m) n e h = let same : m ≡ n = cc in rw (ap maps same ∙ h) refl
  unmapped (Damaged d) n e h = absurd cc

  sizeless : (s : Shown) → size_of s ≡ None → if_it_has_a_map r s ≡ s
  sizeless (Whole m) e = absurd cc
  sizeless (Header m) e = absurd cc
  sizeless (Last m) e = absurd cc
  sizeless (Damaged d) e = refl

  module _ (f : FirstWords) (made : f.made ≡ 10) (a : AreFirst f r) where
    -- damage is shown without an image
    without : (s : Shown) → size_of s ≡ None → shown r ≡ s →
        IsFoundIn (record { shown = s; image = record { standing = standing_in f [] 0; map = fin.empty } }) r
    without s none is =
        let size : size_of (shown r) ≡ None = ap size_of is ∙ none in
        record {
          shown = sym is;
          standing = standing-is f r made a [] 0 0 refl refl (sym no_bytes) ∙ sym (ap (λ o. standing_of r (unwrap_or o 0)) size);
          map = rw size refl;
        }

    pub damage_found : (s : Shown) → ShowsSize r s → size_of s ≡ None →
        IsFoundIn (record { shown = s; image = record { standing = standing_in f [] 0; map = fin.empty } }) r
    damage_found s shows none = without s none (shown_by s shows ∙ sizeless s none)

    pub content_found : (s : Shown) (n : ℕ) (bytes : List ℕ) → ShowsSize r s → size_of s ≡ Some n → bytes ≡ payload_of r n → map_in ((record_in f).flags == 1) bytes ≡ None →
        IsFoundIn (record { shown = Damaged Content; image = record { standing = standing_in f [] 0; map = fin.empty } }) r
    content_found s n bytes shows size is none =
        let no_map : map_in (flag r) (payload_of r n) ≡ None = sym (λ k. map_in ((record-is f r made a k).flags == 1) (is k)) ∙ none in
        without (Damaged Content) refl (shown_by s shows ∙ unmapped s n size (ap is_some no_map))

    pub image_found : (s : Shown) (n : ℕ) (bytes : List ℕ) (m : Map) → ShowsSize r s → size_of s ≡ Some n → bytes ≡ payload_of r n → length bytes ≡ n →
        map_in ((record_in f).flags == 1) bytes ≡ Some m →
        IsFoundIn (record { shown = s; image = record { standing = standing_in f bytes (checksum_of (record_in f) s); map = m } }) r
    image_found s n bytes m shows size is long some =
        let has_map : map_in (flag r) (payload_of r n) ≡ Some m = sym (λ k. map_in ((record-is f r made a k).flags == 1) (is k)) ∙ some in
        let here : shown r ≡ s = shown_by s shows ∙ mapped s n size (ap is_some has_map) in
        let size_here : size_of (shown r) ≡ Some n = ap size_of here ∙ size in
        let sum : checksum_of (record_in f) s ≡ crc (payload_of r n) = ap (λ rec. checksum_of rec s) (record-is f r made a) ∙ sum-is s n shows size in
        record {
          shown = sym here;
          standing = standing-is f r made a bytes (checksum_of (record_in f) s) n is long sum ∙ sym (ap (λ o. standing_of r (unwrap_or o 0)) size_here);
          map = rw size_here (rw has_map refl);
        }
