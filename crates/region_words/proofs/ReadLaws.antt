-- What an opener may conclude from an equal sequence, and from an equal checksum besides.
use Rattle.std.proofs.Common.{◌≡◌, ℕ, ◌+◌, ◌≤◌, List, [], ◌∷◌, ◌++◌, length, refl, sym, ap, ◌∙◌, inl, inr, arith, append-nil, append_assoc, subst}
use Rattle.std.specs.Prelude.{Some, None, Contains, option_and_then}
use Rattle.crc_words.specs.Crc.{crc}
use Rattle.expiring_map.specs.Map.{Map}
use Rattle.change_log.specs.Acts.{replay}
use Rattle.change_log.specs.declared.change.Change.{Change}
use Rattle.region_words.specs.Region.{Region, IsRegion, record_of, flag, payload_of, map_in, size_of, base}
use Rattle.region_words.specs.Past.{region_after, changes_of, change_of}
use Rattle.region_words.specs.Apart.{Apart, strings, recorded_payloads}
use Rattle.region_words.specs.Lawful.{Phase, Between, Reaches, Lawful, map_after}
use Rattle.region_words.specs.declared.event.Event.{Event}
use Rattle.region_words.proofs.Held.{Apart-front}
use Rattle.region_words.proofs.Shows.{whole_shown}
use Rattle.region_words.proofs.Sequence.{sequence_never_falls}
use Rattle.region_words.proofs.WordsRead.{length-payload}
use Rattle.region_words.proofs.Stands.{Stands, IsGrown, IsAt, size_among, fits_means}
use Rattle.region_words.proofs.Stands as stands
use Rattle.region_words.proofs.RowsStand.{agrees_fits, agrees_crc}
use Rattle.region_words.proofs.EqualSequence.{OnlyMild, candidates_among, strings_more, stands_along}
use Rattle.region_words.specs.Images.{IsKept, checksum_at, image_of, sequence_at}

-- a journal is lawful up to each of its events, and its payloads are told apart up to each
pub lawful_front : (start : Region) (later past : List Event) → Lawful start (later ++ past) → Lawful start past
lawful_front start [] past l = l
lawful_front start (e ∷ later) past l = lawful_front start later past l.0

pub apart_front : (start : Region) (later past : List Event) → Apart start (later ++ past) → Apart start past
apart_front start [] past a = a
apart_front start (e ∷ later) past a = apart_front start later past (Apart-front start e (later ++ past) a)

pub strings_later : (start : Region) (later past : List Event) → stands.Within (strings start past) (strings start (later ++ past))
strings_later start [] past = λ t c. c
strings_later start (e ∷ later) past = λ t c. strings_more start e (later ++ past) t (strings_later start later past t c)

-- where payloads are told apart, a lawful journal has a run
pub run_of : (start : Region) (past : List Event) → Lawful start past → Apart start past → (phase : Phase) × Reaches start past phase
run_of start [] l a = (Between None, refl)
run_of start (e ∷ past) l a = l.2 (Apart-front start e past a)

-- the changes of more events are the earlier ones and then theirs
pub changes_more : (later past : List Event) → changes_of (later ++ past) ≡ changes_of past ++ changes_of later
changes_more [] past = sym (append-nil (changes_of past))
changes_more (e ∷ later) past = ap (λ c. c ++ change_of e.what) (changes_more later past) ∙ append_assoc (changes_of past) (changes_of later) (change_of e.what)

module _ (start : Region) (past : List Event) (n : ℕ) (m : Map) (kept : IsKept start past n m) where
  abbrev r0 : Region
  r0 = region_after start past

  kept_size : n ≡ (record_of r0).size
  kept_size = (whole_shown r0 n kept.shows).0

  kept_fits : 4 + (record_of r0).size ≤ length r0.data_bytes
  kept_fits = fits_means r0.data_bytes (record_of r0).size (agrees_fits r0.data_bytes (record_of r0).size (record_of r0).checksum (whole_shown r0 n kept.shows).1)

  pub kept_fit : 4 + n ≤ length r0.data_bytes
  kept_fit = omega (arith, kept_size, kept_fits)

  pub kept_checksum : crc (payload_of r0 n) ≡ (record_of r0).checksum
  kept_checksum = ap (λ z. crc (payload_of r0 z)) kept_size ∙ agrees_crc r0 (record_of r0).size (record_of r0).checksum (whole_shown r0 n kept.shows).1

  pub kept_map : map_in (flag r0) (payload_of r0 n) ≡ Some m
  kept_map = ap (λ s. option_and_then (λ z. map_in (flag r0) (payload_of r0 z)) (size_of s)) (sym kept.shows) ∙ kept.maps

  pub kept_among : Contains (strings start past) (payload_of r0 n)
  kept_among = candidates_among start past (payload_of r0 n) (subst (λ z. Contains (recorded_payloads r0) (payload_of r0 z)) (sym kept_size) (size_among r0 kept_fits))

  first_stands : Stands (image_of start past n m) (strings start past) [] r0
  first_stands =
      record {
        current = payload_of r0 n;
        among = kept_among;
        sum_of = sym kept_checksum;
        maps = kept_map;
        grown = inl (refl, refl, sym kept_size);
        found = inl (subst (λ z. IsAt r0 (payload_of r0 n) z) kept_size (kept_fit, refl));
        size_is = omega (arith, kept_size);
        front = λ i lt. refl;
        file_is = omega arith;
        words = λ x n0 n7. refl;
      }

  -- The sequence is the kept one: only appends, resizes and growths came, and the kept image stands.
  pub equal_sequence : (later : List Event) → IsRegion start → Lawful start (later ++ past) → Apart start (later ++ past) →
      sequence_at start (later ++ past) ≡ sequence_at start past →
      Stands (image_of start past n m) (strings start (later ++ past)) (changes_of later) (region_after start (later ++ past)) × OnlyMild n later
  equal_sequence later region l apart same =
      let run = run_of start (later ++ past) l apart in
      let quiet = (sequence_never_falls start later past run.0 l run.1).1 same in
      stands_along (image_of start past n m) kept_fit start region past later run.0 kept.rests first_stands l apart run.1 quiet

  -- a sequence that is the kept one at a later moment was so in between
  pub sequence_between : (after mid : List Event) → Lawful start (after ++ (mid ++ past)) → Apart start (after ++ (mid ++ past)) →
      sequence_at start (after ++ (mid ++ past)) ≡ sequence_at start past → sequence_at start (mid ++ past) ≡ sequence_at start past
  sequence_between after mid l apart same =
      let run = run_of start (after ++ (mid ++ past)) l apart in
      let l_mid = lawful_front start after (mid ++ past) l in
      let mid_run = run_of start (mid ++ past) l_mid (apart_front start after (mid ++ past) apart) in
      omega (arith, (sequence_never_falls start after (mid ++ past) run.0 l run.1).0, (sequence_never_falls start mid past mid_run.0 l_mid mid_run.1).0, same)

  -- The two peeks: the sequence at a later moment and the checksum at an earlier one are the kept ones. Then no change was made up to the earlier one.
  pub equal_checksum : (after mid : List Event) → IsRegion start → Lawful start (after ++ (mid ++ past)) → Apart start (after ++ (mid ++ past)) →
      sequence_at start (after ++ (mid ++ past)) ≡ sequence_at start past → checksum_at start (mid ++ past) ≡ checksum_at start past →
      (changes_of (mid ++ past) ≡ changes_of past) × (map_after start (mid ++ past) ≡ map_after start past)
  equal_checksum after mid region l apart same_sequence same_checksum =
      let l_mid = lawful_front start after (mid ++ past) l in
      let a_mid = apart_front start after (mid ++ past) apart in
      let there = (equal_sequence mid region l_mid a_mid (sequence_between after mid l apart same_sequence)).0 in
      let is_kept : there.current ≡ payload_of r0 n =
      a_mid there.current (payload_of r0 n) there.among (strings_later start mid past (payload_of r0 n) kept_among) (sym there.sum_of ∙ same_checksum ∙ sym kept_checksum) in
      let none : changes_of mid ≡ [] = nothing (changes_of mid) there.current is_kept (record_of (region_after start (mid ++ past))).size there.grown in
      let same : changes_of (mid ++ past) ≡ changes_of past = changes_more mid past ∙ ap (λ c. changes_of past ++ c) none ∙ append-nil (changes_of past) in
      (same, ap (replay (base start)) same)
    where
      nothing : (more : List Change) (current : List ℕ) → current ≡ payload_of r0 n → (size : ℕ) → IsGrown (image_of start past n m) more current size → more ≡ []
      nothing more current e size (inl g) = g.0
      nothing more current e size (inr g) = absurd (omega (arith, g.1, ap length e, length-payload r0.data_bytes n kept_fit))
