-- What the notices of an opener tell: an equal sequence, and an equal checksum besides.
use Rattle.std.proofs.Common.{◌≡◌, ◌⊎◌, ℕ, ◌+◌, ◌≤◌, Bool, true, false, List, [], ◌∷◌, ◌++◌, length, refl, sym, ap, ◌∙◌, inl, inr, arith, subst}
use Rattle.std.specs.Prelude.{Some, None, Option, option_and_then, is_some, not, if◌then◌else◌, ◌==◌, ◌&&◌}
use Rattle.std.specs.Option.{option_map_or}
use Rattle.std.specs.List.{AllByRecursion}
use Rattle.std.specs.FinSet as set
use Rattle.std.proofs.lemmas.Bool.Decides.{nat_tests}
use Rattle.crc_words.specs.Crc.{crc}
use Rattle.expiring_map.specs.Map.{Map}
use Rattle.kv_pairs.specs.Mapped.{with_items}
use Rattle.lock_rules.specs.Locks.{Locks, IsSound, holds, without_holder}
use Rattle.meta_record.specs.Records.{agrees}
use Rattle.meta_record.specs.declared.shown.Shown.TheVariants.{Whole, Header}
use Rattle.change_log.specs.Acts.{replay, applied, is_append}
use Rattle.change_log.specs.declared.change.Change.{Change}
use Rattle.region_words.specs.Region.{Region, IsRegion, record_of, header, flag, payload_of, file_size, map_in, shown, map_shown, size_of, base, ShowsMap}
use Rattle.region_words.specs.Past.{region_after, changes_of, change_of, locks_after}
use Rattle.region_words.specs.Apart.{Apart, strings, recorded_payloads}
use Rattle.region_words.specs.Lawful.{Reaches, Lawful, map_after}
use Rattle.region_words.specs.Outcome.{ShowsHistory, IsBroken, AtRest}
use Rattle.std.proofs.lemmas.List.Sums.{fold-append}
use Rattle.region_words.specs.Standings.{IsStandingOf, tail_of}
use Rattle.region_words.specs.declared.standing.Standing.{Standing}
use Rattle.region_words.specs.declared.event.Side.TheVariants.{Data, Meta}
use Rattle.region_words.specs.declared.event.Mark.TheVariants.{Plain, Commit}
use Rattle.region_words.specs.declared.event.What.{What}
use Rattle.region_words.specs.declared.event.What.TheVariants.{Store, Grow, Lock, Unlock, Died}
use Rattle.region_words.specs.declared.event.Event.{Event}
use Rattle.region_words.proofs.Held.{locks_sound, two_ways, none_without, held}
use Rattle.region_words.proofs.Regions.{lawful_region}
use Rattle.region_words.proofs.Shows.{whole, shows_whole, shows_header}
use Rattle.region_words.proofs.WordsRead.{length-payload}
use Rattle.region_words.proofs.Stands.{Stands, Within, IsGrown, IsAt, Mild, fits_true}
use Rattle.region_words.proofs.RowsStand.{IsApart, same_flag, by_size}
use Rattle.region_words.proofs.EqualSequence.{free_resting, OnlyMild, candidates_among}
use Rattle.region_words.proofs.ReadLaws.{equal_sequence, equal_checksum, kept_fit, kept_map, kept_among, kept_checksum, lawful_front, strings_later, changes_more, run_of}
use Rattle.region_words.proofs.Rest.{at_rest}
use Rattle.region_words.proofs.OneRun.{rest_is_one}
use Rattle.region_words.proofs.PartialLoad.{same_image, Loaded}
use Rattle.region_words.specs.Images.{Image, IsKept, SameImage, checksum_at, image_of, sequence_at}
use Rattle.region_words.specs.Past.{NoneOf}

both : {a b : Bool} → a ≡ true → b ≡ true → (a && b) ≡ true
both p q = cc

same_test : (a b : ℕ) → a ≡ b → (a == b) ≡ true
same_test a b e = grind (arith, nat_tests)

same_number : (a b : ℕ) → (a == b) ≡ true → a ≡ b
same_number a b e = grind (arith, nat_tests)

-- rule 1 or 2 shows this payload
abbrev pub ShowsBytes : Region → List ℕ → Type 0
ShowsBytes r bytes =
    ((shown r ≡ Whole (record_of r).size) × (payload_of r (record_of r).size ≡ bytes)) ⊎ ((shown r ≡ Header (header r)) × (payload_of r (header r) ≡ bytes))

pub shows_map : (r : Region) (bytes : List ℕ) (m : Map) → map_in (flag r) bytes ≡ Some m → ShowsBytes r bytes → ShowsMap r m
shows_map r bytes m e (inl s) =
    (((record_of r).size, inl s.0), ap (λ x. option_and_then (λ n. map_in (flag r) (payload_of r n)) (size_of x)) s.0 ∙ ap (map_in (flag r)) s.1 ∙ e)
shows_map r bytes m e (inr s) =
    ((header r, inr s.0), ap (λ x. option_and_then (λ n. map_in (flag r) (payload_of r n)) (size_of x)) s.0 ∙ ap (map_in (flag r)) s.1 ∙ e)

module _ (k : Image) (fit : 4 + k.size ≤ length k.region.data_bytes) (S : List (List ℕ)) (more : List Change) (r : Region)
    (apart : IsApart S) (holds : Within (recorded_payloads r) S) (region : IsRegion r) (s : Stands k S more r) where
  current_map : map_in (flag r) s.current ≡ Some (replay k.pairs more)
  current_map = ap (λ b. map_in b s.current) (same_flag k S more r s) ∙ s.maps

  pub has_map : (z : ℕ) → payload_of r z ≡ s.current → is_some (map_in (flag r) (payload_of r z)) ≡ true
  has_map z e = ap (λ x. is_some (map_in (flag r) x)) e ∙ ap is_some current_map

  pub at_agrees : (z : ℕ) → IsAt r s.current z → agrees r.data_bytes z (record_of r).checksum ≡ true
  at_agrees z h = both (fits_true r.data_bytes z h.0) (same_test _ _ (ap crc h.1 ∙ sym s.sum_of))

  pub current_shown : ShowsBytes r s.current
  current_shown = go (whole r) refl s.found
    where
      go : (b : Bool) → whole r ≡ b → IsAt r s.current (record_of r).size ⊎ IsAt r s.current (header r) → ShowsBytes r s.current
      go true a f = let e = by_size k fit S more r apart holds region s a in inl (shows_whole r a (has_map (record_of r).size e), e)
      go false a (inl f) = let b = at_agrees (record_of r).size f in absurd cc
      go false a (inr f) = inr (shows_header r a (both (other (header r == (record_of r).size) refl) (at_agrees (header r) f)) (has_map (header r) f.1), f.1)
        where
          other : (c : Bool) → (header r == (record_of r).size) ≡ c → not c ≡ true
          other false e = refl
          other true e = let b = at_agrees (record_of r).size (subst (IsAt r s.current) (same_number _ _ e) f) in absurd cc

module _ (start : Region) (past : List Event) (n : ℕ) (m : Map) (kept : IsKept start past n m) (later : List Event)
    (region : IsRegion start) (lawful : Lawful start (later ++ past)) (apart : Apart start (later ++ past))
    (same : sequence_at start (later ++ past) ≡ sequence_at start past) where
  abbrev k : Image
  k = image_of start past n m

  abbrev pub r0 : Region
  r0 = region_after start past

  abbrev pub r : Region
  r = region_after start (later ++ past)

  abbrev S : List (List ℕ)
  S = strings start (later ++ past)

  fit : 4 + n ≤ length r0.data_bytes
  fit = kept_fit start past n m kept

  stands : Stands k S (changes_of later) r
  stands = (equal_sequence start past n m kept later region lawful apart same).0

  is_same : SameImage k r
  is_same = same_image k fit S (changes_of later) r stands

  r_is : IsRegion r
  r_is = lawful_region start (later ++ past) lawful region

  -- The sequence is the kept one: then the region is neither damaged nor shown by its last confirmed image, at any moment of any row,
  -- and its map is the kept one after the changes since.
  pub kept_shows : ShowsMap r (replay m (changes_of later))
  kept_shows = shows_map r stands.current (replay m (changes_of later)) (ap (λ b. map_in b stands.current) (same_flag k S (changes_of later) r stands) ∙ stands.maps)
      (current_shown k fit S (changes_of later) r apart (candidates_among start (later ++ past)) r_is stands)

  -- where the kept map is that of the history, the region shows the map of the history
  pub kept_history : m ≡ map_after start past → ShowsMap r (map_after start (later ++ past))
  kept_history is =
      subst (ShowsMap r)
      (ap (λ q. replay q (changes_of later)) is ∙ sym (fold-append (λ q c. applied q c.act) (base start) (changes_of past) (changes_of later)) ∙ ap (replay (base start)) (sym (changes_more later past)))
      kept_shows

  -- what was known of the image of the kept size is true of it still
  pub standing_stays : (s : Standing) → IsStandingOf r0 n s → IsStandingOf r n s
  standing_stays s is =
      let grown : Standing → Standing = λ t. record t { file_size = file_size r } in
      record {
        known =
            ap grown is.known
            ∙ (λ i.
            record {
              sequence = sym same i;
              version = sym is_same.version_is i;
              flag = sym is_same.flag_is i;
              size = n;
              checksum = crc (sym is_same.content_is i);
              tail = tail_of (sym is_same.content_is i) n;
              file_size = file_size r;
            });
        within = omega (arith, is.within, is_same.file_is);
      }

  -- The checksum is the kept one too: nothing was changed, and the region shows the kept image whole.
  pub still_whole : checksum_at start (later ++ past) ≡ checksum_at start past →
      (changes_of (later ++ past) ≡ changes_of past) × (shown r ≡ Whole n) × (map_shown r ≡ Some m)
  still_whole sum =
      let none = (equal_checksum start past n m kept [] later region lawful apart same sum).0 in
      let is_kept : stands.current ≡ payload_of r0 n =
      apart stands.current (payload_of r0 n) stands.among (strings_later start later past (payload_of r0 n) (kept_among start past n m kept)) (sym stands.sum_of ∙ sum ∙ sym (kept_checksum start past n m kept)) in
      let size : (record_of r).size ≡ n = unchanged is_kept stands.grown in
      let e : payload_of r (record_of r).size ≡ stands.current = ap (payload_of r) size ∙ is_same.content_is ∙ sym is_kept in
      let a = at_agrees k fit S (changes_of later) r apart (candidates_among start (later ++ past)) r_is stands (record_of r).size (omega (arith, size, fit, stands.file_is), e) in
      let shows : shown r ≡ Whole n = shows_whole r a (has_map k fit S (changes_of later) r apart (candidates_among start (later ++ past)) r_is stands (record_of r).size e) ∙ ap Whole size in
      (none, shows, ap (λ x. option_and_then (λ y. map_in (flag r) (payload_of r y)) (size_of x)) shows ∙ (λ i. map_in (is_same.flag_is i) (is_same.content_is i)) ∙ kept_map start past n m kept)
    where
      unchanged : stands.current ≡ payload_of r0 n → IsGrown k (changes_of later) stands.current (record_of r).size → (record_of r).size ≡ n
      unchanged e (inl g) = g.2
      unchanged e (inr g) = absurd (omega (arith, g.1, ap length e, length-payload r0.data_bytes n fit))

  -- What is loaded while nobody holds exclusive is kept in turn.
  pub load_kept : Loaded start past n m kept later region lawful apart same → (locks_after (later ++ past)).exclusive ≡ None →
      (q : Map) × IsKept start (later ++ past) (record_of r).size q
  load_kept l free = (with_items (flag r0) m l.items, record { rests = free_resting start (later ++ past) lawful free; shows = l.shows; maps = l.maps })

-- the changes meanwhile are of appends
pub only_appends : (n : ℕ) (later : List Event) → OnlyMild n later → AllByRecursion (λ c. is_append c.act ≡ true) (changes_of later)
only_appends n [] mild = tt
only_appends n (e ∷ later) mild = joined (changes_of later) (change_of e.what) (only_appends n later mild.1) (of_one e.what mild.0)
  where
    joined : (xs ys : List Change) → AllByRecursion (λ c. is_append c.act ≡ true) xs → AllByRecursion (λ c. is_append c.act ≡ true) ys → AllByRecursion (λ c. is_append c.act ≡ true) (xs ++ ys)
    joined [] ys p q = q
    joined (x ∷ xs) ys p q = (p.0, joined xs ys p.1 q)

    of_one : (what : What) → Mild n what → AllByRecursion (λ c. is_append c.act ≡ true) (change_of what)
    of_one (Store Data word value Plain) h = tt
    of_one (Store Data word value (Commit change)) h = let plain = h.0 in absurd cc
    of_one (Store Meta word value Plain) h = tt
    of_one (Store Meta word value (Commit change)) (inl h) = (marked h.1.0 h.1.1 h.1.2, tt)
      where
        marked : (c : Change) → Commit change ≡ Commit c → is_append c.act ≡ true → is_append change.act ≡ true
        marked c e f = let same : change ≡ c = cc in ap (λ x. is_append x.act) same ∙ f
    of_one (Store Meta word value (Commit change)) (inr h) = let plain = h.1 in absurd cc
    of_one (Grow size) h = tt
    of_one (Lock kind) h = tt
    of_one Unlock h = tt
    of_one (Died torn) h = tt

-- while an opener holds the lock shared, nobody holds it exclusive
pub shared_free : (start : Region) (past : List Event) (who : ℕ) → Lawful start past → set.contains (locks_after past).shared who ≡ true → (locks_after past).exclusive ≡ None
unfolding IsSound
shared_free start past who l h = go (locks_after past) (locks_sound start past l) h
  where
    go : (locks : Locks) → IsSound locks → set.contains locks.shared who ≡ true → locks.exclusive ≡ None
    go locks (inl e) h = e
    go locks (inr f) h = let nobody = f who in absurd cc

-- where an opener that held the lock gives it back, nobody holds it exclusive
pub unlocked_free : (start : Region) (past : List Event) (who : ℕ) → Lawful start past → holds (locks_after past) who ≡ true →
    (locks_after (record { who = who; what = Unlock } ∷ past)).exclusive ≡ None
unfolding IsSound
unlocked_free start past who l h = go (locks_after past) (locks_sound start past l) h
  where
    gone : (o : Option ℕ) → o ≡ Some who → option_map_or (λ h. if h == who then None else Some h) o None ≡ None
    gone None e = refl
    gone (Some x) e = let same : x ≡ who = cc in rw (same_test x who same) refl

    go : (locks : Locks) → IsSound locks → holds locks who ≡ true → (without_holder locks who).exclusive ≡ None
    go locks (inl e) h = none_without locks.exclusive who e
    go locks (inr f) h =
        elim (two_ways locks.exclusive (set.contains locks.shared who) who h) [
          | inl e ↦ gone locks.exclusive e
          | inr c ↦ let nobody = f who in absurd cc
        ]

-- while an opener holds a lock, what it loads at different moments is of one region
pub one_region : (start : Region) (after mid past : List Event) (who : ℕ) → Lawful start (after ++ (mid ++ past)) → holds (locks_after past) who ≡ true →
    NoneOf who mid → NoneOf who after →
    (region_after start (after ++ (mid ++ past)) ≡ region_after start (mid ++ past)) × (changes_of (after ++ (mid ++ past)) ≡ changes_of (mid ++ past))
    × (holds (locks_after (after ++ (mid ++ past))) who ≡ true)
one_region start after mid past who l h of_mid of_after =
    let first = held start mid past who (lawful_front start after (mid ++ past) l) h of_mid in
    held start after (mid ++ past) who l first.2 of_after

-- a kept image is kept at a later moment at which the region is the same and nobody holds exclusive
pub kept_on : (start : Region) (past later : List Event) (n : ℕ) (m : Map) → IsKept start past n m → Lawful start later → region_after start later ≡ region_after start past →
    (locks_after later).exclusive ≡ None → IsKept start later n m
kept_on start past later n m kept l same free = record { rests = free_resting start later l free; shows = ap shown same ∙ kept.shows; maps = ap map_shown same ∙ kept.maps }

-- the map of a whole image is that of the history
pub whole_history : (start : Region) (past : List Event) (n : ℕ) (m : Map) → ShowsHistory start past → shown (region_after start past) ≡ Whole n →
    map_shown (region_after start past) ≡ Some m → m ≡ map_after start past
whole_history start past n m (inl h) s e = let both = h.1 in cc
whole_history start past n m (inr h) s e = absurd (not_broken h.0)
  where
    not_broken : IsBroken (region_after start past) → ⊥
    not_broken (inl (k, b)) = cc
    not_broken (inr (d, b)) = cc

-- A read without a lock: the checksum that is peeked first and the sequence that is peeked then are the kept ones, and the kept map is
-- that of the history where it was kept. Then it is that of the history at the moment of the first peek.
pub lock_free_read : (start : Region) (after mid past : List Event) (n : ℕ) (m : Map) → IsRegion start → Lawful start (after ++ (mid ++ past)) →
    Apart start (after ++ (mid ++ past)) → IsKept start past n m → m ≡ map_after start past →
    sequence_at start (after ++ (mid ++ past)) ≡ sequence_at start past → checksum_at start (mid ++ past) ≡ checksum_at start past →
    m ≡ map_after start (mid ++ past)
lock_free_read start after mid past n m region l apart kept is same sum = is ∙ sym (equal_checksum start past n m kept after mid region l apart same sum).1

-- where nobody holds the lock exclusive, no row is under way
pub free_rests : (start : Region) (past : List Event) → Lawful start past → Apart start past → (locks_after past).exclusive ≡ None → AtRest start past
free_rests start past l apart free =
    let run = run_of start past l apart in
    (None, subst (Reaches start past) (at_rest start past run.0 l run.1 free) run.1)

-- a whole image that is shown at rest is kept
pub kept_at_rest : (start : Region) (past : List Event) (n : ℕ) (m : Map) → AtRest start past → shown (region_after start past) ≡ Whole n →
    map_shown (region_after start past) ≡ Some m → IsKept start past n m
kept_at_rest start past n m rest shows maps = record { rests = rest_is_one start past rest; shows = shows; maps = maps }
