-- What an opener knows of the image that it keeps, from one moment to the next, and what its peeks and loads tell it.
use Rattle.std.proofs.Common.{◌≡◌, ℕ, ◌+◌, ◌≤◌, List, [], ◌∷◌, ◌++◌, length, drop, refl, sym, ap, ◌∙◌, append-nil, append_assoc, subst}
use Rattle.std.specs.Prelude.{Some, None}
use Rattle.crc_words.specs.Crc.{crc, crc_from}
use Rattle.expiring_map.specs.Map.{Map}
use Rattle.kv_pairs.specs.Reading.{units_at}
use Rattle.kv_pairs.specs.Mapped.{with_items}
use Rattle.kv_pairs.specs.declared.item.Item.{Item}
use Rattle.meta_record.specs.declared.shown.Shown.TheVariants.{Whole}
use Rattle.change_log.specs.Acts.{replay}
use Rattle.region_words.specs.Region.{Region, IsRegion, record_of, flag, payload_of, shown, map_shown, base, ShowsMap}
use Rattle.region_words.specs.Past.{region_after, changes_of, locks_after}
use Rattle.region_words.specs.Apart.{Apart}
use Rattle.region_words.specs.Lawful.{Lawful, map_after}
use Rattle.region_words.specs.Outcome.{ShowsHistory, AtRest}
use Rattle.region_words.specs.Standings.{IsStandingOf}
use Rattle.region_words.specs.declared.standing.Standing.{Standing}
use Rattle.region_words.specs.declared.event.What.TheVariants.{Unlock}
use Rattle.region_words.specs.declared.event.Event.{Event}
use Rattle.region_words.proofs.EqualSequence.{free_resting}
use Rattle.region_words.proofs.ReadLaws.{kept_checksum, apart_front}
use Rattle.region_words.proofs.PartialLoad.{partial_load, whole_load, loaded_history}
use Rattle.region_words.proofs.Notices.{lock_free_read, still_whole, standing_stays, whole_history, kept_history, kept_at_rest}
use Rattle.region_words.specs.Images.{IsKept, checksum_at, sequence_at}

-- At some moment up to now no row was under way, and the region showed a whole image of this standing with this map, the map of the history then.
pub record Knows (start : Region) (now : List Event) (s : Standing) (m : Map) : Type 0 where
  pub past : List Event
  pub later : List Event
  pub parts : now ≡ later ++ past
  pub kept : IsKept start past s.size m
  pub history : m ≡ map_after start past
  pub stands : IsStandingOf (region_after start past) s.size s

-- it knows so still, whatever comes
pub knows_more : (start : Region) (now : List Event) (s : Standing) (m : Map) (more : List Event) → Knows start now s m → Knows start (more ++ now) s m
knows_more start now s m more k =
    record {
      past = k.past;
      later = more ++ k.later;
      parts = ap (λ z. more ++ z) k.parts ∙ sym (append_assoc more k.later k.past);
      kept = k.kept;
      history = k.history;
      stands = k.stands;
    }

-- a whole image that is loaded while nobody holds the lock exclusive is known
pub knows_loaded : (start : Region) (now : List Event) (s : Standing) (m : Map) → Lawful start now → (locks_after now).exclusive ≡ None → ShowsHistory start now →
    shown (region_after start now) ≡ Whole s.size → map_shown (region_after start now) ≡ Some m → IsStandingOf (region_after start now) s.size s → Knows start now s m
knows_loaded start now s m l free h shows maps stands =
    record {
      past = now;
      later = [];
      parts = refl;
      kept = record { rests = free_resting start now l free; shows = shows; maps = maps };
      history = whole_history start now s.size m h shows maps;
      stands = stands;
    }

-- and so is one that is shown at rest, as between the rows of a hold
pub knows_at_rest : (start : Region) (now : List Event) (s : Standing) (m : Map) → AtRest start now →
    shown (region_after start now) ≡ Whole s.size → map_shown (region_after start now) ≡ Some m → m ≡ map_after start now → IsStandingOf (region_after start now) s.size s →
    Knows start now s m
knows_at_rest start now s m rest shows maps history stands =
    record {
      past = now;
      later = [];
      parts = refl;
      kept = kept_at_rest start now s.size m rest shows maps;
      history = history;
      stands = stands;
    }

-- and so is one that an opener leaves when it unlocks
pub knows_unlocked : (start : Region) (now : List Event) (who : ℕ) (s : Standing) (m : Map) →
    shown (region_after start now) ≡ Whole s.size → map_shown (region_after start now) ≡ Some m → m ≡ map_after start now → IsStandingOf (region_after start now) s.size s →
    Knows start (record { who = who; what = Unlock } ∷ now) s m
knows_unlocked start now who s m shows maps history stands =
    record {
      past = record { who = who; what = Unlock } ∷ now;
      later = [];
      parts = refl;
      kept = record { rests = λ p lead. (None, lead.2.1); shows = shows; maps = maps };
      history = history ∙ sym (ap (replay (base start)) (append-nil (changes_of now)));
      stands = stands;
    }

known_sequence : (r : Region) (s : Standing) → IsStandingOf r s.size s → s.sequence ≡ (record_of r).sequence
known_sequence r s e = ap (λ (t : Standing). t.sequence) e.known

known_checksum : (r : Region) (s : Standing) → IsStandingOf r s.size s → s.checksum ≡ crc (payload_of r s.size)
known_checksum r s e = ap (λ (t : Standing). t.checksum) e.known

known_flag : (r : Region) (s : Standing) → IsStandingOf r s.size s → s.flag ≡ flag r
known_flag r s e = ap (λ (t : Standing). t.flag) e.known

-- A read without a lock: the checksum that is peeked first is the known one, and so is the sequence that is peeked then.
-- Then the known map is that of the history at the moment of the first peek.
pub knows_read : (start : Region) (now mid after : List Event) (s : Standing) (m : Map) → IsRegion start → Lawful start (after ++ (mid ++ now)) →
    Apart start (after ++ (mid ++ now)) → Knows start now s m → sequence_at start (after ++ (mid ++ now)) ≡ s.sequence → checksum_at start (mid ++ now) ≡ s.checksum →
    m ≡ map_after start (mid ++ now)
knows_read start now mid after s m region l apart k same sum =
    let past = k.past in
    let parts : mid ++ now ≡ (mid ++ k.later) ++ past = ap (λ z. mid ++ z) k.parts ∙ sym (append_assoc mid k.later past) in
    let sequence : sequence_at start (after ++ (mid ++ now)) ≡ sequence_at start past = same ∙ known_sequence (region_after start past) s k.stands in
    let checksum : checksum_at start (mid ++ now) ≡ checksum_at start past =
    sum ∙ known_checksum (region_after start past) s k.stands ∙ kept_checksum start past s.size m k.kept in
    lock_free_read start after (mid ++ k.later) past s.size m region (subst (λ z. Lawful start (after ++ z)) parts l) (subst (λ z. Apart start (after ++ z)) parts apart) k.kept k.history
    (ap (λ z. sequence_at start (after ++ z)) (sym parts) ∙ sequence) (ap (checksum_at start) (sym parts) ∙ checksum)
    ∙ ap (map_after start) (sym parts)

-- what is known at a moment at which the sequence is the known one
pub record Current (start : Region) (now : List Event) (s : Standing) (m : Map) : Type 0 where
  pub shows : shown (region_after start now) ≡ Whole s.size
  pub maps : map_shown (region_after start now) ≡ Some m
  pub history : m ≡ map_after start now
  pub stands : IsStandingOf (region_after start now) s.size s

module _ (start : Region) (s : Standing) (m : Map) (region : IsRegion start) where
  standing_at : (past later : List Event) → IsKept start past s.size m → IsStandingOf (region_after start past) s.size s → Lawful start (later ++ past) → Apart start (later ++ past) →
      sequence_at start (later ++ past) ≡ s.sequence → IsStandingOf (region_after start (later ++ past)) s.size s
  standing_at past later kept stands l apart same =
      standing_stays start past s.size m kept later region l apart (same ∙ known_sequence (region_after start past) s stands) s stands

  current_at : (past later : List Event) → IsKept start past s.size m → m ≡ map_after start past → IsStandingOf (region_after start past) s.size s → Lawful start (later ++ past) →
      Apart start (later ++ past) → sequence_at start (later ++ past) ≡ s.sequence → checksum_at start (later ++ past) ≡ s.checksum → Current start (later ++ past) s m
  current_at past later kept history stands l apart same sum =
      let sequence = same ∙ known_sequence (region_after start past) s stands in
      let checksum = sum ∙ known_checksum (region_after start past) s stands ∙ kept_checksum start past s.size m kept in
      let whole = still_whole start past s.size m kept later region l apart sequence checksum in
      record {
        shows = whole.1;
        maps = whole.2;
        history = history ∙ sym (ap (replay (base start)) whole.0);
        stands = standing_at past later kept stands l apart same;
      }

  -- under a lock both words are the known ones: the image is current
  pub knows_current : (now : List Event) → Lawful start now → Apart start now → Knows start now s m → sequence_at start now ≡ s.sequence → checksum_at start now ≡ s.checksum →
      Current start now s m
  knows_current now l apart k same sum =
      subst (λ z. Current start z s m) (sym k.parts)
      (current_at k.past k.later k.kept k.history k.stands (subst (Lawful start) k.parts l) (subst (Apart start) k.parts apart)
      (ap (sequence_at start) (sym k.parts) ∙ same) (ap (checksum_at start) (sym k.parts) ∙ sum))

  -- what a partial load leaves
  pub record Extended (now : List Event) : Type 0 where
    pub shows : shown (region_after start now) ≡ Whole (record_of (region_after start now)).size
    pub items : List Item
    pub reads : units_at (drop s.size (payload_of (region_after start now) (record_of (region_after start now)).size)) ≡ (items, [])
    pub maps : map_shown (region_after start now) ≡ Some (with_items s.flag m items)
    pub history : with_items s.flag m items ≡ map_after start now

  extended_at : (past later : List Event) → IsKept start past s.size m → m ≡ map_after start past → IsStandingOf (region_after start past) s.size s → Lawful start (later ++ past) →
      Apart start (later ++ past) → sequence_at start (later ++ past) ≡ s.sequence →
      let r = region_after start (later ++ past) in
      4 + (record_of r).size ≤ length r.data_bytes → crc_from s.checksum (drop s.size (payload_of r (record_of r).size)) ≡ (record_of r).checksum → Extended (later ++ past)
  extended_at past later kept history stands l apart same room sum =
      let r0 = region_after start past in
      let sequence : sequence_at start (later ++ past) ≡ sequence_at start past = same ∙ known_sequence r0 s stands in
      let checksum : s.checksum ≡ checksum_at start past = known_checksum r0 s stands ∙ kept_checksum start past s.size m kept in
      let load = partial_load start past s.size m kept later region l apart sequence room
      (ap (λ c. crc_from c (drop s.size (payload_of (region_after start (later ++ past)) (record_of (region_after start (later ++ past))).size))) (sym checksum) ∙ sum) in
      let turned : with_items (flag r0) m load.items ≡ with_items s.flag m load.items = ap (λ b. with_items b m load.items) (sym (known_flag r0 s stands)) in
      let maps : map_shown (region_after start (later ++ past)) ≡ Some (with_items s.flag m load.items) = load.maps ∙ ap Some turned in
      let of_history = loaded_history start past s.size m kept later region l apart sequence load history in
      record {
        shows = load.shows;
        items = load.items;
        reads = load.reads;
        maps = maps;
        history = same_map (with_items s.flag m load.items) (map_after start (later ++ past)) (sym maps ∙ of_history);
      }
    where
      same_map : (p q : Map) → Some p ≡ Some q → p ≡ q
      same_map p q e = cc

  -- under a lock the sequence is the known one, the record's size fits, and the checksum goes on to the record's: the image is the known one with the items behind it
  pub knows_extended : (now : List Event) → Lawful start now → Apart start now → Knows start now s m → sequence_at start now ≡ s.sequence →
      4 + (record_of (region_after start now)).size ≤ length (region_after start now).data_bytes →
      crc_from s.checksum (drop s.size (payload_of (region_after start now) (record_of (region_after start now)).size)) ≡ (record_of (region_after start now)).checksum →
      Extended now
  knows_extended now l apart k same room sum =
      let P : List Event → Type 0 = λ z.
      let r = region_after start z in
      Lawful start z → Apart start z → sequence_at start z ≡ s.sequence → 4 + (record_of r).size ≤ length r.data_bytes →
      crc_from s.checksum (drop s.size (payload_of r (record_of r).size)) ≡ (record_of r).checksum → Extended z in
      subst P (sym k.parts) (λ l apart same room sum. extended_at k.past k.later k.kept k.history k.stands l apart same room sum) l apart same room sum

  -- what is loaded on while nobody holds the lock exclusive is known in turn
  pub knows_again : (now : List Event) (e : Extended now) (t : Standing) → Lawful start now → (locks_after now).exclusive ≡ None → t.size ≡ (record_of (region_after start now)).size →
      IsStandingOf (region_after start now) t.size t → Knows start now t (with_items s.flag m e.items)
  knows_again now e t l free size stands =
      record {
        past = now;
        later = [];
        parts = refl;
        kept = record { rests = free_resting start now l free; shows = e.shows ∙ ap Whole (sym size); maps = e.maps };
        history = e.history;
        stands = stands;
      }

  -- with the known sequence the region shows the map of the history, by rule 1 or 2, at any moment of any row
  pub knows_shows : (now : List Event) → Lawful start now → Apart start now → Knows start now s m → sequence_at start now ≡ s.sequence →
      ShowsMap (region_after start now) (map_after start now)
  knows_shows now l apart k same =
      let P : List Event → Type 0 = λ z. Lawful start z → Apart start z → sequence_at start z ≡ s.sequence → ShowsMap (region_after start z) (map_after start z) in
      subst P (sym k.parts)
      (λ l apart same. kept_history start k.past s.size m k.kept k.later region l apart (same ∙ known_sequence (region_after start k.past) s k.stands) k.history) l apart same

  -- and a whole image is then the known one with bytes behind it
  pub knows_whole : (now : List Event) (size : ℕ) → Lawful start now → Apart start now → Knows start now s m → sequence_at start now ≡ s.sequence →
      shown (region_after start now) ≡ Whole size →
      (size ≡ (record_of (region_after start now)).size) × (s.size ≤ size)
      × (crc_from s.checksum (drop s.size (payload_of (region_after start now) (record_of (region_after start now)).size)) ≡ (record_of (region_after start now)).checksum)
  knows_whole now size l apart k same shows =
      let P : List Event → Type 0 = λ z.
      let r = region_after start z in
      Lawful start z → Apart start z → sequence_at start z ≡ s.sequence → shown r ≡ Whole size →
      (size ≡ (record_of r).size) × (s.size ≤ size) × (crc_from s.checksum (drop s.size (payload_of r (record_of r).size)) ≡ (record_of r).checksum) in
      subst P (sym k.parts) (λ l apart same shows. whole_at k.past k.later k.kept k.stands l apart same shows) l apart same shows
    where
      whole_at : (past later : List Event) → IsKept start past s.size m → IsStandingOf (region_after start past) s.size s → Lawful start (later ++ past) → Apart start (later ++ past) →
          sequence_at start (later ++ past) ≡ s.sequence → shown (region_after start (later ++ past)) ≡ Whole size →
          let r = region_after start (later ++ past) in
          (size ≡ (record_of r).size) × (s.size ≤ size) × (crc_from s.checksum (drop s.size (payload_of r (record_of r).size)) ≡ (record_of r).checksum)
      whole_at past later kept stands l apart same shows =
          let r0 = region_after start past in
          let checksum : s.checksum ≡ checksum_at start past = known_checksum r0 s stands ∙ kept_checksum start past s.size m kept in
          let w = whole_load start past s.size m kept later region l apart (same ∙ known_sequence r0 s stands) size shows in
          (w.0, w.1, ap (λ c. crc_from c (drop s.size (payload_of (region_after start (later ++ past)) (record_of (region_after start (later ++ past))).size))) checksum ∙ w.3)

-- The invariant of an opener that keeps an image: as long as payloads are told apart, it knows it.
abbrev pub Believes : Region → List Event → Standing → Map → Type 0
Believes start now s m = Apart start now → Knows start now s m

pub believes_more : (start : Region) (now : List Event) (s : Standing) (m : Map) (more : List Event) → Believes start now s m → Believes start (more ++ now) s m
believes_more start now s m more b apart = knows_more start now s m more (b (apart_front start more now apart))
