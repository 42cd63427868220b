-- What a row leaves once its last event is made: the image that it leads to, whole.
use Rattle.std.proofs.Common.{◌≡◌, ℕ, ◌≤◌, true, List, [], ◌∷◌, ◌++◌, refl, sym, ◌∙◌, subst, ap, arith, append-nil}
use Rattle.std.specs.Prelude.{Option, Some, None, IsTrue, is_some, option_and_then}
use Rattle.expiring_map.specs.Map.{Map}
use Rattle.change_log.specs.Acts.{replay}
use Rattle.meta_record.specs.declared.shown.Shown.TheVariants.{Whole}
use Rattle.region_words.specs.Region.{Region, IsRegion, IsAccepted, record_of, flag, payload_of, file_size, shown, size_of, map_shown, map_in, base}
use Rattle.region_words.specs.Past.{region_after, after_all, changes_of}
use Rattle.region_words.specs.Apart.{Apart}
use Rattle.region_words.specs.Answered.{is_store}
use Rattle.region_words.specs.Coming.{IsStoring}
use Rattle.region_words.specs.Lawful.{Lawful, Between, Reaches, map_after}
use Rattle.region_words.specs.Local.{event_of}
use Rattle.region_words.specs.Making.{Making}
use Rattle.region_words.specs.Outcome.{AtRest}
use Rattle.crc_words.specs.Crc.{crc}
use Rattle.region_words.specs.Images.{sequence_at}
use Rattle.region_words.specs.Standings.{standing_of}
use Rattle.region_words.specs.declared.standing.Standing.{Standing}
use Rattle.region_words.specs.declared.event.What.{What}
use Rattle.region_words.specs.declared.event.What.TheVariants.{Store, Grow, Lock, Unlock, Died}
use Rattle.region_words.specs.declared.event.Event.{Event}
use Rattle.region_words.proofs.BeganAccepted.{accepted_stored}
use Rattle.region_words.proofs.LastStore.{no_last_growth}
use Rattle.region_words.proofs.MainLaw.{main_law, whole_law}
use Rattle.region_words.proofs.Notices.{kept_at_rest, whole_history}
use Rattle.region_words.proofs.Shows.{whole_shown}
use Rattle.region_words.proofs.RowsStand.{agrees_crc}
use Rattle.loader.specs.declared.loaded.Image.{Image}
use Rattle.opener.specs.Opener.{IsShown, IsImage, MatchesRegion}
use Rattle.opener.specs.Writes.{HasStanding, Leads, commits_of, image_after}

-- the last event of a row is a store
last_is_store : (start : Region) (past : List Event) (who : ℕ) (what : What) (room : Option ℕ) → IsRegion start → IsAccepted start → Lawful start (event_of who what ∷ past) → IsStoring what →
    Reaches start (event_of who what ∷ past) (Between room) → IsTrue (is_store what)
last_is_store start past who (Store side word value mark) room region ok l is leads = refl
last_is_store start past who (Grow size) room region ok l is (old, reached, leads) = absurd (no_last_growth start region ok who size past old room l.0 reached leads)
last_is_store start past who (Lock kind) room region ok l is leads = absurd is
last_is_store start past who Unlock room region ok l is leads = absurd is
last_is_store start past who (Died torn) room region ok l is leads = absurd is

pub has_map : (o : Option Map) → is_some o ≡ true → (m : Map) × (o ≡ Some m)
has_map None e = absurd cc
has_map (Some m) e = (m, refl)

-- a whole image has the checksum and the sequence of its region
pub whole_matches : (i : Image) (start : Region) (past : List Event) (n : ℕ) → shown (region_after start past) ≡ Whole n → i.standing.checksum ≡ (standing_of (region_after start past) n).checksum →
    i.standing.sequence ≡ sequence_at start past → MatchesRegion (Some i) start past
whole_matches i start past n shows sum sequence =
    let r = region_after start past in
    let w = whole_shown r n shows in
    (sum ∙ ap (λ z. crc (payload_of r z)) w.0 ∙ agrees_crc r (record_of r).size (record_of r).checksum w.1, sequence)

pub shown_matches : (i : Image) (start : Region) (past : List Event) → IsShown i start past → MatchesRegion (Some i) start past
shown_matches i start past is =
    whole_matches i start past i.standing.size is.kept.shows (ap (λ (s : Standing). s.checksum) is.known.known) (ap (λ (s : Standing). s.sequence) is.known.known)

-- A region that shows a whole image at rest, of which this is known, shows the map of the history.
module _ (start : Region) (past : List Event) (region : IsRegion start) (ok : IsAccepted start) (l : Lawful start past) (apart : Apart start past) (rests : AtRest start past)
    (k : Making) (m : Map) (stands : HasStanding (region_after start past) k.standing) (map_is : map_after start past ≡ m) (n : ℕ) (shows : shown (region_after start past) ≡ Whole n) where
  abbrev r : Region
  r = region_after start past

  mapped : (found : Map) × (map_shown r ≡ Some found)
  mapped =
      let s = whole_shown r n shows in
      let found = has_map (map_in (flag r) (payload_of r (record_of r).size)) s.2 in
      (found.0, ap (λ z. option_and_then (λ x. map_in (flag r) (payload_of r x)) (size_of z)) (shows ∙ ap Whole s.0) ∙ found.1)

  pub shown_whole : shown r ≡ Whole k.standing.size
  shown_whole = shows ∙ ap Whole ((whole_shown r n shows).0 ∙ stands.size)

  pub whole_is_shown : IsShown (image_after k m) start past
  whole_is_shown =
      let history = whole_history start past n mapped.0 (main_law start past region ok l apart rests) shows mapped.1 in
      record {
        kept = kept_at_rest start past k.standing.size m rests shown_whole (mapped.1 ∙ ap Some (history ∙ map_is));
        known = record {
          known = ap (λ (f : ℕ). record k.standing { file_size = f }) (ap (λ (s : Standing). s.file_size) stands.known) ∙ sym stands.known;
          within = omega (arith, ap (λ (s : Standing). s.file_size) stands.known);
        };
        history = sym map_is;
      }

-- what events lead to once none is to come
module _ (k : Making) (m : Map) (start : Region) (past : List Event) (none : k.events ≡ []) (leads : Leads k m start past) where
  pub left_standing : IsAccepted start → Apart start past → HasStanding (region_after start past) k.standing
  left_standing ok apart = subst (λ events. HasStanding (after_all (region_after start past) events) k.standing) none (leads.stands ok apart)

  pub left_map : IsAccepted start → Apart start past → map_after start past ≡ m
  left_map ok apart =
      ap (replay (base start)) (sym (append-nil (changes_of past))) ∙ ap (λ events. replay (base start) (changes_of past ++ commits_of events)) (sym none) ∙ leads.map ok apart

  pub left_file : k.standing.file_size ≤ file_size (region_after start past)
  left_file = subst (λ events. k.standing.file_size ≤ file_size (after_all (region_after start past) events)) none leads.file

  pub left_firm : (record_of (region_after start past)).version ≡ 0 → k.standing.version ≡ 0
  left_firm = subst (λ events. (record_of (after_all (region_after start past) events)).version ≡ 0 → k.standing.version ≡ 0) none leads.firm

-- after the last event of a row
module _ (start : Region) (past : List Event) (who : ℕ) (what : What) (region : IsRegion start) (l : Lawful start (event_of who what ∷ past)) (is : IsStoring what) (room : Option ℕ)
    (reached : Apart start (event_of who what ∷ past) → Reaches start (event_of who what ∷ past) (Between room)) (k : Making) (m : Map) (none : k.events ≡ [])
    (leads : Leads k m start (event_of who what ∷ past)) where
  abbrev now : List Event
  now = event_of who what ∷ past

  whole : IsAccepted start → Apart start now → (n : ℕ) × (shown (region_after start now) ≡ Whole n)
  whole ok apart =
      whole_law start (event_of who what) past room region ok l apart (last_is_store start past who what room region ok l is (reached apart)) (reached apart)

  -- the region shows the image that they lead to
  pub row_shown : IsAccepted start → Apart start now → shown (region_after start now) ≡ Whole k.standing.size
  row_shown ok apart =
      let w = whole ok apart in
      shown_whole start now region ok l apart (room, reached apart) k m (left_standing k m start now none leads ok apart) (left_map k m start now none leads ok apart) w.0 w.1

  pub row_is_shown : IsAccepted start → Apart start now → IsShown (image_after k m) start now
  row_is_shown ok apart =
      let w = whole ok apart in
      whole_is_shown start now region ok l apart (room, reached apart) k m (left_standing k m start now none leads ok apart) (left_map k m start now none leads ok apart) w.0 w.1

  pub row_ended : IsImage (image_after k m) start now
  row_ended =
      record {
        accepted = λ apart. accepted_stored start (event_of who what) past (Between room) l.0 is (reached apart);
        file = left_file k m start now none leads;
        firm = left_firm k m start now none leads;
        shown = λ ok apart. record { later = []; earlier = now; is = refl; shown = row_is_shown ok apart };
      }
