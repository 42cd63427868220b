-- Where the sequence is the kept one, a kept image goes on to each whole image that is shown.
use Rattle.std.proofs.Common.{◌≡◌, ℕ, ◌<◌, Bool, true, false, List, [], ◌∷◌, ◌++◌, length, drop, refl, sym, ◌∙◌, ap, subst, arith, zero, suc, inl, inr, length-drop, length-take}
use Rattle.std.specs.Prelude.{◌⊎◌, Some, None, option_and_then, ◌&&◌}
use Rattle.std.specs.List.{list_all}
use Rattle.std.specs.FinMap as fin
use Rattle.crc_words.specs.Crc.{crc_from}
use Rattle.expiring_map.specs.Map.{Map}
use Rattle.kv_pairs.specs.Mapped.{first_without_room, has_room_for_expiry, map_in, with_items}
use Rattle.kv_pairs.specs.Reading.{items_of, units_at}
use Rattle.kv_pairs.specs.declared.item.Item.{Item}
use Rattle.kv_pairs.proofs.Fronts.{behind, parts}
use Rattle.kv_pairs.proofs.GrammarRead.{Small}
use Rattle.kv_pairs.proofs.Mapping.{some_when}
use Rattle.kv_pairs.proofs.Turns.{none_refused}
use Rattle.meta_record.specs.declared.shown.Shown.TheVariants.{Whole}
use Rattle.region_words.specs.Images.{IsKept, LoadsOn, SameImage, bytes_behind, image_of, sequence_at}
use Rattle.region_words.specs.Laws.{GoesOn, IsTrueRun}
use Rattle.region_words.specs.Past.{region_after}
use Rattle.region_words.specs.Region.{Region, flag, map_shown, payload_of, record_of, shown, size_of}
use Rattle.region_words.specs.Standings.{IsStandingOf}
use Rattle.region_words.specs.declared.event.Event.{Event}
use Rattle.region_words.specs.declared.standing.Standing.{Standing}
use Rattle.region_words.proofs.PartialLoad.{goes_on, loads_on, still_same}
use Rattle.region_words.proofs.ReadLaws.{equal_sequence, kept_checksum, kept_fit, kept_map}
use Rattle.region_words.proofs.Regions.{Small-from_All, lawful_region}
use Rattle.region_words.proofs.WordStores.{Small-drop, Small-take}
use Rattle.region_words.proofs.WordsRead.{length-payload}
use Rattle.loader.specs.PartialLoads.{GoesOnIn, WasKept}
use Rattle.loader.specs.declared.loaded.Image.{Image}

both : (a b : Bool) → (a && b) ≡ true → b ≡ true
both true b e = e
both false b e = absurd cc

all_behind : (p : Item → Bool) (xs ys : List Item) → list_all p (xs ++ ys) ≡ true → list_all p ys ≡ true
all_behind p [] ys e = e
all_behind p (x ∷ xs) ys e = all_behind p xs ys (both (p x) (list_all p (xs ++ ys)) e)

-- these bytes are units to their end, and their items have a map
pub record AreItems (flag : Bool) (bytes : List ℕ) : Type 0 where
  pub items : List Item
  pub reads : units_at bytes ≡ (items, [])
  pub mapped : first_without_room flag items ≡ None

-- so are those behind a payload with a map, where both together have one
items_behind : (flag : Bool) (p more : List ℕ) (m n : Map) → 0 < length p → Small p → Small more → map_in flag p ≡ Some m → map_in flag (p ++ more) ≡ Some n → AreItems flag more
items_behind flag p more m n some small small_more e f =
    let had = parts flag (items_of p) m e in
    let has = parts flag (items_of (p ++ more)) n f in
    let b = behind p more had.0 has.0 some small small_more had.1 has.1 in
    let room = (some_when (list_all (has_room_for_expiry flag) has.0) (with_items flag fin.empty has.0) n has.2).0 in
    record {
      items = b.0;
      reads = b.1;
      mapped = none_refused flag b.0 (all_behind (has_room_for_expiry flag) had.0 b.0 (ap (list_all (has_room_for_expiry flag)) (sym b.2) ∙ room));
    }

no_bytes : (xs : List ℕ) → length xs ≡ 0 → xs ≡ []
no_bytes [] e = refl
no_bytes (x ∷ xs) e = absurd (omega (arith, e))

-- nothing is appended to an empty image
still_empty : {A B C : Type 0} (n z : ℕ) → n ≡ 0 → (A × B × (z ≡ n)) ⊎ ((0 < n) × C) → z ≡ 0
still_empty n z none (inl g) = g.2 ∙ none
still_empty n z none (inr g) = absurd (omega (arith, g.0, none))

module _ (i : Image) (start : Region) (later earlier : List Event) (kept : IsKept start earlier i.standing.size i.map)
    (known : IsStandingOf (region_after start earlier) i.standing.size i.standing) (run : IsTrueRun start (later ++ earlier))
    (sequence : (record_of (region_after start (later ++ earlier))).sequence ≡ i.standing.sequence) (size : ℕ) (shows : shown (region_after start (later ++ earlier)) ≡ Whole size) where
  abbrev n : ℕ
  n = i.standing.size

  abbrev r0 : Region
  r0 = region_after start earlier

  abbrev r : Region
  r = region_after start (later ++ earlier)

  abbrev z : ℕ
  z = (record_of r).size

  same : sequence_at start (later ++ earlier) ≡ sequence_at start earlier
  same = sequence ∙ ap (λ (s : Standing). s.sequence) known.known

  on : (z ≡ size) × GoesOn start earlier n r
  on = goes_on start earlier n i.map kept later run.region run.lawful run.apart same size shows

  loads : LoadsOn start earlier later n i.map
  loads = loads_on start earlier n i.map kept later run.region run.lawful run.apart same on.1

  still : SameImage (image_of start earlier n i.map) r
  still = still_same start earlier n i.map kept later run.region run.lawful run.apart same

  flag_is : flag r ≡ i.standing.flag
  flag_is = still.flag_is ∙ sym (ap (λ (s : Standing). s.flag) known.known)

  none_behind : n ≡ 0 → z ≡ 0
  none_behind none =
      let stands = (equal_sequence start earlier n i.map kept later run.region run.lawful run.apart same).0 in
      still_empty n z none stands.grown

  whole_map : (m : Map) → map_shown r ≡ Some m → map_in (flag r) (payload_of r z) ≡ Some m
  whole_map m e = sym (ap (λ s. option_and_then (λ k. map_in (flag r) (payload_of r k)) (size_of s)) loads.shows) ∙ e

  some_behind : 0 < n → AreItems i.standing.flag (bytes_behind r n)
  some_behind some =
      let small = Small-from_All r.data_bytes (lawful_region start (later ++ earlier) run.lawful run.region).data_file.small in
      let fit = kept_fit start earlier n i.map kept in
      let front : Small (payload_of r0 n) = subst Small still.content_is (Small-take n (drop 4 r.data_bytes) (Small-drop 4 r.data_bytes small)) in
      let rest : Small (bytes_behind r n) = Small-drop n (payload_of r z) (Small-take z (drop 4 r.data_bytes) (Small-drop 4 r.data_bytes small)) in
      let whole = ap (map_in (flag r)) (sym (still.extends z still.size_is)) ∙ whole_map _ loads.maps in
      subst (λ b. AreItems b (bytes_behind r n)) flag_is
      (items_behind (flag r) (payload_of r0 n) (bytes_behind r n) i.map _ (omega (arith, some, length-payload r0.data_bytes n fit)) front rest
      (ap (λ b. map_in b (payload_of r0 n)) still.flag_is ∙ kept_map start earlier n i.map kept) whole)

  are_items : AreItems i.standing.flag (bytes_behind r n)
  are_items = go n refl
    where
      go : (k : ℕ) → n ≡ k → AreItems i.standing.flag (bytes_behind r n)
      go zero none = subst (AreItems i.standing.flag) (sym (no_bytes (bytes_behind r n) (omega (arith, length-drop n (payload_of r z), length-take z (drop 4 r.data_bytes), none_behind none, none)))) (record { items = []; reads = refl; mapped = refl })
      go (suc k) some = some_behind (omega (arith, some))

  pub whole_goes_on : GoesOnIn i.standing r
  whole_goes_on =
      record {
        sequence = sequence;
        size = on.1.size;
        empty = none_behind;
        room = on.1.room;
        checksum = ap (λ c. crc_from c (bytes_behind r n)) (ap (λ (s : Standing). s.checksum) known.known ∙ kept_checksum start earlier n i.map kept) ∙ on.1.checksum;
        items = are_items.items;
        reads = are_items.reads;
        mapped = are_items.mapped;
      }

pub whole_images_go_on : (i : Image) (start : Region) (past : List Event) (size : ℕ) → IsTrueRun start past → WasKept i start past →
    (record_of (region_after start past)).sequence ≡ i.standing.sequence → shown (region_after start past) ≡ Whole size → GoesOnIn i.standing (region_after start past)
whole_images_go_on i start past size run was =
    let at : (past : List Event) → Type 0 = λ past.
    IsTrueRun start past → (record_of (region_after start past)).sequence ≡ i.standing.sequence → shown (region_after start past) ≡ Whole size → GoesOnIn i.standing (region_after start past) in
    subst at was.is (λ run sequence shows. whole_goes_on i start was.later was.earlier was.kept was.known run sequence size shows) run
