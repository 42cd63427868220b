-- What stands of a kept image as long as the sequence is the kept one, and what is loaded on from there.
use Rattle.std.proofs.Common.{◌≡◌, ℕ, ◌+◌, ◌<◌, ◌≤◌, Bool, true, List, [], ◌∷◌, ◌++◌, length, take, drop, refl, sym, ap, ◌∙◌, inl, inr, arith, subst, length-take, length-drop, get_or-take}
use Rattle.std.specs.Prelude.{Some, Option, option_and_then, is_some, ◌==◌, ◌&&◌}
use Rattle.std.proofs.lemmas.Bool.Decides.{nat_tests}
use Rattle.std.proofs.lemmas.List.{take-append-drop}
use Rattle.crc_words.specs.Crc.{crc, crc_from}
use Rattle.crc_words.proofs.Continued.{continued_is}
use Rattle.expiring_map.specs.Map.{Map}
use Rattle.kv_pairs.specs.Reading.{units_at}
use Rattle.kv_pairs.specs.Mapped.{with_items}
use Rattle.kv_pairs.specs.declared.item.Item.{Item}
use Rattle.kv_pairs.proofs.Fronts.{behind_map}
use Rattle.meta_record.specs.Records.{agrees}
use Rattle.meta_record.specs.declared.shown.Shown.TheVariants.{Whole}
use Rattle.change_log.specs.Acts.{replay, applied}
use Rattle.change_log.specs.declared.change.Change.{Change}
use Rattle.std.proofs.lemmas.List.Sums.{fold-append}
use Rattle.region_words.specs.Region.{Region, IsRegion, record_of, flag, payload_of, map_in, shown, map_shown, size_of, base}
use Rattle.region_words.specs.Past.{region_after, changes_of}
use Rattle.region_words.specs.Apart.{Apart, strings}
use Rattle.region_words.specs.Lawful.{Lawful, map_after}
use Rattle.region_words.specs.declared.event.Event.{Event}
use Rattle.region_words.proofs.WordStores.{Small, Small-take, Small-drop}
use Rattle.region_words.proofs.Regions.{Small-from_All, lawful_region}
use Rattle.region_words.proofs.Shows.{whole_shown, shows_whole}
use Rattle.region_words.proofs.WordsRead.{length-payload, payload-at, same_bytes}
use Rattle.region_words.proofs.Stands.{Stands, IsGrown, fits_means, fits_true}
use Rattle.region_words.proofs.RowsStand.{agrees_fits, agrees_crc, same_flag, by_size}
use Rattle.region_words.proofs.EqualSequence.{candidates_among}
use Rattle.region_words.proofs.ReadLaws.{equal_sequence, kept_fit, kept_checksum, kept_map, changes_more}
use Rattle.region_words.specs.Laws.{GoesOn}
use Rattle.region_words.specs.Images.{LoadsOn, Image, IsKept, SameImage, checksum_at, image_of, kept_bytes, sequence_at}

module _ (k : Image) (fit : 4 + k.size ≤ length k.region.data_bytes) (S : List (List ℕ)) (more : List Change) (r : Region) (s : Stands k S more r) where
  same_content : payload_of r k.size ≡ kept_bytes k
  same_content =
      let size : length (payload_of r k.size) ≡ k.size = length-payload r.data_bytes k.size (omega (arith, fit, s.file_is)) in
      same_bytes (payload_of r k.size) (kept_bytes k) (size ∙ sym (length-payload k.region.data_bytes k.size fit))
      (λ i lt. let l : i < k.size = omega (arith, lt, size) in
      payload-at r.data_bytes k.size i l ∙ s.front i l ∙ sym (payload-at k.region.data_bytes k.size i l))

  front_of : (z : ℕ) → k.size ≤ z → take k.size (payload_of r z) ≡ payload_of r k.size
  front_of z h =
      let room : k.size ≤ length (drop 4 r.data_bytes) = omega (arith, length-drop 4 r.data_bytes, fit, s.file_is) in
      let size : length (take k.size (payload_of r z)) ≡ k.size = omega (arith, length-take k.size (payload_of r z), length-take z (drop 4 r.data_bytes), room, h) in
      same_bytes (take k.size (payload_of r z)) (payload_of r k.size) (size ∙ sym (length-payload r.data_bytes k.size (omega (arith, fit, s.file_is))))
      (λ i lt. let l : i < k.size = omega (arith, lt, size) in
      get_or-take k.size (payload_of r z) i 0 l ∙ payload-at r.data_bytes z i (omega (arith, l, h)) ∙ sym (payload-at r.data_bytes k.size i l))

  pub longer_content : (z : ℕ) → k.size ≤ z → payload_of r z ≡ kept_bytes k ++ drop k.size (payload_of r z)
  longer_content z h = sym (take-append-drop k.size (payload_of r z)) ∙ ap (λ x. x ++ drop k.size (payload_of r z)) (front_of z h ∙ same_content)

  pub same_image : SameImage k r
  same_image =
      record {
        content_is = same_content;
        file_is = s.file_is;
        flag_is = same_flag k S more r s;
        version_is = s.words 1 (omega arith) (omega arith);
        last_size_is = s.words 8 (omega arith) (omega arith);
        last_checksum_is = s.words 9 (omega arith) (omega arith);
        size_is = s.size_is;
        extends = longer_content;
      }

no_bytes : (xs : List ℕ) → length xs ≡ 0 → xs ≡ []
no_bytes [] e = refl
no_bytes (x ∷ xs) e = absurd (omega (arith, e))

module _ (start : Region) (past : List Event) (n : ℕ) (m : Map) (kept : IsKept start past n m) (later : List Event)
    (region : IsRegion start) (lawful : Lawful start (later ++ past)) (apart : Apart start (later ++ past))
    (same : sequence_at start (later ++ past) ≡ sequence_at start past) where
  abbrev pub r0 : Region
  r0 = region_after start past

  abbrev pub r : Region
  r = region_after start (later ++ past)

  abbrev pub z : ℕ
  z = (record_of r).size

  -- the bytes behind the kept ones
  abbrev pub behind : List ℕ
  behind = drop n (payload_of r z)

  fit : 4 + n ≤ length r0.data_bytes
  fit = kept_fit start past n m kept

  stands : Stands (image_of start past n m) (strings start (later ++ past)) (changes_of later) r
  stands = (equal_sequence start past n m kept later region lawful apart same).0

  pub still_same : SameImage (image_of start past n m) r
  still_same = same_image (image_of start past n m) fit (strings start (later ++ past)) (changes_of later) r stands

  whole_checksum : crc_from (checksum_at start past) behind ≡ crc (payload_of r z)
  whole_checksum =
      ap (λ c. crc_from c behind) (sym (kept_checksum start past n m kept))
      ∙ continued_is (payload_of r0 n) behind
      ∙ ap crc (sym (still_same.extends z stands.size_is))

  is_current : agrees r.data_bytes z (record_of r).checksum ≡ true → payload_of r z ≡ stands.current
  is_current a = by_size (image_of start past n m) fit (strings start (later ++ past)) (changes_of later) r apart (candidates_among start (later ++ past)) (lawful_region start (later ++ past) lawful region) stands a

  -- the map that is loaded
  pub record Loaded : Type 0 where
    pub shows : shown r ≡ Whole z
    pub items : List Item
    pub reads : units_at behind ≡ (items, [])
    pub maps : map_shown r ≡ Some (with_items (flag r0) m items)
    pub replayed : with_items (flag r0) m items ≡ replay m (changes_of later)

  some_map : (o : Option Map) (q : Map) → o ≡ Some q → is_some o ≡ true
  some_map o q e = ap is_some e

  items_behind : payload_of r z ≡ stands.current → (items : List Item) × (units_at behind ≡ (items, [])) × (replay m (changes_of later) ≡ with_items (flag r0) m items)
  items_behind e = go stands.grown
    where
      none_behind : behind ≡ [] → replay m (changes_of later) ≡ m → (items : List Item) × (units_at behind ≡ (items, [])) × (replay m (changes_of later) ≡ with_items (flag r0) m items)
      none_behind none same = ([], ap units_at none, same)

      go : IsGrown (image_of start past n m) (changes_of later) stands.current z →
          (items : List Item) × (units_at behind ≡ (items, [])) × (replay m (changes_of later) ≡ with_items (flag r0) m items)
      go (inl g) =
          none_behind
          (no_bytes behind (omega (arith, length-drop n (payload_of r z), ap length (e ∙ g.1), length-payload r0.data_bytes n fit)))
          (ap (replay m) g.0)
      go (inr g) =
          let small_r = Small-from_All r.data_bytes (lawful_region start (later ++ past) lawful region).data_file.small in
          let small_0 : Small (payload_of r0 n) = subst Small still_same.content_is (Small-take n (drop 4 r.data_bytes) (Small-drop 4 r.data_bytes small_r)) in
          let small_b : Small behind = Small-drop n (payload_of r z) (Small-take z (drop 4 r.data_bytes) (Small-drop 4 r.data_bytes small_r)) in
          let whole : map_in (flag r0) (payload_of r0 n ++ behind) ≡ Some (replay m (changes_of later)) =
          ap (map_in (flag r0)) (sym (still_same.extends z stands.size_is) ∙ e) ∙ stands.maps in
          behind_map (flag r0) (payload_of r0 n) behind m (replay m (changes_of later)) (omega (arith, g.0, length-payload r0.data_bytes n fit)) small_0 small_b
          (kept_map start past n m kept) whole

  both : {a b : Bool} → a ≡ true → b ≡ true → (a && b) ≡ true
  both p q = cc

  same_test : (a b : ℕ) → a ≡ b → (a == b) ≡ true
  same_test a b e = grind (arith, nat_tests)

  -- the record's size fits, and the checksum that goes on over the bytes behind the kept ones is the record's: then the image is whole
  pub partial_load : 4 + z ≤ length r.data_bytes → crc_from (checksum_at start past) behind ≡ (record_of r).checksum → Loaded
  partial_load room sum =
      let a : agrees r.data_bytes z (record_of r).checksum ≡ true = both (fits_true r.data_bytes z room) (same_test _ _ (sym whole_checksum ∙ sum)) in
      let e = is_current a in
      let map_is : map_in (flag r) (payload_of r z) ≡ Some (replay m (changes_of later)) = (λ i. map_in (still_same.flag_is i) (e i)) ∙ stands.maps in
      let s : shown r ≡ Whole z = shows_whole r a (some_map _ _ map_is) in
      let b = items_behind e in
      record {
        shows = s;
        items = b.0;
        reads = b.1;
        maps = ap (λ x. option_and_then (λ y. map_in (flag r) (payload_of r y)) (size_of x)) s ∙ map_is ∙ ap Some b.2;
        replayed = sym b.2;
      }

  -- and where a whole image is shown, it is of the record's size, and the checksum goes on so
  pub whole_load : (size : ℕ) → shown r ≡ Whole size → (size ≡ z) × (n ≤ size) × (4 + size ≤ length r.data_bytes) × (crc_from (checksum_at start past) behind ≡ (record_of r).checksum)
  whole_load size e =
      let w = whole_shown r size e in
      let room = fits_means r.data_bytes z (agrees_fits r.data_bytes z (record_of r).checksum w.1) in
      (w.0, omega (arith, w.0, stands.size_is), omega (arith, w.0, room), whole_checksum ∙ agrees_crc r z (record_of r).checksum w.1)

  -- where the kept map is that of the history, so is the loaded one
  pub loaded_history : Loaded → m ≡ map_after start past → map_shown r ≡ Some (map_after start (later ++ past))
  loaded_history l is =
      l.maps ∙ ap Some (
      l.replayed ∙ ap (λ q. replay q (changes_of later)) is
      ∙ sym (fold-append (λ q c. applied q c.act) (base start) (changes_of past) (changes_of later))
      ∙ ap (replay (base start)) (sym (changes_more later past)))

  -- the same as a law of specs
  pub loads_on : GoesOn start past n r → LoadsOn start past later n m
  loads_on on =
      let l = partial_load on.room on.checksum in
      record { items = l.items; reads = l.reads; shows = l.shows; maps = l.maps; replayed = l.replayed }

  pub goes_on : (size : ℕ) → shown r ≡ Whole size → (z ≡ size) × GoesOn start past n r
  goes_on size e =
      let w = whole_load size e in
      (sym w.0, record { size = omega (arith, w.0, w.1); room = omega (arith, w.0, w.2); checksum = w.3 })
