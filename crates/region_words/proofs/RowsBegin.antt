-- A row that begins leaves a kept image standing.
use Rattle.std.proofs.Common.{◌≡◌, ◌⊎◌, ℕ, ◌+◌, ◌*◌, ◌/◌, ◌<◌, ◌≤◌, List, [], ◌∷◌, ◌++◌, length, drop, sym, ap, ◌∙◌, inl, inr, arith, subst, length-append, length-drop, get_or-drop}
use Rattle.std.specs.Prelude.{Some, Option, slice_index, if◌then◌else◌, ◌==◌}
use Rattle.std.proofs.lemmas.List.{get_or_append_left}
use Rattle.std.proofs.lemmas.List.Sums.{fold-append}
use Rattle.std.proofs.lemmas.List.Elements.{All-drop}
use Rattle.crc_words.specs.Crc.{crc}
use Rattle.expiring_map.specs.Map.{Map}
use Rattle.meta_record.specs.declared.shown.Shown.TheVariants.{Whole}
use Rattle.change_log.specs.Acts.{replay, applied}
use Rattle.change_log.specs.declared.change.Act.{Act}
use Rattle.change_log.specs.declared.change.Change.{Change}
use Rattle.region_words.specs.Region.{Region, IsRegion, record_of, flag, payload_of, map_in, shown}
use Rattle.region_words.specs.Apart.{recorded_payloads}
use Rattle.region_words.specs.Rows.{Row, Append, Pack, Clear, Enable, Disable, Restore, Discard, Recover, SizeRepair, MayBegin, events_of, item_of, IsAppendable, store_data, store_meta, close_sizes, payload_stores, confirmed_by_checksum, confirmed_by_header, size_after, payload_after, mark_of}
use Rattle.region_words.proofs.OfRegion.{append_to}
use Rattle.region_words.specs.declared.event.Side.TheVariants.{Meta}
use Rattle.region_words.specs.declared.event.Mark.TheVariants.{Commit}
use Rattle.region_words.specs.declared.event.What.{What}
use Rattle.region_words.specs.declared.event.What.TheVariants.{Store}
use Rattle.region_words.proofs.WordStores.{Small, Small-take, Small-drop}
use Rattle.region_words.proofs.Regions.{Small-from_All, joined_bytes}
use Rattle.region_words.proofs.Shows.{whole_shown}
use Rattle.region_words.proofs.ByStanding.{append_is_stores}
use Rattle.region_words.proofs.AppendedMap.{appended_map}
use Rattle.region_words.proofs.WordsRead.{length-payload, payload-at}
use Rattle.region_words.proofs.Stands.{Stands, Fine, Within, IsGrown, IsAt, fits_means}
use Rattle.region_words.proofs.AppendStands.{words_fine, last_fine}
use Rattle.region_words.proofs.RowsStand.{item_bytes, some_item, appendable_is, IsApart, same_flag, agrees_fits, by_size, raised_fine, growth_fine, resize_fine, size_repair_is}
use Rattle.region_words.specs.Images.{Image}

module _ (k : Image) (kept_fit : 4 + k.size ≤ length k.region.data_bytes) (S : List (List ℕ)) (more : List Change) (r : Region)
    (apart : IsApart S) (holds : Within (recorded_payloads r) S) (region : IsRegion r) (s : Stands k S more r) where
  module _ (a : Act) (who n : ℕ) (whole : shown r ≡ Whole n) (some : 0 < n) (room : 4 + n + length (item_of (flag r) a) ≤ length r.data_bytes)
      (appendable : IsAppendable (flag r) a) where
    abbrev item : List ℕ
    item = item_of (flag r) a

    abbrev old : List ℕ
    old = payload_of r (record_of r).size

    abbrev new : List ℕ
    new = old ++ item

    abbrev change : Change
    change = record { maker = who; act = a }

    is_shown : (n ≡ (record_of r).size) × (4 + (record_of r).size ≤ length r.data_bytes) × (old ≡ s.current)
    is_shown =
        let w = whole_shown r n whole in
        (w.0, fits_means r.data_bytes (record_of r).size (agrees_fits r.data_bytes (record_of r).size (record_of r).checksum w.1), by_size k kept_fit S more r apart holds region s w.1)

    old_length : length old ≡ (record_of r).size
    old_length = length-payload r.data_bytes (record_of r).size is_shown.1

    new_length : length new ≡ length old + length item
    new_length = length-append old item

    fitting : 4 + length new ≤ length r.data_bytes
    fitting = omega (arith, new_length, old_length, room, is_shown.0)

    old_at : (i : ℕ) → i < length old → slice_index r.data_bytes (4 + i) ≡ slice_index new i
    old_at i lt = sym (get_or_append_left old item 0 i lt ∙ payload-at r.data_bytes (record_of r).size i (omega (arith, lt, old_length)))

    old_small : Small old
    old_small = Small-take (record_of r).size (drop 4 r.data_bytes) (Small-drop 4 r.data_bytes (Small-from_All r.data_bytes region.data_file.small))

    new_small : Small new
    new_small = joined_bytes old item old_small (item_bytes (flag r) a appendable)

    old_map : map_in (flag r) old ≡ Some (replay k.pairs more)
    old_map = (λ i. map_in (same_flag k S more r s i) (is_shown.2 i)) ∙ s.maps

    new_map : map_in (flag k.region) new ≡ Some (replay k.pairs (more ++ change ∷ []))
    new_map =
        (λ i. map_in (sym (same_flag k S more r s) i) new)
        ∙ appended_map (flag r) old (replay k.pairs more) a (omega (arith, some, old_length, is_shown.0)) old_small old_map appendable
        ∙ ap Some (sym (fold-append (λ m c. applied m c.act) k.pairs more (change ∷ [])))

    kept_some : 0 < k.size
    kept_some = go s.grown
      where
        go : IsGrown k more s.current (record_of r).size → 0 < k.size
        go (inl e) = omega (arith, ap length (is_shown.2 ∙ e.1), old_length, is_shown.0, some, length-payload k.region.data_bytes k.size kept_fit)
        go (inr e) = e.0

    kept_less : k.size < length new
    kept_less = omega (arith, s.size_is, old_length, new_length, some_item (flag r) a appendable)

    pub append_fine : Fine k S more r (append_to old item (Commit change))
    append_fine =
        let last : List What = store_data 0 (length new) ∷ Store Meta 0 (crc new) (Commit change) ∷ store_meta 7 (length new) ∷ [] in
        let low : k.size ≤ length old = omega (arith, s.size_is, old_length) in
        let j = length old / 4 in
        words_fine k more new (length old) last low (omega (arith, new_length))
        (λ i lt. sym (old_at i (omega (arith, lt, low))) ∙ s.front i lt)
        (λ T t w g ends. last_fine k more new change (appendable_is (flag r) a appendable) kept_some kept_less new_map T t g.stands (subst (λ z. IsAt t g.stands.current z) (sym g.size) (omega (arith, g.room, new_length), g.is)) g.room (λ i lt. g.held i (inr (omega (arith, lt, ends)))))
        (1 + j) (drop (4 * j) new)
        (λ i q e. ap (slice_index new) (omega (arith, e)) ∙ sym (get_or-drop (4 * j) new q 0))
        (omega (arith, length-drop (4 * j) new))
        (Small-drop (4 * j) new new_small)
        (omega (arith, low))
        S r
        (record { stands = s; region = region; room = fitting; held = λ i c. old_at i (front_of i c); size = sym old_length; is = ap (payload_of r) old_length ∙ is_shown.2 })
      where
        front_of : (i : ℕ) → (i < length old) ⊎ (4 + i < 4 * (1 + length old / 4)) → i < length old
        front_of i (inl l) = l
        front_of i (inr l) = omega (arith, l)

  -- each row that may begin
  pub begins_fine : (m : Map) (who : ℕ) (room : Option ℕ) (row : Row) → MayBegin r m room row → Fine k S more r (events_of r m who row)
  unfolding events_of
  begins_fine m who room (Append a) (n, whole, has_room, appendable, need) =
      subst (Fine k S more r) (sym (append_is_stores r n (All-drop (λ b. b < 256) 4 r.data_bytes region.data_file.small) whole m who a)) (append_fine a who n whole has_room.0 has_room.1 appendable)
  begins_fine m who room (Pack now need) b =
      let row = Pack now need in
      growth_fine k kept_fit S more r apart holds region s (size_after r m row) ((record_of r).sequence + 1) (if (record_of r).version == 0 then store_meta 1 3 ∷ [] else []) (payload_stores (payload_after r m row))
      (confirmed_by_checksum (payload_after r m row) (mark_of r who row))
  begins_fine m who room Clear b =
      growth_fine k kept_fit S more r apart holds region s (size_after r m Clear) ((record_of r).sequence + 1) (if (record_of r).version == 0 then store_meta 1 3 ∷ [] else []) (payload_stores (payload_after r m Clear))
      (confirmed_by_checksum (payload_after r m Clear) (mark_of r who Clear))
  begins_fine m who room (Enable now seconds) b =
      let row = Enable now seconds in
      growth_fine k kept_fit S more r apart holds region s (size_after r m row) ((record_of r).sequence + 1) (store_meta 1 4 ∷ close_sizes) (payload_stores (payload_after r m row))
      (store_meta 26 1 ∷ confirmed_by_header (payload_after r m row) (mark_of r who row))
  begins_fine m who room (Disable now) b =
      let row = Disable now in
      growth_fine k kept_fit S more r apart holds region s (size_after r m row) ((record_of r).sequence + 1) (store_meta 1 4 ∷ close_sizes) (payload_stores (payload_after r m row))
      (store_meta 26 0 ∷ confirmed_by_header (payload_after r m row) (mark_of r who row))
  begins_fine m who room Restore b = raised_fine k kept_fit S more r apart holds region s r ((record_of r).sequence + 1) _ s
  begins_fine m who room Discard b = raised_fine k kept_fit S more r apart holds region s r ((record_of r).sequence + 1) _ s
  begins_fine m who room Recover b = raised_fine k kept_fit S more r apart holds region s r ((record_of r).sequence + 1) _ s
  begins_fine m who room SizeRepair (n, e) =
      subst (Fine k S more r) (sym (size_repair_is r m who n e)) (resize_fine k kept_fit S more r apart holds region s n e)
