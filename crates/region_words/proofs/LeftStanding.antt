-- What an append leaves is known from what was known before it.
use Rattle.std.proofs.Common.{◌≡◌, ℕ, ◌+◌, ◌*◌, ◌/◌, ◌%◌, ◌^◌, ◌<◌, ◌≤◌, List, ◌++◌, length, drop, sym, ap, ◌∙◌, arith, subst, length-append, length-drop}
use Rattle.std.proofs.lemmas.List.{drop-append-le, drop-drop}
use Rattle.std.proofs.lemmas.List.Elements.{All-drop}
use Rattle.crc_words.specs.Crc.{crc, crc_from}
use Rattle.crc_words.proofs.Continued.{continued_is}
use Rattle.expiring_map.specs.Map.{Map}
use Rattle.change_log.specs.declared.change.Act.{Act}
use Rattle.meta_record.specs.declared.shown.Shown.TheVariants.{Whole}
use Rattle.region_words.specs.Region.{Region, IsRegion, record_of, flag, payload_of, shown, size_shown}
use Rattle.region_words.specs.Past.{after_all}
use Rattle.region_words.specs.Rows.{Append, HasRoom, IsAppendable, events_of, item_of, mark_of, standing}
use Rattle.region_words.specs.Standings.{tail_of, tail_bytes, standing_of, first_of, words_of}
use Rattle.region_words.specs.Making.{appended_standing}
use Rattle.region_words.specs.declared.event.Mark.{Mark}
use Rattle.region_words.proofs.WordStores.{Small, Small-take, Small-drop}
use Rattle.region_words.proofs.Regions.{Small-from_All, joined_bytes}
use Rattle.region_words.proofs.Shows.{whole_shown, size_is_shown}
use Rattle.region_words.proofs.RowsStand.{item_bytes}
use Rattle.region_words.proofs.ByStanding.{tail_stands, append_is_stores}
use Rattle.region_words.proofs.WordsRead.{length-payload}
use Rattle.region_words.proofs.Appended.{ended, ends, new_size, data_size, size_stored, kept, same_flag, content_ended}

module _ (r : Region) (n : ℕ) (item : List ℕ) (mark : Mark)
    (pages : length r.data_bytes % 4 ≡ 0) (meta_size : 112 ≤ length r.meta_bytes)
    (small : Small (payload_of r n ++ item)) (room : 4 + (n + length item) ≤ length r.data_bytes) (most : length r.data_bytes ≤ 2 ^ 26)
    (tail_is : tail_bytes (standing_of r n) ≡ drop (4 * (n / 4)) (payload_of r n)) where
  abbrev old : List ℕ
  old = payload_of r n

  abbrev size : ℕ
  size = n + length item

  abbrev t : Region
  t = ended r n item mark pages meta_size small room most

  abbrev bytes : List ℕ
  bytes = tail_bytes (standing_of r n) ++ item

  old_size : length old ≡ n
  old_size = length-payload r.data_bytes n (omega (arith, room))

  content : payload_of t size ≡ old ++ item
  content = ap (payload_of t) (sym (new_size r n item mark pages meta_size small room most)) ∙ content_ended r n item mark pages meta_size small room most

  bytes_are : bytes ≡ drop (4 * (n / 4)) (old ++ item)
  bytes_are = ap (λ z. z ++ item) tail_is ∙ sym (drop-append-le (4 * (n / 4)) old item (omega (arith, old_size)))

  bytes_size : 4 * (n / 4) + length bytes ≡ size
  bytes_size = omega (arith, ap length bytes_are, length-drop (4 * (n / 4)) (old ++ item), length-append old item, old_size)

  last_bytes : drop (4 * (length bytes / 4)) bytes ≡ drop (4 * (size / 4)) (old ++ item)
  last_bytes =
      ap (drop (4 * (length bytes / 4))) bytes_are ∙ drop-drop (4 * (length bytes / 4)) (4 * (n / 4)) (old ++ item)
      ∙ ap (λ k. drop k (old ++ item)) (omega (arith, bytes_size))

  tails : tail_of (payload_of t size) size ≡ tail_of bytes (length bytes)
  tails = ap (λ l. first_of (words_of (drop (4 * (size / 4)) l))) content ∙ ap (λ l. first_of (words_of l)) (sym last_bytes)

  sums : crc (payload_of t size) ≡ crc_from (crc old) item
  sums = ap crc content ∙ sym (continued_is old item)

  pub left_size : (record_of t).size ≡ size
  left_size = size_stored r n item mark pages meta_size small room most ∙ new_size r n item mark pages meta_size small room most

  pub left_standing : standing_of t size ≡ appended_standing (standing_of r n) item
  left_standing =
      let other = kept r n item mark pages meta_size small room most in
      λ i. record {
        sequence = other 2 (omega arith) (omega arith) i;
        version = other 1 (omega arith) (omega arith) i;
        flag = same_flag r n item mark pages meta_size small room most i;
        size = size;
        checksum = sums i;
        tail = tails i;
        file_size = data_size r n item mark pages meta_size small room most i;
      }

abbrev pub IsLeft : Region → ℕ → List ℕ → Region → ℕ → Type 0
IsLeft r l item t k = ((record_of t).size ≡ k + length item) × (standing_of t (k + length item) ≡ appended_standing (standing_of r l) item)

-- after an append to a whole image
pub append_leaves : (r : Region) (m : Map) (who n : ℕ) (a : Act) → IsRegion r → shown r ≡ Whole n → HasRoom r n (length (item_of (flag r) a)) → IsAppendable (flag r) a →
    let t = after_all r (events_of r m who (Append a)) in
    let size = n + length (item_of (flag r) a) in
    ((record_of t).size ≡ size) × (standing_of t size ≡ appended_standing (standing r) (item_of (flag r) a))
append_leaves r m who n a is whole has_room may =
    let z = (record_of r).size in
    let old = payload_of r z in
    let item = item_of (flag r) a in
    let mark = mark_of r who (Append a) in
    let e : n ≡ z = (whole_shown r n whole).0 in
    let payload_bytes = All-drop (λ b. b < 256) 4 r.data_bytes is.data_file.small in
    let small : Small (old ++ item) =
    joined_bytes old item (Small-take z (drop 4 r.data_bytes) (Small-drop 4 r.data_bytes (Small-from_All r.data_bytes is.data_file.small))) (item_bytes (flag r) a may) in
    let pages : length r.data_bytes % 4 ≡ 0 = omega (arith, is.data_file.pages) in
    let meta_size : 112 ≤ length r.meta_bytes = omega (arith, is.meta_file.pages, is.meta_file.not_empty) in
    let room : 4 + (z + length item) ≤ length r.data_bytes = omega (arith, has_room.1, e) in
    let most : length r.data_bytes ≤ 2 ^ 26 = is.data_file.most in
    let old_length : length old ≡ z = length-payload r.data_bytes z (omega (arith, room)) in
    let tails : tail_bytes (standing_of r z) ≡ drop (4 * (z / 4)) old =
    subst (λ k. tail_bytes (standing_of r k) ≡ drop (4 * (length old / 4)) old) e (tail_stands r n payload_bytes whole) ∙ ap (λ k. drop (4 * (k / 4)) old) old_length in
    let left : IsLeft r z item (ended r z item mark pages meta_size small room most) z =
    (left_size r z item mark pages meta_size small room most tails, left_standing r z item mark pages meta_size small room most tails) in
    let events : after_all r (events_of r m who (Append a)) ≡ ended r z item mark pages meta_size small room most =
    ap (after_all r) (append_is_stores r n payload_bytes whole m who a) ∙ ends r z item mark pages meta_size small room most in
    subst (λ t. IsLeft r (size_shown r) item t n) (sym events)
    (subst (λ k. IsLeft r k item (ended r z item mark pages meta_size small room most) n) (sym (size_is_shown r n whole))
    (subst (IsLeft r z item (ended r z item mark pages meta_size small room most)) (sym e) left))
