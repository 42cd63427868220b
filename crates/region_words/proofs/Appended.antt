-- A whole append leaves a region that shows the longer payload, whatever the checksums are.
use Rattle.std.proofs.Common.{◌≡◌, ◌≢◌, ℕ, ◌+◌, ◌*◌, ◌/◌, ◌%◌, ◌^◌, ◌<◌, ◌≤◌, Bool, true, List, [], ◌∷◌, ◌++◌, length, drop, refl, sym, ap, ◌∙◌, arith, length-append, length-take, length-drop, get_or-take, get_or-drop}
use Rattle.std.specs.Prelude.{is_some, slice_index, nat_le, ◌==◌, ◌&&◌}
use Rattle.std.proofs.lemmas.Bool.Decides.{nat_tests}
use Rattle.std.proofs.lemmas.List.{get_or_append_left}
use Rattle.crc_words.specs.Crc.{crc}
use Rattle.crc_words.proofs.Bounds.{crc_below}
use Rattle.meta_record.specs.Words.{word_at, with_word, fits}
use Rattle.meta_record.specs.Records.{agrees}
use Rattle.meta_record.specs.declared.shown.Shown.TheVariants.{Whole}
use Rattle.meta_record.proofs.WordLemmas.{length-with_word, same_word, other_word}
use Rattle.region_words.specs.Region.{Region, record_of, flag, payload_of, shown, map_in}
use Rattle.region_words.specs.Past.{region_step, after_all}
use Rattle.region_words.specs.Rows.{stores_from, store_data, store_meta}
use Rattle.region_words.specs.Standings.{words_of}
use Rattle.region_words.proofs.OfRegion.{append_to, tail_stores}
use Rattle.region_words.specs.declared.event.Side.TheVariants.{Meta}
use Rattle.region_words.specs.declared.event.Mark.{Mark}
use Rattle.region_words.specs.declared.event.What.{What}
use Rattle.region_words.specs.declared.event.What.TheVariants.{Store}
use Rattle.region_words.proofs.WordStores.{stored, Small, tail_stored, length-stored, length-words_of}
use Rattle.region_words.proofs.Shows.{shows_whole}

at_most_true : (b n : ℕ) → b ≤ n → nat_le b n ≡ true
at_most_true b n h = grind (arith, nat_tests)

both : {a b : Bool} → a ≡ true → b ≡ true → (a && b) ≡ true
both p q = cc

itself : (n : ℕ) → (n == n) ≡ true
itself n = grind (arith, nat_tests)

pub after_all-append : (r : Region) (xs ys : List What) → after_all r (xs ++ ys) ≡ after_all (after_all r xs) ys
after_all-append r [] ys = refl
after_all-append r (x ∷ xs) ys = after_all-append (region_step r x) xs ys

pub after_all-stores : (r : Region) (w : ℕ) (vs : List ℕ) → after_all r (stores_from w vs) ≡ record r { data_bytes = stored r.data_bytes w vs }
after_all-stores r w [] = refl
after_all-stores r w (v ∷ vs) = after_all-stores (region_step r (store_data w v)) (w + 1) vs

module _ (r : Region) (n : ℕ) (item : List ℕ) (mark : Mark)
    (pages : length r.data_bytes % 4 ≡ 0) (meta_size : 112 ≤ length r.meta_bytes)
    (small : Small (payload_of r n ++ item)) (room : 4 + (n + length item) ≤ length r.data_bytes) (most : length r.data_bytes ≤ 2 ^ 26) where
  abbrev pub new : List ℕ
  new = payload_of r n ++ item

  abbrev words : List ℕ
  words = stored r.data_bytes (1 + n / 4) (words_of (drop (4 * (n / 4)) new))

  abbrev pub ended : Region
  ended = record { data_bytes = with_word words 0 (length new); meta_bytes = with_word (with_word r.meta_bytes 0 (crc new)) 7 (length new) }

  old_size : length (payload_of r n) ≡ n
  old_size = omega (arith, length-take n (drop 4 r.data_bytes), length-drop 4 r.data_bytes, room)

  pub new_size : length new ≡ n + length item
  new_size = omega (arith, length-append (payload_of r n) item, old_size)

  last_stores : List What
  last_stores = store_data 0 (length new) ∷ Store Meta 0 (crc new) mark ∷ store_meta 7 (length new) ∷ []

  pub ends : after_all r (append_to (payload_of r n) item mark) ≡ ended
  unfolding last_stores
  ends =
      after_all-append r (tail_stores (length (payload_of r n)) new) last_stores
      ∙ ap (λ z. after_all z last_stores) (after_all-stores r (1 + length (payload_of r n) / 4) (words_of (drop (4 * (length (payload_of r n) / 4)) new)))
      ∙ ap (λ k. after_all (record r { data_bytes = stored r.data_bytes (1 + k / 4) (words_of (drop (4 * (k / 4)) new)) }) last_stores) old_size

  words_size : length words ≡ length r.data_bytes
  words_size = length-stored r.data_bytes (1 + n / 4) (words_of (drop (4 * (n / 4)) new))
      (omega (arith, length-words_of (drop (4 * (n / 4)) new), length-drop (4 * (n / 4)) new, new_size, room, pages))

  pub data_size : length ended.data_bytes ≡ length r.data_bytes
  data_size = length-with_word words 0 (length new) (omega (arith, words_size, room)) ∙ words_size

  meta_kept : length (with_word r.meta_bytes 0 (crc new)) ≡ length r.meta_bytes
  meta_kept = length-with_word r.meta_bytes 0 (crc new) (omega (arith, meta_size))

  pub size_stored : word_at ended.meta_bytes 7 ≡ length new
  size_stored = same_word (with_word r.meta_bytes 0 (crc new)) 7 (length new) (omega (arith, meta_kept, meta_size)) (omega (arith, new_size, room, most))

  checksum_stored : word_at ended.meta_bytes 0 ≡ crc new
  checksum_stored =
      other_word (with_word r.meta_bytes 0 (crc new)) 7 (length new) (omega (arith, meta_kept, meta_size)) 0 (omega arith)
      ∙ same_word r.meta_bytes 0 (crc new) (omega (arith, meta_size)) (crc_below new)

  front : (i : ℕ) → i < n → slice_index r.data_bytes (4 + i) ≡ slice_index new i
  front i lt =
      sym (get_or_append_left (payload_of r n) item 0 i (omega (arith, lt, old_size)) ∙ get_or-take n (drop 4 r.data_bytes) i 0 lt ∙ get_or-drop 4 r.data_bytes i 0)

  pub content_ended : payload_of ended (length new) ≡ new
  content_ended = tail_stored r.data_bytes new n small pages (omega (arith, new_size)) (omega (arith, new_size, room)) front

  fits_ended : fits ended.data_bytes (length new) ≡ true
  fits_ended = at_most_true (4 + length new) (length ended.data_bytes) (omega (arith, data_size, new_size, room))

  pub kept : (x : ℕ) → x ≢ 0 → x ≢ 7 → word_at ended.meta_bytes x ≡ word_at r.meta_bytes x
  kept x n0 n7 =
      other_word (with_word r.meta_bytes 0 (crc new)) 7 (length new) (omega (arith, meta_kept, meta_size)) x n7
      ∙ other_word r.meta_bytes 0 (crc new) (omega (arith, meta_size)) x n0

  pub same_flag : flag ended ≡ flag r
  same_flag = λ i. (kept 26 (omega arith) (omega arith) i + 4294967296 * kept 27 (omega arith) (omega arith) i) == 1

  agrees_new : agrees ended.data_bytes (length new) (crc new) ≡ true
  agrees_new = both fits_ended (ap (λ c. crc c == crc new) content_ended ∙ itself (crc new))

  agrees_ended : agrees ended.data_bytes (record_of ended).size (record_of ended).checksum ≡ true
  agrees_ended = (λ i. agrees ended.data_bytes (size_stored i) (checksum_stored i)) ∙ agrees_new

  map_ended : is_some (map_in (flag r) new) ≡ true → is_some (map_in (flag ended) (payload_of ended (record_of ended).size)) ≡ true
  map_ended h = (λ i. is_some (map_in (same_flag i) (payload_of ended (size_stored i)))) ∙ ap (λ bytes. is_some (map_in (flag r) bytes)) content_ended ∙ h

  -- the region after an append shows the longer payload
  pub appended_whole : is_some (map_in (flag r) new) ≡ true → shown (after_all r (append_to (payload_of r n) item mark)) ≡ Whole (length new)
  appended_whole has_map = ap shown ends ∙ shows_whole ended agrees_ended (map_ended has_map) ∙ ap Whole size_stored
