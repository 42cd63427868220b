-- The events of an append, from what an opener knows of the image alone.
use Rattle.std.proofs.Common.{◌≡◌, ℕ, ◌+◌, ◌*◌, ◌/◌, ◌%◌, ◌<◌, ◌≤◌, List, [], ◌∷◌, ◌++◌, length, take, drop, sym, refl, ap, ◌∙◌, arith, length-append, length-drop}
use Rattle.std.specs.Int.{to_le_bytes, w32}
use Rattle.std.proofs.lemmas.List.{drop-append-le}
use Rattle.crc_words.specs.Crc.{crc, crc_from}
use Rattle.crc_words.proofs.Continued.{continued_is}
use Rattle.std.specs.Prelude.{All, true, false, unwrap_or}
use Rattle.expiring_map.specs.Map.{Map}
use Rattle.change_log.specs.Acts.{applied}
use Rattle.change_log.specs.declared.change.Act.TheVariants as act
use Rattle.meta_record.specs.declared.shown.Shown.TheVariants.{Whole}
use Rattle.change_log.specs.declared.change.Act.{Act}
use Rattle.region_words.specs.Region.{Region, record_of, flag, payload_of, shown, size_shown, size_of}
use Rattle.region_words.specs.Rows.{Row, Append, Pack, Clear, Enable, Disable, Restore, Discard, Recover, SizeRepair, events_of, standing, append_stores, restore_stores, discard_stores, size_repair_stores, item_of, mark_of, stores_from, store_data, store_meta}
use Rattle.region_words.specs.Making.{write_back_by, switch_by}
use Rattle.region_words.proofs.OfRegion.{append_to}
use Rattle.region_words.specs.Standings.{IsStandingOf, standing_of, first_of, words_of, tail_bytes}
use Rattle.region_words.specs.declared.standing.Standing.{Standing}
use Rattle.region_words.specs.declared.event.Side.TheVariants.{Meta}
use Rattle.region_words.specs.declared.event.Mark.{Mark}
use Rattle.region_words.specs.declared.event.Mark.TheVariants.{Commit}
use Rattle.region_words.specs.declared.event.What.{What}
use Rattle.region_words.specs.declared.event.What.TheVariants.{Store}
use Rattle.region_words.proofs.WordStores.{Small, Small-take, Small-drop}
use Rattle.region_words.proofs.Regions.{Small-from_All}
use Rattle.region_words.proofs.Shows.{whole_shown, size_is_shown}
use Rattle.region_words.proofs.WordsRead.{length-payload}
use Rattle.region_words.proofs.Stands.{fits_means}
use Rattle.region_words.proofs.RowsStand.{agrees_fits}

-- fewer than four bytes are read back from their word
few_bytes : (bytes : List ℕ) (n : ℕ) → Small bytes → n ≡ length bytes → n ≤ 3 → take n (to_le_bytes w32 (first_of (words_of bytes))) ≡ bytes
few_bytes [] n s e h = ap (λ k. take k (to_le_bytes w32 0)) e
few_bytes (a ∷ []) n s e h =
    let b0 : a % 256 ≡ a = omega (arith, s.0) in
    ap (λ k. take k (to_le_bytes w32 a)) e ∙ (λ i. b0 i ∷ [])
few_bytes (a ∷ b ∷ []) n s e h =
    let x = a + 256 * b in
    let b0 : x % 256 ≡ a = omega (arith, s.0) in
    let b1 : x / 256 % 256 ≡ b = omega (arith, s.0, s.1.0) in
    ap (λ k. take k (to_le_bytes w32 x)) e ∙ (λ i. b0 i ∷ b1 i ∷ [])
few_bytes (a ∷ b ∷ c ∷ []) n s e h =
    let x = a + 256 * b + 65536 * c in
    let b0 : x % 256 ≡ a = omega (arith, s.0) in
    let b1 : x / 256 % 256 ≡ b = omega (arith, s.0, s.1.0) in
    let b2 : x / 65536 % 256 ≡ c = omega (arith, s.0, s.1.0, s.1.1.0) in
    ap (λ k. take k (to_le_bytes w32 x)) e ∙ (λ i. b0 i ∷ b1 i ∷ b2 i ∷ [])
few_bytes (a ∷ b ∷ c ∷ d ∷ rest) n s e h = absurd (omega (arith, e, h))

abbrev stores_at : ℕ → List ℕ → ℕ → ℕ → Mark → List What
stores_at word bytes size sum mark = stores_from word (words_of bytes) ++ store_data 0 size ∷ Store Meta 0 sum mark ∷ store_meta 7 size ∷ []

module _ (r : Region) (n : ℕ) (bytes : All (λ b. b < 256) (drop 4 r.data_bytes)) (whole : shown r ≡ Whole n) where
  abbrev old : List ℕ
  old = payload_of r (record_of r).size

  abbrev s : Standing
  s = standing_of r n

  is_size : n ≡ (record_of r).size
  is_size = (whole_shown r n whole).0

  old_length : length old ≡ n
  old_length =
      let fit = fits_means r.data_bytes (record_of r).size (agrees_fits r.data_bytes (record_of r).size (record_of r).checksum (whole_shown r n whole).1) in
      length-payload r.data_bytes (record_of r).size fit ∙ sym is_size

  last_bytes : List ℕ
  last_bytes = drop (4 * (length old / 4)) old

  tail_is : tail_bytes s ≡ last_bytes
  unfolding last_bytes
  tail_is =
      let word : s.tail ≡ first_of (words_of last_bytes) = (λ i. first_of (words_of (drop (4 * (sym old_length i / 4)) (payload_of r (is_size i))))) in
      let size : n % 4 ≡ length last_bytes = omega (arith, length-drop (4 * (length old / 4)) old, old_length) in
      let small : Small last_bytes =
      Small-drop (4 * (length old / 4)) old (Small-take (record_of r).size (drop 4 r.data_bytes) (Small-from_All (drop 4 r.data_bytes) bytes)) in
      ap (λ w. take (n % 4) (to_le_bytes w32 w)) word ∙ few_bytes last_bytes (n % 4) small size (omega arith)

  -- the tail is what the payload's last word shares with what comes next
  pub tail_stands : tail_bytes s ≡ drop (4 * (length old / 4)) old
  unfolding last_bytes
  tail_stands = tail_is

  stores_are : (item : List ℕ) (mark : Mark) → append_stores s item mark ≡ append_to old item mark
  unfolding last_bytes
  stores_are item mark =
      let word : 1 + n / 4 ≡ 1 + length old / 4 = ap (λ z. 1 + z / 4) (sym old_length) in
      let bytes : tail_bytes s ++ item ≡ drop (4 * (length old / 4)) (old ++ item) = ap (λ z. z ++ item) tail_is ∙ sym (drop-append-le (4 * (length old / 4)) old item (omega arith)) in
      let size : n + length item ≡ length (old ++ item) = omega (arith, length-append old item, old_length) in
      let sum : crc_from s.checksum item ≡ crc (old ++ item) = ap (λ z. crc_from (crc (payload_of r z)) item) is_size ∙ continued_is old item in
      λ i. stores_at (word i) (bytes i) (size i) (sum i) mark

  -- the events of an append to a whole image are those to its payload
  pub append_is_stores : (m : Map) (who : ℕ) (a : Act) → events_of r m who (Append a) ≡ append_to old (item_of (flag r) a) (mark_of r who (Append a))
  unfolding events_of
  append_is_stores m who a =
      ap (λ z. append_stores (standing_of r z) (item_of (flag r) a) (mark_of r who (Append a))) (size_is_shown r n whole ∙ sym is_size) ∙ stores_are (item_of (flag r) a) (mark_of r who (Append a))

-- the events of an append are the same by whatever standing is known of the image
pub append_by_known : (r : Region) (s : Standing) → shown r ≡ Whole s.size → IsStandingOf r s.size s → (m : Map) (who : ℕ) (a : Act) →
    events_of r m who (Append a) ≡ append_stores s (item_of s.flag a) (mark_of r who (Append a))
unfolding events_of
append_by_known r s whole stands m who a =
    let size : size_shown r ≡ s.size = ap (λ z. unwrap_or (size_of z) 0) whole in
    ap (λ z. append_stores (standing_of r z) (item_of (flag r) a) (mark_of r who (Append a))) size
    ∙ ap (λ (t : Standing). append_stores t (item_of t.flag a) (mark_of r who (Append a))) (sym stands.known)

-- the events of the rows that a writer makes
abbrev pub row_by : Standing → Map → ℕ → Row → List What
row_by s m who (Append a) = append_stores s (item_of s.flag a) (Commit (record { maker = who; act = a }))
row_by s m who (Pack now need) = write_back_by s (applied m (act.Pack now)) need (Commit (record { maker = who; act = act.Pack now }))
row_by s m who Clear = write_back_by s (applied m act.Clear) 0 (Commit (record { maker = who; act = act.Clear }))
row_by s m who (Enable now seconds) = switch_by s true 1 (applied m (act.Enable now seconds)) (Commit (record { maker = who; act = act.Enable now seconds }))
row_by s m who (Disable now) = switch_by s false 0 (applied m (act.Disable now)) (Commit (record { maker = who; act = act.Disable now }))
row_by s m who Restore = []
row_by s m who Discard = []
row_by s m who Recover = []
row_by s m who SizeRepair = []

abbrev pub IsWriters : Row → Type 0
IsWriters (Append a) = Unit {0}
IsWriters (Pack now need) = Unit {0}
IsWriters Clear = Unit {0}
IsWriters (Enable now seconds) = Unit {0}
IsWriters (Disable now) = Unit {0}
IsWriters Restore = ⊥
IsWriters Discard = ⊥
IsWriters Recover = ⊥
IsWriters SizeRepair = ⊥

-- where all is known of a whole image, the events of a writer's row are those of its standing
pub row_is : (r : Region) (m : Map) (who : ℕ) (row : Row) → IsWriters row → events_of r m who row ≡ row_by (standing r) m who row
unfolding events_of
row_is r m who (Append a) w = refl
row_is r m who (Pack now need) w = refl
row_is r m who Clear w = refl
row_is r m who (Enable now seconds) w = refl
row_is r m who (Disable now) w = refl
row_is r m who Restore w = absurd w
row_is r m who Discard w = absurd w
row_is r m who Recover w = absurd w
row_is r m who SizeRepair w = absurd w

-- and those of a repair without a payload, whatever the region shows
pub restore_is : (r : Region) (s : Standing) (m : Map) (who : ℕ) → s ≡ standing r →
    events_of r m who Restore ≡ restore_stores s (record_of r) (mark_of r who Restore)
unfolding events_of
restore_is r s m who is = ap (λ (t : Standing). restore_stores t (record_of r) (mark_of r who Restore)) (sym is)

pub discard_is : (r : Region) (s : Standing) (m : Map) (who : ℕ) → s ≡ standing r → events_of r m who Discard ≡ discard_stores s (mark_of r who Discard)
unfolding events_of
discard_is r s m who is = ap (λ (t : Standing). discard_stores t (mark_of r who Discard)) (sym is)

pub size_repair_by : (r : Region) (s : Standing) (m : Map) (who : ℕ) → s ≡ standing r → events_of r m who SizeRepair ≡ size_repair_stores s
unfolding events_of
size_repair_by r s m who is = ap (λ (t : Standing). size_repair_stores t) (sym is)
