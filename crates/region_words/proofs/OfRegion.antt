-- The events of the rows as functions of the region, as the laws speak of them.
use Rattle.std.specs.Prelude.{ℕ, ◌+◌, ◌*◌, ◌/◌, List, [], ◌∷◌, ◌++◌, Option, length, drop, unwrap_or, nat_lt, ◌==◌, if◌then◌else◌}
use Rattle.crc_words.specs.Crc.{crc}
use Rattle.region_words.specs.Region.{Region, record_of, file_size}
use Rattle.region_words.specs.Standings.{words_of}
use Rattle.region_words.specs.Rows.{stores_from, store_data, store_meta, payload_stores, close_sizes, confirmed_by_checksum, confirmed_by_header}
use Rattle.region_words.specs.declared.event.Side.TheVariants.{Meta}
use Rattle.region_words.specs.declared.event.Mark.{Mark}
use Rattle.region_words.specs.declared.event.What.{What}
use Rattle.region_words.specs.declared.event.What.TheVariants.{Store, Grow}

-- the stores of the words that n old bytes of a payload and its new bytes share, and of those behind
abbrev pub tail_stores : ℕ → List ℕ → List What
tail_stores n bytes = stores_from (1 + n / 4) (words_of (drop (4 * (n / 4)) bytes))

abbrev pub next_sequence : Region → What
next_sequence r = store_meta 2 ((record_of r).sequence + 1)

-- the growth of the file to this size, where it is smaller
abbrev pub growth : Region → Option ℕ → List What
growth r size = let wanted = unwrap_or size 0 in if nat_lt (file_size r) wanted then Grow wanted ∷ [] else []

-- the payload with an item at its end
abbrev pub append_to : List ℕ → List ℕ → Mark → List What
append_to old item mark =
    let new = old ++ item in
    tail_stores (length old) new ++ store_data 0 (length new) ∷ Store Meta 0 (crc new) mark ∷ store_meta 7 (length new) ∷ []

abbrev pub write_back_stores : Region → Option ℕ → List ℕ → Mark → List What
write_back_stores r size new mark =
    growth r size ++ next_sequence r ∷ (if (record_of r).version == 0 then store_meta 1 3 ∷ [] else [])
    ++ payload_stores new ++ confirmed_by_checksum new mark

abbrev pub switch_stores : Region → Option ℕ → ℕ → List ℕ → Mark → List What
switch_stores r size flags new mark =
    growth r size ++ next_sequence r ∷ store_meta 1 4 ∷ close_sizes ++ payload_stores new ++ store_meta 26 flags ∷ confirmed_by_header new mark

abbrev pub recover_stores : Region → Option ℕ → List ℕ → Mark → List What
recover_stores r size new mark = next_sequence r ∷ close_sizes ++ growth r size ++ payload_stores new ++ confirmed_by_header new mark

abbrev pub restore_stores : Region → Mark → List What
restore_stores r mark =
    let rec = record_of r in
    next_sequence r ∷ store_data 0 rec.last_size ∷ store_meta 7 rec.last_size ∷ Store Meta 0 rec.last_checksum mark ∷ []

abbrev pub discard_stores : Region → Mark → List What
discard_stores r mark = next_sequence r ∷ store_data 0 0 ∷ store_meta 7 0 ∷ Store Meta 0 0 mark ∷ store_meta 8 0 ∷ store_meta 9 0 ∷ []
