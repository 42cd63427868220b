-- A row that may begin is owed, where its events may be stored.
use Rattle.std.proofs.Common.{◌≡◌, ℕ, ◌+◌, ◌/◌, ◌≤◌, Bool, true, false, cond, List, [], ◌∷◌, ◌++◌, length, refl, sym, ◌∙◌, arith, length-append}
use Rattle.std.specs.Prelude.{Option, nat_lt, unwrap_or, ◌==◌}
use Rattle.crc_words.specs.Crc.{crc_from}
use Rattle.expiring_map.specs.Map.{Map}
use Rattle.region_words.specs.Region.{Region, IsAccepted}
use Rattle.region_words.specs.Past.{region_after}
use Rattle.region_words.specs.Rows.{Row, Append, Pack, Clear, Enable, Disable, Restore, Discard, Recover, SizeRepair, MayBegin, events_of, append_stores, write_back_stores, switch_stores, recover_stores, stores_from, store_data, store_meta, payload_stores, close_sizes, confirmed_by_checksum, confirmed_by_header}
use Rattle.region_words.specs.Standings.{words_of, tail_bytes}
use Rattle.region_words.specs.Apart.{Apart}
use Rattle.region_words.specs.Lawful.{Between, Reaches, map_after}
use Rattle.region_words.specs.Told.{History}
use Rattle.region_words.specs.Share.{ShareState, Agrees}
use Rattle.region_words.specs.Owing.{AreStorable, AreWithin, Comes, Owes}
use Rattle.region_words.specs.declared.standing.Standing.{Standing}
use Rattle.region_words.specs.declared.event.Side.TheVariants.{Meta}
use Rattle.region_words.specs.declared.event.Mark.{Mark}
use Rattle.region_words.specs.declared.event.What.{What}
use Rattle.region_words.specs.declared.event.What.TheVariants.{Store, Grow}
use Rattle.region_words.specs.declared.event.Event.{Event}

not_nil : (xs : List What) (y : What) (ys : List What) → xs ++ y ∷ ys ≡ [] → ⊥
not_nil [] y ys e = absurd cc
not_nil (x ∷ xs) y ys e = absurd cc

-- each row has an event
some_event : (r : Region) (m : Map) (who : ℕ) (row : Row) → events_of r m who row ≡ [] → ⊥
unfolding events_of
some_event r m who (Append a) e = not_nil _ _ _ e
some_event r m who (Pack now need) e = not_nil _ _ _ e
some_event r m who Clear e = not_nil _ _ _ e
some_event r m who (Enable now seconds) e = not_nil _ _ _ e
some_event r m who (Disable now) e = not_nil _ _ _ e
some_event r m who Restore e = absurd cc
some_event r m who Discard e = absurd cc
some_event r m who Recover e = absurd cc
some_event r m who SizeRepair e = absurd cc

-- no row is under way, this one may begin, and these are its events
pub record MayBeginNow (row : Row) (events : List What) (start : Region) (past : List Event) (who : ℕ) : Type 0 where
  pub room : Option ℕ
  pub reached : Reaches start past (Between room)
  pub may : MayBegin (region_after start past) (map_after start past) room row
  pub are : events ≡ events_of (region_after start past) (map_after start past) who row
  pub accepted : IsAccepted (region_after start past)

begun : (row : Row) (events : List What) (start : Region) (past : List Event) (who : ℕ) → MayBeginNow row events start past who → Comes start past who row events
begun row [] start past who b = absurd (some_event (region_after start past) (map_after start past) who row (sym b.are))
begun row (what ∷ rest) start past who b = record { phase = Between b.room; reached = b.reached; next = (b.may, b.are, b.accepted) }

-- a row that may begin is owed
pub owes_row : (row : Row) (events : List What) (s : ShareState) (h : History) → Agrees s h → AreStorable (region_after h.start h.past) s.who events →
    (Apart h.start h.past → MayBeginNow row events h.start h.past s.who) → Owes row events s h
owes_row row events s h agrees storable begins =
    record { agrees = agrees; storable = storable; coming = λ apart. begun row events h.start h.past s.who (begins apart) }

-- words grow no file
within_words : (room w : ℕ) (vs : List ℕ) (rest : List What) → AreWithin room rest → AreWithin room (stores_from w vs ++ rest)
within_words room w [] rest h = h
within_words room w (v ∷ vs) rest h = (tt, within_words room (w + 1) vs rest h)

-- an append grows none
pub append_within : (room : ℕ) (s : Standing) (item : List ℕ) (mark : Mark) → AreWithin room (append_stores s item mark)
append_within room s item mark =
    let size = s.size + length item in
    within_words room (1 + s.size / 4) (words_of (tail_bytes s ++ item)) (store_data 0 size ∷ Store Meta 0 (crc_from s.checksum item) mark ∷ store_meta 7 size ∷ []) (tt, (tt, (tt, tt)))

-- a rewrite grows it to its size at most
pub write_back_within : (room : ℕ) (s : Standing) (size : Option ℕ) (new : List ℕ) (mark : Mark) → unwrap_or size 0 ≤ room → AreWithin room (write_back_stores s size new mark)
write_back_within room s size new mark h = go (nat_lt s.file_size (unwrap_or size 0)) (s.version == 0)
  where
    last : AreWithin room (payload_stores new ++ confirmed_by_checksum new mark)
    last = within_words room 1 (words_of new) (confirmed_by_checksum new mark) (tt, (tt, (tt, (tt, (tt, tt)))))

    go : (b c : Bool) →
        AreWithin room (cond b (Grow (unwrap_or size 0) ∷ []) [] ++ store_meta 2 (s.sequence + 1) ∷ cond c (store_meta 1 3 ∷ []) [] ++ payload_stores new ++ confirmed_by_checksum new mark)
    go true true = (h, (tt, (tt, last)))
    go true false = (h, (tt, last))
    go false true = (tt, (tt, last))
    go false false = (tt, last)

pub switch_within : (room : ℕ) (s : Standing) (size : Option ℕ) (flags : ℕ) (new : List ℕ) (mark : Mark) → unwrap_or size 0 ≤ room → AreWithin room (switch_stores s size flags new mark)
switch_within room s size flags new mark h = go (nat_lt s.file_size (unwrap_or size 0))
  where
    last : AreWithin room (payload_stores new ++ store_meta 26 flags ∷ confirmed_by_header new mark)
    last = within_words room 1 (words_of new) (store_meta 26 flags ∷ confirmed_by_header new mark) (tt, (tt, (tt, (tt, (tt, (tt, tt))))))

    go : (b : Bool) →
        AreWithin room (cond b (Grow (unwrap_or size 0) ∷ []) [] ++ store_meta 2 (s.sequence + 1) ∷ store_meta 1 4 ∷ close_sizes ++ payload_stores new ++ store_meta 26 flags ∷ confirmed_by_header new mark)
    go true = (h, (tt, (tt, (tt, (tt, (tt, last))))))
    go false = (tt, (tt, (tt, (tt, (tt, last)))))

pub recover_within : (room : ℕ) (s : Standing) (size : Option ℕ) (new : List ℕ) (mark : Mark) → unwrap_or size 0 ≤ room → AreWithin room (recover_stores s size new mark)
recover_within room s size new mark h = go (nat_lt s.file_size (unwrap_or size 0))
  where
    last : AreWithin room (payload_stores new ++ confirmed_by_header new mark)
    last = within_words room 1 (words_of new) (confirmed_by_header new mark) (tt, (tt, (tt, (tt, (tt, tt)))))

    go : (b : Bool) → AreWithin room (store_meta 2 (s.sequence + 1) ∷ close_sizes ++ cond b (Grow (unwrap_or size 0) ∷ []) [] ++ payload_stores new ++ confirmed_by_header new mark)
    go true = (tt, (tt, (tt, (tt, (h, last)))))
    go false = (tt, (tt, (tt, (tt, last))))

-- the places that rows take
length-stores_from : (w : ℕ) (vs : List ℕ) → length (stores_from w vs) ≡ length vs
length-stores_from w [] = refl
length-stores_from w (v ∷ vs) = omega (arith, length-stores_from (w + 1) vs)

pub length-append_stores : (s : Standing) (item : List ℕ) (mark : Mark) → length (append_stores s item mark) ≡ length (words_of (tail_bytes s ++ item)) + 3
length-append_stores s item mark =
    let vs = words_of (tail_bytes s ++ item) in
    let size = s.size + length item in
    length-append (stores_from (1 + s.size / 4) (words_of (tail_bytes s ++ item))) (store_data 0 size ∷ Store Meta 0 (crc_from s.checksum item) mark ∷ store_meta 7 size ∷ [])
    ∙ omega (arith, length-stores_from (1 + s.size / 4) (words_of (tail_bytes s ++ item)))

-- a growth, the sequence and a version where there was none, the payload, and five words
pub length-write_back_stores : (s : Standing) (size : Option ℕ) (new : List ℕ) (mark : Mark) → length (write_back_stores s size new mark) ≤ length (words_of new) + 8
length-write_back_stores s size new mark = go (nat_lt s.file_size (unwrap_or size 0)) (s.version == 0)
  where
    last : length (payload_stores new ++ confirmed_by_checksum new mark) ≡ length (words_of new) + 5
    last = length-append (stores_from 1 (words_of new)) (confirmed_by_checksum new mark) ∙ omega (arith, length-stores_from 1 (words_of new))

    go : (b c : Bool) →
        length (cond b (Grow (unwrap_or size 0) ∷ []) [] ++ store_meta 2 (s.sequence + 1) ∷ cond c (store_meta 1 3 ∷ []) [] ++ payload_stores new ++ confirmed_by_checksum new mark) ≤ length (words_of new) + 8
    go true true = omega (arith, last)
    go true false = omega (arith, last)
    go false true = omega (arith, last)
    go false false = omega (arith, last)
