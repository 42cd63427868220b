-- The last event of a row is a store.
use Rattle.std.proofs.Common.{◌≡◌, ℕ, ◌+◌, ◌/◌, true, false, List, [], ◌∷◌, ◌++◌, length, refl, sym, subst}
use Rattle.std.specs.Prelude.{Option, IsTrue, ◌==◌, if◌then◌else◌}
use Rattle.crc_words.specs.Crc.{crc, crc_from}
use Rattle.expiring_map.specs.Map.{Map}
use Rattle.region_words.specs.Answered.{is_store}
use Rattle.region_words.specs.Lawful.{Advances, Between, Lawful, MayComeNext, Phase, Reaches, Within, map_after, phase_with}
use Rattle.region_words.specs.Past.{region_after}
use Rattle.region_words.specs.Region.{IsAccepted, IsRegion, Region, flag}
use Rattle.region_words.specs.Rows.{Append, Clear, Disable, Discard, Enable, Pack, Recover, Restore, Row, SizeRepair, append_stores, close_sizes, confirmed_by_header, events_of, growth, item_of, mark_of, next_sequence, payload_after, payload_stores, recover_stores, size_after, standing, store_data, store_meta, stores_from, switch_stores, write_back_stores}
use Rattle.region_words.specs.Standings.{tail_bytes, words_of}
use Rattle.region_words.specs.declared.event.Event.{Event}
use Rattle.region_words.specs.declared.event.Mark.{Mark}
use Rattle.region_words.specs.declared.event.Side.TheVariants.{Data, Meta}
use Rattle.region_words.specs.declared.event.What.{What}
use Rattle.region_words.specs.declared.event.What.TheVariants.{Grow, Store}
use Rattle.region_words.specs.declared.standing.Standing.{Standing}
use Rattle.region_words.proofs.PhaseLaw.{phase_law}

-- the last of these events is a store
abbrev EndsInStore : List What → Type 0
EndsInStore [] = Unit {0}
EndsInStore (what ∷ []) = IsTrue (is_store what)
EndsInStore (what ∷ next ∷ rest) = EndsInStore (next ∷ rest)

behind : (xs : List What) (y : What) (ys : List What) → EndsInStore (y ∷ ys) → EndsInStore (xs ++ y ∷ ys)
behind [] y ys h = h
behind (x ∷ []) y ys h = h
behind (x ∷ next ∷ xs) y ys h = behind (next ∷ xs) y ys h

-- so it is of each row
append_ends : (s : Standing) (item : List ℕ) (mark : Mark) → EndsInStore (append_stores s item mark)
append_ends s item mark =
    behind (stores_from (1 + s.size / 4) (words_of (tail_bytes s ++ item))) (store_data 0 (s.size + length item))
    (Store Meta 0 (crc_from s.checksum item) mark ∷ store_meta 7 (s.size + length item) ∷ []) refl

write_back_ends : (s : Standing) (size : Option ℕ) (new : List ℕ) (mark : Mark) → EndsInStore (write_back_stores s size new mark)
write_back_ends s size new mark =
    behind (growth s size ++ next_sequence s ∷ (if s.version == 0 then store_meta 1 3 ∷ [] else []) ++ payload_stores new) (store_data 0 (length new))
    (Store Meta 0 (crc new) mark ∷ store_meta 7 (length new) ∷ store_meta 8 (length new) ∷ store_meta 9 (crc new) ∷ []) refl

switch_ends : (s : Standing) (size : Option ℕ) (flags : ℕ) (new : List ℕ) (mark : Mark) → EndsInStore (switch_stores s size flags new mark)
switch_ends s size flags new mark =
    behind (growth s size ++ next_sequence s ∷ store_meta 1 4 ∷ close_sizes ++ payload_stores new) (store_meta 26 flags) (confirmed_by_header new mark) refl

recover_ends : (s : Standing) (size : Option ℕ) (new : List ℕ) (mark : Mark) → EndsInStore (recover_stores s size new mark)
recover_ends s size new mark =
    behind (next_sequence s ∷ close_sizes ++ growth s size ++ payload_stores new) (store_meta 0 (crc new))
    (store_meta 9 (crc new) ∷ Store Data 0 (length new) mark ∷ store_meta 7 (length new) ∷ store_meta 8 (length new) ∷ []) refl

row_ends : (r : Region) (m : Map) (who : ℕ) (row : Row) → EndsInStore (events_of r m who row)
unfolding events_of
row_ends r m who (Append a) = append_ends (standing r) (item_of (flag r) a) (mark_of r who (Append a))
row_ends r m who (Pack now need) = write_back_ends (standing r) (size_after r m (Pack now need)) (payload_after r m (Pack now need)) (mark_of r who (Pack now need))
row_ends r m who Clear = write_back_ends (standing r) (size_after r m Clear) (payload_after r m Clear) (mark_of r who Clear)
row_ends r m who (Enable now seconds) = switch_ends (standing r) (size_after r m (Enable now seconds)) 1 (payload_after r m (Enable now seconds)) (mark_of r who (Enable now seconds))
row_ends r m who (Disable now) = switch_ends (standing r) (size_after r m (Disable now)) 0 (payload_after r m (Disable now)) (mark_of r who (Disable now))
row_ends r m who Restore = refl
row_ends r m who Discard = refl
row_ends r m who Recover = recover_ends (standing r) (size_after r m Recover) (payload_after r m Recover) (mark_of r who Recover)
row_ends r m who SizeRepair = refl

-- and of what is left of it
rest_ends : (what : What) (rest : List What) → EndsInStore (what ∷ rest) → EndsInStore rest
rest_ends what [] h = tt
rest_ends what (next ∷ rest) h = h

module _ (start : Region) (region : IsRegion start) (ok : IsAccepted start) where
  -- so no row ends with a growth
  pub no_last_growth : (who size : ℕ) (past : List Event) (old : Phase) (room : Option ℕ) → Lawful start past → Reaches start past old →
      Advances (region_after start past) (map_after start past) who old (Grow size) (Between room) → ⊥
  no_last_growth who size past old room lawful leads (row, rest, comes, is) = go rest is old leads comes
    where
      never : (events : List What) → Grow size ∷ [] ≡ events → EndsInStore events → ⊥
      never events same ends = let grows : false ≡ true = subst EndsInStore (sym same) ends in absurd cc

      go : (rest : List What) → Between room ≡ phase_with row rest → (old : Phase) → Reaches start past old →
          MayComeNext (region_after start past) (map_after start past) who old row (Grow size ∷ rest) → ⊥
      go (next ∷ rest) is old leads comes = absurd cc
      go [] is (Within under left) leads comes = never left comes.1
          (phase_law (λ row events v. EndsInStore events) (λ r m who room row fit may. row_ends r m who row) (λ row what rest v fit inside. rest_ends what rest) start region ok past under left lawful leads)
      go [] is (Between before) leads comes =
          never (events_of (region_after start past) (map_after start past) who row) comes.1
          (row_ends (region_after start past) (map_after start past) who row)
