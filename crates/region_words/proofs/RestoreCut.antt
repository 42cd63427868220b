-- Before its change a Restored leaves the last confirmed image shown, or the map of the history.
use Rattle.std.proofs.Common.{◌≡◌, ◌⊎◌, ℕ, ◌+◌, true, false, List, [], ◌∷◌, refl, sym, ap, ◌∙◌, inl, inr, subst}
use Rattle.std.specs.Prelude.{Option, Some, None}
use Rattle.expiring_map.specs.Map.{Map, pairs_of}
use Rattle.change_log.specs.declared.change.Change.{Change}
use Rattle.change_log.specs.declared.change.Act.TheVariants as act
use Rattle.meta_record.specs.declared.shown.Shown.TheVariants.{Whole, Header, Last}
use Rattle.region_words.specs.Region.{Region, record_of, base, map_shown, shown}
use Rattle.region_words.specs.Rows.{Row, Append, Pack, Clear, Enable, Disable, Restore, Discard, Recover, SizeRepair, MayBegin, events_of, store_meta, store_data}
use Rattle.region_words.specs.declared.event.Side.TheVariants.{Meta}
use Rattle.region_words.specs.declared.event.Mark.TheVariants.{Commit}
use Rattle.region_words.specs.declared.event.What.{What}
use Rattle.region_words.specs.declared.event.What.TheVariants.{Store}
use Rattle.region_words.proofs.View.{View, view, agree, map_at, seen, map_seen, seen_is, Broken, look, look_whole, look_whole_bare, look_header, look_header_bare, look_last, look_last_bare, look_none}
use Rattle.region_words.proofs.Kept.{Fit}
use Rattle.region_words.proofs.Changes.{after}
use Rattle.region_words.proofs.Safe.{Inside}

-- the events that are left of a Restored, whose mark is this change
abbrev pub Coming : List What → View → Change → Type 0
Coming rest v ch =
    ((x : ℕ) × (rest ≡ store_meta 2 x ∷ store_data 0 v.last ∷ store_meta 7 v.last ∷ Store Meta 0 v.last_sum (Commit ch) ∷ []))
    ⊎ ((rest ≡ store_data 0 v.last ∷ store_meta 7 v.last ∷ Store Meta 0 v.last_sum (Commit ch) ∷ [])
    ⊎ ((rest ≡ store_meta 7 v.last ∷ Store Meta 0 v.last_sum (Commit ch) ∷ [])
    ⊎ (rest ≡ Store Meta 0 v.last_sum (Commit ch) ∷ [])))

-- the last confirmed image agrees and has the map that the mark names, and no other size finds another image
pub record RestoreAt (rest : List What) (v : View) : Type 0 where
  pub image_map : Map
  pub maps : map_at v v.last ≡ Some image_map
  pub agrees : agree v v.last v.last_sum ≡ true
  pub size_or : (agree v v.size v.sum ≡ false) ⊎ (v.size ≡ v.last)
  pub head_or : (agree v v.head v.sum ≡ false) ⊎ (v.head ≡ v.last)
  pub change : Change
  pub names : change.act ≡ act.Restored (pairs_of image_map)
  pub coming : Coming rest v change

abbrev pub Restoring : Row → List What → View → Type 0
Restoring Restore [] v = Unit {0}
Restoring Restore (what ∷ rest) v = RestoreAt (what ∷ rest) v
Restoring (Append a) rest v = Unit {0}
Restoring (Pack now need) rest v = Unit {0}
Restoring Clear rest v = Unit {0}
Restoring (Enable now seconds) rest v = Unit {0}
Restoring (Disable now) rest v = Unit {0}
Restoring Discard rest v = Unit {0}
Restoring Recover rest v = Unit {0}
Restoring SizeRepair rest v = Unit {0}

start_of : (r : Region) (m : Map) (who n : ℕ) → shown r ≡ Last n → RestoreAt (events_of r m who Restore) (view r)
unfolding events_of
start_of r m who n e =
    elim (look (view r)) [
      | look_whole k a em t ↦ absurd (let f = seen_is r in cc)
      | look_whole_bare a em t ↦ absurd (let f = seen_is r in cc)
      | look_header k nay a em t ↦ absurd (let f = seen_is r in cc)
      | look_header_bare nay a em t ↦ absurd (let f = seen_is r in cc)
      | look_last k nay nor a em t ↦
          record {
            image_map = k;
            maps = em;
            agrees = a;
            size_or = inl nay;
            head_or = inl nor;
            change = record { maker = who; act = act.Restored (pairs_of (base r)) };
            names = ap (λ b. act.Restored (pairs_of b)) (base_from k t em);
            coming = inl ((record_of r).sequence + 1, refl);
          }
      | look_last_bare nay nor a em t ↦ absurd (let f = seen_is r in cc)
      | look_none d nay nor a t ↦ absurd (let f = seen_is r in cc)
    ]
  where
    base_from : (k : Map) → seen (view r) ≡ Last (view r).last → map_at (view r) (view r).last ≡ Some k → base r ≡ k
    base_from k t em = rw (seen_is r ∙ t) (rw em refl)

pub restoring_begins : (r : Region) (m : Map) (who : ℕ) (room : Option ℕ) (row : Row) → Fit (view r) → MayBegin r m room row → Restoring row (events_of r m who row) (view r)
unfolding events_of
restoring_begins r m who room Restore fit h = start_of r m who h.0.0 h.0.1
restoring_begins r m who room (Append a) fit h = tt
restoring_begins r m who room (Pack now need) fit h = tt
restoring_begins r m who room Clear fit h = tt
restoring_begins r m who room (Enable now seconds) fit h = tt
restoring_begins r m who room (Disable now) fit h = tt
restoring_begins r m who room Discard fit h = tt
restoring_begins r m who room Recover fit h = tt
restoring_begins r m who room SizeRepair fit h = tt

one_on : (what : What) (rest : List What) (v : View) → RestoreAt (what ∷ rest) v → Restoring Restore rest (after v what)
one_on what rest v k = go k.coming
  where
    go : Coming (what ∷ rest) v k.change → Restoring Restore rest (after v what)
    go (inl (x, e)) =
        let w : what ≡ store_meta 2 x = cc in
        let l : store_data 0 v.last ∷ store_meta 7 v.last ∷ Store Meta 0 v.last_sum (Commit k.change) ∷ [] ≡ rest = cc in
        subst (λ y. Restoring Restore y (after v what)) l (subst (λ y. RestoreAt (store_data 0 v.last ∷ store_meta 7 v.last ∷ Store Meta 0 v.last_sum (Commit k.change) ∷ []) (after v y)) (sym w)
        (record { image_map = k.image_map; maps = k.maps; agrees = k.agrees; size_or = k.size_or; head_or = k.head_or; change = k.change; names = k.names; coming = inr (inl refl) }))
    go (inr (inl e)) =
        let w : what ≡ store_data 0 v.last = cc in
        let l : store_meta 7 v.last ∷ Store Meta 0 v.last_sum (Commit k.change) ∷ [] ≡ rest = cc in
        subst (λ y. Restoring Restore y (after v what)) l (subst (λ y. RestoreAt (store_meta 7 v.last ∷ Store Meta 0 v.last_sum (Commit k.change) ∷ []) (after v y)) (sym w)
        (record { image_map = k.image_map; maps = k.maps; agrees = k.agrees; size_or = k.size_or; head_or = inr refl; change = k.change; names = k.names; coming = inr (inr (inl refl)) }))
    go (inr (inr (inl e))) =
        let w : what ≡ store_meta 7 v.last = cc in
        let l : Store Meta 0 v.last_sum (Commit k.change) ∷ [] ≡ rest = cc in
        subst (λ y. Restoring Restore y (after v what)) l (subst (λ y. RestoreAt (Store Meta 0 v.last_sum (Commit k.change) ∷ []) (after v y)) (sym w)
        (record { image_map = k.image_map; maps = k.maps; agrees = k.agrees; size_or = inr refl; head_or = k.head_or; change = k.change; names = k.names; coming = inr (inr (inr refl)) }))
    go (inr (inr (inr e))) =
        let l : [] ≡ rest = cc in
        subst (λ y. Restoring Restore y (after v what)) l tt

pub restoring_goes : (row : Row) (what : What) (rest : List What) (v : View) → Fit v → Inside v what → Restoring row (what ∷ rest) v → Restoring row rest (after v what)
restoring_goes Restore what rest v fit inside k = one_on what rest v k
restoring_goes (Append a) what rest v fit inside k = tt
restoring_goes (Pack now need) what rest v fit inside k = tt
restoring_goes Clear what rest v fit inside k = tt
restoring_goes (Enable now seconds) what rest v fit inside k = tt
restoring_goes (Disable now) what rest v fit inside k = tt
restoring_goes Discard what rest v fit inside k = tt
restoring_goes Recover what rest v fit inside k = tt
restoring_goes SizeRepair what rest v fit inside k = tt

-- what is seen then is the last confirmed image, where nothing else is shown
pub still_last : (rest : List What) (v : View) (k : RestoreAt rest v) → Broken v → (seen v ≡ Last v.last) × (map_seen v ≡ Some k.image_map)
still_last rest v k b =
    elim (look v) [
      | look_whole n a em t ↦ absurd (clash {n = 0} b (inl t))
      | look_whole_bare a em t ↦ absurd (of_size k.size_or a em)
      | look_header n nay a em t ↦ absurd (clash {z = 0} b (inr t))
      | look_header_bare nay a em t ↦ absurd (of_size k.head_or a em)
      | look_last n nay nor a em t ↦ (t, rw t k.maps)
      | look_last_bare nay nor a em t ↦ absurd (let f = k.maps in cc)
      | look_none d nay nor a t ↦ absurd (let f = k.agrees in cc)
    ]
  where
    of_size : {z : ℕ} → ((agree v z v.sum ≡ false) ⊎ (z ≡ v.last)) → agree v z v.sum ≡ true → map_at v z ≡ None → ⊥
    of_size (inl f) a em = cc
    of_size {z} (inr e) a em = let g : map_at v z ≡ map_at v v.last = ap (map_at v) e in let f = k.maps in cc

    clash : {z n : ℕ} → Broken v → ((seen v ≡ Whole z) ⊎ (seen v ≡ Header n)) → ⊥
    clash (inl (x, s)) (inl t) = cc
    clash (inl (x, s)) (inr t) = cc
    clash (inr (x, s)) (inl t) = cc
    clash (inr (x, s)) (inr t) = cc

pub still_last_region : (rest : List What) (r : Region) (k : RestoreAt rest (view r)) → Broken (view r) → (shown r ≡ Last (record_of r).last_size) × (map_shown r ≡ Some k.image_map)
unfolding shown seen
still_last_region rest r k b = still_last rest (view r) k b
