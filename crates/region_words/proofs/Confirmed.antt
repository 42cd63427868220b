-- What the last confirmed words stand for, and the row that begins where it is shown.
use Rattle.std.proofs.Common.{◌≡◌, ◌≢◌, ◌⊎◌, ℕ, zero, suc, Bool, true, false, cond, List, [], ◌∷◌, refl, sym, ap, ◌∙◌, inl, inr, arith, subst}
use Rattle.std.specs.Prelude.{Option, Some, None, Contains, ◌==◌}
use Rattle.std.specs.List.{find}
use Rattle.std.proofs.lemmas.Bool.Decides.{nat_tests}
use Rattle.crc_words.specs.Crc.{crc}
use Rattle.expiring_map.specs.Map.{Map}
use Rattle.meta_record.specs.Words.{word_at, with_word}
use Rattle.meta_record.specs.Records.{agrees}
use Rattle.meta_record.specs.declared.shown.Shown.TheVariants.{Last}
use Rattle.region_words.specs.Region.{Region, IsRegion, IsAccepted, header, record_of, payload_of, shown}
use Rattle.region_words.specs.Past.{region_after}
use Rattle.region_words.specs.Apart.{Apart, strings}
use Rattle.region_words.specs.Rows.{Row, Append, Pack, Clear, Enable, Disable, Restore, Discard, Recover, SizeRepair, MayBegin}
use Rattle.region_words.specs.Lawful.{Lawful, Phase, Reaches, Advances, map_after}
use Rattle.region_words.specs.Outcome.{confirmed, HasConfirmed}
use Rattle.region_words.specs.declared.event.Side.TheVariants.{Data, Meta}
use Rattle.region_words.specs.declared.event.Mark.{Mark}
use Rattle.region_words.specs.declared.event.What.{What}
use Rattle.region_words.specs.declared.event.What.TheVariants.{Store, Grow, Lock, Unlock, Died}
use Rattle.region_words.specs.declared.event.Event.{Event}
use Rattle.region_words.proofs.Held.{Apart-front}
use Rattle.region_words.proofs.MainLaw.{confirmed_store}
use Rattle.region_words.proofs.View.{view, agree, seen_is, crc_of, fits_of, look, look_whole, look_whole_bare, look_header, look_header_bare, look_last, look_last_bare, look_none}
use Rattle.region_words.proofs.Strings.{contains_first, contains_more, contains_contents, strings_hold, strings_wide}
use Rattle.region_words.proofs.RowsStand.{agrees_fits, agrees_crc}
use Rattle.meta_record.proofs.WordLemmas.{same_word, other_word}

same_number : (a b : ℕ) → (a == b) ≡ true → a ≡ b
same_number a b e = grind (arith, nat_tests)

not_same : (a b : ℕ) → (a == b) ≡ false → b ≢ a
not_same a b e f = grind (arith, nat_tests)

-- the last confirmed image is shown by the last confirmed words
shown_last : (r : Region) (n : ℕ) → shown r ≡ Last n → (n ≡ (record_of r).last_size) × (agree (view r) (view r).last (view r).last_sum ≡ true)
shown_last r n e =
    let f = seen_is r in
    elim (look (view r)) [
      | look_whole k a em t ↦ absurd cc
      | look_whole_bare a em t ↦ absurd cc
      | look_header k nay a em t ↦ absurd cc
      | look_header_bare nay a em t ↦ absurd cc
      | look_last k nay nor a em t ↦ (same_last n (view r).last (sym e ∙ f ∙ t), a)
      | look_last_bare nay nor a em t ↦ absurd cc
      | look_none d nay nor a t ↦ absurd cc
    ]
  where
    same_last : (x y : ℕ) → Last x ≡ Last y → x ≡ y
    same_last x y e = cc

-- what is found has the checksum, and stands in the list
found_has : (value : ℕ) (seen : List (List ℕ)) (image : List ℕ) → find (λ s. crc s == value) seen ≡ Some image → (crc image ≡ value) × Contains seen image
found_has value [] image e = absurd cc
found_has value (s ∷ seen) image e = go (found_has value seen image) (crc s == value) refl e
  where
    go : (find (λ s. crc s == value) seen ≡ Some image → (crc image ≡ value) × Contains seen image) → (b : Bool) → (crc s == value) ≡ b →
        cond b (Some s) (find (λ s. crc s == value) seen) ≡ Some image → (crc image ≡ value) × Contains (s ∷ seen) image
    go later true f g = let is : s ≡ image = cc in (sym (ap crc is) ∙ same_number _ _ f, subst (Contains (s ∷ seen)) is (contains_first s seen))
    go later false f g = let more = later g in (more.0, contains_more s seen image more.1)

-- it is a payload of the run with the last confirmed checksum
record Confirms (start : Region) (past : List Event) (image : List ℕ) : Type 0 where
  sum : crc image ≡ (record_of (region_after start past)).last_checksum
  among : Contains (strings start past) image

confirmed_at_start : (start : Region) (image : List ℕ) (b : Bool) → agrees start.data_bytes (record_of start).last_size (record_of start).last_checksum ≡ b →
    cond b (Some (payload_of start (record_of start).last_size)) None ≡ Some image → Confirms start [] image
confirmed_at_start start image true a f =
    let rec = record_of start in
    let is : payload_of start rec.last_size ≡ image = cc in
    subst (Confirms start []) is
    (record {
      sum = agrees_crc start rec.last_size rec.last_checksum a;
      among = contains_contents start (header start ∷ rec.size ∷ rec.last_size ∷ []) rec.last_size (2, omega arith, refl) (agrees_fits start.data_bytes rec.last_size rec.last_checksum a);
    })
confirmed_at_start start image false a f = absurd cc

module _ (start : Region) (past : List Event) (image : List ℕ) where
  keep : (e : Event) → Confirms start past image → (record_of (region_after start (e ∷ past))).last_checksum ≡ (record_of (region_after start past)).last_checksum → Confirms start (e ∷ past) image
  keep e h same = record { sum = h.sum ∙ sym same; among = strings_wide start e past image h.among }

  stores : (who word value : ℕ) (mark : Mark) → let e : Event = record { who = who; what = Store Meta word value mark } in Lawful start (e ∷ past) →
      (confirmed start past ≡ Some image → Confirms start past image) → (b : Bool) → (word == 9) ≡ b →
      cond b (find (λ s. crc s == value) (strings start (e ∷ past))) (confirmed start past) ≡ Some image → Confirms start (e ∷ past) image
  stores who word value mark l before true f g =
      let e : Event = record { who = who; what = Store Meta word value mark } in
      let r = region_after start past in
      let possible = l.1.possible in
      let h = found_has value (strings start (e ∷ past)) image g in
      let now : word_at (with_word r.meta_bytes word value) word ≡ value = same_word r.meta_bytes word value possible.1 possible.2 in
      let nine : word ≡ 9 = same_number word 9 f in
      record { sum = h.0 ∙ sym now ∙ ap (word_at (with_word r.meta_bytes word value)) nine; among = h.1 }
  stores who word value mark l before false f g =
      let e : Event = record { who = who; what = Store Meta word value mark } in
      let r = region_after start past in
      keep e (before g) (other_word r.meta_bytes word value l.1.possible.1 9 (not_same word 9 f))

  one_more : (who : ℕ) (what : What) → let e : Event = record { who = who; what = what } in Lawful start (e ∷ past) →
      (confirmed start past ≡ Some image → Confirms start past image) → confirmed start (e ∷ past) ≡ Some image → Confirms start (e ∷ past) image
  one_more who (Store Meta word value mark) l before c = stores who word value mark l before (word == 9) refl c
  one_more who (Store Data word value mark) l before c = keep (record { who = who; what = Store Data word value mark }) (before c) refl
  one_more who (Grow size) l before c = keep (record { who = who; what = Grow size }) (before c) refl
  one_more who (Lock kind) l before c = keep (record { who = who; what = Lock kind }) (before c) refl
  one_more who Unlock l before c = keep (record { who = who; what = Unlock }) (before c) refl
  one_more who (Died None) l before c = keep (record { who = who; what = Died None }) (before c) refl
  one_more who (Died (Some t)) l before c = keep (record { who = who; what = Died (Some t) }) (before c) refl

confirmed_has : (start : Region) (past : List Event) (image : List ℕ) → Lawful start past → confirmed start past ≡ Some image → Confirms start past image
confirmed_has start [] image l e = confirmed_at_start start image (agrees start.data_bytes (record_of start).last_size (record_of start).last_checksum) refl e
confirmed_has start (e ∷ past) image l c = one_more start past image e.who e.what l (confirmed_has start past image l.0) c

-- Where the region shows its last confirmed image, this is the one that the last confirmed words stand for.
pub last_is_confirmed : (start : Region) (past : List Event) (n : ℕ) (image : List ℕ) → Lawful start past → Apart start past →
    shown (region_after start past) ≡ Last n → confirmed start past ≡ Some image → payload_of (region_after start past) n ≡ image
last_is_confirmed start past n image l apart s c =
    let r = region_after start past in
    let h = confirmed_has start past image l c in
    let last = shown_last r n s in
    apart (payload_of r n) image (subst (λ z. Contains (strings start past) (payload_of r z)) (sym last.0) ((strings_hold start past).of_last (fits_of (view r) (view r).last (view r).last_sum last.1)))
    h.among (ap (λ z. crc (payload_of r z)) last.0 ∙ crc_of (view r) (view r).last (view r).last_sum last.1 ∙ sym h.sum)

-- The next row is then Restored, and no handler is asked.
pub last_restores : (r : Region) (m : Map) (room : Option ℕ) (row : Row) (n : ℕ) → shown r ≡ Last n → MayBegin r m room row → row ≡ Restore
last_restores r m room (Append a) n s b = let whole = b.1 in absurd cc
last_restores r m room (Pack now need) n s b = let whole = b.0.1 in absurd cc
last_restores r m room Clear n s b = let whole = b.0.1 in absurd cc
last_restores r m room (Enable now seconds) n s b = let whole = b.0.1 in absurd cc
last_restores r m room (Disable now) n s b = let whole = b.0.1 in absurd cc
last_restores r m room Restore n s b = refl
last_restores r m room Discard n s b = let damaged = b.0.1 in absurd cc
last_restores r m room Recover n s b = let damaged = b.0.1 in absurd cc
last_restores r m room SizeRepair n s b = let other = b.1 in absurd cc

found_some : (value : ℕ) (seen : List (List ℕ)) (s : List ℕ) → Contains seen s → crc s ≡ value → (image : List ℕ) × (find (λ s. crc s == value) seen ≡ Some image)
found_some value [] s (k, lt, e) c = absurd (omega (arith, lt))
found_some value (t ∷ seen) s (zero, lt, e) c = (t, rw (same_test (crc t) value (ap crc e ∙ c)) refl)
  where
    same_test : (a b : ℕ) → a ≡ b → (a == b) ≡ true
    same_test a b e = grind (arith, nat_tests)
found_some value (t ∷ seen) s (suc k, lt, e) c = go (found_some value seen s (k, omega (arith, lt), e) c) (crc t == value)
  where
    go : (image : List ℕ) × (find (λ s. crc s == value) seen ≡ Some image) → (b : Bool) → (image : List ℕ) × (cond b (Some t) (find (λ s. crc s == value) seen) ≡ Some image)
    go more true = (t, refl)
    go more false = more

-- Then there is an image that the last confirmed words stand for.
pub confirmed_known : (start : Region) (past : List Event) → IsRegion start → IsAccepted start → Lawful start past → Apart start past → HasConfirmed start past →
    (image : List ℕ) × (confirmed start past ≡ Some image)
confirmed_known start [] region ok l apart h = (payload_of start (record_of start).last_size, rw h refl)
confirmed_known start (e ∷ past) region ok l apart h =
    by_what e.who e.what l (l.2 (Apart-front start e past apart)) h (λ k. confirmed_known start past region ok l.0 (Apart-front start e past apart) k)
  where
    earlier : (false ≡ true) ⊎ HasConfirmed start past → HasConfirmed start past
    earlier (inl e) = absurd cc
    earlier (inr h) = h

    by_what : (who : ℕ) (what : What) → let e : Event = record { who = who; what = what } in Lawful start (e ∷ past) → (phase : Phase) × Reaches start (e ∷ past) phase → HasConfirmed start (e ∷ past) →
        (HasConfirmed start past → (image : List ℕ) × (confirmed start past ≡ Some image)) → (image : List ℕ) × (confirmed start (e ∷ past) ≡ Some image)
    by_what who (Store Meta word value mark) l (phase, (old, leads, step)) h before = go (word == 9) refl h
      where
        go : (b : Bool) → (word == 9) ≡ b → (b ≡ true) ⊎ HasConfirmed start past →
            (image : List ℕ) × (cond b (find (λ s. crc s == value) (strings start (record { who = who; what = Store Meta word value mark } ∷ past))) (confirmed start past) ≡ Some image)
        go true f k =
            let front = Apart-front start e past apart in
            let nine : word ≡ 9 = same_number word 9 f in
            let s = confirmed_store start region ok who value mark past old phase l.0 front leads
            (subst (λ w. Advances (region_after start past) (map_after start past) who old (Store Meta w value mark) phase) nine step) in
            found_some value (strings start (record { who = who; what = Store Meta word value mark } ∷ past)) s.0 (strings_wide start (record { who = who; what = Store Meta word value mark }) past s.0 s.1) s.2
        go false f k = before (earlier k)
    by_what who (Store Data word value mark) l r h before = before (earlier h)
    by_what who (Grow size) l r h before = before (earlier h)
    by_what who (Lock kind) l r h before = before (earlier h)
    by_what who Unlock l r h before = before (earlier h)
    by_what who (Died torn) l r h before = before (earlier h)

-- and it is the one that is shown
pub last_shows_confirmed : (start : Region) (past : List Event) (n : ℕ) → IsRegion start → IsAccepted start → Lawful start past → Apart start past → HasConfirmed start past →
    shown (region_after start past) ≡ Last n → confirmed start past ≡ Some (payload_of (region_after start past) n)
last_shows_confirmed start past n region ok l apart h s =
    let k = confirmed_known start past region ok l apart h in
    k.1 ∙ ap Some (sym (last_is_confirmed start past n k.0 l apart s k.1))
