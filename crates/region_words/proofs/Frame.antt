-- The main law from the rows: at rest a region shows the map of the history so far, but after a death within a rewrite.
use Rattle.std.proofs.Common.{◌≡◌, ◌⊎◌, ℕ, zero, suc, ◌+◌, ◌*◌, ◌-◌, ◌<◌, ◌≤◌, ◌%◌, ◌/◌, Bool, true, false, List, [], ◌∷◌, ◌++◌, length, refl, sym, ap, ◌∙◌, inl, inr, arith, subst, append-nil, length-append, length-drop}
use Rattle.std.specs.Prelude.{◌==◌, Option, Some, None, IsTrue, not, ◌&&◌, ◌||◌, All, get_or, drop, take, replicate}
use Rattle.std.specs.List.{list_any}
use Rattle.std.proofs.lemmas.List.Sums.{fold-append}
use Rattle.std.proofs.lemmas.List.Folds.{list_any-append}
use Rattle.std.proofs.lemmas.List.Elements.{All-append, All-take, All-drop, All-cons, All-nil}
use Rattle.std.proofs.lemmas.List.{length-replicate, get_or-drop, get_or-replicate}
use Rattle.std.specs.Int.{to_le_bytes, w32}
use Rattle.expiring_map.specs.Map.{Map}
use Rattle.change_log.specs.Acts.{replay, applied}
use Rattle.change_log.specs.declared.change.Change.{Change}
use Rattle.lock_rules.specs.Locks.{Locks, holds_exclusive}
use Rattle.kv_pairs.specs.Growth.{largest}
use Rattle.meta_record.specs.declared.shown.Shown.TheVariants.{Whole, Header}
use Rattle.meta_record.specs.Words.{word_at, with_word}
use Rattle.meta_record.proofs.WordLemmas.{length-with_word}
use Rattle.region_words.specs.Region.{Region, IsRegion, IsAccepted, base, shown, ShowsMap}
use Rattle.region_words.specs.Past.{region_after, changes_of, change_of, region_step, locks_after, is_death}
use Rattle.region_words.specs.Rows.{Row, Append, Pack, Clear, Enable, Disable, Restore, Discard, Recover, SizeRepair, MayBegin, events_of, size_after, close_sizes, store_meta, payload_stores, payload_after, confirmed_by_header, mark_of}
use Rattle.region_words.proofs.OfRegion.{growth, next_sequence}
use Rattle.region_words.specs.Apart.{Apart, strings, last_word}
use Rattle.region_words.specs.Lawful.{Phase, Between, Within, Reaches, Lawful, IsPossible, IsStep, Advances, MayComeNext, MayTear, Dies, IsTearer, phase_with, map_after}
use Rattle.region_words.proofs.Bytes.{IsMixOf, torn_mix}
use Rattle.region_words.specs.Outcome.{IsBroken, WasCut, ShowsHistory, AtRest, IsRewriting, is_repair, commits, is_some_change, stores_sequence}
use Rattle.region_words.specs.Answered.{is_store}
use Rattle.region_words.specs.declared.event.Side.TheVariants.{Data, Meta}
use Rattle.region_words.specs.declared.event.Mark.{Mark}
use Rattle.region_words.specs.declared.event.Mark.TheVariants.{Plain, Commit}
use Rattle.region_words.specs.declared.event.TornWord.{TornWord}
use Rattle.region_words.specs.declared.event.What.{What}
use Rattle.region_words.specs.declared.event.What.TheVariants.{Store, Grow, Lock, Unlock, Died}
use Rattle.region_words.specs.declared.event.Event.{Event}
use Rattle.region_words.proofs.View.{Broken, seen_is, View, view, Shows, shows_is, broken_is, seen}
use Rattle.region_words.proofs.Kept.{IsApart, Holds, Fit, Kept, kept_more, kept_shows, start_kept}
use Rattle.region_words.proofs.Kept as kept
use Rattle.region_words.proofs.Changes.{after, data_set, view_after}
use Rattle.region_words.proofs.Safe.{Named, Safe, Step, Left, Torn, Inside, Means, map_next, word_of}
use Rattle.region_words.proofs.Strings.{strings_hold, strings_wide, strings_mean}
use Rattle.region_words.proofs.Held.{Apart-front}

-- what is to be proved of each row
abbrev pub RowSafe : Type 0
RowSafe =
    (r : Region) (m : Map) (who : ℕ) (room : Option ℕ) (row : Row) (b : Bool) (S : List (List ℕ)) (w : Option ℕ) →
    IsApart S → Holds S (view r) → Fit (view r) → Kept S (view r) m → Shows (view r) m ⊎ (b ≡ true) → MayBegin r m room row →
    Safe row (events_of r m who row) b S w (view r) m

-- the region may be broken: a death cut a rewrite, or it was so from the start
abbrev pub MayBreak : Region → List Event → Type 0
MayBreak start past = WasCut start past ⊎ (IsBroken start × (changes_of past ≡ []))

-- a broken region within a row: only a repair begins in one, and its change is still to come
abbrev pub Excused : Region → List Event → Row → List What → Type 0
Excused start past row rest = MayBreak start past × IsTrue (is_repair row) × IsTrue (list_any commits rest)

-- what holds at each phase
unfoldable pub Inv : Region → List Event → Phase → Type 0
Inv start past (Between room) =
    Kept (strings start past) (view (region_after start past)) (map_after start past)
    × (Shows (view (region_after start past)) (map_after start past) ⊎ MayBreak start past)
Inv start past (Within row rest) =
    (b : Bool) × (b ≡ true → Excused start past row rest)
    × Safe row rest b (strings start past) (last_word past) (view (region_after start past)) (map_after start past)

-- without a change it stays so
no_change : (cs : List Change) → IsTrue (not (is_some_change cs)) → cs ≡ []
no_change [] h = refl
no_change (c ∷ cs) h = absurd cc

may_break : (start : Region) (past : List Event) (e : Event) → IsTrue (not (commits e.what)) → MayBreak start past → MayBreak start (e ∷ past)
may_break start past e n (inl c) = inl (inr (n, c))
may_break start past e n (inr (broken, none)) = inr (broken, rw none (no_change (change_of e.what) n))

next_map : (start : Region) (past : List Event) (e : Event) → map_next (map_after start past) e.what ≡ map_after start (e ∷ past)
next_map start past e = sym (fold-append (λ m c. applied m c.act) (base start) (changes_of past) (change_of e.what))

and_not : (b c : Bool) → (b && not c) ≡ true → (b ≡ true) × IsTrue (not c)
and_not true false e = (refl, refl)
and_not true true e = absurd cc
and_not false c e = absurd cc

-- what is known of every region of a lawful history
pub record Sized (r : Region) : Type 0 where
  pub some : 4 ≤ length r.data_bytes
  pub most : length r.data_bytes ≤ largest
  pub bytes : All (λ b. b < 256) r.data_bytes

is_byte : (x : ℕ) → x % 256 < 256
is_byte x = omega arith

le_bytes : (x : ℕ) → All (λ b. b < 256) (to_le_bytes w32 x)
le_bytes x =
    let P : ℕ → Type 0 = λ b. b < 256 in
    let b1 = x / 256 in
    let b2 = x / 65536 in
    let b3 = x / 16777216 in
    All-cons P (x % 256) ((b1 % 256) ∷ (b2 % 256) ∷ (b3 % 256) ∷ []) (is_byte x)
    (All-cons P (b1 % 256) ((b2 % 256) ∷ (b3 % 256) ∷ []) (is_byte b1)
    (All-cons P (b2 % 256) ((b3 % 256) ∷ []) (is_byte b2) (All-cons P (b3 % 256) [] (is_byte b3) (All-nil P))))

zero_bytes : (n : ℕ) → All (λ b. b < 256) (replicate n 0)
zero_bytes n = λ k d lt. let e = get_or-replicate n k 0 d (omega (arith, length-replicate {A = ℕ} n 0, lt)) in omega (arith, e)

with_bytes : (bytes : List ℕ) (w x : ℕ) → All (λ b. b < 256) bytes → All (λ b. b < 256) (with_word bytes w x)
with_bytes bytes w x h =
    All-append (λ b. b < 256) (take (4 * w) bytes ++ to_le_bytes w32 x) (drop (4 * w + 4) bytes)
    (All-append (λ b. b < 256) (take (4 * w) bytes) (to_le_bytes w32 x) (All-take (λ b. b < 256) (4 * w) bytes h) (le_bytes x))
    (All-drop (λ b. b < 256) (4 * w + 4) bytes h)

sized_next : (r : Region) (locks : Locks) (who : ℕ) (what : What) → IsPossible r locks who what → Sized r → Sized (region_step r what)
sized_next r locks who (Store Data w x mark) p s =
    let e = length-with_word r.data_bytes w x p.1 in
    record { some = omega (arith, e, s.some); most = omega (arith, e, s.most); bytes = with_bytes r.data_bytes w x s.bytes }
sized_next r locks who (Store Meta w x mark) p s = record { some = s.some; most = s.most; bytes = s.bytes }
sized_next r locks who (Grow size) p s =
    let zeros = replicate (size - length r.data_bytes) 0 in
    let f : length (r.data_bytes ++ zeros) ≡ size = omega (arith, length-append r.data_bytes zeros, length-replicate {A = ℕ} (size - length r.data_bytes) 0, p.1) in
    record { some = omega (arith, f, s.some, p.1); most = omega (arith, f, p.2); bytes = All-append (λ b. b < 256) r.data_bytes zeros s.bytes (zero_bytes (size - length r.data_bytes)) }
sized_next r locks who (Lock kind) p s = s
sized_next r locks who Unlock p s = s
sized_next r locks who (Died None) p s = s
sized_next r locks who (Died (Some torn)) p s =
    let e = length-with_word r.data_bytes torn.word torn.value p.1.1 in
    record { some = omega (arith, e, s.some); most = omega (arith, e, s.most); bytes = with_bytes r.data_bytes torn.word torn.value s.bytes }

pub sized : (start : Region) (past : List Event) → IsRegion start → Lawful start past → Sized (region_after start past)
sized start [] region l = record { some = omega (arith, region.data_file.pages, region.data_file.not_empty); most = region.data_file.most; bytes = region.data_file.small }
sized start (e ∷ past) region l = sized_next (region_after start past) (locks_after past) e.who e.what l.1.possible (sized start past region l.0)

pub fit_of : (r : Region) → Sized r → Fit (view r)
fit_of r s = record { file_is = omega (arith, length-drop 4 r.data_bytes, s.some); most = s.most; bytes = All-drop (λ b. b < 256) 4 r.data_bytes s.bytes }

pub accepted : (start : Region) (past : List Event) → IsAccepted start → Lawful start past → IsAccepted (region_after start past)
accepted start [] ok l = ok
accepted start (e ∷ past) ok l = l.1.accepted ok

pub inside_of : (r : Region) (locks : Locks) (who : ℕ) (what : What) → IsPossible r locks who what → Inside (view r) what
inside_of r locks who (Store Data w x mark) p = p.1
inside_of r locks who (Store Meta w x mark) p = tt
inside_of r locks who (Grow size) p = p.1
inside_of r locks who (Lock kind) p = tt
inside_of r locks who Unlock p = tt
inside_of r locks who (Died torn) p = tt

-- a data word read from the body
body_word : (bytes : List ℕ) (w : ℕ) → word_at (drop 4 bytes) w ≡ word_at bytes (suc w)
body_word bytes w =
    go (4 * suc w) (omega arith)
  where
    one : (i j : ℕ) → 4 + i ≡ j → get_or (drop 4 bytes) i 0 ≡ get_or bytes j 0
    one i j e = get_or-drop 4 bytes i 0 ∙ ap (λ k. get_or bytes k 0) e

    go : (j : ℕ) → j ≡ 4 + 4 * w → word_at (drop 4 bytes) w ≡ get_or bytes j 0 + 256 * get_or bytes (j + 1) 0 + 65536 * get_or bytes (j + 2) 0 + 16777216 * get_or bytes (j + 3) 0
    go j e = omega (arith, one (4 * w) j (omega (arith, e)), one (4 * w + 1) (j + 1) (omega (arith, e)), one (4 * w + 2) (j + 2) (omega (arith, e)), one (4 * w + 3) (j + 3) (omega (arith, e)))

-- no row has begun when its sequence is still to come
has_sequence : (xs ys : List What) (what : What) → stores_sequence what ≡ true → list_any stores_sequence (xs ++ what ∷ ys) ≡ true
has_sequence xs ys what e = list_any-append stores_sequence xs (what ∷ ys) ∙ rw e (go (list_any stores_sequence xs))
  where
    go : (b : Bool) → (b || true) ≡ true
    go true = refl
    go false = refl

has_sequence_left : (xs ys : List What) → list_any stores_sequence xs ≡ true → list_any stores_sequence (xs ++ ys) ≡ true
has_sequence_left xs ys e = list_any-append stores_sequence xs ys ∙ rw e refl

has_middle : (xs ys zs more : List What) (what : What) → stores_sequence what ≡ true → IsTrue (not (list_any stores_sequence (xs ++ what ∷ ys ++ zs ++ more))) → ⊥
has_middle xs ys zs more what e n =
    let h = has_sequence_left (xs ++ what ∷ ys ++ zs) more (has_sequence_left (xs ++ what ∷ ys) zs (has_sequence xs ys what e)) in
    cc

begins : (r : Region) (m : Map) (who : ℕ) (row : Row) → IsRewriting (Within row (events_of r m who row)) → ⊥
unfolding events_of
begins r m who (Append a) h = absurd cc
begins r m who (Pack now need) h = has_middle (growth r (size_after r m (Pack now need))) _ _ _ (next_sequence r) refl h.1
begins r m who Clear h = has_middle (growth r (size_after r m Clear)) _ _ _ (next_sequence r) refl h.1
begins r m who (Enable now seconds) h = has_middle (growth r (size_after r m (Enable now seconds))) (store_meta 1 4 ∷ close_sizes) _ _ (next_sequence r) refl h.1
begins r m who (Disable now) h = has_middle (growth r (size_after r m (Disable now))) (store_meta 1 4 ∷ close_sizes) _ _ (next_sequence r) refl h.1
begins r m who Restore h = absurd cc
begins r m who Discard h = absurd cc
begins r m who Recover h = absurd cc
begins r m who SizeRepair h = absurd cc

not_shown : (r : Region) (n : ℕ) → Broken (view r) → ((shown r ≡ Whole n) ⊎ (shown r ≡ Header n)) → ⊥
not_shown r n (inl (k, s)) (inl t) = let e = seen_is r in cc
not_shown r n (inl (k, s)) (inr t) = let e = seen_is r in cc
not_shown r n (inr (k, s)) (inl t) = let e = seen_is r in cc
not_shown r n (inr (k, s)) (inr t) = let e = seen_is r in cc

-- the change of a repair is among its events
repair_commits : (r : Region) (m : Map) (who : ℕ) (row : Row) → IsTrue (is_repair row) → IsTrue (list_any commits (events_of r m who row))
unfolding events_of
repair_commits r m who Restore h = refl
repair_commits r m who Discard h = refl
repair_commits r m who Recover h =
    list_any-append commits (next_sequence r ∷ close_sizes ++ growth r (size_after r m Recover) ++ payload_stores (payload_after r m Recover)) (confirmed_by_header (payload_after r m Recover) (mark_of r who Recover))
    ∙ go (list_any commits (next_sequence r ∷ close_sizes ++ growth r (size_after r m Recover) ++ payload_stores (payload_after r m Recover)))
  where
    go : (b : Bool) → (b || true) ≡ true
    go true = refl
    go false = refl
repair_commits r m who SizeRepair h = absurd cc
repair_commits r m who (Append a) h = absurd cc
repair_commits r m who (Pack now need) h = absurd cc
repair_commits r m who Clear h = absurd cc
repair_commits r m who (Enable now seconds) h = absurd cc
repair_commits r m who (Disable now) h = absurd cc

still_commits : (what : What) (rest : List What) → IsTrue (not (commits what)) → IsTrue (list_any commits (what ∷ rest)) → IsTrue (list_any commits rest)
still_commits what rest n h = go (commits what) n h
  where
    go : (b : Bool) → IsTrue (not b) → (b || list_any commits rest) ≡ true → IsTrue (list_any commits rest)
    go true n h = absurd cc
    go false n h = h

-- a row begins where a rule shows an image, or it is a repair
shown_or_repair : (r : Region) (m : Map) (room : Option ℕ) (row : Row) → MayBegin r m room row → Broken (view r) → IsTrue (is_repair row)
shown_or_repair r m room Restore h b = refl
shown_or_repair r m room Discard h b = refl
shown_or_repair r m room Recover h b = refl
shown_or_repair r m room SizeRepair h b = absurd (not_shown r h.0 b (inr h.1))
shown_or_repair r m room (Append a) h b = absurd (not_shown r h.0 b (inl h.1))
shown_or_repair r m room (Pack now need) h b = absurd (not_shown r h.0.0 b (inl h.0.1))
shown_or_repair r m room Clear h b = absurd (not_shown r h.0.0 b (inl h.0.1))
shown_or_repair r m room (Enable now seconds) h b = absurd (not_shown r h.0.0 b (inl h.0.1))
shown_or_repair r m room (Disable now) h b = absurd (not_shown r h.0.0 b (inl h.0.1))

-- the events to come are safe
to_come :
    RowSafe → (start : Region) (past : List Event) (old : Phase) (who : ℕ) (row : Row) (events : List What) → Apart start past →
    Sized (region_after start past) → Inv start past old → MayComeNext (region_after start past) (map_after start past) who old row events →
    (b : Bool) × (b ≡ true → Excused start past row events)
    × Safe row events b (strings start past) (last_word past) (view (region_after start past)) (map_after start past)
    × (IsRewriting (Within row events) → IsRewriting old)
unfolding Inv
to_come rows start past (Within row rest) who next events apart s (b, may, safe) c =
    let S = strings start past in
    let v = view (region_after start past) in
    let m = map_after start past in (
      b,
      (λ t. subst (λ x. Excused start past x events) (sym c.0) (subst (λ x. Excused start past row x) (sym c.1) (may t))),
      subst (λ x. Safe x events b S (last_word past) v m) (sym c.0) (subst (λ x. Safe row x b S (last_word past) v m) (sym c.1) safe),
      λ h. subst (λ x. IsRewriting (Within x rest)) c.0 (subst (λ x. IsRewriting (Within next x)) c.1 h),
    )
to_come rows start past (Between room) who next events apart s (k, o) (may_begin, e, _) =
    go (kept_shows (strings start past) (view (region_after start past)) (map_after start past) apart (strings_hold start past) k) o
  where
    r : Region
    r = region_after start past

    m : Map
    m = map_after start past

    Goal : Type 0
    Goal =
        (b : Bool) × (b ≡ true → Excused start past next events)
        × Safe next events b (strings start past) (last_word past) (view r) m × (IsRewriting (Within next events) → ⊥)

    safe : (b : Bool) → Shows (view r) m ⊎ (b ≡ true) → Safe next events b (strings start past) (last_word past) (view r) m
    safe b sh = subst (λ x. Safe next x b (strings start past) (last_word past) (view r) m) (sym e)
        (rows r m who room next b (strings start past) (last_word past) apart (strings_hold start past) (fit_of r s) k sh may_begin)

    not_begun : IsRewriting (Within next events) → ⊥
    not_begun h = begins r m who next (subst (λ x. IsRewriting (Within next x)) e h)

    shows : Shows (view r) m → Goal
    shows sh = (false, λ e. absurd cc, safe false (inl sh), not_begun)

    go : (Shows (view r) m ⊎ Broken (view r)) → (Shows (view r) m ⊎ MayBreak start past) → Goal
    go (inl sh) o = shows sh
    go (inr broken) (inl sh) = shows sh
    go (inr broken) (inr may) = (true, λ _. (may, shown_or_repair r m room next may_begin broken, subst (λ x. IsTrue (list_any commits x)) (sym e) (repair_commits r m who next (shown_or_repair r m room next may_begin broken))), safe true (inr refl), not_begun)

-- what a death leaves of what was safe
pub left : (row : Row) (events : List What) (b : Bool) (S : List (List ℕ)) (w : Option ℕ) (v : View) (m : Map) → Safe row events b S w v m → Left row events b S v m
unfolding Safe
left row [] b S w v m (k, inl s, whole) = (k, inl s)
left row [] b S w v m (k, inr e, whole) = (k, inr (inl e))
left row (what ∷ rest) b S w v m s = s.0

torn_left : (row : Row) (rest : List What) (b : Bool) (S : List (List ℕ)) (w : Option ℕ) (v : View) (m : Map) (word new x : ℕ) →
    Safe row (Store Data (suc word) new Plain ∷ rest) b S w v m → IsMixOf (word_at v.body word) new x → 4 * (suc word) + 4 ≤ v.file →
    (T : List (List ℕ)) → kept.Within S T → Holds T (data_set v (suc word) x) → IsApart T → Left row (Store Data (suc word) new Plain ∷ rest) b T (data_set v (suc word) x) m
unfolding Safe
torn_left row rest b S w v m word new x s mix inside T wide holds apart = s.1 x mix inside T wide holds apart

next : (row : Row) (what : What) (rest : List What) (b : Bool) (S T : List (List ℕ)) (w : Option ℕ) (v : View) (m : Map) → Safe row (what ∷ rest) b S w v m → Step S T w v what →
    Safe row rest (b && not (commits what)) T (word_of what w) (after v what) (map_next m what)
unfolding Safe
next row what rest b S T w v m s step = s.2 T step

after_row : (start : Region) (past : List Event) (row : Row) (rest : List What) (b : Bool) → (b ≡ true → Excused start past row rest) →
    Safe row rest b (strings start past) (last_word past) (view (region_after start past)) (map_after start past) → Inv start past (phase_with row rest)
unfolding Inv Safe
after_row start past row [] b may (k, inl s, whole) = (k, inl s)
after_row start past row [] b may (k, inr e, whole) = (k, inr (may e).0)
after_row start past row (what ∷ rest) b may safe = (b, may, safe)

-- at its end a row shows its image whole
over : (row : Row) (b : Bool) (S : List (List ℕ)) (w : Option ℕ) (v : View) (m : Map) → Safe row [] b S w v m → seen v ≡ Whole v.size
unfolding Safe
over row b S w v m s = s.2

-- a repair begins with its sequence
repair_begins : (r : Region) (m : Map) (who : ℕ) (row : Row) (word x : ℕ) (rest : List What) → IsTrue (is_repair row) → Store Data word x Plain ∷ rest ≡ events_of r m who row → ⊥
unfolding events_of
repair_begins r m who Restore word x rest h e = cc
repair_begins r m who Discard word x rest h e = cc
repair_begins r m who Recover word x rest h e = cc
repair_begins r m who SizeRepair word x rest h e = absurd cc
repair_begins r m who (Append a) word x rest h e = absurd cc
repair_begins r m who (Pack now need) word x rest h e = absurd cc
repair_begins r m who Clear word x rest h e = absurd cc
repair_begins r m who (Enable now seconds) word x rest h e = absurd cc
repair_begins r m who (Disable now) word x rest h e = absurd cc

-- a death of the holder
cut_by : (start : Region) (past : List Event) (e : Event) (old : Phase) (row : Row) (rest : List What) (b : Bool) →
    IsTrue (is_death e.what && holds_exclusive (locks_after past) e.who) → IsTrue (not (commits e.what)) → map_after start (e ∷ past) ≡ map_after start past → Reaches start past old → (b ≡ true → Excused start past row rest) → (IsRewriting (Within row rest) → IsRewriting old) →
    Left row rest b (strings start (e ∷ past)) (view (region_after start (e ∷ past))) (map_after start past) → Inv start (e ∷ past) (Between None)
unfolding Inv
cut_by start past e old row rest b death silent same leads may back (k, o) =
    let v = view (region_after start (e ∷ past)) in
    let may_now : (Shows v (map_after start past) ⊎ ((b ≡ true) ⊎ IsRewriting (Within row rest))) → Shows v (map_after start past) ⊎ MayBreak start (e ∷ past) =
    λ o. elim o [
      | inl s ↦ inl s
      | inr (inl t) ↦ inr (may_break start past e silent (may t).0)
      | inr (inr h) ↦ inr (inl (inl (death, (old, leads, back h))))
    ] in
    (subst (Kept (strings start (e ∷ past)) v) (sym same) k, subst (λ m. Shows v m ⊎ MayBreak start (e ∷ past)) (sym same) (may_now o))

named_more : (b : Bool) (S T : List (List ℕ)) (x : ℕ) → kept.Within S T → Named b S x → Named b T x
named_more true S T x wide (s, c, e) = (s, wide s c, e)
named_more false S T x wide n = tt

named : (row : Row) (rest : List What) (b : Bool) (S : List (List ℕ)) (w : Option ℕ) (v : View) (m : Map) (x : ℕ) (mark : Mark) → Safe row (Store Meta 9 x mark ∷ rest) b S w v m → Named true S x
unfolding Safe
named row rest b S w v m x mark s = s.1

-- more strings change nothing
torn_more : (row : Row) (rest : List What) (b : Bool) (S T : List (List ℕ)) (v : View) (m : Map) (what : What) → kept.Within S T → Torn row rest b S v m what → Torn row rest b T v m what
torn_more row rest b S T v m (Store Data (suc word) new Plain) wide t = λ x mix inside U more holds apart. t x mix inside U (λ s c. more s (wide s c)) holds apart
torn_more row rest b S T v m (Store Data zero new mark) wide t = tt
torn_more row rest b S T v m (Store Data (suc word) new (Commit change)) wide t = tt
torn_more row rest b S T v m (Store Meta word x mark) wide t = named_more (word == 9) S T x wide t
torn_more row rest b S T v m (Grow size) wide t = tt
torn_more row rest b S T v m (Lock kind) wide t = tt
torn_more row rest b S T v m Unlock wide t = tt
torn_more row rest b S T v m (Died torn) wide t = tt

safe_more : (row : Row) (rest : List What) (b : Bool) (S T : List (List ℕ)) (w : Option ℕ) (v : View) (m : Map) → kept.Within S T → Safe row rest b S w v m → Safe row rest b T w v m
unfolding Safe
safe_more row [] b S T w v m wide (k, o, whole) = (kept_more S T v m wide k, o, whole)
safe_more row (what ∷ rest) b S T w v m wide (l, t, n) = (
  (kept_more S T v m wide l.0, l.1),
  torn_more row (what ∷ rest) b S T v m what wide t,
  λ U step. n U (record { wide = λ s c. step.wide s (wide s c); holds = step.holds; means = step.means; inside = step.inside; fit = step.fit; apart = step.apart }),
)

-- what holds of a phase still holds after an event that changes nothing
stays : (start : Region) (past : List Event) (e : Event) (phase : Phase) → IsTrue (not (commits e.what)) → map_after start (e ∷ past) ≡ map_after start past →
    region_after start (e ∷ past) ≡ region_after start past → last_word (e ∷ past) ≡ last_word past → Apart start (e ∷ past) → Inv start past phase → Inv start (e ∷ past) phase
unfolding Inv
stays start past e (Between room) silent same region word apart (k, o) =
    let K = subst (λ r. Kept (strings start (e ∷ past)) (view r) (map_after start past)) (sym region) (kept_more _ (strings start (e ∷ past)) _ _ (strings_wide start e past) k) in
    let O : Shows (view (region_after start (e ∷ past))) (map_after start past) ⊎ MayBreak start (e ∷ past) =
    elim o [
      | inl s ↦ inl (subst (λ r. Shows (view r) (map_after start past)) (sym region) s)
      | inr t ↦ inr (may_break start past e silent t)
    ] in (
      subst (Kept (strings start (e ∷ past)) (view (region_after start (e ∷ past)))) (sym same) K,
      subst (λ m. Shows (view (region_after start (e ∷ past))) m ⊎ MayBreak start (e ∷ past)) (sym same) O,
    )
stays start past e (Within row rest) silent same region word apart (b, may, safe) =
    let wider = safe_more row rest b (strings start past) (strings start (e ∷ past)) (last_word past) (view (region_after start past)) (map_after start past) (strings_wide start e past) safe in
    let s1 = subst (λ r. Safe row rest b (strings start (e ∷ past)) (last_word past) (view r) (map_after start past)) (sym region) wider in
    let s2 = subst (λ w. Safe row rest b (strings start (e ∷ past)) w (view (region_after start (e ∷ past))) (map_after start past)) (sym word) s1 in
    (b, λ t. (may_break start past e silent (may t).0, (may t).1, (may t).2), subst (λ m. Safe row rest b (strings start (e ∷ past)) (last_word (e ∷ past)) (view (region_after start (e ∷ past))) m) (sym same) s2)

torn_case : (r : Region) (row : Row) (rest : List What) (b : Bool) (S : List (List ℕ)) (lw : Option ℕ) (m : Map) (w new x : ℕ) →
    Safe row (Store Data w new Plain ∷ rest) b S lw (view r) m → 1 ≤ w → IsMixOf (word_at r.data_bytes w) new x → 4 * w + 4 ≤ length r.data_bytes →
    (T : List (List ℕ)) → kept.Within S T → Holds T (data_set (view r) w x) → IsApart T → Left row (Store Data w new Plain ∷ rest) b T (data_set (view r) w x) m
torn_case r row rest b S lw m zero new x safe one mix inside T wide holds apart = absurd (omega (arith, one))
torn_case r row rest b S lw m (suc w) new x safe one mix inside T wide holds apart =
    torn_left row rest b S lw (view r) m w new x safe (subst (λ old. IsMixOf old new x) (sym (body_word r.data_bytes w)) mix) inside T wide holds apart

module _ (rows : RowSafe) (start : Region) (region : IsRegion start) (ok : IsAccepted start) where
  step_of : (e : Event) (past : List Event) → Lawful start (e ∷ past) → Apart start (e ∷ past) →
      (view (region_after start (e ∷ past)) ≡ after (view (region_after start past)) e.what)
      × Step (strings start past) (strings start (e ∷ past)) (last_word past) (view (region_after start past)) e.what
  step_of e past l apart =
      let r = region_after start past in
      let s = sized start past region l.0 in
      let same : view (region_after start (e ∷ past)) ≡ after (view r) e.what =
      view_after r (locks_after past) e.who e.what s.some l.1.possible (accepted start past ok l.0) (l.1.accepted ok) in
      let T = strings start (e ∷ past) in (
        same,
        record {
          wide = strings_wide start e past;
          holds = subst (Holds T) same (strings_hold start (e ∷ past));
          means = subst (λ v. Means T (last_word past) v e.what) same (strings_mean start e past);
          inside = inside_of r (locks_after past) e.who e.what l.1.possible;
          fit = subst Fit same (fit_of (region_after start (e ∷ past)) (sized start (e ∷ past) region l));
          apart = apart;
        },
      )

  -- an event of a row
  advance : (e : Event) (past : List Event) (old new : Phase) → Lawful start (e ∷ past) → Apart start (e ∷ past) → Inv start past old →
      Advances (region_after start past) (map_after start past) e.who old e.what new → Inv start (e ∷ past) new
  advance e past old new l apart h (row, rest, c, is) =
      let come = to_come rows start past old e.who row (e.what ∷ rest) (Apart-front start e past apart) (sized start past region l.0) h c in
      let b = come.0 in
      let step = step_of e past l apart in
      let safe = next row e.what rest b (strings start past) (strings start (e ∷ past)) (last_word past) (view (region_after start past)) (map_after start past) come.2 step.1 in
      let T = strings start (e ∷ past) in
      let w = last_word (e ∷ past) in
      let s1 = subst (λ v. Safe row rest (b && not (commits e.what)) T w v (map_next (map_after start past) e.what)) (sym step.0) safe in
      let s2 = subst (Safe row rest (b && not (commits e.what)) T w (view (region_after start (e ∷ past)))) (next_map start past e) s1 in
      let may : (b && not (commits e.what)) ≡ true → Excused start (e ∷ past) row rest = λ t. let both = and_not b (commits e.what) t in let had = come.1 both.0 in (may_break start past e both.1 had.0, had.1, still_commits e.what rest both.1 had.2) in
      subst (Inv start (e ∷ past)) (sym is) (after_row start (e ∷ past) row rest (b && not (commits e.what)) may s2)

  same_map : (e : Event) (past : List Event) → change_of e.what ≡ [] → map_after start (e ∷ past) ≡ map_after start past
  same_map e past none = ap (λ c. replay (base start) (changes_of past ++ c)) none ∙ ap (replay (base start)) (append-nil (changes_of past))

  -- a death of the exclusive holder
  death : (who : ℕ) (torn : Option TornWord) (past : List Event) (old : Phase) → let e : Event = record { who = who; what = Died torn } in
      Lawful start (e ∷ past) → Apart start (e ∷ past) → Reaches start past old → Inv start past old → holds_exclusive (locks_after past) who ≡ true →
      MayTear (region_after start past) (map_after start past) who old torn → Inv start (e ∷ past) (Between None)
  unfolding Inv
  death who None past (Between room) l apart leads (k, o) x t =
      let e : Event = record { who = who; what = Died None } in
      stays start past e (Between None) refl (same_map e past refl) refl refl apart (k, o)
  death who None past (Within row rest) l apart leads (b, may, safe) x t =
      let e : Event = record { who = who; what = Died None } in
      let here = left row rest b (strings start past) (last_word past) (view (region_after start past)) (map_after start past) safe in
      cut_by start past e (Within row rest) row rest b x refl (same_map e past refl) leads may (λ h. h)
      (kept_more (strings start past) (strings start (e ∷ past)) (view (region_after start past)) (map_after start past) (strings_wide start e past) here.0, here.1)
  death who (Some torn) past old l apart leads h x (bits, (row, new, rest, c, is)) =
      let e : Event = record { who = who; what = Died (Some torn) } in
      let r = region_after start past in
      let events = Store Data torn.word new Plain ∷ rest in
      let come = to_come rows start past old who row events (Apart-front start e past apart) (sized start past region l.0) h c in
      let step = step_of e past l apart in
      let S = strings start past in
      let T = strings start (e ∷ past) in
      let torn_in = l.1.possible.1 in
      let there = torn_case r row rest come.0 S (last_word past) (map_after start past) torn.word new torn.value come.2 torn_in.0 (torn_mix (word_at r.data_bytes torn.word) new bits torn.value is) torn_in.1 T step.1.wide step.1.holds step.1.apart in
      cut_by start past e old row events come.0 x refl (same_map e past refl) leads come.1 come.3
      (subst (λ v. Left row events come.0 T v (map_after start past)) (sym step.0) there)

  no_tear : (torn : Option TornWord) (locks : Locks) (who : ℕ) → IsTearer locks who torn → holds_exclusive locks who ≡ false → torn ≡ None
  no_tear None locks who t x = refl
  no_tear (Some torn) locks who t x = absurd cc

  cuts : (b : Bool) (who : ℕ) (torn : Option TornWord) (past : List Event) (old new : Phase) → let e : Event = record { who = who; what = Died torn } in
      Lawful start (e ∷ past) → Apart start (e ∷ past) → Reaches start past old → Inv start past old → holds_exclusive (locks_after past) who ≡ b →
      Dies b (region_after start past) (map_after start past) who old torn new → Inv start (e ∷ past) new
  cuts true who torn past old new l apart leads h x c =
      let e : Event = record { who = who; what = Died torn } in
      subst (Inv start (e ∷ past)) (sym c.1) (death who torn past old l apart leads h x c.0)
  cuts false who None past old new l apart leads h x c =
      let e : Event = record { who = who; what = Died None } in
      subst (Inv start (e ∷ past)) (sym c) (stays start past e old refl (same_map e past refl) refl refl apart h)
  cuts false who (Some torn) past old new l apart leads h x c = absurd (let t = no_tear (Some torn) (locks_after past) who l.1.possible.0 x in cc)

  one_more : (who : ℕ) (what : What) (past : List Event) (old new : Phase) → let e : Event = record { who = who; what = what } in
      Lawful start (e ∷ past) → Apart start (e ∷ past) → Reaches start past old → Inv start past old →
      IsStep (region_after start past) (map_after start past) (locks_after past) who old what new → Inv start (e ∷ past) new
  unfolding Inv
  one_more who (Store side word value mark) past old new l apart leads h g = advance (record { who = who; what = Store side word value mark }) past old new l apart h g
  one_more who (Grow size) past old new l apart leads h g = advance (record { who = who; what = Grow size }) past old new l apart h g
  one_more who (Lock kind) past old new l apart leads h g =
      let e : Event = record { who = who; what = Lock kind } in
      subst (Inv start (e ∷ past)) (sym g) (stays start past e old refl (same_map e past refl) refl refl apart h)
  one_more who Unlock past old new l apart leads h (between, is) =
      let e : Event = record { who = who; what = Unlock } in
      subst (Inv start (e ∷ past)) (sym is) (stays start past e (Between None) refl (same_map e past refl) refl refl apart (subst (Inv start past) between.1 h))
  one_more who (Died torn) past old new l apart leads h g = cuts (holds_exclusive (locks_after past) who) who torn past old new l apart leads h refl g

  begin : Apart start [] → Inv start [] (Between None)
  unfolding Inv shown seen
  begin apart =
      let v = view start in
      let S = strings start [] in
      let holds = strings_hold start [] in
      let k : Kept S v (base start) = start_kept S v holds in
      let o : Shows v (base start) ⊎ MayBreak start [] =
      elim (kept_shows S v (base start) apart holds k) [ inl s ↦ inl s | inr broken ↦ inr (inr (broken, refl)) ] in
      (k, o)

  pub keeps : (past : List Event) (phase : Phase) → Lawful start past → Apart start past → Reaches start past phase → Inv start past phase
  keeps [] phase l apart leads = subst (Inv start []) (sym leads) (begin apart)
  keeps (e ∷ past) phase l apart leads =
      one_more e.who e.what past leads.0 phase l apart leads.1 (keeps past leads.0 l.0 (Apart-front start e past apart) leads.1) leads.2

  -- at rest a region shows the map of the history so far, but after a death within a rewrite, or where its start was broken
  pub shows_history : (past : List Event) → Lawful start past → Apart start past → AtRest start past → ShowsHistory start past
  unfolding Inv
  shows_history past l apart (room, leads) =
      let r = region_after start past in
      let m = map_after start past in
      let h = keeps past (Between room) l apart leads in
      elim h.1 [
        | inl s ↦ inl (shows_is r m s)
        | inr may ↦
            elim (kept_shows (strings start past) (view r) m apart (strings_hold start past) h.0) [
              | inl s ↦ inl (shows_is r m s)
              | inr b ↦ inr (broken_is r b, may)
            ]
      ]

  -- what is left by a death where no rewrite is between its sequence and its change, and no repair before its change
  shown_left : (row : Row) (rest : List What) (b : Bool) (S : List (List ℕ)) (v : View) (m : Map) → (b ≡ true → IsTrue (is_repair row) × IsTrue (list_any commits rest)) →
      (IsRewriting (Within row rest) → ⊥) → (IsTrue (is_repair row) → IsTrue (list_any commits rest) → ⊥) → Left row rest b S v m → Shows v m
  shown_left row rest b S v m may calm done (k, inl s) = s
  shown_left row rest b S v m may calm done (k, inr (inl t)) = absurd (done (may t).0 (may t).1)
  shown_left row rest b S v m may calm done (k, inr (inr h)) = absurd (calm h)

  -- a death in an append, in a size repair, or elsewhere before the sequence or after the change leaves a region that shows the map
  pub cut_shows : (who : ℕ) (torn : Option TornWord) (past : List Event) (row : Row) (rest : List What) → let e : Event = record { who = who; what = Died torn } in
      Lawful start (e ∷ past) → Apart start (e ∷ past) → Reaches start past (Within row rest) → MayTear (region_after start past) (map_after start past) who (Within row rest) torn →
      (IsRewriting (Within row rest) → ⊥) → (IsTrue (is_repair row) → IsTrue (list_any commits rest) → ⊥) →
      ShowsMap (region_after start (e ∷ past)) (map_after start past)
  unfolding Inv
  cut_shows who None past row rest l apart leads tear calm done =
      let e : Event = record { who = who; what = Died None } in
      let h = keeps past (Within row rest) l.0 (Apart-front start e past apart) leads in
      let here = left row rest h.0 (strings start past) (last_word past) (view (region_after start past)) (map_after start past) h.2 in
      shows_is (region_after start past) (map_after start past)
      (shown_left row rest h.0 (strings start past) (view (region_after start past)) (map_after start past) (λ t. ((h.1 t).1, (h.1 t).2)) calm done here)
  cut_shows who (Some torn) past row rest l apart leads (bits, (next_row, new, more, c, is)) calm done =
      let e : Event = record { who = who; what = Died (Some torn) } in
      let r = region_after start past in
      let m = map_after start past in
      let h = keeps past (Within row rest) l.0 (Apart-front start e past apart) leads in
      let events = Store Data torn.word new Plain ∷ more in
      let safe : Safe row events h.0 (strings start past) (last_word past) (view r) m = subst (λ x. Safe row x h.0 (strings start past) (last_word past) (view r) m) (sym c.1) h.2 in
      let step = step_of e past l apart in
      let torn_in = l.1.possible.1 in
      let there = torn_case r row more h.0 (strings start past) (last_word past) m torn.word new torn.value safe torn_in.0 (torn_mix (word_at r.data_bytes torn.word) new bits torn.value is) torn_in.1 (strings start (e ∷ past)) step.1.wide step.1.holds step.1.apart in
      shows_is (region_after start (e ∷ past)) m
      (subst (λ v. Shows v m) (sym step.0)
      (shown_left row events h.0 (strings start (e ∷ past)) (data_set (view r) torn.word torn.value) m
      (λ t. ((h.1 t).1, subst (λ x. IsTrue (list_any commits x)) (sym c.1) (h.1 t).2))
      (λ g. calm (subst (λ x. IsRewriting (Within row x)) c.1 g)) (λ g k. done g (subst (λ x. IsTrue (list_any commits x)) c.1 k)) there))

  -- a word that is torn before its row began leaves a region that shows the map
  pub tear_shows : (who : ℕ) (torn : TornWord) (past : List Event) (room : Option ℕ) → let e : Event = record { who = who; what = Died (Some torn) } in
      Lawful start (e ∷ past) → Apart start (e ∷ past) → Reaches start past (Between room) → MayTear (region_after start past) (map_after start past) who (Between room) (Some torn) →
      ShowsMap (region_after start (e ∷ past)) (map_after start past)
  unfolding Inv
  tear_shows who torn past room l apart leads (bits, (row, new, more, c, is)) =
      let e : Event = record { who = who; what = Died (Some torn) } in
      let r = region_after start past in
      let m = map_after start past in
      let events = Store Data torn.word new Plain ∷ more in
      let h = keeps past (Between room) l.0 (Apart-front start e past apart) leads in
      let come = to_come rows start past (Between room) who row events (Apart-front start e past apart) (sized start past region l.0) h c in
      let step = step_of e past l apart in
      let torn_in = l.1.possible.1 in
      let there = torn_case r row more come.0 (strings start past) (last_word past) m torn.word new torn.value come.2 torn_in.0 (torn_mix (word_at r.data_bytes torn.word) new bits torn.value is) torn_in.1 (strings start (e ∷ past)) step.1.wide step.1.holds step.1.apart in
      shows_is (region_after start (e ∷ past)) m
      (subst (λ v. Shows v m) (sym step.0)
      (shown_left row events come.0 (strings start (e ∷ past)) (data_set (view r) torn.word torn.value) m
      (λ t. ((come.1 t).1, (come.1 t).2)) (λ g. come.3 g) (λ g k. repair_begins r m who row torn.word new more g c.1) there))

  -- where a row has just ended, its image is shown whole
  row_over : (e : Event) (past : List Event) (old : Phase) (room : Option ℕ) → Lawful start (e ∷ past) → Apart start (e ∷ past) → Reaches start past old →
      Advances (region_after start past) (map_after start past) e.who old e.what (Between room) → (n : ℕ) × (shown (region_after start (e ∷ past)) ≡ Whole n)
  row_over e past old room l apart leads (row, rest, c, is) = go rest is c
    where
      go : (rest : List What) → Between room ≡ phase_with row rest → MayComeNext (region_after start past) (map_after start past) e.who old row (e.what ∷ rest) →
          (n : ℕ) × (shown (region_after start (e ∷ past)) ≡ Whole n)
      go (x ∷ xs) is c = absurd cc
      go [] is c =
          let h = keeps past old l.0 (Apart-front start e past apart) leads in
          let come = to_come rows start past old e.who row (e.what ∷ []) (Apart-front start e past apart) (sized start past region l.0) h c in
          let step = step_of e past l apart in
          let safe = next row e.what [] come.0 (strings start past) (strings start (e ∷ past)) (last_word past) (view (region_after start past)) (map_after start past) come.2 step.1 in
          let v = after (view (region_after start past)) e.what in
          let whole = over row (come.0 && not (commits e.what)) (strings start (e ∷ past)) (word_of e.what (last_word past)) v (map_next (map_after start past) e.what) safe in
          (v.size, seen_is (region_after start (e ∷ past)) ∙ ap seen step.0 ∙ whole)

  ends : (who : ℕ) (what : What) (past : List Event) (old : Phase) (room : Option ℕ) → let e : Event = record { who = who; what = what } in
      Lawful start (e ∷ past) → Apart start (e ∷ past) → IsTrue (is_store what) → Reaches start past old →
      IsStep (region_after start past) (map_after start past) (locks_after past) who old what (Between room) → (n : ℕ) × (shown (region_after start (e ∷ past)) ≡ Whole n)
  ends who (Store side word value mark) past old room l apart is leads g = row_over (record { who = who; what = Store side word value mark }) past old room l apart leads g
  ends who (Grow size) past old room l apart is leads g = row_over (record { who = who; what = Grow size }) past old room l apart leads g
  ends who (Lock kind) past old room l apart is leads g = absurd cc
  ends who Unlock past old room l apart is leads g = absurd cc
  ends who (Died torn) past old room l apart is leads g = absurd cc

  pub row_ends : (e : Event) (past : List Event) (room : Option ℕ) → Lawful start (e ∷ past) → Apart start (e ∷ past) → IsTrue (is_store e.what) → Reaches start (e ∷ past) (Between room) →
      (n : ℕ) × (shown (region_after start (e ∷ past)) ≡ Whole n)
  row_ends e past room l apart is leads = ends e.who e.what past leads.0 room l apart is leads.1 leads.2

  -- the last confirmed checksum that is stored is that of a payload of the run
  pub named_store : (who x : ℕ) (mark : Mark) (past : List Event) (old new : Phase) → Lawful start past → Apart start past → Reaches start past old →
      Advances (region_after start past) (map_after start past) who old (Store Meta 9 x mark) new → Named true (strings start past) x
  named_store who x mark past old new l apart leads (row, rest, c, is) =
      let h = keeps past old l apart leads in
      let come = to_come rows start past old who row (Store Meta 9 x mark ∷ rest) apart (sized start past region l) h c in
      named row rest come.0 (strings start past) (last_word past) (view (region_after start past)) (map_after start past) x mark come.2
