-- Two runs of one past are between rows at the same moments.
use Rattle.std.proofs.Common.{◌≡◌, ℕ, ◌+◌, ◌/◌, ◌<◌, Bool, true, false, cond, List, [], ◌∷◌, ◌++◌, length, refl, sym, ap, ◌∙◌, arith, append_assoc, subst, length-append, inl, inr, ◌⊎◌, append-nil}
use Rattle.std.specs.Prelude.{Option, None, unwrap_or, nat_lt, if◌then◌else◌, ◌==◌}
use Rattle.crc_words.specs.Crc.{crc_from}
use Rattle.expiring_map.specs.Map.{Map}
use Rattle.lock_rules.specs.Locks.{Locks, holds_exclusive}
use Rattle.change_log.specs.declared.change.Act.{Act}
use Rattle.change_log.specs.declared.change.Act.TheVariants as act
use Rattle.change_log.specs.declared.change.Change.{Change}
use Rattle.region_words.specs.Region.{Region, record_of, size_shown, file_size, flag}
use Rattle.region_words.specs.Past.{region_after, change_of, locks_after}
use Rattle.region_words.specs.Rows.{append_stores, standing, Row, Append, Pack, Clear, Enable, Disable, Restore, Discard, Recover, SizeRepair, MayBegin, IsAppendable, events_of, stores_from, store_data, store_meta, close_sizes, payload_stores, confirmed_by_checksum, confirmed_by_header, mark_of, item_of, size_after, payload_after, act_of_row}
use Rattle.region_words.specs.Standings.{words_of, tail_bytes}
use Rattle.region_words.specs.declared.standing.Standing.{Standing}
use Rattle.region_words.proofs.OfRegion.{growth, next_sequence, write_back_stores, switch_stores, recover_stores}
use Rattle.region_words.specs.Lawful.{Phase, Between, Within, Reaches, IsStep, Advances, MayComeNext, Dies, phase_with, map_after}
use Rattle.region_words.specs.Outcome.{AtRest}
use Rattle.region_words.specs.declared.event.Side.TheVariants.{Data, Meta}
use Rattle.region_words.specs.declared.event.Mark.TheVariants.{Commit}
use Rattle.region_words.specs.declared.event.TornWord.{TornWord}
use Rattle.region_words.specs.declared.event.What.{What}
use Rattle.region_words.specs.declared.event.What.TheVariants.{Store, Grow, Lock, Unlock, Died}
use Rattle.region_words.specs.declared.event.Event.{Event}

-- no event of these is marked
abbrev Unmarked : List What → Type 0
Unmarked [] = Unit {0}
Unmarked (what ∷ rest) = (change_of what ≡ []) × Unmarked rest

-- the events up to the mark, and so many behind it
abbrev Marked : List What → Change → ℕ → Type 0
Marked [] change k = ⊥
Marked (what ∷ rest) change k = ((change_of what ≡ change ∷ []) × (length rest ≡ k)) ⊎ ((change_of what ≡ []) × Marked rest change k)

unmarked_joined : (xs ys : List What) → Unmarked xs → Unmarked ys → Unmarked (xs ++ ys)
unmarked_joined [] ys p q = q
unmarked_joined (x ∷ xs) ys p q = (p.0, unmarked_joined xs ys p.1 q)

marked_behind : (xs ys : List What) (change : Change) (k : ℕ) → Unmarked xs → Marked ys change k → Marked (xs ++ ys) change k
marked_behind [] ys change k p q = q
marked_behind (x ∷ xs) ys change k p q = inr (p.0, marked_behind xs ys change k p.1 q)

-- a list with a mark and one that goes on from it have not the same number of events behind the mark
longer_behind : (xs ys : List What) (c d : Change) (k l : ℕ) → Marked xs c k → Marked (xs ++ ys) d l → (d ≡ c) × (l ≡ k + length ys)
longer_behind [] ys c d k l p q = absurd p
longer_behind (x ∷ xs) ys c d k l (inl p) (inl q) = let same : c ∷ [] ≡ d ∷ [] = sym p.0 ∙ q.0 in (cc, omega (arith, p.1, q.1, length-append xs ys))
longer_behind (x ∷ xs) ys c d k l (inl p) (inr q) = absurd cc
longer_behind (x ∷ xs) ys c d k l (inr p) (inl q) = absurd cc
longer_behind (x ∷ xs) ys c d k l (inr p) (inr q) = longer_behind xs ys c d k l p.1 q.1

-- how many events stand behind the mark
abbrev behind : Act → ℕ
behind (act.Put key value expiry) = 1
behind (act.Remove key) = 1
behind act.Clear = 3
behind (act.Pack now) = 3
behind (act.Enable now seconds) = 2
behind (act.Disable now) = 2
behind (act.Restored pairs) = 0
behind act.Discarded = 2
behind (act.Recovered pairs) = 2

unmarked_stores : (w : ℕ) (vs : List ℕ) → Unmarked (stores_from w vs)
unmarked_stores w [] = tt
unmarked_stores w (v ∷ vs) = (refl, unmarked_stores (w + 1) vs)

unmarked_growth : (r : Region) (size : Option ℕ) → Unmarked (growth r size)
unmarked_growth r size = go (nat_lt (file_size r) (unwrap_or size 0))
  where
    go : (b : Bool) → Unmarked (cond b (Grow (unwrap_or size 0) ∷ []) [])
    go true = (refl, tt)
    go false = tt

unmarked_version : (b : Bool) → Unmarked (cond b (store_meta 1 3 ∷ []) [])
unmarked_version true = (refl, tt)
unmarked_version false = tt

module _ (r : Region) (size : Option ℕ) (new : List ℕ) (change : Change) where
  write_back_marked : Marked (write_back_stores r size new (Commit change)) change 3
  write_back_marked =
      let version = if (record_of r).version == 0 then store_meta 1 3 ∷ [] else [] in
      let first = unmarked_joined (growth r size) (next_sequence r ∷ version) (unmarked_growth r size) (refl, unmarked_version ((record_of r).version == 0)) in
      let second = unmarked_joined (growth r size ++ next_sequence r ∷ version) (payload_stores new) first (unmarked_stores 1 (words_of new)) in
      marked_behind (growth r size ++ next_sequence r ∷ version ++ payload_stores new) (confirmed_by_checksum new (Commit change)) change 3 second (inr (refl, inl (refl, refl)))

  switch_marked : (flags : ℕ) → Marked (switch_stores r size flags new (Commit change)) change 2
  switch_marked flags =
      let first = unmarked_joined (growth r size) (next_sequence r ∷ store_meta 1 4 ∷ close_sizes) (unmarked_growth r size) (refl, (refl, (refl, (refl, (refl, tt))))) in
      let second = unmarked_joined (growth r size ++ next_sequence r ∷ store_meta 1 4 ∷ close_sizes) (payload_stores new) first (unmarked_stores 1 (words_of new)) in
      marked_behind (growth r size ++ next_sequence r ∷ store_meta 1 4 ∷ close_sizes ++ payload_stores new) (store_meta 26 flags ∷ confirmed_by_header new (Commit change)) change 2 second
      (inr (refl, inr (refl, inr (refl, inl (refl, refl)))))

  recover_marked : Marked (recover_stores r size new (Commit change)) change 2
  recover_marked =
      let first = unmarked_joined (next_sequence r ∷ close_sizes) (growth r size) (refl, (refl, (refl, (refl, tt)))) (unmarked_growth r size) in
      let second = unmarked_joined (next_sequence r ∷ close_sizes ++ growth r size) (payload_stores new) first (unmarked_stores 1 (words_of new)) in
      marked_behind (next_sequence r ∷ close_sizes ++ growth r size ++ payload_stores new) (confirmed_by_header new (Commit change)) change 2 second (inr (refl, inr (refl, inl (refl, refl))))

append_marked : (s : Standing) (item : List ℕ) (change : Change) → Marked (append_stores s item (Commit change)) change 1
append_marked s item change =
    let size = s.size + length item in
    marked_behind (stores_from (1 + s.size / 4) (words_of (tail_bytes s ++ item))) (store_data 0 size ∷ Store Meta 0 (crc_from s.checksum item) (Commit change) ∷ store_meta 7 size ∷ []) change 1
    (unmarked_stores (1 + s.size / 4) (words_of (tail_bytes s ++ item))) (inr (refl, inl (refl, refl)))

-- what is appended can be
abbrev IsRow : Region → Row → Type 0
IsRow r (Append a) = IsAppendable (flag r) a
IsRow r (Pack now need) = Unit {0}
IsRow r Clear = Unit {0}
IsRow r (Enable now seconds) = Unit {0}
IsRow r (Disable now) = Unit {0}
IsRow r Restore = Unit {0}
IsRow r Discard = Unit {0}
IsRow r Recover = Unit {0}
IsRow r SizeRepair = Unit {0}

is_row : (r : Region) (m : Map) (room : Option ℕ) (row : Row) → MayBegin r m room row → IsRow r row
is_row r m room (Append a) b = b.3
is_row r m room (Pack now need) b = tt
is_row r m room Clear b = tt
is_row r m room (Enable now seconds) b = tt
is_row r m room (Disable now) b = tt
is_row r m room Restore b = tt
is_row r m room Discard b = tt
is_row r m room Recover b = tt
is_row r m room SizeRepair b = tt

one_behind : (flag : Bool) (a : Act) → IsAppendable flag a → 1 ≡ behind a
one_behind flag (act.Put key value expiry) h = refl
one_behind flag (act.Remove key) h = refl
one_behind flag act.Clear a = absurd a
one_behind flag (act.Pack now) a = absurd a
one_behind flag (act.Enable now seconds) a = absurd a
one_behind flag (act.Disable now) a = absurd a
one_behind flag (act.Restored pairs) a = absurd a
one_behind flag act.Discarded a = absurd a
one_behind flag (act.Recovered pairs) a = absurd a

-- the act of a row's mark, for the rows that have one
abbrev marked_act : Region → Row → Act
marked_act r row = unwrap_or (act_of_row r row) act.Discarded

abbrev change_by : Region → ℕ → Row → Change
change_by r who row = record { maker = who; act = marked_act r row }

-- each row but a repair of the size has a mark
abbrev HasMark : Region → Map → ℕ → Row → Type 0
HasMark r m who row = Marked (events_of r m who row) (change_by r who row) (behind (marked_act r row))

has_mark : (r : Region) (m : Map) (who : ℕ) (row : Row) → IsRow r row → HasMark r m who row ⊎ (row ≡ SizeRepair)
unfolding events_of
has_mark r m who (Append a) h =
    let s = standing r in
    let item = item_of (flag r) a in
    inl (subst (Marked (append_stores s item (Commit (change_by r who (Append a)))) (change_by r who (Append a))) (one_behind (flag r) a h) (append_marked s item (change_by r who (Append a))))
has_mark r m who (Pack now need) h = inl (write_back_marked r (size_after r m (Pack now need)) (payload_after r m (Pack now need)) (change_by r who (Pack now need)))
has_mark r m who Clear h = inl (write_back_marked r (size_after r m Clear) (payload_after r m Clear) (change_by r who Clear))
has_mark r m who (Enable now seconds) h =
    inl (switch_marked r (size_after r m (Enable now seconds)) (payload_after r m (Enable now seconds)) (change_by r who (Enable now seconds)) 1)
has_mark r m who (Disable now) h = inl (switch_marked r (size_after r m (Disable now)) (payload_after r m (Disable now)) (change_by r who (Disable now)) 0)
has_mark r m who Restore h = inl (inr (refl, inr (refl, inr (refl, inl (refl, refl)))))
has_mark r m who Discard h = inl (inr (refl, inr (refl, inr (refl, inl (refl, refl)))))
has_mark r m who Recover h = inl (recover_marked r (size_after r m Recover) (payload_after r m Recover) (change_by r who Recover))
has_mark r m who SizeRepair h = inr refl

-- the first event of a row stores the record's size
abbrev SizeFirst : List What → Type 0
SizeFirst [] = Unit {0}
SizeFirst (Store Meta word value mark ∷ rest) = word ≡ 7
SizeFirst (Store Data word value mark ∷ rest) = ⊥
SizeFirst (Grow size ∷ rest) = ⊥
SizeFirst (Lock kind ∷ rest) = ⊥
SizeFirst (Unlock ∷ rest) = ⊥
SizeFirst (Died torn ∷ rest) = ⊥

after_growth : (r : Region) (size : Option ℕ) (v : ℕ) (xs ys zs : List What) → SizeFirst (growth r size ++ store_meta 2 v ∷ xs ++ ys ++ zs) → ⊥
after_growth r size v xs ys zs h = go (nat_lt (file_size r) (unwrap_or size 0)) h
  where
    go : (b : Bool) → SizeFirst (cond b (Grow (unwrap_or size 0) ∷ []) [] ++ store_meta 2 v ∷ xs ++ ys ++ zs) → ⊥
    go true h = h
    go false h = omega (arith, h)

after_words : (w : ℕ) (vs : List ℕ) (size : ℕ) (rest : List What) → SizeFirst (stores_from w vs ++ store_data 0 size ∷ rest) → ⊥
after_words w [] size rest h = h
after_words w (v ∷ vs) size rest h = h

-- only a repair of the size begins so
size_first : (r : Region) (m : Map) (who : ℕ) (row : Row) → SizeFirst (events_of r m who row) → row ≡ SizeRepair
unfolding events_of
size_first r m who (Append a) h =
    let s = standing r in
    let item = item_of (flag r) a in
    let size = s.size + length item in
    absurd (after_words (1 + s.size / 4) (words_of (tail_bytes s ++ item)) size (Store Meta 0 (crc_from s.checksum item) (mark_of r who (Append a)) ∷ store_meta 7 size ∷ []) h)
size_first r m who (Pack now need) h =
    let row = Pack now need in
    absurd (after_growth r (size_after r m row) ((record_of r).sequence + 1) (if (record_of r).version == 0 then store_meta 1 3 ∷ [] else []) (payload_stores (payload_after r m row))
    (confirmed_by_checksum (payload_after r m row) (mark_of r who row)) h)
size_first r m who Clear h =
    absurd (after_growth r (size_after r m Clear) ((record_of r).sequence + 1) (if (record_of r).version == 0 then store_meta 1 3 ∷ [] else []) (payload_stores (payload_after r m Clear))
    (confirmed_by_checksum (payload_after r m Clear) (mark_of r who Clear)) h)
size_first r m who (Enable now seconds) h =
    let row = Enable now seconds in
    absurd (after_growth r (size_after r m row) ((record_of r).sequence + 1) (store_meta 1 4 ∷ close_sizes) (payload_stores (payload_after r m row)) (store_meta 26 1 ∷ confirmed_by_header (payload_after r m row) (mark_of r who row)) h)
size_first r m who (Disable now) h =
    let row = Disable now in
    absurd (after_growth r (size_after r m row) ((record_of r).sequence + 1) (store_meta 1 4 ∷ close_sizes) (payload_stores (payload_after r m row)) (store_meta 26 0 ∷ confirmed_by_header (payload_after r m row) (mark_of r who row)) h)
size_first r m who Restore h = absurd (omega (arith, h))
size_first r m who Discard h = absurd (omega (arith, h))
size_first r m who Recover h = absurd (omega (arith, h))
size_first r m who SizeRepair h = refl

resize_is : (r : Region) (m : Map) (who : ℕ) → events_of r m who SizeRepair ≡ store_meta 7 (size_shown r) ∷ []
unfolding events_of
resize_is r m who = refl

first_kept : (what : What) (xs ys : List What) → SizeFirst (what ∷ xs) → SizeFirst (what ∷ ys)
first_kept (Store Meta word value mark) xs ys h = h
first_kept (Store Data word value mark) xs ys h = h
first_kept (Grow size) xs ys h = h
first_kept (Lock kind) xs ys h = h
first_kept Unlock xs ys h = h
first_kept (Died torn) xs ys h = h

-- no row is a front of another
no_front : (r : Region) (m : Map) (who : ℕ) (row other : Row) (what : What) (xs more : List What) → IsRow r row → IsRow r other →
    events_of r m who row ≡ what ∷ xs → events_of r m who other ≡ (what ∷ xs) ++ more → 0 < length more → ⊥
no_front r m who row other what xs more h k e f some = go (has_mark r m who row h) (has_mark r m who other k)
  where
    one : List What
    one = store_meta 7 (size_shown r) ∷ []

    short : row ≡ SizeRepair → what ∷ xs ≡ store_meta 7 (size_shown r) ∷ []
    short is = sym e ∙ ap (events_of r m who) is ∙ resize_is r m who

    other_short : other ≡ SizeRepair → ⊥
    other_short is =
        let same : (what ∷ xs) ++ more ≡ store_meta 7 (size_shown r) ∷ [] = sym f ∙ ap (events_of r m who) is ∙ resize_is r m who in
        absurd (omega (arith, ap length same, length-append (what ∷ xs) more, some))

    go : HasMark r m who row ⊎ (row ≡ SizeRepair) → HasMark r m who other ⊎ (other ≡ SizeRepair) → ⊥
    go (inl p) (inl q) =
        let both = longer_behind (what ∷ xs) more (change_by r who row) (change_by r who other) (behind (marked_act r row)) (behind (marked_act r other))
        (subst (λ z. Marked z (change_by r who row) (behind (marked_act r row))) e p) (subst (λ z. Marked z (change_by r who other) (behind (marked_act r other))) f q) in
        let act : marked_act r other ≡ marked_act r row = ap (λ (c : Change). c.act) both.0 in
        absurd (omega (arith, both.1, ap behind act, some))
    go (inr is) q = other_short (size_first r m who other (subst SizeFirst (sym f) (first_kept what [] (xs ++ more) (starts (short is)))))
      where
        starts : what ∷ xs ≡ store_meta 7 (size_shown r) ∷ [] → SizeFirst (what ∷ [])
        starts g = first_kept what xs [] (subst SizeFirst (sym g) refl)
    go (inl p) (inr is) = other_short is

-- within one row, or within two that have gone the same way so far
record Together (row : Row) (rest : List What) (other : Row) (more : List What) : Type 0 where
  region : Region
  pairs : Map
  maker : ℕ
  first : What
  done : List What
  is_row : IsRow region row
  is_other : IsRow region other
  is_events : events_of region pairs maker row ≡ (first ∷ done) ++ rest
  other_events : events_of region pairs maker other ≡ (first ∷ done) ++ more

-- two phases of one past
Alike : Phase → Phase → Type 0
Alike (Between room) (Between other) = Unit {0}
Alike (Between room) (Within row rest) = ⊥
Alike (Within row rest) (Between room) = ⊥
Alike (Within row rest) (Within other more) = Together row rest other more

both_on : (row : Row) (rest : List What) (other : Row) (more : List What) → Together row rest other more → Alike (phase_with row rest) (phase_with other more)
unfolding Alike
both_on row [] other [] t = tt
both_on row (x ∷ rest) other (y ∷ more) t = t
both_on row [] other (y ∷ more) t =
    no_front t.region t.pairs t.maker row other t.first t.done (y ∷ more) t.is_row t.is_other (t.is_events ∙ append-nil (t.first ∷ t.done)) t.other_events (omega arith)
both_on row (x ∷ rest) other [] t =
    no_front t.region t.pairs t.maker other row t.first t.done (x ∷ rest) t.is_other t.is_row (t.other_events ∙ append-nil (t.first ∷ t.done)) t.is_events (omega arith)

module _ (r : Region) (m : Map) (locks : Locks) (who : ℕ) where
  next : (p q : Phase) (what : What) (row : Row) (rest : List What) (other : Row) (more : List What) → Alike p q →
      MayComeNext r m who p row (what ∷ rest) → MayComeNext r m who q other (what ∷ more) → Together row rest other more
  unfolding Alike
  next (Between room) (Between room') what row rest other more a (b, e, _) (c, f, _) =
      record {
        region = r;
        pairs = m;
        maker = who;
        first = what;
        done = [];
        is_row = is_row r m room row b;
        is_other = is_row r m room' other c;
        is_events = sym e;
        other_events = sym f;
      }
  next (Between room) (Within row' rest') what row rest other more a b c = absurd a
  next (Within row' rest') (Between room) what row rest other more a b c = absurd a
  next (Within row' rest') (Within other' more') what row rest other more t (b, e) (c, f) =
      record {
        region = t.region;
        pairs = t.pairs;
        maker = t.maker;
        first = t.first;
        done = t.done ++ what ∷ [];
        is_row = subst (IsRow t.region) (sym b) t.is_row;
        is_other = subst (IsRow t.region) (sym c) t.is_other;
        is_events = ap (events_of t.region t.pairs t.maker) b ∙ t.is_events ∙ ap (λ z. (t.first ∷ t.done) ++ z) (sym e) ∙ sym (append_assoc (t.first ∷ t.done) (what ∷ []) rest);
        other_events = ap (events_of t.region t.pairs t.maker) c ∙ t.other_events ∙ ap (λ z. (t.first ∷ t.done) ++ z) (sym f) ∙ sym (append_assoc (t.first ∷ t.done) (what ∷ []) more);
      }

  advance : (p q p' q' : Phase) (what : What) → Alike p q → Advances r m who p what p' → Advances r m who q what q' → Alike p' q'
  advance p q p' q' what a (row, rest, c, is) (other, more, d, is') =
      subst (λ z. Alike z q') (sym is) (subst (Alike (phase_with row rest)) (sym is') (both_on row rest other more (next p q what row rest other more a c d)))

  same_place : (p q p' q' : Phase) → Alike p q → p' ≡ p → q' ≡ q → Alike p' q'
  same_place p q p' q' a e f = subst (λ z. Alike z q') (sym e) (subst (Alike p) (sym f) a)

  at_none : (p' q' : Phase) → p' ≡ Between None → q' ≡ Between None → Alike p' q'
  unfolding Alike
  at_none p' q' e f = subst (λ z. Alike z q') (sym e) (subst (Alike (Between None)) (sym f) tt)

  cut : (b : Bool) (p q p' q' : Phase) (torn : Option TornWord) → Alike p q → Dies b r m who p torn p' → Dies b r m who q torn q' → Alike p' q'
  cut true p q p' q' torn a c d = at_none p' q' c.1 d.1
  cut false p q p' q' torn a c d = same_place p q p' q' a c d

  go_on : (p q p' q' : Phase) (what : What) → Alike p q → IsStep r m locks who p what p' → IsStep r m locks who q what q' → Alike p' q'
  go_on p q p' q' (Store side word value mark) a g h = advance p q p' q' (Store side word value mark) a g h
  go_on p q p' q' (Grow size) a g h = advance p q p' q' (Grow size) a g h
  go_on p q p' q' (Lock kind) a g h = same_place p q p' q' a g h
  go_on p q p' q' Unlock a g h = at_none p' q' g.1 h.1
  go_on p q p' q' (Died torn) a g h = cut (holds_exclusive locks who) p q p' q' torn a g h

runs_alike : (start : Region) (past : List Event) (p q : Phase) → Reaches start past p → Reaches start past q → Alike p q
runs_alike start [] p q g h = at_none start (map_after start []) (locks_after []) 0 p q g h
runs_alike start (e ∷ past) p q g h =
    go_on (region_after start past) (map_after start past) (locks_after past) e.who g.0 h.0 p q e.what (runs_alike start past g.0 h.0 g.1 h.1) g.2 h.2

-- where one run is between rows, each is
pub rest_is_one : (start : Region) (past : List Event) → AtRest start past → (p : Phase) → Reaches start past p → (room : Option ℕ) × (p ≡ Between room)
unfolding Alike
rest_is_one start past (room, lead) p g = of_phase p (runs_alike start past (Between room) p lead g)
  where
    of_phase : (p : Phase) → Alike (Between room) p → (other : Option ℕ) × (p ≡ Between other)
    of_phase (Between other) a = (other, refl)
    of_phase (Within row rest) a = absurd a
