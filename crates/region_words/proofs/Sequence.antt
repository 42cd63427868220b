-- As long as checksums tell payloads apart, the sequence never falls, and each store of it raises it by one.
use Rattle.std.proofs.Common.{◌≡◌, ◌⊎◌, ℕ, ◌+◌, ◌*◌, ◌/◌, ◌≤◌, Bool, true, false, cond, List, [], ◌∷◌, ◌++◌, length, refl, sym, append_assoc, ap, ◌∙◌, inl, inr, arith, subst}
use Rattle.std.specs.Prelude.{Option, Some, None, unwrap_or, nat_lt, if◌then◌else◌, ◌==◌, ◌||◌}
use Rattle.std.specs.List.{list_any, AllByRecursion}
use Rattle.lock_rules.specs.Locks.{Locks, holds_exclusive}
use Rattle.region_words.specs.declared.event.TornWord.{TornWord}
use Rattle.std.proofs.lemmas.List.Folds.{list_any-append}
use Rattle.std.proofs.lemmas.Bool.Decides.{nat_tests}
use Rattle.crc_words.specs.Crc.{crc_from}
use Rattle.expiring_map.specs.Map.{Map}
use Rattle.meta_record.proofs.WordLemmas.{same_word, other_word}
use Rattle.region_words.specs.Region.{Region, record_of, file_size, flag}
use Rattle.region_words.specs.Past.{region_after, region_step, locks_after}
use Rattle.region_words.specs.Rows.{append_stores, standing, Row, Append, Pack, Clear, Enable, Disable, Restore, Discard, Recover, SizeRepair, events_of, stores_from, store_data, store_meta, close_sizes, payload_stores, confirmed_by_checksum, confirmed_by_header, mark_of, item_of, size_after, payload_after}
use Rattle.region_words.specs.Standings.{words_of, tail_bytes}
use Rattle.region_words.specs.declared.standing.Standing.{Standing}
use Rattle.region_words.proofs.OfRegion.{growth, next_sequence, write_back_stores, switch_stores, recover_stores}
use Rattle.region_words.specs.Lawful.{Phase, Between, Within, Reaches, Lawful, IsPossible, IsStep, Advances, MayComeNext, Dies, phase_with, map_after}
use Rattle.region_words.specs.Outcome.{stores_sequence}
use Rattle.region_words.specs.declared.event.Side.TheVariants.{Data, Meta}
use Rattle.region_words.specs.declared.event.Mark.{Mark}
use Rattle.region_words.specs.declared.event.What.{What}
use Rattle.region_words.specs.declared.event.What.TheVariants.{Store, Grow, Lock, Unlock, Died}
use Rattle.region_words.specs.declared.event.Event.{Event}

-- none of these events stores the sequence
abbrev pub NoSequence : List What → Type 0
NoSequence events = list_any stores_sequence events ≡ false

-- none does, or one that raises it from s
abbrev pub Raises : ℕ → List What → Type 0
Raises s events = NoSequence events ⊎ ((front back : List What) × NoSequence front × NoSequence back × (events ≡ front ++ store_meta 2 (s + 1) ∷ back))

none_joined : (xs ys : List What) → NoSequence xs → NoSequence ys → NoSequence (xs ++ ys)
none_joined xs ys p q = list_any-append stores_sequence xs ys ∙ (λ i. p i || q i)

none_in_stores : (w : ℕ) (vs : List ℕ) → NoSequence (stores_from w vs)
none_in_stores w [] = refl
none_in_stores w (v ∷ vs) = none_in_stores (w + 1) vs

none_in_growth : (r : Region) (size : Option ℕ) → NoSequence (growth r size)
none_in_growth r size = go (nat_lt (file_size r) (unwrap_or size 0))
  where
    go : (b : Bool) → NoSequence (cond b (Grow (unwrap_or size 0) ∷ []) [])
    go true = refl
    go false = refl

raises_after : (s : ℕ) (xs ys : List What) → NoSequence xs → Raises s ys → Raises s (xs ++ ys)
raises_after s xs ys n (inl q) = inl (none_joined xs ys n q)
raises_after s xs ys n (inr (front, back, p, q, e)) =
    inr (xs ++ front, back, none_joined xs front n p, q, ap (λ z. xs ++ z) e ∙ sym (append_assoc xs front (store_meta 2 (s + 1) ∷ back)))

raises_before : (s : ℕ) (xs ys : List What) → Raises s xs → NoSequence ys → Raises s (xs ++ ys)
raises_before s xs ys (inl p) n = inl (none_joined xs ys p n)
raises_before s xs ys (inr (front, back, p, q, e)) n =
    inr (front, back ++ ys, p, none_joined back ys q n, ap (λ z. z ++ ys) e ∙ append_assoc front (store_meta 2 (s + 1) ∷ back) ys)

raises_here : (s : ℕ) (rest : List What) → NoSequence rest → Raises s (store_meta 2 (s + 1) ∷ rest)
raises_here s rest n = inr ([], rest, refl, n, refl)

module _ (r : Region) (size : Option ℕ) (new : List ℕ) (mark : Mark) where
  version_store : (b : Bool) → NoSequence (cond b (store_meta 1 3 ∷ []) [])
  version_store true = refl
  version_store false = refl

  write_back_raises : Raises ((record_of r).sequence) (write_back_stores r size new mark)
  write_back_raises =
      let q = (record_of r).sequence in
      let version = if (record_of r).version == 0 then store_meta 1 3 ∷ [] else [] in
      let first = raises_after q (growth r size) (next_sequence r ∷ version) (none_in_growth r size) (raises_here q version (version_store ((record_of r).version == 0))) in
      let second = raises_before q (growth r size ++ next_sequence r ∷ version) (payload_stores new) first (none_in_stores 1 (words_of new)) in
      raises_before q (growth r size ++ next_sequence r ∷ version ++ payload_stores new) (confirmed_by_checksum new mark) second refl

  switch_raises : (flags : ℕ) → Raises ((record_of r).sequence) (switch_stores r size flags new mark)
  switch_raises flags =
      let q = (record_of r).sequence in
      let first = raises_after q (growth r size) (next_sequence r ∷ store_meta 1 4 ∷ close_sizes) (none_in_growth r size) (raises_here q (store_meta 1 4 ∷ close_sizes) refl) in
      let second = raises_before q (growth r size ++ next_sequence r ∷ store_meta 1 4 ∷ close_sizes) (payload_stores new) first (none_in_stores 1 (words_of new)) in
      raises_before q (growth r size ++ next_sequence r ∷ store_meta 1 4 ∷ close_sizes ++ payload_stores new) (store_meta 26 flags ∷ confirmed_by_header new mark) second refl

  recover_raises : Raises ((record_of r).sequence) (recover_stores r size new mark)
  recover_raises =
      let q = (record_of r).sequence in
      let first = raises_before q (next_sequence r ∷ close_sizes) (growth r size) (raises_here q close_sizes refl) (none_in_growth r size) in
      let second = raises_before q (next_sequence r ∷ close_sizes ++ growth r size) (payload_stores new) first (none_in_stores 1 (words_of new)) in
      raises_before q (next_sequence r ∷ close_sizes ++ growth r size ++ payload_stores new) (confirmed_by_header new mark) second refl

append_none : (s : Standing) (item : List ℕ) (mark : Mark) → NoSequence (append_stores s item mark)
append_none s item mark =
    none_joined (stores_from (1 + s.size / 4) (words_of (tail_bytes s ++ item))) (store_data 0 (s.size + length item) ∷ Store Meta 0 (crc_from s.checksum item) mark ∷ store_meta 7 (s.size + length item) ∷ [])
    (none_in_stores (1 + s.size / 4) (words_of (tail_bytes s ++ item))) refl

-- each row raises the sequence once at most, from what it is when the row begins
row_raises : (r : Region) (m : Map) (who : ℕ) (row : Row) → Raises ((record_of r).sequence) (events_of r m who row)
unfolding events_of
row_raises r m who (Append a) = inl (append_none (standing r) (item_of (flag r) a) (mark_of r who (Append a)))
row_raises r m who (Pack now need) = write_back_raises r (size_after r m (Pack now need)) (payload_after r m (Pack now need)) (mark_of r who (Pack now need))
row_raises r m who Clear = write_back_raises r (size_after r m Clear) (payload_after r m Clear) (mark_of r who Clear)
row_raises r m who (Enable now seconds) = switch_raises r (size_after r m (Enable now seconds)) (payload_after r m (Enable now seconds)) (mark_of r who (Enable now seconds)) 1
row_raises r m who (Disable now) = switch_raises r (size_after r m (Disable now)) (payload_after r m (Disable now)) (mark_of r who (Disable now)) 0
row_raises r m who Restore = inr ([], _, refl, refl, refl)
row_raises r m who Discard = inr ([], _, refl, refl, refl)
row_raises r m who Recover = recover_raises r (size_after r m Recover) (payload_after r m Recover) (mark_of r who Recover)
row_raises r m who SizeRepair = inl refl

neither : (a b : Bool) → (a || b) ≡ false → (a ≡ false) × (b ≡ false)
neither true b e = absurd cc
neither false b e = (refl, e)

-- the first of such events leaves the sequence to the rest, or raises it
raises_first : (s : ℕ) (what : What) (rest : List What) → Raises s (what ∷ rest) →
    ((stores_sequence what ≡ false) × Raises s rest) ⊎ ((what ≡ store_meta 2 (s + 1)) × NoSequence rest)
raises_first s what rest (inl n) = let both = neither _ _ n in inl (both.0, inl both.1)
raises_first s what rest (inr ([], back, p, q, e)) = let same : rest ≡ back = cc in inr (cc, ap (list_any stores_sequence) same ∙ q)
raises_first s what rest (inr (f ∷ front, back, p, q, e)) =
    let both = neither _ _ p in
    let same : what ≡ f = cc in
    let more : rest ≡ front ++ store_meta 2 (s + 1) ∷ back = cc in
    inl (ap stores_sequence same ∙ both.0, inr (front, back, both.1, q, more))

-- an event that isn't a store of the sequence leaves it
keeps : (r : Region) (what : What) → stores_sequence what ≡ false →
    ((word value : ℕ) (mark : Mark) → what ≡ Store Meta word value mark → 4 * word + 4 ≤ length r.meta_bytes) → (record_of (region_step r what)).sequence ≡ (record_of r).sequence
keeps r (Store Meta word value mark) n inside = other_word r.meta_bytes word value (inside word value mark refl) 2 (grind (arith, nat_tests))
keeps r (Store Data word value mark) n inside = refl
keeps r (Grow size) n inside = refl
keeps r (Lock kind) n inside = refl
keeps r Unlock n inside = refl
keeps r (Died None) n inside = refl
keeps r (Died (Some torn)) n inside = refl

-- what a phase keeps for the sequence
PhaseRaises : Region → Phase → Type 0
PhaseRaises r (Between room) = Unit {0}
PhaseRaises r (Within row rest) = Raises ((record_of r).sequence) rest

-- an event leaves the sequence and doesn't store it, or raises it by one
abbrev pub Stays : Region → What → Type 0
Stays r what =
    ((stores_sequence what ≡ false) × ((record_of (region_step r what)).sequence ≡ (record_of r).sequence))
    ⊎ ((record_of (region_step r what)).sequence ≡ (record_of r).sequence + 1)

to_come : (r : Region) (m : Map) (who : ℕ) (old : Phase) (row : Row) (events : List What) → MayComeNext r m who old row events → PhaseRaises r old → Raises ((record_of r).sequence) events
unfolding PhaseRaises
to_come r m who (Within row rest) next events c p = subst (Raises ((record_of r).sequence)) (sym c.1) p
to_come r m who (Between room) next events c p = subst (Raises ((record_of r).sequence)) (sym c.1) (row_raises r m who next)

after_row : (r : Region) (row : Row) (rest : List What) → Raises ((record_of r).sequence) rest → PhaseRaises r (phase_with row rest)
unfolding PhaseRaises
after_row r row [] h = tt
after_row r row (what ∷ rest) h = h

module _ (r : Region) (m : Map) (locks : Locks) (who : ℕ) where
  inside_meta : (what : What) → IsPossible r locks who what → (word value : ℕ) (mark : Mark) → what ≡ Store Meta word value mark → 4 * word + 4 ≤ length r.meta_bytes
  inside_meta what p word value mark e = (subst (IsPossible r locks who) e p).1

  raised_to : (what : What) (v : ℕ) → IsPossible r locks who what → what ≡ store_meta 2 v → (record_of (region_step r what)).sequence ≡ v
  raised_to what v p e =
      let is = subst (IsPossible r locks who) e p in
      ap (λ w. (record_of (region_step r w)).sequence) e ∙ same_word r.meta_bytes 2 v is.1 is.2

  row_step : (old : Phase) (what : What) (new : Phase) → IsPossible r locks who what → Advances r m who old what new → PhaseRaises r old →
      Stays r what × PhaseRaises (region_step r what) new
  row_step old what new p (row, rest, c, e) h =
      elim (raises_first ((record_of r).sequence) what rest (to_come r m who old row (what ∷ rest) c h)) [
        | inl more ↦
            let same = keeps r what more.0 (inside_meta what p) in (
              inl (more.0, same),
              subst (PhaseRaises (region_step r what)) (sym e) (after_row (region_step r what) row rest (subst (λ s. Raises s rest) (sym same) more.1)),
            )
        | inr raise ↦ (
          inr (raised_to what ((record_of r).sequence + 1) p raise.0),
          subst (PhaseRaises (region_step r what)) (sym e) (after_row (region_step r what) row rest (inl raise.1)),
        )
      ]

  death_step : (b : Bool) (old : Phase) (torn : Option TornWord) (new : Phase) → Dies b r m who old torn new → PhaseRaises r old →
      Stays r (Died torn) × PhaseRaises (region_step r (Died torn)) new
  unfolding PhaseRaises
  death_step true old None new c h = (inl (refl, refl), subst (PhaseRaises r) (sym c.1) tt)
  death_step true old (Some torn) new c h = (inl (refl, refl), subst (PhaseRaises (region_step r (Died (Some torn)))) (sym c.1) tt)
  death_step false old None new c h = (inl (refl, refl), subst (PhaseRaises r) (sym c) h)
  death_step false (Between room) (Some torn) new c h = (inl (refl, refl), subst (PhaseRaises (region_step r (Died (Some torn)))) (sym c) tt)
  death_step false (Within row rest) (Some torn) new c h = (inl (refl, refl), subst (PhaseRaises (region_step r (Died (Some torn)))) (sym c) h)

  step : (old : Phase) (what : What) (new : Phase) → IsPossible r locks who what → IsStep r m locks who old what new → PhaseRaises r old →
      Stays r what × PhaseRaises (region_step r what) new
  unfolding PhaseRaises
  step old (Store side word value mark) new p g h = row_step old (Store side word value mark) new p g h
  step old (Grow size) new p g h = row_step old (Grow size) new p g h
  step old (Lock kind) new p g h = (inl (refl, refl), subst (PhaseRaises r) (sym g) h)
  step old Unlock new p g h = (inl (refl, refl), subst (PhaseRaises r) (sym g.1) tt)
  step old (Died torn) new p g h = death_step (holds_exclusive locks who) old torn new g h

phase_raises : (start : Region) (past : List Event) (phase : Phase) → Lawful start past → Reaches start past phase → PhaseRaises (region_after start past) phase
unfolding PhaseRaises
phase_raises start [] phase l g = subst (PhaseRaises start) (sym g) tt
phase_raises start (e ∷ past) phase l g =
    (step (region_after start past) (map_after start past) (locks_after past) e.who g.0 e.what phase l.1.possible g.2 (phase_raises start past g.0 l.0 g.1)).1

-- none of these events stores the sequence
abbrev pub NoneRaises : List Event → Type 0
NoneRaises later = AllByRecursion (λ e. stores_sequence e.what ≡ false) later

-- the sequence never falls, and where it is the same again it was not stored
pub sequence_never_falls : (start : Region) (later past : List Event) (phase : Phase) → Lawful start (later ++ past) → Reaches start (later ++ past) phase →
    ((record_of (region_after start past)).sequence ≤ (record_of (region_after start (later ++ past))).sequence)
    × ((record_of (region_after start (later ++ past))).sequence ≡ (record_of (region_after start past)).sequence → NoneRaises later)
sequence_never_falls start [] past phase l g = (omega arith, λ e. tt)
sequence_never_falls start (e ∷ later) past phase l g =
    let before = sequence_never_falls start later past g.0 l.0 g.1 in
    let now = (step (region_after start (later ++ past)) (map_after start (later ++ past)) (locks_after (later ++ past)) e.who g.0 e.what phase l.1.possible g.2
    (phase_raises start (later ++ past) g.0 l.0 g.1)).0 in
    elim now [
      | inl stays ↦ (omega (arith, before.0, stays.1), λ same. (stays.0, before.1 (omega (arith, same, stays.1))))
      | inr more ↦ (omega (arith, before.0, more), λ same. absurd (omega (arith, before.0, more, same)))
    ]
