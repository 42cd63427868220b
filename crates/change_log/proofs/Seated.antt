-- Seats in order are a woven history.
use Rattle.std.proofs.Common.{◌≡◌, ◌⊎◌, inl, inr, ℕ, ◌+◌, ◌*◌, ◌<◌, ◌≤◌, false, cond, List, [], ◌∷◌, ◌++◌, length, refl, sym, ap, ◌∙◌, arith, subst}
use Rattle.std.specs.Prelude.{Some, All, AllPairs, Contains, map, slice_get, ◌==◌, ◌↔◌}
use Rattle.std.specs.List.{AllByRecursion}
use Rattle.std.proofs.lemmas.Option.{slice_get_within, get_or_from_slice_get}
use Rattle.std.proofs.lemmas.List.{map-append, append-nil}
use Rattle.change_log.specs.History.{makes_change, IsReadAt, IsBefore, AreReadsAt, WovenFrom, IsWoven}
use Rattle.change_log.specs.Seats.{entry_of, read_seat, change_seat}
use Rattle.change_log.specs.declared.change.Change.{Change}
use Rattle.change_log.specs.declared.call.Answer.{Answer}
use Rattle.change_log.specs.declared.woven.Entry.TheVariants as entry
use Rattle.change_log.specs.declared.seat.Seat.{Seat}
use Rattle.change_log.proofs.Members.{In, Pairs, contains_from_in, in_from_contains, all_from_in, in_filter, filter_in, pairs_filter, pairs_map, all_pairs, sole, map_in, in_map}
use Rattle.change_log.proofs.Levels.{at_level, from_level, split_level, from_first, none_from, level_of, is_level}

-- twice the place, and one more for a change
abbrev pub rank : Seat → ℕ
rank s = 2 * s.place + cond s.is_change 1 0

-- an earlier rank, or the same with an earlier caller, or the same with an earlier number
abbrev pub Precedes : Seat → Seat → Type 0
Precedes s t = (rank s < rank t) ⊎ ((rank s ≡ rank t) × ((s.who < t.who) ⊎ ((s.who ≡ t.who) × (s.number < t.number))))

precedes_itself : (s : Seat) → Precedes s s → ⊥
precedes_itself s (inl lt) = omega (arith, lt)
precedes_itself s (inr (e, inl lt)) = omega (arith, lt)
precedes_itself s (inr (e, inr (f, lt))) = omega (arith, lt)

rises : (seats : List Seat) → Pairs Precedes seats → Pairs (λ s t. rank s ≤ rank t) seats
rises [] h = tt
rises (s ∷ seats) h = (all seats h.0, rises seats h.1)
  where
    all : (ts : List Seat) → AllByRecursion (Precedes s) ts → AllByRecursion (λ t. rank s ≤ rank t) ts
    all [] h = tt
    all (t ∷ ts) h = (elim h.0 [ inl lt ↦ omega (arith, lt) | inr tie ↦ omega (arith, tie.0) ], all ts h.1)

abbrev pub IsSeat : List Change → List Answer → Seat → Type 0
IsSeat changes answers s =
    ((a : Answer) × (slice_get answers s.number ≡ Some a) × (makes_change changes a ≡ false) × (s ≡ read_seat s.number a))
    ⊎ ((s.number < length changes) × (s ≡ change_seat s.number))

-- the seats of all reads and changes, in order
pub record AreSeated (changes : List Change) (answers : List Answer) (seats : List Seat) : Type 0 where
  pub ordered : Pairs Precedes seats
  pub members : (s : Seat) → In s seats → IsSeat changes answers s
  pub has_read : (i : ℕ) (a : Answer) → slice_get answers i ≡ Some a → makes_change changes a ≡ false → In (read_seat i a) seats
  pub has_change : (p : ℕ) → p < length changes → In (change_seat p) seats

module _ (changes : List Change) (answers : List Answer) (seats : List Seat) (h : AreSeated changes answers seats) (within : All (λ a. a.place ≤ length changes) answers) where
  abbrev reads_at : ℕ → List Seat
  reads_at p = at_level rank (2 * p) seats

  ReadFacts : ℕ → Seat → Type 0
  ReadFacts p s = (a : Answer) × (slice_get answers s.number ≡ Some a) × (makes_change changes a ≡ false) × (s ≡ read_seat s.number a) × (a.place ≡ p)

  read_facts : (p : ℕ) (s : Seat) → In s (reads_at p) → ReadFacts p s
  unfolding ReadFacts
  read_facts p s i =
      let f = in_filter (λ t. rank t == 2 * p) seats s i in
      let level : rank s ≡ 2 * p = level_of rank (2 * p) s f.1 in
      elim (h.members s f.0) [
        | inl read ↦ (read.0, read.1, read.2, read.3, place read.0 s.number (sym (ap rank read.3) ∙ level))
        | inr change ↦ absurd (odd s.number (sym (ap rank change.1) ∙ level))
      ]
    where
      place : (a : Answer) (n : ℕ) → rank (read_seat n a) ≡ 2 * p → a.place ≡ p
      place a n e = omega (arith, e)

      odd : (n : ℕ) → rank (change_seat n) ≡ 2 * p → ⊥
      odd n e = omega (arith, e)

  reads_all : (p i : ℕ) → Contains (map (λ s. s.number) (reads_at p)) i ↔ IsReadAt changes answers p i
  unfolding ReadFacts
  reads_all p i = (there, back)
    where
      there : Contains (map (λ s. s.number) (reads_at p)) i → IsReadAt changes answers p i
      there c =
          let m = in_map (λ s. s.number) (reads_at p) i (in_from_contains _ i c) in
          let f = read_facts p m.0 m.1 in
          (f.0, ap (slice_get answers) m.2 ∙ f.1, f.2, f.4)

      back : IsReadAt changes answers p i → Contains (map (λ s. s.number) (reads_at p)) i
      back (a, at, reads, e) =
          contains_from_in _ i (map_in (λ s. s.number) (reads_at p) (read_seat i a)
          (filter_in (λ t. rank t == 2 * p) seats (read_seat i a) (h.has_read i a at reads) (is_level rank (2 * p) (read_seat i a) (level a.place e))))
        where
          level : (q : ℕ) → q ≡ p → 2 * q + 0 ≡ 2 * p
          level q e = omega (arith, e)

  same_caller : (s : Seat) (p : ℕ) (a : Answer) → ReadFacts p s → slice_get answers s.number ≡ Some a → s.who ≡ a.who
  unfolding ReadFacts
  same_caller s p a f at =
      let same : f.0 ≡ a = some f.0 a (sym f.1 ∙ at) in
      ap (λ t. t.who) f.3 ∙ ap (λ b. b.who) same
    where
      some : (a b : Answer) → Some a ≡ Some b → a ≡ b
      some a b e = cc

  reads_in_order : (p : ℕ) → AllPairs (IsBefore answers) (map (λ s. s.number) (reads_at p))
  reads_in_order p =
      all_pairs (IsBefore answers) (map (λ s. s.number) (reads_at p)) (pairs_map (λ s. s.number) Precedes (IsBefore answers) (reads_at p) before (pairs_filter Precedes (λ t. rank t == 2 * p) seats h.ordered))
    where
      before : (s t : Seat) → In s (reads_at p) → In t (reads_at p) → Precedes s t → IsBefore answers s.number t.number
      before s t i j order a b at_a at_b =
          let s_who = same_caller s p a (read_facts p s i) at_a in
          let t_who = same_caller t p b (read_facts p t j) at_b in
          let s_level : rank s ≡ 2 * p = level_of rank (2 * p) s (in_filter (λ t. rank t == 2 * p) seats s i).1 in
          let t_level : rank t ≡ 2 * p = level_of rank (2 * p) t (in_filter (λ t. rank t == 2 * p) seats t j).1 in
          elim order [
            | inl lt ↦ absurd (omega (arith, lt, s_level, t_level))
            | inr tie ↦ elim tie.1 [
              | inl lt ↦ inl (omega (arith, lt, s_who, t_who))
              | inr same ↦ inr (sym s_who ∙ same.0 ∙ t_who, same.1)
            ]
          ]

  pub are_reads : (p : ℕ) → AreReadsAt changes answers p (map (λ s. s.number) (reads_at p))
  are_reads p = record { all = reads_all p; in_order = reads_in_order p }

  entries_of_reads : (ss : List Seat) → AllByRecursion (λ s. s.is_change ≡ false) ss → map entry_of ss ≡ map entry.Read (map (λ s. s.number) ss)
  entries_of_reads [] reads = refl
  entries_of_reads (s ∷ ss) reads =
      ap (λ b. cond b (entry.Change s.number) (entry.Read s.number) ∷ map entry_of ss) reads.0 ∙ ap (λ es. entry.Read s.number ∷ es) (entries_of_reads ss reads.1)

  read_entries : (p : ℕ) → map entry_of (reads_at p) ≡ map entry.Read (map (λ s. s.number) (reads_at p))
  unfolding ReadFacts
  read_entries p = entries_of_reads (reads_at p) (all_from_in (λ s. s.is_change ≡ false) (reads_at p) (λ s i. ap (λ t. t.is_change) (read_facts p s i).3))

  change_at : (p : ℕ) → p < length changes → at_level rank (2 * p + 1) seats ≡ change_seat p ∷ []
  change_at p lt =
      sole Precedes (change_seat p) (at_level rank (2 * p + 1) seats) (precedes_itself (change_seat p)) (pairs_filter Precedes (λ t. rank t == 2 * p + 1) seats h.ordered)
      (all_from_in (λ s. s ≡ change_seat p) (at_level rank (2 * p + 1) seats) is_it)
      (filter_in (λ t. rank t == 2 * p + 1) seats (change_seat p) (h.has_change p lt) (is_level rank (2 * p + 1) (change_seat p) refl))
    where
      is_it : (s : Seat) → In s (at_level rank (2 * p + 1) seats) → s ≡ change_seat p
      is_it s i =
          let f = in_filter (λ t. rank t == 2 * p + 1) seats s i in
          let level : rank s ≡ 2 * p + 1 = level_of rank (2 * p + 1) s f.1 in
          elim (h.members s f.0) [
            | inl read ↦ absurd (even read.0.place (sym (ap rank read.3) ∙ level))
            | inr change ↦ change.1 ∙ ap change_seat (place s.number (sym (ap rank change.1) ∙ level))
          ]
        where
          even : (q : ℕ) → 2 * q + 0 ≡ 2 * p + 1 → ⊥
          even q e = omega (arith, e)

          place : (n : ℕ) → 2 * n + 1 ≡ 2 * p + 1 → n ≡ p
          place n e = omega (arith, e)

  none_later : from_level rank (2 * length changes + 1) seats ≡ []
  none_later = none_from rank (2 * length changes + 1) seats (all_from_in (λ s. rank s < 2 * length changes + 1) seats below)
    where
      below : (s : Seat) → In s seats → rank s < 2 * length changes + 1
      below s i = elim (h.members s i) [
        | inl read ↦ subst (λ n. n < 2 * length changes + 1) (sym (ap rank read.3)) (within_place read.0 s.number read.1)
        | inr change ↦ subst (λ n. n < 2 * length changes + 1) (sym (ap rank change.1)) (omega (arith, change.0))
      ]
        where
          within_place : (a : Answer) (n : ℕ) → slice_get answers n ≡ Some a → 2 * a.place + 0 < 2 * length changes + 1
          within_place a n at =
              let inside : a.place ≤ length changes = subst (λ (b : Answer). b.place ≤ length changes) (get_or_from_slice_get answers n a a at) (within n a (slice_get_within answers n a at)) in
              omega (arith, inside)

  woven_from : (p : ℕ) (rest : List Change) → length rest + p ≡ length changes → WovenFrom changes answers p rest (map entry_of (from_level rank (2 * p) seats))
  woven_from p [] e = (
    map (λ s. s.number) (reads_at p),
    are_reads p,
    ap (map entry_of) (split_level rank (2 * p) seats (rises seats h.ordered) ∙ ap (λ l. reads_at p ++ l) last ∙ append-nil (reads_at p)) ∙ read_entries p,
  )
    where
      last : from_level rank (2 * p + 1) seats ≡ []
      last = ap (λ n. from_level rank (2 * n + 1) seats) (omega (arith, e)) ∙ none_later
  woven_from p (c ∷ rest) e = (
    map (λ s. s.number) (reads_at p),
    map entry_of (from_level rank (2 * (p + 1)) seats),
    are_reads p,
    woven_from (p + 1) rest (omega (arith, e)),
    ap (map entry_of) parts ∙ map-append entry_of (reads_at p) (change_seat p ∷ from_level rank (2 * (p + 1)) seats) ∙ ap (λ l. l ++ entry.Change p ∷ map entry_of (from_level rank (2 * (p + 1)) seats)) (read_entries p),
  )
    where
      parts : from_level rank (2 * p) seats ≡ reads_at p ++ change_seat p ∷ from_level rank (2 * (p + 1)) seats
      parts =
          split_level rank (2 * p) seats (rises seats h.ordered)
          ∙ ap (λ l. reads_at p ++ l) (split_level rank (2 * p + 1) seats (rises seats h.ordered) ∙ ap (λ l. l ++ from_level rank (2 * p + 1 + 1) seats) (change_at p (omega (arith, e)))
          ∙ ap (λ n. change_seat p ∷ from_level rank n seats) (omega arith))

  -- the entries of the seats in order
  pub woven : IsWoven changes answers (map entry_of seats)
  woven = subst (λ l. WovenFrom changes answers 0 changes (map entry_of l)) (from_first rank seats) (woven_from 0 changes (omega arith))
