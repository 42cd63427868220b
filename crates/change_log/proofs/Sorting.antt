-- All seats, sorted, are seats in order.
use Rattle.std.proofs.Common.{◌≡◌, ◌⊎◌, inl, inr, ℕ, zero, suc, ◌+◌, ◌*◌, ◌<◌, ◌≤◌, Bool, true, false, cond, List, [], ◌∷◌, ◌++◌, get_or, length, refl, sym, ap, ◌∙◌, arith, subst}
use Rattle.std.specs.Prelude.{Some, slice_get, sum_by, not, ◌==◌, nat_lt}
use Rattle.std.specs.List.{AllByRecursion}
use Rattle.std.specs.List.Sorted.{IsPermutation, IsSorted}
use Rattle.std.specs.Ordering.{nat_cmp, bool_cmp, ordering_then, is_lt}
use Rattle.std.specs.declared.cmp.Ordering.{Ordering}
use Rattle.std.specs.declared.cmp.Ordering.TheVariants.{Less, Equal, Greater}
use Rattle.std.specs.Cmp.{IsTotalOrder, nat_cmp_total, bool_cmp_total, on_total, then_total}
use Rattle.std.proofs.lemmas.Bool.Decides.{nat_tests}
use Rattle.std.proofs.lemmas.List.Sorted.{ranks_by, sorted_far, Contains-permutation, IsPermutation-sym, sum_by-IsPermutation}
use Rattle.std.proofs.lemmas.List.Sums.{sum_by-cons, sum_by-append}
use Rattle.change_log.specs.History.{makes_change}
use Rattle.change_log.specs.Seats.{read_seat, change_seat, read_seats, change_seats}
use Rattle.change_log.specs.declared.change.Change.{Change}
use Rattle.change_log.specs.declared.call.Answer.{Answer}
use Rattle.change_log.specs.declared.seat.Seat.{Seat}
use Rattle.change_log.proofs.Members.{In, Pairs, contains_from_in, in_from_contains, in_append, in_append_left, in_append_right, pairs_from_all}
use Rattle.change_log.proofs.Seated.{rank, Precedes, IsSeat, AreSeated}

abbrev pub seat_order : Seat → Seat → Ordering
seat_order s t = ordering_then (nat_cmp s.place t.place) (ordering_then (bool_cmp s.is_change t.is_change) (ordering_then (nat_cmp s.who t.who) (nat_cmp s.number t.number)))

seat_order_total : IsTotalOrder seat_order
seat_order_total =
    then_total (on_total (λ s. s.place) nat_cmp_total) (then_total (on_total (λ s. s.is_change) bool_cmp_total)
    (then_total (on_total (λ s. s.who) nat_cmp_total) (on_total (λ s. s.number) nat_cmp_total)))

compared : (m n : ℕ) → (((m < n) × (nat_cmp m n ≡ Less)) ⊎ ((m ≡ n) × (nat_cmp m n ≡ Equal))) ⊎ ((n < m) × (nat_cmp m n ≡ Greater))
compared m n = go (nat_lt m n) (m == n) refl refl
  where
    go : (a b : Bool) → nat_lt m n ≡ a → (m == n) ≡ b → (((m < n) × (nat_cmp m n ≡ Less)) ⊎ ((m ≡ n) × (nat_cmp m n ≡ Equal))) ⊎ ((n < m) × (nat_cmp m n ≡ Greater))
    go true b e f = inl (inl (grind (arith, nat_tests), ap (λ t. cond t Less (cond (m == n) Equal Greater)) e))
    go false true e f = inl (inr (grind (arith, nat_tests), ap (λ t. cond t Less (cond (m == n) Equal Greater)) e ∙ ap (λ t. cond t Equal Greater) f))
    go false false e f = inr (grind (arith, nat_tests), ap (λ t. cond t Less (cond (m == n) Equal Greater)) e ∙ ap (λ t. cond t Equal Greater) f)

-- as `Precedes`, or with the same caller and number
AtMost : Seat → Seat → Type 0
AtMost s t = (rank s < rank t) ⊎ ((s.is_change ≡ t.is_change) × (rank s ≡ rank t) × ((s.who < t.who) ⊎ ((s.who ≡ t.who) × (s.number ≤ t.number))))

bit : (b : Bool) → cond b 1 0 ≤ 1
bit true = omega arith
bit false = omega arith

lt_less : (r o : Ordering) → r ≡ Less → is_lt (ordering_then r o) ≡ false → ⊥
lt_less Less o e h = cc
lt_less Equal o e h = cc
lt_less Greater o e h = cc

lt_equal : (r o : Ordering) → r ≡ Equal → is_lt (ordering_then r o) ≡ false → is_lt o ≡ false
lt_equal Less o e h = absurd cc
lt_equal Equal o e h = h
lt_equal Greater o e h = absurd cc

at_most : (s t : Seat) → is_lt (seat_order t s) ≡ false → AtMost s t
unfolding AtMost
at_most s t h = elim (compared t.place s.place) [
  | inl up ↦ elim up [
    | inl lt ↦ absurd (lt_less (nat_cmp t.place s.place) (ordering_then (bool_cmp t.is_change s.is_change) (ordering_then (nat_cmp t.who s.who) (nat_cmp t.number s.number))) lt.1 h)
    | inr eq ↦ by_kind s.is_change t.is_change refl refl eq.0 (lt_equal (nat_cmp t.place s.place) (ordering_then (bool_cmp t.is_change s.is_change) (ordering_then (nat_cmp t.who s.who) (nat_cmp t.number s.number))) eq.1 h)
  ]
  | inr gt ↦ inl (omega (arith, gt.0, bit s.is_change, bit t.is_change))
]
  where
    by_who : s.is_change ≡ t.is_change → t.place ≡ s.place → is_lt (ordering_then (nat_cmp t.who s.who) (nat_cmp t.number s.number)) ≡ false →
        (rank s < rank t) ⊎ ((s.is_change ≡ t.is_change) × (rank s ≡ rank t) × ((s.who < t.who) ⊎ ((s.who ≡ t.who) × (s.number ≤ t.number))))
    by_who k p h = elim (compared t.who s.who) [
      | inl up ↦ elim up [
        | inl lt ↦ absurd (lt_less (nat_cmp t.who s.who) (nat_cmp t.number s.number) lt.1 h)
        | inr eq ↦ inr (k, cc (k, p), inr (sym eq.0, number (lt_equal (nat_cmp t.who s.who) (nat_cmp t.number s.number) eq.1 h)))
      ]
      | inr gt ↦ inr (k, cc (k, p), inl gt.0)
    ]
      where
        number : is_lt (nat_cmp t.number s.number) ≡ false → s.number ≤ t.number
        number h = grind (arith, nat_tests)

    by_kind : (b b' : Bool) → s.is_change ≡ b → t.is_change ≡ b' → t.place ≡ s.place → is_lt (ordering_then (bool_cmp t.is_change s.is_change) (ordering_then (nat_cmp t.who s.who) (nat_cmp t.number s.number))) ≡ false →
        (rank s < rank t) ⊎ ((s.is_change ≡ t.is_change) × (rank s ≡ rank t) × ((s.who < t.who) ⊎ ((s.who ≡ t.who) × (s.number ≤ t.number))))
    by_kind true true e f p h = by_who (e ∙ sym f) p (lt_equal (bool_cmp t.is_change s.is_change) _ (ap (λ b. bool_cmp b s.is_change) f ∙ ap (bool_cmp true) e) h)
    by_kind false false e f p h = by_who (e ∙ sym f) p (lt_equal (bool_cmp t.is_change s.is_change) _ (ap (λ b. bool_cmp b s.is_change) f ∙ ap (bool_cmp false) e) h)
    by_kind true false e f p h = absurd (lt_less (bool_cmp t.is_change s.is_change) _ (ap (λ b. bool_cmp b s.is_change) f ∙ ap (bool_cmp false) e) h)
    by_kind false true e f p h =
        let s_rank : rank s ≡ 2 * s.place + 0 = ap (λ b. 2 * s.place + cond b 1 0) e in
        let t_rank : rank t ≡ 2 * t.place + 1 = ap (λ b. 2 * t.place + cond b 1 0) f in
        inl (omega (arith, s_rank, t_rank, p))

-- one for each seat of this kind and number
abbrev same_kind : Bool → Bool → Bool
same_kind a b = cond a b (not b)

abbrev marks : Bool → ℕ → Seat → ℕ
marks kind number s = cond (same_kind s.is_change kind) (cond (s.number == number) 1 0) 0

abbrev times : Bool → ℕ → List Seat → ℕ
times kind number seats = sum_by (marks kind number) seats

own_mark : (s : Seat) → marks s.is_change s.number s ≡ 1
own_mark s = ap (λ b. cond b (cond (s.number == s.number) 1 0) 0) (itself s.is_change) ∙ ap (λ b. cond b 1 0) (equal s.number)
  where
    itself : (b : Bool) → same_kind b b ≡ true
    itself true = refl
    itself false = refl

    equal : (n : ℕ) → (n == n) ≡ true
    equal n = grind (arith, nat_tests)

in_times : (s : Seat) (seats : List Seat) → In s seats → 1 ≤ times s.is_change s.number seats
in_times s [] i = absurd i
in_times s (t ∷ seats) (inl e) =
    let here : marks s.is_change s.number t ≡ 1 = ap (marks s.is_change s.number) (sym e) ∙ own_mark s in
    omega (arith, here, sum_by-cons (marks s.is_change s.number) t seats)
in_times s (t ∷ seats) (inr i) = omega (arith, in_times s seats i, sum_by-cons (marks s.is_change s.number) t seats)

-- where no two seats have the same kind and number, in order is strictly in order
strictly : (seats : List Seat) → Pairs AtMost seats → ((kind : Bool) (number : ℕ) → times kind number seats ≤ 1) → Pairs Precedes seats
unfolding AtMost
strictly [] h once = tt
strictly (s ∷ seats) h once = (all seats h.0 (λ t i. i), strictly seats h.1 (λ kind number. omega (arith, once kind number, sum_by-cons (marks kind number) s seats)))
  where
    apart : (t : Seat) → In t seats → s.is_change ≡ t.is_change → s.number ≡ t.number → ⊥
    apart t i k n =
        let here : marks t.is_change t.number s ≡ 1 = ap (λ b. marks b t.number s) (sym k) ∙ ap (λ m. marks s.is_change m s) (sym n) ∙ own_mark s in
        omega (arith, here, in_times t seats i, once t.is_change t.number, sum_by-cons (marks t.is_change t.number) s seats)

    one : (t : Seat) → In t seats → AtMost s t → Precedes s t
    one t i (inl lt) = inl lt
    one t i (inr (k, r, inl lt)) = inr (r, inl lt)
    one t i (inr (k, r, inr (w, le))) = inr (r, inr (w, omega (arith, le, apart t i k)))

    all : (ts : List Seat) → AllByRecursion (AtMost s) ts → ((t : Seat) → In t ts → In t seats) → AllByRecursion (Precedes s) ts
    all [] h within = tt
    all (t ∷ ts) h within = (one t (within t (inl refl)) h.0, all ts h.1 (λ u i. within u (inr i)))

in_read_seats : (answers : List Answer) (n : ℕ) (s : Seat) → In s (read_seats n answers) →
    (k : ℕ) × (a : Answer) × (s ≡ read_seat (n + k) a) × (slice_get answers k ≡ Some a) × (makes_change [] a ≡ false)
in_read_seats [] n s i = absurd i
in_read_seats (a ∷ answers) n s i = go (makes_change [] a) refl (in_read_seats answers (n + 1) s) i
  where
    go : (b : Bool) → makes_change [] a ≡ b →
        (In s (read_seats (n + 1) answers) → (k : ℕ) × (x : Answer) × (s ≡ read_seat (n + 1 + k) x) × (slice_get answers k ≡ Some x) × (makes_change [] x ≡ false)) →
        In s (cond b (read_seats (n + 1) answers) (read_seat n a ∷ read_seats (n + 1) answers)) →
        (k : ℕ) × (x : Answer) × (s ≡ read_seat (n + k) x) × (slice_get (a ∷ answers) k ≡ Some x) × (makes_change [] x ≡ false)
    go true t later i = let l = later i in (suc l.0, l.1, l.2 ∙ ap (λ m. read_seat m l.1) (omega arith), l.3, l.4)
    go false t later (inl e) = (zero, a, e ∙ ap (λ m. read_seat m a) (omega arith), refl, t)
    go false t later (inr i) = let l = later i in (suc l.0, l.1, l.2 ∙ ap (λ m. read_seat m l.1) (omega arith), l.3, l.4)

read_in_seats : (answers : List Answer) (n k : ℕ) (a : Answer) → slice_get answers k ≡ Some a → makes_change [] a ≡ false → In (read_seat (n + k) a) (read_seats n answers)
read_in_seats [] n k a at reads = absurd cc
read_in_seats (x ∷ answers) n zero a at reads =
    let same : x ≡ a = cc in
    first (makes_change [] x) (ap (λ y. makes_change [] y) same ∙ reads) (ap (λ m. read_seat m a) (omega arith) ∙ ap (read_seat n) (sym same))
  where
    first : (b : Bool) → b ≡ false → read_seat (n + zero) a ≡ read_seat n x → In (read_seat (n + zero) a) (cond b (read_seats (n + 1) answers) (read_seat n x ∷ read_seats (n + 1) answers))
    first true t e = absurd cc
    first false t e = inl e
read_in_seats (x ∷ answers) n (suc k) a at reads =
    later (makes_change [] x) (subst (λ m. In (read_seat m a) (read_seats (n + 1) answers)) (omega arith) (read_in_seats answers (n + 1) k a at reads))
  where
    later : (b : Bool) → In (read_seat (n + suc k) a) (read_seats (n + 1) answers) → In (read_seat (n + suc k) a) (cond b (read_seats (n + 1) answers) (read_seat n x ∷ read_seats (n + 1) answers))
    later true i = i
    later false i = inr i

in_change_seats : (changes : List Change) (n : ℕ) (s : Seat) → In s (change_seats n changes) → (k : ℕ) × (k < length changes) × (s ≡ change_seat (n + k))
in_change_seats [] n s i = absurd i
in_change_seats (c ∷ changes) n s (inl e) = (zero, omega arith, e ∙ ap change_seat (omega arith))
in_change_seats (c ∷ changes) n s (inr i) = let l = in_change_seats changes (n + 1) s i in (suc l.0, omega (arith, l.1), l.2 ∙ ap change_seat (omega arith))

change_in_seats : (changes : List Change) (n k : ℕ) → k < length changes → In (change_seat (n + k)) (change_seats n changes)
change_in_seats [] n k lt = absurd (omega (arith, lt))
change_in_seats (c ∷ changes) n zero lt = inl (ap change_seat (omega arith))
change_in_seats (c ∷ changes) n (suc k) lt = inr (subst (λ m. In (change_seat m) (change_seats (n + 1) changes)) (omega arith) (change_in_seats changes (n + 1) k (omega (arith, lt))))

unequal : (n m : ℕ) → m < n → (n == m) ≡ false
unequal n m lt = grind (arith, nat_tests)

equal : (n m : ℕ) → (n == m) ≡ true → n ≡ m
equal n m t = grind (arith, nat_tests)

reads_below : (m n : ℕ) (answers : List Answer) → m < n → times false m (read_seats n answers) ≡ 0
reads_below m n [] lt = refl
reads_below m n (a ∷ answers) lt =
    elim (makes_change [] a) as (λ b. times false m (cond b (read_seats (n + 1) answers) (read_seat n a ∷ read_seats (n + 1) answers)) ≡ 0) [
      | true ↦ reads_below m (n + 1) answers (omega (arith, lt))
      | false ↦
          let here : cond {A = ℕ} (n == m) 1 0 ≡ 0 = ap (λ b. cond b 1 0) (unequal n m lt) in
          omega (arith, here, reads_below m (n + 1) answers (omega (arith, lt)), sum_by-cons (marks false m) (read_seat n a) (read_seats (n + 1) answers))
    ]

one_more : (m n rest : ℕ) → rest ≤ 1 → (m < n + 1 → rest ≡ 0) → cond (n == m) 1 0 + rest ≤ 1
one_more m n rest few low = go (n == m) refl
  where
    go : (b : Bool) → (n == m) ≡ b → cond b 1 0 + rest ≤ 1
    go true t = let same : n ≡ m = equal n m t in omega (arith, low (omega (arith, same)))
    go false t = omega (arith, few)

reads_once : (m n : ℕ) (answers : List Answer) → times false m (read_seats n answers) ≤ 1
reads_once m n [] = omega arith
reads_once m n (a ∷ answers) =
    elim (makes_change [] a) as (λ b. times false m (cond b (read_seats (n + 1) answers) (read_seat n a ∷ read_seats (n + 1) answers)) ≤ 1) [
      | true ↦ reads_once m (n + 1) answers
      | false ↦
          let more = one_more m n (times false m (read_seats (n + 1) answers)) (reads_once m (n + 1) answers) (reads_below m (n + 1) answers) in
          subst (λ t. t ≤ 1) (sym (sum_by-cons (marks false m) (read_seat n a) (read_seats (n + 1) answers))) more
    ]

reads_no_change : (m n : ℕ) (answers : List Answer) → times true m (read_seats n answers) ≡ 0
reads_no_change m n [] = refl
reads_no_change m n (a ∷ answers) =
    elim (makes_change [] a) as (λ b. times true m (cond b (read_seats (n + 1) answers) (read_seat n a ∷ read_seats (n + 1) answers)) ≡ 0) [
      | true ↦ reads_no_change m (n + 1) answers
      | false ↦ sum_by-cons (marks true m) (read_seat n a) (read_seats (n + 1) answers) ∙ ap (λ t. 0 + t) (reads_no_change m (n + 1) answers)
    ]

changes_below : (m n : ℕ) (changes : List Change) → m < n → times true m (change_seats n changes) ≡ 0
changes_below m n [] lt = refl
changes_below m n (c ∷ changes) lt =
    let here : cond {A = ℕ} (n == m) 1 0 ≡ 0 = ap (λ b. cond b 1 0) (unequal n m lt) in
    omega (arith, here, changes_below m (n + 1) changes (omega (arith, lt)), sum_by-cons (marks true m) (change_seat n) (change_seats (n + 1) changes))

changes_once : (m n : ℕ) (changes : List Change) → times true m (change_seats n changes) ≤ 1
changes_once m n [] = omega arith
changes_once m n (c ∷ changes) =
    subst (λ t. t ≤ 1) (sym (sum_by-cons (marks true m) (change_seat n) (change_seats (n + 1) changes)))
    (one_more m n (times true m (change_seats (n + 1) changes)) (changes_once m (n + 1) changes) (changes_below m (n + 1) changes))

changes_no_read : (m n : ℕ) (changes : List Change) → times false m (change_seats n changes) ≡ 0
changes_no_read m n [] = refl
changes_no_read m n (c ∷ changes) = sum_by-cons (marks false m) (change_seat n) (change_seats (n + 1) changes) ∙ ap (λ t. 0 + t) (changes_no_read m (n + 1) changes)

module _ (changes : List Change) (answers : List Answer) where
  abbrev all_seats : List Seat
  all_seats = read_seats 0 answers ++ change_seats 0 changes

  once : (kind : Bool) (m : ℕ) → times kind m all_seats ≤ 1
  once true m = omega (arith, sum_by-append (marks true m) (read_seats 0 answers) (change_seats 0 changes), reads_no_change m 0 answers, changes_once m 0 changes)
  once false m = omega (arith, sum_by-append (marks false m) (read_seats 0 answers) (change_seats 0 changes), changes_no_read m 0 changes, reads_once m 0 answers)

  is_seat : (s : Seat) → In s all_seats → IsSeat changes answers s
  is_seat s i = elim (in_append (read_seats 0 answers) (change_seats 0 changes) s i) [
    | inl read ↦
        let r = in_read_seats answers 0 s read in
        let number : s.number ≡ r.0 = ap (λ t. t.number) r.2 ∙ none r.0 in
        inl (r.1, ap (slice_get answers) number ∙ r.3, r.4, r.2 ∙ ap (λ n. read_seat n r.1) (none r.0 ∙ sym number))
    | inr change ↦
        let r = in_change_seats changes 0 s change in
        let number : s.number ≡ r.0 = ap (λ t. t.number) r.2 ∙ none r.0 in
        inr (subst (λ n. n < length changes) (sym number) r.1, r.2 ∙ ap change_seat (none r.0 ∙ sym number))
  ]
    where
      none : (k : ℕ) → 0 + k ≡ k
      none k = omega arith

  -- the seats of all, sorted, are in order
  pub sorted_seats : (seats : List Seat) → IsPermutation all_seats seats → IsSorted seat_order seats → AreSeated changes answers seats
  sorted_seats seats moved sorted = record {
    ordered = strictly seats
        (pairs_from_all AtMost seats (λ i j d lt within. at_most (get_or seats i d) (get_or seats j d) (sorted_far (λ s t. is_lt (seat_order s t)) (ranks_by seat_order_total (λ s. s)) seats sorted i j d (omega (arith, lt)) within)))
        (λ kind m. subst (λ n. n ≤ 1) (sym (sum_by-IsPermutation (marks kind m) all_seats seats moved)) (once kind m));
    members = λ s i. is_seat s (in_from_contains all_seats s (Contains-permutation seats all_seats s (IsPermutation-sym all_seats seats moved) (contains_from_in seats s i)));
    has_read = λ i a at reads. here (read_seat i a) (in_append_left (read_seats 0 answers) (change_seats 0 changes) (read_seat i a) (subst (λ n. In (read_seat n a) (read_seats 0 answers)) (none i) (read_in_seats answers 0 i a at reads)));
    has_change = λ p lt. here (change_seat p) (in_append_right (read_seats 0 answers) (change_seats 0 changes) (change_seat p) (subst (λ n. In (change_seat n) (change_seats 0 changes)) (none p) (change_in_seats changes 0 p lt)));
  }
    where
      none : (k : ℕ) → 0 + k ≡ k
      none k = omega arith

      here : (s : Seat) → In s all_seats → In s seats
      here s i = in_from_contains seats s (Contains-permutation all_seats seats s moved (contains_from_in all_seats s i))
