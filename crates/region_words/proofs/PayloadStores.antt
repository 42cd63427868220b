-- The stores of a payload, or of what is new of one: at each a death leaves what stands so far.
use Rattle.std.proofs.Common.{◌≡◌, ℕ, zero, suc, ◌+◌, ◌*◌, ◌-◌, ◌<◌, ◌≤◌, Bool, true, false, List, [], ◌∷◌, ◌++◌, length, get_or, take, drop, refl, sym, ap, ◌∙◌, arith, subst, append_assoc, length-append}
use Rattle.std.specs.Prelude.{All, Option, Some, ◌&&◌}
use Rattle.std.specs.List.{list_any}
use Rattle.std.specs.Int.{to_le_bytes, w32}
use Rattle.std.proofs.lemmas.List.{drop_at, take-append-le, get_or-append-add}
use Rattle.std.proofs.lemmas.List.Elements.{All-drop}
use Rattle.expiring_map.specs.Map.{Map}
use Rattle.meta_record.specs.Words.{word_at, with_word}
use Rattle.meta_record.proofs.WordLemmas.{length-with_word}
use Rattle.region_words.specs.Rows.{Row, stores_from, store_data}
use Rattle.region_words.specs.Standings.{words_of}
use Rattle.region_words.specs.Outcome.{stores_sequence, commits}
use Rattle.region_words.specs.declared.event.What.{What}
use Rattle.region_words.proofs.View.{View}
use Rattle.region_words.proofs.Kept.{IsApart, Holds, Fit, Within}
use Rattle.region_words.proofs.Changes.{data_set}
use Rattle.region_words.proofs.Safe.{Safe, Left}
use Rattle.region_words.proofs.Bytes.{IsMixOf, with_word_at, word_bytes, word_bytes_3, word_bytes_2, word_bytes_1, take_front, take_back, torn_bytes}

-- the stores of a payload raise no sequence and commit nothing
pub none_raises : (p : ℕ) (vs : List ℕ) (tail : List What) → list_any stores_sequence (stores_from p vs ++ tail) ≡ list_any stores_sequence tail
none_raises p [] tail = refl
none_raises p (v ∷ vs) tail = none_raises (p + 1) vs tail

pub none_commits : (p : ℕ) (vs : List ℕ) (tail : List What) → list_any commits (stores_from p vs ++ tail) ≡ list_any commits tail
none_commits p [] tail = refl
none_commits p (v ∷ vs) tail = none_commits (p + 1) vs tail

and_true : (b : Bool) → b ≡ (b && true)
and_true true = refl
and_true false = refl

-- four bytes behind a front are a word
word_behind : (pre rest : List ℕ) (a b c d j : ℕ) → length pre ≡ 4 * j → word_at (pre ++ a ∷ b ∷ c ∷ d ∷ rest) j ≡ a + 256 * b + 65536 * c + 16777216 * d
word_behind pre rest a b c d j e =
    let l = a ∷ b ∷ c ∷ d ∷ rest in
    omega (arith, one 0 (4 * j) (omega (arith, e)), one 1 (4 * j + 1) (omega (arith, e)), one 2 (4 * j + 2) (omega (arith, e)), one 3 (4 * j + 3) (omega (arith, e)))
  where
    one : (k i : ℕ) → length pre + k ≡ i → get_or (pre ++ a ∷ b ∷ c ∷ d ∷ rest) i 0 ≡ get_or (a ∷ b ∷ c ∷ d ∷ rest) k 0
    one k i f = ap (λ x. get_or (pre ++ a ∷ b ∷ c ∷ d ∷ rest) x 0) (sym f) ∙ get_or-append-add pre (a ∷ b ∷ c ∷ d ∷ rest) k 0

-- a torn word keeps the first n bytes
torn_front : (n j new x : ℕ) (pre mid : List ℕ) → length pre ≡ 4 * j → n ≤ length pre + 3 → 4 ≤ length mid → All (λ b. b < 256) (pre ++ mid) →
    IsMixOf (word_at (pre ++ mid) j) new x → take n (pre ++ mid) ≡ take n (pre ++ to_le_bytes w32 new ++ drop 4 mid) →
    take n (pre ++ to_le_bytes w32 x ++ drop 4 mid) ≡ take n (pre ++ mid)
torn_front n j new x pre [] e le four small mix same = absurd (omega arith)
torn_front n j new x pre (a ∷ []) e le four small mix same = absurd (omega arith)
torn_front n j new x pre (a ∷ b ∷ []) e le four small mix same = absurd (omega arith)
torn_front n j new x pre (a ∷ b ∷ c ∷ []) e le four small mix same = absurd (omega arith)
torn_front n j new x pre (a ∷ b ∷ c ∷ d ∷ rest) e le four small mix same =
    cases (n - length pre) refl
  where
    mid : List ℕ
    mid = a ∷ b ∷ c ∷ d ∷ rest

    assoc : (y : ℕ) → (pre ++ to_le_bytes w32 y) ++ rest ≡ pre ++ (to_le_bytes w32 y ++ rest)
    assoc y = append_assoc pre (to_le_bytes w32 y) rest

    bytes : All (λ b. b < 256) mid
    bytes = subst (All (λ b. b < 256)) (drop_at pre mid (length pre) refl) (All-drop (λ b. b < 256) (length pre) (pre ++ mid) small)

    b0 : a < 256
    b0 = bytes 0 0 (omega arith)

    b1 : b < 256
    b1 = bytes 1 0 (omega arith)

    b2 : c < 256
    b2 = bytes 2 0 (omega arith)

    b3 : d < 256
    b3 = bytes 3 0 (omega arith)

    short : (q : ℕ) → q ≤ 4 → (y : ℕ) → take q (to_le_bytes w32 y ++ rest) ≡ take q (to_le_bytes w32 y)
    short q le y = take-append-le q (to_le_bytes w32 y) rest (omega (arith, le))

    cases : (q : ℕ) → n - length pre ≡ q → take n ((pre ++ to_le_bytes w32 x) ++ rest) ≡ take n (pre ++ mid)
    cases zero f =
        ap (take n) (assoc x) ∙ take-append-le n pre (to_le_bytes w32 x ++ rest) (omega (arith, f)) ∙ sym (take-append-le n pre mid (omega (arith, f)))
    cases (suc k) f =
        let is : n ≡ length pre + suc k = omega (arith, f) in
        let old : take (suc k) mid ≡ take (suc k) (to_le_bytes w32 new) =
        take_back pre mid (to_le_bytes w32 new ++ rest) (suc k) n is (same ∙ ap (take n) (assoc new)) ∙ short (suc k) (omega (arith, f, le)) new in
        let now = torn_bytes (suc k) a b c d new x rest b0 b1 b2 b3 (omega (arith, f, le)) (subst (λ w. IsMixOf w new x) (word_behind pre rest a b c d j e) mix) old in
        ap (take n) (assoc x) ∙ take_front pre (to_le_bytes w32 x ++ rest) mid (suc k) n is (short (suc k) (omega (arith, f, le)) x ∙ now)

module _ (row : Row) (tail : List What) (b : Bool) (m : Map) (n : ℕ) (all : List ℕ) (small : All (λ b. b < 256) all)
    (K : List (List ℕ) → View → Type 0)
    (stable : (S T : List (List ℕ)) (v : View) (body : List ℕ) → Within S T → K S v → take n body ≡ take n v.body → length body ≡ length v.body → K T (record v { body = body }))
    (cut : (S : List (List ℕ)) (v : View) (rest : List What) → K S v → Holds S v → IsApart S →
    list_any stores_sequence rest ≡ list_any stores_sequence tail → list_any commits rest ≡ list_any commits tail → Left row rest b S v m)
    (end : (S : List (List ℕ)) (w : ℕ) (v : View) → K S v → Holds S v → IsApart S → Fit v → (t : List ℕ) → v.body ≡ all ++ t →
    length all ≤ 4 * w → 4 * w < length all + 4 → 4 * w + 4 ≤ v.file → Safe row tail b S (Some w) v m) where
  -- one word
  cell : (rest : List What) (S : List (List ℕ)) (w : Option ℕ) (v : View) (p j x : ℕ) (pre mid : List ℕ) → p ≡ suc j → length pre ≡ 4 * j → n ≤ length pre + 3 →
      v.body ≡ pre ++ mid → take n v.body ≡ take n all → take n (pre ++ to_le_bytes w32 x ++ drop 4 mid) ≡ take n all → K S v → Holds S v → IsApart S → Fit v →
      list_any stores_sequence rest ≡ list_any stores_sequence tail → list_any commits rest ≡ list_any commits tail →
      ((T : List (List ℕ)) (u : View) → u.body ≡ pre ++ to_le_bytes w32 x ++ drop 4 mid → 4 * suc j + 4 ≤ u.file → 4 ≤ length mid → K T u → Holds T u → IsApart T → Fit u → Safe row rest b T (Some (suc j)) u m) →
      Safe row (store_data p x ∷ rest) b S w v m
  unfolding Safe
  cell rest S w v p j x pre mid p_is e le body front new k holds apart fit seq comm more =
      subst (λ k. Safe row (store_data k x ∷ rest) b S w v m) (sym p_is) (
        cut S v (store_data (suc j) x ∷ rest) k holds apart seq comm,
        (λ y mix inside U wide uholds uapart.
            cut U (data_set v (suc j) y) (store_data (suc j) x ∷ rest) (stable S U v (with_word v.body j y) wide k (keep y (mixed y mix) inside) (len y inside)) uholds uapart seq comm),
        (λ T step.
            let u = record v { body = with_word v.body j x } in
            subst (λ c. Safe row rest c T (Some (suc j)) u m) (and_true b)
            (more T u (next x) step.inside (room step.inside)
            (stable S T v (with_word v.body j x) step.wide k (ap (take n) (next x) ∙ new ∙ sym front) (len x step.inside))
            step.holds step.apart step.fit)),
      )
    where
      next : (y : ℕ) → with_word v.body j y ≡ (pre ++ to_le_bytes w32 y) ++ drop 4 mid
      next y = ap (λ l. with_word l j y) body ∙ with_word_at pre mid j y e

      room : 4 * suc j + 4 ≤ v.file → 4 ≤ length mid
      room inside = omega (arith, inside, fit.file_is, ap length body, length-append pre mid, e)

      len : (y : ℕ) → 4 * suc j + 4 ≤ v.file → length (with_word v.body j y) ≡ length v.body
      len y inside = length-with_word v.body j y (omega (arith, inside, fit.file_is))

      mixed : (y : ℕ) → IsMixOf (word_at v.body j) x y → IsMixOf (word_at (pre ++ mid) j) x y
      mixed y mix = subst (λ l. IsMixOf (word_at l j) x y) body mix

      keep : (y : ℕ) → IsMixOf (word_at (pre ++ mid) j) x y → 4 * suc j + 4 ≤ v.file → take n (with_word v.body j y) ≡ take n v.body
      keep y mix inside =
          ap (take n) (next y)
          ∙ torn_front n j x y pre mid e le (room inside) (subst (All (λ b. b < 256)) body fit.bytes) mix (ap (take n) (sym body) ∙ front ∙ sym new)
          ∙ ap (take n) (sym body)

  -- the bytes to be stored are bytes
  small_behind : (pre bytes : List ℕ) → all ≡ pre ++ bytes → All (λ b. b < 256) bytes
  small_behind pre bytes is = subst (All (λ b. b < 256)) (drop_at pre bytes (length pre) refl) (All-drop (λ b. b < 256) (length pre) (pre ++ bytes) (subst (All (λ b. b < 256)) is small))

  -- the last word, filled up with zeros
  last_cell : (some zeros : List ℕ) (S : List (List ℕ)) (w : Option ℕ) (v : View) (p j x : ℕ) (pre mid : List ℕ) → to_le_bytes w32 x ≡ some ++ zeros → 0 < length some → length some ≤ 4 →
      p ≡ suc j → length pre ≡ 4 * j → n ≤ length pre + 3 → n ≤ length all → all ≡ pre ++ some → v.body ≡ pre ++ mid → take n v.body ≡ take n all → K S v → Holds S v → IsApart S → Fit v →
      Safe row (store_data p x ∷ tail) b S w v m
  last_cell some zeros S w v p j x pre mid word more most p_is e le inn is body front k holds apart fit =
      cell tail S w v p j x pre mid p_is e le body front (ap (take n) whole ∙ take-append-le n all (zeros ++ drop 4 mid) inn) k holds apart fit refl refl
      (λ T u ub inside four kt uh ua uf.
      let size : length all ≡ 4 * j + length some = ap length is ∙ omega (arith, length-append pre some, e) in
      end T (suc j) u kt uh ua uf (zeros ++ drop 4 mid) (ub ∙ whole) (omega (arith, size, most)) (omega (arith, size, more)) inside)
    where
      whole : (pre ++ to_le_bytes w32 x) ++ drop 4 mid ≡ all ++ (zeros ++ drop 4 mid)
      whole =
          let first : (pre ++ to_le_bytes w32 x) ≡ all ++ zeros = ap (λ l. pre ++ l) word ∙ sym (append_assoc pre some zeros) ∙ ap (λ l. l ++ zeros) (sym is) in
          ap (λ l. l ++ drop 4 mid) first ∙ append_assoc all zeros (drop 4 mid)

  -- all words
  pub stored : (bytes pre mid : List ℕ) (p j : ℕ) (S : List (List ℕ)) (w : Option ℕ) (v : View) → 0 < length bytes → p ≡ suc j → length pre ≡ 4 * j → n ≤ length pre + 3 → n ≤ length all →
      all ≡ pre ++ bytes → v.body ≡ pre ++ mid → take n v.body ≡ take n all → K S v → Holds S v → IsApart S → Fit v →
      Safe row (stores_from p (words_of bytes) ++ tail) b S w v m
  stored [] pre mid p j S w v some p_is e le inn is body front k holds apart fit = absurd (omega arith)
  stored (x0 ∷ []) pre mid p j S w v some p_is e le inn is body front k holds apart fit =
      let h = small_behind pre (x0 ∷ []) is in
      last_cell (x0 ∷ []) (0 ∷ 0 ∷ 0 ∷ []) S w v p j x0 pre mid (word_bytes_1 x0 (h 0 0 (omega arith))) (omega arith) (omega arith) p_is e le inn is body front k holds apart fit
  stored (x0 ∷ x1 ∷ []) pre mid p j S w v some p_is e le inn is body front k holds apart fit =
      let h = small_behind pre (x0 ∷ x1 ∷ []) is in
      last_cell (x0 ∷ x1 ∷ []) (0 ∷ 0 ∷ []) S w v p j (x0 + 256 * x1) pre mid (word_bytes_2 x0 x1 (h 0 0 (omega arith)) (h 1 0 (omega arith))) (omega arith) (omega arith) p_is e le inn is body front k holds apart fit
  stored (x0 ∷ x1 ∷ x2 ∷ []) pre mid p j S w v some p_is e le inn is body front k holds apart fit =
      let h = small_behind pre (x0 ∷ x1 ∷ x2 ∷ []) is in
      last_cell (x0 ∷ x1 ∷ x2 ∷ []) (0 ∷ []) S w v p j (x0 + 256 * x1 + 65536 * x2) pre mid (word_bytes_3 x0 x1 x2 (h 0 0 (omega arith)) (h 1 0 (omega arith)) (h 2 0 (omega arith))) (omega arith) (omega arith) p_is e le inn is body front k holds apart fit
  stored (x0 ∷ x1 ∷ x2 ∷ x3 ∷ []) pre mid p j S w v some p_is e le inn is body front k holds apart fit =
      let h = small_behind pre (x0 ∷ x1 ∷ x2 ∷ x3 ∷ []) is in
      last_cell (x0 ∷ x1 ∷ x2 ∷ x3 ∷ []) [] S w v p j (x0 + 256 * x1 + 65536 * x2 + 16777216 * x3) pre mid
      (word_bytes x0 x1 x2 x3 (h 0 0 (omega arith)) (h 1 0 (omega arith)) (h 2 0 (omega arith)) (h 3 0 (omega arith))) (omega arith) (omega arith) p_is e le inn is body front k holds apart fit
  stored (x0 ∷ x1 ∷ x2 ∷ x3 ∷ x4 ∷ rest) pre mid p j S w v some p_is e le inn is body front k holds apart fit =
      let h = small_behind pre (x0 ∷ x1 ∷ x2 ∷ x3 ∷ x4 ∷ rest) is in
      let x = x0 + 256 * x1 + 65536 * x2 + 16777216 * x3 in
      let word : to_le_bytes w32 x ≡ x0 ∷ x1 ∷ x2 ∷ x3 ∷ [] = word_bytes x0 x1 x2 x3 (h 0 0 (omega arith)) (h 1 0 (omega arith)) (h 2 0 (omega arith)) (h 3 0 (omega arith)) in
      let front_now = pre ++ x0 ∷ x1 ∷ x2 ∷ x3 ∷ [] in
      let size : length front_now ≡ 4 * suc j = length-append pre (x0 ∷ x1 ∷ x2 ∷ x3 ∷ []) ∙ omega (arith, e) in
      let split : all ≡ front_now ++ x4 ∷ rest = is ∙ sym (append_assoc pre (x0 ∷ x1 ∷ x2 ∷ x3 ∷ []) (x4 ∷ rest)) in
      let now : (pre ++ to_le_bytes w32 x) ++ drop 4 mid ≡ front_now ++ drop 4 mid = ap (λ l. (pre ++ l) ++ drop 4 mid) word in
      let new : take n ((pre ++ to_le_bytes w32 x) ++ drop 4 mid) ≡ take n all =
      ap (take n) now ∙ take-append-le n front_now (drop 4 mid) (omega (arith, size, le, e)) ∙ sym (take-append-le n front_now (x4 ∷ rest) (omega (arith, size, le, e))) ∙ ap (take n) (sym split) in
      cell (stores_from (p + 1) (words_of (x4 ∷ rest)) ++ tail) S w v p j x pre mid p_is e le body front new k holds apart fit
      (none_raises (p + 1) (words_of (x4 ∷ rest)) tail) (none_commits (p + 1) (words_of (x4 ∷ rest)) tail)
      (λ T u ub inside four kt uh ua uf.
      stored (x4 ∷ rest) front_now (drop 4 mid) (p + 1) (suc j) T (Some (suc j)) u (omega arith) (omega (arith, p_is)) size (omega (arith, size, le, e)) inn split (ub ∙ now) (ap (take n) ub ∙ new) kt uh ua uf)
