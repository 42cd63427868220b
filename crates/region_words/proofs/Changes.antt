-- What an event changes of a view.
use Rattle.std.proofs.Common.{◌≡◌, ℕ, zero, suc, ◌+◌, ◌*◌, ◌-◌, ◌^◌, ◌<◌, ◌≤◌, Bool, true, false, List, [], ◌∷◌, ◌++◌, length, take, drop, refl, ap, ◌∙◌, arith, length-append}
use Rattle.std.specs.Prelude.{Some, None, replicate, ◌==◌, if◌then◌else◌}
use Rattle.std.specs.Int.{to_le_bytes, w32}
use Rattle.std.proofs.lemmas.Bool.Decides.{nat_tests}
use Rattle.lock_rules.specs.Locks.{Locks}
use Rattle.meta_record.specs.Words.{word_at, with_word}
use Rattle.std.proofs.lemmas.List.{drop-append-le, length-replicate}
use Rattle.meta_record.proofs.WordLemmas.{same_word, other_word, length-with_word}
use Rattle.region_words.specs.Region.{Region, header, record_of, flag, IsAccepted}
use Rattle.region_words.specs.Past.{region_step}
use Rattle.region_words.specs.Lawful.{IsPossible}
use Rattle.region_words.specs.declared.event.Side.TheVariants.{Data, Meta}
use Rattle.region_words.specs.declared.event.What.{What}
use Rattle.region_words.specs.declared.event.What.TheVariants.{Store, Grow, Lock, Unlock, Died}
use Rattle.region_words.proofs.StaysAccepted.{few_flags}
use Rattle.region_words.proofs.View.{View, view}

abbrev pub meta_set : View → ℕ → ℕ → View
meta_set v word x =
    record {
      head = v.head;
      size = if word == 7 then x else v.size;
      last = if word == 8 then x else v.last;
      sum = if word == 0 then x else v.sum;
      last_sum = if word == 9 then x else v.last_sum;
      on = if word == 26 then x == 1 else v.on;
      body = v.body;
      file = v.file;
    }

abbrev pub data_set : View → ℕ → ℕ → View
data_set v zero x = record v { head = x }
data_set v (suc word) x = record v { body = with_word v.body word x }

abbrev pub after : View → What → View
after v (Store Data word x mark) = data_set v word x
after v (Store Meta word x mark) = meta_set v word x
after v (Grow size) = record v { body = v.body ++ replicate (size - v.file) 0; file = size }
after v (Died (Some torn)) = data_set v torn.word torn.value
after v (Died None) = v
after v (Lock kind) = v
after v Unlock = v

-- one word of the meta file
pub word_set : (bytes : List ℕ) (w x k : ℕ) → 4 * w + 4 ≤ length bytes → x < 2 ^ 32 → word_at (with_word bytes w x) k ≡ (if w == k then x else word_at bytes k)
word_set bytes w x k inside small = go (w == k) refl
  where
    go : (b : Bool) → (w == k) ≡ b → word_at (with_word bytes w x) k ≡ (if b then x else word_at bytes k)
    go true e = let same : k ≡ w = grind (arith, nat_tests) in ap (word_at (with_word bytes w x)) same ∙ same_word bytes w x inside small
    go false e = other_word bytes w x inside k (grind (arith, nat_tests))

flag_set : (r : Region) (w x : ℕ) → 4 * w + 4 ≤ length r.meta_bytes → x < 2 ^ 32 → IsAccepted r → IsAccepted (record r { meta_bytes = with_word r.meta_bytes w x }) →
    flag (record r { meta_bytes = with_word r.meta_bytes w x }) ≡ (if w == 26 then x == 1 else flag r)
flag_set r w x inside small a b =
    go (w == 26) (w == 27) (word_at r.meta_bytes 26) (word_at r.meta_bytes 27) _ _ (few_flags (record_of r) (header r) a) (few_flags (record_of (record r { meta_bytes = with_word r.meta_bytes w x })) (header r) b)
    (word_set r.meta_bytes w x 26 inside small) (word_set r.meta_bytes w x 27 inside small) (both w)
  where
    both : (w : ℕ) → (w == 26) ≡ true → (w == 27) ≡ true → ⊥
    both w e f = grind (arith, nat_tests)

    go : (s t : Bool) (low high new_low new_high : ℕ) → low + 4294967296 * high ≤ 1 → new_low + 4294967296 * new_high ≤ 1 →
        new_low ≡ (if s then x else low) → new_high ≡ (if t then x else high) → (s ≡ true → t ≡ true → ⊥) →
        ((new_low + 4294967296 * new_high) == 1) ≡ (if s then x == 1 else (low + 4294967296 * high) == 1)
    go true t low high new_low new_high p q e f n = ap (λ k. k == 1) (omega (arith, p, q, e))
    go false t low high new_low new_high p q e f n = ap (λ k. k == 1) (omega (arith, p, q, e))

-- a data word of the whole file is one of the body
drop_word : (bytes : List ℕ) (w x : ℕ) → 4 * (suc w) + 4 ≤ length bytes → drop 4 (with_word bytes (suc w) x) ≡ with_word (drop 4 bytes) w x
drop_word [] w x inside = absurd (omega arith)
drop_word (a ∷ []) w x inside = absurd (omega arith)
drop_word (a ∷ b ∷ []) w x inside = absurd (omega arith)
drop_word (a ∷ b ∷ c ∷ []) w x inside = absurd (omega arith)
drop_word (a ∷ b ∷ c ∷ d ∷ rest) w x inside =
    let e : 4 * suc w ≡ suc (suc (suc (suc (4 * w)))) = omega arith in
    let f : 4 * suc w + 4 ≡ suc (suc (suc (suc (4 * w + 4)))) = omega arith in
    go (4 * suc w) (4 * suc w + 4) e f
  where
    go : (i j : ℕ) → i ≡ suc (suc (suc (suc (4 * w)))) → j ≡ suc (suc (suc (suc (4 * w + 4)))) →
        drop 4 (take i (a ∷ b ∷ c ∷ d ∷ rest) ++ to_le_bytes w32 x ++ drop j (a ∷ b ∷ c ∷ d ∷ rest)) ≡ with_word rest w x
    go i j e f = rw e (rw f refl)

drop_header : (bytes : List ℕ) (x : ℕ) → drop 4 (with_word bytes 0 x) ≡ drop 4 bytes
drop_header bytes x = refl

drop_grown : (bytes zeros : List ℕ) → 4 ≤ length bytes → drop 4 (bytes ++ zeros) ≡ drop 4 bytes ++ zeros
drop_grown bytes zeros h = drop-append-le 4 bytes zeros h

header_grown : (bytes zeros : List ℕ) → 4 ≤ length bytes → word_at (bytes ++ zeros) 0 ≡ word_at bytes 0
header_grown [] zeros h = absurd (omega arith)
header_grown (a ∷ []) zeros h = absurd (omega arith)
header_grown (a ∷ b ∷ []) zeros h = absurd (omega arith)
header_grown (a ∷ b ∷ c ∷ []) zeros h = absurd (omega arith)
header_grown (a ∷ b ∷ c ∷ d ∷ rest) zeros h = refl

-- what is changed of a view is what is changed of the region
pub view_after : (r : Region) (locks : Locks) (who : ℕ) (what : What) → 4 ≤ length r.data_bytes → IsPossible r locks who what → IsAccepted r → IsAccepted (region_step r what) →
    view (region_step r what) ≡ after (view r) what
view_after r locks who (Store Data zero x mark) some p a b =
    let e = same_word r.data_bytes 0 x p.1 p.2 in
    let f = length-with_word r.data_bytes 0 x p.1 in
    λ i. record (view r) { head = e i; file = f i }
view_after r locks who (Store Data (suc w) x mark) some p a b =
    let e = other_word r.data_bytes (suc w) x p.1 0 (omega arith) in
    let f = length-with_word r.data_bytes (suc w) x p.1 in
    let g = drop_word r.data_bytes w x p.1 in
    λ i. record (view r) { head = e i; file = f i; body = g i }
view_after r locks who (Store Meta w x mark) some p a b =
    let word = λ (k : ℕ). word_set r.meta_bytes w x k p.1 p.2 in
    let c = word 0 in
    let s = word 7 in
    let l = word 8 in
    let k = word 9 in
    let o = flag_set r w x p.1 p.2 a b in
    λ i. record { head = header r; size = s i; last = l i; sum = c i; last_sum = k i; on = o i; body = drop 4 r.data_bytes; file = length r.data_bytes }
view_after r locks who (Grow size) some p a b =
    let zeros = replicate (size - length r.data_bytes) 0 in
    let e = header_grown r.data_bytes zeros some in
    let g = drop_grown r.data_bytes zeros some in
    let f : length (r.data_bytes ++ zeros) ≡ size = omega (arith, length-append r.data_bytes zeros, length-replicate {A = ℕ} (size - length r.data_bytes) 0, p.1) in
    λ i. record (view r) { head = e i; body = g i; file = f i }
view_after r locks who (Lock kind) some p a b = refl
view_after r locks who Unlock some p a b = refl
view_after r locks who (Died None) some p a b = refl
view_after r locks who (Died (Some torn)) some p a b = torn_view torn.word torn.value p.1
  where
    torn_view : (w x : ℕ) → (1 ≤ w) × (4 * w + 4 ≤ length r.data_bytes) × (x < 2 ^ 32) →
        view (record r { data_bytes = with_word r.data_bytes w x }) ≡ data_set (view r) w x
    torn_view zero x q = absurd (omega (arith, q.0))
    torn_view (suc w) x q =
        let e = other_word r.data_bytes (suc w) x q.1 0 (omega arith) in
        let f = length-with_word r.data_bytes (suc w) x q.1 in
        let g = drop_word r.data_bytes w x q.1 in
        λ i. record (view r) { head = e i; file = f i; body = g i }
