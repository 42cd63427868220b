-- The shortest spelling of a number of 64 bits, group by group.
use Rattle.std.proofs.Common.{◌≡◌, ◌≢◌, ℕ, zero, suc, ◌+◌, ◌-◌, ◌*◌, ◌/◌, ◌%◌, ◌^◌, ◌<◌, ◌≤◌, true, false, List, [], ◌∷◌, ◌++◌, length, take, set, refl, sym, ap, ◌∙◌, arith, append_assoc, lit<}
use Rattle.std.specs.Prelude.{nat_lt}
use Rattle.std.proofs.Math.Nat.{pow-le-pow_right}
use Rattle.std.proofs.lemmas.Bool.Decides.{nat_tests}
use Rattle.kv_pairs.specs.Lengths.{shortest_in}
use Rattle.kv_pairs.proofs.Spans.{one_more}

pub in_nine : (m : ℕ) → m ≤ 9 → 128 ^ m ≤ 9223372036854775808
in_nine m h = pow-le-pow_right {n = 128} (lit< tt) h

last_group : (k n : ℕ) → n < 128 → shortest_in (suc k) n ≡ n ∷ []
last_group k n h = let t : nat_lt n 128 ≡ true = grind (arith, nat_tests) in rw t refl

more_groups : (k n : ℕ) → 128 ≤ n → shortest_in (suc k) n ≡ (n % 128 + 128) ∷ shortest_in k (n / 128)
more_groups k n h = let t : nat_lt n 128 ≡ false = grind (arith, nat_tests) in rw t refl

-- so many groups are left
pub record Left (size n : ℕ) : Type 0 where
  pub room : size + 1 ≤ 9
  pub small : n / 128 < 128 ^ (10 - (size + 1))

pub groups_left : (size n : ℕ) → size ≤ 9 → 128 ≤ n → n < 128 ^ (10 - size) → Left size n
groups_left size n h l s =
    let more : 128 ^ (10 - size) ≡ 128 * 128 ^ (10 - size - 1) = one_more (10 - size) (omega (arith, h)) in
    let next : 128 ^ (10 - size - 1) ≡ 128 ^ (10 - (size + 1)) = ap (λ k. 128 ^ k) (omega arith) in
    let last : size ≢ 9 = (λ e. let one : 128 ^ (10 - size) ≡ 128 = ap (λ k. 128 ^ (10 - k)) e in omega (arith, one, l, s)) in
    record { room = omega (arith, last, h); small = omega (arith, more, next, s) }

put_next : (gs : List ℕ) (size x : ℕ) → size < length gs → take (size + 1) (set gs size x) ≡ take size gs ++ x ∷ []
put_next [] size x h = absurd (omega (arith, h))
put_next (g ∷ gs) zero x h = refl
put_next (g ∷ gs) (suc size) x h =
    let one : suc size + 1 ≡ suc (size + 1) = omega arith in
    ap (λ k. take k (g ∷ set gs size x)) one ∙ ap (λ z. g ∷ z) (put_next gs size x (omega (arith, h)))

pub next_group : (gs : List ℕ) (size n : ℕ) → size + 1 ≤ 9 → length gs ≡ 10 → 128 ≤ n →
    take (size + 1) (set gs size (n % 128 + 128)) ++ shortest_in (10 - (size + 1)) (n / 128) ≡ take size gs ++ shortest_in (10 - size) n
next_group gs size n room len h =
    let one : 10 - size ≡ suc (10 - (size + 1)) = omega (arith, room) in
    ap (λ z. z ++ shortest_in (10 - (size + 1)) (n / 128)) (put_next gs size (n % 128 + 128) (omega (arith, room, len)))
    ∙ append_assoc (take size gs) ((n % 128 + 128) ∷ []) (shortest_in (10 - (size + 1)) (n / 128))
    ∙ ap (λ z. take size gs ++ z) (sym (ap (λ k. shortest_in k n) one ∙ more_groups (10 - (size + 1)) n h))

pub end_group : (gs : List ℕ) (size n : ℕ) → size ≤ 9 → length gs ≡ 10 → n < 128 → take (size + 1) (set gs size n) ≡ take size gs ++ shortest_in (10 - size) n
end_group gs size n room len h =
    let one : 10 - size ≡ suc (9 - size) = omega (arith, room) in
    put_next gs size n (omega (arith, room, len)) ∙ ap (λ z. take size gs ++ z) (sym (ap (λ k. shortest_in k n) one ∙ last_group (9 - size) n h))
