-- The shortest spelling, group by group.
use Rattle.std.proofs.Common.{◌≡◌, ℕ, zero, suc, ◌+◌, ◌-◌, ◌/◌, ◌%◌, ◌^◌, ◌<◌, ◌≤◌, true, false, List, [], ◌∷◌, ◌++◌, length, take, set, refl, sym, ap, ◌∙◌, arith, append_assoc}
use Rattle.std.specs.Prelude.{nat_lt}
use Rattle.std.proofs.lemmas.Bool.Decides.{nat_tests}
use Rattle.kv_pairs.specs.Lengths.{shortest, shortest_in}

last_group : (k n : ℕ) → n < 128 → shortest_in (suc k) n ≡ n ∷ []
last_group k n h = let t : nat_lt n 128 ≡ true = grind (arith, nat_tests) in rw t refl

more_groups : (k n : ℕ) → 128 ≤ n → shortest_in (suc k) n ≡ (n % 128 + 128) ∷ shortest_in k (n / 128)
more_groups k n h = let t : nat_lt n 128 ≡ false = grind (arith, nat_tests) in rw t refl

-- so many groups are left
pub record Left (size n : ℕ) : Type 0 where
  pub room : size + 1 ≤ 4
  pub small : n / 128 < 128 ^ (5 - (size + 1))

pub groups_left : (size n : ℕ) → size ≤ 4 → 128 ≤ n → n < 128 ^ (5 - size) → Left size n
groups_left zero n h l s = record { room = omega arith; small = omega (arith, s) }
groups_left (suc zero) n h l s = record { room = omega arith; small = omega (arith, s) }
groups_left (suc (suc zero)) n h l s = record { room = omega arith; small = omega (arith, s) }
groups_left (suc (suc (suc zero))) n h l s = record { room = omega arith; small = omega (arith, s) }
groups_left (suc (suc (suc (suc zero)))) n h l s = absurd (omega (arith, s, l))
groups_left (suc (suc (suc (suc (suc size))))) n h l s = absurd (omega (arith, h))

put_next : (gs : List ℕ) (size x : ℕ) → size < length gs → take (size + 1) (set gs size x) ≡ take size gs ++ x ∷ []
put_next [] size x h = absurd (omega (arith, h))
put_next (g ∷ gs) zero x h = refl
put_next (g ∷ gs) (suc size) x h =
    let one : suc size + 1 ≡ suc (size + 1) = omega arith in
    ap (λ k. take k (g ∷ set gs size x)) one ∙ ap (λ z. g ∷ z) (put_next gs size x (omega (arith, h)))

pub next_group : (gs : List ℕ) (size n : ℕ) → size + 1 ≤ 4 → length gs ≡ 5 → 128 ≤ n →
    take (size + 1) (set gs size (n % 128 + 128)) ++ shortest_in (5 - (size + 1)) (n / 128) ≡ take size gs ++ shortest_in (5 - size) n
next_group gs size n room len h =
    let one : 5 - size ≡ suc (5 - (size + 1)) = omega (arith, room) in
    ap (λ z. z ++ shortest_in (5 - (size + 1)) (n / 128)) (put_next gs size (n % 128 + 128) (omega (arith, room, len)))
    ∙ append_assoc (take size gs) ((n % 128 + 128) ∷ []) (shortest_in (5 - (size + 1)) (n / 128))
    ∙ ap (λ z. take size gs ++ z) (sym (ap (λ k. shortest_in k n) one ∙ more_groups (5 - (size + 1)) n h))

pub end_group : (gs : List ℕ) (size n : ℕ) → size ≤ 4 → length gs ≡ 5 → n < 128 → take (size + 1) (set gs size n) ≡ take size gs ++ shortest_in (5 - size) n
end_group gs size n room len h =
    let one : 5 - size ≡ suc (4 - size) = omega (arith, room) in
    put_next gs size n (omega (arith, room, len)) ∙ ap (λ z. take size gs ++ z) (sym (ap (λ k. shortest_in k n) one ∙ last_group (4 - size) n h))

pub one_group : (n : ℕ) → n < 128 → length (shortest n) ≡ 1
unfolding shortest
one_group n h = ap length (last_group 4 n h)

pub two_groups : (n : ℕ) → 128 ≤ n → n < 16384 → length (shortest n) ≡ 2
unfolding shortest
two_groups n l h = ap length (more_groups 4 n l) ∙ ap (λ z. suc (length z)) (last_group 3 (n / 128) (omega (arith, h)))

pub three_groups : (n : ℕ) → 16384 ≤ n → n < 2097152 → length (shortest n) ≡ 3
unfolding shortest
three_groups n l h =
    ap length (more_groups 4 n (omega (arith, l)))
    ∙ ap (λ z. suc (length z)) (more_groups 3 (n / 128) (omega (arith, l)))
    ∙ ap (λ z. suc (suc (length z))) (last_group 2 (n / 128 / 128) (omega (arith, h)))

pub four_groups : (n : ℕ) → 2097152 ≤ n → n < 268435456 → length (shortest n) ≡ 4
unfolding shortest
four_groups n l h =
    ap length (more_groups 4 n (omega (arith, l)))
    ∙ ap (λ z. suc (length z)) (more_groups 3 (n / 128) (omega (arith, l)))
    ∙ ap (λ z. suc (suc (length z))) (more_groups 2 (n / 128 / 128) (omega (arith, l)))
    ∙ ap (λ z. suc (suc (suc (length z)))) (last_group 1 (n / 128 / 128 / 128) (omega (arith, h)))

pub five_groups : (n : ℕ) → 268435456 ≤ n → n < 34359738368 → length (shortest n) ≡ 5
unfolding shortest
five_groups n l h =
    ap length (more_groups 4 n (omega (arith, l)))
    ∙ ap (λ z. suc (length z)) (more_groups 3 (n / 128) (omega (arith, l)))
    ∙ ap (λ z. suc (suc (length z))) (more_groups 2 (n / 128 / 128) (omega (arith, l)))
    ∙ ap (λ z. suc (suc (suc (length z)))) (more_groups 1 (n / 128 / 128 / 128) (omega (arith, l)))
    ∙ ap (λ z. suc (suc (suc (suc (length z))))) (last_group 0 (n / 128 / 128 / 128 / 128) (omega (arith, h)))
