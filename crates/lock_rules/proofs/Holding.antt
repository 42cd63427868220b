-- Which holders the bits of a number stand for.
use Rattle.std.proofs.Common.{◌≡◌, ◌≢◌, ℕ, zero, suc, ◌-◌, ◌<◌, ◌≤◌, Bool, true, false, cond, ◌∷◌, refl, ap, sym, ◌∙◌, arith}
use Rattle.std.specs.Prelude.{◌==◌, ◌&&◌, ◌||◌, nat_lt, nat_eq, not}
use Rattle.std.specs.Int.{bit_at}
use Rattle.std.specs.Cmp.{unsigned_tied, nat_cmp_total}
use Rattle.std.specs.Ordering.{nat_cmp, eq_by_cmp}
use Rattle.std.specs.FinSet as set
use Rattle.std.proofs.lemmas.Nat.Bits.{bit_at-zero}
use Rattle.std.proofs.lemmas.Bool.Decides.{nat_tests}
use Rattle.lock_rules.specs.Holders.{holders_of, holders_to}

-- whether k is among those asked, one more is
more_set : (i k : ℕ) (ti : Bool) → (i ≡ k → ti ≡ true) → (nat_eq (suc i) (suc k) || (nat_lt i k && ti)) ≡ (nat_lt i (suc k) && ti)
more_set i k true h = grind (arith, nat_tests)
more_set i k false h = grind (arith, nat_tests, h)

more_clear : (i k : ℕ) (ti : Bool) → (i ≡ k → ti ≡ false) → (nat_lt i k && ti) ≡ (nat_lt i (suc k) && ti)
more_clear i k true h = grind (arith, nat_tests, h)
more_clear i k false h = grind (arith, nat_tests)

pub is_equal : (q k : ℕ) → eq_by_cmp nat_cmp q k ≡ nat_eq q k
is_equal q k = unsigned_tied q k

in_more : (k bits i : ℕ) (t b : Bool) → bit_at bits k == 1 ≡ b → (bit_at bits i == 1) ≡ t → set.contains (set.from_list {R = nat_cmp} (holders_to k bits)) (suc i) ≡ (nat_lt i k && t) → set.contains (set.from_list {R = nat_cmp} (cond b (suc k ∷ holders_to k bits) (holders_to k bits))) (suc i) ≡ (nat_lt i (suc k) && t)
in_more k bits i t true e f h =
    set.contains-insert nat_cmp_total (set.from_list (holders_to k bits)) (suc k) (suc i)
    ∙ (λ j. is_equal (suc i) (suc k) j || h j)
    ∙ more_set i k t (λ same. sym f ∙ ap (λ n. bit_at bits n == 1) same ∙ e)
in_more k bits i t false e f h = h ∙ more_clear i k t (λ same. sym f ∙ ap (λ n. bit_at bits n == 1) same ∙ e)

in_holders_to : (k bits i : ℕ) → set.contains (set.from_list {R = nat_cmp} (holders_to k bits)) (suc i) ≡ (nat_lt i k && (bit_at bits i == 1))
unfolding holders_to
in_holders_to zero bits i = set.contains-empty nat_cmp (suc i) ∙ grind (arith, nat_tests)
in_holders_to (suc k) bits i = in_more k bits i (bit_at bits i == 1) (bit_at bits k == 1) refl refl (in_holders_to k bits i)

zeroth_more : (k bits : ℕ) (b : Bool) → set.contains (set.from_list {R = nat_cmp} (holders_to k bits)) 0 ≡ false → set.contains (set.from_list {R = nat_cmp} (cond b (suc k ∷ holders_to k bits) (holders_to k bits))) 0 ≡ false
zeroth_more k bits true h =
    set.contains-insert nat_cmp_total (set.from_list (holders_to k bits)) (suc k) 0
    ∙ (λ j. is_equal 0 (suc k) j || h j)
    ∙ grind (arith, nat_tests)
zeroth_more k bits false h = h

zeroth_in : (k bits : ℕ) → set.contains (set.from_list {R = nat_cmp} (holders_to k bits)) 0 ≡ false
unfolding holders_to
zeroth_in zero bits = set.contains-empty nat_cmp 0
zeroth_in (suc k) bits = zeroth_more k bits (bit_at bits k == 1) (zeroth_in k bits)

pub contains-holders_of : (bits i : ℕ) → set.contains (holders_of bits) (suc i) ≡ (nat_lt i 64 && (bit_at bits i == 1))
unfolding holders_of
contains-holders_of bits i = in_holders_to 64 bits i

pub zero_holds_nothing : (bits : ℕ) → set.contains (holders_of bits) 0 ≡ false
unfolding holders_of
zero_holds_nothing bits = zeroth_in 64 bits

-- what one bit changes
one_in : (i k : ℕ) (new old : Bool) → k < 64 → (i ≡ k → new ≡ true) → (i < 64 → i ≢ k → new ≡ old) → (nat_lt i 64 && new) ≡ (nat_eq (suc i) (suc k) || (nat_lt i 64 && old))
one_in i k true true h same other = grind (arith, nat_tests)
one_in i k true false h same other = grind (arith, nat_tests, other)
one_in i k false true h same other = grind (arith, nat_tests, same, other)
one_in i k false false h same other = grind (arith, nat_tests, same)

one_out : (i k : ℕ) (new old : Bool) → (i ≡ k → new ≡ false) → (i < 64 → i ≢ k → new ≡ old) → (nat_lt i 64 && new) ≡ (not (nat_eq (suc i) (suc k)) && (nat_lt i 64 && old))
one_out i k true true same other = grind (arith, nat_tests, same)
one_out i k true false same other = grind (arith, nat_tests, same, other)
one_out i k false true same other = grind (arith, nat_tests, other)
one_out i k false false same other = grind (arith, nat_tests)

bit_is : (n i b : ℕ) → bit_at n i ≡ b → (bit_at n i == 1) ≡ (b == 1)
bit_is n i b e = ap (λ x. x == 1) e

-- bits with one more set
pub holders_of-set : (new old k : ℕ) → k < 64 → bit_at new k ≡ 1 → ((i : ℕ) → i < 64 → i ≢ k → bit_at new i ≡ bit_at old i) → holders_of new ≡ set.insert (holders_of old) (suc k)
holders_of-set new old k h one same = set.same_set nat_cmp_total set.nat_cmp-IsAntisymmetric _ _ each
  where
    each : (q : ℕ) → set.contains (holders_of new) q ≡ set.contains (set.insert (holders_of old) (suc k)) q
    each zero = zero_holds_nothing new ∙ sym (set.contains-insert nat_cmp_total (holders_of old) (suc k) 0 ∙ (λ j. is_equal 0 (suc k) j || zero_holds_nothing old j) ∙ grind (arith, nat_tests))
    each (suc i) =
        contains-holders_of new i
        ∙ one_in i k (bit_at new i == 1) (bit_at old i == 1) h (λ e. ap (λ n. bit_at new n == 1) e ∙ bit_is new k 1 one) (λ b n. bit_is new i (bit_at old i) (same i b n))
        ∙ sym (set.contains-insert nat_cmp_total (holders_of old) (suc k) (suc i) ∙ (λ j. is_equal (suc i) (suc k) j || contains-holders_of old i j))

-- bits with one cleared
pub holders_of-clear : (new old k : ℕ) → bit_at new k ≡ 0 → ((i : ℕ) → i < 64 → i ≢ k → bit_at new i ≡ bit_at old i) → holders_of new ≡ set.remove (holders_of old) (suc k)
holders_of-clear new old k none same = set.same_set nat_cmp_total set.nat_cmp-IsAntisymmetric _ _ each
  where
    each : (q : ℕ) → set.contains (holders_of new) q ≡ set.contains (set.remove (holders_of old) (suc k)) q
    each zero = zero_holds_nothing new ∙ sym (set.contains-remove nat_cmp_total (holders_of old) (suc k) 0 ∙ (λ j. not (is_equal 0 (suc k) j) && zero_holds_nothing old j) ∙ grind (arith, nat_tests))
    each (suc i) =
        contains-holders_of new i
        ∙ one_out i k (bit_at new i == 1) (bit_at old i == 1) (λ e. ap (λ n. bit_at new n == 1) e ∙ bit_is new k 0 none) (λ b n. bit_is new i (bit_at old i) (same i b n))
        ∙ sym (set.contains-remove nat_cmp_total (holders_of old) (suc k) (suc i) ∙ (λ j. not (is_equal (suc i) (suc k) j) && contains-holders_of old i j))

-- a holder's number, and its bit
pub holder_is : (bits h : ℕ) → set.contains (holders_of bits) h ≡ true → (1 ≤ h) × (h ≤ 64) × (bit_at bits (h - 1) ≡ 1)
holder_is bits zero held = absurd cc (zero_holds_nothing bits, held)
holder_is bits (suc i) held =
    let both : (nat_lt i 64 && (bit_at bits i == 1)) ≡ true = sym (contains-holders_of bits i) ∙ held in
    let here : bit_at bits i ≡ 1 = grind (arith, nat_tests, both) in
    let low : i < 64 = grind (arith, nat_tests, both) in
    (omega arith, omega (arith, low), ap (λ n. bit_at bits n) (omega arith) ∙ here)

pub is_holder : (bits i : ℕ) → i < 64 → bit_at bits i ≡ 1 → set.contains (holders_of bits) (suc i) ≡ true
is_holder bits i h one = contains-holders_of bits i ∙ grind (arith, nat_tests, h, one)

-- no bits, no holders
pub holders_of-none : holders_of 0 ≡ set.empty {K = ℕ} {R = nat_cmp}
holders_of-none = set.same_set nat_cmp_total set.nat_cmp-IsAntisymmetric _ _ each
  where
    each : (q : ℕ) → set.contains (holders_of 0) q ≡ set.contains (set.empty {K = ℕ} {R = nat_cmp}) q
    each zero = zero_holds_nothing 0 ∙ sym (set.contains-empty nat_cmp 0)
    each (suc i) = contains-holders_of 0 i ∙ ap (λ b. nat_lt i 64 && (b == 1)) (bit_at-zero i) ∙ grind (arith, nat_tests) ∙ sym (set.contains-empty nat_cmp (suc i))

removed_alike : (q k : ℕ) (b held : Bool) → nat_eq q k ≡ b → (q ≡ k → held ≡ false) → held ≡ (not b && held)
removed_alike q k true held e h = h (grind (arith, nat_tests, e))
removed_alike q k false held e h = refl

-- one that isn't in a set may be taken out of it
pub not_held-remove : (s : set.FinSet nat_cmp) (k : ℕ) → set.contains s k ≡ false → s ≡ set.remove s k
not_held-remove s k free = set.same_set nat_cmp_total set.nat_cmp-IsAntisymmetric _ _ each
  where
    each : (q : ℕ) → set.contains s q ≡ set.contains (set.remove s k) q
    each q =
        removed_alike q k (nat_eq q k) (set.contains s q) refl (λ e. ap (λ n. set.contains s n) e ∙ free)
        ∙ sym (set.contains-remove nat_cmp_total s k q ∙ ap (λ b. not b && set.contains s q) (is_equal q k))

pub out_of_range : (bits who : ℕ) → (1 ≤ who → who ≤ 64 → ⊥) → set.contains (holders_of bits) who ≡ false
out_of_range bits zero h = zero_holds_nothing bits
out_of_range bits (suc i) h =
    let above : nat_lt i 64 ≡ false = grind (arith, nat_tests, h) in
    contains-holders_of bits i ∙ ap (λ b. b && (bit_at bits i == 1)) above
