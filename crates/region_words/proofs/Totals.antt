-- The sum of a function's values from 1 on.
use Rattle.std.proofs.Common.{◌≡◌, ◌≢◌, ℕ, zero, suc, ◌+◌, ◌≤◌, true, false, eqb, refl, sym, arith, inl, inr, ◌⊎◌}
use Rattle.std.proofs.lemmas.Bool.Decides.{eqb_tells}
use Rattle.region_words.specs.Share.{total}

-- it is a function of these values alone
pub total_same : (f g : ℕ → ℕ) (n : ℕ) → ((w : ℕ) → 1 ≤ w → w ≤ n → g w ≡ f w) → total g n ≡ total f n
unfolding total
total_same f g zero same = refl
total_same f g (suc n) same =
    let before = total_same f g n (λ w least most. same w least (omega (arith, most))) in
    let here = same (suc n) (omega arith) (omega arith) in
    omega (arith, before, here)

-- one value is another, and the rest are as they were
pub total_set : (f g : ℕ → ℕ) (n who : ℕ) → 1 ≤ who → who ≤ n → ((w : ℕ) → w ≢ who → g w ≡ f w) → total g n + f who ≡ total f n + g who
unfolding total
total_set f g zero who least most same = absurd (omega (arith, least, most))
total_set f g (suc n) who least most same = go (λ m. total_set f g n who least m same) (eqb_tells (suc n) who)
  where
    go : (who ≤ n → total g n + f who ≡ total f n + g who) → ((eqb (suc n) who ≡ true) × (suc n ≡ who)) ⊎ ((eqb (suc n) who ≡ false) × (suc n ≢ who)) →
        total g (suc n) + f who ≡ total f (suc n) + g who
    go front (inl here) =
        let before = total_same f g n (λ w l m. let apart : w ≢ who = λ e. absurd (omega (arith, e, here.1, m)) in same w apart) in
        rw (sym here.1) (omega (arith, before))
    go front (inr apart) =
        let before = front (let ne = apart.1 in omega (arith, most, ne)) in
        let here = same (suc n) apart.1 in
        omega (arith, before, here)

-- each value is at most the sum
pub total_holds : (f : ℕ → ℕ) (n who : ℕ) → 1 ≤ who → who ≤ n → f who ≤ total f n
unfolding total
total_holds f zero who least most = absurd (omega (arith, least, most))
total_holds f (suc n) who least most = go (λ m. total_holds f n who least m) (eqb_tells (suc n) who)
  where
    go : (who ≤ n → f who ≤ total f n) → ((eqb (suc n) who ≡ true) × (suc n ≡ who)) ⊎ ((eqb (suc n) who ≡ false) × (suc n ≢ who)) → f who ≤ total f (suc n)
    go front (inl here) = rw (sym here.1) (omega arith)
    go front (inr apart) = let before = front (let ne = apart.1 in omega (arith, most, ne)) in omega (arith, before)

-- where all values are 0, so is the sum
pub total_none : (f : ℕ → ℕ) (n : ℕ) → ((w : ℕ) → f w ≡ 0) → total f n ≡ 0
unfolding total
total_none f zero none = refl
total_none f (suc n) none = omega (arith, total_none f n none, none (suc n))
