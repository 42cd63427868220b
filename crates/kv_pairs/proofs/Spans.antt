-- How many numbers some groups of seven bits tell apart.
use Rattle.std.proofs.Common.{◌≡◌, ℕ, zero, suc, ◌-◌, ◌*◌, ◌^◌, ◌<◌, ◌≤◌, sym, ap, ◌∙◌, arith}
use Rattle.std.proofs.Math.Nat.{pow-succ'}

pub one_more : (m : ℕ) → 0 < m → 128 ^ m ≡ 128 * 128 ^ (m - 1)
one_more zero h = absurd (omega (arith, h))
one_more (suc m) h =
    let e : suc m - 1 ≡ m = omega arith in
    pow-succ' 128 m ∙ ap (λ k. 128 * 128 ^ k) (sym e)

pub some_span : (m : ℕ) → 0 < 128 ^ m
some_span zero = omega arith
some_span (suc m) = omega (arith, some_span m, pow-succ' 128 m)

pub in_seven : (m : ℕ) → m ≤ 7 → 128 ^ m ≤ 562949953421312
in_seven zero h = omega arith
in_seven (suc zero) h = omega arith
in_seven (suc (suc zero)) h = omega arith
in_seven (suc (suc (suc zero))) h = omega arith
in_seven (suc (suc (suc (suc zero)))) h = omega arith
in_seven (suc (suc (suc (suc (suc zero))))) h = omega arith
in_seven (suc (suc (suc (suc (suc (suc zero)))))) h = omega arith
in_seven (suc (suc (suc (suc (suc (suc (suc zero))))))) h = omega arith
in_seven (suc (suc (suc (suc (suc (suc (suc (suc m)))))))) h = absurd (omega (arith, h))
