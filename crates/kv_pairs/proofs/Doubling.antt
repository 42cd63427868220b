-- Doubling a size until it is above what is wanted.
use Rattle.std.proofs.Common.{◌≡◌, ℕ, zero, suc, ◌+◌, ◌*◌, ◌^◌, ◌<◌, ◌≤◌, Bool, true, false, cond, refl, sym, ap, arith}
use Rattle.std.specs.Prelude.{Some, None, nat_lt}
use Rattle.std.proofs.Math.Nat.{pow-succ'}
use Rattle.std.proofs.lemmas.Bool.Decides.{nat_tests}
use Rattle.kv_pairs.specs.Growth.{largest, doubled, spare, grown_size, grown_to, IsFileSize}

-- as many doublings as lead to the greatest size are enough
one_more : (k wanted size : ℕ) → size ≤ largest → largest ≤ size * 2 ^ k → doubled k wanted size ≡ doubled (suc k) wanted size
one_more zero wanted size most enough = go (nat_lt wanted size)
  where
    is : size ≡ largest
    is = omega (arith, most, enough)

    above : nat_lt largest (2 * size) ≡ true
    above = let h : largest < 2 * size = omega (arith, is) in grind (arith, nat_tests)

    go : (b : Bool) → largest ≡ cond b size (cond (nat_lt largest (2 * size)) largest (doubled zero wanted (2 * size)))
    go true = sym is
    go false = rw above refl
one_more (suc k) wanted size most enough = ap (cond (nat_lt wanted size) size) (go (nat_lt largest (2 * size)) refl (λ h. one_more k wanted (2 * size) h (omega (arith, enough, ap (λ z. size * z) (pow-succ' 2 k)))))
  where
    go : (b : Bool) → nat_lt largest (2 * size) ≡ b → (2 * size ≤ largest → doubled k wanted (2 * size) ≡ doubled (suc k) wanted (2 * size)) →
        cond b largest (doubled k wanted (2 * size)) ≡ cond b largest (doubled (suc k) wanted (2 * size))
    go true t more = refl
    go false t more = more (grind (arith, nat_tests))

pub double_on : (wanted size : ℕ) → 4096 ≤ size → size ≤ wanted → 2 * size ≤ largest → grown_to wanted size ≡ grown_to wanted (2 * size)
unfolding grown_to
double_on wanted size least h most =
    let low : nat_lt wanted size ≡ false = grind (arith, nat_tests) in
    let fits : nat_lt largest (2 * size) ≡ false = grind (arith, nat_tests) in
    rw (low, fits) (one_more 13 wanted (2 * size) most (omega (arith, least)))

pub double_ends : (wanted size : ℕ) → wanted < size → grown_to wanted size ≡ size
unfolding grown_to
double_ends wanted size h = let t : nat_lt wanted size ≡ true = grind (arith, nat_tests) in rw t refl

pub double_stops : (wanted size : ℕ) → size ≤ wanted → largest < 2 * size → grown_to wanted size ≡ largest
unfolding grown_to
double_stops wanted size h most =
    let low : nat_lt wanted size ≡ false = grind (arith, nat_tests) in
    let above : nat_lt largest (2 * size) ≡ true = grind (arith, nat_tests) in
    rw (low, above) refl

pub at_least : (size : ℕ) → IsFileSize size → 4096 ≤ size
at_least size s = omega (arith, s.some, s.pages)

-- the whole rule
pub no_room : (packed need pairs file : ℕ) → largest < 4 + packed + need → grown_size packed need pairs file ≡ None
unfolding grown_size
no_room packed need pairs file h = let t : nat_lt largest (4 + packed + need) ≡ true = grind (arith, nat_tests) in rw t refl

pub room : (packed need pairs file : ℕ) → 4 + packed + need ≤ largest →
    grown_size packed need pairs file ≡ Some (grown_to (4 + packed + need + spare (4 + packed + need) pairs) file)
unfolding grown_size grown_to
room packed need pairs file h = let t : nat_lt largest (4 + packed + need) ≡ false = grind (arith, nat_tests) in rw t refl
