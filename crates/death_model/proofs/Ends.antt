-- Looks at the payloads of four sizes, one after another.
use Rattle.std.proofs.Common.{◌≡◌, ◌⊎◌, ℕ, zero, suc, ◌+◌, ◌-◌, ◌*◌, ◌<◌, ◌≤◌, Bool, true, false, cond, List, [], ◌∷◌, ◌++◌, refl, sym, ap, ◌∙◌, inl, inr, arith, subst}
use Rattle.std.specs.Prelude.{Contains, Option, Some, nat_lt, ◌==◌}
use Rattle.std.proofs.lemmas.Bool.Decides.{nat_tests}
use Rattle.crc_words.specs.Crc.{crc}
use Rattle.meta_record.specs.Words.{fits}
use Rattle.region_words.specs.Region.{Region, payload_of}
use Rattle.region_words.proofs.Strings.{contains_first, contains_more}
use Rattle.death_model.specs.SeenInside.{Tells, Within, meant, summed}
use Rattle.death_model.specs.declared.seen.Seen.{Seen}
use Rattle.death_model.proofs.Lists.{in_none, in_either, within_left, within_right}
use Rattle.death_model.proofs.Looks.{answered, tells_as, tells_clash, tells_then}

pub summed_more : (r : Region) (c z : ℕ) (sizes : List ℕ) → summed r c (z ∷ sizes) ≡ summed r c (z ∷ []) ++ summed r c sizes
summed_more r c z sizes = go (fits r.data_bytes z) (crc (payload_of r z) == c) refl refl
  where
    go : (a b : Bool) → fits r.data_bytes z ≡ a → (crc (payload_of r z) == c) ≡ b → summed r c (z ∷ sizes) ≡ summed r c (z ∷ []) ++ summed r c sizes
    go true true e f = rw e (rw f refl)
    go true false e f = rw e (rw f refl)
    go false b e f = rw e refl

first_or : (y : ℕ) (ys : List ℕ) (z : ℕ) → Contains (y ∷ ys) z → (y ≡ z) ⊎ Contains ys z
first_or y ys z (zero, lt, e) = inl e
first_or y ys z (suc k, lt, e) = inr (k, omega (arith, lt), e)

summed_one_of : (r : Region) (c z : ℕ) (sizes : List ℕ) → Contains sizes z → Within (summed r c (z ∷ [])) (summed r c sizes)
summed_one_of r c z [] (k, lt, e) = absurd (omega (arith, lt))
summed_one_of r c z (y ∷ ys) h = subst (Within (summed r c (z ∷ []))) (sym (summed_more r c y ys)) (elim (first_or y ys z h) [
  | inl e ↦ subst (λ x. Within (summed r c (x ∷ [])) (summed r c (y ∷ []) ++ summed r c ys)) e (within_left (summed r c (y ∷ [])) (summed r c ys))
  | inr l ↦ λ s d. within_right (summed r c (y ∷ [])) (summed r c ys) s (summed_one_of r c z ys l s d)
])

-- fewer sizes have fewer payloads
pub summed_within : (r : Region) (c : ℕ) (xs ys : List ℕ) → ((z : ℕ) → Contains xs z → Contains ys z) → Within (summed r c xs) (summed r c ys)
summed_within r c [] ys h = λ s d. absurd (in_none s d)
summed_within r c (x ∷ xs) ys h =
    subst (λ l. Within l (summed r c ys)) (sym (summed_more r c x xs))
    (in_either (summed r c (x ∷ [])) (summed r c xs) (summed r c ys) (summed_one_of r c x ys (h x (contains_first x xs))) (summed_within r c xs ys (λ z d. h z (contains_more x xs z d))))

-- the sizes from one on, so many of them, the greatest first
abbrev pub run_of : ℕ → ℕ → List ℕ
run_of first zero = []
run_of first (suc k) = (first + k) ∷ run_of first k

run_bounds : (first k z : ℕ) → Contains (run_of first k) z → (first ≤ z) × (z < first + k)
run_bounds first zero z (i, lt, e) = absurd (omega (arith, lt))
run_bounds first (suc k) z h = elim (first_or (first + k) (run_of first k) z h) [
  | inl e ↦ (omega (arith, e), omega (arith, e))
  | inr l ↦ let b = run_bounds first k z l in (b.0, omega (arith, b.1))
]

-- the sizes of payloads that end in the four bytes up to this one
abbrev pub ends : ℕ → List ℕ
ends end = (end - 3) ∷ (end - 2) ∷ (end - 1) ∷ end ∷ []

ends_have : (end z : ℕ) → 4 ≤ end → end - 3 ≤ z → z ≤ end → Contains (ends end) z
ends_have end z some low high = go (z - (end - 3)) refl
  where
    go : (k : ℕ) → z - (end - 3) ≡ k → Contains (ends end) z
    go zero e = (0, omega arith, omega (arith, e, low))
    go (suc zero) e = (1, omega arith, omega (arith, e, low, some))
    go (suc (suc zero)) e = (2, omega arith, omega (arith, e, low, some))
    go (suc (suc (suc zero))) e = (3, omega arith, omega (arith, e, low, some))
    go (suc (suc (suc (suc k)))) e = absurd (omega (arith, e, high, some))

ends_run : (end z : ℕ) → 4 ≤ end → Contains (ends end) z → Contains (run_of (end - 3) 4) z
ends_run end z some (zero, lt, e) = (3, omega arith, omega (arith, e, some))
ends_run end z some (suc zero, lt, e) = (2, omega arith, omega (arith, e, some))
ends_run end z some (suc (suc zero), lt, e) = (1, omega arith, omega (arith, e, some))
ends_run end z some (suc (suc (suc zero)), lt, e) = (0, omega arith, omega (arith, e, some))
ends_run end z some (suc (suc (suc (suc k))), lt, e) = absurd (omega (arith, lt))

-- the payloads of the sizes below this one were looked at
pub record LookedBelow (r : Region) (c end : ℕ) (old : Seen) (size : ℕ) (now : Seen) : Type 0 where
  pub least : end - 3 ≤ size
  pub tells : Tells [] old now (summed r c (run_of (end - 3) (size - (end - 3)))) true

module _ (r : Region) (c end : ℕ) (some : 4 ≤ end) (old : Seen) where
  pub none_below : LookedBelow r c end old (end - 3) old
  none_below = record { least = omega arith; tells = let none : (end - 3) - (end - 3) ≡ 0 = omega arith in subst (λ k. Tells [] old old (summed r c (run_of (end - 3) k)) true) (sym none) (λ all w k. k) }

  sizes_more : (size : ℕ) → end - 3 ≤ size → run_of (end - 3) (size + 1 - (end - 3)) ≡ size ∷ run_of (end - 3) (size - (end - 3))
  sizes_more size least =
      let next : size + 1 - (end - 3) ≡ suc (size - (end - 3)) = omega (arith, least) in
      let it : end - 3 + (size - (end - 3)) ≡ size = omega (arith, least) in
      ap (run_of (end - 3)) next ∙ ap (λ z. z ∷ run_of (end - 3) (size - (end - 3))) it

  pub one_more_below : (size : ℕ) (mid new : Seen) (b : Bool) → b ≡ true → LookedBelow r c end old size mid → Tells [] mid new (summed r c (size ∷ [])) b → LookedBelow r c end old (size + 1) new
  one_more_below size mid new b e l t =
      let below = summed r c (run_of (end - 3) (size - (end - 3))) in
      let one = summed r c (size ∷ []) in
      let whole : summed r c (run_of (end - 3) (size + 1 - (end - 3))) ≡ one ++ below =
      ap (summed r c) (sizes_more size l.least) ∙ summed_more r c size (run_of (end - 3) (size - (end - 3))) in
      record {
        least = omega (arith, l.least);
        tells =
            subst (λ ps. Tells [] old new ps true) (sym whole)
            (tells_as [] old new (below ++ one) (one ++ below) true (in_either below one (one ++ below) (within_right one below) (within_left one below)) (in_either one below (below ++ one) (within_right below one) (within_left below one))
            (tells_then [] [] old mid new below one true l.tells (answered [] mid new one b true e t)));
      }

  -- this size's payload has the checksum of another
  pub stops_at : (size : ℕ) (mid new : Seen) (b : Bool) → b ≡ false → size < end + 1 → LookedBelow r c end old size mid → Tells [] mid new (summed r c (size ∷ [])) b → Tells [] old new (summed r c (ends end)) false
  stops_at size mid new b e most l t =
      let below = summed r c (run_of (end - 3) (size - (end - 3))) in
      let one = summed r c (size ∷ []) in
      let front = run_of (end - 3) (size - (end - 3)) in
      tells_clash [] old new (below ++ one) (summed r c (ends end))
      (in_either below one (summed r c (ends end))
      (summed_within r c front (ends end) (λ z h. let b = run_bounds (end - 3) (size - (end - 3)) z h in ends_have end z some b.0 (omega (arith, b.1, l.least, most))))
      (summed_one_of r c size (ends end) (ends_have end size some l.least (omega (arith, most)))))
      (tells_then [] [] old mid new below one false l.tells (answered [] mid new one b false e t))

  pub all_below : (now : Seen) (size : ℕ) → size ≡ end + 1 → LookedBelow r c end old size now → Tells [] old now (summed r c (ends end)) true
  all_below now size e l =
      let four : size - (end - 3) ≡ 4 = omega (arith, e, some) in
      tells_as [] old now (summed r c (run_of (end - 3) 4)) (summed r c (ends end)) true
      (summed_within r c (run_of (end - 3) 4) (ends end) (λ z h. let b = run_bounds (end - 3) 4 z h in ends_have end z some b.0 (omega (arith, b.1, some))))
      (summed_within r c (ends end) (run_of (end - 3) 4) (λ z h. ends_run end z some h))
      (subst (λ k. Tells [] old now (summed r c (run_of (end - 3) k)) true) four l.tells)

-- where a checksum was stored, and a word behind the header before it
pub meant_ends : (r : Region) (last checksum : Option ℕ) (word sum : ℕ) → last ≡ Some word → checksum ≡ Some sum → 0 < word → summed r sum (ends (4 * word)) ≡ meant r last checksum
meant_ends r last checksum word sum l c some =
    let there : nat_lt 0 word ≡ true = grind (arith, nat_tests) in
    ap (summed r sum) (ap (λ b. cond b (ends (4 * word)) []) (sym there)) ∙ (λ i. meant r (sym l i) (sym c i))
