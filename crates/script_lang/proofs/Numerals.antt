-- Numbers as words: a plain word that `parse` reads is what `decimal` writes.
use Rattle.std.proofs.Common.{◌≡◌, ◌≢◌, ℕ, zero, suc, ◌<◌, ◌≤◌, ◌^◌, List, [], ◌∷◌, length, drop, get_or, refl, ap, sym, ◌∙◌, subst, inl, inr, arith, slice_index, decimal, FitsSigned}
use Rattle.std.specs.Prelude.{Result, Ok, Err}
use Rattle.std.specs.Result.{result_ok}
use Rattle.std.proofs.lemmas.Bool.{cases_eq}
use Rattle.std.proofs.lemmas.Result.{OkIff-at_ok}
use Rattle.std.specs.Fmt.{signed_decimal}
use Rattle.std.specs.Int.{w32, w64}
use mir.Syntax.{Width}
use mir.Val.{hbits}
use Rattle.std.specs.Str.Parse.{AllDigits, digits_value, ParsesUnsigned, ParsesSigned}
use Rattle.std.proofs.lemmas.Str.Parse.{IsNumeralModel, numerals_by_value, tells_digits, parse_plain, parse_signed_plain, parse_signed_minus, not_in_digits}
use Rattle.std.proofs.lemmas.Fmt.{decimal-digits_value, parse-decimal, parse-signed_decimal, decimal_is_IsNumeral, first_decimal, decimal_digit}
use Rattle.std.proofs.Math.IntN.{ℤ, pos, negsuc, neg_ℤ}
use lib.Signed.{mag}
use Rattle.script_lang.specs.Splitting.{Reads, IsPlain, IsPlainSigned}

own : IsNumeralModel (AllDigits 10) (digits_value 10)
own = numerals_by_value (AllDigits 10) tells_digits

begins_with_digit : (n c : ℕ) → n < 2 ^ 64 → c < 48 → get_or (decimal n) 0 0 ≡ c → ⊥
begins_with_digit n c h low e =
    let d = decimal_is_IsNumeral n h in
    not_in_digits own (decimal n) c d.0.1 (λ r. omega (arith, r)) 0 d.0.0 e

no_needless_zero : (n : ℕ) → n < 2 ^ 64 → get_or (decimal n) 0 0 ≡ 48 → length (decimal n) ≡ 1
no_needless_zero zero h e = ap length (decimal_digit 0 (omega arith))
no_needless_zero (suc n) h e = absurd (omega (arith, first_decimal (suc n) (omega arith) h))

-- decimal digits begin with no sign and no needless zero
pub decimal_plain : (n : ℕ) → n < 2 ^ 64 → IsPlain (decimal n)
decimal_plain n h = (begins_with_digit n 43 h (omega arith), begins_with_digit n 45 h (omega arith), no_needless_zero n h)

pub plain_number : {E : Type 0} (k : ℕ) (word : List ℕ) (r : Result ℕ E) → ((n : ℕ) → n < 2 ^ k → n < 2 ^ 64) → ParsesUnsigned k 10 word r → IsPlain word → Reads (λ n. (word ≡ decimal n) × (n < 2 ^ k)) (result_ok r)
plain_number {E} k word (Ok x) fits h p =
    let a = parse_plain own {E = E} k word (Ok x) h p.0 in
    (sym (decimal-digits_value own word a.0.0 a.0.1 p.2 (fits (digits_value 10 word) a.0.2)) ∙ ap decimal (sym a.1), rw a.1 a.0.2)
plain_number {E} k word (Err e) fits h p = λ x m.
    let wrong : Err e ≡ Ok x = parse-decimal {E = E} k x word (Err e) m.1 (fits x m.1) m.0 h in cc

pub no_plain_number : (word : List ℕ) → (IsPlain word → ⊥) → (x : ℕ) → word ≡ decimal x → x < 2 ^ 64 → ⊥
no_plain_number word isnt x e h = isnt (subst IsPlain (sym e) (decimal_plain x h))

minus_digits : (m : ℕ) (digits : List ℕ) → decimal m ≡ digits → get_or digits 0 0 ≢ 48 → signed_decimal (neg_ℤ (pos m)) ≡ 45 ∷ digits
minus_digits zero digits e nonzero = absurd (nonzero (ap (λ ds. get_or ds 0 0) (sym e ∙ decimal_digit 0 (omega arith))))
minus_digits (suc n) digits e nonzero = ap (λ ds. 45 ∷ ds) e

behind_minus : (word : List ℕ) → get_or word 0 0 ≡ 45 → word ≡ 45 ∷ drop 1 word
behind_minus [] e = absurd (omega arith)
behind_minus (b ∷ bytes) e = ap (λ x. x ∷ bytes) e

second : (word : List ℕ) → get_or (drop 1 word) 0 0 ≡ slice_index word 1
second [] = refl
second (b ∷ bytes) = refl

minus_number : {E : Type 0} (w : Width) (word : List ℕ) (x : ℤ) (r : Result ℤ E) → r ≡ Ok x → 2 ^ hbits w ≤ 2 ^ 63 → ParsesSigned w 10 word r → get_or word 0 0 ≡ 45 → IsPlain (drop 1 word) → slice_index word 1 ≢ 48 → word ≡ signed_decimal x
minus_number w word x r e small h minus p nonzero =
    let a = OkIff-at_ok r _ _ x (parse_signed_minus own w word r h minus) e in
    let below : digits_value 10 (drop 1 word) < 2 ^ 64 = omega (arith, a.0.2, small) in
    let d = decimal-digits_value own (drop 1 word) a.0.0 a.0.1 p.2 below in
    behind_minus word minus ∙ sym (minus_digits (digits_value 10 (drop 1 word)) (drop 1 word) d (λ z. nonzero (sym (second word) ∙ z))) ∙ ap signed_decimal (sym a.1)

unsigned_number : {E : Type 0} (w : Width) (word : List ℕ) (x : ℤ) (r : Result ℤ E) → r ≡ Ok x → 2 ^ hbits w ≤ 2 ^ 63 → ParsesSigned w 10 word r → IsPlain word → word ≡ signed_decimal x
unsigned_number w word x r e small h p =
    let a = OkIff-at_ok r _ _ x (parse_signed_plain own w word r h p.0 p.1) e in
    let below : digits_value 10 word < 2 ^ 64 = omega (arith, a.0.2, small) in
    sym (decimal-digits_value own word a.0.0 a.0.1 p.2 below) ∙ ap signed_decimal (sym a.1)

pub plain_signed_number : {E : Type 0} (w : Width) (word : List ℕ) (r : Result ℤ E) → 2 ^ hbits w ≤ 2 ^ 63 → ((z : ℤ) → FitsSigned w z → mag z < 2 ^ 63) → ParsesSigned w 10 word r → IsPlainSigned word → Reads (λ z. (word ≡ signed_decimal z) × FitsSigned w z) (result_ok r)
plain_signed_number {E} w word (Ok x) small fits h p =
    let fit : FitsSigned w x = subst (FitsSigned w) (sym h.1) h.0.1 in
    elim (cases_eq (get_or word 0 0) 45) [
      | inl minus ↦ (minus_number {E = E} w word x (Ok x) refl small h minus (p.1 minus).0 (p.1 minus).1, fit)
      | inr plain ↦ (unsigned_number {E = E} w word x (Ok x) refl small h (p.0 plain), fit)
    ]
plain_signed_number {E} w word (Err e) small fits h p = λ x m.
    let wrong : Err e ≡ Ok x = parse-signed_decimal {E = E} w x word (Err e) m.1 (fits x m.1) m.0 h in cc

signed_decimal_plain : (z : ℤ) → mag z < 2 ^ 63 → IsPlainSigned (signed_decimal z)
signed_decimal_plain (pos n) h = let p = decimal_plain n (omega arith) in (λ _. p, λ e. absurd (p.1 e))
signed_decimal_plain (negsuc n) h = (
  λ isnt. absurd (isnt refl),
  λ _. (decimal_plain (suc n) (omega arith), λ e. absurd (omega (arith, e, first_decimal (suc n) (omega arith) (omega arith)))),
)

pub no_plain_signed_number : (word : List ℕ) → (IsPlainSigned word → ⊥) → (z : ℤ) → word ≡ signed_decimal z → mag z < 2 ^ 63 → ⊥
no_plain_signed_number word isnt z e h = isnt (subst IsPlainSigned (sym e) (signed_decimal_plain z h))

pub mag_of_32 : (z : ℤ) → FitsSigned w32 z → mag z < 2 ^ 63
mag_of_32 (pos n) h = omega (arith, h)
mag_of_32 (negsuc n) h = omega (arith, h)

pub mag_of_64 : (z : ℤ) → FitsSigned w64 z → mag z < 2 ^ 63
mag_of_64 (pos n) h = omega (arith, h)
mag_of_64 (negsuc n) h = omega (arith, h)
