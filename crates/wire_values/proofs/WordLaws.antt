-- A word, and the one value of a kind that it spells.
use Rattle.std.proofs.Common.{◌≡◌, ◌≢◌, ℕ, zero, suc, ◌-◌, ◌^◌, ◌<◌, true, false, cond, List, [], drop, refl, sym, ap, ◌∙◌, arith, ℤ, pos, negsuc}
use Rattle.std.specs.Prelude.{unwrap_or, slice_index, ◌==◌, if◌then◌else◌, FitsSigned, decimal}
use Rattle.std.specs.Fmt.{signed_decimal}
use Rattle.std.specs.Result.{result_ok}
use Rattle.std.specs.Int.{w64}
use Rattle.std.specs.Str.Parse.{digits_value}
use Rattle.std.proofs.lemmas.Bool.Decides.{nat_tests}
use Rattle.std.proofs.lemmas.Fmt.{decimal_is_IsNumeral, first_decimal, decimal_digit}
use Rattle.hex.specs.Hex.{decode_of}
use Rattle.hex.proofs.HexLemmas.{decode_of-encode_lower}
use Rattle.wire_values.specs.Values.{kind_of}
use Rattle.wire_values.specs.Words.{SpellsWord, word_of}
use Rattle.wire_values.specs.Laws.{HasWord}
use Rattle.wire_values.specs.declared.value.Kind.{Kind}
use Rattle.wire_values.specs.declared.value.Kind.TheVariants as kind
use Rattle.wire_values.specs.declared.value.Value.{Value}
use Rattle.wire_values.specs.declared.value.Value.TheVariants as value
use Rattle.wire_values.proofs.Numbers.{fits_wide}

pub word_back : (v : Value) → HasWord v → SpellsWord (word_of v) v
word_back (value.Bool true) h = refl
word_back (value.Bool false) h = refl
word_back (value.I32 z) h = (h, refl)
word_back (value.U32 n) h = (h, refl)
word_back (value.I64 z) h = (h, refl)
word_back (value.U64 n) h = (h, refl)
word_back (value.Text text) h = refl
word_back (value.Blob blob) h = decode_of-encode_lower blob h
word_back (value.Raw raw) h = decode_of-encode_lower raw h

-- a number in decimal, with a sign before a negative one
abbrev signed_value : List ℕ → ℤ
signed_value word = if slice_index word 0 == 45 then negsuc (digits_value 10 (drop 1 word) - 1) else pos (digits_value 10 word)

no_sign : (n : ℕ) → n < 2 ^ 64 → slice_index (decimal n) 0 ≢ 45
no_sign zero h = λ e. let zeroth : slice_index (decimal 0) 0 ≡ 48 = ap (λ w. slice_index w 0) (decimal_digit 0 (omega arith)) in omega (arith, zeroth, e)
no_sign (suc n) h = λ e. let first = first_decimal (suc n) (omega arith) h in omega (arith, first, e)

signed_is : (word : List ℕ) (z : ℤ) → FitsSigned w64 z → word ≡ signed_decimal z → z ≡ signed_value word
signed_is word (pos n) fits e =
    let small : n < 2 ^ 64 = omega (arith, fits.sfits) in
    let test : (slice_index word 0 == 45) ≡ false = grind (arith, nat_tests, no_sign n small, ap (λ w. slice_index w 0) e) in
    let number : digits_value 10 word ≡ n = ap (digits_value 10) e ∙ (decimal_is_IsNumeral n small).1 in
    sym (ap (λ b. cond b (negsuc (digits_value 10 (drop 1 word) - 1)) (pos (digits_value 10 word))) test ∙ ap pos number)
signed_is word (negsuc n) fits e =
    let small : suc n < 2 ^ 64 = omega (arith, fits.sfits) in
    let test : (slice_index word 0 == 45) ≡ true = grind (arith, nat_tests, ap (λ w. slice_index w 0) e) in
    let number : digits_value 10 (drop 1 word) - 1 ≡ n = omega (arith, ap (λ w. digits_value 10 (drop 1 w)) e, (decimal_is_IsNumeral (suc n) small).1) in
    sym (ap (λ b. cond b (negsuc (digits_value 10 (drop 1 word) - 1)) (pos (digits_value 10 word))) test ∙ ap negsuc number)

-- the one value of a kind that the word may spell
abbrev reading : Kind → List ℕ → Value
reading kind.Bool word = value.Bool (slice_index word 0 == 116)
reading kind.I32 word = value.I32 (signed_value word)
reading kind.U32 word = value.U32 (digits_value 10 word)
reading kind.I64 word = value.I64 (signed_value word)
reading kind.U64 word = value.U64 (digits_value 10 word)
reading kind.Text word = value.Text word
reading kind.Blob word = value.Blob (unwrap_or (result_ok (decode_of word)) [])
reading kind.Raw word = value.Raw (unwrap_or (result_ok (decode_of word)) [])

unsigned_is : (word : List ℕ) (n : ℕ) → n < 2 ^ 64 → word ≡ decimal n → n ≡ digits_value 10 word
unsigned_is word n h e = sym (ap (digits_value 10) e ∙ (decimal_is_IsNumeral n h).1)

is_reading : (word : List ℕ) (v : Value) → SpellsWord word v → v ≡ reading (kind_of v) word
is_reading word (value.Bool true) s = rw s refl
is_reading word (value.Bool false) s = rw s refl
is_reading word (value.I32 z) s = ap value.I32 (signed_is word z (fits_wide z s.0) s.1)
is_reading word (value.U32 n) s = ap value.U32 (unsigned_is word n (omega (arith, s.0)) s.1)
is_reading word (value.I64 z) s = ap value.I64 (signed_is word z s.0 s.1)
is_reading word (value.U64 n) s = ap value.U64 (unsigned_is word n s.0 s.1)
is_reading word (value.Text text) s = ap value.Text (sym s)
is_reading word (value.Blob blob) s = ap (λ r. value.Blob (unwrap_or (result_ok r) [])) (sym s)
is_reading word (value.Raw raw) s = ap (λ r. value.Raw (unwrap_or (result_ok r) [])) (sym s)

pub word_one : (word : List ℕ) (v w : Value) → kind_of v ≡ kind_of w → SpellsWord word v → SpellsWord word w → v ≡ w
word_one word v w e s t = is_reading word v s ∙ ap (λ k. reading k word) e ∙ sym (is_reading word w t)
