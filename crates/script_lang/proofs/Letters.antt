-- The words of the grammar have no spaces, and their bytes are ASCII.
use Rattle.std.proofs.Common.{◌≡◌, ℕ, suc, ◌<◌, ◌^◌, List, [], ◌∷◌, refl, inl, inr, arith, decimal, nat_lt}
use Rattle.std.specs.Prelude.{Bool, true, false, ◌&&◌}
use Rattle.std.specs.List.{AllByRecursion, AllPass}
use Rattle.std.specs.Fmt.{signed_decimal}
use Rattle.std.proofs.lemmas.List.Elements.{All-head, All-tail}
use Rattle.std.specs.Str.{IsAscii}
use Rattle.std.specs.Str.Parse.{AllDigits}
use Rattle.std.proofs.Math.IntN.{ℤ, pos, negsuc}
use Rattle.std.proofs.lemmas.Str.Parse.{digit_from_value}
use Rattle.std.proofs.lemmas.Str.Ascii.{IsAscii-nil, IsAscii-cons}
use Rattle.std.proofs.lemmas.Str.{IsAscii-append}
use Rattle.std.proofs.lemmas.Fmt.{decimal_is_IsNumeral}
use Rattle.std.proofs.lemmas.Bool.{cases_lt}
use Rattle.std.proofs.lemmas.Bool.Decides.{nat_tests}
use lib.Signed.{mag}
use Rattle.hex.specs.Hex.{is_hex_digit}
use Rattle.hex.proofs.HexLemmas.{decode_of-ok}
use Rattle.script_lang.specs.Lines.{IsHex, IsBits}
use Rattle.script_lang.specs.Texts.{spaced}
use Rattle.script_lang.proofs.Cutting.{InWord, IsWord}

digits_word : (digits : List ℕ) → AllDigits 10 digits → IsWord digits
digits_word [] h = tt
digits_word (c ∷ digits) h = let d = digit_from_value c h.0 in ((λ e. omega (arith, d, e), omega (arith, d)), digits_word digits h.1)

pub decimal_word : (n : ℕ) → n < 2 ^ 64 → IsWord (decimal n)
decimal_word n h = digits_word (decimal n) (decimal_is_IsNumeral n h).0.1

pub signed_word : (z : ℤ) → mag z < 2 ^ 63 → IsWord (signed_decimal z)
signed_word (pos n) h = decimal_word n (omega arith)
signed_word (negsuc n) h = ((λ e. omega (arith, e), omega arith), decimal_word (suc n) (omega arith))

hex_digit_in_word : (c : ℕ) → is_hex_digit c ≡ true → InWord c
hex_digit_in_word c h = (λ e. cc (rw e at h), elim (cases_lt c 128) [ inl low ↦ low | inr high ↦ grind (arith, nat_tests) ])

hex_digits_word : (word : List ℕ) → AllPass is_hex_digit word → IsWord word
hex_digits_word [] h = tt
hex_digits_word (c ∷ word) h = (hex_digit_in_word c (All-head (λ x. is_hex_digit x ≡ true) c word h), hex_digits_word word (All-tail (λ x. is_hex_digit x ≡ true) c word h))

pub hex_word : (word bytes : List ℕ) → IsHex word bytes → IsWord word
hex_word word bytes (inl h) = rw h.0 ((λ e. omega (arith, e), omega arith), tt)
hex_word word bytes (inr h) = hex_digits_word word (decode_of-ok word bytes h.1).1

pub bits_word : (word : List ℕ) (n : ℕ) → IsBits word n → IsWord word
bits_word word n h = hex_digits_word word (decode_of-ok word _ h.1).1

pub ascii_word : (word : List ℕ) → IsWord word → IsAscii word
ascii_word [] h = IsAscii-nil
ascii_word (c ∷ word) h = IsAscii-cons c word h.0.1 (ascii_word word h.1)

pub ascii_spaced : (words : List (List ℕ)) → AllByRecursion IsWord words → IsAscii (spaced words)
ascii_spaced [] h = IsAscii-nil
ascii_spaced (word ∷ []) h = ascii_word word h.0
ascii_spaced (word ∷ next ∷ words) h =
    IsAscii-append word (32 ∷ spaced (next ∷ words)) (ascii_word word h.0) (IsAscii-cons 32 _ (omega arith) (ascii_spaced (next ∷ words) h.1))

-- whether each byte is behind the space and in ASCII
abbrev pub word_test : List ℕ → Bool
word_test [] = true
word_test (c ∷ word) = nat_lt 32 c && (nat_lt c 128 && word_test word)

both : (a b : Bool) → (a && b) ≡ true → (a ≡ true) × (b ≡ true)
both true b e = (refl, e)
both false b e = cc e

byte_in_word : (c : ℕ) → nat_lt 32 c ≡ true → nat_lt c 128 ≡ true → (32 < c) × (c < 128)
byte_in_word c low high = (grind (arith, nat_tests), grind (arith, nat_tests))

pub tested_word : (word : List ℕ) → word_test word ≡ true → IsWord word
tested_word [] e = tt
tested_word (c ∷ word) e =
    let low = both (nat_lt 32 c) _ e in
    let high = both (nat_lt c 128) (word_test word) low.1 in
    let r = byte_in_word c low.0 high.0 in ((λ x. omega (arith, r, x), r.1), tested_word word high.1)
