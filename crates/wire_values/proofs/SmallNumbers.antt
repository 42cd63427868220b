-- A word whose number is too great for a kind is none of that kind.
use Rattle.std.proofs.Common.{◌≡◌, ℤ, List, ℕ, ap, sym, ◌∙◌, subst}
use Rattle.std.specs.Prelude.{Option, Result, Ok, Err, IfNone, FitsSigned}
use Rattle.std.specs.Result.{OkIff, result_ok}
use Rattle.std.specs.Int.{cast_signed, cast_unsigned, w32, w64}
use Rattle.std.specs.Fmt.{signed_decimal}
use Rattle.std.proofs.lemmas.Int.{to_z-of_z}
use Rattle.std.proofs.lemmas.Fmt.{signed_decimal_injective}
use Rattle.wire_values.proofs.Numbers.{fits_wide}

pub no_small : {E : Type 0} (r : Result ℤ E) (o : Option ℤ) (y : ℤ) (word : List ℕ) → OkIff r (FitsSigned w32 (cast_signed w64 (cast_unsigned w64 y))) (cast_signed w64 (cast_unsigned w64 y)) → o ≡ result_ok r → FitsSigned w64 y → word ≡ signed_decimal y →
    IfNone o ((z : ℤ) → FitsSigned w32 z × (word ≡ signed_decimal z) → ⊥)
no_small (Ok x) o y word h e fits w = subst (λ (q : Option ℤ). IfNone q ((z : ℤ) → FitsSigned w32 z × (word ≡ signed_decimal z) → ⊥)) (sym e) tt
no_small (Err f) o y word h e fits w =
    subst (λ (q : Option ℤ). IfNone q ((z : ℤ) → FitsSigned w32 z × (word ≡ signed_decimal z) → ⊥)) (sym e) (λ z s.
    let wide : FitsSigned w64 z = fits_wide z s.0 in
    let same : z ≡ y = signed_decimal_injective z y wide.sfits fits.sfits (sym s.1 ∙ w) in
    let seen : z ≡ cast_signed w64 (cast_unsigned w64 y) = sym (to_z-of_z w64 z wide) ∙ ap (λ m. cast_signed w64 (cast_unsigned w64 m)) same in
    h (subst (FitsSigned w32) seen s.0))
