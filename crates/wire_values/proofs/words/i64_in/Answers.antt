use Rattle.std.proofs.Common.{◌≡◌, ◌∙◌, ap, sym, subst}
use Rattle.std.specs.Prelude.{IsTrue, false}
use Rattle.std.specs.Int.{cast_signed, cast_unsigned, w64}
use Rattle.std.proofs.lemmas.Int.{to_z-of_z}
use Rattle.std.specs.Fmt.{signed_decimal}
use Rattle.std.specs.Str.{IsAscii}
use Rattle.std.proofs.lemmas.Str.{IsUtf8-from_ascii}
use Rattle.std.proofs.lemmas.Fmt.{IsAscii-signed, parse-signed_decimal}
use Rattle.wire_values.proofs.words.i64_in.Goals as goal

pub returns-in_default-clause-none : goal.returns-in_default-clause-none
returns-in_default-clause-none c = λ z h. c.in_default.ensures.cases.0 (IsUtf8-from_ascii c.args.word.now (subst IsAscii (sym h.1) (IsAscii-signed z h.0.sfits)))

pub returns-in-Err-clause-none : goal.returns-in-Err-clause-none
returns-in-Err-clause-none c = λ z h.
    let read = parse-signed_decimal w64 z c.in-Ok.text.now c.parse.result h.0 h.0.sfits (c.in-Ok.ensures.cases.0 ∙ h.1) c.parse.ensures.value.0 in
    absurd cc

pub returns-else-is_text-clause-none : goal.returns-else-is_text-clause-none
returns-else-is_text-clause-none c = λ z h.
    let read = parse-signed_decimal w64 z c.in-Ok.text.now c.parse.result h.0 h.0.sfits (c.in-Ok.ensures.cases.0 ∙ h.1) c.parse.ensures.value.0 in
    let same : c.in-Ok-parse.number ≡ z = (cc) in
    let seen : z ≡ cast_signed w64 (cast_unsigned w64 c.in-Ok-parse.number) = sym (to_z-of_z w64 z h.0) ∙ ap (λ m. cast_signed w64 (cast_unsigned w64 m)) (sym same) in
    let no : IsTrue false = c.if-is_text.ensures.1 (h.1 ∙ ap signed_decimal seen ∙ sym c.format.ensures.text) in
    absurd cc
