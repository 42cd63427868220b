use Rattle.std.proofs.Common.{◌≡◌, ◌∙◌, ap, sym, subst}
use Rattle.std.specs.Prelude.{IsTrue, false, decimal}
use Rattle.std.specs.Str.{IsAscii}
use Rattle.std.proofs.lemmas.Str.{IsUtf8-from_ascii}
use Rattle.std.proofs.lemmas.Fmt.{IsAscii-decimal, parse-decimal}
use Rattle.wire_values.proofs.words.u64_in.Goals as goal

pub returns-in_default-clause-none : goal.returns-in_default-clause-none
returns-in_default-clause-none c = λ n h e. c.in_default.ensures.cases.0 (IsUtf8-from_ascii c.args.word.now (subst IsAscii (sym e) (IsAscii-decimal n h)))

pub returns-in-Err-clause-none : goal.returns-in-Err-clause-none
returns-in-Err-clause-none c = λ n h e.
    let read = parse-decimal 64 n c.in-Ok.text.now c.parse.result h h (c.in-Ok.ensures.cases.0 ∙ e) c.parse.ensures.value.0 in
    absurd cc

pub returns-else-is_text-clause-none : goal.returns-else-is_text-clause-none
returns-else-is_text-clause-none c = λ n h e.
    let read = parse-decimal 64 n c.in-Ok.text.now c.parse.result h h (c.in-Ok.ensures.cases.0 ∙ e) c.parse.ensures.value.0 in
    let same : c.in-Ok-parse.number ≡ n = (cc) in
    let no : IsTrue false = c.if-is_text.ensures.1 (e ∙ ap decimal (sym same) ∙ sym c.format.ensures.text) in
    absurd cc
