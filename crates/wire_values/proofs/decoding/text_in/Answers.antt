use Rattle.std.proofs.Common.{◌≡◌, ◌-◌, length, take, drop, ap, sym, ◌∙◌, arith, length-drop, length-take}
use Rattle.std.specs.Prelude.{Some, None}
use Rattle.kv_pairs.specs.Reading.{length_at}
use Rattle.kv_pairs.proofs.ReadsGrammar.{length_read}
use Rattle.wire_values.proofs.Spelled.{another_size}
use Rattle.wire_values.proofs.decoding.text_in.Goals as goal

pub returns-in_default-clause-none : goal.returns-in_default-clause-none
returns-in_default-clause-none c = λ text is.
    let read : length_at c.args.bytes.now ≡ Some (length text, text) = ap length_at is.2 ∙ length_read is.0 text (length text) is.1 in
    let none : length_at c.args.bytes.now ≡ None = c.in_default.ensures.none in
    absurd cc

pub returns-else-text-size-clause-none : goal.returns-else-text-size-clause-none
returns-else-text-size-clause-none c =
    let whole : length (drop c.in-Ok.after c.args.bytes.now) ≡ length (take (length c.args.bytes.now - c.in-Ok.after) (drop c.in-Ok.after c.args.bytes.now)) =
    omega (arith, length-take (length c.args.bytes.now - c.in-Ok.after) (drop c.in-Ok.after c.args.bytes.now), length-drop c.in-Ok.after c.args.bytes.now) in
    another_size c.args.bytes.now (drop c.in-Ok.after c.args.bytes.now) c.in-Ok.size c.in-Ok.ensures.ok (λ e. c.if-text-size.false (sym whole ∙ e))
