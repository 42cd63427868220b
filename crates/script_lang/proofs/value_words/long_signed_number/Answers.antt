use Rattle.std.proofs.Common.{arith}
use Rattle.std.specs.Int.{w64}
use Rattle.script_lang.proofs.Numerals.{plain_signed_number, no_plain_signed_number, mag_of_64}
use Rattle.script_lang.proofs.value_words.long_signed_number.Goals as goal

pub returns-then-is_plain_signed : goal.returns-then-is_plain_signed
returns-then-is_plain_signed c =
    rw c.ok.ensures.value (plain_signed_number w64 c.args.word.now c.parse.result (omega arith) mag_of_64 c.parse.ensures.value.0 (rw c.as_bytes.ensures.value at (c.is_plain_signed.ensures.0 c.if-is_plain_signed.true)))

pub returns-else-is_plain_signed : goal.returns-else-is_plain_signed
returns-else-is_plain_signed c = λ x m. no_plain_signed_number c.args.word.now (λ p. absurd (cc (c.is_plain_signed.ensures.1 (rw c.as_bytes.ensures.value p), c.if-is_plain_signed.false))) x m.0 (mag_of_64 x m.1)
