use Rattle.std.proofs.Common.{arith}
use Rattle.script_lang.proofs.Numerals.{plain_number, no_plain_number}
use Rattle.script_lang.proofs.value_words.long_number.Goals as goal

pub returns-then-is_plain : goal.returns-then-is_plain
returns-then-is_plain c =
    rw c.ok.ensures.value (plain_number 64 c.args.word.now c.parse.result (λ n h. omega arith) c.parse.ensures.value.0 (rw c.as_bytes.ensures.value at (c.is_plain.ensures.0 c.if-is_plain.true)))

pub returns-else-is_plain : goal.returns-else-is_plain
returns-else-is_plain c = λ x m. no_plain_number c.args.word.now (λ p. absurd (cc (c.is_plain.ensures.1 (rw c.as_bytes.ensures.value p), c.if-is_plain.false))) x m.0 (omega (arith, m.1))
