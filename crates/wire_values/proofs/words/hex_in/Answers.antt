use Rattle.std.proofs.Common.{false, refl, arith}
use Rattle.std.specs.Prelude.{IsTrue}
use Rattle.hex.proofs.HexLemmas.{decode_of-ok, decode_of-digits}
use Rattle.wire_values.proofs.words.hex_in.Goals as goal
use Rattle.wire_values.proofs.words.hex_in.Goals.{then-word-eq1-via-then-word-eq1, then-word-eq1-via-else-word-eq1+then-not-all_hex}

pub returns-then-word-eq1-clause-shape : goal.returns-then-word-eq1-clause-shape
returns-then-word-eq1-clause-shape c = λ e bytes is.
    let good = decode_of-ok c.args.word.now bytes is in
    elim c.then-word-eq1.branch [
      | then-word-eq1-via-then-word-eq1 w ↦ absurd (omega (arith, good.0, w.if-word-eq1.true))
      | then-word-eq1-via-else-word-eq1+then-not-all_hex w ↦ let no : IsTrue false = w.if-not-all_hex.ensures.1 good.1 in absurd cc
    ]

pub returns-in-Err-clause-memory : goal.returns-in-Err-clause-memory
returns-in-Err-clause-memory c = λ e. decode_of-digits c.args.word.now (omega arith) (c.if-not-all_hex.ensures.0 refl)
