use Rattle.std.proofs.Common.{arith, ap}
use Rattle.std.specs.Prelude.{◌+◌}
use Rattle.script_lang.specs.Played.{stock_of}
use Rattle.race_core.proofs.Texts.{text_takes}
use Rattle.race_core.proofs.script.take_text.Goals as goal

pub returns-in-Ok-clause-taken : goal.returns-in-Ok-clause-taken
returns-in-Ok-clause-taken g c = λ all before counted at.
    text_takes all (stock_of c.take.new.stock) before c.args.line.now c.take.new.field.openers.items c.in-Ok.line c.take.result
    (omega (arith, counted, c.if-count-ge-LARGEST_COUNT.false)) (omega (arith, c.if-line-gt-LARGEST_LINE.false)) c.in-Ok.ensures.ok (c.take.ensures.taken all before (ap (λ n. n + 1) counted) at)
