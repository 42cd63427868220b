use Rattle.std.proofs.Common.{arith}
use Rattle.mmkv_top.specs.State.{play_state}
use Rattle.script_lang.specs.Played.{stock_of}
use Rattle.mmkv_top.proofs.Taking.{text_takes}
use Rattle.mmkv_top.proofs.lines.take_text.Goals as goal

pub returns-in-Ok-clause-taken : goal.returns-in-Ok-clause-taken
returns-in-Ok-clause-taken g c = λ stock start parts at.
    text_takes stock (stock_of c.take.new.handlers) start parts c.args.count c.args.line.now (play_state c.take.new.world.core c.take.new.text.items) c.in-Ok.line c.take.result
    (omega (arith, c.if-count-ge-LARGEST_COUNT.false)) (omega (arith, c.if-line-gt-LARGEST_LINE.false)) c.in-Ok.ensures.ok (c.take.ensures.taken stock start parts at)
