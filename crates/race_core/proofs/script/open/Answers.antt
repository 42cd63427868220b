use Rattle.std.proofs.Common.{arith, refl}
use Rattle.script_lang.specs.Played.{stock_of}
use Rattle.race_core.proofs.Openings.{open_takes}
use Rattle.race_core.proofs.script.open.Goals as goal

pub returns-in-Some-clause-taken : goal.returns-in-Some-clause-taken
returns-in-Some-clause-taken g c = λ all before at.
    open_takes all (stock_of c.args.stock.now) (stock_of c.draw.new.stock) before c.args.field.now.openers.items c.enter.new.field.openers.items c.args.strategy c.new.result c.enter.result at
    (omega (arith, c.if-len-ge-MOST.false)) (c.in-Some.ensures.some refl) c.new.ensures.strategy c.new.ensures.calls c.new.ensures.holds c.enter.ensures.openers c.enter.ensures.err
