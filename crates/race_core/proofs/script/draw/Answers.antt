use Rattle.race_core.proofs.Drawing.{none_drawn, one_drawn}
use Rattle.race_core.proofs.Stocked.{the_drawn, those_left}
use Rattle.race_core.proofs.script.draw.Goals as goal

pub returns-clause-fresh : goal.returns-clause-fresh
returns-clause-fresh g c = those_left _ c.args.stock.now c.draw.new.self c.args.strategy c.draw.result c.requires c.draw.ensures.discard c.draw.ensures.recover c.draw.ensures.leave

pub returns-clause-handler : goal.returns-clause-handler
returns-clause-handler g c = the_drawn _ c.args.stock.now c.draw.new.self c.args.strategy c.draw.result c.requires c.draw.ensures.discard c.draw.ensures.recover c.draw.ensures.leave

pub returns-clause-some : goal.returns-clause-some
returns-clause-some g c =
    one_drawn c.args.stock.now.discard.items c.draw.new.self.discard.items c.args.stock.now.recover.items c.draw.new.self.recover.items c.args.stock.now.leave.items c.draw.new.self.leave.items
    c.draw.result c.args.strategy c.draw.ensures.discard c.draw.ensures.recover c.draw.ensures.leave

pub returns-clause-none : goal.returns-clause-none
returns-clause-none g c = λ none.
    none_drawn c.args.stock.now.discard.items c.draw.new.self.discard.items c.args.stock.now.recover.items c.draw.new.self.recover.items c.args.stock.now.leave.items c.draw.new.self.leave.items
    c.draw.result c.args.strategy none c.draw.ensures.discard c.draw.ensures.recover c.draw.ensures.leave
