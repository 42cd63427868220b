use Rattle.stores_bench.proofs.Going.{some_left}
use Rattle.stores_bench.proofs.work.finish.Goals as goal

pub loop-preserved : goal.loop-preserved
loop-preserved c =
    let (row, owing) = c.loop.invariant.1 in
    (some_left c.step.new.self.events c.in_ok-step.field-0 c.in_ok-step.ensures.stored c.in-More.is, (row, c.in_ok-step.ensures.owing row owing))
