use Rattle.mmkv_top.proofs.Stocked.{of_lists}
use Rattle.mmkv_main.proofs.status_of.Goals as goal

pub run-requires : goal.run-requires
run-requires c =
    record {
      fresh =
          of_lists _ c.new-stock.result c.loop.discard.items c.loop.recover.items c.loop.leave.items c.loop.invariant.0 c.loop.invariant.1 c.loop.invariant.2
          c.new-stock.ensures.discard c.new-stock.ensures.recover c.new-stock.ensures.leave;
    }
