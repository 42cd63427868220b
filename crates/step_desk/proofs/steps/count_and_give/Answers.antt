use Rattle.std.proofs.Common.{rules}
use Rattle.step_desk.proofs.Moves.{counts_allowed, gives_allowed}
use Rattle.step_desk.proofs.Turning.{counted, counted_held}
use Rattle.step_desk.proofs.steps.count_and_give.Goals as goal

pub store-requires : goal.store-requires
store-requires c = (search rules, search rules, counts_allowed _ _ _ _ _ _ _ _ c.requires.holds.2)

pub store-requires-2 : goal.store-requires-2
store-requires-2 c = (search rules, search rules, gives_allowed _ _ _ _ _ _ c.requires.table.1.1 (counted _ _ _ _ _ c.requires.holds.2 c.store.ensures.2) (counted_held _ _ _ _ _ c.requires.holds.2 c.store.ensures.2))
