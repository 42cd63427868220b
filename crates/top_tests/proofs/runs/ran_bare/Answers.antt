use Rattle.std.proofs.Common.{[], ◌∙◌}
use Rattle.std.proofs.lemmas.List.Elements.{All-nil}
use Rattle.mmkv_top.proofs.Stocked.{of_lists}
use Rattle.top_tests.proofs.runs.ran_bare.Goals as goal

pub ran-requires : goal.ran-requires
ran-requires c =
    of_lists _ c.new-stock.result [] [] [] (All-nil _) (All-nil _) (All-nil _)
    (c.new-stock.ensures.discard ∙ c.new-3.ensures.items) (c.new-stock.ensures.recover ∙ c.new-4.ensures.items) (c.new-stock.ensures.leave ∙ c.new-5.ensures.items)
