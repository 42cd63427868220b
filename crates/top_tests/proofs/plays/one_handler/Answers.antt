use Rattle.std.proofs.Common.{[], ◌∙◌}
use Rattle.std.proofs.lemmas.List.Elements.{All-nil}
use Rattle.mmkv_top.proofs.Stocked.{of_lists}
use Rattle.top_tests.proofs.plays.one_handler.Goals as goal

pub returns : goal.returns
returns g c =
    of_lists _ c.new-3.result [] [] c.in_ok-handlers.field-0.items (All-nil _) (All-nil _) c.in_ok-handlers.ensures
    (c.new-3.ensures.discard ∙ c.new.ensures.items) (c.new-3.ensures.recover ∙ c.new-2.ensures.items) c.new-3.ensures.leave
