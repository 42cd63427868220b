use Rattle.std.proofs.Common.{[], ◌∙◌}
use Rattle.std.proofs.lemmas.List.Elements.{All-nil}
use Rattle.mmkv_top.proofs.Stocked.{of_lists}
use Rattle.top_tests.proofs.switches.two_handlers.Goals as goal

pub returns : goal.returns
returns g c =
    of_lists _ c.new-5.result [] [] c.add.new.all.items (All-nil _) (All-nil _) c.in_ok-add.ensures
    (c.new-5.ensures.discard ∙ c.new-3.ensures.items) (c.new-5.ensures.recover ∙ c.new-4.ensures.items) c.new-5.ensures.leave
