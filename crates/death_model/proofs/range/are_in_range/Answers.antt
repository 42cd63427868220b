use Rattle.std.proofs.Common.{reverse, take, sym, ◌∙◌}
use Rattle.region_words.specs.Region.{region_of}
use Rattle.region_words.specs.Past.{region_after}
use Rattle.death_model.proofs.Fronts.{next_in_range}
use Rattle.death_model.proofs.range.are_in_range.Goals as goal

pub returns-then-not-is_in_range : goal.returns-then-not-is_in_range
returns-then-not-is_in_range c =
    let start = region_of c.args.body.now c.args.meta.now in
    let tells = c.is_in_range.ensures (region_after start (reverse (take c.loop-event.event-index c.args.events.now))) c.loop-event.invariant.data_is c.loop-event.invariant.meta_is in
    (λ t. absurd cc, λ a. sym c.if-not-is_in_range.true ∙ tells.1 (next_in_range start c.args.events.now c.loop-event.event-index c.event-item.result c.event-item.is c.loop-event-test.true a))
