use Rattle.std.proofs.Common.{subst, sym}
use Rattle.region_words.specs.Region.{region_of}
use Rattle.death_model.specs.InRange.{IsInRange}
use Rattle.death_model.proofs.Fronts.{next_in_range}
use Rattle.death_model.proofs.after.after_death.Goals as goal

pub apply-requires : goal.apply-requires
apply-requires c =
    subst (λ r. IsInRange r c.event-item.result.what) (sym c.loop-event.invariant)
    (next_in_range (region_of c.args.body.now c.args.meta.now) c.args.events.now c.loop-event.event-index c.event-item.result c.event-item.is c.loop-event-test.true c.requires)
