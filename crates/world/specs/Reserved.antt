-- The places that are reserved for stores to come.
use Rattle.std.specs.Prelude.{◌≡◌, ◌≤◌, ℕ, ◌-◌, Some, slice_get}
use Rattle.region_words.specs.Local.{reserved_in}
use Rattle.opener.specs.Opener.{IsUnderWay}
use Rattle.opener.specs.State.{OpenerState}
use Rattle.opener.specs.Steps.{events_left}
use Rattle.opener.specs.declared.plan.Plan.{Plan}
use Rattle.opener.specs.declared.work.Running.{Running}
use Rattle.opener.specs.declared.work.Stage.TheVariants.{Store}
use Rattle.opener.specs.declared.work.Work.TheVariants.{Runs}
use Rattle.world.specs.World.{WorldState}

-- each opener has as many as events are left of its stores, and so none where no stores are under way
abbrev pub ReserveWhatIsLeft : WorldState → Type 0
ReserveWhatIsLeft w = (who : ℕ) (o : OpenerState) → 1 ≤ who → slice_get w.openers (who - 1) ≡ Some o → reserved_in w.region who ≡ events_left o.work

-- these are the last events of the plan that its call made as it reserved the places, and the others of that plan it has made since
abbrev pub StoreWhatWasPlanned : WorldState → Type 0
StoreWhatWasPlanned w =
    (who : ℕ) (o : OpenerState) (running : Running) (plan : Plan) → 1 ≤ who → slice_get w.openers (who - 1) ≡ Some o → o.work ≡ Runs running (Store plan) →
    IsUnderWay who running plan w.region.start w.region.past
