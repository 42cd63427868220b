-- The places that openers have reserved.
use Rattle.std.proofs.Common.{◌≡◌, ◌≤◌, ℕ, ◌+◌, ◌-◌, subst, arith}
use Rattle.std.specs.Prelude.{Some, slice_get}
use Rattle.region_words.specs.Share.{ShareState}
use Rattle.opener.specs.Opener.{IsUnderWay, Owes, WorkIs}
use Rattle.opener.specs.State.{OpenerState}
use Rattle.opener.specs.Steps.{events_left}
use Rattle.opener.specs.declared.work.Stage.TheVariants as stage
use Rattle.opener.specs.declared.work.Work.{Work}
use Rattle.opener.specs.declared.work.Work.TheVariants.{Idle, Ended, Runs}
use Rattle.world.specs.Reserved.{ReserveWhatIsLeft, StoreWhatWasPlanned}
use Rattle.world.specs.World.{IsSound, OpenerIs, WorldState}

-- what an opener owes
what_is_left : (o : OpenerState) (work : Work) (s : ShareState) → Owes o work s → s.reserved s.who ≡ events_left work
what_is_left o Idle s owes = owes
what_is_left o Ended s owes = owes
what_is_left o (Runs running stage.PeekChecksum) s owes = owes
what_is_left o (Runs running (stage.PeekSequence peek)) s owes = owes
what_is_left o (Runs running (stage.LockShared extent)) s owes = owes
what_is_left o (Runs running stage.LockExclusive) s owes = owes
what_is_left o (Runs running (stage.Continue loading)) s owes = owes
what_is_left o (Runs running (stage.Load loading)) s owes = owes
what_is_left o (Runs running stage.Size) s owes = owes
what_is_left o (Runs running (stage.Reserve plan)) s owes = owes
what_is_left o (Runs running (stage.Store plan)) s owes = owes.places
what_is_left o (Runs running (stage.Unlock how)) s owes = owes
what_is_left o (Runs running stage.Hold) s owes = owes
what_is_left o (Runs running stage.Release) s owes = owes

-- the opener of a number
numbered : (w : WorldState) → IsSound w → (who : ℕ) (o : OpenerState) → 1 ≤ who → slice_get w.openers (who - 1) ≡ Some o → OpenerIs w.region w.answers who o
numbered w sound who o least at = let is : who - 1 + 1 ≡ who = omega (arith, least) in subst (λ n. OpenerIs w.region w.answers n o) is (sound.each (who - 1) o at)

pub left_is_reserved : (w : WorldState) → IsSound w → ReserveWhatIsLeft w
left_is_reserved w sound who o least at = let is = numbered w sound who o least at in what_is_left o o.work _ is.tied.owes

pub stores_are_planned : (w : WorldState) → IsSound w → StoreWhatWasPlanned w
stores_are_planned w sound who o running plan least at runs =
    let is = numbered w sound who o least at in
    let work : WorkIs o (Runs running (stage.Store plan)) w.region.start w.region.past = subst (λ k. WorkIs o k w.region.start w.region.past) runs is.tied.told.facts.work in
    subst (λ n. IsUnderWay n running plan w.region.start w.region.past) is.number work.1.2
