-- What the death of an opener leaves.
use Rattle.std.proofs.Common.{◌≡◌, ◌⊎◌, true, refl, sym, ap, inl, inr, subst}
use Rattle.std.specs.Prelude.{Option, None, Some}
use Rattle.opener.specs.Deaths.{DeathEnds, DiesAt, torn_at}
use Rattle.opener.specs.Opener.{Knows, Tied, is_ended}
use Rattle.opener.specs.State.{OpenerState}
use Rattle.opener.specs.declared.work.Work.{Work}
use Rattle.opener.specs.declared.work.Work.TheVariants.{Ended, Idle, Runs}
use Rattle.region_words.specs.Share.{Dies, Fails, IsSameShare, IsTurnedAway, ShareState, died, failed, turned_away}
use Rattle.region_words.specs.Told.{History, OnBoth, OnTold}
use Rattle.region_words.specs.declared.stops.TornStore.{TornStore}
use Rattle.race_core.specs.Calls.{StartsAs}
use Rattle.race_core.specs.Worker.{HasHappened, RestsFor}
use Rattle.race_core.proofs.Making.{same_still, start_after, start_stays}
use Rattle.race_core.proofs.Resting.{rests_after}

-- the death of an opener that lived
abbrev Died : Option TornStore → ShareState → ShareState → Type 0
Died by s t = Dies by s t ⊎ Fails s t

died_same : (by : Option TornStore) (s t : ShareState) → Died by s t → IsSameShare s t
died_same by s t (inl d) = d.goes.after.same
died_same by s t (inr f) = f.after.same

died_start : (by : Option TornStore) (s t : ShareState) → Died by s t → OnBoth s.told t.told StartsAs
died_start by s t (inl d) = start_after (died d.left s) s t d.goes.after
died_start by s t (inr f) = start_after (failed s) s t f.after

died_rests : (by : Option TornStore) (s t : ShareState) → Died by s t → OnBoth s.told t.told (RestsFor s.who)
died_rests by s t (inl d) = rests_after (died d.left s) s t d.goes.after refl
died_rests by s t (inr f) = rests_after (failed s) s t f.after refl

-- an opener's death changes only what a call on the share does
pub dead_same : (w : Work) (s t : ShareState) → DiesAt w None s t → IsSameShare s t
dead_same Ended s t is = subst (IsSameShare s) (sym is) (same_still s)
dead_same Idle s t d = died_same (torn_at Idle None) s t d
dead_same (Runs running at) s t d = died_same (torn_at (Runs running at) None) s t d

pub dead_start : (w : Work) (s t : ShareState) → DiesAt w None s t → OnBoth s.told t.told StartsAs
dead_start Ended s t is = subst (λ (x : ShareState). OnBoth s.told x.told StartsAs) (sym is) (start_stays s.told)
dead_start Idle s t d = died_start (torn_at Idle None) s t d
dead_start (Runs running at) s t d = died_start (torn_at (Runs running at) None) s t d

-- one that ran no call has changed nothing by it
pub dead_rests : (w : Work) (s t : ShareState) → DiesAt w None s t → w ≡ Idle → OnBoth s.told t.told (RestsFor s.who)
dead_rests Idle s t d is = died_rests (torn_at Idle None) s t d
dead_rests Ended s t d is = absurd cc
dead_rests (Runs running at) s t d is = absurd cc

-- the share makes no more calls
pub dead_ended : (o : OpenerState) (s t : ShareState) → Tied o s → DiesAt o.work None s t → DeathEnds o t → (t.ended ≡ true) × (t.holds ≡ None)
dead_ended o s t tied dies ends = go o.work refl dies
  where
    lived : Tied (record { who = o.who; image = None; holds = 0; work = Ended }) t → (t.ended ≡ true) × (t.holds ≡ None)
    lived there = (there.ended, there.holds)

    go : (w : Work) → o.work ≡ w → DiesAt w None s t → (t.ended ≡ true) × (t.holds ≡ None)
    go Ended is same =
        let old : Tied (record o { work = Ended }) s = subst (λ w. Tied (record o { work = w }) s) is tied in
        subst (λ (x : ShareState). (x.ended ≡ true) × (x.holds ≡ None)) (sym same) (old.ended, old.holds)
    go Idle is d = lived (ends (ap is_ended is))
    go (Runs running at) is d = lived (ends (ap is_ended is))

-- what it tells is lawful
pub dead_lawful : (o : OpenerState) (s t : ShareState) → Tied o s → DiesAt o.work None s t → DeathEnds o t → OnTold t.told HasHappened
dead_lawful o s t tied dies ends = go o.work refl dies
  where
    known : (o : OpenerState) (x : ShareState) (a : Option History) → OnTold a (Knows o x) → OnTold a HasHappened
    known o x None told = tt
    known o x (Some h) told = told.agrees.lawful

    lived : Tied (record { who = o.who; image = None; holds = 0; work = Ended }) t → OnTold t.told HasHappened
    lived there = known (record { who = o.who; image = None; holds = 0; work = Ended }) t t.told there.told

    go : (w : Work) → o.work ≡ w → DiesAt w None s t → OnTold t.told HasHappened
    go Ended is same = subst (λ (x : ShareState). OnTold x.told HasHappened) (sym same) (known o s s.told tied.told)
    go Idle is d = lived (ends (ap is_ended is))
    go (Runs running at) is d = lived (ends (ap is_ended is))

-- A try that was turned away.
module _ (s t : ShareState) (away : IsTurnedAway s t) where
  pub away_same : IsSameShare s t
  away_same = away.after.same

  pub away_start : OnBoth s.told t.told StartsAs
  away_start = start_after (turned_away s) s t away.after

  pub away_rests : OnBoth s.told t.told (RestsFor s.who)
  away_rests = rests_after (turned_away s) s t away.after refl
