-- The tenth load of a region whose record is refused stops the call.
use Rattle.std.proofs.Common.{◌≡◌, refl, sym, subst, inl, inr}
use Rattle.std.specs.Prelude.{Option, Some, None, Result, Ok, Err, IfErr, IfSome, IsOk}
use Rattle.meta_record.specs.Records.{checked}
use Rattle.meta_record.specs.declared.record.RecordFault.{RecordFault}
use Rattle.region_words.specs.Region.{Region, IsAccepted, header, record_of}
use Rattle.region_words.specs.Past.{region_after}
use Rattle.region_words.specs.Share.{ShareState}
use Rattle.region_words.specs.Told.{OnTold}
use Rattle.region_words.proofs.Telling.{told_map}
use Rattle.loader.specs.Loads.{Load as Loading, loads_of}
use Rattle.opener.specs.State.{OpenerState}
use Rattle.opener.specs.Opener.{HasReason, HasCause, StopIs, KeepsCall, stop_found}
use Rattle.opener.specs.Refused.{IsNamed, StopsWhereRefused}
use Rattle.opener.specs.Steps.{ActsAt, FindsAccepted, OnRunning, Steps}
use Rattle.opener.specs.declared.calls.Step.{Step}
use Rattle.opener.specs.declared.calls.Step.TheVariants as step
use Rattle.opener.specs.declared.calls.Stop.{Stop}
use Rattle.opener.specs.declared.calls.Stop.TheVariants as why
use Rattle.opener.specs.declared.work.Running.{Running}
use Rattle.opener.specs.declared.work.Stage.{Stage}
use Rattle.opener.specs.declared.work.Stage.TheVariants.{PeekChecksum, PeekSequence, LockShared, LockExclusive, Continue, Load, Size, Reserve, Store, Unlock, Hold, Release}
use Rattle.opener.specs.declared.work.Work.TheVariants.{Runs}
use Rattle.opener.proofs.Falling.{always_told}

-- an accepted record has no fault
no_fault : (c : Result (Unit {0}) RecordFault) (P : RecordFault → Type 0) → IsOk c → IfErr c P
no_fault (Ok u) P ok = tt
no_fault (Err fault) P ok = absurd cc

-- what holds of any fault
any_fault : (c : Result (Unit {0}) RecordFault) (P : RecordFault → Type 0) → ((fault : RecordFault) → P fault) → IfErr c P
any_fault (Ok u) P all = tt
any_fault (Err fault) P all = all fault

-- this holds where the record of the region is refused
abbrev IfRefused : Region → (RecordFault → Type 0) → Type 0
IfRefused r P = IfErr (checked (record_of r) (header r)) P

accepted_told : (t : ShareState) (P : RecordFault → Type 0) → OnTold t.told (λ h. IsAccepted (region_after h.start h.past)) → OnTold t.told (λ h. IfRefused (region_after h.start h.past) P)
accepted_told t P told =
    told_map t.told (λ h. IsAccepted (region_after h.start h.past)) (λ h. IfRefused (region_after h.start h.past) P)
    (λ h ok. let r = region_after h.start h.past in no_fault (checked (record_of r) (header r)) P ok) told

any_told : (t : ShareState) (P : RecordFault → Type 0) → ((fault : RecordFault) → P fault) → OnTold t.told (λ h. IfRefused (region_after h.start h.past) P)
any_told t P all = always_told t.told (λ h. IfRefused (region_after h.start h.past) P) (λ h. let r = region_after h.start h.past in any_fault (checked (record_of r) (header r)) P all)

-- a stop with a reason that is found at a load names the fault
named : (running : Running) (loading : Loading) (stop : Stop) (s t : ShareState) → HasReason (Runs running (Load loading)) stop s t →
    OnTold t.told (λ h. IfRefused (region_after h.start h.past) (λ fault. IsNamed fault (Some stop)))
named running loading why.Fault s t is = any_told t _ (λ fault. inr (inr refl))
named running loading why.Memory s t is = any_told t _ (λ fault. inr (inl refl))
named running loading why.JournalFull s t (inl is) = absurd (let e = is.1 in cc)
named running loading why.JournalFull s t (inr is) = absurd is
named running loading (why.NotWhole seen) s t is =
    accepted_told t _
    (told_map t.told (λ h. StopIs running (why.NotWhole seen) h.start h.past) (λ h. IsAccepted (region_after h.start h.past)) (λ h found. found.3) is.2)
named running loading (why.Version n) s t is =
    told_map t.told (λ h. StopIs running (why.Version n) h.start h.past) (λ h. IfRefused (region_after h.start h.past) (λ fault. IsNamed fault (Some (why.Version n))))
    (λ h found. subst (λ c. IfErr c (λ fault. IsNamed fault (Some (why.Version n)))) (sym found) (inl refl)) is.2
named running loading (why.Flags n) s t is =
    told_map t.told (λ h. StopIs running (why.Flags n) h.start h.past) (λ h. IfRefused (region_after h.start h.past) (λ fault. IsNamed fault (Some (why.Flags n))))
    (λ h found. subst (λ c. IfErr c (λ fault. IsNamed fault (Some (why.Flags n)))) (sym found) (inl refl)) is.2
named running loading (why.Full need) s t is = absurd is.0
named running loading why.SequenceEnd s t is = absurd is.0
named running loading why.ExpiryOff s t is = absurd is.0
named running loading why.ExpiryRange s t is = absurd is.0
named running loading why.AlreadyOn s t is = absurd is.0
named running loading why.AlreadyOff s t is = absurd is.0

-- a load that goes on
going : (running : Running) (loading : Loading) (found : Option Stop) (s t : ShareState) → loads_of loading ≡ 9 → IfSome found (λ stop. HasReason (Runs running (Load loading)) stop s t) →
    (found ≡ None → FindsAccepted loading t) → OnTold t.told (λ h. IfRefused (region_after h.start h.past) (λ fault. IsNamed fault found))
going running loading None s t ten cause acts = accepted_told t _ (acts refl ten)
going running loading (Some stop) s t ten cause acts = named running loading stop s t cause

at_load : (o : OpenerState) (running : Running) (loading : Loading) (result : Step) (new : OpenerState) (s t : ShareState) → KeepsCall o.who o.holds running result new →
    HasCause (Runs running (Load loading)) result new.work s t → ActsAt result (Load loading) o.image new.work s t → StopsWhereRefused (Load loading) result new.work t
at_load o running loading step.Idle new s t keeps cause acts ten = absurd keeps
at_load o running loading step.Going new s t keeps cause acts ten = going running loading (stop_found new.work) s t ten cause acts
at_load o running loading step.Again new s t keeps cause acts ten = any_told t _ (λ fault. tt)
at_load o running loading (step.Blocked holder) new s t keeps cause acts ten = absurd (let e = cause.1 in cc)
at_load o running loading (step.Answered a) new s t keeps cause acts ten = accepted_told t _ (acts ten)
at_load o running loading (step.Stopped stop) new s t keeps cause acts ten = named running loading stop s t cause

pub refused_stops : {o : OpenerState} {running : Running} {stage : Stage} {result : Step} {new : OpenerState} {s t : ShareState} → Steps o running stage result new s t → StopsWhereRefused stage result new.work t
refused_stops {o} {running} {stage} {result} {new} {s} {t} steps = go stage steps.call steps.cause steps.acts
  where
    go : (stage : Stage) → KeepsCall o.who o.holds running result new → HasCause (Runs running stage) result new.work s t → ActsAt result stage o.image new.work s t → StopsWhereRefused stage result new.work t
    go PeekChecksum call cause acts = tt
    go (PeekSequence peek) call cause acts = tt
    go (LockShared extent) call cause acts = tt
    go LockExclusive call cause acts = tt
    go (Continue loading) call cause acts = tt
    go (Load loading) call cause acts = at_load o running loading result new s t call cause acts
    go Size call cause acts = tt
    go (Reserve plan) call cause acts = tt
    go (Store plan) call cause acts = tt
    go (Unlock how) call cause acts = tt
    go Hold call cause acts = tt
    go Release call cause acts = tt

-- the same of an opener that was seen to run the call
pub step_refused : (was o : OpenerState) (running : Running) (at : Stage) (result : Step) (new : OpenerState) (t : ShareState) → was ≡ o → was.work ≡ Runs running at →
    StopsWhereRefused at result new.work t → OnRunning o.work (λ stage. StopsWhereRefused stage result new.work t)
step_refused was o running at result new t seen runs stops =
    subst (λ (x : OpenerState). OnRunning x.work (λ stage. StopsWhereRefused stage result new.work t)) seen
    (subst (λ w. OnRunning w (λ stage. StopsWhereRefused stage result new.work t)) (sym runs) stops)
