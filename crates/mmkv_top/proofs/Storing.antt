-- What a call has stored, and that one that is stopped has stored nothing.
use Rattle.std.proofs.Common.{◌≡◌, ℕ, ◌≤◌, List, [], ◌∷◌, ◌++◌, length, refl, sym, ap, ◌∙◌, arith, subst, length-append}
use Rattle.std.specs.Prelude.{Option, Some, None, filter, option_and_then, option_map}
use Rattle.opener.specs.Adds.{AddsTo, AreStored, changes_region, stores_in}
use Rattle.opener.specs.State.{OpenerState}
use Rattle.opener.specs.declared.calls.Step.{Step}
use Rattle.opener.specs.declared.calls.Step.TheVariants as step
use Rattle.opener.specs.declared.calls.Stop.{Stop}
use Rattle.opener.specs.declared.calls.Stop.TheVariants as stop
use Rattle.opener.specs.declared.work.End.TheVariants as end
use Rattle.opener.specs.declared.work.Stage.TheVariants as stage
use Rattle.opener.specs.declared.work.Work.{Work}
use Rattle.opener.specs.declared.work.Work.TheVariants.{Ended, Idle, Runs}
use Rattle.region_words.specs.Answered.{is_store}
use Rattle.region_words.specs.Local.{Seated, seat_state}
use Rattle.region_words.specs.Share.{made_by}
use Rattle.region_words.specs.declared.event.Event.{Event}
use Rattle.region_words.specs.declared.event.What.{What}
use Rattle.region_words.specs.declared.event.What.TheVariants.{Died, Grow, Lock, Store, Unlock}
use Rattle.script_lang.specs.declared.outcome.Outcome.{Outcome}
use Rattle.script_lang.specs.declared.outcome.Reason.{Reason}
use Rattle.script_lang.specs.Parts.{Running, going_on, stepped, stores_among}
use Rattle.script_lang.specs.Played.{reason_said}
use Rattle.mmkv_top.specs.Progress.{CameTo, FollowsWork, HasStored, IsOutcomeAt}
use Rattle.script_lang.proofs.Counting.{filter_join}

-- stores are among the stores and growths
stores_within : (own : List What) → stores_in own ≤ length (filter changes_region own)
stores_within [] = omega arith
stores_within (Store side word value mark ∷ own) = omega (arith, stores_within own)
stores_within (Grow size ∷ own) = omega (arith, stores_within own)
stores_within (Lock kind ∷ own) = stores_within own
stores_within (Unlock ∷ own) = stores_within own
stores_within (Died torn ∷ own) = stores_within own

-- after a step of a call, whose events were these
pub step_stored : (who : ℕ) (s t : Seated) (work after : Work) (result : Step) (r : Option Running) (events : List Event) → FollowsWork work r → AddsTo who work result after (seat_state s) (seat_state t) →
    ((own : List What) → made_by s.who own ++ s.region.past ≡ t.region.past → stores_among events ≡ stores_in own) →
    HasStored step.Going work r → HasStored result after (option_map (going_on events) r)
step_stored who s t work after result None events follows adds same stored = tt
step_stored who s t Idle after result (Some r) events follows adds same stored = absurd follows
step_stored who s t Ended after result (Some r) events follows adds same stored = absurd follows
step_stored who s t (Runs c at) after result (Some r) events follows adds same stored =
    let made = same adds.own (sym (adds.grows.past ∙ ap (λ x. made_by s.who adds.own ++ (x ++ s.region.past)) (adds.grows.none refl))) in (
      stored.0 ++ filter changes_region adds.own,
      omega (arith, made, stored.1, stores_within adds.own, filter_join (λ e. is_store e.what) events r.since, length-append stored.0 (filter changes_region adds.own)),
      adds.stored stored.0 stored.2,
    )

-- nothing at its begin
nothing_stored : (work : Work) → AreStored work []
nothing_stored Idle = tt
nothing_stored Ended = tt
nothing_stored (Runs c stage.PeekChecksum) = refl
nothing_stored (Runs c (stage.PeekSequence peek)) = refl
nothing_stored (Runs c (stage.LockShared extent)) = refl
nothing_stored (Runs c stage.LockExclusive) = refl
nothing_stored (Runs c (stage.Continue loading)) = refl
nothing_stored (Runs c (stage.Load loading)) = refl
nothing_stored (Runs c stage.Size) = refl
nothing_stored (Runs c (stage.Reserve plan)) = refl
nothing_stored (Runs c (stage.Store plan)) = tt
nothing_stored (Runs c (stage.Unlock (end.Answer place reply))) = tt
nothing_stored (Runs c (stage.Unlock (end.Stop why))) = refl
nothing_stored (Runs c stage.Hold) = refl
nothing_stored (Runs c stage.Release) = refl

pub begun_stored : (work : Work) (r : Running) → r.since ≡ [] → HasStored step.Going work (Some r)
begun_stored work r none = ([], omega (arith, ap (λ since. stores_among since) none), nothing_stored work)

-- a call that is stopped for a reason that is printed has stored nothing
pub stops_stored : (why : Stop) (said : Reason) (work : Work) (r : Running) → reason_said why ≡ Some said → HasStored (step.Stopped why) work (Some r) → stores_among r.since ≡ 0
stops_stored (stop.Full need) said work r is stored = omega (arith, stored.1, ap length stored.2)
stops_stored stop.SequenceEnd said work r is stored = omega (arith, stored.1, ap length stored.2)
stops_stored stop.ExpiryOff said work r is stored = omega (arith, stored.1, ap length stored.2)
stops_stored stop.ExpiryRange said work r is stored = omega (arith, stored.1, ap length stored.2)
stops_stored stop.AlreadyOn said work r is stored = omega (arith, stored.1, ap length stored.2)
stops_stored stop.AlreadyOff said work r is stored = omega (arith, stored.1, ap length stored.2)
stops_stored stop.Fault said work r is stored = absurd cc
stops_stored stop.Memory said work r is stored = absurd cc
stops_stored stop.JournalFull said work r is stored = absurd cc
stops_stored (stop.NotWhole seen) said work r is stored = absurd cc
stops_stored (stop.Version n) said work r is stored = absurd cc
stops_stored (stop.Flags n) said work r is stored = absurd cc

-- after a line
pub line_stored : (who : ℕ) (past : List Event) (held : ℕ) (r : Option Running) (last : Step) (o : OpenerState) (outcome : Option Outcome) → CameTo who past held r last o → IsOutcomeAt who last outcome →
    HasStored last o.work r → HasStored step.Going o.work (option_and_then (stepped outcome) r)
line_stored who past held None step.Going o outcome came at stored = tt
line_stored who past held (Some r) step.Going o outcome came at stored = subst (λ x. HasStored step.Going o.work (option_and_then (stepped x) (Some r))) (sym at) stored
line_stored who past held None step.Idle o outcome came at stored = tt
line_stored who past held (Some r) (step.Blocked holder) o outcome came at stored = subst (λ x. HasStored step.Going o.work (option_and_then (stepped x) (Some r))) (sym at) stored
line_stored who past held (Some r) (step.Answered a) o outcome came at stored = subst (λ x. HasStored step.Going o.work (option_and_then (stepped x) (Some r))) (sym at) tt
line_stored who past held (Some r) (step.Stopped why) o outcome came at stored = subst (λ x. HasStored step.Going o.work (option_and_then (stepped x) (Some r))) (sym at.1) tt
line_stored who past held None step.Again o outcome came at stored = absurd came
line_stored who past held None (step.Blocked holder) o outcome came at stored = absurd came
line_stored who past held None (step.Answered a) o outcome came at stored = absurd came
line_stored who past held None (step.Stopped why) o outcome came at stored = absurd came
line_stored who past held (Some r) step.Idle o outcome came at stored = absurd came
line_stored who past held (Some r) step.Again o outcome came at stored = absurd came
