-- How a step ends: its call on the share was not answered, it waits, goes on, or leaves.
use Rattle.std.proofs.Common.{◌≡◌, ℕ, ◌+◌, List, [], refl, sym, ◌∙◌, subst, ap, inr, lit≤, true, false}
use Rattle.std.specs.Prelude.{◌≤◌, Option, Some, None, not}
use Rattle.change_log.specs.Settled.{AreOfCall}
use Rattle.change_log.specs.declared.call.Answer.{Answer}
use Rattle.change_log.specs.declared.call.Reply.TheVariants.{Done}
use Rattle.change_log.specs.declared.change.Change.{Change}
use Rattle.lock_rules.specs.declared.table.LockKind.{LockKind}
use Rattle.lock_rules.specs.declared.table.Tried.TheVariants.{Busy, Taken}
use Rattle.region_words.specs.Share.{ShareState, Fails, Goes, Stops, StopsTrying, Tries, loaded, refused}
use Rattle.region_words.specs.Told.{OnTold, changes_told}
use Rattle.region_words.specs.declared.stops.ShareStop.{ShareStop}
use Rattle.region_words.specs.declared.stops.ShareStop.TheVariants.{Failed}
use Rattle.loader.specs.declared.loaded.Image.{Image}
use Rattle.opener.specs.State.{OpenerState}
use Rattle.opener.specs.Adds.{AreMadeAt, IsRaised, locks_taken}
use Rattle.opener.specs.Bound.{Shortens}
use Rattle.opener.specs.Calls.{AfterStop, IsPlain, IsTried, holds_after, is_write}
use Rattle.opener.specs.Continues.{SameCall}
use Rattle.opener.specs.Counted.{counted}
use Rattle.opener.specs.Ends.{answer_of, GoesOn, IsDone, IsReady, Leaves, Replies, Waits, lock_by}
use Rattle.opener.specs.Opener.{Tied, HasCause, IsAnswer, LooksUnder, KeepsCall, MayEnd, OnAnswer, is_storing, running_as, stop_found}
use Rattle.opener.specs.Fresh.{CountedBy, CountsLooks, CountsNone, CountsSoFar, HasCounted, answers_by_look}
use Rattle.opener.specs.Steps.{ActsAt, IsKeptBy, IsPlaceOf, IsStillKept, KeepsImage, LeavesStores, Steps, peek_of}
use Rattle.opener.specs.declared.calls.Step.{Step}
use Rattle.opener.specs.declared.calls.Step.TheVariants as step
use Rattle.opener.specs.declared.work.Running.{Running}
use Rattle.opener.specs.declared.work.End.{End}
use Rattle.opener.specs.declared.work.Stage.{Stage}
use Rattle.opener.specs.declared.work.Stage.TheVariants.{Size, Unlock}
use Rattle.opener.specs.declared.work.Work.TheVariants.{Idle, Runs}
use Rattle.opener.proofs.Added.{Quietly, adds_quietly, load_quietly, lock_quietly, stopped_adds, tried_adds, waits_adds}
use Rattle.opener.proofs.Adding.{done_counts, done_made, going_counts, going_made, leaves_counts, leaves_made, load_more, lock_more, ready_counts, ready_made}
use Rattle.opener.proofs.Counting.{EndCounted, ReadCounted, few_counts, going_counted, leaves_counted, ready_counted, stopped_counted}
use Rattle.opener.proofs.EndClauses.{EndActs, EndHasReason, going_answer, going_call, going_acts, going_cause, going_image, leaves_call, leaves_acts, leaves_cause, loads_once}
use Rattle.opener.proofs.Falling.{always_told, blocked_falls, done_falls, going_falls, leaves_falls, ready_falls, stopped_falls}
use Rattle.opener.proofs.Leaves.{LeftWith, Leaving, leaves_answer, leaves_image, leaves_place, leaves_tied}
use Rattle.opener.proofs.Ready.{ReadyWith, ready_answer, ready_call, ready_acts, ready_cause, ready_image, ready_place, ready_tied}
use Rattle.opener.proofs.Same.{loaded_same, locked_same}
use Rattle.opener.proofs.Stages.{busy_tied}
use Rattle.opener.proofs.StopClauses.{failed_stops, same_call, stopped_answer, stopped_call, stopped_acts, stopped_cause, stopped_image, stopped_makes, stopped_takes, takes_same, tried_cause, tried_makes, tried_takes}
use Rattle.opener.proofs.Stopped.{stopped_tied, tried_tied}
use Rattle.opener.proofs.Storing.{StoresNothing, calm_stored}
use Rattle.opener.proofs.StoresNext.{done_stores, going_stores, leaves_stores, ready_stores, stopped_stores, waits_stores}

-- a stage at which nothing is stored or made yet, and no stop was found
pub record IsEarly (who : ℕ) (running : Running) (stage : Stage) : Type 0 where
  pub calm : is_storing (Runs running stage) ≡ false
  pub stores : StoresNothing stage
  pub makes : (so_far : List Change) → AreMadeAt who running stage so_far → so_far ≡ []
  pub seeks : stop_found (Runs running stage) ≡ None

-- so is each stage at which this holds by its definition
pub early : {who : ℕ} {running : Running} {stage : Stage} → is_storing (Runs running stage) ≡ false → StoresNothing stage → ((so_far : List Change) → AreMadeAt who running stage so_far → so_far ≡ []) →
    stop_found (Runs running stage) ≡ None → IsEarly who running stage
early calm stores makes seeks = record { calm = calm; stores = stores; makes = makes; seeks = seeks }

-- no lock is of no kind
no_kind : {kind : LockKind} → None ≡ Some kind → ⊥
no_kind e = cc

module _ {o : OpenerState} {running : Running} {stage : Stage} {result : Step} {new : OpenerState} {s t : ShareState} (tied : Tied (running_as o running stage) s) where
  -- the call on the share was not answered
  pub stops : (stop : ShareStop) → AfterStop stop o running stage result new → Stops stop s t → Steps o running stage result new s t
  stops stop after why =
      record {
        tied = stopped_tied o running stage stop result new s t tied after why;
        makes = stopped_makes stop s t why;
        adds = stopped_adds o.who o running stage result new s t stop after why;
        call = stopped_call stop o running stage result new after;
        cause = stopped_cause stop o running stage result new s t after why;
        takes = stopped_takes (Runs running stage) stop s t why;
        acts = stopped_acts stop o running stage result new s t after;
        stores = stopped_stores stop o running stage result new after;
        answer = stopped_answer stop o running stage result new _ after;
        place = stopped_answer stop o running stage result new _ after;
        image = stopped_image stop o running stage result new t after;
        counts = λ has. stopped_counted stop o running stage result new has after;
        falls = stopped_falls stop o running stage result new t after;
      }

  -- a peek failed
  pub fails : (stop : ShareStop) → AfterStop stop o running stage result new → stop ≡ Failed → Fails s t → Steps o running stage result new s t
  fails stop after is failed = stops stop after (failed_stops stop s t is failed)

  -- a lock was not taken, for no lock
  pub stops_trying : IsEarly o.who running stage → (kind : LockKind) → IsTried (Runs running stage) kind → (stop : ShareStop) → running.taken ≡ None → AfterStop stop o running stage result new → StopsTrying kind stop s t →
      Steps o running stage result new s t
  stops_trying early kind tried stop free after why =
      record {
        tied = tried_tied o running stage kind stop result new s t tied early.calm free after why;
        makes = tried_makes kind stop s t why;
        adds = tried_adds o.who o running stage result new s t early.stores kind stop early.makes after why;
        call = stopped_call stop o running stage result new after;
        cause = tried_cause kind stop o running stage result new s t early.seeks tried after why;
        takes = tried_takes (Runs running stage) kind stop s t why;
        acts = stopped_acts stop o running stage result new s t after;
        stores = stopped_stores stop o running stage result new after;
        answer = stopped_answer stop o running stage result new _ after;
        place = stopped_answer stop o running stage result new _ after;
        image = stopped_image stop o running stage result new t after;
        counts = λ has. stopped_counted stop o running stage result new has after;
        falls = stopped_falls stop o running stage result new t after;
      }

  -- another lock stood against it
  pub waits : IsEarly o.who running stage → (kind : LockKind) → IsTried (Runs running stage) kind → (holder : ℕ) → Waits running stage holder o result new → Tries kind (Busy holder) s t → Steps o running stage result new s t
  waits early kind tried holder on tries =
      record {
        tied = subst (λ (n : OpenerState). Tied n t) (sym on.1) (busy_tied o running stage kind holder s t tied early.calm tries);
        makes = inr (refused s, tries.0.after, lit≤ tt);
        adds = waits_adds o.who o running stage result new s t holder on tries.0;
        call = subst (λ r. KeepsCall o.who o.holds running r new) (sym on.0)
            (subst (λ (n : OpenerState). KeepsCall o.who o.holds running (step.Blocked holder) n) (sym on.1) (same_call running, refl));
        cause = subst (λ r. HasCause (Runs running stage) r new.work s t) (sym on.0) (kind, tried, tries);
        takes = takes_same (Runs running stage) s t tries.0.after.holds;
        acts = subst (λ r. ActsAt r stage o.image new.work s t) (sym on.0) tt;
        stores = waits_stores stage running holder o result new early.calm on;
        answer = subst (λ r. OnAnswer r (λ a. OnTold t.told (λ h. IsAnswer a h.start h.past))) (sym on.0) tt;
        place = subst (λ r. OnAnswer r (λ a. OnTold t.told (λ h. IsPlaceOf (peek_of stage) a))) (sym on.0) tt;
        image = subst (λ r. KeepsImage r stage o.image new t) (sym on.0) (ap (λ (n : OpenerState). n.image) on.1);
        counts = λ has. subst (λ r. CountedBy r stage new.work) (sym on.0) (subst (λ (n : OpenerState). CountsSoFar n.work) (sym on.1) has);
        falls = blocked_falls running stage holder o result new t on;
      }

  -- a hold or a release is answered
  pub answers_done : StoresNothing stage → (next : Running) (loads : ℕ) (lock : Option LockKind) → Quietly loads lock s t → ((kind : LockKind) → lock ≡ Some kind → IsTried (Runs running stage) kind) → (holds place : ℕ) → IsDone next holds place o result new → SameCall running next →
      IsRaised running loads 0 (locks_taken None lock) next.loads next.stores next.locks → holds ≡ holds_after running.call o.holds →
      ((so_far : List Change) → AreMadeAt o.who running stage so_far → AreOfCall o.who running.call running.now so_far) → ((a : Answer) → ActsAt (step.Answered a) stage o.image new.work s t) → answers_by_look stage ≡ true → ((a : Answer) → CountsLooks stage a) → IsPlaceOf (peek_of stage) (answer_of o.who next place place Done) →
      (HasCounted stage running → CountsNone next) → Tied (record o { holds = holds; work = Idle }) t → OnTold t.told (λ h. IsAnswer (answer_of o.who next place place Done) h.start h.past) → Steps o running stage result new s t
  answers_done calm next loads lock did tried holds place done same more left made carried looks unlooked at none then answer =
      record {
        tied = subst (λ (n : OpenerState). Tied n t) (sym done.1) then;
        makes = did.makes;
        adds = adds_quietly o.who running stage result new.work s t loads lock did (calm_stored stage result new.work calm)
            (λ so_far are. done_made o.who running next o result new holds place so_far done (made so_far are)) (done_counts o.who running next o result new holds place loads 0 (locks_taken None lock) done more);
        call = subst (λ r. KeepsCall o.who o.holds running r new) (sym done.0) (
          record { by = refl; call_is = same.call; moment = same.now; begun = same.begun },
          ap (λ (n : OpenerState). n.work) done.1,
          ap (λ (n : OpenerState). n.holds) done.1 ∙ left,
        );
        cause = subst (λ r. HasCause (Runs running stage) r new.work s t) (sym done.0) tt;
        takes = λ kind none some. tried kind (did.takes kind none some);
        acts = subst (λ r. ActsAt r stage o.image new.work s t) (sym done.0) (carried (answer_of o.who next place place Done));
        stores = done_stores stage next holds place o result new done;
        answer = subst (λ r. OnAnswer r (λ a. OnTold t.told (λ h. IsAnswer a h.start h.past))) (sym done.0) answer;
        place = subst (λ r. OnAnswer r (λ a. OnTold t.told (λ h. IsPlaceOf (peek_of stage) a))) (sym done.0) (always_told t.told (λ h. IsPlaceOf (peek_of stage) (answer_of o.who next place place Done)) (λ h. at));
        image = subst (λ r. KeepsImage r stage o.image new t) (sym done.0)
            (subst (λ (n : OpenerState). KeepsImage (step.Answered (answer_of o.who next place place Done)) stage o.image n t) (sym done.1)
            (subst (λ b. IsKeptBy b (is_write next.call) o.image o.image t) (sym looks) refl));
        counts = λ has.
            let few = none has in
            subst (λ r. CountedBy r stage new.work) (sym done.0) (few_counts next.loads next.stores 0 refl few.0 few.1 ∙ sym (ap not looks), unlooked (answer_of o.who next place place Done));
        falls = done_falls running next stage holds place o result new t done;
      }

  module _ (calm : StoresNothing stage) (mid : OpenerState) (next : Running) where
    -- the call goes on
    pub goes_on : (loads : ℕ) (lock : Option LockKind) → Quietly loads lock s t → ((kind : LockKind) → lock ≡ Some kind → IsTried (Runs running stage) kind) → (to : Stage) → mid.holds ≡ o.holds → SameCall running next →
        IsRaised running loads 0 (locks_taken None lock) next.loads next.stores next.locks → ActsAt step.Going stage o.image (Runs next to) s t → IsStillKept (Runs next to) mid.image stage o.image → (HasCounted stage running → HasCounted to next) → GoesOn next to mid result new → stop_found (Runs next to) ≡ None →
        ((so_far : List Change) → AreMadeAt o.who running stage so_far → AreMadeAt o.who next to so_far) → Tied (running_as mid next to) t → Shortens (Runs running stage) (Runs next to) t → LeavesStores step.Going stage (Runs next to) → Steps o running stage result new s t
    goes_on loads lock did tried to holds same more carried keeps counted on none made then short storing =
        record {
          tied = subst (λ (n : OpenerState). Tied n t) (sym on.1) then;
          makes = did.makes;
          adds = adds_quietly o.who running stage result new.work s t loads lock did (calm_stored stage result new.work calm)
              (λ so_far are. going_made o.who running next mid result new to so_far on (made so_far are)) (going_counts o.who running next mid result new to loads 0 (locks_taken None lock) on more);
          call = going_call o.who o.holds running next to mid result new same holds on;
          cause = going_cause (Runs running stage) next to mid result new s t none on;
          takes = λ kind none some. tried kind (did.takes kind none some);
          acts = going_acts stage o.image next to mid result new s t carried on;
          stores = going_stores stage next to mid result new storing on;
          answer = going_answer next to mid result new _ on;
          place = going_answer next to mid result new _ on;
          image = going_image stage next to mid o.image result new t keeps on;
          counts = λ has. going_counted stage next to mid result new (counted has) on;
          falls = going_falls (Runs running stage) next to mid result new t short on;
        }

    -- the call leaves
    pub leaves : (loads : ℕ) → Quietly loads None s t → (how : End) (ended : ℕ) → Leaving o mid running next s t → SameCall running next → IsPlain running.call →
        IsRaised running loads 0 0 next.loads next.stores next.locks → ActsAt step.Going stage o.image (Runs next (Unlock how)) s t → EndActs how stage o.image new.work s t → Leaves next how ended mid result new → ended ≡ changes_told t.told → stop_found (Runs running stage) ≡ None → MayEnd how →
        EndHasReason (Runs running stage) how s t → ((so_far : List Change) → AreMadeAt o.who running stage so_far → AreMadeAt o.who running (Unlock how) so_far) →
        (answers_by_look stage ≡ true → mid.image ≡ o.image) → (HasCounted stage running → EndCounted how stage next) → OnTold t.told (λ k. LeftWith (peek_of stage) mid next how k.start k.past) → Shortens (Runs running stage) (Runs next (Unlock how)) t → Steps o running stage result new s t
    leaves loads did how ended is same plain more goes answers left count none may reason made keeps counted told short =
        record {
          tied = leaves_tied o mid running next stage s t tied is how ended result new may told left;
          makes = did.makes;
          adds = adds_quietly o.who running stage result new.work s t loads None did (calm_stored stage result new.work calm)
              (λ so_far are. leaves_made o.who running next mid result new how ended so_far same left (made so_far are)) (leaves_counts o.who running next mid result new how ended loads 0 0 left more);
          call = leaves_call o.who o.holds running next how ended mid result new same plain may is.who is.holds left;
          cause = leaves_cause (Runs running stage) next how ended mid result new s t none reason left;
          takes = λ kind none some. absurd (no_kind (did.takes kind none some));
          acts = leaves_acts stage o.image next how ended mid result new s t goes answers left;
          stores = leaves_stores stage next how ended mid result new left;
          answer = leaves_answer (peek_of stage) mid next t how ended result new count told left;
          place = leaves_place (peek_of stage) mid next t how ended result new count told left;
          image = leaves_image stage mid next o.image t how ended result new keeps told left;
          counts = λ has. leaves_counted stage next how ended mid result new (counted has) left;
          falls = leaves_falls running next stage how ended mid result new t short left;
        }

    -- a load was made, and the call goes on
    pub loads_on : (to : Stage) → mid.holds ≡ o.holds → Goes (loaded s) s t → next ≡ record running { loads = counted (running.loads + 1) } →
        ActsAt step.Going stage o.image (Runs next to) s t → IsStillKept (Runs next to) mid.image stage o.image → (HasCounted stage running → HasCounted to next) → GoesOn next to mid result new → stop_found (Runs next to) ≡ None → ((so_far : List Change) → AreMadeAt o.who running stage so_far → AreMadeAt o.who next to so_far) →
        Tied (running_as mid next to) t → Shortens (Runs running stage) (Runs next to) t → LeavesStores step.Going stage (Runs next to) → Steps o running stage result new s t
    loads_on to holds goes more carried keeps counted on none made then short storing =
        goes_on 1 None (load_quietly goes) (λ kind some. absurd (no_kind some)) to holds (loaded_same running next more).same (load_more running next more) carried keeps counted on none made then short storing

    -- a lock was taken, and the call goes on
    pub locks_on : (kind : LockKind) → IsTried (Runs running stage) kind → (to : Stage) → mid.holds ≡ o.holds → s.holds ≡ None → Tries kind Taken s t → next ≡ record running { taken = Some kind; locks = counted (running.locks + 1) } →
        ActsAt step.Going stage o.image (Runs next to) s t → IsStillKept (Runs next to) mid.image stage o.image → (HasCounted stage running → HasCounted to next) → GoesOn next to mid result new → stop_found (Runs next to) ≡ None → ((so_far : List Change) → AreMadeAt o.who running stage so_far → AreMadeAt o.who next to so_far) →
        Tied (running_as mid next to) t → Shortens (Runs running stage) (Runs next to) t → LeavesStores step.Going stage (Runs next to) → Steps o running stage result new s t
    locks_on kind tried to holds free tries more carried keeps counted on none made then short storing =
        goes_on 0 (Some kind) (lock_quietly kind tries.0 free) (λ k is. tried ∙ is) to holds (locked_same running next kind more).0 (lock_more kind running next more) carried keeps counted on none made then short storing

    -- a load was made, and the call leaves
    pub loads_leave : (how : End) (ended : ℕ) → Leaving o mid running next s t → Goes (loaded s) s t → next ≡ record running { loads = counted (running.loads + 1) } → IsPlain running.call →
        ActsAt step.Going stage o.image (Runs next (Unlock how)) s t → EndActs how stage o.image new.work s t → Leaves next how ended mid result new → ended ≡ changes_told t.told → stop_found (Runs running stage) ≡ None → MayEnd how → EndHasReason (Runs running stage) how s t →
        ((so_far : List Change) → AreMadeAt o.who running stage so_far → AreMadeAt o.who running (Unlock how) so_far) →
        (answers_by_look stage ≡ true → mid.image ≡ o.image) → (HasCounted stage running → EndCounted how stage next) → OnTold t.told (λ k. LeftWith (peek_of stage) mid next how k.start k.past) → Shortens (Runs running stage) (Runs next (Unlock how)) t → Steps o running stage result new s t
    loads_leave how ended is goes more plain going answers left count none may reason made keeps counted told short =
        leaves 1 (load_quietly goes) how ended is (loaded_same running next more).same plain (load_more running next more) going answers left count none may reason made keeps counted told short

    -- the last load of an image that is kept from now on
    pub loads_ready : (place ended : ℕ) (i : Image) → Leaving o mid running next s t → Goes (loaded s) s t → next ≡ record running { loads = counted (running.loads + 1) } → IsPlain running.call →
        ActsAt step.Going stage o.image (Runs next Size) s t → ((how : End) → Replies next i place how → ActsAt step.Going stage o.image (Runs next (Unlock how)) s t) → ((a : Answer) → ActsAt (step.Answered a) stage o.image new.work s t) →
        IsReady next place ended mid result new → ended ≡ changes_told t.told → stop_found (Runs running stage) ≡ None → mid.image ≡ Some i →
        LooksUnder next (lock_by mid.holds next.taken) → ((so_far : List Change) → AreMadeAt o.who running stage so_far → so_far ≡ []) →
        (answers_by_look stage ≡ true → mid.image ≡ o.image) → (HasCounted stage running → 2 ≤ next.loads) → (HasCounted stage running → is_write next.call ≡ false → ReadCounted (answers_by_look stage) next) →
        OnTold t.told (λ k. ReadyWith (peek_of stage) mid i next place k.start k.past) →
        Shortens (Runs running stage) (Runs next Size) t → ((how : End) → Shortens (Runs running stage) (Runs next (Unlock how)) t) → Steps o running stage result new s t
    loads_ready place ended i is goes more plain sizes unlocks answers ready count none kept looks made keeps two many told size unlock =
        let same = (loaded_same running next more).same in
        record {
          tied = ready_tied o mid i running next stage place ended result new s t tied is kept same looks told ready;
          makes = loads_once s t goes;
          adds = adds_quietly o.who running stage result new.work s t 1 None (load_quietly goes) (calm_stored stage result new.work calm)
              (λ so_far are. ready_made o.who running next mid result new place ended i so_far same plain kept ready (made so_far are))
              (ready_counts o.who running next mid result new place ended 1 0 0 ready (load_more running next more));
          call = ready_call o mid i running next stage place ended result new s t tied is kept same looks told plain ready;
          cause = ready_cause o mid i running next stage place ended result new s t tied is kept same looks told none ready;
          takes = takes_same (Runs running stage) s t goes.after.holds;
          acts = ready_acts o mid i running next stage place ended result new s t tied is kept same looks told sizes unlocks answers ready;
          stores = ready_stores stage next place ended mid result new ready;
          answer = ready_answer o mid i running next stage place ended result new s t tied is kept same looks told count ready;
          place = ready_place o mid i running next stage place ended result new s t tied is kept same looks told count ready;
          image = ready_image o mid i running next stage place ended result new s t tied is kept same looks told keeps ready;
          counts = λ has. ready_counted stage next place ended mid result new (two has) (many has) ready;
          falls = ready_falls running next stage place ended mid result new t size unlock ready;
        }
