-- A call of an opener goes on, and ends.
use Rattle.std.proofs.Common.{◌≡◌, ℕ, ◌⊎◌, true, List, ◌++◌, refl, sym, ap, ◌∙◌, inl, inr, subst, append-nil}
use Rattle.std.specs.Prelude.{Option, Some, None, Result, Ok, Err, IfOk, OnOk, IfSome}
use Rattle.change_log.specs.declared.call.Answer.{Answer}
use Rattle.change_log.specs.declared.call.Call.{Call}
use Rattle.change_log.specs.declared.call.Call.TheVariants as call
use Rattle.opener.specs.Calls.{holds_after, is_write}
use Rattle.opener.specs.Opener.{HasCause, HasReason, HasStopped, IsAt, IsFoundAt, KeepsCall, KeepsWork, MakesOne, RunsOn, Suits, stop_found}
use Rattle.opener.specs.Bound.{Falls}
use Rattle.opener.specs.Plans.{CanWrite}
use Rattle.opener.specs.Settles.{answers_by}
use Rattle.opener.specs.State.{OpenerState}
use Rattle.opener.specs.declared.calls.Step.{Step}
use Rattle.opener.specs.declared.calls.Step.TheVariants as step
use Rattle.opener.specs.declared.calls.Stop.{Stop}
use Rattle.opener.specs.declared.calls.Stop.TheVariants as stop
use Rattle.opener.specs.declared.work.Running.{Running}
use Rattle.opener.specs.declared.work.Stage.{Stage}
use Rattle.opener.specs.declared.work.Stage.TheVariants as stage
use Rattle.opener.specs.declared.work.Work.{Work}
use Rattle.opener.specs.declared.work.Work.TheVariants.{Idle, Ended, Runs}
use Rattle.region_words.specs.Share.{After, Grows, IsSameShare, Left, ShareState}
use Rattle.region_words.specs.Told.{History, OnBoth}
use Rattle.script_lang.specs.declared.outcome.Reason.{Reason}
use Rattle.script_lang.specs.declared.outcome.Outcome.{Outcome}
use Rattle.script_lang.specs.declared.outcome.Outcome.TheVariants.{Stopped}
use Rattle.script_lang.specs.Played.{IsPrinted, reason_said}
use Rattle.race_core.specs.Calls.{IsForWrites, IsMaking, IsOutcomeOf, RunsAs, StartsAs}
use Rattle.race_core.specs.declared.calls.Trouble.{Trouble}
use Rattle.race_core.specs.declared.entrant.TimedCall.{TimedCall}

-- what a step of a running call came to
abbrev pub Came : TimedCall → ℕ → ℕ → Step → OpenerState → Type 0
Came c who held step.Idle o = ⊥
Came c who held (step.Answered a) o = (a.who ≡ who) × (a.call ≡ c.call) × (a.now ≡ c.now) × (o.work ≡ Idle) × (o.holds ≡ holds_after c.call held)
Came c who held (step.Stopped why) o = (r : Reason) → reason_said why ≡ Some r → (is_write c.call ≡ true) × (o.work ≡ Idle) × (o.holds ≡ held)
Came c who held _ o = IsMaking c held o

writes : (asked : Call) → CanWrite asked → is_write asked ≡ true
writes (call.Put key value seconds) can = refl
writes (call.Remove key) can = refl
writes call.Clear can = refl
writes (call.Enable seconds) can = refl
writes call.Disable can = refl
writes (call.Get key) can = absurd can
writes call.Keys can = absurd can
writes call.Count can = absurd can
writes call.Hold can = absurd can
writes call.Release can = absurd can
writes call.Sync can = absurd can

-- a write changes no hold
pub held_still : (asked : Call) (held : ℕ) → is_write asked ≡ true → holds_after asked held ≡ held
held_still (call.Put key value seconds) held is = refl
held_still (call.Remove key) held is = refl
held_still call.Clear held is = refl
held_still (call.Enable seconds) held is = refl
held_still call.Disable held is = refl
held_still (call.Get key) held is = absurd cc
held_still call.Keys held is = absurd cc
held_still call.Count held is = absurd cc
held_still call.Hold held is = absurd cc
held_still call.Release held is = absurd cc
held_still call.Sync held is = absurd cc

-- a reason that is found once the size is known is a write's
at_size : (asked : Call) (why : Stop) (at : Stage) → ((loading : _) → IsFoundAt (stage.Load loading) why → ⊥) → IsFoundAt at why → Suits asked at → is_write asked ≡ true
at_size asked why stage.Size never found suits = writes asked suits
at_size asked why (stage.Load loading) never found suits = absurd (never loading found)
at_size asked why stage.PeekChecksum never found suits = absurd found
at_size asked why (stage.PeekSequence peek) never found suits = absurd found
at_size asked why (stage.LockShared extent) never found suits = absurd found
at_size asked why stage.LockExclusive never found suits = absurd found
at_size asked why (stage.Continue loading) never found suits = absurd found
at_size asked why (stage.Reserve plan) never found suits = absurd found
at_size asked why (stage.Store plan) never found suits = absurd found
at_size asked why (stage.Unlock how) never found suits = absurd found
at_size asked why stage.Hold never found suits = absurd found
at_size asked why stage.Release never found suits = absurd found

module _ (c : TimedCall) (running : Running) (at : Stage) (s t : ShareState) (same : running.call ≡ c.call) (suits : Suits running.call at) where
  for_write : (why : Stop) → HasReason (Runs running at) why s t → IsForWrites c.call why
  for_write (stop.Full need) reason r said = ap is_write (sym same) ∙ at_size running.call (stop.Full need) at (λ loading found. found) reason.0 suits
  for_write stop.SequenceEnd reason r said = ap is_write (sym same) ∙ at_size running.call stop.SequenceEnd at (λ loading found. found) reason.0 suits
  for_write stop.ExpiryOff reason r said = ap is_write (sym same) ∙ at_size running.call stop.ExpiryOff at (λ loading found. found) reason.0 suits
  for_write stop.ExpiryRange reason r said = ap is_write (sym same) ∙ at_size running.call stop.ExpiryRange at (λ loading found. found) reason.0 suits
  for_write stop.AlreadyOn reason r said = ap is_write (sym same) ∙ at_size running.call stop.AlreadyOn at (λ loading found. found) reason.0 suits
  for_write stop.AlreadyOff reason r said = ap is_write (sym same) ∙ at_size running.call stop.AlreadyOff at (λ loading found. found) reason.0 suits
  for_write stop.Fault reason r said = absurd cc
  for_write stop.Memory reason r said = absurd cc
  for_write stop.JournalFull reason r said = absurd cc
  for_write (stop.NotWhole seen) reason r said = absurd cc
  for_write (stop.Version n) reason r said = absurd cc
  for_write (stop.Flags n) reason r said = absurd cc

  found_now : (found : Option Stop) → IfSome found (λ why. HasReason (Runs running at) why s t) → IfSome found (IsForWrites c.call)
  found_now None is = tt
  found_now (Some why) is = for_write why is

  stopped_now : (found : Option Stop) (why : Stop) → IfSome found (IsForWrites c.call) → HasStopped found (Runs running at) why s t → IsForWrites c.call why
  stopped_now None why before stopped = for_write why stopped
  stopped_now (Some first) why before (inl is) = subst (IsForWrites c.call) (sym is) before
  stopped_now (Some first) why before (inr (is, fails)) = λ r said. let never : reason_said stop.Fault ≡ Some r = ap reason_said (sym is) ∙ said in absurd cc

same_call : (c : TimedCall) (running : Running) (work : Work) → (running.call ≡ c.call) × (running.now ≡ c.now) → RunsOn running work → RunsAs c work
same_call c running Idle is on = absurd on
same_call c running Ended is on = absurd on
same_call c running (Runs next at) is on = (on.call ∙ is.0, on.now ∙ is.1)

module _ (c : TimedCall) (held : ℕ) (o o' : OpenerState) (s t : ShareState) (holds : o.holds ≡ held) where
  module _ (running : Running) (now : Stage) (runs : (running.call ≡ c.call) × (running.now ≡ c.now)) (found : IfSome (stop_found (Runs running now)) (IsForWrites c.call))
      (is : IsAt o (Runs running now)) where
    idle : (why : Stop) → HasStopped (stop_found (Runs running now)) (Runs running now) why s t → (o'.work ≡ Idle) × (o'.holds ≡ o.holds) →
        (r : Reason) → reason_said why ≡ Some r → (is_write c.call ≡ true) × (o'.work ≡ Idle) × (o'.holds ≡ held)
    idle why stopped left r said = (stopped_now c running now s t runs.0 is.1 (stop_found (Runs running now)) why found stopped r said, left.0, left.1 ∙ holds)

    again : o'.work ≡ Runs running now → o'.holds ≡ o.holds → IsMaking c held o'
    again same still =
        record { runs = subst (RunsAs c) (sym same) runs; holds = still ∙ holds; found = subst (λ w. IfSome (stop_found w) (IsForWrites c.call)) (sym same) found }

    goes : (result : Step) → KeepsCall o.who o.holds running result o' → HasCause (Runs running now) result o'.work s t → Falls (Runs running now) result o'.work t → Came c o.who held result o'
    goes step.Idle keeps cause falls = keeps
    goes step.Going keeps cause falls =
        record { runs = same_call c running o'.work runs keeps.0; holds = keeps.1 ∙ holds; found = found_now c running now s t runs.0 is.1 (stop_found o'.work) cause }
    goes step.Again keeps cause falls = again falls keeps.1
    goes (step.Blocked holder) keeps cause falls = again falls keeps.1
    goes (step.Answered a) keeps cause falls =
        (keeps.0.by, keeps.0.call_is ∙ runs.0, keeps.0.moment ∙ runs.1, keeps.1, keeps.2 ∙ ap (holds_after running.call) holds ∙ ap (λ x. holds_after x held) runs.0)
    goes (step.Stopped stop.Fault) keeps cause falls = λ r said. absurd cc
    goes (step.Stopped stop.Memory) keeps cause falls = λ r said. absurd cc
    goes (step.Stopped stop.JournalFull) keeps cause falls = λ r said. absurd cc
    goes (step.Stopped (stop.NotWhole seen)) keeps cause falls = λ r said. absurd cc
    goes (step.Stopped (stop.Version n)) keeps cause falls = λ r said. absurd cc
    goes (step.Stopped (stop.Flags n)) keeps cause falls = λ r said. absurd cc
    goes (step.Stopped (stop.Full need)) keeps cause falls = idle (stop.Full need) cause keeps
    goes (step.Stopped stop.SequenceEnd) keeps cause falls = idle stop.SequenceEnd cause keeps
    goes (step.Stopped stop.ExpiryOff) keeps cause falls = idle stop.ExpiryOff cause keeps
    goes (step.Stopped stop.ExpiryRange) keeps cause falls = idle stop.ExpiryRange cause keeps
    goes (step.Stopped stop.AlreadyOn) keeps cause falls = idle stop.AlreadyOn cause keeps
    goes (step.Stopped stop.AlreadyOff) keeps cause falls = idle stop.AlreadyOff cause keeps

  over : (work : Work) (result : Step) → RunsAs c work → IfSome (stop_found work) (IsForWrites c.call) → IsAt o work → KeepsWork (record o { work = work }) result o' →
      HasCause work result o'.work s t → Falls work result o'.work t → Came c o.who held result o'
  over Idle result runs found is keeps cause falls = absurd runs
  over Ended result runs found is keeps cause falls = absurd runs
  over (Runs running now) result runs found is keeps cause falls = goes running now runs found is result keeps cause falls

-- a step goes on with the call, or ends it
pub came : (c : TimedCall) (held : ℕ) (o o' : OpenerState) (result : Step) (s t : ShareState) → IsMaking c held o → IsAt o o.work → KeepsWork o result o' →
    HasCause o.work result o'.work s t → Falls o.work result o'.work t → Came c o.who held result o'
came c held o o' result s t making at keeps cause falls = over c held o o' s t making.holds o.work result making.runs making.found at keeps cause falls

-- starts stay
pub start_stays : (a : Option History) → OnBoth a a StartsAs
start_stays None = tt
start_stays (Some h) = refl

pub start_join : (a b d : Option History) → OnBoth a b StartsAs → OnBoth b d StartsAs → OnBoth a d StartsAs
start_join None None None p q = tt
start_join None None (Some z) p q = q
start_join None (Some y) d p q = absurd p
start_join (Some x) None d p q = absurd p
start_join (Some x) (Some y) None p q = q
start_join (Some x) (Some y) (Some z) p q = q ∙ p

pub start_after : (left : Left) (s t : ShareState) → After left s t → OnBoth s.told t.told StartsAs
start_after left s t after = go s.told t.told after.told
  where
    go : (a b : Option History) → OnBoth a b (Grows s.who s.alone left.own) → OnBoth a b StartsAs
    go None None is = tt
    go None (Some y) is = is
    go (Some x) None is = is
    go (Some x) (Some y) is = is.start

pub start_made : (s t : ShareState) → MakesOne s t → OnBoth s.told t.told StartsAs
start_made s t (inl same) = subst (λ (x : ShareState). OnBoth s.told x.told StartsAs) (sym same) (start_stays s.told)
start_made s t (inr (left, after, one)) = start_after left s t after

-- and so does what no call changes
pub same_join : (a b d : ShareState) → IsSameShare a b → IsSameShare b d → IsSameShare a d
same_join a b d p q =
    record {
      who = q.who ∙ p.who;
      alone = q.alone ∙ p.alone;
      turnless = q.turnless ∙ p.turnless;
      fails = q.fails ∙ p.fails;
      tag = q.tag ∙ p.tag;
      admitted = λ w. q.admitted w ∙ p.admitted w;
      reserved = λ w n. q.reserved w (λ e. n (e ∙ p.who)) ∙ p.reserved w n;
      room = λ w n. q.room w (λ e. n (e ∙ p.who)) ∙ p.room w n;
    }

pub same_still : (s : ShareState) → IsSameShare s s
same_still s = record { who = refl; alone = refl; turnless = refl; fails = refl; tag = refl; admitted = λ w. refl; reserved = λ w n. refl; room = λ w n. refl }

pub same_made : (s t : ShareState) → MakesOne s t → IsSameShare s t
same_made s t (inl same) = subst (IsSameShare s) (sym same) (same_still s)
same_made s t (inr (left, after, one)) = after.same

-- a reason that is said is one that is printed
said_printed : (why : Stop) (r : Reason) → reason_said why ≡ Some r → IsPrinted r
said_printed (stop.Full need) r e = subst (λ o. IfSome o IsPrinted) e tt
said_printed stop.SequenceEnd r e = subst (λ o. IfSome o IsPrinted) e tt
said_printed stop.ExpiryOff r e = subst (λ o. IfSome o IsPrinted) e tt
said_printed stop.ExpiryRange r e = subst (λ o. IfSome o IsPrinted) e tt
said_printed stop.AlreadyOn r e = subst (λ o. IfSome o IsPrinted) e tt
said_printed stop.AlreadyOff r e = subst (λ o. IfSome o IsPrinted) e tt
said_printed stop.Fault r e = absurd cc
said_printed stop.Memory r e = absurd cc
said_printed stop.JournalFull r e = absurd cc
said_printed (stop.NotWhole seen) r e = absurd cc
said_printed (stop.Version n) r e = absurd cc
said_printed (stop.Flags n) r e = absurd cc

-- what is left of a call that was stopped
module _ (c : TimedCall) (held who : ℕ) (why : Stop) (o : OpenerState) (result : Result Outcome Trouble) (number : ℕ) (named : number ≡ who)
    (said : IfOk result (λ x. (r : Reason) × (x ≡ Stopped number r) × (reason_said why ≡ Some r))) (came_to : Came c who held (step.Stopped why) o) where
  pub stopped_outcome : IfOk result (IsOutcomeOf who c)
  stopped_outcome = go result said
    where
      go : (result : Result Outcome Trouble) → IfOk result (λ x. (r : Reason) × (x ≡ Stopped number r) × (reason_said why ≡ Some r)) → IfOk result (IsOutcomeOf who c)
      go (Ok x) (r, is, says) = subst (IsOutcomeOf who c) (sym is) (named, said_printed why r says, (came_to r says).0)
      go (Err t) is = tt

  pub stopped_idle : OnOk result (o.work ≡ Idle)
  stopped_idle = go result said
    where
      go : (result : Result Outcome Trouble) → IfOk result (λ x. (r : Reason) × (x ≡ Stopped number r) × (reason_said why ≡ Some r)) → OnOk result (o.work ≡ Idle)
      go (Ok x) (r, is, says) = (came_to r says).1
      go (Err t) is = tt

  pub stopped_holds : OnOk result (o.holds ≡ holds_after c.call held)
  stopped_holds = go result said
    where
      go : (result : Result Outcome Trouble) → IfOk result (λ x. (r : Reason) × (x ≡ Stopped number r) × (reason_said why ≡ Some r)) → OnOk result (o.holds ≡ holds_after c.call held)
      go (Ok x) (r, is, says) = let left = came_to r says in left.2 ∙ sym (held_still c.call held left.0)
      go (Err t) is = tt

-- a step that waits for another
abbrev pub Waits : Step → Type 0
Waits result = (result ≡ step.Again) ⊎ ((holder : ℕ) × (result ≡ step.Blocked holder))

pub waits_on : (c : TimedCall) (held who : ℕ) (o : OpenerState) (result : Step) → Waits result → Came c who held result o → IsMaking c held o
waits_on c held who o result (inl is) at = subst (λ r. Came c who held r o) is at
waits_on c held who o result (inr (holder, is)) at = subst (λ r. Came c who held r o) is at

pub waits_unanswered : (result : Step) (own : List Answer) → Waits result → own ++ answers_by result ≡ own
waits_unanswered result own (inl is) = ap (λ r. own ++ answers_by r) is ∙ append-nil own
waits_unanswered result own (inr (holder, is)) = ap (λ r. own ++ answers_by r) is ∙ append-nil own
