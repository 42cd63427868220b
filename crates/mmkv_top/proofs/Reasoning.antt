-- A stop that is found has its reason, and so has the line that it ends.
use Rattle.std.proofs.Common.{◌≡◌, ◌≢◌, ℕ, ◌≤◌, ◌∷◌, arith, true, false, inl, inr, List, [], ◌++◌, length, refl, sym, ap, ◌∙◌, subst, append_assoc}
use Rattle.std.specs.Prelude.{if◌then◌else◌, Bool, Option, Some, None, IfSome, IsTrue, is_some, ◌==◌, ◌&&◌}
use Rattle.change_log.specs.declared.call.Call.{Call as Asked}
use Rattle.change_log.specs.declared.call.Call.TheVariants as call
use Rattle.loader.specs.Loads.{Load}
use Rattle.loader.specs.declared.loaded.Image.{Image}
use Rattle.lock_rules.specs.declared.table.LockKind.{LockKind}
use Rattle.lock_rules.specs.declared.table.LockKind.TheVariants.{Exclusive}
use Rattle.opener.specs.Begins.{Begins, IsFirst, IsFirstPlain, begun_at}
use Rattle.opener.specs.Calls.{is_write}
use Rattle.opener.specs.Ends.{Notices, ReadsBy, lock_by}
use Rattle.opener.specs.Opener.{HasReason, HasStopped, IsAt, RunsOn, lock_in, stop_found}
use Rattle.opener.specs.Plans.{refusal_of}
use Rattle.opener.specs.State.{OpenerState}
use Rattle.opener.specs.declared.calls.Step.{Step}
use Rattle.opener.specs.declared.calls.Step.TheVariants as step
use Rattle.opener.specs.declared.calls.Stop.{Stop}
use Rattle.opener.specs.declared.calls.Stop.TheVariants as stop
use Rattle.opener.specs.declared.work.Running.{Running as Call}
use Rattle.opener.specs.declared.work.End.TheVariants as end
use Rattle.opener.specs.declared.work.Stage.{Stage}
use Rattle.opener.specs.declared.work.Stage.TheVariants as stage
use Rattle.opener.specs.declared.work.Extent.TheVariants.{Full}
use Rattle.opener.specs.declared.work.Work.{Work}
use Rattle.opener.specs.declared.work.Work.TheVariants.{Idle, Ended, Runs}
use Rattle.region_words.specs.Apart.{Apart}
use Rattle.region_words.specs.Lawful.{IsPossible, Lawful, map_after}
use Rattle.region_words.specs.Local.{Seated, lock_after, seat_state}
use Rattle.region_words.specs.Past.{changes_of, locks_after, region_after}
use Rattle.region_words.specs.Region.{Region, IsAccepted}
use Rattle.region_words.specs.Rows.{standing}
use Rattle.region_words.specs.Share.{made_by}
use Rattle.region_words.specs.declared.event.What.{What}
use Rattle.region_words.specs.declared.event.What.TheVariants.{Died, Grow, Lock, Store, Unlock}
use Rattle.region_words.specs.declared.event.Event.{Event}
use Rattle.script_lang.specs.declared.outcome.Outcome.{Outcome}
use Rattle.script_lang.specs.declared.outcome.Outcome.TheVariants.{Answered, Blocked, Stopped}
use Rattle.script_lang.specs.declared.outcome.Reason.{Reason}
use Rattle.script_lang.specs.Parts.{Part, is_lock, past_of, running}
use Rattle.script_lang.specs.Played.{IsPrinted, IsReasoned, TakesNone, WasRefused, reason_said}
use Rattle.script_lang.proofs.Counting.{free_before}
use Rattle.mmkv_top.specs.Progress.{FoundIs, IsOutcomeAt, StopHolds, StoppedIs}

-- a reason that is said is one that is printed
pub said_printed : (why : Stop) (r : Reason) → reason_said why ≡ Some r → IsPrinted r
said_printed (stop.Full need) r e = subst (λ o. IfSome o IsPrinted) e tt
said_printed stop.SequenceEnd r e = subst (λ o. IfSome o IsPrinted) e tt
said_printed stop.ExpiryOff r e = subst (λ o. IfSome o IsPrinted) e tt
said_printed stop.ExpiryRange r e = subst (λ o. IfSome o IsPrinted) e tt
said_printed stop.AlreadyOn r e = subst (λ o. IfSome o IsPrinted) e tt
said_printed stop.AlreadyOff r e = subst (λ o. IfSome o IsPrinted) e tt
said_printed stop.Fault r e = absurd cc
said_printed stop.Memory r e = absurd cc
said_printed stop.JournalFull r e = absurd cc
said_printed (stop.NotWhole seen) r e = absurd cc
said_printed (stop.Version n) r e = absurd cc
said_printed (stop.Flags n) r e = absurd cc

taken_more : (who : ℕ) (more later : List Event) → TakesNone who more → TakesNone who later → TakesNone who (more ++ later)
taken_more who [] later quiet still = still
taken_more who (e ∷ more) later quiet still = (quiet.0, taken_more who more later quiet.1 still)

-- it holds as long as the opener takes no lock
holds_later : (who : ℕ) (why : Stop) (asked : Asked) (now begun : ℕ) (start : Region) (more past : List Event) → TakesNone who more → StopHolds who why asked now begun start past →
    StopHolds who why asked now begun start (more ++ past)
holds_later who why asked now begun start more past quiet h said =
    let w = h said in
    record {
      later = more ++ w.later;
      earlier = w.earlier;
      is = append_assoc more w.later w.earlier ∙ ap (λ l. more ++ l) w.is;
      since = w.since;
      held = w.held;
      last = taken_more who more w.later quiet w.last;
      first = w.first;
    }

pub found_later : (who : ℕ) (work : Work) (start : Region) (more past : List Event) → (stop_found work ≢ None → TakesNone who more) → FoundIs who work start past → FoundIs who work start (more ++ past)
found_later who Idle start more past quiet f = tt
found_later who Ended start more past quiet f = tt
found_later who (Runs c (stage.Unlock (end.Stop why))) start more past quiet f = holds_later who why c.call c.now c.begun start more past (quiet (λ e. absurd cc)) f
found_later who (Runs c (stage.Unlock (end.Answer place reply))) start more past quiet f = tt
found_later who (Runs c stage.PeekChecksum) start more past quiet f = tt
found_later who (Runs c (stage.PeekSequence peek)) start more past quiet f = tt
found_later who (Runs c (stage.LockShared extent)) start more past quiet f = tt
found_later who (Runs c stage.LockExclusive) start more past quiet f = tt
found_later who (Runs c (stage.Continue loading)) start more past quiet f = tt
found_later who (Runs c (stage.Load loading)) start more past quiet f = tt
found_later who (Runs c stage.Size) start more past quiet f = tt
found_later who (Runs c (stage.Reserve plan)) start more past quiet f = tt
found_later who (Runs c (stage.Store plan)) start more past quiet f = tt
found_later who (Runs c stage.Hold) start more past quiet f = tt
found_later who (Runs c stage.Release) start more past quiet f = tt

-- where a stop is found, the lock is still to be given up, and none is taken
found_locked : (o : OpenerState) (work : Work) → IsAt o work → stop_found work ≢ None → lock_in o.holds work ≢ None
found_locked o (Runs c (stage.Unlock (end.Stop why))) at found = go (o.holds == 0) c.taken at.2.0
  where
    go : (b : Bool) (taken : Option LockKind) → taken ≢ None → (if b then taken else Some Exclusive) ≢ None
    go true taken some = some
    go false taken some = λ e. absurd cc
found_locked o (Runs c (stage.Unlock (end.Answer place reply))) at found = absurd (found refl)
found_locked o Idle at found = absurd (found refl)
found_locked o Ended at found = absurd (found refl)
found_locked o (Runs c stage.PeekChecksum) at found = absurd (found refl)
found_locked o (Runs c (stage.PeekSequence peek)) at found = absurd (found refl)
found_locked o (Runs c (stage.LockShared extent)) at found = absurd (found refl)
found_locked o (Runs c stage.LockExclusive) at found = absurd (found refl)
found_locked o (Runs c (stage.Continue loading)) at found = absurd (found refl)
found_locked o (Runs c (stage.Load loading)) at found = absurd (found refl)
found_locked o (Runs c stage.Size) at found = absurd (found refl)
found_locked o (Runs c (stage.Reserve plan)) at found = absurd (found refl)
found_locked o (Runs c (stage.Store plan)) at found = absurd (found refl)
found_locked o (Runs c stage.Hold) at found = absurd (found refl)
found_locked o (Runs c stage.Release) at found = absurd (found refl)

takes_no_lock : (start : Region) (past : List Event) (who : ℕ) (own : List What) → length own ≤ 1 → Lawful start (made_by who own ++ past) → lock_after past who ≢ None → TakesNone who (made_by who own)
takes_no_lock start past who [] few lawful some = tt
takes_no_lock start past who (x ∷ []) few lawful some = (λ own. one x lawful.1.possible, tt)
  where
    one : (x : What) → IsPossible (region_after start past) (locks_after past) who x → is_lock x ≡ false
    one (Store side word value mark) may = refl
    one (Grow size) may = refl
    one Unlock may = refl
    one (Died torn) may = refl
    one (Lock kind) may = absurd (some (free_before (locks_after past) who kind may))
takes_no_lock start past who (x ∷ y ∷ own) few lawful some = absurd (omega (arith, few))

pub found_quiet : (o : OpenerState) (start : Region) (past : List Event) (who : ℕ) (own : List What) → length own ≤ 1 → Lawful start (made_by who own ++ past) → IsAt o o.work →
    lock_after past who ≡ lock_in o.holds o.work → stop_found o.work ≢ None → TakesNone who (made_by who own)
found_quiet o start past who own few lawful at held found = takes_no_lock start past who own few lawful (λ none. found_locked o o.work at found (sym held ∙ none))

-- of a call with other words for the same
pub holds_of_same : (who : ℕ) (why : Stop) (asked asked' : Asked) (now now' begun begun' : ℕ) (start : Region) (past : List Event) → asked' ≡ asked → now' ≡ now → begun' ≡ begun →
    StopHolds who why asked now begun start past → StopHolds who why asked' now' begun' start past
holds_of_same who why asked asked' now now' begun begun' start past call moment count h =
    subst (λ a. StopHolds who why a now' begun' start past) (sym call)
    (subst (λ n. StopHolds who why asked n begun' start past) (sym moment) (subst (λ n. StopHolds who why asked now n start past) (sym count) h))

-- What a step finds, or comes to.
module _ (who : ℕ) (c : Call) (at : Stage) (s t : Seated) (one : t.who ≡ who) (since : c.begun ≤ length (changes_of t.region.past)) where
  refused : (why : Stop) → (seat_state t).holds ≡ Some Exclusive → (IsAccepted t.region.start → Apart t.region.start t.region.past → refusal_of c.call c.now (standing (region_after t.region.start t.region.past)) (map_after t.region.start t.region.past) ≡ Some why) →
      WasRefused who why c.call c.now c.begun t.region.start t.region.past
  refused why held first =
      record { later = []; earlier = t.region.past; is = refl; since = since; held = subst (λ w. lock_after t.region.past w ≡ Some Exclusive) one held; last = tt; first = first }

  reason_holds : (why : Stop) → HasReason (Runs c at) why (seat_state s) (seat_state t) → StopHolds who why c.call c.now c.begun t.region.start t.region.past
  reason_holds (stop.Full need) reason said = refused (stop.Full need) reason.1 reason.2
  reason_holds stop.SequenceEnd reason said = refused stop.SequenceEnd reason.1 reason.2
  reason_holds stop.ExpiryOff reason said = refused stop.ExpiryOff reason.1 reason.2
  reason_holds stop.ExpiryRange reason said = refused stop.ExpiryRange reason.1 reason.2
  reason_holds stop.AlreadyOn reason said = refused stop.AlreadyOn reason.1 reason.2
  reason_holds stop.AlreadyOff reason said = refused stop.AlreadyOff reason.1 reason.2
  reason_holds stop.Fault reason said = absurd cc
  reason_holds stop.Memory reason said = absurd cc
  reason_holds stop.JournalFull reason said = absurd cc
  reason_holds (stop.NotWhole seen) reason said = absurd cc
  reason_holds (stop.Version n) reason said = absurd cc
  reason_holds (stop.Flags n) reason said = absurd cc

  -- it goes on, and has found a stop or not
  pub going_found : (after : Work) → RunsOn c after → IfSome (stop_found after) (λ why. HasReason (Runs c at) why (seat_state s) (seat_state t)) → FoundIs who after t.region.start t.region.past
  going_found Idle on found = tt
  going_found Ended on found = tt
  going_found (Runs next (stage.Unlock (end.Stop why))) on found =
      holds_of_same who why c.call next.call c.now next.now c.begun next.begun t.region.start t.region.past on.call on.now on.begun (reason_holds why found)
  going_found (Runs next (stage.Unlock (end.Answer place reply))) on found = tt
  going_found (Runs next stage.PeekChecksum) on found = tt
  going_found (Runs next (stage.PeekSequence peek)) on found = tt
  going_found (Runs next (stage.LockShared extent)) on found = tt
  going_found (Runs next stage.LockExclusive) on found = tt
  going_found (Runs next (stage.Continue loading)) on found = tt
  going_found (Runs next (stage.Load loading)) on found = tt
  going_found (Runs next stage.Size) on found = tt
  going_found (Runs next (stage.Reserve plan)) on found = tt
  going_found (Runs next (stage.Store plan)) on found = tt
  going_found (Runs next stage.Hold) on found = tt
  going_found (Runs next stage.Release) on found = tt

  -- it is stopped, for what was found before or in this step
  found_before : (why found : Stop) → HasStopped (Some found) (Runs c at) why (seat_state s) (seat_state t) → StopHolds who found c.call c.now c.begun t.region.start t.region.past →
      StopHolds who why c.call c.now c.begun t.region.start t.region.past
  found_before why found (inl same) h = subst (λ w. StopHolds who w c.call c.now c.begun t.region.start t.region.past) (sym same) h
  found_before why found (inr (fault, fails)) h = λ said. let never : IsTrue (is_some (reason_said stop.Fault)) = subst (λ w. IsTrue (is_some (reason_said w))) fault said in absurd cc

pub stopped_holds : (who : ℕ) (c : Call) (at : Stage) (s t : Seated) → t.who ≡ who → c.begun ≤ length (changes_of t.region.past) → (why : Stop) → HasStopped (stop_found (Runs c at)) (Runs c at) why (seat_state s) (seat_state t) →
    FoundIs who (Runs c at) t.region.start t.region.past → StopHolds who why c.call c.now c.begun t.region.start t.region.past
stopped_holds who c (stage.Unlock (end.Stop found)) s t one since why h f = found_before who c (stage.Unlock (end.Stop found)) s t one since why found h f
stopped_holds who c (stage.Unlock (end.Answer place reply)) s t one since why h f = reason_holds who c (stage.Unlock (end.Answer place reply)) s t one since why h
stopped_holds who c stage.PeekChecksum s t one since why h f = reason_holds who c stage.PeekChecksum s t one since why h
stopped_holds who c (stage.PeekSequence peek) s t one since why h f = reason_holds who c (stage.PeekSequence peek) s t one since why h
stopped_holds who c (stage.LockShared extent) s t one since why h f = reason_holds who c (stage.LockShared extent) s t one since why h
stopped_holds who c stage.LockExclusive s t one since why h f = reason_holds who c stage.LockExclusive s t one since why h
stopped_holds who c (stage.Continue loading) s t one since why h f = reason_holds who c (stage.Continue loading) s t one since why h
stopped_holds who c (stage.Load loading) s t one since why h f = reason_holds who c (stage.Load loading) s t one since why h
stopped_holds who c stage.Size s t one since why h f = reason_holds who c stage.Size s t one since why h
stopped_holds who c (stage.Reserve plan) s t one since why h f = reason_holds who c (stage.Reserve plan) s t one since why h
stopped_holds who c (stage.Store plan) s t one since why h f = reason_holds who c (stage.Store plan) s t one since why h
stopped_holds who c stage.Hold s t one since why h f = reason_holds who c stage.Hold s t one since why h
stopped_holds who c stage.Release s t one since why h f = reason_holds who c stage.Release s t one since why h

pub idle_found : (who : ℕ) (work : Work) (start : Region) (past : List Event) → work ≡ Idle → FoundIs who work start past
idle_found who work start past idle = subst (λ w. FoundIs who w start past) (sym idle) tt

-- the line that a stop ends is reasoned
pub is_reasoned : (who : ℕ) (start : Region) (p : Part) (parts : List Part) (last : Step) → IsOutcomeAt who last p.outcome → StoppedIs who last (running who parts) start (p.made ++ past_of parts) →
    IsReasoned start p parts
is_reasoned who start p parts last at stopped c w r runs is = go last at stopped
  where
    Wanted : Type 0
    Wanted = (why : Stop) × (reason_said why ≡ Some r) × WasRefused w why c.call c.now (length (changes_of c.past)) start (p.made ++ past_of parts)

    number_in : Option Outcome → ℕ
    number_in (Some (Stopped v x)) = v
    number_in _ = 0

    reason_in : Option Outcome → Option Reason
    reason_in (Some (Stopped v x)) = Some x
    reason_in _ = None

    go : (last : Step) → IsOutcomeAt who last p.outcome → StoppedIs who last (running who parts) start (p.made ++ past_of parts) → Wanted
    go (step.Stopped why) (r', outcome, said) held =
        let same : Some (Stopped who r') ≡ Some (Stopped w r) = sym outcome ∙ is in
        let one : Some r' ≡ Some r = ap reason_in same in
        let number : who ≡ w = ap number_in same in
        let all : reason_said why ≡ Some r = said ∙ one in
        let mine : running who parts ≡ Some c = ap (λ v. running v parts) number ∙ runs in (
          why,
          all,
          subst (λ v. WasRefused v why c.call c.now (length (changes_of c.past)) start (p.made ++ past_of parts)) number
              (subst (λ b. StoppedIs who (step.Stopped why) b start (p.made ++ past_of parts)) mine held (subst (λ o. IsTrue (is_some o)) (sym all) refl)),
        )
    go step.Idle none held = let both : None ≡ Some (Stopped w r) = sym none ∙ is in absurd cc
    go step.Going none held = let both : None ≡ Some (Stopped w r) = sym none ∙ is in absurd cc
    go step.Again none held = let both : None ≡ Some (Stopped w r) = sym none ∙ is in absurd cc
    go (step.Blocked holder) blocked held = let both : Some (Blocked who holder) ≡ Some (Stopped w r) = sym blocked ∙ is in absurd cc
    go (step.Answered a) answered held = let both : Some (Answered a) ≡ Some (Stopped w r) = sym answered ∙ is in absurd cc

-- a line without an outcome is
pub quiet_reasoned : (start : Region) (p : Part) (parts : List Part) → p.outcome ≡ None → IsReasoned start p parts
quiet_reasoned start p parts none c who r runs is = let both : None ≡ Some (Stopped who r) = sym none ∙ is in absurd cc

-- what is true of the stages at which a call can begin
pub first_at : (P : Stage → Type 0) → P stage.Hold → P stage.Release → P stage.LockExclusive → P stage.PeekChecksum → P (stage.LockShared Full) → ((loading : Load) → P (stage.Load loading)) →
    (asked : Asked) (image : Option Image) (holds : ℕ) (next : Stage) → IsFirst image holds asked next → P next
first_at P hold release exclusive peek shared load asked image holds next first = go asked first
  where
    is : (to : Stage) → P to → next ≡ to → P next
    is to f e = subst P (sym e) f

    by : (lock : Option LockKind) → ReadsBy lock next → P next
    by None e = is (stage.LockShared Full) shared e
    by (Some kind) (loading, e, fresh) = is (stage.Load loading) (load loading) e

    notices : (image : Option Image) → Notices image holds None next → P next
    notices None reads = by (lock_by holds None) reads
    notices (Some i) e = is stage.PeekChecksum peek e

    plain : (b : Bool) → IsFirstPlain b image holds next → P next
    plain true e = is stage.LockExclusive exclusive e
    plain false n = notices image n

    go : (asked : Asked) → IsFirst image holds asked next → P next
    go call.Hold e = is stage.Hold hold e
    go call.Release e = is stage.Release release e
    go (call.Get key) f = plain (is_write (call.Get key) && (holds == 0)) f
    go (call.Put key value seconds) f = plain (is_write (call.Put key value seconds) && (holds == 0)) f
    go (call.Remove key) f = plain (is_write (call.Remove key) && (holds == 0)) f
    go call.Clear f = plain (is_write call.Clear && (holds == 0)) f
    go call.Keys f = plain (is_write call.Keys && (holds == 0)) f
    go call.Count f = plain (is_write call.Count && (holds == 0)) f
    go (call.Enable seconds) f = plain (is_write (call.Enable seconds) && (holds == 0)) f
    go call.Disable f = plain (is_write call.Disable && (holds == 0)) f
    go call.Sync f = plain (is_write call.Sync && (holds == 0)) f

-- at its begin a call has found no stop
pub begun_stopless : (asked : Asked) (now n : ℕ) (old new : OpenerState) → Begins asked now n old new → stop_found new.work ≡ None
begun_stopless asked now n old new begins =
    ap (λ (x : OpenerState). stop_found x.work) begins.work
    ∙ first_at (λ next. stop_found (Runs (begun_at asked now n) next) ≡ None) refl refl refl refl refl (λ loading. refl) asked old.image old.holds begins.next begins.first

none_found : (who : ℕ) (work : Work) (start : Region) (past : List Event) → stop_found work ≡ None → FoundIs who work start past
none_found who Idle start past none = tt
none_found who Ended start past none = tt
none_found who (Runs c (stage.Unlock (end.Stop why))) start past none = absurd cc
none_found who (Runs c (stage.Unlock (end.Answer place reply))) start past none = tt
none_found who (Runs c stage.PeekChecksum) start past none = tt
none_found who (Runs c (stage.PeekSequence peek)) start past none = tt
none_found who (Runs c (stage.LockShared extent)) start past none = tt
none_found who (Runs c stage.LockExclusive) start past none = tt
none_found who (Runs c (stage.Continue loading)) start past none = tt
none_found who (Runs c (stage.Load loading)) start past none = tt
none_found who (Runs c stage.Size) start past none = tt
none_found who (Runs c (stage.Reserve plan)) start past none = tt
none_found who (Runs c (stage.Store plan)) start past none = tt
none_found who (Runs c stage.Hold) start past none = tt
none_found who (Runs c stage.Release) start past none = tt

pub begin_found : (who : ℕ) (asked : Asked) (now n : ℕ) (old new : OpenerState) (start : Region) (past : List Event) → Begins asked now n old new → FoundIs who new.work start past
begin_found who asked now n old new start past begins = none_found who new.work start past (begun_stopless asked now n old new begins)
