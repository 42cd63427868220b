-- A call that runs on was asked for few steps.
use Rattle.std.proofs.Common.{◌≡◌, ℕ, ◌+◌, ◌-◌, ◌*◌, ◌<◌, ◌≤◌, ◌⊎◌, Bool, true, false, List, ◌++◌, length, refl, sym, ap, ◌∙◌, inl, inr, arith, subst, eq-eqb}
use Rattle.std.proofs.lemmas.Bool.{cases_lt}
use Rattle.std.specs.Prelude.{Option, Some, None, nat_lt, option_map, slice_get, if◌then◌else◌}
use Rattle.opener.specs.Begins.{Begins}
use Rattle.opener.specs.Bound.{next_growth, steps_at, steps_left}
use Rattle.opener.specs.Opener.{is_ended}
use Rattle.opener.specs.Plans.{events_in}
use Rattle.opener.specs.State.{OpenerState}
use Rattle.opener.specs.declared.calls.Step.{Step}
use Rattle.opener.specs.declared.calls.Step.TheVariants as step
use Rattle.opener.specs.declared.work.Stage.{Stage}
use Rattle.opener.specs.declared.work.Extent.TheVariants.{Partial, Full}
use Rattle.opener.specs.declared.work.Stage.TheVariants as stage
use Rattle.opener.specs.declared.work.Work.{Work}
use Rattle.opener.specs.declared.work.Work.TheVariants.{Idle, Ended, Runs}
use Rattle.change_log.specs.declared.call.Call.{Call as Asked}
use Rattle.region_words.specs.Lawful.{Lawful}
use Rattle.region_words.specs.Past.{region_after}
use Rattle.region_words.specs.Region.{Region, file_size}
use Rattle.region_words.specs.declared.event.Event.{Event}
use Rattle.region_words.proofs.StaysFirm.{file_grows}
use Rattle.script_lang.specs.declared.line.Line.TheVariants.{Step as StepLine}
use Rattle.script_lang.specs.declared.outcome.Outcome.{Outcome}
use Rattle.script_lang.specs.declared.outcome.Outcome.TheVariants.{Answered, Blocked, Stopped}
use Rattle.script_lang.specs.Parts.{Part, Running, asked_after, asked_of, going_on, past_of, running}
use Rattle.script_lang.specs.Journal.{IsInTime}
use Rattle.mmkv_top.specs.Progress.{CameTo, FollowsWork, IsBounded, IsLeft, IsNobody, IsOpened, IsOutcomeAt, IsUnopened, LeavesFewer}
use Rattle.mmkv_top.proofs.NoPlaces.{opener_there}

-- at each stage a step is left
some_left : (words : ℕ) (at : Stage) → 1 ≤ steps_at words at
some_left words stage.LockExclusive = omega arith
some_left words stage.PeekChecksum = omega arith
some_left words (stage.PeekSequence peek) = omega arith
some_left words (stage.LockShared Partial) = omega arith
some_left words (stage.LockShared Full) = omega arith
some_left words (stage.Continue loading) = omega arith
some_left words (stage.Load loading) = omega arith
some_left words stage.Size = omega arith
some_left words (stage.Reserve plan) = omega arith
some_left words (stage.Store plan) = go (nat_lt (4 * words) (next_growth plan))
  where
    go : (b : Bool) → 1 ≤ (if b then 1 else events_in plan + 1)
    go true = omega arith
    go false = omega arith
some_left words (stage.Unlock how) = omega arith
some_left words stage.Hold = omega arith
some_left words stage.Release = omega arith

-- where no call runs nothing is to be bounded
idle_bounded : (work : Work) (asked size : ℕ) → FollowsWork work None → IsBounded work asked size
idle_bounded Idle asked size follows = tt
idle_bounded Ended asked size follows = absurd follows
idle_bounded (Runs c at) asked size follows = absurd follows

-- so many steps more were asked, and as many fewer are left
bounded_on : (work after : Work) (r r' : Running) (asked more before now : ℕ) → FollowsWork work (Some r) → FollowsWork after (Some r') → before ≤ now → IsBounded work asked before →
    ((words : ℕ) → now ≤ 4 * words → steps_left words after + more ≤ steps_left words work) → IsBounded after (asked + more) now
bounded_on Idle after r r' asked more before now follows goes grows bounded fewer = absurd follows
bounded_on Ended after r r' asked more before now follows goes grows bounded fewer = absurd follows
bounded_on (Runs c at) Idle r r' asked more before now follows goes grows bounded fewer = absurd goes
bounded_on (Runs c at) Ended r r' asked more before now follows goes grows bounded fewer = absurd goes
bounded_on (Runs c at) (Runs c' at') r r' asked more before now follows goes grows bounded fewer =
    λ words fits. omega (arith, fewer words fits, bounded words (omega (arith, grows, fits)))

-- a call that waits has as many left at most, and nothing was asked of it since
bounded_anew : (work after : Work) (r r' : Running) (asked before now : ℕ) → FollowsWork work (Some r) → FollowsWork after (Some r') → before ≤ now → IsBounded work asked before →
    ((words : ℕ) → now ≤ 4 * words → steps_left words after ≤ steps_left words work) → IsBounded after 0 now
bounded_anew Idle after r r' asked before now follows goes grows bounded fewer = absurd follows
bounded_anew Ended after r r' asked before now follows goes grows bounded fewer = absurd follows
bounded_anew (Runs c at) Idle r r' asked before now follows goes grows bounded fewer = absurd goes
bounded_anew (Runs c at) Ended r r' asked before now follows goes grows bounded fewer = absurd goes
bounded_anew (Runs c at) (Runs c' at') r r' asked before now follows goes grows bounded fewer =
    λ words fits. omega (arith, fewer words fits, bounded words (omega (arith, grows, fits)))

over_bounded : (work : Work) (asked size : ℕ) → work ≡ Idle → IsBounded work asked size
over_bounded work asked size idle = subst (λ w. IsBounded w asked size) (sym idle) tt

-- the steps asked of an opener after a line of its own
own_after : Option Outcome → ℕ → ℕ → ℕ
own_after (Some (Blocked w holder)) asked count = 0
own_after _ asked count = asked + count

asked_own : (who count : ℕ) (outcome : Option Outcome) (asked : ℕ) → asked_after (Some (StepLine who count)) outcome who asked ≡ own_after outcome asked count
unfolding own_after
asked_own who count None asked = ap (λ b. if b then asked + count else asked) (eq-eqb who who refl)
asked_own who count (Some (Answered a)) asked = ap (λ b. if b then asked + count else asked) (eq-eqb who who refl)
asked_own who count (Some (Stopped w why)) asked = ap (λ b. if b then asked + count else asked) (eq-eqb who who refl)
asked_own who count (Some (Blocked w holder)) asked = ap (λ b. if b then 0 else asked) (eq-eqb who who refl)

-- in a file that has grown meanwhile
pub bounded_later : (work : Work) (asked before now : ℕ) → before ≤ now → IsBounded work asked before → IsBounded work asked now
bounded_later Idle asked before now grows bounded = tt
bounded_later Ended asked before now grows bounded = tt
bounded_later (Runs c at) asked before now grows bounded = λ words fits. bounded words (omega (arith, grows, fits))

-- after a line of steps
pub line_bounded : (who : ℕ) (start : Region) (past made : List Event) (held asked count : ℕ) (r : Option Running) (work : Work) (last : Step) (o : OpenerState) (outcome : Option Outcome) →
    FollowsWork work r → Lawful start (made ++ past) → CameTo who (made ++ past) held (option_map (going_on made) r) last o →
    IsBounded work asked (file_size (region_after start past)) → LeavesFewer last work o.work count (file_size (region_after start (made ++ past))) → IsOutcomeAt who last outcome →
    IsBounded o.work (asked_after (Some (StepLine who count)) outcome who asked) (file_size (region_after start (made ++ past)))
unfolding own_after
line_bounded who start past made held asked count r work last o outcome follows lawful came bounded fewer at =
    subst (λ n. IsBounded o.work n (file_size (region_after start (made ++ past)))) (sym (asked_own who count outcome asked)) (go r last outcome follows came fewer at)
  where
    Is : Option Outcome → Type 0
    Is outcome = IsBounded o.work (own_after outcome asked count) (file_size (region_after start (made ++ past)))

    grows : file_size (region_after start past) ≤ file_size (region_after start (made ++ past))
    grows = file_grows start made past lawful

    size : ℕ
    size = file_size (region_after start (made ++ past))

    go : (r : Option Running) (last : Step) (outcome : Option Outcome) → FollowsWork work r → CameTo who (made ++ past) held (option_map (going_on made) r) last o →
        LeavesFewer last work o.work count size → IsOutcomeAt who last outcome → Is outcome
    go None step.Going outcome follows came fewer at = subst Is (sym at) (idle_bounded o.work (asked + count) size came.0)
    go (Some r) step.Going outcome follows came fewer at =
        subst Is (sym at) (bounded_on work o.work r (going_on made r) asked count (file_size (region_after start past)) size follows came.0 grows bounded fewer)
    go None step.Idle outcome follows came fewer at = subst Is (sym at) (idle_bounded o.work (asked + count) size came.0)
    go (Some r) (step.Blocked holder) outcome follows came fewer at =
        subst Is (sym at) (bounded_anew work o.work r (going_on made r) asked (file_size (region_after start past)) size follows came.0 grows bounded fewer)
    go (Some r) (step.Answered a) outcome follows came fewer at = subst Is (sym at) (over_bounded o.work (asked + count) size came.0)
    go (Some r) (step.Stopped why) outcome follows came fewer at = subst Is (sym at.1) (over_bounded o.work (asked + count) size came.0)
    go None step.Again outcome follows came fewer at = absurd came
    go None (step.Blocked holder) outcome follows came fewer at = absurd came
    go None (step.Answered a) outcome follows came fewer at = absurd came
    go None (step.Stopped why) outcome follows came fewer at = absurd came
    go (Some r) step.Idle outcome follows came fewer at = absurd came
    go (Some r) step.Again outcome follows came fewer at = absurd came

-- after the begin of a call
pub begin_bounded : (asked : Asked) (now n size : ℕ) (old new : OpenerState) → Begins asked now n old new → ((words : ℕ) → steps_left words new.work ≤ 6 * words + 100) → IsBounded new.work 0 size
begin_bounded asked now n size old new begins bound =
    subst (λ (x : OpenerState). IsBounded x.work 0 size) (sym begins.work)
    (λ words fits. omega (arith, bound words, ap (λ (x : OpenerState). steps_left words x.work) begins.work))

-- the call that runs was asked for few steps
opened_in_time : (start : Region) (parts : List Part) (who : ℕ) (o : OpenerState) → IsOpened start parts who o → (c : Running) (words : ℕ) → running who parts ≡ Some c →
    file_size (region_after start (past_of parts)) ≤ 4 * words → asked_of who parts < 6 * words + 100
opened_in_time start parts who o op c words runs fits = go o.work (subst (FollowsWork o.work) runs op.follows) op.bounded
  where
    go : (work : Work) → FollowsWork work (Some c) → IsBounded work (asked_of who parts) (file_size (region_after start (past_of parts))) → asked_of who parts < 6 * words + 100
    go Idle follows bounded = absurd follows
    go Ended follows bounded = absurd follows
    go (Runs running at) follows bounded = omega (arith, bounded words fits, some_left words at)

-- whoever runs it
pub in_time : (start : Region) (parts : List Part) (openers : List OpenerState) → ((i : ℕ) (o : OpenerState) → slice_get openers i ≡ Some o → IsLeft start parts (i + 1) o) →
    ((who : ℕ) → IsNobody (length openers) who → IsUnopened parts who) → IsInTime start parts
in_time start parts openers each unopened who c words runs fits = go (cases_lt 0 who) (cases_lt (length openers) who)
  where
    nobody : IsNobody (length openers) who → asked_of who parts < 6 * words + 100
    nobody is = let both : None ≡ Some c = sym (unopened who is).idle ∙ runs in absurd cc

    left_in_time : (o : OpenerState) → IsLeft start parts who o → (b : Bool) → is_ended o.work ≡ b → asked_of who parts < 6 * words + 100
    left_in_time o left false alive = opened_in_time start parts who o (left.alive alive) c words runs fits
    left_in_time o left true dead = let both : None ≡ Some c = sym (left.dead dead).idle ∙ runs in absurd cc

    go : (0 < who) ⊎ (who ≤ 0) → (length openers < who) ⊎ (who ≤ length openers) → asked_of who parts < 6 * words + 100
    go (inr none) far = nobody (inl (omega (arith, none)))
    go (inl some) (inl far) = nobody (inr far)
    go (inl some) (inr near) =
        let i = who - 1 in
        let is : i + 1 ≡ who = omega (arith, some) in
        let at = opener_there openers i (omega (arith, some, near)) in
        left_in_time at.0 (subst (λ w. IsLeft start parts w at.0) is (each i at.0 at.1)) (is_ended at.0.work) refl
