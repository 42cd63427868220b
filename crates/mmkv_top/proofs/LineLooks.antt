-- A read is answered by its two looks just where they find the words that its opener keeps: the steps of a line.
use Rattle.std.proofs.Common.{◌≡◌, ℕ, ◌+◌, ◌<◌, ◌≤◌, ◌⊎◌, Bool, true, false, List, [], ◌∷◌, ◌++◌, length, refl, sym, ap, ◌∙◌, inl, inr, subst, eq-eqb}
use Rattle.std.specs.Prelude.{Option, Some, None, IsTrue, is_some, option_and_then, option_map, ◌==◌, ◌&&◌, if◌then◌else◌}
use Rattle.change_log.specs.declared.call.Answer.{Answer}
use Rattle.change_log.specs.declared.call.Call.{Call as Asked}
use Rattle.change_log.specs.declared.call.Call.TheVariants as call
use Rattle.lock_rules.specs.declared.table.LockKind.{LockKind}
use Rattle.loader.specs.declared.loaded.Image.{Image}
use Rattle.opener.specs.Begins.{Begins, IsFirst, IsFirstPlain, refusal_at}
use Rattle.opener.specs.Bound.{Falls}
use Rattle.opener.specs.Calls.{is_write}
use Rattle.opener.specs.Ends.{Notices, ReadsBy, lock_by}
use Rattle.opener.specs.Fresh.{CountedBy, is_fresh}
use Rattle.opener.specs.Opener.{HasCause, IsAt, KeepsWork, OnAnswer, lock_in}
use Rattle.opener.specs.State.{OpenerState}
use Rattle.opener.specs.Steps.{ActsAt, IsPlaceOf, KeepsImage, OnRunning, peek_of}
use Rattle.opener.specs.declared.calls.Step.{Step}
use Rattle.opener.specs.declared.calls.Step.TheVariants as step
use Rattle.opener.specs.declared.work.Stage.{Stage}
use Rattle.opener.specs.declared.work.Stage.TheVariants as stage
use Rattle.opener.specs.declared.work.Work.{Work}
use Rattle.opener.specs.declared.work.Work.TheVariants.{Idle, Ended, Runs}
use Rattle.region_words.specs.Apart.{Apart}
use Rattle.region_words.specs.Local.{Seated, seat_state}
use Rattle.region_words.specs.Region.{Region, IsAccepted}
use Rattle.region_words.specs.declared.event.Event.{Event}
use Rattle.script_lang.specs.Kept.{FindWords, IsByLooks, IsByWords, IsRead, ReadsByWords, kept_after, kept_of, looked, looks_of}
use Rattle.script_lang.specs.Parts.{Part, Running, going_on, past_of, running, stepped}
use Rattle.script_lang.specs.declared.line.Line.TheVariants.{Step as StepLine}
use Rattle.script_lang.specs.declared.outcome.Outcome.{Outcome}
use Rattle.script_lang.specs.declared.outcome.Outcome.TheVariants.{Answered, Blocked, Stopped}
use Rattle.script_lang.proofs.Looks.{found_both, looks_own}
use Rattle.mmkv_top.specs.Looking.{HasLooked, IsKnown, IsLooking, LooksAt, NeverFind}
use Rattle.mmkv_top.specs.Progress.{CameTo, FollowsWork, IsOutcomeAt}
use Rattle.mmkv_top.proofs.Looking.{call_looks, clash, reads_plainly}
use Rattle.mmkv_top.proofs.Stepping.{going_twice}

none_before : (xs ys : List Event) → xs ++ ys ≡ [] → xs ≡ []
none_before [] ys none = refl
none_before (x ∷ xs) ys none = absurd cc

-- one step more of a line, which has been asked for so many
module _ (who held : ℕ) (start : Region) (kept : Option (List Event)) (looks : List (List Event)) (past made own : List Event) (n m : ℕ) (le : n + 1 ≤ m) (s t : Seated) (o o' : OpenerState) (result : Step)
    (last : result ≡ step.Going → n + 1 ≡ m) (starts : t.region.start ≡ start) (was : s.region.past ≡ made ++ past) (grown : t.region.past ≡ own ++ s.region.past) (ok : IsAccepted t.region.start) (apart : Apart t.region.start t.region.past) where
  pub step_looks : (work : Work) (b : Option Running) → FollowsWork work (option_map (going_on made) b) → IsAt o work → (seat_state s).holds ≡ lock_in o.holds work → IsAt o' o'.work → (seat_state t).holds ≡ lock_in o'.holds o'.work →
      IsLooking start kept (looked looks n past) o.image work (option_map (going_on made) b) → KeepsWork (record o { work = work }) result o' → HasCause work result o'.work (seat_state s) (seat_state t) →
      OnRunning work (λ at. ActsAt result at o.image o'.work (seat_state s) (seat_state t)) → OnRunning work (λ at. OnAnswer result (IsPlaceOf (peek_of at))) → OnRunning work (λ at. KeepsImage result at o.image o' (seat_state t)) →
      OnRunning work (λ at. CountedBy result at o'.work) → Falls work result o'.work (seat_state t) → CameTo who t.region.past held (option_map (going_on (own ++ made)) b) result o' →
      HasLooked start kept looks (looked looks m past) result o' (option_map (going_on (own ++ made)) b) t.region.past
  step_looks Idle None follows is_at lock_s is_to lock_t is keeps cause acts place image counts falls came =
      subst (λ x. HasLooked start kept looks (looked looks m past) x o' None t.region.past) (sym keeps.0) (subst (λ (y : OpenerState). IsLooking start kept (looked looks m past) y.image y.work None) (sym keeps.1) is)
  step_looks Idle (Some r) follows is_at lock_s is_to lock_t is keeps cause acts place image counts falls came = absurd follows
  step_looks Ended None follows is_at lock_s is_to lock_t is keeps cause acts place image counts falls came = absurd follows
  step_looks Ended (Some r) follows is_at lock_s is_to lock_t is keeps cause acts place image counts falls came = absurd follows
  step_looks (Runs c at) None follows is_at lock_s is_to lock_t is keeps cause acts place image counts falls came = absurd follows
  step_looks (Runs c at) (Some r) follows is_at lock_s is_to lock_t is keeps cause acts place image counts falls came =
      subst (λ x. HasLooked start kept looks (looked looks m past) result o' x t.region.past) (going_twice own made (Some r))
      (call_looks start kept looks n past s t o o' c (going_on made r) own follows.call (λ none. was ∙ ap (λ x. x ++ past) (none_before made r.since none)) starts grown who held m le at result last ok apart is_at lock_s is_to lock_t is
      keeps cause acts place image counts falls (subst (λ x. CameTo who t.region.past held x result o') (sym (going_twice own made (Some r))) came))

-- after a line
pub line_looking : (who held : ℕ) (start : Region) (past : List Event) (kept : Option (List Event)) (before looks : List (List Event)) (r : Option Running) (last : Step) (o : OpenerState) (outcome : Option Outcome) →
    CameTo who past held r last o → IsOutcomeAt who last outcome → HasLooked start kept before looks last o r past →
    IsLooking start (kept_after who past outcome kept) looks o.image o.work (option_and_then (stepped outcome) r)
line_looking who held start past kept before looks r last o outcome came at has = go r last came at has
  where
    Leaves : Option Running → Option Outcome → Type 0
    Leaves r outcome = IsLooking start (kept_after who past outcome kept) looks o.image o.work (option_and_then (stepped outcome) r)

    over : (r : Running) (a : Answer) → o.work ≡ Idle → a.who ≡ who → IsKnown start (if is_fresh a then Some past else kept) o.image →
        IsLooking start (kept_after who past (Some (Answered a)) kept) looks o.image o.work (option_and_then (stepped (Some (Answered a))) (Some r))
    over r a idle by known =
        subst (λ w. IsLooking start (kept_after who past (Some (Answered a)) kept) looks o.image w None) (sym idle)
        (subst (λ b. IsKnown start (if b && is_fresh a then Some past else kept) o.image) (sym (eq-eqb a.who who by)) known)

    go : (r : Option Running) (last : Step) → CameTo who past held r last o → IsOutcomeAt who last outcome → HasLooked start kept before looks last o r past →
        IsLooking start (kept_after who past outcome kept) looks o.image o.work (option_and_then (stepped outcome) r)
    go None step.Going came at has = subst (λ x. IsLooking start (kept_after who past x kept) looks o.image o.work (option_and_then (stepped x) None)) (sym at) has
    go (Some r) step.Going came at has = subst (λ x. IsLooking start (kept_after who past x kept) looks o.image o.work (option_and_then (stepped x) (Some r))) (sym at) has
    go None step.Idle came at has = subst (λ x. IsLooking start (kept_after who past x kept) looks o.image o.work (option_and_then (stepped x) None)) (sym at) has
    go (Some r) (step.Blocked holder) came at has = subst (λ x. IsLooking start (kept_after who past x kept) looks o.image o.work (option_and_then (stepped x) (Some r))) (sym at) has
    go (Some r) (step.Answered a) came at has =
        subst (λ x. IsLooking start (kept_after who past x kept) looks o.image o.work (option_and_then (stepped x) (Some r))) (sym at) (over r a came.0 came.2.by has.0)
    go (Some r) (step.Stopped why) came at has =
        subst (λ x. IsLooking start (kept_after who past x kept) looks o.image o.work (option_and_then (stepped x) (Some r))) (sym at.1)
        (subst (λ w. IsLooking start (kept_after who past (Some (Stopped who at.0)) kept) looks o.image w None) (sym came.0)
        (subst (λ b. IsKnown start (if b then None else kept) o.image) (sym (eq-eqb who who refl)) has.0))
    go None step.Again came at has = absurd came
    go None (step.Blocked holder) came at has = absurd came
    go None (step.Answered a) came at has = absurd came
    go None (step.Stopped why) came at has = absurd came
    go (Some r) step.Idle came at has = absurd came
    go (Some r) step.Again came at has = absurd came

-- a call that goes on hasn't found the words
stage_fails : (start : Region) (kept : Option (List Event)) (looks : List (List Event)) (image : Option Image) (r : Running) (at : Stage) → LooksAt start kept looks image r at → IsRead r.call → FindWords start kept looks → ⊥
stage_fails start kept looks image r stage.PeekChecksum is read found = let both = found_both start kept looks found in let e : [] ≡ both.0 ∷ both.1 ∷ both.2 = sym (is.1 read).0 ∙ both.3 in absurd cc
stage_fails start kept looks image r (stage.PeekSequence peek) is read found =
    let both = found_both start kept looks found in
    let once = (is.1 read).0 in
    let e : once.first ∷ [] ≡ both.0 ∷ both.1 ∷ both.2 = sym once.one ∙ both.3 in absurd cc
stage_fails start kept looks image r stage.LockExclusive is read found = is.1 read
stage_fails start kept looks image r stage.Hold is read found = is.1 read
stage_fails start kept looks image r stage.Release is read found = is.1 read
stage_fails start kept looks image r (stage.LockShared extent) is read found = clash start kept looks (is read) found
stage_fails start kept looks image r (stage.Continue loading) is read found = clash start kept looks (is read) found
stage_fails start kept looks image r (stage.Load loading) is read found = clash start kept looks (is read) found
stage_fails start kept looks image r stage.Size is read found = clash start kept looks (is read) found
stage_fails start kept looks image r (stage.Reserve plan) is read found = clash start kept looks (is read) found
stage_fails start kept looks image r (stage.Store plan) is read found = clash start kept looks (is read) found
stage_fails start kept looks image r (stage.Unlock how) is read found = clash start kept looks (is read) found

work_fails : (start : Region) (kept : Option (List Event)) (looks : List (List Event)) (image : Option Image) (r : Running) (work : Work) → FollowsWork work (Some r) → IsLooking start kept looks image work (Some r) → IsRead r.call →
    FindWords start kept looks → ⊥
work_fails start kept looks image r Idle follows is read found = absurd follows
work_fails start kept looks image r Ended follows is read found = absurd follows
work_fails start kept looks image r (Runs c at) follows is read found = stage_fails start kept looks image r at is read found

-- what the looks of the line's call tell of its end
module _ (who held : ℕ) (start : Region) (past : List Event) (kept : Option (List Event)) (before looks : List (List Event)) (r : Running) (o : OpenerState) (outcome : Option Outcome) (read : IsRead r.call) where
  seen_by : (last : Step) → CameTo who past held (Some r) last o → IsOutcomeAt who last outcome → HasLooked start kept before looks last o (Some r) past → FindWords start kept looks →
      (a : Answer) × (outcome ≡ Some (Answered a)) × IsByLooks looks a
  seen_by step.Going came at has found = absurd (work_fails start kept looks o.image r o.work came.0 has read found)
  seen_by (step.Blocked holder) came at has found = absurd (work_fails start kept looks o.image r o.work came.0 has read found)
  seen_by (step.Answered a) came at has found = go (has.1 read)
    where
      go : ((is_fresh a ≡ true) × NeverFind start kept looks) ⊎ ((is_fresh a ≡ false) × (length before < 2) × FindWords start kept looks × IsByLooks looks a) → (a : Answer) × (outcome ≡ Some (Answered a)) × IsByLooks looks a
      go (inl never) = absurd (clash start kept looks never.1 found)
      go (inr by) = (a, at, by.3)
  seen_by (step.Stopped why) came at has found = absurd (clash start kept looks (has.1 read (subst (λ x. IsTrue (is_some x)) (sym at.2) refl)) found)
  seen_by step.Idle came at has found = absurd came
  seen_by step.Again came at has found = absurd came

  only_by : (last : Step) → CameTo who past held (Some r) last o → IsOutcomeAt who last outcome → HasLooked start kept before looks last o (Some r) past → (a : Answer) → outcome ≡ Some (Answered a) → is_fresh a ≡ false →
      (length before < 2) × FindWords start kept looks
  only_by (step.Answered b) came at has a is fresh = go (has.1 read)
    where
      same : b ≡ a
      same = let e : Some (Answered b) ≡ Some (Answered a) = sym at ∙ is in cc

      go : ((is_fresh b ≡ true) × NeverFind start kept looks) ⊎ ((is_fresh b ≡ false) × (length before < 2) × FindWords start kept looks × IsByLooks looks b) → (length before < 2) × FindWords start kept looks
      go (inl never) = let e : true ≡ false = sym never.0 ∙ ap is_fresh same ∙ fresh in absurd cc
      go (inr by) = (by.1, by.2)
  only_by step.Going came at has a is fresh = let e : None ≡ Some (Answered a) = sym at ∙ is in absurd cc
  only_by (step.Blocked holder) came at has a is fresh = let e : Some (Blocked who holder) ≡ Some (Answered a) = sym at ∙ is in absurd cc
  only_by (step.Stopped why) came at has a is fresh = let e : Some (Stopped who at.0) ≡ Some (Answered a) = sym at.1 ∙ is in absurd cc
  only_by step.Idle came at has a is fresh = absurd came
  only_by step.Again came at has a is fresh = absurd came

-- so a line of steps reads by its opener's words
pub line_by_words : (who count held : ℕ) (start : Region) (parts : List Part) (made : List Event) (last : Step) (o : OpenerState) (outcome : Option Outcome) →
    CameTo who (made ++ past_of parts) held (option_map (going_on made) (running who parts)) last o → IsOutcomeAt who last outcome →
    (Apart start (made ++ past_of parts) → HasLooked start (kept_of who parts) (looks_of who parts) (looked (looks_of who parts) count (past_of parts)) last o (option_map (going_on made) (running who parts)) (made ++ past_of parts)) →
    ReadsByWords start (record { line = Some (StepLine who count); made = made; outcome = outcome }) parts
line_by_words who count held start parts made last o outcome came at has = λ v k c line_is runs read apart.
    let same : who ≡ v = cc in subst (λ w. IsByWords start w (record { line = Some (StepLine who count); made = made; outcome = outcome }) parts) same (by c (subst (λ w. running w parts ≡ Some c) (sym same) runs) read apart)
  where
    own : looks_of who (record { line = Some (StepLine who count); made = made; outcome = outcome } ∷ parts) ≡ looked (looks_of who parts) count (past_of parts)
    own = looks_own who count (past_of parts) (looks_of who parts)

    by : (c : Running) → running who parts ≡ Some c → IsRead c.call → Apart start (made ++ past_of parts) → IsByWords start who (record { line = Some (StepLine who count); made = made; outcome = outcome }) parts
    by c runs read apart =
        let came' = subst (λ x. CameTo who (made ++ past_of parts) held (option_map (going_on made) x) last o) runs came in
        let has' = subst (λ x. HasLooked start (kept_of who parts) (looks_of who parts) (looked (looks_of who parts) count (past_of parts)) last o (option_map (going_on made) x) (made ++ past_of parts)) runs (has apart) in
        record {
          seen = λ sees.
              let found = seen_by who held start (made ++ past_of parts) (kept_of who parts) (looks_of who parts) (looked (looks_of who parts) count (past_of parts)) (going_on made c) o outcome read last came' at has'
              (subst (FindWords start (kept_of who parts)) own sees.1) in
              (found.0, found.1, subst (λ l. IsByLooks l found.0) (sym own) found.2);
          only = λ a is fresh.
              let found = only_by who held start (made ++ past_of parts) (kept_of who parts) (looks_of who parts) (looked (looks_of who parts) count (past_of parts)) (going_on made c) o outcome read last came' at has' a is fresh in
              (found.0, subst (FindWords start (kept_of who parts)) (sym own) found.1);
        }

-- A call begins with its first look, where an image is kept.
notices_looks : (start : Region) (kept : Option (List Event)) (image : Option Image) (holds : ℕ) (r : Running) (at : Stage) → r.since ≡ [] → IsKnown start kept image → Notices image holds None at → LooksAt start kept [] image r at
notices_looks start kept (Some i) holds r at none known first = subst (LooksAt start kept [] (Some i) r) (sym first) (known, λ read. (refl, none))
notices_looks start kept None holds r at none known first = go (lock_by holds None) first
  where
    never : (k : Option (List Event)) → IsKnown start k None → NeverFind start k []
    never None known = tt
    never (Some words) known = known

    go : (lock : Option LockKind) → ReadsBy lock at → LooksAt start kept [] None r at
    go None first = subst (LooksAt start kept [] None r) (sym first) (λ read. never kept known)
    go (Some kind) first = subst (LooksAt start kept [] None r) (sym first.1) (λ read. never kept known)

plain_looks : (start : Region) (kept : Option (List Event)) (image : Option Image) (holds : ℕ) (r : Running) (at : Stage) (b : Bool) → (b ≡ true → is_write r.call ≡ true) → r.since ≡ [] → IsKnown start kept image →
    IsFirstPlain b image holds at → LooksAt start kept [] image r at
plain_looks start kept image holds r at true write none known first =
    subst (LooksAt start kept [] image r) (sym first) (known, λ read. let e : true ≡ false = sym (write refl) ∙ reads_plainly r.call read in absurd cc)
plain_looks start kept image holds r at false write none known first = notices_looks start kept image holds r at none known first

abbrev begun : Asked → ℕ → List Event → Running
begun asked now past = record { call = asked; now = now; past = past; since = [] }

no_read_hold : IsRead call.Hold → ⊥
no_read_hold read = absurd cc

no_read_release : IsRead call.Release → ⊥
no_read_release read = absurd cc

first_looks : (start : Region) (kept : Option (List Event)) (image : Option Image) (holds now : ℕ) (past : List Event) (asked : Asked) (at : Stage) → IsKnown start kept image → IsFirst image holds asked at →
    LooksAt start kept [] image (record { call = asked; now = now; past = past; since = [] }) at
first_looks start kept image holds now past call.Hold at known first = subst (LooksAt start kept [] image (begun call.Hold now past)) (sym first) (known, λ read. no_read_hold read)
first_looks start kept image holds now past call.Release at known first = subst (LooksAt start kept [] image (begun call.Release now past)) (sym first) (known, λ read. no_read_release read)
first_looks start kept image holds now past (call.Get key) at known first = notices_looks start kept image holds (begun (call.Get key) now past) at refl known first
first_looks start kept image holds now past call.Keys at known first = notices_looks start kept image holds (begun call.Keys now past) at refl known first
first_looks start kept image holds now past call.Count at known first = notices_looks start kept image holds (begun call.Count now past) at refl known first
first_looks start kept image holds now past call.Sync at known first = notices_looks start kept image holds (begun call.Sync now past) at refl known first
first_looks start kept image holds now past (call.Put key value seconds) at known first = plain_looks start kept image holds (begun (call.Put key value seconds) now past) at (holds == 0) (λ e. refl) refl known first
first_looks start kept image holds now past (call.Remove key) at known first = plain_looks start kept image holds (begun (call.Remove key) now past) at (holds == 0) (λ e. refl) refl known first
first_looks start kept image holds now past call.Clear at known first = plain_looks start kept image holds (begun call.Clear now past) at (holds == 0) (λ e. refl) refl known first
first_looks start kept image holds now past (call.Enable seconds) at known first = plain_looks start kept image holds (begun (call.Enable seconds) now past) at (holds == 0) (λ e. refl) refl known first
first_looks start kept image holds now past call.Disable at known first = plain_looks start kept image holds (begun call.Disable now past) at (holds == 0) (λ e. refl) refl known first

pub begun_looking : (asked : Asked) (now changes : ℕ) (start : Region) (kept : Option (List Event)) (looks : List (List Event)) (past : List Event) (old new : OpenerState) (r : Option Running) → refusal_at old.work asked old.holds ≡ None →
    IsLooking start kept looks old.image old.work r → Begins asked now changes old new → IsLooking start kept [] new.image new.work (Some (record { call = asked; now = now; past = past; since = [] }))
begun_looking asked now changes start kept looks past old new r free is b =
    subst (λ (x : OpenerState). IsLooking start kept [] x.image x.work (Some (record { call = asked; now = now; past = past; since = [] }))) (sym b.work)
    (first_looks start kept old.image old.holds now past asked b.next (known old.work free is) b.first)
  where
    known : (work : Work) → refusal_at work asked old.holds ≡ None → IsLooking start kept looks old.image work r → IsKnown start kept old.image
    known Idle free is = is
    known Ended free is = absurd cc
    known (Runs c at) free is = absurd cc
