-- A line goes on by one step of its opener.
use Rattle.std.proofs.Common.{◌≡◌, ◌≢◌, ℕ, ◌+◌, ◌<◌, ◌≤◌, ◌⊎◌, eqb, Bool, true, false, List, [], ◌∷◌, ◌++◌, length, refl, sym, ap, ◌∙◌, inl, inr, arith, subst, append_assoc, length-append, eq-eqb}
use Rattle.std.proofs.lemmas.Bool.Decides.{eqb_tells}
use Rattle.std.proofs.lemmas.List.{append_cancel_right, length-map}
use Rattle.std.specs.Prelude.{⊤, Option, Some, None, IfSome, option_map, not, ◌||◌, ◌&&◌, ◌==◌}
use Rattle.std.specs.Option.{option_map_or}
use Rattle.change_log.specs.declared.call.Answer.{Answer}
use Rattle.lock_rules.specs.Locks.{IsLeastAgainst}
use Rattle.opener.specs.Ends.{lock_by}
use Rattle.opener.specs.Calls.{holds_after, kind_of}
use Rattle.opener.specs.Adds.{AddsTo, Counts, IsRaised, IsRaisedIn, locks_taken, stores_in}
use Rattle.opener.specs.Bound.{Falls, steps_left}
use Rattle.opener.specs.Opener.{Tied, MakesOne, KeepsWork, KeepsCall, HasCause, HasStopped, OnAnswer, IsAnswer, IsAnswerOf, RunsOn, HasReason, IsAt, IsSeen, Owes, WorkIs, is_ended, lock_in, stop_found}
use Rattle.opener.specs.State.{OpenerState}
use Rattle.opener.specs.Writes.{commits_of}
use Rattle.opener.specs.declared.calls.Step.{Step}
use Rattle.opener.specs.declared.calls.Step.TheVariants as step
use Rattle.opener.specs.declared.calls.Stop.{Stop}
use Rattle.opener.specs.declared.calls.Stop.TheVariants as stop
use Rattle.opener.specs.declared.work.Running.{Running as Call}
use Rattle.opener.specs.declared.work.End.TheVariants as end
use Rattle.opener.specs.declared.work.Stage.{Stage}
use Rattle.opener.specs.declared.work.Stage.TheVariants as stage
use Rattle.opener.specs.declared.work.Work.{Work}
use Rattle.opener.specs.declared.work.Work.TheVariants.{Idle, Ended, Runs}
use Rattle.region_words.specs.Answered.{is_store}
use Rattle.region_words.specs.Lawful.{Lawful}
use Rattle.region_words.specs.Region.{Region, IsAccepted, file_size}
use Rattle.region_words.specs.Past.{AreSteps, changes_of, region_after, locks_after, has_died, is_death}
use Rattle.region_words.specs.Local.{Seated, seat_state, account_of, lock_after}
use Rattle.region_words.specs.Share.{ShareState, made_by}
use Rattle.region_words.specs.Told.{History}
use Rattle.region_words.specs.declared.event.Event.{Event}
use Rattle.region_words.specs.declared.event.What.{What}
use Rattle.world.specs.World.{IsSound, WorldState, share_of}
use Rattle.world.specs.Moves.{Steps}
use Rattle.script_lang.specs.Parts.{Running, going_on, is_lock, locks_among, stores_among}
use Rattle.mmkv_top.proofs.Barred.{free_to_try, tried_at}
use Rattle.script_lang.proofs.Counting.{count_goes_on, own_locks, stores_of_own}
use Rattle.script_lang.specs.Played.{AsksFor, IsAnsweredBy, IsBlockedBy, IsTooFull, TakesNone}
use Rattle.region_words.proofs.ReadLaws.{changes_more}
use Rattle.region_words.proofs.StaysFirm.{file_grows}
use Rattle.mmkv_top.proofs.Reasoning.{found_later, found_quiet, going_found, holds_of_same, idle_found, stopped_holds}
use Rattle.mmkv_top.proofs.NoPlaces.{Reserver, alone_asks, at_stop, found_none, reason_now, too_full}
use Rattle.mmkv_top.proofs.Marking.{commits_few, step_marked}
use Rattle.mmkv_top.proofs.Storing.{step_stored}
use Rattle.mmkv_top.proofs.Seeing.{going_saw, saw_still, stopped_saw}
use Rattle.mmkv_top.specs.Progress.{FoundIs, FoundSaw, HasMarked, HasStored, IsOpenTo, IsUnfull, MetFull, StoppedFull, StoppedIs, StoppedSaw, LeavesFewer, Follows, FollowsWork, CameTo, Stepped, seat_at}

-- what a call on the seat made
pub record Moved (s t : Seated) : Type 0 where
  pub own : List What
  pub few : length own ≤ 1
  pub who : t.who ≡ s.who
  pub start : t.region.start ≡ s.region.start
  pub past : t.region.past ≡ made_by s.who own ++ s.region.past
  pub listed : t.region.failing.listed ≡ s.region.failing.listed
  pub admitted : (w : ℕ) → (account_of t.region.accounts w).admitted ≡ (account_of s.region.accounts w).admitted

pub moved : (s t : Seated) → MakesOne (seat_state s) (seat_state t) → Moved s t
moved s t (inl same) =
    record {
      own = [];
      few = omega arith;
      who = ap (λ (x : ShareState). x.who) same;
      start = ap (λ (x : ShareState). option_map_or (λ (h : History). h.start) x.told s.region.start) same;
      past = ap (λ (x : ShareState). option_map_or (λ (h : History). h.past) x.told []) same;
      listed = ap (λ (x : ShareState). option_map_or (λ (l : List ℕ). l) x.fails []) same;
      admitted = λ w. ap (λ (x : ShareState). x.admitted w) same;
    }
moved s t (inr h) =
    record {
      own = h.0.own;
      few = h.2;
      who = h.1.same.who;
      start = h.1.told.start;
      past = h.1.told.past ∙ ap (λ x. made_by s.who h.0.own ++ (x ++ s.region.past)) (h.1.told.none refl);
      listed = ap (λ o. option_map_or (λ (l : List ℕ). l) o []) h.1.same.fails;
      admitted = h.1.same.admitted;
    }

pub right_false : (a b : Bool) → (a || b) ≡ false → b ≡ false
right_false true b h = absurd cc
right_false false b h = h

left_false : (a b : Bool) → (a || b) ≡ false → a ≡ false
left_false true b h = h
left_false false b h = refl

no_death : (a b : Bool) → a ≡ true → (a && b) ≡ false → b ≡ false
no_death true b e h = h
no_death false b e h = absurd cc

-- none of an opener's own events is its death where it lives on
own_steps : (who : ℕ) (own : List What) (past : List Event) → has_died (made_by who own ++ past) who ≡ false → AreSteps who (made_by who own)
own_steps who [] past h = tt
own_steps who (what ∷ own) past h = (
  (refl, no_death (who == who) (is_death what) (eq-eqb who who refl) (left_false ((who == who) && is_death what) (has_died (made_by who own ++ past) who) h)),
  own_steps who own past (right_false ((who == who) && is_death what) (has_died (made_by who own ++ past) who) h),
)

steps_join : (who : ℕ) (xs ys : List Event) → AreSteps who xs → AreSteps who ys → AreSteps who (xs ++ ys)
steps_join who [] ys h k = k
steps_join who (x ∷ xs) ys h k = (h.0, steps_join who xs ys h.1 k)

-- a stop that is found is none of a fault
found_seen : (o : OpenerState) (work : Work) → IsAt o work → IfSome (stop_found work) IsSeen
found_seen o Idle at = tt
found_seen o Ended at = tt
found_seen o (Runs c stage.PeekChecksum) at = tt
found_seen o (Runs c (stage.PeekSequence peek)) at = tt
found_seen o (Runs c (stage.LockShared extent)) at = tt
found_seen o (Runs c stage.LockExclusive) at = tt
found_seen o (Runs c (stage.Continue loading)) at = tt
found_seen o (Runs c (stage.Load loading)) at = tt
found_seen o (Runs c stage.Size) at = tt
found_seen o (Runs c (stage.Reserve plan)) at = tt
found_seen o (Runs c (stage.Store plan)) at = tt
found_seen o (Runs c (stage.Unlock (end.Answer place reply))) at = tt
found_seen o (Runs c (stage.Unlock (end.Stop why))) at = at.2.1
found_seen o (Runs c stage.Hold) at = tt
found_seen o (Runs c stage.Release) at = tt

no_fault : (found : Option Stop) (work : Work) (s t : Seated) → IfSome found IsSeen → s.region.failing.listed ≡ [] →
    HasStopped found work stop.Fault (seat_state s) (seat_state t) → ⊥
no_fault None work s t seen steady h = h.due.0 steady
no_fault (Some found) work s t seen steady (inl same) = subst IsSeen (sym same) seen
no_fault (Some found) work s t seen steady (inr h) = h.1.due.0 steady

-- what a step counts: at most one event, its stores and its locks
record Counted (c : Call) (own : List Event) (result : Step) (work : Work) : Type 0 where
  loads : ℕ
  stores : ℕ
  locks : ℕ
  counts : Counts c loads stores locks result work
  few : length own ≤ 1
  stores_are : stores ≡ stores_among own
  locks_are : locks ≡ locks_among own

abbrev CountedAt : Work → List Event → Step → Work → Type 0
CountedAt (Runs c at) own result work = Counted c own result work
CountedAt _ own result work = ⊤

runs_on : (c : Call) (r : Running) (own : List Event) (loads stores locks : ℕ) (work : Work) → length own ≤ 1 → stores ≡ stores_among own → locks ≡ locks_among own → Follows c r → RunsOn c work →
    IsRaisedIn c loads stores locks work → FollowsWork work (Some (going_on own r))
runs_on c r own loads stores locks Idle few of_stores of_locks follows on raised = absurd on
runs_on c r own loads stores locks Ended few of_stores of_locks follows on raised = absurd on
runs_on c r own loads stores locks (Runs next stage) few of_stores of_locks follows on raised =
    record {
      call = on.call ∙ follows.call;
      moment = on.now ∙ follows.moment;
      begun = on.begun ∙ follows.begun;
      stores = count_goes_on (λ e. is_store e.what) own r.since stores c.stores next.stores of_stores few follows.stores raised.stores_are;
      locks = count_goes_on (λ e. is_lock e.what) own r.since locks c.locks next.locks of_locks few follows.locks raised.locks_are;
    }

answered : (a : Answer) (by who : ℕ) (c : Call) (r : Running) (own : List Event) (start : Region) (past : List Event) (loads stores locks : ℕ) → by ≡ who → length own ≤ 1 → stores ≡ stores_among own →
    locks ≡ locks_among own → IsRaised c loads stores locks a.loads a.stores a.locks → Follows c r → IsAnswerOf a by c → IsAnswer a start past → IsAnsweredBy past (going_on own r) who a
answered a by who c r own start past loads stores locks one few of_stores of_locks raised follows of is =
    record {
      by = of.by ∙ one;
      call_is = of.call_is ∙ follows.call;
      moment = of.moment ∙ follows.moment;
      begun = of.begun ∙ follows.begun;
      place_begun = is.begun;
      place_ended = is.placed;
      ended = is.ended;
      stores = count_goes_on (λ e. is_store e.what) own r.since stores c.stores a.stores of_stores few follows.stores raised.stores_are;
      locks = count_goes_on (λ e. is_lock e.what) own r.since locks c.locks a.locks of_locks few follows.locks raised.locks_are;
    }

-- what a step of a call that runs comes to
module _ (who : ℕ) (s t : Seated) (seat : t.who ≡ who) (steady : s.region.failing.listed ≡ []) (lawful : Lawful t.region.start t.region.past) where
  call_came : (o o' : OpenerState) (c : Call) (at : Stage) (r : Running) (own : List Event) (held : ℕ) (result : Step) → o.who ≡ who → o.holds ≡ held →
      IsAt o (Runs c at) → (seat_state s).holds ≡ lock_in o.holds (Runs c at) → Follows c r → Counted c own result o'.work → KeepsCall o.who o.holds c result o' →
      HasCause (Runs c at) result o'.work (seat_state s) (seat_state t) →
      OnAnswer result (λ a. IsAnswer a t.region.start t.region.past) → CameTo who t.region.past held (Some (going_on own r)) result o'
  call_came o o' c at r own held step.Idle one same is holds follows n keeps cause answer = absurd keeps
  call_came o o' c at r own held step.Going one same is holds follows n keeps cause answer =
      (runs_on c r own n.loads n.stores n.locks o'.work n.few n.stores_are n.locks_are follows keeps.0 n.counts, keeps.1 ∙ same)
  call_came o o' c at r own held step.Again one same is holds follows n keeps cause answer = let t : true ≡ false = cause.0.takes_turns in absurd cc
  call_came o o' c at r own held (step.Blocked holder) one same is holds follows n keeps cause answer =
      (runs_on c r own n.loads n.stores n.locks o'.work n.few n.stores_are n.locks_are follows keeps.0 n.counts, keeps.1 ∙ same, blocked)
    where
      tried : (kind_of c.call ≡ Some cause.0) × (c.taken ≡ None)
      tried = tried_at o c at cause.0 cause.1 is

      least : IsLeastAgainst (locks_after t.region.past) who cause.0 holder
      least = subst (λ w. IsLeastAgainst (locks_after t.region.past) w cause.0 holder) seat cause.2.1

      still : lock_after t.region.past who ≡ lock_by o.holds None
      still = ap (lock_after t.region.past) (sym seat) ∙ cause.2.0.after.holds ∙ holds ∙ ap (lock_by o.holds) tried.1

      blocked : IsBlockedBy t.region.past (going_on own r) who holder
      blocked =
          record {
            kind = cause.0;
            tries = ap kind_of (sym follows.call) ∙ tried.0;
            free = free_to_try t.region.start t.region.past who cause.0 holder o.holds lawful least still;
            least = least;
          }
  call_came o o' c at r own held (step.Answered a) one same is holds follows n keeps cause answer =
      (keeps.1, keeps.2 ∙ ap (λ x. holds_after x o.holds) follows.call ∙ ap (holds_after r.call) same, answered a o.who who c r own t.region.start t.region.past n.loads n.stores n.locks one n.few n.stores_are n.locks_are n.counts follows keeps.0 answer)
  call_came o o' c at r own held (step.Stopped why) one same is holds follows n keeps cause answer = stopped why keeps cause
    where
      stopped : (why : Stop) → KeepsCall o.who o.holds c (step.Stopped why) o' → HasCause (Runs c at) (step.Stopped why) o'.work (seat_state s) (seat_state t) →
          (o'.work ≡ Idle) × (o'.holds ≡ held)
      stopped stop.Fault k h = absurd (no_fault (stop_found (Runs c at)) (Runs c at) s t (found_seen o (Runs c at) is) steady h)
      stopped stop.Memory k h = (k.0, k.1 ∙ same)
      stopped stop.JournalFull k h = (k.0, k.1 ∙ same)
      stopped (stop.NotWhole seen) k h = (k.0, k.1 ∙ same)
      stopped (stop.Version n) k h = (k.0, k.1 ∙ same)
      stopped (stop.Flags n) k h = (k.0, k.1 ∙ same)
      stopped (stop.Full need) k h = (k.0, k.1 ∙ same)
      stopped stop.SequenceEnd k h = (k.0, k.1 ∙ same)
      stopped stop.ExpiryOff k h = (k.0, k.1 ∙ same)
      stopped stop.ExpiryRange k h = (k.0, k.1 ∙ same)
      stopped stop.AlreadyOn k h = (k.0, k.1 ∙ same)
      stopped stop.AlreadyOff k h = (k.0, k.1 ∙ same)

  -- what a step comes to
  step_came : (o o' : OpenerState) (work : Work) (r : Option Running) (own : List Event) (held : ℕ) (result : Step) → o.who ≡ who → o.holds ≡ held →
      IsAt o work → (seat_state s).holds ≡ lock_in o.holds work → FollowsWork work r → CountedAt work own result o'.work → KeepsWork (record o { work = work }) result o' →
      HasCause work result o'.work (seat_state s) (seat_state t) →
      OnAnswer result (λ a. IsAnswer a t.region.start t.region.past) → CameTo who t.region.past held (option_map (going_on own) r) result o'
  step_came o o' Idle None own held result one same is holds follows n keeps cause answer =
      subst (λ x. CameTo who t.region.past held None x o') (sym keeps.0) (subst (λ (x : OpenerState). FollowsWork x.work None × (x.holds ≡ held)) (sym keeps.1) (tt, same))
  step_came o o' Idle (Some r) own held result one same is holds follows n keeps cause answer = absurd follows
  step_came o o' Ended None own held result one same is holds follows n keeps cause answer = absurd follows
  step_came o o' Ended (Some r) own held result one same is holds follows n keeps cause answer = absurd follows
  step_came o o' (Runs c at) None own held result one same is holds follows n keeps cause answer = absurd follows
  step_came o o' (Runs c at) (Some r) own held result one same is holds follows n keeps cause answer = call_came o o' c at r own held result one same is holds follows n keeps cause answer

pub follows_alive : (work : Work) (r : Option Running) → FollowsWork work r → is_ended work ≡ false
follows_alive Idle r h = refl
follows_alive Ended None h = absurd h
follows_alive Ended (Some r) h = absurd h
follows_alive (Runs c at) r h = refl

-- the opener lives on
came_alive : (who : ℕ) (past : List Event) (held : ℕ) (r : Option Running) (result : Step) (o : OpenerState) → CameTo who past held r result o → is_ended o.work ≡ false
came_alive who past held r step.Going o h = follows_alive o.work r h.0
came_alive who past held None step.Idle o h = follows_alive o.work None h.0
came_alive who past held (Some r) (step.Blocked holder) o h = follows_alive o.work (Some r) h.0
came_alive who past held (Some r) (step.Answered a) o h = ap is_ended h.0
came_alive who past held (Some r) (step.Stopped why) o h = ap is_ended h.0
came_alive who past held None step.Again o h = absurd h
came_alive who past held None (step.Blocked holder) o h = absurd h
came_alive who past held None (step.Answered a) o h = absurd h
came_alive who past held None (step.Stopped why) o h = absurd h
came_alive who past held (Some r) step.Idle o h = absurd h
came_alive who past held (Some r) step.Again o h = absurd h

-- without a call nothing is made
idle_makes_none : (s t : Seated) (o o' : OpenerState) (work : Work) (result : Step) → FollowsWork work None → KeepsWork (record o { work = work }) result o' →
    HasCause work result o'.work (seat_state s) (seat_state t) → t.region.past ≡ s.region.past
idle_makes_none s t o o' Idle result follows keeps cause =
    let stays : seat_state t ≡ seat_state s = subst (λ x. HasCause Idle x o'.work (seat_state s) (seat_state t)) keeps.0 cause in
    ap (λ (x : ShareState). option_map_or (λ (h : History). h.past) x.told []) stays
idle_makes_none s t o o' Ended result follows keeps cause = absurd follows
idle_makes_none s t o o' (Runs c at) result follows keeps cause = absurd follows

pub no_events : (xs ys : List Event) → xs ++ ys ≡ ys → xs ≡ []
no_events [] ys h = refl
no_events (x ∷ xs) ys h = absurd (omega (arith, ap length h, length-append xs ys))

pub going_twice : (own made : List Event) (before : Option Running) → option_map (going_on own) (option_map (going_on made) before) ≡ option_map (going_on (own ++ made)) before
going_twice own made None = refl
going_twice own made (Some r) = ap (λ x. Some (record r { since = x })) (sym (append_assoc own made r.since))

abbrev event_by : ℕ → What → Event
event_by who what = record { who = who; what = what }

-- one step fewer is left after each that goes on
step_fewer : (s t : Seated) → MakesOne (seat_state s) (seat_state t) → (first work after : Work) (n : ℕ) (result : Step) → Lawful t.region.start t.region.past →
    Falls work result after (seat_state t) → LeavesFewer step.Going first work n (file_size (region_after s.region.start s.region.past)) →
    LeavesFewer result first after (n + 1) (file_size (region_after t.region.start t.region.past))
step_fewer s t makes first work after n result lawful falls fewer = go result falls
  where
    size_now : ℕ
    size_now = file_size (region_after t.region.start t.region.past)

    grows : file_size (region_after s.region.start s.region.past) ≤ size_now
    grows =
        let m = moved s t makes in
        subst (λ x. file_size (region_after s.region.start s.region.past) ≤ file_size (region_after x t.region.past)) (sym m.start)
        (subst (λ p. file_size (region_after s.region.start s.region.past) ≤ file_size (region_after s.region.start p)) (sym m.past)
        (file_grows s.region.start (made_by s.who m.own) s.region.past (subst (Lawful s.region.start) m.past (subst (λ x. Lawful x t.region.past) m.start lawful))))

    go : (result : Step) → Falls work result after (seat_state t) → LeavesFewer result first after (n + 1) size_now
    go step.Going falls = λ words fits.
        let less = falls.falls words (omega (arith, falls.met, fits)) in
        omega (arith, less, fewer words (omega (arith, grows, fits)))
    go (step.Blocked holder) same = λ words fits. omega (arith, ap (steps_left words) same, fewer words (omega (arith, grows, fits)))
    go step.Idle falls = tt
    go step.Again falls = tt
    go (step.Answered a) falls = tt
    go (step.Stopped why) falls = tt

-- what was found, and the begin of the call, hold after a step
moved_later : (who : ℕ) (s t : Seated) (makes : MakesOne (seat_state s) (seat_state t)) (work : Work) → (stop_found work ≢ None → TakesNone who (made_by s.who (moved s t makes).own)) →
    FoundIs who work s.region.start s.region.past → FoundIs who work t.region.start t.region.past
moved_later who s t makes work quiet f =
    let m = moved s t makes in
    subst (λ x. FoundIs who work x t.region.past) (sym m.start)
    (subst (λ p. FoundIs who work s.region.start p) (sym m.past) (found_later who work s.region.start (made_by s.who m.own) s.region.past quiet f))

-- a call that runs began after no more changes than there are
abbrev HasBegun : Work → List Event → Type 0
HasBegun (Runs c at) past = c.begun ≤ length (changes_of past)
HasBegun _ past = ⊤

begun_of : (o : OpenerState) (s : Seated) → Tied o (seat_state s) → HasBegun o.work s.region.past
begun_of o s tied = go o.work tied.told.facts.work
  where
    go : (work : Work) → WorkIs o work s.region.start s.region.past → HasBegun work s.region.past
    go Idle is = tt
    go Ended is = tt
    go (Runs c at) is = is.0

begun_later : (s t : Seated) → MakesOne (seat_state s) (seat_state t) → (work : Work) → HasBegun work s.region.past → HasBegun work t.region.past
begun_later s t makes Idle begun = tt
begun_later s t makes Ended begun = tt
begun_later s t makes (Runs c at) begun =
    let m = moved s t makes in
    subst (λ p. c.begun ≤ length (changes_of p)) (sym m.past)
    (omega (arith, begun, ap length (changes_more (made_by s.who m.own) s.region.past), length-append (changes_of s.region.past) (changes_of (made_by s.who m.own))))

module _ (who : ℕ) (s t : Seated) (one : t.who ≡ who) (o o' : OpenerState) where
  -- what a step has found
  step_found : (work : Work) (result : Step) → FoundIs who work t.region.start t.region.past → HasBegun work t.region.past → KeepsWork (record o { work = work }) result o' →
      HasCause work result o'.work (seat_state s) (seat_state t) → Falls work result o'.work (seat_state t) → FoundIs who o'.work t.region.start t.region.past
  step_found Idle result found begun keeps cause falls = subst (λ (x : OpenerState). FoundIs who x.work t.region.start t.region.past) (sym keeps.1) tt
  step_found Ended result found begun keeps cause falls = subst (λ (x : OpenerState). FoundIs who x.work t.region.start t.region.past) (sym keeps.1) tt
  step_found (Runs c at) result found begun keeps cause falls = go result keeps cause falls
    where
      over : (work : Work) → work ≡ Idle → FoundIs who work t.region.start t.region.past
      over work idle = idle_found who work t.region.start t.region.past idle

      go : (result : Step) → KeepsCall o.who o.holds c result o' → HasCause (Runs c at) result o'.work (seat_state s) (seat_state t) → Falls (Runs c at) result o'.work (seat_state t) →
          FoundIs who o'.work t.region.start t.region.past
      go step.Idle keeps cause falls = absurd keeps
      go step.Going keeps cause falls = going_found who c at s t one begun o'.work keeps.0 cause
      go step.Again keeps cause same = subst (λ w. FoundIs who w t.region.start t.region.past) (sym same) found
      go (step.Blocked holder) keeps cause same = subst (λ w. FoundIs who w t.region.start t.region.past) (sym same) found
      go (step.Answered a) keeps cause falls = over o'.work keeps.1
      go (step.Stopped stop.Fault) keeps cause falls = subst (λ w. FoundIs who w t.region.start t.region.past) (sym keeps.0) tt
      go (step.Stopped stop.Memory) keeps cause falls = over o'.work keeps.0
      go (step.Stopped stop.JournalFull) keeps cause falls = over o'.work keeps.0
      go (step.Stopped (stop.NotWhole seen)) keeps cause falls = over o'.work keeps.0
      go (step.Stopped (stop.Version n)) keeps cause falls = over o'.work keeps.0
      go (step.Stopped (stop.Flags n)) keeps cause falls = over o'.work keeps.0
      go (step.Stopped (stop.Full need)) keeps cause falls = over o'.work keeps.0
      go (step.Stopped stop.SequenceEnd) keeps cause falls = over o'.work keeps.0
      go (step.Stopped stop.ExpiryOff) keeps cause falls = over o'.work keeps.0
      go (step.Stopped stop.ExpiryRange) keeps cause falls = over o'.work keeps.0
      go (step.Stopped stop.AlreadyOn) keeps cause falls = over o'.work keeps.0
      go (step.Stopped stop.AlreadyOff) keeps cause falls = over o'.work keeps.0

  -- and what it stopped for
  step_stopped : (work : Work) (result : Step) (made : List Event) (before : Option Running) → FoundIs who work t.region.start t.region.past → HasBegun work t.region.past →
      FollowsWork work (option_map (going_on made) before) → KeepsWork (record o { work = work }) result o' → HasCause work result o'.work (seat_state s) (seat_state t) →
      StoppedIs who result before t.region.start t.region.past
  step_stopped work step.Idle made before found begun follows keeps cause = tt
  step_stopped work step.Going made before found begun follows keeps cause = tt
  step_stopped work step.Again made before found begun follows keeps cause = tt
  step_stopped work (step.Blocked holder) made before found begun follows keeps cause = tt
  step_stopped work (step.Answered a) made before found begun follows keeps cause = tt
  step_stopped work (step.Stopped why) made None found begun follows keeps cause = tt
  step_stopped Idle (step.Stopped why) made (Some r) found begun follows keeps cause = absurd follows
  step_stopped Ended (step.Stopped why) made (Some r) found begun follows keeps cause = absurd follows
  step_stopped (Runs c at) (step.Stopped why) made (Some r) found begun follows keeps cause =
      holds_of_same who why c.call r.call c.now r.now c.begun (length (changes_of r.past)) t.region.start t.region.past (sym follows.call) (sym follows.moment) (sym follows.begun)
      (stopped_holds who c at s t one begun why cause found)

idle_is : (work : Work) → FollowsWork work None → work ≡ Idle
idle_is Idle follows = refl
idle_is Ended follows = absurd follows
idle_is (Runs c at) follows = absurd follows

-- what holds of an opener without a call, and held before the step, holds after it unless the step goes on
over_work : (who : ℕ) (P : Work → Type 0) (work : Work) (past : List Event) (held : ℕ) (r : Option Running) (result : Step) (o : OpenerState) (t : ShareState) → P Idle → P work → (result ≡ step.Going → P o.work) →
    CameTo who past held r result o → Falls work result o.work t → P o.work
over_work who P work past held r step.Going o t idle before going came falls = going refl
over_work who P work past held None step.Idle o t idle before going came falls = subst P (sym (idle_is o.work came.0)) idle
over_work who P work past held (Some r) (step.Blocked holder) o t idle before going came same = subst P (sym same) before
over_work who P work past held (Some r) (step.Answered a) o t idle before going came falls = subst P (sym came.0) idle
over_work who P work past held (Some r) (step.Stopped why) o t idle before going came falls = subst P (sym came.0) idle
over_work who P work past held None step.Again o t idle before going came falls = absurd came
over_work who P work past held None (step.Blocked holder) o t idle before going came falls = absurd came
over_work who P work past held None (step.Answered a) o t idle before going came falls = absurd came
over_work who P work past held None (step.Stopped why) o t idle before going came falls = absurd came
over_work who P work past held (Some r) step.Idle o t idle before going came falls = absurd came
over_work who P work past held (Some r) step.Again o t idle before going came falls = absurd came

-- what a step saw
module _ (who : ℕ) (s t : Seated) (o o' : OpenerState) (tied : Tied o' (seat_state t)) (ok : IsAccepted t.region.start) (steady : s.region.failing.listed ≡ []) where
  going_finds : (work : Work) (result : Step) → result ≡ step.Going → KeepsWork (record o { work = work }) result o' → HasCause work result o'.work (seat_state s) (seat_state t) →
      FoundSaw o'.work t.region.start t.region.past
  going_finds Idle result going keeps cause = let never : step.Going ≡ step.Idle = sym going ∙ keeps.0 in absurd cc
  going_finds Ended result going keeps cause = let never : step.Going ≡ step.Idle = sym going ∙ keeps.0 in absurd cc
  going_finds (Runs c at) result going keeps cause =
      going_saw o' s t c at tied ok steady (subst (λ x. HasCause (Runs c at) x o'.work (seat_state s) (seat_state t)) going cause)

  step_saw : (work : Work) (held : ℕ) (r : Option Running) (result : Step) → FoundSaw work t.region.start t.region.past → CameTo who t.region.past held r result o' →
      KeepsWork (record o { work = work }) result o' → HasCause work result o'.work (seat_state s) (seat_state t) → Falls work result o'.work (seat_state t) →
      FoundSaw o'.work t.region.start t.region.past
  step_saw work held r result saw came keeps cause falls =
      over_work who (λ w. FoundSaw w t.region.start t.region.past) work t.region.past held r result o' (seat_state t) tt saw (λ going. going_finds work result going keeps cause) came falls

  step_stopped_saw : (work : Work) (own made : List Event) (held : ℕ) (r : Option Running) (result : Step) → FoundSaw work t.region.start t.region.past →
      FollowsWork work (option_map (going_on made) r) → CameTo who t.region.past held (option_map (going_on own) (option_map (going_on made) r)) result o' →
      HasCause work result o'.work (seat_state s) (seat_state t) → StoppedSaw result t.region.start t.region.past
  step_stopped_saw work own made held r step.Idle saw follows came cause = tt
  step_stopped_saw work own made held r step.Going saw follows came cause = tt
  step_stopped_saw work own made held r step.Again saw follows came cause = tt
  step_stopped_saw work own made held r (step.Blocked holder) saw follows came cause = tt
  step_stopped_saw work own made held r (step.Answered a) saw follows came cause = tt
  step_stopped_saw work own made held None (step.Stopped why) saw follows came cause = absurd came
  step_stopped_saw Idle own made held (Some r) (step.Stopped why) saw follows came cause = absurd follows
  step_stopped_saw Ended own made held (Some r) (step.Stopped why) saw follows came cause = absurd follows
  step_stopped_saw (Runs c at) own made held (Some r) (step.Stopped why) saw follows came cause =
      stopped_saw o' s t tied ok c at (stop_found (Runs c at)) why steady saw cause

saw_moved : (s t : Seated) → MakesOne (seat_state s) (seat_state t) → (work : Work) → FoundSaw work s.region.start s.region.past → FoundSaw work t.region.start t.region.past
saw_moved s t makes work f =
    let m = moved s t makes in
    subst (λ x. FoundSaw work x t.region.past) (sym m.start)
    (subst (λ p. FoundSaw work s.region.start p) (sym m.past) (saw_still work s.region.start (made_by s.who m.own) s.region.past f))

-- what a step counts
counted_at : (who : ℕ) (s t : Seated) → s.who ≡ who → (makes : MakesOne (seat_state s) (seat_state t)) → Lawful t.region.start t.region.past → (result : Step) (work after : Work) →
    AddsTo who work result after (seat_state s) (seat_state t) → CountedAt work (made_by who (moved s t makes).own) result after
counted_at who s t one makes lawful result Idle after adds = tt
counted_at who s t one makes lawful result Ended after adds = tt
counted_at who s t one makes lawful result (Runs c at) after adds =
    let m = moved s t makes in
    let is : t.region.past ≡ made_by s.who adds.own ++ s.region.past = adds.grows.past ∙ ap (λ x. made_by s.who adds.own ++ (x ++ s.region.past)) (adds.grows.none refl) in
    let events : made_by s.who adds.own ≡ made_by s.who m.own = append_cancel_right (made_by s.who adds.own) (made_by s.who m.own) s.region.past (sym is ∙ m.past) in
    let locks : locks_taken (lock_after s.region.past s.who) (lock_after t.region.past t.who) ≡ locks_among (made_by s.who m.own) =
    ap (λ p. locks_taken (lock_after s.region.past s.who) (lock_after p t.who)) m.past ∙ ap (λ w. locks_taken (lock_after s.region.past s.who) (lock_after (made_by s.who m.own ++ s.region.past) w)) m.who
    ∙ own_locks s.region.start s.region.past s.who m.own m.few (subst (Lawful s.region.start) m.past (subst (λ x. Lawful x t.region.past) m.start lawful)) in
    record {
      loads = adds.loads;
      stores = stores_in adds.own;
      locks = locks_taken (seat_state s).holds (seat_state t).holds;
      counts = adds.counts;
      few = omega (arith, m.few, length-map m.own (event_by who));
      stores_are = stores_of_own s.who adds.own ∙ ap stores_among events ∙ ap (λ w. stores_among (made_by w m.own)) one;
      locks_are = locks ∙ ap (λ w. locks_among (made_by w m.own)) one;
    }

-- the stores of a step are those of its events
stores_made : (who : ℕ) (s t : Seated) → s.who ≡ who → (makes : MakesOne (seat_state s) (seat_state t)) (own : List What) → made_by s.who own ++ s.region.past ≡ t.region.past →
    stores_among (made_by who (moved s t makes).own) ≡ stores_in own
stores_made who s t one makes own is =
    let m = moved s t makes in
    let events : made_by s.who own ≡ made_by s.who m.own = append_cancel_right (made_by s.who own) (made_by s.who m.own) s.region.past (is ∙ m.past) in
    sym (stores_of_own s.who own ∙ ap stores_among events ∙ ap (λ w. stores_among (made_by w m.own)) one)

-- and so are its marks
commits_made : (who : ℕ) (s t : Seated) → s.who ≡ who → (makes : MakesOne (seat_state s) (seat_state t)) (own : List What) → made_by s.who own ++ s.region.past ≡ t.region.past →
    commits_of own ≡ changes_of (made_by who (moved s t makes).own)
commits_made who s t one makes own is =
    let m = moved s t makes in
    let events : made_by s.who own ≡ made_by s.who m.own = append_cancel_right (made_by s.who own) (made_by s.who m.own) s.region.past (is ∙ m.past) in
    let few : length own ≤ 1 = omega (arith, m.few, ap length events, length-map own (event_by s.who), length-map m.own (event_by s.who)) in
    commits_few s.who own few ∙ ap changes_of events ∙ ap (λ w. changes_of (made_by w m.own)) one

-- One step more.
module _ (who opened : ℕ) (start : Region) (past : List Event) (held : ℕ) (before : Option Running) (first : Work) (n : ℕ) (made : List Event) (o o' : OpenerState) (old new : WorldState) (result : Step)
    (sound : IsSound new) (all : opened ≡ length new.openers) (st : Stepped who opened start past held before first n step.Going made o (seat_at who old.region))
    (tied : Tied o (share_of old.region who)) (tied' : Tied o' (share_of new.region who)) (steps : Steps who o o' result old new) where
  abbrev s : Seated
  s = seat_at who old.region

  abbrev t : Seated
  t = seat_at who new.region

  abbrev m : Moved s t
  m = moved s t steps.makes

  abbrev pub own : List Event
  own = made_by who m.own

  grown : t.region.past ≡ own ++ s.region.past
  grown = m.past

  open_now : IsOpenTo opened new.region
  open_now w least = m.admitted w ∙ st.open_to w least

  adds : AddsTo who o.work result o'.work (seat_state s) (seat_state t)
  adds = subst (λ w. AddsTo w o.work result o'.work (seat_state s) (seat_state t)) st.number steps.adds

  abbrev goes_by : Option Running
  goes_by = option_map (going_on own) (option_map (going_on made) before)

  came : CameTo who t.region.past held goes_by result o'
  came =
      step_came who s t refl st.steady tied'.told.agrees.lawful o o' o.work (option_map (going_on made) before) own held result st.number st.came.1 tied.at tied.holds st.came.0
      (counted_at who s t refl steps.makes tied'.told.agrees.lawful result o.work o'.work adds) steps.call steps.cause steps.answer

  alive : has_died (own ++ s.region.past) who ≡ false
  alive =
      sym (ap (λ x. has_died x who) grown)
      ∙ right_false (not (account_of t.region.accounts t.who).admitted) (has_died t.region.past t.who) (tied'.ended ∙ came_alive who t.region.past held goes_by result o' came)

  pub lives_on : is_ended o'.work ≡ false
  lives_on = came_alive who t.region.past held goes_by result o' came

  own_are : AreSteps who own
  own_are = own_steps who m.own s.region.past alive

  begun_now : HasBegun o.work t.region.past
  begun_now = begun_later s t steps.makes o.work (begun_of o s tied)

  quiet : stop_found o.work ≢ None → TakesNone who own
  quiet = found_quiet o s.region.start s.region.past who m.own m.few (subst (Lawful s.region.start) grown (subst (λ x. Lawful x t.region.past) m.start tied'.told.agrees.lawful)) tied.at tied.holds

  -- a call that found no places had made these events
  met_full : (seat_state t).reserved who ≡ 0 → (count : ℕ) → n + 1 ≤ count → (work : Work) (b : Option Running) → before ≡ b → (result ≡ step.Idle → ⊥) → (seat_state s).holds ≡ lock_in o.holds work → IsAt o work →
      FollowsWork work (option_map (going_on made) b) → KeepsWork (record o { work = work }) result o' → HasReason work stop.JournalFull (seat_state s) (seat_state t) → MetFull who opened start past before count
  met_full none count below Idle b is busy holds at follows keeps reason = absurd (busy keeps.0)
  met_full none count below Ended b is busy holds at follows keeps reason = absurd (busy keeps.0)
  met_full none count below (Runs c at) None is busy holds is_at follows keeps reason = absurd follows
  met_full none count below (Runs c at) (Some r) is busy holds is_at follows keeps reason =
      let f = found_none who o c at r s t refl refl holds is_at follows.call follows.moment reason in
      let grows = f.stays.after.told in
      let here : t.region.start ≡ start = grows.start ∙ st.start_is in
      let same : t.region.past ≡ made ++ past = grows.past ∙ ap (λ x. x ++ s.region.past) (grows.none refl) ∙ st.past_is in
      let full : IsTooFull opened t.region.past f.asked = too_full new sound opened open_now all f.asked (λ v. nobody f.asked f.asks v (eqb_tells v.number who)) f.full in
      record {
        call = r;
        runs = is;
        made = made;
        few = omega (arith, st.few, below);
        own = st.own;
        asked = f.asked;
        asks = subst (λ x. AsksFor x who r (made ++ past) f.asked) here (subst (λ p. AsksFor t.region.start who r p f.asked) same f.asks);
        full = subst (λ p. IsTooFull opened p f.asked) same full;
      }
    where
      nobody : (asked : ℕ) → AsksFor t.region.start who r t.region.past asked → (v : Reserver new sound opened open_now all) →
          ((eqb v.number who ≡ true) × (v.number ≡ who)) ⊎ ((eqb v.number who ≡ false) × (v.number ≢ who)) → ⊥
      nobody asked asks v (inl same) = let some : 0 < (seat_state t).reserved who = subst (λ w. 0 < (seat_state t).reserved w) same.1 v.some in absurd (omega (arith, some, none))
      nobody asked asks v (inr apart) = alone_asks t.region.start who asked r t.region.past asks v.number apart.1 v.holds

  step_full : (count : ℕ) → n + 1 ≤ count → (r : Option Running) (result' : Step) → result ≡ result' → CameTo who t.region.past held r result' o' → StoppedFull who opened result' start past before count
  step_full count below r step.Idle is came = tt
  step_full count below r step.Going is came = tt
  step_full count below r step.Again is came = tt
  step_full count below r (step.Blocked holder) is came = tt
  step_full count below r (step.Answered a) is came = tt
  step_full count below None (step.Stopped stop.JournalFull) is came = absurd came
  step_full count below (Some r) (step.Stopped stop.JournalFull) is came =
      met_full (subst (λ w. Owes o' w (seat_state t)) came.0 tied'.owes) count below o.work before refl (λ e. let both : step.Stopped stop.JournalFull ≡ step.Idle = sym is ∙ e in absurd cc) tied.holds tied.at st.came.0 steps.call
      (reason_now (stop_found o.work) o.work (seat_state s) (seat_state t) st.unfull (subst (λ x. HasCause o.work x o'.work (seat_state s) (seat_state t)) is steps.cause))
  step_full count below r (step.Stopped stop.Fault) is came = tt
  step_full count below r (step.Stopped stop.Memory) is came = tt
  step_full count below r (step.Stopped (stop.NotWhole seen)) is came = tt
  step_full count below r (step.Stopped (stop.Version v)) is came = tt
  step_full count below r (step.Stopped (stop.Flags v)) is came = tt
  step_full count below r (step.Stopped (stop.Full need)) is came = tt
  step_full count below r (step.Stopped stop.SequenceEnd) is came = tt
  step_full count below r (step.Stopped stop.ExpiryOff) is came = tt
  step_full count below r (step.Stopped stop.ExpiryRange) is came = tt
  step_full count below r (step.Stopped stop.AlreadyOn) is came = tt
  step_full count below r (step.Stopped stop.AlreadyOff) is came = tt

  pub one_more : (result ≡ step.Going → IsUnfull o'.work) → Stepped who opened start past held before first (n + 1) result (own ++ made) o' t
  one_more unfull =
      record {
        few = omega (arith, length-append own made, length-map m.own (event_by who), m.few, st.few);
        own = steps_join who own made own_are st.own;
        idle = λ none. let still : t.region.past ≡ s.region.past = idle_makes_none s t o o' o.work result (subst (λ b. FollowsWork o.work (option_map (going_on made) b)) none st.came.0) steps.call steps.cause in
            ap (λ x. x ++ made) (no_events own s.region.past (sym grown ∙ still)) ∙ st.idle none;
        number = sym tied'.who;
        seat = refl;
        start_is = m.start ∙ st.start_is;
        past_is = grown ∙ ap (λ x. own ++ x) st.past_is ∙ sym (append_assoc own made past);
        steady = m.listed ∙ st.steady;
        answer = steps.answer;
        came = subst (λ r. CameTo who t.region.past held r result o') (going_twice own made before) came;
        fewer = step_fewer s t steps.makes first o.work o'.work n result tied'.told.agrees.lawful steps.falls st.fewer;
        found = step_found who s t refl o o' o.work result (moved_later who s t steps.makes o.work quiet st.found) begun_now steps.call steps.cause steps.falls;
        stopped = step_stopped who s t refl o o' o.work result made before (moved_later who s t steps.makes o.work quiet st.found) begun_now st.came.0 steps.call steps.cause;
        open_to = open_now;
        saw = step_saw who s t o o' tied' sound.accepted st.steady o.work held goes_by result (saw_moved s t steps.makes o.work st.saw) came steps.call steps.cause steps.falls;
        stopped_saw = step_stopped_saw who s t o o' tied' sound.accepted st.steady o.work own made held before result (saw_moved s t steps.makes o.work st.saw) st.came.0 came steps.cause;
        unfull = over_work who IsUnfull o.work t.region.past held goes_by result o' (seat_state t) (λ e. absurd cc) st.unfull unfull came steps.falls;
        stored = subst (HasStored result o'.work) (going_twice own made before)
            (step_stored who s t o.work o'.work result (option_map (going_on made) before) own st.came.0 adds (λ whats is. stores_made who s t refl steps.makes whats is) st.stored);
        marked = subst (HasMarked who result o'.work) (going_twice own made before)
            (step_marked who s t o.work o'.work result (option_map (going_on made) before) own st.came.0 adds (λ whats is. commits_made who s t refl steps.makes whats is) st.marked);
        full = step_full (n + 1) (omega arith) goes_by result refl came;
      }

  -- a step that goes on, but has found no places for what it wants
  pub full_met : (count : ℕ) → n + 1 ≤ count → result ≡ step.Going → stop_found o'.work ≡ Some stop.JournalFull → MetFull who opened start past before count
  full_met count below going found =
      met_full ((at_stop o' o'.work (seat_state t) stop.JournalFull found).1 tied'.owes) count below o.work before refl (λ e. let both : step.Going ≡ step.Idle = sym going ∙ e in absurd cc) tied.holds tied.at st.came.0 steps.call
      (subst (λ x. IfSome x (λ why. HasReason o.work why (seat_state s) (seat_state t))) found (subst (λ x. HasCause o.work x o'.work (seat_state s) (seat_state t)) going steps.cause))

-- so many steps at most
pub at_most : (who opened : ℕ) (start : Region) (past : List Event) (held : ℕ) (before : Option Running) (first : Work) (n count : ℕ) (result : Step) (made : List Event) (o : OpenerState) (s : Seated) →
    n ≤ count → (result ≡ step.Going → n ≡ count) → Stepped who opened start past held before first n result made o s → Stepped who opened start past held before first count result made o s
at_most who opened start past held before first n count result made o s below all st =
    record {
      few = omega (arith, st.few, below);
      own = st.own;
      idle = st.idle;
      number = st.number;
      seat = st.seat;
      start_is = st.start_is;
      past_is = st.past_is;
      steady = st.steady;
      answer = st.answer;
      came = st.came;
      fewer = go result all st.fewer;
      found = st.found;
      stopped = st.stopped;
      open_to = st.open_to;
      saw = st.saw;
      stopped_saw = st.stopped_saw;
      unfull = st.unfull;
      full = met_by result st.full;
      stored = st.stored;
      marked = st.marked;
    }
  where
    met_by : (last : Step) → StoppedFull who opened last start past before n → StoppedFull who opened last start past before count
    met_by step.Idle full = tt
    met_by step.Going full = tt
    met_by step.Again full = tt
    met_by (step.Blocked holder) full = tt
    met_by (step.Answered a) full = tt
    met_by (step.Stopped stop.JournalFull) f =
        record { call = f.call; runs = f.runs; made = f.made; few = omega (arith, f.few, below); own = f.own; asked = f.asked; asks = f.asks; full = f.full }
    met_by (step.Stopped stop.Fault) full = tt
    met_by (step.Stopped stop.Memory) full = tt
    met_by (step.Stopped (stop.NotWhole seen)) full = tt
    met_by (step.Stopped (stop.Version v)) full = tt
    met_by (step.Stopped (stop.Flags v)) full = tt
    met_by (step.Stopped (stop.Full need)) full = tt
    met_by (step.Stopped stop.SequenceEnd) full = tt
    met_by (step.Stopped stop.ExpiryOff) full = tt
    met_by (step.Stopped stop.ExpiryRange) full = tt
    met_by (step.Stopped stop.AlreadyOn) full = tt
    met_by (step.Stopped stop.AlreadyOff) full = tt

    size_now : ℕ
    size_now = file_size (region_after s.region.start s.region.past)

    go : (last : Step) → (last ≡ step.Going → n ≡ count) → LeavesFewer last first o.work n size_now → LeavesFewer last first o.work count size_now
    go step.Going all fewer = λ words fits. omega (arith, fewer words fits, all refl)
    go (step.Blocked holder) all fewer = fewer
    go step.Idle all fewer = tt
    go step.Again all fewer = tt
    go (step.Answered a) all fewer = tt
    go (step.Stopped why) all fewer = tt
