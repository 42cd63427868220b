-- What a call has marked, line by line, and that nobody marks anything under another's hold.
use Rattle.std.proofs.Common.{◌≡◌, ◌≢◌, ℕ, ◌≤◌, List, [], ◌∷◌, ◌++◌, length, refl, sym, ap, ◌∙◌, arith, subst, append-nil, length-append}
use Rattle.std.proofs.lemmas.List.Elements.{All-append, All-cons, All-nil}
use Rattle.std.specs.Prelude.{All, Option, Some, None, option_and_then, option_map}
use Rattle.change_log.specs.Settled.{AreBegun, AreOfCall}
use Rattle.change_log.specs.declared.call.Call.{Call as Asked}
use Rattle.change_log.specs.declared.change.Change.{Change}
use Rattle.lock_rules.specs.Locks.{Locks}
use Rattle.lock_rules.specs.declared.table.LockKind.TheVariants.{Exclusive}
use Rattle.opener.specs.Adds.{AddsTo, AreMade, AreMadeBy}
use Rattle.opener.specs.Begins.{Begins, begun_at}
use Rattle.opener.specs.State.{OpenerState}
use Rattle.opener.specs.Writes.{commits_of}
use Rattle.opener.specs.declared.calls.Step.{Step}
use Rattle.opener.specs.declared.calls.Step.TheVariants as step
use Rattle.opener.specs.declared.calls.Stop.{Stop}
use Rattle.opener.specs.declared.calls.Stop.TheVariants as stop
use Rattle.opener.specs.declared.work.Running.{Running as Call}
use Rattle.opener.specs.declared.work.Work.{Work}
use Rattle.opener.specs.declared.work.Work.TheVariants.{Ended, Idle, Runs}
use Rattle.opener.proofs.Added.{made_first}
use Rattle.opener.proofs.Carry.{exclusive_some, still_held}
use Rattle.region_words.specs.Lawful.{IsPossible, Lawful}
use Rattle.region_words.specs.Local.{Seated, lock_after, seat_state}
use Rattle.region_words.specs.Past.{AreSteps, NoneOf, change_of, changes_of, locks_after, region_after}
use Rattle.region_words.specs.Region.{Region}
use Rattle.region_words.specs.Share.{made_by}
use Rattle.region_words.specs.declared.event.Event.{Event}
use Rattle.region_words.specs.declared.event.Mark.TheVariants.{Plain, Commit}
use Rattle.region_words.specs.declared.event.What.{What}
use Rattle.region_words.specs.declared.event.What.TheVariants.{Store, Grow, Lock, Unlock, Died}
use Rattle.region_words.proofs.ReadLaws.{changes_more}
use Rattle.script_lang.specs.declared.outcome.Outcome.{Outcome}
use Rattle.script_lang.specs.declared.outcome.Reason.{Reason}
use Rattle.script_lang.specs.Parts.{Running, going_on, stepped}
use Rattle.script_lang.specs.Played.{AreMarks, reason_said}
use Rattle.mmkv_top.specs.Progress.{CameTo, FollowsWork, HasMarked, IsOutcomeAt}
use Rattle.mmkv_top.proofs.Reasoning.{first_at}

-- the changes of an opener's one event
pub commits_few : (who : ℕ) (own : List What) → length own ≤ 1 → commits_of own ≡ changes_of (made_by who own)
commits_few who [] few = refl
commits_few who (x ∷ []) few = append-nil (change_of x)
commits_few who (x ∷ y ∷ own) few = absurd (omega (arith, few))

-- after a step of a call, whose events were these
pub step_marked : (who : ℕ) (s t : Seated) (work after : Work) (result : Step) (r : Option Running) (events : List Event) → FollowsWork work r → AddsTo who work result after (seat_state s) (seat_state t) →
    ((own : List What) → made_by s.who own ++ s.region.past ≡ t.region.past → commits_of own ≡ changes_of events) →
    HasMarked who step.Going work r → HasMarked who result after (option_map (going_on events) r)
step_marked who s t work after result None events follows adds same marked = tt
step_marked who s t Idle after result (Some r) events follows adds same marked = absurd follows
step_marked who s t Ended after result (Some r) events follows adds same marked = absurd follows
step_marked who s t (Runs c at) after result (Some r) events follows adds same marked =
    let made = same adds.own (sym (adds.grows.past ∙ ap (λ x. made_by s.who adds.own ++ (x ++ s.region.past)) (adds.grows.none refl))) in
    let all : changes_of r.since ++ commits_of adds.own ≡ changes_of (events ++ r.since) = ap (λ x. changes_of r.since ++ x) made ∙ sym (changes_more events r.since) in
    (c, follows.call, follows.moment, subst (AreMadeBy who c result after) all (adds.made (changes_of r.since) marked.3))

-- nothing at its begin
begun_unmade : (who : ℕ) (asked : Asked) (now n : ℕ) (old new : OpenerState) → Begins asked now n old new → AreMade who new.work []
begun_unmade who asked now n old new begins =
    subst (λ (x : OpenerState). AreMade who x.work []) (sym begins.work)
    (first_at (λ next. AreMade who (Runs (begun_at asked now n) next) []) refl refl refl refl refl (λ loading. refl) asked old.image old.holds begins.next begins.first)

pub begun_marked : (who : ℕ) (asked : Asked) (now n : ℕ) (old new : OpenerState) (r : Running) → Begins asked now n old new → r.call ≡ asked → r.now ≡ now → r.since ≡ [] → HasMarked who step.Going new.work (Some r)
begun_marked who asked now n old new r begins call moment none =
    (begun_at asked now n, sym call, sym moment, subst (λ since. AreMade who new.work (changes_of since)) (sym none) (begun_unmade who asked now n old new begins))

-- a call that runs has changed the first part of what it makes
runs_begun : (who : ℕ) (work : Work) (r : Running) → FollowsWork work (Some r) → AreMade who work (changes_of r.since) → AreBegun who r.call r.now (changes_of r.since)
runs_begun who Idle r follows made = absurd follows
runs_begun who Ended r follows made = absurd follows
runs_begun who (Runs c at) r follows made =
    subst (λ x. AreBegun who x r.now (changes_of r.since)) follows.call (subst (λ n. AreBegun who c.call n (changes_of r.since)) follows.moment (made_first who c at (changes_of r.since) made))

stops_unmarked : (who : ℕ) (c : Call) (why : Stop) (said : Reason) (work : Work) (made : List Change) → reason_said why ≡ Some said → AreMadeBy who c (step.Stopped why) work made → made ≡ []
stops_unmarked who c (stop.Full need) said work made is none = none
stops_unmarked who c stop.SequenceEnd said work made is none = none
stops_unmarked who c stop.ExpiryOff said work made is none = none
stops_unmarked who c stop.ExpiryRange said work made is none = none
stops_unmarked who c stop.AlreadyOn said work made is none = none
stops_unmarked who c stop.AlreadyOff said work made is none = none
stops_unmarked who c stop.Fault said work made is none = absurd cc
stops_unmarked who c stop.Memory said work made is none = absurd cc
stops_unmarked who c stop.JournalFull said work made is none = absurd cc
stops_unmarked who c (stop.NotWhole seen) said work made is none = absurd cc
stops_unmarked who c (stop.Version n) said work made is none = absurd cc
stops_unmarked who c (stop.Flags n) said work made is none = absurd cc

-- the marks of a line
abbrev pub MarksLine : ℕ → List Event → Option Running → Option Outcome → Type 0
MarksLine who made None outcome = outcome ≡ None
MarksLine who made (Some r) outcome = AreMarks who (going_on made r) outcome

pub line_marks : (who : ℕ) (past made : List Event) (held : ℕ) (r : Option Running) (last : Step) (o : OpenerState) (outcome : Option Outcome) → CameTo who past held (option_map (going_on made) r) last o →
    IsOutcomeAt who last outcome → HasMarked who last o.work (option_map (going_on made) r) → MarksLine who made r outcome
line_marks who past made held None step.Going o outcome came at marked = at
line_marks who past made held None step.Idle o outcome came at marked = at
line_marks who past made held (Some r) step.Going o outcome came at marked = subst (AreMarks who (going_on made r)) (sym at) (runs_begun who o.work (going_on made r) came.0 marked.3)
line_marks who past made held (Some r) (step.Blocked holder) o outcome came at marked = subst (AreMarks who (going_on made r)) (sym at) (runs_begun who o.work (going_on made r) came.0 marked.3)
line_marks who past made held (Some r) (step.Answered a) o outcome came at marked =
    subst (AreMarks who (going_on made r)) (sym at)
    (subst (λ x. AreOfCall who x r.now (changes_of (made ++ r.since))) marked.1 (subst (λ n. AreOfCall who marked.0.call n (changes_of (made ++ r.since))) marked.2 marked.3))
line_marks who past made held (Some r) (step.Stopped why) o outcome came at marked =
    subst (AreMarks who (going_on made r)) (sym at.1) (stops_unmarked who marked.0 why at.0 o.work (changes_of (made ++ r.since)) at.2 marked.3)
line_marks who past made held None step.Again o outcome came at marked = absurd came
line_marks who past made held None (step.Blocked holder) o outcome came at marked = absurd came
line_marks who past made held None (step.Answered a) o outcome came at marked = absurd came
line_marks who past made held None (step.Stopped why) o outcome came at marked = absurd came
line_marks who past made held (Some r) step.Idle o outcome came at marked = absurd came
line_marks who past made held (Some r) step.Again o outcome came at marked = absurd came

-- what a call has marked after a line
pub line_marked : (who : ℕ) (past : List Event) (held : ℕ) (r : Option Running) (last : Step) (o : OpenerState) (outcome : Option Outcome) → CameTo who past held r last o → IsOutcomeAt who last outcome →
    HasMarked who last o.work r → HasMarked who step.Going o.work (option_and_then (stepped outcome) r)
line_marked who past held None step.Going o outcome came at marked = tt
line_marked who past held (Some r) step.Going o outcome came at marked = subst (λ x. HasMarked who step.Going o.work (option_and_then (stepped x) (Some r))) (sym at) marked
line_marked who past held None step.Idle o outcome came at marked = tt
line_marked who past held (Some r) (step.Blocked holder) o outcome came at marked = subst (λ x. HasMarked who step.Going o.work (option_and_then (stepped x) (Some r))) (sym at) marked
line_marked who past held (Some r) (step.Answered a) o outcome came at marked = subst (λ x. HasMarked who step.Going o.work (option_and_then (stepped x) (Some r))) (sym at) tt
line_marked who past held (Some r) (step.Stopped why) o outcome came at marked = subst (λ x. HasMarked who step.Going o.work (option_and_then (stepped x) (Some r))) (sym at.1) tt
line_marked who past held None step.Again o outcome came at marked = absurd came
line_marked who past held None (step.Blocked holder) o outcome came at marked = absurd came
line_marked who past held None (step.Answered a) o outcome came at marked = absurd came
line_marked who past held None (step.Stopped why) o outcome came at marked = absurd came
line_marked who past held (Some r) step.Idle o outcome came at marked = absurd came
line_marked who past held (Some r) step.Again o outcome came at marked = absurd came

-- The marks of an opener's own steps are its own,
abbrev IsBy : ℕ → Change → Type 0
IsBy who c = c.maker ≡ who

one_mark : (r : Region) (locks : Locks) (maker who : ℕ) (what : What) → maker ≡ who → IsPossible r locks maker what → All (IsBy who) (change_of what)
one_mark r locks maker who (Store side word value Plain) own may = All-nil (IsBy who)
one_mark r locks maker who (Store side word value (Commit c)) own may = All-cons (IsBy who) c [] (may.4 ∙ own) (All-nil (IsBy who))
one_mark r locks maker who (Grow size) own may = All-nil (IsBy who)
one_mark r locks maker who (Lock kind) own may = All-nil (IsBy who)
one_mark r locks maker who Unlock own may = All-nil (IsBy who)
one_mark r locks maker who (Died torn) own may = All-nil (IsBy who)

pub own_marks : (start : Region) (made past : List Event) (who : ℕ) → Lawful start (made ++ past) → AreSteps who made → All (IsBy who) (changes_of made)
own_marks start [] past who lawful own = All-nil (IsBy who)
own_marks start (e ∷ made) past who lawful own =
    All-append (IsBy who) (changes_of made) (change_of e.what) (own_marks start made past who lawful.0 own.1)
    (one_mark (region_after start (made ++ past)) (locks_after (made ++ past)) e.who who e.what own.0.0 lawful.1.possible)

others_are : (maker who : ℕ) (made : List Event) → maker ≢ who → AreSteps maker made → NoneOf who made
others_are maker who [] n own = tt
others_are maker who (e ∷ made) n own = ((λ same. n (sym own.0.0 ∙ same)), others_are maker who made n own.1)

-- and under another's lock there are none
no_more : (xs ys : List Change) → xs ++ ys ≡ xs → ys ≡ []
no_more xs ys same = none ys (omega (arith, length-append xs ys, ap length same))
  where
    none : (ys : List Change) → length ys ≡ 0 → ys ≡ []
    none [] e = refl
    none (y ∷ ys) e = absurd (omega (arith, e))

pub none_marked : (start : Region) (made past : List Event) (maker who : ℕ) → Lawful start (made ++ past) → maker ≢ who → AreSteps maker made → lock_after past who ≡ Some Exclusive → changes_of made ≡ []
none_marked start made past maker who lawful apart own held =
    no_more (changes_of past) (changes_of made)
    (sym (changes_more made past) ∙ (still_held start made past who (Some Exclusive) lawful (others_are maker who made apart own) held (exclusive_some (Some Exclusive) refl)).1)
