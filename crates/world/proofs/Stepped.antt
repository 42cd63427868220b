-- A world after a move of one of its openers.
use Rattle.std.proofs.Common.{◌≡◌, ◌≢◌, ℕ, ◌+◌, ◌-◌, ◌<◌, ◌≤◌, ◌⊎◌, true, false, eqb, List, [], ◌∷◌, ◌++◌, length, set, refl, sym, ap, ◌∙◌, inl, inr, subst, arith, append-nil, length-append}
use Rattle.std.specs.Prelude.{Some, All, slice_get}
use Rattle.std.proofs.lemmas.Bool.Decides.{eqb_tells}
use Rattle.std.proofs.lemmas.List.{length-set}
use Rattle.std.proofs.lemmas.List.Elements.{All-append, All-cons, All-nil, All-weaker}
use Rattle.std.proofs.lemmas.Option.{slice_get_within}
use Rattle.change_log.specs.EachCaller.{answers_of}
use Rattle.change_log.specs.declared.call.Answer.{Answer}
use Rattle.change_log.specs.Settled.{NoneBy}
use Rattle.region_words.specs.Region.{IsAccepted}
use Rattle.region_words.specs.Lawful.{Lawful}
use Rattle.region_words.specs.Local.{Local, lock_after, with_account}
use Rattle.region_words.specs.Past.{NoneOf, changes_of}
use Rattle.region_words.specs.Region.{Region}
use Rattle.region_words.specs.Share.{unlock_place}
use Rattle.region_words.specs.declared.account.Account.{Account}
use Rattle.region_words.specs.declared.event.Event.{Event}
use Rattle.region_words.proofs.Accounts.{other_account}
use Rattle.opener.specs.Fresh.{CountedBy, CountsSoFar}
use Rattle.opener.specs.Opener.{KeepsCall, KeepsWork, MakesOne, Tied}
use Rattle.opener.specs.Settles.{AreSettled, BeginsSettled, Settles, answers_by}
use Rattle.opener.specs.State.{OpenerState}
use Rattle.opener.specs.Steps.{OnRunning}
use Rattle.opener.specs.declared.calls.Step.{Step}
use Rattle.opener.specs.declared.calls.Step.TheVariants as step
use Rattle.opener.specs.declared.calls.Stop.{Stop}
use Rattle.opener.specs.declared.calls.Stop.TheVariants as stop
use Rattle.opener.specs.declared.work.Running.{Running}
use Rattle.opener.specs.declared.work.Work.{Work}
use Rattle.opener.specs.declared.work.Work.TheVariants.{Idle, Ended, Runs}
use Rattle.opener.proofs.Settles.{first_settles, none_by_others}
use Rattle.world.specs.World.{IsUnused, IsWorld, OpenerIs, calls_running, history_of, runs_call, share_of}
use Rattle.world.specs.Moves.{new_opener}
use Rattle.world.proofs.Numbered.{AnswersOf, fewer_run, none_more, one_fewer_runs, others_answers, own_answers, pushed_is, set_elsewhere, set_is}
use Rattle.world.proofs.Stays.{Stays, agrees_with, opener_later, stays_by}

-- The work of an opener by its cases.
pub at_work : (o next : OpenerState) (came : Step) (work : Work) → o.work ≡ work → KeepsWork o came next → KeepsWork (record o { work = work }) came next
at_work o next came work is keeps = subst (λ w. KeepsWork (record o { work = w }) came next) is keeps

-- a step answers for the opener that made it
pub answers_for : (o next : OpenerState) (came : Step) (work : Work) → o.work ≡ work → KeepsWork o came next → AnswersOf o.who came
answers_for o next came Idle is keeps = subst (AnswersOf o.who) (sym (at_work o next came Idle is keeps).0) tt
answers_for o next came Ended is keeps = subst (AnswersOf o.who) (sym (at_work o next came Ended is keeps).0) tt
answers_for o next came (Runs running stage) is keeps = go came (at_work o next came (Runs running stage) is keeps)
  where
    go : (s : Step) → KeepsCall o.who o.holds running s next → AnswersOf o.who s
    go (step.Answered a) k = k.0.by
    go step.Idle k = tt
    go step.Going k = tt
    go step.Again k = tt
    go (step.Blocked holder) k = tt
    go (step.Stopped why) k = tt

-- an answer ends its call, and no step begins one
abbrev pub EndsOrStays : OpenerState → OpenerState → Step → Type 0
EndsOrStays o next (step.Answered a) = (runs_call o.work ≡ true) × (runs_call next.work ≡ false)
EndsOrStays o next _ = runs_call o.work ≡ false → runs_call next.work ≡ false

stays_idle : (o next : OpenerState) (came : Step) → came ≡ step.Idle → (runs_call o.work ≡ false → runs_call next.work ≡ false) → EndsOrStays o next came
stays_idle o next came is idle = subst (EndsOrStays o next) (sym is) idle

pub ends_or_stays : (o next : OpenerState) (came : Step) (work : Work) → o.work ≡ work → KeepsWork o came next → EndsOrStays o next came
ends_or_stays o next came Idle is keeps =
    let k = at_work o next came Idle is keeps in stays_idle o next came k.0 (λ idle. ap (λ (p : OpenerState). runs_call p.work) k.1)
ends_or_stays o next came Ended is keeps =
    let k = at_work o next came Ended is keeps in stays_idle o next came k.0 (λ idle. ap (λ (p : OpenerState). runs_call p.work) k.1)
ends_or_stays o next came (Runs running stage) is keeps = go came (at_work o next came (Runs running stage) is keeps)
  where
    ran : runs_call o.work ≡ true
    ran = ap runs_call is

    not_idle : runs_call o.work ≡ false → runs_call next.work ≡ false
    not_idle idle = let both = sym ran ∙ idle in absurd cc

    go : (s : Step) → KeepsCall o.who o.holds running s next → EndsOrStays o next s
    go (step.Answered a) k = (ran, ap runs_call k.1)
    go step.Idle k = not_idle
    go step.Going k = not_idle
    go step.Again k = not_idle
    go (step.Blocked holder) k = not_idle
    go (step.Stopped why) k = not_idle

-- a stop leaves no call that runs
pub after_stop : (P : Work → Type 0) → P Idle → P Ended → (who holds : ℕ) (running : Running) (next : OpenerState) (why : Stop) → KeepsCall who holds running (step.Stopped why) next → P next.work
after_stop P idle ended who holds running next stop.Fault k = subst P (sym k.0) ended
after_stop P idle ended who holds running next stop.Memory k = subst P (sym k.0) idle
after_stop P idle ended who holds running next stop.JournalFull k = subst P (sym k.0) idle
after_stop P idle ended who holds running next (stop.NotWhole seen) k = subst P (sym k.0) idle
after_stop P idle ended who holds running next (stop.Version n) k = subst P (sym k.0) idle
after_stop P idle ended who holds running next (stop.Flags n) k = subst P (sym k.0) idle
after_stop P idle ended who holds running next (stop.Full need) k = subst P (sym k.0) idle
after_stop P idle ended who holds running next stop.SequenceEnd k = subst P (sym k.0) idle
after_stop P idle ended who holds running next stop.ExpiryOff k = subst P (sym k.0) idle
after_stop P idle ended who holds running next stop.ExpiryRange k = subst P (sym k.0) idle
after_stop P idle ended who holds running next stop.AlreadyOn k = subst P (sym k.0) idle
after_stop P idle ended who holds running next stop.AlreadyOff k = subst P (sym k.0) idle

-- what a call has counted so far, after a step
pub counted_on : (o next : OpenerState) (came : Step) (work : Work) → o.work ≡ work → KeepsWork o came next →
    OnRunning o.work (λ at. CountedBy came at next.work) → CountsSoFar next.work
counted_on o next came Idle is keeps counts = subst (λ (p : OpenerState). CountsSoFar p.work) (sym (at_work o next came Idle is keeps).1) tt
counted_on o next came Ended is keeps counts = subst (λ (p : OpenerState). CountsSoFar p.work) (sym (at_work o next came Ended is keeps).1) tt
counted_on o next came (Runs running stage) is keeps counts =
    go came (at_work o next came (Runs running stage) is keeps) (subst (λ w. OnRunning w (λ at. CountedBy came at next.work)) is counts)
  where
    go : (s : Step) → KeepsCall o.who o.holds running s next → CountedBy s stage next.work → CountsSoFar next.work
    go (step.Answered a) k c = subst CountsSoFar (sym k.1) tt
    go (step.Stopped why) k c = after_stop CountsSoFar tt tt o.who o.holds running next why k
    go step.Idle k c = absurd k
    go step.Going k c = c
    go step.Again k c = c
    go (step.Blocked holder) k c = c

-- there is room for the answers of the calls that run
pub room_left : (openers : List OpenerState) (answers : List Answer) (i : ℕ) (o next : OpenerState) (came : Step) (room : ℕ) → slice_get openers i ≡ Some o → EndsOrStays o next came →
    length answers + calls_running openers ≤ room → length (answers ++ answers_by came) + calls_running (set openers i next) ≤ room
room_left openers answers i o next (step.Answered a) room at ends within =
    omega (arith, within, length-append answers (a ∷ []), one_fewer_runs openers i o next at ends.0 ends.1)
room_left openers answers i o next step.Idle room at ends within = omega (arith, within, length-append answers [], fewer_run openers i o next at ends)
room_left openers answers i o next step.Going room at ends within = omega (arith, within, length-append answers [], fewer_run openers i o next at ends)
room_left openers answers i o next step.Again room at ends within = omega (arith, within, length-append answers [], fewer_run openers i o next at ends)
room_left openers answers i o next (step.Blocked holder) room at ends within = omega (arith, within, length-append answers [], fewer_run openers i o next at ends)
room_left openers answers i o next (step.Stopped why) room at ends within = omega (arith, within, length-append answers [], fewer_run openers i o next at ends)

answered_by : (who most : ℕ) (came : Step) → 1 ≤ who → who ≤ most → AnswersOf who came → All (λ a. (1 ≤ a.who) × (a.who ≤ most)) (answers_by came)
answered_by who most (step.Answered a) least within own =
    All-cons (λ (a : Answer). (1 ≤ a.who) × (a.who ≤ most)) a [] (omega (arith, least, own), omega (arith, within, own)) (All-nil (λ (a : Answer). (1 ≤ a.who) × (a.who ≤ most)))
answered_by who most step.Idle least within own = All-nil (λ (a : Answer). (1 ≤ a.who) × (a.who ≤ most))
answered_by who most step.Going least within own = All-nil (λ (a : Answer). (1 ≤ a.who) × (a.who ≤ most))
answered_by who most step.Again least within own = All-nil (λ (a : Answer). (1 ≤ a.who) × (a.who ≤ most))
answered_by who most (step.Blocked holder) least within own = All-nil (λ (a : Answer). (1 ≤ a.who) × (a.who ≤ most))
answered_by who most (step.Stopped why) least within own = All-nil (λ (a : Answer). (1 ≤ a.who) × (a.who ≤ most))

abbrev IsOfOne : ℕ → Answer → Type 0
IsOfOne most a = (1 ≤ a.who) × (a.who ≤ most)

-- the number of an unused opener, after the call of another
unused_later : (l k : Local) (answers more : List Answer) (who : ℕ) → Stays who l k → answers_of who more ≡ answers_of who answers → IsUnused l answers who → IsUnused k more who
unused_later l k answers more who stays same is =
    record {
      outside = stays.admitted ∙ is.outside;
      silent = subst (NoneOf who) (sym stays.past) (none_more who stays.others l.past stays.theirs is.silent);
      unanswered = same ∙ is.unanswered;
    }

-- the opener at place i moved
moved : (l k : Local) (openers : List OpenerState) (answers : List Answer) (i : ℕ) (o next : OpenerState) (came : Step) → IsWorld l openers answers → slice_get openers i ≡ Some o →
    MakesOne (share_of l (i + 1)) (share_of k (i + 1)) → Tied next (share_of k (i + 1)) → Settles o came next (share_of l (i + 1)) (share_of k (i + 1)) → AnswersOf (i + 1) came →
    CountsSoFar next.work → IsWorld k (set openers i next) (answers ++ answers_by came)
moved l k openers answers i o next came world at makes tied settles own counted =
    record {
      few = omega (arith, len, world.few);
      accepted = subst IsAccepted (sym (stays_by (i + 1) 0 l k (λ e. absurd (omega (arith, e))) makes).start) world.accepted;
      lawful = tied.told.agrees.lawful;
      each = λ j p is. each j p is (eqb_tells i j);
      unused = λ who above.
          let apart : i + 1 ≢ who = (λ e. absurd (omega (arith, e, above, len, inside))) in
          unused_later l k answers (answers ++ answers_by came) who (stays_by (i + 1) who l k apart makes) (others_answers (i + 1) who answers came apart own)
          (world.unused who (omega (arith, above, len)));
      theirs = subst (λ n. All (IsOfOne n) (answers ++ answers_by came)) (sym len)
          (All-append (IsOfOne (length openers)) answers (answers_by came) world.theirs (answered_by (i + 1) (length openers) came (omega arith) (omega (arith, inside)) own));
      roomy = tied.told.agrees.few refl;
    }
  where
    len : length (set openers i next) ≡ length openers
    len = length-set openers i next

    inside : i < length openers
    inside = slice_get_within openers i o at

    each : (j : ℕ) (p : OpenerState) → slice_get (set openers i next) j ≡ Some p → ((eqb i j ≡ true) × (i ≡ j)) ⊎ ((eqb i j ≡ false) × (i ≢ j)) →
        OpenerIs k (answers ++ answers_by came) (j + 1) p
    each j p is (inl same) =
        let p_is : p ≡ next = set_is openers i o next p at (subst (λ n. slice_get (set openers i next) n ≡ Some p) (sym same.1) is) in
        subst (λ n. OpenerIs k (answers ++ answers_by came) (n + 1) p) same.1
        (subst (OpenerIs k (answers ++ answers_by came) (i + 1)) (sym p_is)
        (record {
          number = sym tied.who;
          tied = tied;
          settled = subst (λ all. AreSettled next all (history_of k)) (sym (own_answers (i + 1) answers came own)) (settles (answers_of (i + 1) answers) (world.each i o at).settled);
          counted = counted;
        }))
    each j p is (inr apart) =
        let n : i + 1 ≢ j + 1 = (λ e. apart.1 (omega (arith, e))) in
        opener_later l k answers (answers ++ answers_by came) (j + 1) p (stays_by (i + 1) (j + 1) l k n makes) (agrees_with k (i + 1) (j + 1) tied.told.agrees)
        (others_answers (i + 1) (j + 1) answers came n own) (world.each j p (sym (set_elsewhere openers i j next apart.1) ∙ is))

-- it made a step
pub stepped : (l k : Local) (openers : List OpenerState) (answers : List Answer) (i : ℕ) (o next : OpenerState) (came : Step) → IsWorld l openers answers → slice_get openers i ≡ Some o →
    MakesOne (share_of l (i + 1)) (share_of k (i + 1)) → Tied next (share_of k (i + 1)) → Settles o came next (share_of l (i + 1)) (share_of k (i + 1)) → KeepsWork o came next →
    CountsSoFar next.work → IsWorld k (set openers i next) (answers ++ answers_by came)
stepped l k openers answers i o next came world at makes tied settles keeps counted =
    moved l k openers answers i o next came world at makes tied settles (subst (λ w. AnswersOf w came) (world.each i o at).number (answers_for o next came o.work refl keeps)) counted

-- it died
pub died : (l k : Local) (openers : List OpenerState) (answers : List Answer) (i : ℕ) (o next : OpenerState) → IsWorld l openers answers → slice_get openers i ≡ Some o →
    MakesOne (share_of l (i + 1)) (share_of k (i + 1)) → Tied next (share_of k (i + 1)) → ((own : List Answer) → AreSettled o own (history_of l) → AreSettled next own (history_of k)) →
    CountsSoFar next.work → IsWorld k (set openers i next) answers
died l k openers answers i o next world at makes tied settles counted =
    subst (IsWorld k (set openers i next)) (append-nil answers)
    (moved l k openers answers i o next (step.Stopped stop.Fault) world at makes tied
    (λ own settled. subst (λ all. AreSettled next all (history_of k)) (sym (append-nil own)) (settles own settled)) tt counted)

-- a call of the opener at place i was begun
pub began : (l : Local) (openers : List OpenerState) (answers : List Answer) (i : ℕ) (o next : OpenerState) → IsWorld l openers answers → slice_get openers i ≡ Some o →
    Tied next (share_of l (i + 1)) → BeginsSettled o next (share_of l (i + 1)) → CountsSoFar next.work → IsWorld l (set openers i next) answers
began l openers answers i o next world at tied settles counted =
    record {
      few = omega (arith, len, world.few);
      accepted = world.accepted;
      lawful = world.lawful;
      each = λ j p is. each j p is (eqb_tells i j);
      unused = λ who above. world.unused who (omega (arith, above, len));
      theirs = subst (λ n. All (IsOfOne n) answers) (sym len) world.theirs;
      roomy = world.roomy;
    }
  where
    len : length (set openers i next) ≡ length openers
    len = length-set openers i next

    each : (j : ℕ) (p : OpenerState) → slice_get (set openers i next) j ≡ Some p → ((eqb i j ≡ true) × (i ≡ j)) ⊎ ((eqb i j ≡ false) × (i ≢ j)) → OpenerIs l answers (j + 1) p
    each j p is (inl same) =
        let p_is : p ≡ next = set_is openers i o next p at (subst (λ n. slice_get (set openers i next) n ≡ Some p) (sym same.1) is) in
        subst (λ n. OpenerIs l answers (n + 1) p) same.1
        (subst (OpenerIs l answers (i + 1)) (sym p_is)
        (record { number = sym tied.who; tied = tied; settled = settles (answers_of (i + 1) answers) (world.each i o at).settled; counted = counted }))
    each j p is (inr apart) = world.each j p (sym (set_elsewhere openers i j next apart.1) ∙ is)

-- A new opener was let in.
admitted_stays : (l : Local) (maker who : ℕ) (a : Account) → who ≢ maker → Stays who l (with_account l maker a)
admitted_stays l maker who a n =
    let same = other_account l.accounts maker who a n in
    record {
      start = refl;
      others = [];
      theirs = tt;
      past = refl;
      admitted = ap (λ (b : Account). b.admitted) same;
      reserved = ap (λ (b : Account). b.kept - (1 + unlock_place (lock_after l.past who))) same;
      room = ap (λ (b : Account). b.room) same;
    }

pub nothing_by : (start : Region) (past : List Event) (who : ℕ) → Lawful start past → NoneOf who past → NoneBy who (changes_of past)
nothing_by start past who lawful none = none_by_others start past [] who (subst (Lawful start) (sym (append-nil past)) lawful) none

pub opened : (l k : Local) (openers : List OpenerState) (answers : List Answer) (a : Account) → IsWorld l openers answers → length openers < 64 →
    k ≡ with_account l (length openers + 1) a → Tied (new_opener (length openers + 1)) (share_of k (length openers + 1)) →
    IsWorld k (openers ++ new_opener (length openers + 1) ∷ []) answers
opened l k openers answers a world room is tied =
    record {
      few = omega (arith, len, room);
      accepted = subst (λ (m : Local). IsAccepted m.start) (sym is) world.accepted;
      lawful = tied.told.agrees.lawful;
      each = λ j p at. each j p (pushed_is openers (new_opener who) j p at);
      unused = λ w above.
          unused_later l k answers answers w (stays w (λ e. absurd (omega (arith, e, above, len)))) refl (world.unused w (omega (arith, above, len)));
      theirs = All-weaker (IsOfOne (length openers)) (IsOfOne (length (openers ++ new_opener who ∷ []))) (λ b own. (own.0, omega (arith, own.1, len))) answers world.theirs;
      roomy = tied.told.agrees.few refl;
    }
  where
    who : ℕ
    who = length openers + 1

    len : length (openers ++ new_opener who ∷ []) ≡ length openers + 1
    len = length-append openers (new_opener who ∷ [])

    stays : (w : ℕ) → w ≢ who → Stays w l k
    stays w n = subst (Stays w l) (sym is) (admitted_stays l who w a n)

    unused : IsUnused l answers who
    unused = world.unused who (omega arith)

    silent : NoneOf who k.past
    silent = subst (λ (m : Local). NoneOf who m.past) (sym is) unused.silent

    each : (j : ℕ) (p : OpenerState) → (slice_get openers j ≡ Some p) ⊎ ((j ≡ length openers) × (p ≡ new_opener who)) → OpenerIs k answers (j + 1) p
    each j p (inl was) =
        let within = slice_get_within openers j p was in
        opener_later l k answers answers (j + 1) p (stays (j + 1) (λ e. absurd (omega (arith, e, within)))) (agrees_with k who (j + 1) tied.told.agrees) refl (world.each j p was)
    each j p (inr now) =
        subst (λ n. OpenerIs k answers (n + 1) p) (sym now.0)
        (subst (OpenerIs k answers who) (sym now.1)
        (record {
          number = refl;
          tied = tied;
          settled = subst (λ own. AreSettled (new_opener who) own (history_of k)) (sym unused.unanswered)
              (first_settles (new_opener who) (history_of k) refl (nothing_by k.start k.past who tied.told.agrees.lawful silent));
          counted = tt;
        }))
