-- What an opener answered stays settled while others go on, and is settled after each of its own steps.
use Rattle.std.proofs.Common.{◌≡◌, ◌≢◌, ℕ, ◌≤◌, arith, Bool, true, false, cond, List, [], ◌∷◌, ◌++◌, length, refl, sym, ◌∙◌, subst, ap, inl, inr, append-nil, append_assoc, length-append}
use Rattle.std.specs.Prelude.{Option, Some, None, ◌==◌, ◌&&◌}
use Rattle.std.proofs.lemmas.List.Elements.{All-nil, All-cons, All-append, All-push, All-weaker}
use Rattle.change_log.specs.EachCaller.{LegalFor}
use Rattle.change_log.specs.History.{IsPlaced, IsMade}
use Rattle.change_log.specs.Settled.{NoneBy, AreEndedBy, AreOfCall, AreBegun}
use Rattle.change_log.specs.declared.call.Answer.{Answer}
use Rattle.change_log.specs.declared.call.Call.{Call as Asked}
use Rattle.change_log.specs.declared.call.Call.TheVariants as call
use Rattle.change_log.specs.declared.change.Change.{Change}
use Rattle.change_log.proofs.Settled.{cut_is_legal, settled_first, settled_is_legal, stays_settled}
use Rattle.loader.specs.declared.loaded.Image.{Image}
use Rattle.lock_rules.specs.Locks.{Locks}
use Rattle.lock_rules.specs.declared.table.LockKind.{LockKind}
use Rattle.lock_rules.specs.declared.table.LockKind.TheVariants.{Exclusive}
use Rattle.region_words.specs.Apart.{Apart}
use Rattle.region_words.specs.Lawful.{Lawful, IsPossible}
use Rattle.region_words.specs.Local.{lock_after}
use Rattle.region_words.specs.Past.{NoneOf, change_of, changes_of, locks_after, region_after}
use Rattle.region_words.specs.Region.{Region, IsAccepted, base}
use Rattle.region_words.specs.Share.{ShareState, Grows, made_by}
use Rattle.region_words.specs.Told.{History, OnBoth, OnTold, changes_told}
use Rattle.region_words.specs.declared.event.Event.{Event}
use Rattle.region_words.specs.declared.event.Mark.TheVariants.{Plain, Commit}
use Rattle.region_words.specs.declared.event.What.{What}
use Rattle.region_words.specs.declared.event.What.TheVariants.{Store, Grow, Lock, Unlock, Died}
use Rattle.region_words.proofs.ReadLaws.{apart_front, changes_more, lawful_front}
use Rattle.region_words.proofs.Telling.{grows_from, grows_to}
use Rattle.opener.specs.State.{OpenerState}
use Rattle.opener.specs.Adds.{Adds, AreMade, AreMadeAt, AreMadeBy}
use Rattle.opener.specs.Begins.{Begins, IsFirst, IsFirstPlain, begun_at, refusal, refusal_at}
use Rattle.opener.specs.Calls.{is_write}
use Rattle.opener.specs.Ends.{lock_by}
use Rattle.opener.specs.Opener.{IsAnswer, IsAnswerOf, IsAt, KeepsCall, Knows, MakesOne, OnAnswer, RunsOn, Tied, lock_in, running_as}
use Rattle.opener.specs.Settles.{AreEarlier, AreSettled, BeginsSettled, IsCutOff, IsLegalSoFar, IsSettledBy, IsSettledFirst, IsSettledSoFar, Settles, StaysSettled, answers_by}
use Rattle.opener.specs.Writes.{commits_of}
use Rattle.opener.specs.declared.calls.Step.{Step}
use Rattle.opener.specs.declared.calls.Step.TheVariants as step
use Rattle.opener.specs.declared.calls.Stop.TheVariants as why
use Rattle.opener.specs.declared.work.End.TheVariants as end
use Rattle.opener.specs.declared.work.Running.{Running}
use Rattle.opener.specs.declared.work.Stage.{Stage}
use Rattle.opener.specs.declared.work.Stage.TheVariants as stage
use Rattle.opener.specs.declared.work.Work.{Work}
use Rattle.opener.specs.declared.work.Work.TheVariants.{Idle, Ended, Runs}
use Rattle.opener.proofs.Added.{made_first}
use Rattle.opener.proofs.Adding.{notices_nothing}
use Rattle.opener.proofs.Carry.{exclusive_some, still_held}
use Rattle.opener.proofs.Settling.{answer_settles}

-- What others change is theirs.
others_change : (r : Region) (locks : Locks) (other who : ℕ) (what : What) → other ≢ who → IsPossible r locks other what → NoneBy who (change_of what)
others_change r locks other who (Store side word value Plain) n may = All-nil (λ (c : Change). c.maker ≢ who)
others_change r locks other who (Store side word value (Commit c)) n may =
    All-cons (λ (c : Change). c.maker ≢ who) c [] (λ e. n (sym may.4 ∙ e)) (All-nil (λ (c : Change). c.maker ≢ who))
others_change r locks other who (Grow size) n may = All-nil (λ (c : Change). c.maker ≢ who)
others_change r locks other who (Lock kind) n may = All-nil (λ (c : Change). c.maker ≢ who)
others_change r locks other who Unlock n may = All-nil (λ (c : Change). c.maker ≢ who)
others_change r locks other who (Died torn) n may = All-nil (λ (c : Change). c.maker ≢ who)

pub none_by_others : (start : Region) (others past : List Event) (who : ℕ) → Lawful start (others ++ past) → NoneOf who others → NoneBy who (changes_of others)
none_by_others start [] past who l none = All-nil (λ (c : Change). c.maker ≢ who)
none_by_others start (e ∷ others) past who l none =
    All-append (λ (c : Change). c.maker ≢ who) (changes_of others) (change_of e.what) (none_by_others start others past who l.0 none.1)
    (others_change (region_after start (others ++ past)) (locks_after (others ++ past)) e.who who e.what none.0 l.1.possible)

-- what ended by a moment ended by a later one
ended_later : (n m : ℕ) (own : List Answer) → n ≤ m → AreEndedBy n own → AreEndedBy m own
ended_later n m own le ended = All-weaker (λ (a : Answer). a.ended ≤ n) (λ (a : Answer). a.ended ≤ m) (λ a h. omega (arith, le, h)) own ended

longer : (before more : List Change) → length before ≤ length (before ++ more)
longer before more = omega (arith, length-append before more)

earlier_on : (work : Work) (before more : List Change) (own : List Answer) → AreEarlier work before own → AreEarlier work (before ++ more) own
earlier_on Idle before more own earlier = ended_later (length before) (length (before ++ more)) own (longer before more) earlier
earlier_on Ended before more own earlier = ended_later (length before) (length (before ++ more)) own (longer before more) earlier
earlier_on (Runs c at) before more own earlier = (earlier.0, omega (arith, earlier.1, longer before more))

-- While others go on.
module _ (who : ℕ) (work : Work) (start : Region) (others past : List Event) (own : List Answer) (so : IsSettledSoFar who work start past own) where
  -- and change nothing
  stays_held : changes_of (others ++ past) ≡ changes_of past → IsSettledSoFar who work start (others ++ past) own
  stays_held same = record { before = so.before; made = so.made; are = same ∙ so.are; settled = so.settled; of_call = so.of_call; earlier = so.earlier }

  -- or the call has made nothing
  stays_free : so.made ≡ [] → NoneBy who (changes_of others) → IsSettledSoFar who work start (others ++ past) own
  stays_free nothing theirs =
      record {
        before = so.before ++ changes_of others;
        made = [];
        are = changes_more others past ∙ ap (λ l. l ++ changes_of others) (so.are ∙ ap (λ l. so.before ++ l) nothing ∙ append-nil so.before) ∙ sym (append-nil (so.before ++ changes_of others));
        settled = stays_settled who (base start) so.before (changes_of others) own so.settled theirs;
        of_call = subst (AreMade who work) nothing so.of_call;
        earlier = earlier_on work so.before (changes_of others) own so.earlier;
      }

taken_some : (holds : ℕ) (taken : Option LockKind) → taken ≢ None → lock_by holds taken ≢ None
taken_some holds taken some = go (holds == 0)
  where
    go : (b : Bool) → cond b taken (Some Exclusive) ≢ None
    go true = some
    go false = λ e. cc

module _ (o : OpenerState) (start : Region) (others past : List Event) (own : List Answer) (l : Lawful start (others ++ past)) (none : NoneOf o.who others) where
  theirs : NoneBy o.who (changes_of others)
  theirs = none_by_others start others past o.who l none

  stays_cut : IsCutOff o.who start past own → IsCutOff o.who start (others ++ past) own
  stays_cut cut =
      record {
        call = cut.call;
        now = cut.now;
        before = cut.before;
        made = cut.made;
        more = cut.more ++ changes_of others;
        are = changes_more others past ∙ ap (λ x. x ++ changes_of others) cut.are ∙ append_assoc cut.before (cut.made ++ cut.more) (changes_of others)
            ∙ ap (λ x. cut.before ++ x) (append_assoc cut.made cut.more (changes_of others));
        settled = cut.settled;
        begun = cut.begun;
        others = All-append (λ (c : Change). c.maker ≢ o.who) cut.more (changes_of others) cut.others theirs;
      }

  stays_at : (c : Running) (at : Stage) → IsAt o (Runs c at) → lock_after past o.who ≡ lock_by o.holds c.taken → IsSettledSoFar o.who (Runs c at) start past own →
      IsSettledSoFar o.who (Runs c at) start (others ++ past) own
  stays_at c (stage.Store plan) is mine so =
      stays_held o.who (Runs c (stage.Store plan)) start others past own so
      (still_held start others past o.who (lock_by o.holds c.taken) l none mine (exclusive_some (lock_by o.holds c.taken) is.2.0)).1
  stays_at c (stage.Unlock (end.Answer place reply)) is mine so =
      stays_held o.who (Runs c (stage.Unlock (end.Answer place reply))) start others past own so
      (still_held start others past o.who (lock_by o.holds c.taken) l none mine (taken_some o.holds c.taken is.2.0)).1
  stays_at c (stage.Unlock (end.Stop stop)) is mine so = stays_free o.who (Runs c (stage.Unlock (end.Stop stop))) start others past own so so.of_call theirs
  stays_at c stage.PeekChecksum is mine so = stays_free o.who (Runs c stage.PeekChecksum) start others past own so so.of_call theirs
  stays_at c (stage.PeekSequence peek) is mine so = stays_free o.who (Runs c (stage.PeekSequence peek)) start others past own so so.of_call theirs
  stays_at c (stage.LockShared extent) is mine so = stays_free o.who (Runs c (stage.LockShared extent)) start others past own so so.of_call theirs
  stays_at c stage.LockExclusive is mine so = stays_free o.who (Runs c stage.LockExclusive) start others past own so so.of_call theirs
  stays_at c (stage.Continue loading) is mine so = stays_free o.who (Runs c (stage.Continue loading)) start others past own so so.of_call theirs
  stays_at c (stage.Load loading) is mine so = stays_free o.who (Runs c (stage.Load loading)) start others past own so so.of_call theirs
  stays_at c stage.Size is mine so = stays_free o.who (Runs c stage.Size) start others past own so so.of_call theirs
  stays_at c (stage.Reserve plan) is mine so = stays_free o.who (Runs c (stage.Reserve plan)) start others past own so so.of_call theirs
  stays_at c stage.Hold is mine so = stays_free o.who (Runs c stage.Hold) start others past own so so.of_call theirs
  stays_at c stage.Release is mine so = stays_free o.who (Runs c stage.Release) start others past own so so.of_call theirs

  pub stays_by : (work : Work) → IsAt o work → lock_after past o.who ≡ lock_in o.holds work → IsSettledBy o.who work start past own → IsSettledBy o.who work start (others ++ past) own
  stays_by Idle is mine so = stays_free o.who Idle start others past own so so.of_call theirs
  stays_by Ended is mine cut = stays_cut cut
  stays_by (Runs c at) is mine so = stays_at c at is mine so

-- the lock that an opener holds by its history
pub lock_is : (o : OpenerState) (s : ShareState) (h : History) → Tied o s → Knows o s h → lock_after h.past o.who ≡ lock_in o.holds o.work
lock_is o s h tied knows = ap (lock_after h.past) (sym tied.who) ∙ knows.agrees.holds ∙ tied.holds

pub others_settle : StaysSettled
others_settle o s h others own tied told l none settled = λ ok apart.
    let knows : Knows o s h = subst (λ x. OnTold x (Knows o s)) told tied.told in
    stays_by o h.start others h.past own l none o.work tied.at (lock_is o s h tied knows) (settled ok (apart_front h.start others h.past apart))

-- what nothing was made of is settled
pub first_settles : IsSettledFirst
first_settles o h idle none = λ ok apart.
    subst (λ w. IsSettledBy o.who w h.start h.past []) (sym idle)
    (record {
      before = changes_of h.past;
      made = [];
      are = sym (append-nil (changes_of h.past));
      settled = settled_first o.who (base h.start) (changes_of h.past) none;
      of_call = refl;
      earlier = All-nil (λ (a : Answer). a.ended ≤ length (changes_of h.past));
    })

-- What is settled so far is legal.
module _ (who : ℕ) (start : Region) (past : List Event) (own : List Answer) where
  cut_legal : IsCutOff who start past own → LegalFor who (base start) (changes_of past) own
  cut_legal cut =
      subst (λ x. LegalFor who (base start) x own) (sym (cut.are ∙ sym (append_assoc cut.before cut.made cut.more)))
      (cut_is_legal who (base start) cut.before cut.made cut.more own cut.call cut.now cut.settled cut.begun cut.others)

  all_legal : (work : Work) (so : IsSettledSoFar who work start past own) → so.made ≡ [] → LegalFor who (base start) (changes_of past) own
  all_legal work so nothing =
      subst (λ x. LegalFor who (base start) x own) (sym (so.are ∙ ap (λ x. so.before ++ x) nothing ∙ append-nil so.before))
      (settled_is_legal who (base start) so.before own so.settled)

  runs_legal : (c : Running) (at : Stage) → IsSettledSoFar who (Runs c at) start past own → LegalFor who (base start) (changes_of past) own
  runs_legal c at so =
      subst (λ x. LegalFor who (base start) x own) (sym (so.are ∙ sym (append-nil (so.before ++ so.made))))
      (cut_is_legal who (base start) so.before so.made [] own c.call c.now so.settled (made_first who c at so.made so.of_call) (All-nil (λ (c : Change). c.maker ≢ who)))

  legal_by : (work : Work) → IsSettledBy who work start past own → LegalFor who (base start) (changes_of past) own
  legal_by Idle so = all_legal Idle so so.of_call
  legal_by Ended cut = cut_legal cut
  legal_by (Runs c at) so = runs_legal c at so

pub settled_legal : IsLegalSoFar
settled_legal o h own ok apart settled = legal_by o.who h.start h.past own o.work (settled ok apart)

-- After an own step, which changed these behind what was settled.
module _ (who : ℕ) (running : Running) (at : Stage) (start : Region) (past now : List Event) (own : List Answer) (more : List Change) (grown : changes_of now ≡ changes_of past ++ more)
    (so : IsSettledSoFar who (Runs running at) start past own) where
  abbrev ours : List Change
  ours = so.made ++ more

  all_are : changes_of now ≡ so.before ++ ours
  all_are = grown ∙ ap (λ l. l ++ more) so.are ∙ append_assoc so.before so.made more

  -- the call runs on
  runs_on : (work : Work) → RunsOn running work → AreMade who work ours → IsSettledBy who work start now (own ++ [])
  runs_on Idle on are = absurd on
  runs_on Ended on are = absurd on
  runs_on (Runs next to) on are =
      subst (IsSettledSoFar who (Runs next to) start now) (sym (append-nil own))
      (record {
        before = so.before;
        made = ours;
        are = all_are;
        settled = so.settled;
        of_call = are;
        earlier = subst (λ n. AreEndedBy n own × (n ≤ length so.before)) (sym on.begun) so.earlier;
      })

  -- it has stopped, and changed nothing
  has_stopped : (work : Work) → work ≡ Idle → ours ≡ [] → IsSettledBy who work start now (own ++ [])
  has_stopped work idle nothing =
      subst (λ w. IsSettledBy who w start now (own ++ [])) (sym idle)
      (subst (IsSettledSoFar who Idle start now) (sym (append-nil own))
      (record {
        before = so.before;
        made = [];
        are = all_are ∙ ap (λ l. so.before ++ l) nothing;
        settled = so.settled;
        of_call = refl;
        earlier = ended_later running.begun (length so.before) own so.earlier.1 so.earlier.0;
      }))

  -- it is cut off
  is_cut : (work : Work) → work ≡ Ended → AreBegun who running.call running.now ours → IsSettledBy who work start now (own ++ [])
  is_cut work ended begun =
      subst (λ w. IsSettledBy who w start now (own ++ [])) (sym ended)
      (subst (IsCutOff who start now) (sym (append-nil own))
      (record {
        call = running.call;
        now = running.now;
        before = so.before;
        made = ours;
        more = [];
        are = all_are ∙ ap (λ l. so.before ++ l) (sym (append-nil ours));
        settled = so.settled;
        begun = begun;
        others = All-nil (λ (c : Change). c.maker ≢ who);
      }))

  -- it is answered
  is_answered : (work : Work) (a : Answer) → work ≡ Idle → IsAnswerOf a who running → IsAnswer a start now → IsAccepted start → Apart start now → AreOfCall who running.call running.now ours →
      IsSettledBy who work start now (own ++ a ∷ [])
  is_answered work a idle of is ok apart are =
      let over : a.ended ≡ length (so.before ++ ours) = is.ended ∙ ap length all_are in
      let began : AreEndedBy a.begun own = subst (λ n. AreEndedBy n own) (sym of.begun) so.earlier.0 in
      subst (λ w. IsSettledBy who w start now (own ++ a ∷ [])) (sym idle)
      (record {
        before = so.before ++ ours;
        made = [];
        are = all_are ∙ sym (append-nil (so.before ++ ours));
        settled = answer_settles who (base start) so.before ours own a so.settled of.by began (omega (arith, of.begun, so.earlier.1))
            (subst (λ l. IsPlaced (base start) l a) all_are (record { begun = is.begun; ended = is.placed; within = omega (arith, is.ended); reply = is.reply ok apart }))
            (subst (λ l. IsMade (base start) l a) all_are is.made) over
            (subst (λ x. AreOfCall who x a.now ours) (sym of.call_is) (subst (λ n. AreOfCall who running.call n ours) (sym of.moment) are));
        of_call = refl;
        earlier = All-push (λ (x : Answer). x.ended ≤ length (so.before ++ ours)) own a
            (ended_later running.begun (length (so.before ++ ours)) own (omega (arith, so.earlier.1, longer so.before ours)) so.earlier.0) (omega (arith, over));
      })

  came : (holds : ℕ) (result : Step) (new : OpenerState) → KeepsCall who holds running result new → OnAnswer result (λ a. IsAnswer a start now) → IsAccepted start → Apart start now →
      AreMadeBy who running result new.work ours → IsSettledBy who new.work start now (own ++ answers_by result)
  came holds step.Idle new keeps is ok apart are = absurd keeps
  came holds step.Going new keeps is ok apart are = runs_on new.work keeps.0 are
  came holds step.Again new keeps is ok apart are = runs_on new.work keeps.0 are
  came holds (step.Blocked holder) new keeps is ok apart are = runs_on new.work keeps.0 are
  came holds (step.Answered a) new keeps is ok apart are = is_answered new.work a keeps.1 keeps.0 is ok apart are
  came holds (step.Stopped why.Fault) new keeps is ok apart are = is_cut new.work keeps.0 are
  came holds (step.Stopped why.Memory) new keeps is ok apart are = has_stopped new.work keeps.0 are
  came holds (step.Stopped why.JournalFull) new keeps is ok apart are = has_stopped new.work keeps.0 are
  came holds (step.Stopped (why.NotWhole seen)) new keeps is ok apart are = has_stopped new.work keeps.0 are
  came holds (step.Stopped (why.Version n)) new keeps is ok apart are = has_stopped new.work keeps.0 are
  came holds (step.Stopped (why.Flags n)) new keeps is ok apart are = has_stopped new.work keeps.0 are
  came holds (step.Stopped (why.Full need)) new keeps is ok apart are = has_stopped new.work keeps.0 are
  came holds (step.Stopped why.SequenceEnd) new keeps is ok apart are = has_stopped new.work keeps.0 are
  came holds (step.Stopped why.ExpiryOff) new keeps is ok apart are = has_stopped new.work keeps.0 are
  came holds (step.Stopped why.ExpiryRange) new keeps is ok apart are = has_stopped new.work keeps.0 are
  came holds (step.Stopped why.AlreadyOn) new keeps is ok apart are = has_stopped new.work keeps.0 are
  came holds (step.Stopped why.AlreadyOff) new keeps is ok apart are = has_stopped new.work keeps.0 are

-- What a step made is told apart from what others did.
abbrev first_maker : List Event → ℕ
first_maker [] = 0
first_maker (e ∷ past) = e.who

abbrev all_but_first : List Event → List Event
all_but_first [] = []
all_but_first (e ∷ past) = past

none_own : (who : ℕ) (others more past : List Event) (own : List What) → NoneOf who others → others ++ past ≡ made_by who own ++ (more ++ past) → length own ≤ 0
none_own who others more past [] none same = omega arith
none_own who [] more past (x ∷ own) none same =
    absurd (omega (arith, ap length same, length-append (made_by who own) (more ++ past), length-append more past))
none_own who (e ∷ others) more past (x ∷ own) none same = absurd (none.0 (ap first_maker same))

one_own : (who : ℕ) (others more past : List Event) (one own : List What) → length one ≤ 1 → NoneOf who others → made_by who one ++ (others ++ past) ≡ made_by who own ++ (more ++ past) →
    length own ≤ 1
one_own who others more past [] own few none same = omega (arith, none_own who others more past own none same)
one_own who others more past (y ∷ []) [] few none same = omega arith
one_own who others more past (y ∷ []) (x ∷ own) few none same = omega (arith, none_own who others more past own none (ap all_but_first same))
one_own who others more past (y ∷ z ∷ one) own few none same = absurd (omega (arith, few))

-- the changes of one event more
grown_changes : (who : ℕ) (own : List What) (past : List Event) → length own ≤ 1 → changes_of (made_by who own ++ past) ≡ changes_of past ++ commits_of own
grown_changes who [] past few = sym (append-nil (changes_of past))
grown_changes who (x ∷ []) past few = ap (λ l. changes_of past ++ l) (sym (append-nil (change_of x)))
grown_changes who (x ∷ y ∷ own) past few = absurd (omega (arith, few))

-- at most one event was made
record MadeOne (who : ℕ) (alone : Bool) (h k : History) : Type 0 where
  one : List What
  few : length one ≤ 1
  grows : Grows who alone one h k

made_none : (who : ℕ) (alone : Bool) (told : Option History) → OnBoth told told (MadeOne who alone)
made_none who alone None = tt
made_none who alone (Some h) = record { one = []; few = omega arith; grows = record { start = refl; others = []; by_others = tt; none = λ e. refl; past = refl } }

made_few : (who : ℕ) (alone : Bool) (own : List What) (a b : Option History) → length own ≤ 1 → OnBoth a b (Grows who alone own) → OnBoth a b (MadeOne who alone)
made_few who alone own None None few grows = tt
made_few who alone own None (Some k) few grows = grows
made_few who alone own (Some h) None few grows = grows
made_few who alone own (Some h) (Some k) few grows = record { one = own; few = few; grows = grows }

made_one : (s t : ShareState) → MakesOne s t → OnBoth s.told t.told (MadeOne s.who s.alone)
made_one s t (inl same) = subst (λ (x : ShareState). OnBoth s.told x.told (MadeOne s.who s.alone)) (sym same) (made_none s.who s.alone s.told)
made_one s t (inr made) = made_few s.who s.alone made.0.own s.told t.told made.2 made.1.told

same_opener : (s t : ShareState) → MakesOne s t → t.who ≡ s.who
same_opener s t (inl same) = ap (λ (x : ShareState). x.who) same
same_opener s t (inr made) = made.1.same.who

-- After a step of the call that runs.
module _ (o : OpenerState) (running : Running) (at : Stage) (result : Step) (new : OpenerState) (s t : ShareState) (tied : Tied (running_as o running at) s) (after : Tied new t)
    (makes : MakesOne s t) (adds : Adds o.who running at result new.work s t) (keeps : KeepsCall o.who o.holds running result new) where
  who_is : new.who ≡ o.who
  who_is = sym after.who ∙ same_opener s t makes ∙ tied.who

  -- where the journal is told
  journal_settles : (own : List Answer) (h k : History) → Knows (running_as o running at) s h → Knows new t k → MadeOne s.who s.alone h k → Grows s.who s.alone adds.own h k →
      OnAnswer result (λ a. IsAnswer a k.start k.past) → AreSettled (running_as o running at) own h → AreSettled new (own ++ answers_by result) k
  journal_settles own h k knew knows m g is settled =
      grows_to s.who s.alone adds.own h k g (λ start past. IsAccepted start → Apart start past → IsSettledBy new.who new.work start past (own ++ answers_by result))
      (λ ok apart.
      let apart_before : Apart h.start between = apart_front h.start (made_by s.who adds.own) between apart in
      let so : IsSettledSoFar o.who (Runs running at) h.start between own =
      stays_by (running_as o running at) h.start g.others h.past own lawful theirs (Runs running at) tied.at (lock_is (running_as o running at) s h tied knew)
      (settled ok (apart_front h.start g.others h.past apart_before)) in
      subst (λ w. IsSettledBy w new.work h.start now (own ++ answers_by result)) (sym who_is)
      (came o.who running at h.start between now own (commits_of adds.own) grown so o.holds result new keeps answer ok apart (adds.made so.made so.of_call)))
    where
      between : List Event
      between = g.others ++ h.past

      now : List Event
      now = made_by s.who adds.own ++ between

      lawful : Lawful h.start between
      lawful = lawful_front h.start (made_by s.who adds.own) between (grows_from s.who s.alone adds.own h k g Lawful knows.agrees.lawful)

      theirs : NoneOf o.who g.others
      theirs = subst (λ w. NoneOf w g.others) tied.who g.by_others

      answer : OnAnswer result (λ a. IsAnswer a h.start now)
      answer = grows_from s.who s.alone adds.own h k g (λ start past. OnAnswer result (λ a. IsAnswer a start past)) is

      few : length adds.own ≤ 1
      few = one_own s.who m.grows.others g.others h.past m.one adds.own m.few m.grows.by_others (sym m.grows.past ∙ g.past)

      grown : changes_of now ≡ changes_of between ++ commits_of adds.own
      grown = grown_changes s.who adds.own between few

  pub call_settles : OnAnswer result (λ a. OnTold t.told (λ h. IsAnswer a h.start h.past)) → Settles (running_as o running at) result new s t
  call_settles is own settled = go s.told t.told tied.told after.told (made_one s t makes) adds.grows is settled
    where
      go : (a b : Option History) → OnTold a (Knows (running_as o running at) s) → OnTold b (Knows new t) → OnBoth a b (MadeOne s.who s.alone) → OnBoth a b (Grows s.who s.alone adds.own) →
          OnAnswer result (λ x. OnTold b (λ h. IsAnswer x h.start h.past)) → OnTold a (AreSettled (running_as o running at) own) → OnTold b (AreSettled new (own ++ answers_by result))
      go None None knew knows m g is settled = tt
      go None (Some k) knew knows m g is settled = absurd m
      go (Some h) None knew knows m g is settled = absurd m
      go (Some h) (Some k) knew knows m g is settled = journal_settles own h k knew knows m g is settled

-- the same of an opener that was seen to run the call
pub step_settles : (was o : OpenerState) (running : Running) (at : Stage) (result : Step) (new : OpenerState) (s t : ShareState) → was ≡ o → was.work ≡ Runs running at → Tied o s → Tied new t →
    MakesOne s t → Adds was.who running at result new.work s t → KeepsCall was.who was.holds running result new → OnAnswer result (λ a. OnTold t.told (λ h. IsAnswer a h.start h.past)) →
    Settles o result new s t
step_settles was o running at result new s t seen runs tied after makes adds keeps is =
    let same : running_as was running at ≡ o = sym (ap (λ w. record was { work = w }) runs) ∙ seen in
    subst (λ (x : OpenerState). Settles x result new s t) same (call_settles was running at result new s t (subst (λ (x : OpenerState). Tied x s) (sym same) tied) after makes adds keeps is)

-- the first stage of a call has made nothing
first_made : (who : ℕ) (asked : Asked) (image : Option Image) (holds : ℕ) (c : Running) (next : Stage) (made : List Change) → IsFirst image holds asked next → made ≡ [] → AreMadeAt who c next made
first_made who asked image holds c next made first nothing = go asked first
  where
    is : (to : Stage) → AreMadeAt who c to made → next ≡ to → AreMadeAt who c next made
    is to are e = subst (λ z. AreMadeAt who c z made) (sym e) are

    plain : (b : Bool) → IsFirstPlain b image holds next → AreMadeAt who c next made
    plain true e = is stage.LockExclusive nothing e
    plain false notices = notices_nothing who c image holds None next made notices nothing

    go : (asked : Asked) → IsFirst image holds asked next → AreMadeAt who c next made
    go call.Hold e = is stage.Hold nothing e
    go call.Release e = is stage.Release nothing e
    go (call.Get key) f = plain (is_write (call.Get key) && (holds == 0)) f
    go (call.Put key value seconds) f = plain (is_write (call.Put key value seconds) && (holds == 0)) f
    go (call.Remove key) f = plain (is_write (call.Remove key) && (holds == 0)) f
    go call.Clear f = plain (is_write call.Clear && (holds == 0)) f
    go call.Keys f = plain (is_write call.Keys && (holds == 0)) f
    go call.Count f = plain (is_write call.Count && (holds == 0)) f
    go (call.Enable seconds) f = plain (is_write (call.Enable seconds) && (holds == 0)) f
    go call.Disable f = plain (is_write call.Disable && (holds == 0)) f
    go call.Sync f = plain (is_write call.Sync && (holds == 0)) f

begun_by : (who holds : ℕ) (image : Option Image) (work : Work) (asked : Asked) (now : ℕ) (next : Stage) (start : Region) (past : List Event) (own : List Answer) →
    refusal_at work asked holds ≡ None → IsFirst image holds asked next → IsSettledBy who work start past own →
    IsSettledSoFar who (Runs (begun_at asked now (length (changes_of past))) next) start past own
begun_by who holds image Idle asked now next start past own none first so =
    let all : length (changes_of past) ≡ length so.before = ap length (so.are ∙ ap (λ l. so.before ++ l) so.of_call ∙ append-nil so.before) in
    record {
      before = so.before;
      made = so.made;
      are = so.are;
      settled = so.settled;
      of_call = first_made who asked image holds (begun_at asked now (length (changes_of past))) next so.made first so.of_call;
      earlier = (subst (λ n. AreEndedBy n own) (sym all) so.earlier, omega (arith, all));
    }
begun_by who holds image Ended asked now next start past own none first cut = absurd cc
begun_by who holds image (Runs c at) asked now next start past own none first so = absurd cc

-- after the begin of a call
pub begin_settles : (s : ShareState) (asked : Asked) (now : ℕ) (old new : OpenerState) → refusal old asked ≡ None → Begins asked now (changes_told s.told) old new → BeginsSettled old new s
begin_settles s asked now old new none begins own settled = go s.told begins settled
  where
    go : (told : Option History) → Begins asked now (changes_told told) old new → OnTold told (AreSettled old own) → OnTold told (AreSettled new own)
    go None begins settled = tt
    go (Some h) begins settled = λ ok apart.
        subst (λ (x : OpenerState). IsSettledBy x.who x.work h.start h.past own) (sym begins.work)
        (begun_by old.who old.holds old.image old.work asked now begins.next h.start h.past own none begins.first (settled ok apart))
