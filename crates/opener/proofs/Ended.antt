-- A call ends once its lock is given up.
use Rattle.std.proofs.Common.{◌≡◌, ◌≢◌, ℕ, [], ◌∷◌, length, refl, sym, ◌∙◌, subst, ap, inl, inr, lit≤, append-nil}
use Rattle.std.specs.Prelude.{None, ⊤}
use Rattle.region_words.specs.Past.{changes_of}
use Rattle.region_words.specs.Told.{OnTold, changes_told}
use Rattle.region_words.specs.Share.{ShareState, Goes, unlocked_by}
use Rattle.region_words.specs.Local.{event_of}
use Rattle.region_words.specs.declared.event.What.TheVariants.{Unlock}
use Rattle.opener.specs.State.{OpenerState}
use Rattle.opener.specs.Calls.{is_write}
use Rattle.opener.specs.Ends.{Finishes, answer_of, lock_by}
use Rattle.opener.specs.Opener.{Tied, OnAnswer, IsAnswer, IsLastPlace, KeepsWords, HasCause, running_as}
use Rattle.opener.specs.declared.calls.Step.{Step}
use Rattle.opener.specs.declared.calls.Step.TheVariants as step
use Rattle.opener.specs.declared.work.Running.{Running}
use Rattle.opener.specs.declared.work.End.{End}
use Rattle.opener.specs.declared.work.End.TheVariants as end
use Rattle.opener.specs.declared.work.Stage.TheVariants as stage
use Rattle.opener.specs.declared.work.Work.TheVariants.{Idle, Runs}
use Rattle.opener.proofs.Carry.{changes_are, end_later, image_later, none_or_some, none_reserved, own_if, taken_held, tied_after, told_call, words_later}
use Rattle.opener.proofs.Leaves.{is_answer}
use Rattle.opener.proofs.StoresNext.{finishes_stores}
use Rattle.opener.proofs.Stopped.{nothing_told}
use Rattle.opener.specs.Steps.{IsPlaceOf, KeepsImage, Steps}
use Rattle.opener.proofs.Added.{adds_quietly, unlock_quietly}
use Rattle.opener.proofs.Adding.{finishes_made, finishes_counts, none_more}
use Rattle.opener.proofs.Counting.{unlocked_counted}
use Rattle.opener.proofs.EndClauses.{end_acts, finishes_call, finishes_acts}
use Rattle.opener.proofs.Falling.{finishes_falls}
use Rattle.opener.proofs.StopClauses.{same_call, takes_none}
use Rattle.opener.proofs.Storing.{finishes_stored}

module _ (o : OpenerState) (running : Running) (s t : ShareState) (goes : Goes (unlocked_by s) s t) where
  no_hold : (how : End) → Tied (running_as o running (stage.Unlock how)) s → o.holds ≡ 0
  no_hold how tied = none_or_some o.holds (λ some. tied.at.2.0 (tied.at.0 some))

  free : (how : End) → Tied (running_as o running (stage.Unlock how)) s → lock_by o.holds None ≡ None
  free how tied = own_if o.holds None (no_hold how tied)

  -- the lock is given up, and the call is over
  pub unlocked_tied : (how : End) (ended : ℕ) (result : Step) (new : OpenerState) → Tied (running_as o running (stage.Unlock how)) s →
      Finishes running how ended o result new → Tied new t
  unlocked_tied (end.Answer place reply) ended result new tied is =
      let none = free (end.Answer place reply) tied in
      subst (λ (n : OpenerState). Tied n t) (sym is.1)
      (tied_after (running_as o running (stage.Unlock (end.Answer place reply))) (record o { work = Idle }) s t (unlocked_by s) (λ start past. ⊤) tied goes.after refl
      tied.ended (sym none) tied.deep tied.sound tt (none_reserved s t (unlocked_by s) goes.after refl) (nothing_told t.told)
      (λ start past region lawful lock facts e. record {
        image = image_later o.image start (event_of s.who Unlock ∷ []) past lawful facts.image;
        rests = λ held. let both = sym none ∙ held in absurd cc;
        work = tt;
      }))
  unlocked_tied (end.Stop why) ended result new tied is =
      let none = free (end.Stop why) tied in
      subst (λ (n : OpenerState). Tied n t) (sym is.1)
      (tied_after (running_as o running (stage.Unlock (end.Stop why))) (record o { image = None; work = Idle }) s t (unlocked_by s) (λ start past. ⊤) tied goes.after refl
      tied.ended (sym none) tied.deep tt tt (none_reserved s t (unlocked_by s) goes.after refl) (nothing_told t.told)
      (λ start past region lawful lock facts e. record { image = tt; rests = λ held. let both = sym none ∙ held in absurd cc; work = tt }))

  pub unlocked_place : (how : End) (ended : ℕ) (result : Step) (new : OpenerState) → Tied (running_as o running (stage.Unlock how)) s → ended ≡ changes_told t.told →
      Finishes running how ended o result new → OnAnswer result (λ a. OnTold t.told (λ h. IsPlaceOf None a))
  unlocked_place (end.Answer place reply) ended result new tied count is =
      subst (λ r. OnAnswer r (λ a. OnTold t.told (λ h. IsPlaceOf None a))) (sym is.0)
      (told_call (running_as o running (stage.Unlock (end.Answer place reply))) s t (unlocked_by s) (λ start past. ended ≡ length (changes_of past))
      (λ start past. IsLastPlace (is_write running.call) place ended) tied goes.after (changes_are t.told ended count)
      (λ start past region lawful lock facts e. subst (IsLastPlace (is_write running.call) place) (sym (e ∙ ap length (append-nil (changes_of past)))) facts.work.1.1.0))
  unlocked_place (end.Stop why) ended result new tied count is = subst (λ r. OnAnswer r (λ a. OnTold t.told (λ h. IsPlaceOf None a))) (sym is.0) tt

  pub unlocked_image : (how : End) (ended : ℕ) (result : Step) (new : OpenerState) → Tied (running_as o running (stage.Unlock how)) s → Finishes running how ended o result new →
      KeepsImage result (stage.Unlock how) o.image new t
  unlocked_image (end.Answer place reply) ended result new tied is =
      subst (λ r. KeepsImage r (stage.Unlock (end.Answer place reply)) o.image new t) (sym is.0)
      (subst (λ (n : OpenerState). KeepsImage (step.Answered (answer_of o.who running place ended reply)) (stage.Unlock (end.Answer place reply)) o.image n t) (sym is.1)
      (told_call (running_as o running (stage.Unlock (end.Answer place reply))) s t (unlocked_by s) (λ start past. ⊤) (KeepsWords (is_write running.call) o.image) tied goes.after (nothing_told t.told)
      (λ start past region lawful lock facts e. words_later (is_write running.call) o.image start (event_of s.who Unlock ∷ []) past refl facts.work.1.1.1)))
  unlocked_image (end.Stop why) ended result new tied is =
      subst (λ r. KeepsImage r (stage.Unlock (end.Stop why)) o.image new t) (sym is.0) (ap (λ (n : OpenerState). n.image) is.1)

  pub unlocked_answer : (how : End) (ended : ℕ) (result : Step) (new : OpenerState) → Tied (running_as o running (stage.Unlock how)) s → ended ≡ changes_told t.told →
      Finishes running how ended o result new → OnAnswer result (λ a. OnTold t.told (λ h. IsAnswer a h.start h.past))
  unlocked_answer (end.Answer place reply) ended result new tied count is =
      subst (λ r. OnAnswer r (λ a. OnTold t.told (λ h. IsAnswer a h.start h.past))) (sym is.0)
      (told_call (running_as o running (stage.Unlock (end.Answer place reply))) s t (unlocked_by s) (λ start past. ended ≡ length (changes_of past))
      (IsAnswer (answer_of o.who running place ended reply)) tied goes.after (changes_are t.told ended count)
      (λ start past region lawful lock facts e.
      is_answer o.who ended place reply running start (event_of s.who Unlock ∷ past)
      (end_later o.who (end.Answer place reply) running start (event_of s.who Unlock ∷ []) past facts.work.1.0) e))
  unlocked_answer (end.Stop why) ended result new tied count is = subst (λ r. OnAnswer r (λ a. OnTold t.told (λ h. IsAnswer a h.start h.past))) (sym is.0) tt

-- the lock that is to be given up is held
pub still_held : (o : OpenerState) (running : Running) (how : End) (s : ShareState) → Tied (running_as o running (stage.Unlock how)) s → lock_by o.holds running.taken ≢ None
still_held o running how s tied = taken_held o.holds running.taken tied.at.0 tied.at.2.0

-- its stop was found before
pub unlocked_cause : (o : OpenerState) (running : Running) (how : End) (ended : ℕ) (result : Step) (new : OpenerState) (s t : ShareState) → Finishes running how ended o result new →
    HasCause (Runs running (stage.Unlock how)) result new.work s t
unlocked_cause o running (end.Answer place reply) ended result new s t is = subst (λ r. HasCause (Runs running (stage.Unlock (end.Answer place reply))) r new.work s t) (sym is.0) tt
unlocked_cause o running (end.Stop why) ended result new s t is = subst (λ r. HasCause (Runs running (stage.Unlock (end.Stop why))) r new.work s t) (sym is.0) (inl refl)

-- its lock is given up, and the call is over
pub unlocks : {o : OpenerState} {running : Running} {how : End} {result : Step} {new : OpenerState} {s t : ShareState} → Tied (running_as o running (stage.Unlock how)) s → (ended : ℕ) → Goes (unlocked_by s) s t →
    Finishes running how ended o result new → ended ≡ changes_told t.told → Steps o running (stage.Unlock how) result new s t
unlocks {o} {running} {how} {result} {new} {s} {t} tied ended goes is count =
    record {
      tied = unlocked_tied o running s t goes how ended result new tied is;
      makes = inr (unlocked_by s, goes.after, lit≤ tt);
      adds = adds_quietly o.who running (stage.Unlock how) result new.work s t 0 None (unlock_quietly goes) (finishes_stored running o result new how ended is)
          (λ so_far are. finishes_made o.who running running o result new how ended so_far is are) (finishes_counts o.who running running o result new how ended 0 0 0 is (none_more running));
      call = finishes_call o.who o.holds running running how ended o result new (same_call running) tied.at.1 tied.at.2.1 refl refl is;
      cause = unlocked_cause o running how ended result new s t is;
      takes = takes_none (Runs running (stage.Unlock how)) s t goes.after.holds;
      acts = finishes_acts (stage.Unlock how) o.image running how ended o result new s t (end_acts how (stage.Unlock how) o.image new.work s t (λ a. tt)) is;
      answer = unlocked_answer o running s t goes how ended result new tied count is;
      place = unlocked_place o running s t goes how ended result new tied count is;
      stores = finishes_stores (stage.Unlock how) running how ended o result new is;
      image = unlocked_image o running s t goes how ended result new tied is;
      counts = λ has. unlocked_counted o.who running how ended o result new has is;
      falls = finishes_falls running running (stage.Unlock how) how ended o result new t is;
    }
