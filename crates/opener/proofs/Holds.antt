-- Holds and releases.
use Rattle.std.proofs.Common.{◌≡◌, ℕ, ◌<◌, ◌≤◌, arith, false, List, [], ◌∷◌, length, refl, sym, ◌∙◌, subst, ap}
use Rattle.std.specs.Prelude.{Some, None, IfSome, ⊤, slice_get, take}
use Rattle.change_log.specs.Acts.{act_of, replay}
use Rattle.change_log.specs.History.{reply_in}
use Rattle.change_log.specs.declared.call.Call.{Call}
use Rattle.change_log.specs.declared.call.Call.TheVariants as call
use Rattle.change_log.specs.declared.call.Reply.TheVariants.{Done}
use Rattle.lock_rules.specs.declared.table.LockKind.TheVariants.{Exclusive}
use Rattle.lock_rules.specs.declared.table.Tried.TheVariants.{Taken}
use Rattle.region_words.specs.Region.{Region, base}
use Rattle.region_words.specs.Past.{changes_of}
use Rattle.region_words.specs.Told.{OnTold, changes_told}
use Rattle.region_words.specs.Share.{ShareState, Goes, Tries, locked, unlocked_by}
use Rattle.region_words.specs.Local.{event_of}
use Rattle.region_words.specs.declared.event.What.TheVariants.{Lock, Unlock}
use Rattle.region_words.specs.declared.event.Event.{Event}
use Rattle.region_words.proofs.Telling.{told_map, told_and}
use Rattle.opener.specs.State.{OpenerState}
use Rattle.opener.specs.Calls.{is_write}
use Rattle.opener.specs.Continues.{SameCall}
use Rattle.opener.specs.Ends.{answer_of}
use Rattle.opener.specs.Opener.{Tied, Knows, IsAnswer, IsLastPlace, EndIs, running_as, is_storing}
use Rattle.opener.specs.declared.work.Running.{Running}
use Rattle.opener.specs.declared.work.End.TheVariants as end
use Rattle.opener.specs.declared.work.Stage.{Stage}
use Rattle.opener.specs.declared.work.Stage.TheVariants as stage
use Rattle.opener.specs.declared.work.Work.TheVariants.{Idle, Runs}
use Rattle.opener.proofs.Carry.{none_reserved, unreserved, tied_after, told_call, changes_are, more_changes, image_later, exclusive_if}
use Rattle.opener.proofs.Leaves.{is_answer}
use Rattle.opener.proofs.Stages.{locked_rest}
use Rattle.opener.proofs.Stopped.{nothing_told}

-- a call that is always answered Done, and changes nothing
abbrev pub IsHolding : Call → Type 0
IsHolding call.Hold = ⊤
IsHolding call.Release = ⊤
IsHolding _ = ⊥

pub holds_call : (c : Call) → c ≡ call.Hold → IsHolding c
holds_call c e = subst IsHolding (sym e) tt

pub releases_call : (c : Call) → c ≡ call.Release → IsHolding c
releases_call c e = subst IsHolding (sym e) tt

done_end : (who : ℕ) (running : Running) (place : ℕ) (start : Region) (past : List Event) → IsHolding running.call → running.begun ≤ place → place ≡ length (changes_of past) →
    EndIs who (end.Answer place Done) running start past
done_end who running place start past holding begun e = (begun, omega (arith, e), (λ ok apart. reply running.call holding place), change running.call holding)
  where
    reply : (c : Call) → IsHolding c → (at : ℕ) → Done ≡ reply_in (replay (base start) (take at (changes_of past))) running.now c
    reply (call.Get key) h at = absurd h
    reply (call.Put key value seconds) h at = absurd h
    reply (call.Remove key) h at = absurd h
    reply call.Clear h at = absurd h
    reply call.Keys h at = absurd h
    reply call.Count h at = absurd h
    reply (call.Enable seconds) h at = absurd h
    reply call.Disable h at = absurd h
    reply call.Hold h at = refl
    reply call.Release h at = refl
    reply call.Sync h at = absurd h

    change : (c : Call) → IsHolding c → IfSome (act_of c running.now) (λ act. slice_get (changes_of past) place ≡ Some (record { maker = who; act = act }))
    change (call.Get key) h = absurd h
    change (call.Put key value seconds) h = absurd h
    change (call.Remove key) h = absurd h
    change call.Clear h = absurd h
    change call.Keys h = absurd h
    change call.Count h = absurd h
    change (call.Enable seconds) h = absurd h
    change call.Disable h = absurd h
    change call.Hold h = tt
    change call.Release h = tt
    change call.Sync h = absurd h

pub done_answer : (who place : ℕ) (running : Running) (start : Region) (past : List Event) → running.begun ≤ length (changes_of past) → IsHolding running.call →
    place ≡ length (changes_of past) → IsAnswer (answer_of who running place place Done) start past
done_answer who place running start past begun holding e =
    is_answer who place place Done running start past (done_end who running place start past holding (omega (arith, begun, e)) e) e

-- the place of a call that is no write is its end
pub done_place : (c asked : Call) (n : ℕ) → is_write asked ≡ false → c ≡ asked → IsLastPlace (is_write c) n n
done_place c asked n none e = subst (λ b. IsLastPlace b n n) (sym (ap is_write e ∙ none)) refl

-- a call that is answered without a call on the share leaves so many holds
module _ (o : OpenerState) (running : Running) (stage : Stage) (s : ShareState) (tied : Tied (running_as o running stage) s) (calm : is_storing (Runs running stage) ≡ false) where
  pub held_so : (holds : ℕ) → 0 < o.holds → 0 < holds → holds ≤ 1000 → Tied (record o { holds = holds; work = Idle }) s
  held_so holds some more deep =
      record {
        who = tied.who;
        maker = tied.maker;
        ended = tied.ended;
        holds = tied.holds ∙ exclusive_if o.holds running.taken some ∙ sym (exclusive_if holds None more);
        deep = deep;
        sound = tied.sound;
        at = tt;
        owes = unreserved (running_as o running stage) (Runs running stage) s calm tied.owes;
        told = told_map s.told (Knows (running_as o running stage) s) (Knows (record o { holds = holds; work = Idle }) s)
            (λ h k. record {
              agrees = k.agrees;
              facts = record { image = k.facts.image; rests = λ held rest. k.facts.rests (exclusive_if o.holds running.taken some) calm; work = tt };
            }) tied.told;
      }

  pub same_answer : (place : ℕ) → IsHolding running.call → place ≡ changes_told s.told → OnTold s.told (λ h. IsAnswer (answer_of o.who running place place Done) h.start h.past)
  same_answer place holding count =
      told_and s.told (Knows (running_as o running stage) s) (λ h. place ≡ length (changes_of h.past)) _
      (λ h k e. done_answer o.who place running h.start h.past k.facts.work.0 holding e) tied.told (changes_are s.told place count)

module _ (o : OpenerState) (running next : Running) (s t : ShareState) (tied : Tied (running_as o running stage.Hold) s) (tries : Tries Exclusive Taken s t) where
  -- the first hold takes the lock
  pub held_tied : Tied (record o { holds = 1; work = Idle }) t
  held_tied =
      tied_after (running_as o running stage.Hold) (record o { holds = 1; work = Idle }) s t (locked Exclusive s) (λ start past. ⊤) tied tries.0.after refl tied.ended refl
      (omega arith) tied.sound tt (none_reserved s t (locked Exclusive s) tries.0.after tied.owes) (nothing_told t.told)
      (λ start past region lawful lock facts e. record {
        image = image_later o.image start (event_of s.who (Lock Exclusive) ∷ []) past lawful facts.image;
        rests = λ held calm apart. locked_rest start past s.who lawful apart;
        work = tt;
      })

  pub first_answer : (place : ℕ) → SameCall running next → place ≡ changes_told t.told → OnTold t.told (λ h. IsAnswer (answer_of o.who next place place Done) h.start h.past)
  first_answer place same count =
      told_call (running_as o running stage.Hold) s t (locked Exclusive s) (λ start past. place ≡ length (changes_of past)) (IsAnswer (answer_of o.who next place place Done)) tied
      tries.0.after (changes_are t.told place count)
      (λ start past region lawful lock facts e.
      done_answer o.who place next start (event_of s.who (Lock Exclusive) ∷ past)
      (omega (arith, same.begun, facts.work.0, more_changes (event_of s.who (Lock Exclusive) ∷ []) past)) (holds_call next.call (same.call ∙ tied.at.1)) e)

module _ (o : OpenerState) (running : Running) (s t : ShareState) (goes : Goes (unlocked_by s) s t) (tied : Tied (running_as o running stage.Release) s) where
  -- the last release gives it up
  pub released_tied : Tied (record o { holds = 0; work = Idle }) t
  released_tied =
      tied_after (running_as o running stage.Release) (record o { holds = 0; work = Idle }) s t (unlocked_by s) (λ start past. ⊤) tied goes.after refl tied.ended refl
      (omega arith) tied.sound tt (none_reserved s t (unlocked_by s) goes.after refl) (nothing_told t.told)
      (λ start past region lawful lock facts e. record {
        image = image_later o.image start (event_of s.who Unlock ∷ []) past lawful facts.image;
        rests = λ held. absurd cc;
        work = tt;
      })

  pub last_answer : (place : ℕ) → place ≡ changes_told t.told → OnTold t.told (λ h. IsAnswer (answer_of o.who running place place Done) h.start h.past)
  last_answer place count =
      told_call (running_as o running stage.Release) s t (unlocked_by s) (λ start past. place ≡ length (changes_of past)) (IsAnswer (answer_of o.who running place place Done)) tied
      goes.after (changes_are t.told place count)
      (λ start past region lawful lock facts e.
      done_answer o.who place running start (event_of s.who Unlock ∷ past)
      (omega (arith, facts.work.0, more_changes (event_of s.who Unlock ∷ []) past)) (releases_call running.call tied.at.1) e)

-- the same by another word for the number of holds
pub holds_are : (o : OpenerState) (n m : ℕ) (t : ShareState) → n ≡ m → Tied (record o { holds = m; work = Idle }) t → Tied (record o { holds = n; work = Idle }) t
holds_are o n m t e tied = subst (λ k. Tied (record o { holds = k; work = Idle }) t) (sym e) tied
