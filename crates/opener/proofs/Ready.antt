-- An image that is kept and found to be that of the region: a write goes on with it, and another call is answered by it.
use Rattle.std.proofs.Common.{◌≡◌, ℕ, ◌<◌, ◌≤◌, arith, Bool, true, false, List, length, take, refl, sym, ◌∙◌, subst, ap, inl, inr}
use Rattle.std.specs.Prelude.{Option, Some, None, IfSome, slice_get}
use Rattle.change_log.specs.Acts.{act_of, replay}
use Rattle.change_log.specs.History.{reply_in}
use Rattle.change_log.specs.declared.call.Call.{Call}
use Rattle.change_log.specs.declared.call.Call.TheVariants as call
use Rattle.lock_rules.specs.declared.table.LockKind.TheVariants.{Exclusive}
use Rattle.change_log.specs.declared.call.Answer.{Answer}
use Rattle.change_log.specs.declared.call.Reply.{Reply}
use Rattle.region_words.specs.Region.{Region, IsAccepted, base}
use Rattle.region_words.specs.Past.{changes_of}
use Rattle.region_words.specs.Apart.{Apart}
use Rattle.region_words.specs.Told.{OnTold, changes_told}
use Rattle.region_words.specs.Share.{ShareState}
use Rattle.region_words.specs.declared.event.Event.{Event}
use Rattle.region_words.specs.declared.stops.Peek.{Peek}
use Rattle.region_words.proofs.Telling.{told_map}
use Rattle.loader.specs.declared.loaded.Image.{Image}
use Rattle.opener.specs.State.{OpenerState}
use Rattle.opener.specs.Calls.{IsPlain, is_write}
use Rattle.opener.specs.Continues.{SameCall}
use Rattle.opener.specs.Ends.{IsReady, IsReadyBy, OnImage, Replies, lock_by}
use Rattle.opener.specs.Plans.{CanWrite}
use Rattle.opener.specs.Opener.{IsCalm, Facts, Tied, ImageIs, IsImage, IsShown, LooksUnder, MayEnd, OnAnswer, IsAnswer, HasCause, KeepsCall, running_as, stop_found}
use Rattle.opener.specs.Fresh.{answers_by_look}
use Rattle.opener.specs.Steps.{ActsAt, IsPlaceOf, KeepsImage, peek_of}
use Rattle.opener.specs.declared.calls.Step.{Step}
use Rattle.opener.specs.declared.calls.Step.TheVariants as step
use Rattle.opener.specs.declared.calls.Stop.TheVariants as why
use Rattle.opener.specs.declared.work.Running.{Running}
use Rattle.opener.specs.declared.work.End.{End}
use Rattle.opener.specs.declared.work.End.TheVariants as end
use Rattle.opener.specs.declared.work.Stage.{Stage}
use Rattle.opener.specs.declared.work.Stage.TheVariants.{Size, Unlock}
use Rattle.opener.specs.declared.work.Work.TheVariants.{Runs}
use Rattle.opener.proofs.Carry.{none_reserved, tied_after}
use Rattle.opener.proofs.EndClauses.{EndHasReason, end_acts, going_answer, going_call, going_acts, going_cause, going_image, leaves_call, leaves_acts, leaves_cause}
use Rattle.opener.proofs.Leaves.{EndsSo, LeftWith, Leaving, leaves_answer, leaves_image, leaves_place, leaves_tied}

-- a plain call that is a write can be made, and one that isn't changes nothing
pub can_write : (asked : Call) → IsPlain asked → is_write asked ≡ true → CanWrite asked
can_write (call.Put key value seconds) plain write = plain
can_write (call.Remove key) plain write = plain
can_write call.Clear plain write = plain
can_write (call.Get key) plain write = absurd cc
can_write call.Keys plain write = absurd cc
can_write call.Count plain write = absurd cc
can_write call.Sync plain write = absurd cc
can_write (call.Enable seconds) plain write = plain
can_write call.Disable plain write = plain
can_write call.Hold plain write = absurd plain
can_write call.Release plain write = absurd plain

pub no_act : (asked : Call) (now : ℕ) → IsPlain asked → is_write asked ≡ false → act_of asked now ≡ None
no_act (call.Put key value seconds) now plain read = absurd cc
no_act (call.Remove key) now plain read = absurd cc
no_act call.Clear now plain read = absurd cc
no_act (call.Get key) now plain read = refl
no_act call.Keys now plain read = refl
no_act call.Count now plain read = refl
no_act call.Sync now plain read = refl
no_act (call.Enable seconds) now plain read = absurd cc
no_act call.Disable now plain read = absurd cc
no_act call.Hold now plain read = absurd plain
no_act call.Release now plain read = absurd plain

-- what is known of the image that is kept where it is found to be that of a place
pub record ReadyWith (peek : Option Peek) (mid : OpenerState) (i : Image) (next : Running) (place : ℕ) (start : Region) (past : List Event) : Type 0 where
  pub begun : next.begun ≤ place
  pub placed : place ≤ length (changes_of past)
  pub image : IsImage i start past
  pub found : IsAccepted start → Apart start past → i.map ≡ replay (base start) (take place (changes_of past))
  pub now : is_write next.call ≡ true → IsAccepted start → Apart start past → IsShown i start past
  pub ends : (reply : Reply) → is_write next.call ≡ false → EndsSo (end.Answer place reply) peek (Some i) next start past
  pub rests : lock_by mid.holds next.taken ≡ Some Exclusive → Apart start past → IsCalm start past

module _ (o mid : OpenerState) (i : Image) (running next : Running) (stage : Stage) (place ended : ℕ) (result : Step) (new : OpenerState) (s t : ShareState)
    (tied : Tied (running_as o running stage) s) (is : Leaving o mid running next s t) (kept : mid.image ≡ Some i) (same : SameCall running next)
    (looks : LooksUnder next (lock_by mid.holds next.taken)) (told : OnTold t.told (λ k. ReadyWith (peek_of stage) mid i next place k.start k.past)) where
  held : is.left.holds ≡ lock_by mid.holds next.taken
  held = is.lock ∙ tied.holds ∙ sym (λ j. lock_by (is.holds j) (is.taken j))

  deep : mid.holds ≤ 1000
  deep = omega (arith, is.holds, tied.deep)

  own : 0 < mid.holds → next.taken ≡ None
  own some = is.taken ∙ tied.at.0 (omega (arith, some, is.holds))

  image_is : (start : Region) (past : List Event) → ReadyWith (peek_of stage) mid i next place start past → ImageIs mid.image start past
  image_is start past e = subst (λ z. ImageIs z start past) (sym kept) e.image

  sized : (start : Region) (past : List Event) → is_write next.call ≡ true → ReadyWith (peek_of stage) mid i next place start past → Facts (running_as mid next Size) start past
  sized start past write e =
      record {
        image = image_is start past e;
        rests = λ mine calm. e.rests mine;
        work = (omega (arith, e.begun, e.placed), subst (λ z. OnImage z (λ k. IsAccepted start → Apart start past → IsShown k start past)) (sym kept) (e.now write));
      }

  size_tied : is_write next.call ≡ true → Tied (running_as mid next Size) t
  size_tied write =
      tied_after (running_as o running stage) (running_as mid next Size) s t is.left (ReadyWith (peek_of stage) mid i next place) tied is.after is.who (is.alive ∙ tied.ended)
      held deep is.sound (own, can_write next.call is.plain write, ((λ none. let both = sym kept ∙ none in absurd cc), looks write)) (none_reserved s t is.left is.after is.places) told
      (λ start past region lawful lock facts e. sized start _ write e)

  -- how a call ends that the image answers
  record Ends (how : End) : Type 0 where
    may : MayEnd how
    left : OnTold t.told (λ k. LeftWith (peek_of stage) mid next how k.start k.past)
    reason : EndHasReason (Runs running stage) how s t

  ends : (how : End) → is_write next.call ≡ false → Replies next i place how → Ends how
  ends how read (inl (reply, replies, how_is)) =
      subst Ends (sym how_is)
      (record {
        may = tt;
        left = told_map t.told (λ k. ReadyWith (peek_of stage) mid i next place k.start k.past) (λ k. LeftWith (peek_of stage) mid next (end.Answer place reply) k.start k.past) (λ k e. record {
          begun = omega (arith, e.begun, e.placed);
          image = image_is k.start k.past e;
          end_is = (
            e.begun,
            e.placed,
            (λ ok apart. replies ∙ ap (λ m. reply_in m next.now next.call) (e.found ok apart)),
            subst (λ a. IfSome a (λ act. slice_get (changes_of k.past) place ≡ Some (record { maker = mid.who; act = act }))) (sym (no_act next.call next.now is.plain read)) tt,
          );
          ends = subst (λ z. EndsSo (end.Answer place reply) (peek_of stage) z next k.start k.past) (sym kept) (e.ends reply read);
          rests = e.rests;
        }) told;
        reason = tt;
      })
  ends how read (inr how_is) =
      subst Ends (sym how_is)
      (record {
        may = tt;
        left = told_map t.told (λ k. ReadyWith (peek_of stage) mid i next place k.start k.past) (λ k. LeftWith (peek_of stage) mid next (end.Stop why.Memory) k.start k.past) (λ k e. record {
          begun = omega (arith, e.begun, e.placed);
          image = image_is k.start k.past e;
          end_is = tt;
          ends = tt;
          rests = e.rests;
        }) told;
        reason = tt;
      })

  reply_of : (how : End) → OnImage mid.image (λ k. Replies next k place how) → Replies next i place how
  reply_of how replies = subst (λ z. OnImage z (λ k. Replies next k place how)) kept replies

  pub ready_tied : IsReady next place ended mid result new → Tied new t
  ready_tied ready = go (is_write next.call) refl ready
    where
      go : (b : Bool) → is_write next.call ≡ b → IsReadyBy b next place ended mid result new → Tied new t
      go true write on = subst (λ (n : OpenerState). Tied n t) (sym on.1) (size_tied write)
      go false read (how, replies, leaves) =
          let e = ends how read (reply_of how replies) in
          leaves_tied o mid running next stage s t tied is how ended result new e.may e.left leaves

  pub ready_answer : ended ≡ changes_told t.told → IsReady next place ended mid result new → OnAnswer result (λ a. OnTold t.told (λ h. IsAnswer a h.start h.past))
  ready_answer count ready = go (is_write next.call) refl ready
    where
      go : (b : Bool) → is_write next.call ≡ b → IsReadyBy b next place ended mid result new → OnAnswer result (λ a. OnTold t.told (λ h. IsAnswer a h.start h.past))
      go true write on = going_answer next Size mid result new (λ a. OnTold t.told (λ h. IsAnswer a h.start h.past)) on
      go false read (how, replies, leaves) = leaves_answer (peek_of stage) mid next t how ended result new count (ends how read (reply_of how replies)).left leaves

  pub ready_call : IsPlain running.call → IsReady next place ended mid result new → KeepsCall o.who o.holds running result new
  ready_call plain ready = go (is_write next.call) refl ready
    where
      go : (b : Bool) → is_write next.call ≡ b → IsReadyBy b next place ended mid result new → KeepsCall o.who o.holds running result new
      go true write on = going_call o.who o.holds running next Size mid result new same is.holds on
      go false read (how, replies, leaves) =
          leaves_call o.who o.holds running next how ended mid result new same plain (ends how read (reply_of how replies)).may is.who is.holds leaves

  pub ready_cause : stop_found (Runs running stage) ≡ None → IsReady next place ended mid result new → HasCause (Runs running stage) result new.work s t
  ready_cause none ready = go (is_write next.call) refl ready
    where
      go : (b : Bool) → is_write next.call ≡ b → IsReadyBy b next place ended mid result new → HasCause (Runs running stage) result new.work s t
      go true write on = going_cause (Runs running stage) next Size mid result new s t refl on
      go false read (how, replies, leaves) =
          leaves_cause (Runs running stage) next how ended mid result new s t none (ends how read (reply_of how replies)).reason leaves

  pub ready_acts : ActsAt step.Going stage o.image (Runs next Size) s t → ((how : End) → Replies next i place how → ActsAt step.Going stage o.image (Runs next (Unlock how)) s t) → ((a : Answer) → ActsAt (step.Answered a) stage o.image new.work s t) →
      IsReady next place ended mid result new → ActsAt result stage o.image new.work s t
  ready_acts sizes unlocks answers ready = go (is_write next.call) ready
    where
      go : (b : Bool) → IsReadyBy b next place ended mid result new → ActsAt result stage o.image new.work s t
      go true on = going_acts stage o.image next Size mid result new s t sizes on
      go false (how, replies, leaves) = leaves_acts stage o.image next how ended mid result new s t (unlocks how (reply_of how replies)) (end_acts how stage o.image new.work s t answers) leaves

  pub ready_place : ended ≡ changes_told t.told → IsReady next place ended mid result new → OnAnswer result (λ a. OnTold t.told (λ h. IsPlaceOf (peek_of stage) a))
  ready_place count ready = go (is_write next.call) refl ready
    where
      go : (b : Bool) → is_write next.call ≡ b → IsReadyBy b next place ended mid result new → OnAnswer result (λ a. OnTold t.told (λ h. IsPlaceOf (peek_of stage) a))
      go true write on = going_answer next Size mid result new (λ a. OnTold t.told (λ h. IsPlaceOf (peek_of stage) a)) on
      go false read (how, replies, leaves) = leaves_place (peek_of stage) mid next t how ended result new count (ends how read (reply_of how replies)).left leaves

  pub ready_image : (answers_by_look stage ≡ true → mid.image ≡ o.image) → IsReady next place ended mid result new → KeepsImage result stage o.image new t
  ready_image keeps ready = go (is_write next.call) refl ready
    where
      go : (b : Bool) → is_write next.call ≡ b → IsReadyBy b next place ended mid result new → KeepsImage result stage o.image new t
      go true write on = going_image stage next Size mid o.image result new t (λ looks. absurd cc) on
      go false read (how, replies, leaves) = leaves_image stage mid next o.image t how ended result new keeps (ends how read (reply_of how replies)).left leaves
