-- A call that ends, at once or after it gave up the lock that it has taken itself.
use Rattle.std.proofs.Common.{◌≡◌, ℕ, zero, suc, ◌<◌, ◌≤◌, arith, true, List, [], ◌∷◌, length, refl, sym, ◌∙◌, subst, ap}
use Rattle.std.specs.Prelude.{Option, Some, None, slice_get, IfSome, ⊤}
use Rattle.change_log.specs.Acts.{act_of}
use Rattle.change_log.specs.declared.call.Reply.{Reply}
use Rattle.change_log.specs.declared.change.Act.{Act}
use Rattle.change_log.specs.declared.change.Change.{Change}
use Rattle.lock_rules.specs.declared.table.LockKind.{LockKind}
use Rattle.lock_rules.specs.declared.table.LockKind.TheVariants.{Exclusive}
use Rattle.region_words.specs.Region.{Region}
use Rattle.region_words.specs.Past.{changes_of}
use Rattle.region_words.specs.Apart.{Apart}
use Rattle.region_words.specs.Told.{OnTold, changes_told}
use Rattle.region_words.specs.Share.{ShareState, After, Left}
use Rattle.region_words.specs.declared.event.Event.{Event}
use Rattle.region_words.specs.declared.stops.Peek.{Peek}
use Rattle.region_words.proofs.Telling.{told_and, told_map}
use Rattle.loader.specs.declared.loaded.Image.{Image}
use Rattle.opener.specs.State.{OpenerState}
use Rattle.opener.specs.Calls.{IsPlain, is_write}
use Rattle.opener.specs.Ends.{Leaves, LeavesBy, OnImage, answer_of, lock_by}
use Rattle.opener.specs.Opener.{Tied, ImageIs, EndIs, EndsNow, IsLastPlace, KeepsWords, MayEnd, OnAnswer, IsAnswer, IsCalm, running_as}
use Rattle.loader.specs.PartialLoads.{IsSoundImage}
use Rattle.opener.specs.Fresh.{answers_by_look}
use Rattle.opener.specs.Steps.{IsKeptBy, IsPlaceOf, KeepsImage, peek_of}
use Rattle.opener.specs.declared.calls.Step.{Step}
use Rattle.opener.specs.declared.calls.Step.TheVariants as step
use Rattle.opener.specs.declared.work.Running.{Running}
use Rattle.opener.specs.declared.work.End.{End}
use Rattle.opener.specs.declared.work.End.TheVariants as end
use Rattle.opener.specs.declared.work.Stage.{Stage}
use Rattle.opener.specs.declared.work.Stage.TheVariants.{Unlock}
use Rattle.opener.specs.declared.work.Stage.TheVariants as stage
use Rattle.opener.specs.declared.work.Work.TheVariants.{Idle}
use Rattle.opener.proofs.Carry.{none_reserved, tied_after, changes_are}

get_inside : (xs : List Change) (i : ℕ) (c : Change) → slice_get xs i ≡ Some c → i < length xs
get_inside [] i c e = absurd cc
get_inside (x ∷ xs) zero c e = omega arith
get_inside (x ∷ xs) (suc i) c e = omega (arith, get_inside xs i c e)

-- the answer of an end that stands in the history
pub is_answer : (who ended place : ℕ) (reply : Reply) (running : Running) (start : Region) (past : List Event) → EndIs who (end.Answer place reply) running start past →
    ended ≡ length (changes_of past) → IsAnswer (answer_of who running place ended reply) start past
is_answer who ended place reply running start past is e =
    record { begun = is.0; placed = omega (arith, is.1, e); ended = e; reply = is.2; made = made (act_of running.call running.now) is.3 }
  where
    made : (act : Option Act) → IfSome act (λ a. slice_get (changes_of past) place ≡ Some (record { maker = who; act = a })) →
        IfSome act (λ a. (place < ended) × (slice_get (changes_of past) place ≡ Some (record { maker = who; act = a })))
    made None is = tt
    made (Some a) is = (omega (arith, get_inside (changes_of past) place _ is, e), is)

-- an answer to come is that of the first of two peeks, and no lock was taken for it; or the region is as it found it or left it
abbrev pub EndsSo : End → Option Peek → Option Image → Running → Region → List Event → Type 0
EndsSo (end.Answer place reply) (Some peek) image next start past = (place ≡ peek.changes) × (next.taken ≡ None)
EndsSo (end.Answer place reply) None image next start past = EndsNow image (end.Answer place reply) next start past
EndsSo (end.Stop why) peek image next start past = ⊤

ends_now : (how : End) (peek : Option Peek) (image : Option Image) (next : Running) (kind : LockKind) (start : Region) (past : List Event) → next.taken ≡ Some kind → EndsSo how peek image next start past →
    EndsNow image how next start past
ends_now (end.Answer place reply) (Some peek) image next kind start past some is = let both = sym is.1 ∙ some in absurd cc
ends_now (end.Answer place reply) None image next kind start past some is = is
ends_now (end.Stop why) peek image next kind start past some is = tt

-- what is known where a call is left with this end
pub record LeftWith (peek : Option Peek) (mid : OpenerState) (next : Running) (how : End) (start : Region) (past : List Event) : Type 0 where
  pub begun : next.begun ≤ length (changes_of past)
  pub image : ImageIs mid.image start past
  pub end_is : EndIs mid.who how next start past
  pub ends : EndsSo how peek mid.image next start past
  pub rests : lock_by mid.holds next.taken ≡ Some Exclusive → Apart start past → IsCalm start past

pub record Leaving (o mid : OpenerState) (running next : Running) (s t : ShareState) : Type 0 where
  pub left : Left
  pub after : After left s t
  pub alive : left.ended ≡ s.ended
  pub lock : left.holds ≡ s.holds
  pub places : left.places ≡ 0
  pub who : mid.who ≡ o.who
  pub holds : mid.holds ≡ o.holds
  pub sound : OnImage mid.image IsSoundImage
  pub taken : next.taken ≡ running.taken
  pub plain : IsPlain next.call

module _ (o mid : OpenerState) (running next : Running) (stage : Stage) (s t : ShareState) (tied : Tied (running_as o running stage) s) (is : Leaving o mid running next s t) where
  held : is.left.holds ≡ lock_by mid.holds next.taken
  held = is.lock ∙ tied.holds ∙ sym (λ i. lock_by (is.holds i) (is.taken i))

  deep : mid.holds ≤ 1000
  deep = omega (arith, is.holds, tied.deep)

  over : (how : End) (image : _) → OnImage image IsSoundImage → ((start : Region) (past : List Event) → LeftWith (peek_of stage) mid next how start past → ImageIs image start past) → next.taken ≡ None →
      OnTold t.told (λ k. LeftWith (peek_of stage) mid next how k.start k.past) → Tied (record mid { image = image; work = Idle }) t
  over how image sound keeps none told =
      tied_after (running_as o running stage) (record mid { image = image; work = Idle }) s t is.left (LeftWith (peek_of stage) mid next how) tied is.after is.who (is.alive ∙ tied.ended)
      (held ∙ ap (lock_by mid.holds) none) deep sound tt (none_reserved s t is.left is.after is.places) told
      (λ start past region lawful lock facts e. record { image = keeps start _ e; rests = λ mine calm. e.rests (ap (lock_by mid.holds) none ∙ mine); work = tt })

  waits : (how : End) (kind : LockKind) → MayEnd how → next.taken ≡ Some kind → OnTold t.told (λ k. LeftWith (peek_of stage) mid next how k.start k.past) → Tied (running_as mid next (Unlock how)) t
  waits how kind may some told =
      tied_after (running_as o running stage) (running_as mid next (Unlock how)) s t is.left (LeftWith (peek_of stage) mid next how) tied is.after is.who (is.alive ∙ tied.ended)
      held deep is.sound (own, is.plain, ((λ none. let both = sym some ∙ none in absurd cc), may)) (none_reserved s t is.left is.after is.places) told
      (λ start past region lawful lock facts e. record { image = e.image; rests = λ mine calm. e.rests mine; work = (e.begun, (e.end_is, ends_now how (peek_of stage) mid.image next kind start _ some e.ends)) })
    where
      own : 0 < mid.holds → next.taken ≡ None
      own some = is.taken ∙ tied.at.0 (omega (arith, some, is.holds))

  -- the call ends, and the opener is tied to its share
  pub leaves_tied : (how : End) (ended : ℕ) (result : Step) (new : OpenerState) → MayEnd how → OnTold t.told (λ k. LeftWith (peek_of stage) mid next how k.start k.past) →
      Leaves next how ended mid result new → Tied new t
  leaves_tied how ended result new may told leaves = go next.taken refl how may told leaves
    where
      go : (taken : Option LockKind) → next.taken ≡ taken → (how : End) → MayEnd how → OnTold t.told (λ k. LeftWith (peek_of stage) mid next how k.start k.past) →
          LeavesBy taken next how ended mid result new → Tied new t
      go None e (end.Answer place reply) may told is_left =
          subst (λ (n : OpenerState). Tied n t) (sym is_left.1) (over (end.Answer place reply) mid.image is.sound (λ start past k. k.image) e told)
      go None e (end.Stop why) may told is_left = subst (λ (n : OpenerState). Tied n t) (sym is_left.1) (over (end.Stop why) None tt (λ start past k. tt) e told)
      go (Some kind) e how may told is_left = subst (λ (n : OpenerState). Tied n t) (sym is_left.1) (waits how kind may e told)

-- what it is answered stands in the history
pub leaves_answer : (peek : Option Peek) (mid : OpenerState) (next : Running) (t : ShareState) (how : End) (ended : ℕ) (result : Step) (new : OpenerState) → ended ≡ changes_told t.told →
    OnTold t.told (λ k. LeftWith peek mid next how k.start k.past) → Leaves next how ended mid result new → OnAnswer result (λ a. OnTold t.told (λ h. IsAnswer a h.start h.past))
leaves_answer peek mid next t how ended result new count told leaves = go next.taken how told leaves
  where
    go : (taken : Option LockKind) (how : End) → OnTold t.told (λ k. LeftWith peek mid next how k.start k.past) → LeavesBy taken next how ended mid result new →
        OnAnswer result (λ a. OnTold t.told (λ h. IsAnswer a h.start h.past))
    go (Some kind) how told is = subst (λ r. OnAnswer r (λ a. OnTold t.told (λ h. IsAnswer a h.start h.past))) (sym is.0) tt
    go None (end.Answer place reply) told is =
        subst (λ r. OnAnswer r (λ a. OnTold t.told (λ h. IsAnswer a h.start h.past))) (sym is.0)
        (told_and t.told (λ k. LeftWith peek mid next (end.Answer place reply) k.start k.past) (λ k. ended ≡ length (changes_of k.past)) _
        (λ h p e. is_answer mid.who ended place reply next h.start h.past p.end_is e) told (changes_are t.told ended count))
    go None (end.Stop why) told is = subst (λ r. OnAnswer r (λ a. OnTold t.told (λ h. IsAnswer a h.start h.past))) (sym is.0) tt

-- at its place
place_of : (peek : Option Peek) (mid : OpenerState) (next : Running) (place ended : ℕ) (reply : Reply) (start : Region) (past : List Event) → ended ≡ length (changes_of past) →
    EndsSo (end.Answer place reply) peek mid.image next start past → IsPlaceOf peek (answer_of mid.who next place ended reply)
place_of (Some peek) mid next place ended reply start past e is = is.0
place_of None mid next place ended reply start past e is = subst (IsLastPlace (is_write next.call) place) (sym e) is.0

pub leaves_place : (peek : Option Peek) (mid : OpenerState) (next : Running) (t : ShareState) (how : End) (ended : ℕ) (result : Step) (new : OpenerState) → ended ≡ changes_told t.told →
    OnTold t.told (λ k. LeftWith peek mid next how k.start k.past) → Leaves next how ended mid result new → OnAnswer result (λ a. OnTold t.told (λ h. IsPlaceOf peek a))
leaves_place peek mid next t how ended result new count told leaves = go next.taken how told leaves
  where
    go : (taken : Option LockKind) (how : End) → OnTold t.told (λ k. LeftWith peek mid next how k.start k.past) → LeavesBy taken next how ended mid result new →
        OnAnswer result (λ a. OnTold t.told (λ h. IsPlaceOf peek a))
    go (Some kind) how told is = subst (λ r. OnAnswer r (λ a. OnTold t.told (λ h. IsPlaceOf peek a))) (sym is.0) tt
    go None (end.Answer place reply) told is =
        subst (λ r. OnAnswer r (λ a. OnTold t.told (λ h. IsPlaceOf peek a))) (sym is.0)
        (told_and t.told (λ k. LeftWith peek mid next (end.Answer place reply) k.start k.past) (λ k. ended ≡ length (changes_of k.past)) _
        (λ h p e. place_of peek mid next place ended reply h.start h.past e p.ends) told (changes_are t.told ended count))
    go None (end.Stop why) told is = subst (λ r. OnAnswer r (λ a. OnTold t.told (λ h. IsPlaceOf peek a))) (sym is.0) tt

-- an answer by a look keeps the image, and another is that of the region
kept_by : (at : Stage) (mid : OpenerState) (next : Running) (place : ℕ) (reply : Reply) (old : Option Image) (t : ShareState) → (answers_by_look at ≡ true → mid.image ≡ old) →
    OnTold t.told (λ k. LeftWith (peek_of at) mid next (end.Answer place reply) k.start k.past) → IsKeptBy (answers_by_look at) (is_write next.call) old mid.image t
kept_by at mid next place reply old t keeps told = go at keeps told
  where
    words : OnTold t.told (λ k. LeftWith None mid next (end.Answer place reply) k.start k.past) → OnTold t.told (λ k. KeepsWords (is_write next.call) mid.image k.start k.past)
    words told = told_map t.told (λ k. LeftWith None mid next (end.Answer place reply) k.start k.past) (λ k. KeepsWords (is_write next.call) mid.image k.start k.past) (λ h p. p.ends.1) told

    go : (at : Stage) → (answers_by_look at ≡ true → mid.image ≡ old) → OnTold t.told (λ k. LeftWith (peek_of at) mid next (end.Answer place reply) k.start k.past) →
        IsKeptBy (answers_by_look at) (is_write next.call) old mid.image t
    go (stage.PeekSequence peek) keeps told = keeps refl
    go stage.Hold keeps told = keeps refl
    go stage.Release keeps told = keeps refl
    go stage.PeekChecksum keeps told = words told
    go (stage.LockShared extent) keeps told = words told
    go stage.LockExclusive keeps told = words told
    go (stage.Continue loading) keeps told = words told
    go (stage.Load loading) keeps told = words told
    go stage.Size keeps told = words told
    go (stage.Reserve plan) keeps told = words told
    go (stage.Store plan) keeps told = words told
    go (stage.Unlock how) keeps told = words told

pub leaves_image : (at : Stage) (mid : OpenerState) (next : Running) (old : Option Image) (t : ShareState) (how : End) (ended : ℕ) (result : Step) (new : OpenerState) →
    (answers_by_look at ≡ true → mid.image ≡ old) → OnTold t.told (λ k. LeftWith (peek_of at) mid next how k.start k.past) → Leaves next how ended mid result new → KeepsImage result at old new t
leaves_image at mid next old t how ended result new keeps told leaves = go next.taken how told leaves
  where
    go : (taken : Option LockKind) (how : End) → OnTold t.told (λ k. LeftWith (peek_of at) mid next how k.start k.past) → LeavesBy taken next how ended mid result new → KeepsImage result at old new t
    go (Some kind) how told is =
        subst (λ r. KeepsImage r at old new t) (sym is.0) (subst (λ (n : OpenerState). KeepsImage step.Going at old n t) (sym is.1) (λ looks. absurd cc))
    go None (end.Answer place reply) told is =
        subst (λ r. KeepsImage r at old new t) (sym is.0)
        (subst (λ (n : OpenerState). KeepsImage (step.Answered (answer_of mid.who next place ended reply)) at old n t) (sym is.1) (kept_by at mid next place reply old t keeps told))
    go None (end.Stop why) told is = subst (λ r. KeepsImage r at old new t) (sym is.0) (ap (λ (n : OpenerState). n.image) is.1)
