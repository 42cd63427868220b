-- A read is answered by its two looks just where they find the words that its opener keeps: one step of a call.
use Rattle.std.proofs.Common.{◌≡◌, ◌≢◌, ℕ, zero, suc, ◌+◌, ◌*◌, ◌<◌, ◌≤◌, ◌⊎◌, eqb, Bool, true, false, not, List, [], ◌∷◌, ◌++◌, length, refl, sym, ap, ◌∙◌, inl, inr, arith, subst, eq-eqb}
use Rattle.std.proofs.lemmas.Bool.Decides.{eqb_tells}
use Rattle.std.specs.Prelude.{Option, Some, None, IsTrue, is_some, ◌==◌, if◌then◌else◌}
use Rattle.change_log.specs.declared.call.Answer.{Answer}
use Rattle.change_log.specs.declared.call.Call.{Call as Asked}
use Rattle.change_log.specs.declared.call.Call.TheVariants as call
use Rattle.lock_rules.specs.declared.table.LockKind.{LockKind}
use Rattle.loader.specs.declared.loaded.Image.{Image}
use Rattle.opener.specs.Bound.{Falls, Shortens, size_met, steps_at}
use Rattle.opener.specs.Calls.{IsPlain, IsTried, is_write, kind_of}
use Rattle.opener.specs.Counted.{counted}
use Rattle.opener.specs.Ends.{lock_by}
use Rattle.opener.specs.Extents.{load_after}
use Rattle.opener.specs.Fresh.{CountedBy, CountsLooks, answers_by_look, is_fresh}
use Rattle.opener.specs.Opener.{HasCause, HasReason, HasStopped, IsAt, KeepsCall, KeepsWords, MatchesRegion, OnAnswer, RunsOn, Suits, lock_in, stop_found}
use Rattle.opener.specs.Plans.{CanWrite}
use Rattle.opener.specs.State.{OpenerState}
use Rattle.opener.specs.Steps.{ActsAt, IsKeptBy, IsPlaceOf, IsStillKept, KeepsImage, LooksNext, kept_at, next_load, peek_of, still_looks}
use Rattle.opener.specs.declared.calls.Step.{Step}
use Rattle.opener.specs.declared.calls.Step.TheVariants as step
use Rattle.opener.specs.declared.calls.Stop.{Stop}
use Rattle.opener.specs.declared.calls.Stop.TheVariants as stop
use Rattle.opener.specs.declared.work.Extent.{Extent}
use Rattle.opener.specs.declared.work.Extent.TheVariants.{Partial, Full}
use Rattle.opener.specs.declared.work.Running.{Running as Call}
use Rattle.opener.specs.declared.work.Stage.{Stage}
use Rattle.opener.specs.declared.work.Stage.TheVariants as stage
use Rattle.opener.specs.declared.work.Work.{Work}
use Rattle.opener.specs.declared.work.Work.TheVariants.{Idle, Ended, Runs}
use Rattle.region_words.specs.Apart.{Apart}
use Rattle.region_words.specs.Images.{checksum_at, sequence_at}
use Rattle.region_words.specs.Local.{Seated, seat_state}
use Rattle.region_words.specs.Past.{changes_of}
use Rattle.region_words.specs.Region.{Region, IsAccepted}
use Rattle.region_words.specs.Share.{Goes, ShareState, loaded}
use Rattle.region_words.specs.declared.event.Event.{Event}
use Rattle.region_words.specs.declared.stops.Peek.{Peek}
use Rattle.script_lang.specs.Kept.{FindWords, IsByLooks, IsRead, looked}
use Rattle.script_lang.specs.Parts.{Running, going_on, locks_among}
use Rattle.script_lang.specs.Played.{reason_said}
use Rattle.script_lang.proofs.Looks.{both_stay, first_look, one_looked, second_look}
use Rattle.mmkv_top.proofs.Stepping.{no_events}
use Rattle.mmkv_top.specs.Looking.{AnswersRead, HasLooked, IsKnown, IsLooking, LookedOnce, LooksAt, NeverFind}
use Rattle.mmkv_top.specs.Progress.{CameTo}

-- a read changes nothing
no_write : (asked : Asked) → CanWrite asked → IsRead asked → ⊥
no_write (call.Get key) can read = can
no_write (call.Put key value seconds) can read = absurd cc
no_write (call.Remove key) can read = absurd cc
no_write call.Clear can read = absurd cc
no_write call.Keys can read = can
no_write call.Count can read = can
no_write (call.Enable seconds) can read = absurd cc
no_write call.Disable can read = absurd cc
no_write call.Hold can read = can
no_write call.Release can read = can
no_write call.Sync can read = can

pub reads_plainly : (asked : Asked) → IsRead asked → is_write asked ≡ false
reads_plainly (call.Get key) read = refl
reads_plainly (call.Put key value seconds) read = absurd cc
reads_plainly (call.Remove key) read = absurd cc
reads_plainly call.Clear read = absurd cc
reads_plainly call.Keys read = refl
reads_plainly call.Count read = refl
reads_plainly (call.Enable seconds) read = absurd cc
reads_plainly call.Disable read = absurd cc
reads_plainly call.Hold read = absurd cc
reads_plainly call.Release read = absurd cc
reads_plainly call.Sync read = refl

-- once both looks are made, or none can find anything, more of them change nothing
pub never_later : (start : Region) (kept : Option (List Event)) (looks : List (List Event)) (n m : ℕ) (past : List Event) → n ≤ m → NeverFind start kept (looked looks n past) → NeverFind start kept (looked looks m past)
never_later start None looks n m past le never = tt
never_later start (Some words) looks n m past le never = go (looked looks n past) refl never
  where
    go : (l : List (List Event)) → looked looks n past ≡ l → NeverFind start (Some words) l → NeverFind start (Some words) (looked looks m past)
    go [] is never = absurd never
    go (x ∷ []) is never = absurd never
    go (x ∷ y ∷ more) is never = subst (NeverFind start (Some words)) (sym (both_stay looks n m past x y more is le ∙ is)) never

-- as many looks are there before a line's first step
none_more : (start : Region) (kept : Option (List Event)) (looks : List (List Event)) (past : List Event) → NeverFind start kept looks → NeverFind start kept (looked looks 0 past)
none_more start None looks past never = tt
none_more start (Some words) [] past never = absurd never
none_more start (Some words) (x ∷ []) past never = absurd never
none_more start (Some words) (x ∷ y ∷ more) past never = never

lasting_at : (start : Region) (kept : Option (List Event)) (looks : List (List Event)) (past : List Event) (image : Option Image) (r : Running) (at : Stage) → LooksAt start kept looks image r at →
    LooksAt start kept (looked looks 0 past) image r at
lasting_at start kept looks past image r stage.PeekChecksum is = (is.0, λ read. let none = is.1 read in (ap (λ l. looked l 0 past) none.0, none.1))
lasting_at start kept looks past image r (stage.PeekSequence peek) is = (
  is.0,
  λ read. let once = is.1 read in (record { first = once.0.first; one = ap (λ l. looked l 0 past) once.0.one; checksum = once.0.checksum; place = once.0.place }, once.1),
)
lasting_at start kept looks past image r stage.LockExclusive is = is
lasting_at start kept looks past image r stage.Hold is = is
lasting_at start kept looks past image r stage.Release is = is
lasting_at start kept looks past image r (stage.LockShared extent) is = λ read. none_more start kept looks past (is read)
lasting_at start kept looks past image r (stage.Continue loading) is = λ read. none_more start kept looks past (is read)
lasting_at start kept looks past image r (stage.Load loading) is = λ read. none_more start kept looks past (is read)
lasting_at start kept looks past image r stage.Size is = λ read. none_more start kept looks past (is read)
lasting_at start kept looks past image r (stage.Reserve plan) is = λ read. none_more start kept looks past (is read)
lasting_at start kept looks past image r (stage.Store plan) is = λ read. none_more start kept looks past (is read)
lasting_at start kept looks past image r (stage.Unlock how) is = λ read. none_more start kept looks past (is read)

pub lasting_looks : (start : Region) (kept : Option (List Event)) (looks : List (List Event)) (past : List Event) (image : Option Image) (work : Work) (r : Option Running) → IsLooking start kept looks image work r →
    IsLooking start kept (looked looks 0 past) image work r
lasting_looks start kept looks past image Idle r is = is
lasting_looks start kept looks past image Ended r is = is
lasting_looks start kept looks past image (Runs c at) None is = tt
lasting_looks start kept looks past image (Runs c at) (Some r) is = lasting_at start kept looks past image r at is

-- what looks find is what the words that are kept were
pub clash : (start : Region) (kept : Option (List Event)) (looks : List (List Event)) → NeverFind start kept looks → FindWords start kept looks → ⊥
clash start None looks never found = found
clash start (Some words) [] never found = found
clash start (Some words) (x ∷ []) never found = found
clash start (Some words) (x ∷ y ∷ more) never found = never found

-- a look makes no event
pub still_past : (s t : Seated) → Goes (loaded (seat_state s)) (seat_state s) (seat_state t) → t.region.past ≡ s.region.past
still_past s t g = g.after.told.past ∙ ap (λ x. x ++ s.region.past) (g.after.told.none refl)

-- the load that follows two looks tells what they found
follows_both : (i : Image) (peek : Peek) (sequence : ℕ) (extent : Extent) → load_after (Some i) peek sequence ≡ Some extent → i.standing.sequence ≡ sequence → i.standing.checksum ≡ peek.checksum → ⊥
follows_both i peek sequence extent is seq sum =
    go (i.standing.sequence == sequence) (i.standing.checksum == peek.checksum) (eq-eqb i.standing.sequence sequence seq) (eq-eqb i.standing.checksum peek.checksum sum) is
  where
    go : (b d : Bool) → b ≡ true → d ≡ true → (if b then (if d then None else Some Partial) else Some Full) ≡ Some extent → ⊥
    go true true p q e = absurd cc
    go true false p q e = absurd cc
    go false d p q e = absurd cc

follows_none : (i : Image) (peek : Peek) (sequence : ℕ) → load_after (Some i) peek sequence ≡ None → (i.standing.sequence ≡ sequence) × (i.standing.checksum ≡ peek.checksum)
follows_none i peek sequence is = go (eqb_tells i.standing.sequence sequence) (eqb_tells i.standing.checksum peek.checksum)
  where
    go : ((eqb i.standing.sequence sequence ≡ true) × (i.standing.sequence ≡ sequence)) ⊎ ((eqb i.standing.sequence sequence ≡ false) × (i.standing.sequence ≢ sequence)) →
        ((eqb i.standing.checksum peek.checksum ≡ true) × (i.standing.checksum ≡ peek.checksum)) ⊎ ((eqb i.standing.checksum peek.checksum ≡ false) × (i.standing.checksum ≢ peek.checksum)) →
        (i.standing.sequence ≡ sequence) × (i.standing.checksum ≡ peek.checksum)
    go (inl p) (inl q) = (p.1, q.1)
    go (inl p) (inr q) =
        let e : Some Partial ≡ None = ap (λ b. if b then None else Some Partial) (sym q.0) ∙ ap (λ b. if b then (if i.standing.checksum == peek.checksum then None else Some Partial) else Some Full) (sym p.0) ∙ is in absurd cc
    go (inr p) q = let e : Some Full ≡ None = ap (λ b. if b then (if i.standing.checksum == peek.checksum then None else Some Partial) else Some Full) (sym p.0) ∙ is in absurd cc

-- a stage of a load
abbrev is_load : Stage → Bool
is_load (stage.LockShared extent) = true
is_load (stage.Continue loading) = true
is_load (stage.Load loading) = true
is_load at = false

-- it comes after the looks
short : (words : ℕ) (at : Stage) → is_load at ≡ true → steps_at words at ≤ 4 * words + 57
short words (stage.LockShared Partial) load = omega arith
short words (stage.LockShared Full) load = omega arith
short words (stage.Continue loading) load = omega arith
short words (stage.Load loading) load = omega arith
short words stage.PeekChecksum load = absurd cc
short words (stage.PeekSequence peek) load = absurd cc
short words stage.LockExclusive load = absurd cc
short words stage.Size load = absurd cc
short words (stage.Reserve plan) load = absurd cc
short words (stage.Store plan) load = absurd cc
short words (stage.Unlock how) load = absurd cc
short words stage.Hold load = absurd cc
short words stage.Release load = absurd cc

-- and only a plain call comes to one
plain_load : (asked : Asked) (at : Stage) → is_load at ≡ true → Suits asked at → IsPlain asked
plain_load asked (stage.LockShared extent) load suits = suits.0
plain_load asked (stage.Continue loading) load suits = suits
plain_load asked (stage.Load loading) load suits = suits
plain_load asked stage.PeekChecksum load suits = absurd cc
plain_load asked (stage.PeekSequence peek) load suits = absurd cc
plain_load asked stage.LockExclusive load suits = absurd cc
plain_load asked stage.Size load suits = absurd cc
plain_load asked (stage.Reserve plan) load suits = absurd cc
plain_load asked (stage.Store plan) load suits = absurd cc
plain_load asked (stage.Unlock how) load suits = absurd cc
plain_load asked stage.Hold load suits = absurd cc
plain_load asked stage.Release load suits = absurd cc

-- a step that goes on leaves fewer steps within some file
falls_by : (c next : Call) (at to : Stage) (t : ShareState) → Shortens (Runs c at) (Runs next to) t → (words : ℕ) × (steps_at words to < steps_at words at)
falls_by c next at to t falls = let words = size_met (Runs c at) (Runs next to) in (words, falls.falls words (omega arith))

-- no lock is taken by a look
none_taken : (holds : ℕ) (s t mine theirs : Option LockKind) → s ≡ lock_by holds mine → t ≡ lock_by holds theirs → (0 < holds → theirs ≡ None) → mine ≡ None → t ≡ s → theirs ≡ None
none_taken holds s t mine None of_s of_t own none same = refl
none_taken zero s t mine (Some kind) of_s of_t own none same = let e : Some kind ≡ None = sym of_t ∙ same ∙ of_s ∙ none in absurd cc
none_taken (suc holds) s t mine (Some kind) of_s of_t own none same = own (omega arith)

module _ (start : Region) (kept : Option (List Event)) (looks : List (List Event)) (n : ℕ) (past : List Event) where
  abbrev before : List (List Event)
  before = looked looks n past

  abbrev after : List (List Event)
  after = looked looks (n + 1) past

  -- the second look finds the words that are kept, or doesn't
  second_finds : (image : Option Image) (peek : Peek) (sequence : ℕ) → IsKnown start kept image → (once : LookedOnce start peek (looked looks n past)) → sequence ≡ sequence_at start past → load_after image peek sequence ≡ None →
      FindWords start kept (once.first ∷ past ∷ [])
  second_finds None peek sequence known once is load = absurd cc
  second_finds (Some i) peek sequence known once is load = go kept known
    where
      both : (i.standing.sequence ≡ sequence) × (i.standing.checksum ≡ peek.checksum)
      both = follows_none i peek sequence load

      go : (k : Option (List Event)) → IsKnown start k (Some i) → FindWords start k (once.first ∷ past ∷ [])
      go None known = absurd cc
      go (Some words) known = (sym once.checksum ∙ sym both.1 ∙ known.0, sym is ∙ sym both.0 ∙ known.1)

  second_fails : (image : Option Image) (peek : Peek) (sequence : ℕ) (extent : Extent) → IsKnown start kept image → LookedOnce start peek (looked looks n past) → sequence ≡ sequence_at start past →
      load_after image peek sequence ≡ Some extent → NeverFind start kept (looked looks (n + 1) past)
  second_fails image peek sequence extent known once is load = go kept known
    where
      two : looked looks (n + 1) past ≡ once.first ∷ past ∷ []
      two = second_look looks n past once.first once.one

      fails : (words : List Event) (image : Option Image) → MatchesRegion image start words → load_after image peek sequence ≡ Some extent →
          FindWords start (Some words) (once.first ∷ past ∷ []) → ⊥
      fails words None known load found = known
      fails words (Some i) known load found = follows_both i peek sequence extent load (known.1 ∙ sym found.1 ∙ sym is) (known.0 ∙ sym found.0 ∙ sym once.checksum)

      go : (k : Option (List Event)) → IsKnown start k image → NeverFind start k (looked looks (n + 1) past)
      go None known = tt
      go (Some words) known = subst (NeverFind start (Some words)) (sym two) (fails words image known load)

  module _ (s t : Seated) (o o' : OpenerState) (c : Call) (r : Running) (own : List Event) (follows : c.call ≡ r.call) (same : r.since ≡ [] → s.region.past ≡ past)
      (starts : t.region.start ≡ start) (grown : t.region.past ≡ own ++ s.region.past) where
    abbrev ss : ShareState
    ss = seat_state s

    abbrev tt' : ShareState
    tt' = seat_state t

    -- after a look without an event the events are those of the line's begin
    nothing_own : Goes (loaded (seat_state s)) (seat_state s) (seat_state t) → own ≡ []
    nothing_own g = no_events own s.region.past (sym grown ∙ still_past s t g)

    here : Goes (loaded (seat_state s)) (seat_state s) (seat_state t) → r.since ≡ [] → (P : Region → List Event → ℕ) → P t.region.start t.region.past ≡ P start past
    here g none P = ap (λ x. P x t.region.past) starts ∙ ap (P start) (still_past s t g ∙ same none)

    since_now : Goes (loaded (seat_state s)) (seat_state s) (seat_state t) → r.since ≡ [] → own ++ r.since ≡ []
    since_now g none = ap (λ x. x ++ r.since) (nothing_own g) ∙ none

    -- what a stage before the loads knows
    known_on : (at : Stage) → LooksAt start kept (looked looks n past) o.image r at → (is_load at ≡ true → ⊥) → still_looks at ≡ true → o'.image ≡ kept_at at o.image → IsKnown start kept o'.image
    known_on stage.PeekChecksum is loads looks image = subst (IsKnown start kept) (sym image) is.0
    known_on (stage.PeekSequence peek) is loads looks image = subst (IsKnown start kept) (sym image) is.0
    known_on stage.LockExclusive is loads looks image = subst (IsKnown start kept) (sym image) is.0
    known_on stage.Hold is loads looks image = subst (IsKnown start kept) (sym image) is.0
    known_on stage.Release is loads looks image = subst (IsKnown start kept) (sym image) is.0
    known_on (stage.LockShared extent) is loads looks image = absurd (loads refl)
    known_on (stage.Continue loading) is loads looks image = absurd (loads refl)
    known_on (stage.Load loading) is loads looks image = absurd (loads refl)
    known_on stage.Size is loads looks image = absurd cc
    known_on (stage.Reserve plan) is loads looks image = absurd cc
    known_on (stage.Store plan) is loads looks image = absurd cc
    known_on (stage.Unlock how) is loads looks image = absurd cc

    -- a step that goes on
    module _ (next : Call) (call_is : next.call ≡ c.call) (holds_are : o'.holds ≡ o.holds) where
      read_on : IsRead r.call → IsRead next.call
      read_on read = ap kind_of (call_is ∙ follows) ∙ read

      -- no load comes before a look
      looks_first : (at to : Stage) → (words : ℕ) × (steps_at words to < steps_at words at) → ((words : ℕ) → 4 * words + 57 ≤ steps_at words to) → is_load at ≡ true → ⊥
      looks_first at to falls far load = absurd (omega (arith, falls.1, far falls.0, short falls.0 at load))

      -- no read comes to its first look by a step
      never_first : (at : Stage) → LooksAt start kept (looked looks n past) o.image r at → ActsAt step.Going at o.image (Runs next stage.PeekChecksum) (seat_state s) (seat_state t) → (is_load at ≡ true → ⊥) → still_looks at ≡ true →
          (words : ℕ) × (steps_at words stage.PeekChecksum < steps_at words at) → IsRead r.call → ⊥
      never_first stage.PeekChecksum is acts loads looks falls read = acts
      never_first (stage.PeekSequence peek) is acts loads looks falls read = absurd (omega (arith, falls.1))
      never_first stage.LockExclusive is acts loads looks falls read = is.1 read
      never_first stage.Hold is acts loads looks falls read = is.1 read
      never_first stage.Release is acts loads looks falls read = is.1 read
      never_first (stage.LockShared extent) is acts loads looks falls read = loads refl
      never_first (stage.Continue loading) is acts loads looks falls read = loads refl
      never_first (stage.Load loading) is acts loads looks falls read = loads refl
      never_first stage.Size is acts loads looks falls read = absurd cc
      never_first (stage.Reserve plan) is acts loads looks falls read = absurd cc
      never_first (stage.Store plan) is acts loads looks falls read = absurd cc
      never_first (stage.Unlock how) is acts loads looks falls read = absurd cc

      -- and to its second just by the first
      look_follows : (at : Stage) (peek : Peek) → LooksAt start kept (looked looks n past) o.image r at → ActsAt step.Going at o.image (Runs next (stage.PeekSequence peek)) (seat_state s) (seat_state t) → (is_load at ≡ true → ⊥) → still_looks at ≡ true →
          (words : ℕ) × (steps_at words (stage.PeekSequence peek) < steps_at words at) → IsRead r.call → LookedOnce start peek (looked looks (n + 1) past) × (own ++ r.since ≡ [])
      look_follows stage.PeekChecksum peek is acts loads looking falls read =
          let none = is.1 read in (
            record {
              first = past;
              one = first_look looks n past none.0;
              checksum = acts.2 ∙ here acts.0 none.1 checksum_at;
              place = acts.1 ∙ ap (λ p. length (changes_of p)) (still_past s t acts.0 ∙ same none.1);
            },
            since_now acts.0 none.1,
          )
      look_follows (stage.PeekSequence before) peek is acts loads looking falls read = absurd (omega (arith, falls.1))
      look_follows stage.LockExclusive peek is acts loads looking falls read = absurd (is.1 read)
      look_follows stage.Hold peek is acts loads looking falls read = absurd (is.1 read)
      look_follows stage.Release peek is acts loads looking falls read = absurd (is.1 read)
      look_follows (stage.LockShared extent) peek is acts loads looking falls read = absurd (loads refl)
      look_follows (stage.Continue loading) peek is acts loads looking falls read = absurd (loads refl)
      look_follows (stage.Load loading) peek is acts loads looking falls read = absurd (loads refl)
      look_follows stage.Size peek is acts loads looking falls read = absurd cc
      look_follows (stage.Reserve plan) peek is acts loads looking falls read = absurd cc
      look_follows (stage.Store plan) peek is acts loads looking falls read = absurd cc
      look_follows (stage.Unlock how) peek is acts loads looking falls read = absurd cc

      -- the other stages find nothing any more
      finds_no_more : (at to : Stage) → (LooksNext (Runs next to) (seat_state s) (seat_state t) → ⊥) → IsAt o (Runs c at) →
          ((peek : Peek) → Goes (loaded (seat_state s)) (seat_state s) (seat_state t) → IsAt o (Runs c (stage.PeekSequence peek)) → IsRead r.call → (extent : Extent) × (next_load (Runs next to) ≡ Some extent)) →
          LooksAt start kept (looked looks n past) o.image r at → ActsAt step.Going at o.image (Runs next to) (seat_state s) (seat_state t) → IsRead r.call → NeverFind start kept (looked looks (n + 1) past)
      finds_no_more stage.PeekChecksum to unlooked is_at loads is acts read = absurd (unlooked acts)
      finds_no_more (stage.PeekSequence peek) to unlooked is_at loads is acts read =
          let once = is.1 read in
          let load = loads peek acts.0 is_at read in
          second_fails o.image peek (sequence_at t.region.start t.region.past) load.0 is.0 once.0 (here acts.0 once.1 sequence_at) (acts.1 ∙ load.1)
      finds_no_more stage.LockExclusive to unlooked is_at loads is acts read = absurd (is.1 read)
      finds_no_more stage.Hold to unlooked is_at loads is acts read = absurd (is.1 read)
      finds_no_more stage.Release to unlooked is_at loads is acts read = absurd (is.1 read)
      finds_no_more (stage.LockShared extent) to unlooked is_at loads is acts read = never_later start kept looks n (n + 1) past (omega arith) (is read)
      finds_no_more (stage.Continue loading) to unlooked is_at loads is acts read = never_later start kept looks n (n + 1) past (omega arith) (is read)
      finds_no_more (stage.Load loading) to unlooked is_at loads is acts read = never_later start kept looks n (n + 1) past (omega arith) (is read)
      finds_no_more stage.Size to unlooked is_at loads is acts read = never_later start kept looks n (n + 1) past (omega arith) (is read)
      finds_no_more (stage.Reserve plan) to unlooked is_at loads is acts read = never_later start kept looks n (n + 1) past (omega arith) (is read)
      finds_no_more (stage.Store plan) to unlooked is_at loads is acts read = never_later start kept looks n (n + 1) past (omega arith) (is read)
      finds_no_more (stage.Unlock how) to unlooked is_at loads is acts read = never_later start kept looks n (n + 1) past (omega arith) (is read)

      module _ (lock_s : (seat_state s).holds ≡ lock_by o.holds c.taken) (lock_t : (seat_state t).holds ≡ lock_by o'.holds next.taken) where
        -- a look of a read takes no lock that is to be given up
        free_still : (peek : Peek) → Goes (loaded (seat_state s)) (seat_state s) (seat_state t) → IsAt o (Runs c (stage.PeekSequence peek)) → IsRead r.call → (0 < o'.holds → next.taken ≡ None) → next.taken ≡ None
        free_still peek g at read own =
            none_taken o'.holds (seat_state s).holds (seat_state t).holds c.taken next.taken (lock_s ∙ ap (λ h. lock_by h c.taken) (sym holds_are)) lock_t own
            (at.2.2 (reads_plainly c.call (ap kind_of follows ∙ read))) g.after.holds

        going_looks : (at to : Stage) → IsAt o (Runs c at) → IsAt o' (Runs next to) → LooksAt start kept (looked looks n past) o.image r at → ActsAt step.Going at o.image (Runs next to) (seat_state s) (seat_state t) →
            IsStillKept (Runs next to) o'.image at o.image → Shortens (Runs c at) (Runs next to) (seat_state t) → LooksAt start kept (looked looks (n + 1) past) o'.image (going_on own r) to
        going_looks at stage.PeekChecksum is_at is_to is acts keeps falls =
            let less = falls_by c next at stage.PeekChecksum (seat_state t) falls in
            let first = looks_first at stage.PeekChecksum less (λ words. omega arith) in
            let still = keeps refl in
            (known_on at is first still.0 still.1, λ read. absurd (never_first at is acts first still.0 less read))
        going_looks at (stage.PeekSequence peek) is_at is_to is acts keeps falls =
            let less = falls_by c next at (stage.PeekSequence peek) (seat_state t) falls in
            let first = looks_first at (stage.PeekSequence peek) less (λ words. omega arith) in
            let still = keeps refl in
            (known_on at is first still.0 still.1, look_follows at peek is acts first still.0 less)
        going_looks at stage.LockExclusive is_at is_to is acts keeps falls =
            let less = falls_by c next at stage.LockExclusive (seat_state t) falls in
            let still = keeps refl in
            (known_on at is (looks_first at stage.LockExclusive less (λ words. omega arith)) still.0 still.1, λ read. no_write next.call is_to.1 (read_on read))
        going_looks at stage.Hold is_at is_to is acts keeps falls =
            let still = keeps refl in (
              known_on at is (λ load. subst IsPlain (sym call_is ∙ is_to.1) (plain_load c.call at load is_at.1)) still.0 still.1,
              λ read. let e : kind_of call.Hold ≡ kind_of r.call = ap kind_of (sym is_to.1 ∙ call_is ∙ follows) in let f : kind_of call.Hold ≡ _ = e ∙ read in absurd cc,
            )
        going_looks at stage.Release is_at is_to is acts keeps falls =
            let still = keeps refl in (
              known_on at is (λ load. subst IsPlain (sym call_is ∙ is_to.1) (plain_load c.call at load is_at.1)) still.0 still.1,
              λ read. let e : kind_of call.Release ≡ kind_of r.call = ap kind_of (sym is_to.1 ∙ call_is ∙ follows) in let f : kind_of call.Release ≡ _ = e ∙ read in absurd cc,
            )
        going_looks at (stage.LockShared extent) is_at is_to is acts keeps falls = finds_no_more at (stage.LockShared extent) (λ no. no) is_at (λ peek g at read. (extent, refl)) is acts
        going_looks at (stage.Continue loading) is_at is_to is acts keeps falls = finds_no_more at (stage.Continue loading) (λ no. no) is_at (λ peek g at read. (Partial, refl)) is acts
        going_looks at (stage.Load loading) is_at is_to is acts keeps falls = finds_no_more at (stage.Load loading) (λ no. no) is_at (λ peek g at read. (Full, refl)) is acts
        going_looks at stage.Size is_at is_to is acts keeps falls = finds_no_more at stage.Size (λ no. no) is_at (λ peek g at read. absurd (no_write next.call is_to.1 (read_on read))) is acts
        going_looks at (stage.Reserve plan) is_at is_to is acts keeps falls =
            finds_no_more at (stage.Reserve plan) (λ no. no) is_at (λ peek g at read. absurd (no_write next.call is_to.1 (read_on read))) is acts
        going_looks at (stage.Store plan) is_at is_to is acts keeps falls =
            finds_no_more at (stage.Store plan) (λ no. no) is_at (λ peek g at read. absurd (no_write next.call is_to.1 (read_on read))) is acts
        going_looks at (stage.Unlock how) is_at is_to is acts keeps falls =
            finds_no_more at (stage.Unlock how) (λ no. no) is_at (λ peek g at read. absurd (is_to.2.0 (free_still peek g at read is_to.0))) is acts

    -- a step of the call that is answered
    module _ (accepted : IsAccepted t.region.start) (apart : Apart t.region.start t.region.past) (m : ℕ) (le : n + 1 ≤ m) where
      -- after a load of the region, or a change
      fresh_answer : (a : Answer) (write : Bool) → is_fresh a ≡ true → IsKeptBy false write o.image o'.image (seat_state t) → (IsRead r.call → NeverFind start kept (looked looks m past)) →
          HasLooked start kept looks (looked looks m past) (step.Answered a) o' (Some (going_on own r)) t.region.past
      fresh_answer a write fresh keeps never = (
        subst (λ b. IsKnown start (if b then Some t.region.past else kept) o'.image) (sym fresh) (subst (λ x. MatchesRegion o'.image x t.region.past) starts (matches write keeps)),
        λ read. inl (fresh, never read),
      )
        where
          matches : (write : Bool) → KeepsWords write o'.image t.region.start t.region.past → MatchesRegion o'.image t.region.start t.region.past
          matches true keeps = keeps accepted apart
          matches false keeps = keeps

      -- and after a look alone, or a hold or release
      look_answer : (a : Answer) → is_fresh a ≡ false → o'.image ≡ o.image → IsKnown start kept o.image → (IsRead r.call → AnswersRead start kept looks (looked looks m past) a) →
          HasLooked start kept looks (looked looks m past) (step.Answered a) o' (Some (going_on own r)) t.region.past
      look_answer a fresh image known reads = (subst (λ b. IsKnown start (if b then Some t.region.past else kept) o'.image) (sym fresh) (subst (IsKnown start kept) (sym image) known), reads)

      answered_looks : (at : Stage) (a : Answer) → LooksAt start kept (looked looks n past) o.image r at → ActsAt (step.Answered a) at o.image o'.work (seat_state s) (seat_state t) →
          IsKeptBy (answers_by_look at) (is_write a.call) o.image o'.image (seat_state t) → (is_fresh a ≡ not (answers_by_look at)) × CountsLooks at a → IsPlaceOf (peek_of at) a → a.locks ≡ counted (locks_among (own ++ r.since)) →
          HasLooked start kept looks (looked looks m past) (step.Answered a) o' (Some (going_on own r)) t.region.past
      answered_looks stage.PeekChecksum a is acts keeps counts place locks = absurd acts
      answered_looks (stage.PeekSequence peek) a is acts keeps counts place locks = look_answer a counts.0 keeps is.0 read
        where
          read : IsRead r.call → AnswersRead start kept looks (looked looks m past) a
          read asks =
              let once = is.1 asks in
              let one : looked looks (n + 1) past ≡ once.0.first ∷ past ∷ [] = second_look looks n past once.0.first once.0.one in
              let two : looked looks m past ≡ once.0.first ∷ past ∷ [] = both_stay looks (n + 1) m past once.0.first past [] one le ∙ one in
              inr (
                counts.0,
                one_looked looks n past once.0.first once.0.one,
                subst (FindWords start kept) (sym two) (second_finds o.image peek (sequence_at t.region.start t.region.past) is.0 once.0 (here acts.0 once.1 sequence_at) acts.1),
                subst (λ l. IsByLooks l a) (sym two) (counts.1.0, counts.1.1, locks ∙ ap (λ l. counted (locks_among l)) (since_now acts.0 once.1), place ∙ once.0.place),
              )
      answered_looks stage.Hold a is acts keeps counts place locks = look_answer a counts.0 keeps is.0 (λ read. absurd (is.1 read))
      answered_looks stage.Release a is acts keeps counts place locks = look_answer a counts.0 keeps is.0 (λ read. absurd (is.1 read))
      answered_looks stage.LockExclusive a is acts keeps counts place locks = fresh_answer a (is_write a.call) counts.0 keeps (λ read. absurd (is.1 read))
      answered_looks (stage.LockShared extent) a is acts keeps counts place locks = fresh_answer a (is_write a.call) counts.0 keeps (λ read. never_later start kept looks n m past (omega (arith, le)) (is read))
      answered_looks (stage.Continue loading) a is acts keeps counts place locks = fresh_answer a (is_write a.call) counts.0 keeps (λ read. never_later start kept looks n m past (omega (arith, le)) (is read))
      answered_looks (stage.Load loading) a is acts keeps counts place locks = fresh_answer a (is_write a.call) counts.0 keeps (λ read. never_later start kept looks n m past (omega (arith, le)) (is read))
      answered_looks stage.Size a is acts keeps counts place locks = fresh_answer a (is_write a.call) counts.0 keeps (λ read. never_later start kept looks n m past (omega (arith, le)) (is read))
      answered_looks (stage.Reserve plan) a is acts keeps counts place locks = fresh_answer a (is_write a.call) counts.0 keeps (λ read. never_later start kept looks n m past (omega (arith, le)) (is read))
      answered_looks (stage.Store plan) a is acts keeps counts place locks = fresh_answer a (is_write a.call) counts.0 keeps (λ read. never_later start kept looks n m past (omega (arith, le)) (is read))
      answered_looks (stage.Unlock how) a is acts keeps counts place locks = fresh_answer a (is_write a.call) counts.0 keeps (λ read. never_later start kept looks n m past (omega (arith, le)) (is read))

    -- a step of the call that is stopped: no look stops it for a reason that is printed
    stopped_looks : (m : ℕ) → n + 1 ≤ m → (at : Stage) (why : Stop) → LooksAt start kept (looked looks n past) o.image r at → HasStopped (stop_found (Runs c at)) (Runs c at) why (seat_state s) (seat_state t) → IsRead r.call →
        IsTrue (is_some (reason_said why)) → NeverFind start kept (looked looks m past)
    stopped_looks m le stage.PeekChecksum why is cause read printed = absurd (unprinted why printed cause)
      where
        unprinted : (why : Stop) → IsTrue (is_some (reason_said why)) → HasReason (Runs c stage.PeekChecksum) why (seat_state s) (seat_state t) → ⊥
        unprinted (stop.Full need) printed cause = cause.0
        unprinted stop.SequenceEnd printed cause = cause.0
        unprinted stop.ExpiryOff printed cause = cause.0
        unprinted stop.ExpiryRange printed cause = cause.0
        unprinted stop.AlreadyOn printed cause = cause.0
        unprinted stop.AlreadyOff printed cause = cause.0
        unprinted stop.Fault printed cause = absurd cc
        unprinted stop.Memory printed cause = absurd cc
        unprinted stop.JournalFull printed cause = absurd cc
        unprinted (stop.NotWhole seen) printed cause = absurd cc
        unprinted (stop.Version v) printed cause = absurd cc
        unprinted (stop.Flags v) printed cause = absurd cc
    stopped_looks m le (stage.PeekSequence peek) why is cause read printed = absurd (unprinted why printed cause)
      where
        unprinted : (why : Stop) → IsTrue (is_some (reason_said why)) → HasReason (Runs c (stage.PeekSequence peek)) why (seat_state s) (seat_state t) → ⊥
        unprinted (stop.Full need) printed cause = cause.0
        unprinted stop.SequenceEnd printed cause = cause.0
        unprinted stop.ExpiryOff printed cause = cause.0
        unprinted stop.ExpiryRange printed cause = cause.0
        unprinted stop.AlreadyOn printed cause = cause.0
        unprinted stop.AlreadyOff printed cause = cause.0
        unprinted stop.Fault printed cause = absurd cc
        unprinted stop.Memory printed cause = absurd cc
        unprinted stop.JournalFull printed cause = absurd cc
        unprinted (stop.NotWhole seen) printed cause = absurd cc
        unprinted (stop.Version v) printed cause = absurd cc
        unprinted (stop.Flags v) printed cause = absurd cc
    stopped_looks m le stage.LockExclusive why is cause read printed = absurd (is.1 read)
    stopped_looks m le stage.Hold why is cause read printed = absurd (is.1 read)
    stopped_looks m le stage.Release why is cause read printed = absurd (is.1 read)
    stopped_looks m le (stage.LockShared extent) why is cause read printed = never_later start kept looks n m past (omega (arith, le)) (is read)
    stopped_looks m le (stage.Continue loading) why is cause read printed = never_later start kept looks n m past (omega (arith, le)) (is read)
    stopped_looks m le (stage.Load loading) why is cause read printed = never_later start kept looks n m past (omega (arith, le)) (is read)
    stopped_looks m le stage.Size why is cause read printed = never_later start kept looks n m past (omega (arith, le)) (is read)
    stopped_looks m le (stage.Reserve plan) why is cause read printed = never_later start kept looks n m past (omega (arith, le)) (is read)
    stopped_looks m le (stage.Store plan) why is cause read printed = never_later start kept looks n m past (omega (arith, le)) (is read)
    stopped_looks m le (stage.Unlock how) why is cause read printed = never_later start kept looks n m past (omega (arith, le)) (is read)

    -- a step that waits: a look doesn't
    blocked_looks : (m : ℕ) → n + 1 ≤ m → (at : Stage) (kind : LockKind) → IsTried (Runs c at) kind → LooksAt start kept (looked looks n past) o.image r at → o'.image ≡ o.image → LooksAt start kept (looked looks m past) o'.image (going_on own r) at
    blocked_looks m le stage.PeekChecksum kind tried is image = absurd cc
    blocked_looks m le (stage.PeekSequence peek) kind tried is image = absurd cc
    blocked_looks m le stage.LockExclusive kind tried is image = (subst (IsKnown start kept) (sym image) is.0, is.1)
    blocked_looks m le stage.Hold kind tried is image = (subst (IsKnown start kept) (sym image) is.0, is.1)
    blocked_looks m le stage.Release kind tried is image = (subst (IsKnown start kept) (sym image) is.0, is.1)
    blocked_looks m le (stage.LockShared extent) kind tried is image = λ read. never_later start kept looks n m past (omega (arith, le)) (is read)
    blocked_looks m le (stage.Continue loading) kind tried is image = λ read. never_later start kept looks n m past (omega (arith, le)) (is read)
    blocked_looks m le (stage.Load loading) kind tried is image = λ read. never_later start kept looks n m past (omega (arith, le)) (is read)
    blocked_looks m le stage.Size kind tried is image = λ read. never_later start kept looks n m past (omega (arith, le)) (is read)
    blocked_looks m le (stage.Reserve plan) kind tried is image = λ read. never_later start kept looks n m past (omega (arith, le)) (is read)
    blocked_looks m le (stage.Store plan) kind tried is image = λ read. never_later start kept looks n m past (omega (arith, le)) (is read)
    blocked_looks m le (stage.Unlock how) kind tried is image = λ read. never_later start kept looks n m past (omega (arith, le)) (is read)

    -- what a step of the call comes to
    going_on_looks : (at : Stage) (work : Work) → RunsOn c work → o'.holds ≡ o.holds → IsAt o (Runs c at) → (seat_state s).holds ≡ lock_in o.holds (Runs c at) → IsAt o' work → (seat_state t).holds ≡ lock_in o'.holds work →
        LooksAt start kept (looked looks n past) o.image r at → ActsAt step.Going at o.image work (seat_state s) (seat_state t) → IsStillKept work o'.image at o.image → Shortens (Runs c at) work (seat_state t) →
        IsLooking start kept (looked looks (n + 1) past) o'.image work (Some (going_on own r))
    going_on_looks at Idle on holds is_at lock_s is_to lock_t is acts keeps falls = absurd on
    going_on_looks at Ended on holds is_at lock_s is_to lock_t is acts keeps falls = absurd on
    going_on_looks at (Runs next to) on holds is_at lock_s is_to lock_t is acts keeps falls = going_looks next on.call holds lock_s lock_t at to is_at is_to is acts keeps falls

    pub call_looks : (who held m : ℕ) → n + 1 ≤ m → (at : Stage) (result : Step) → (result ≡ step.Going → n + 1 ≡ m) → IsAccepted t.region.start → Apart t.region.start t.region.past → IsAt o (Runs c at) → (seat_state s).holds ≡ lock_in o.holds (Runs c at) → IsAt o' o'.work →
        (seat_state t).holds ≡ lock_in o'.holds o'.work → LooksAt start kept (looked looks n past) o.image r at → KeepsCall o.who o.holds c result o' → HasCause (Runs c at) result o'.work (seat_state s) (seat_state t) →
        ActsAt result at o.image o'.work (seat_state s) (seat_state t) → OnAnswer result (IsPlaceOf (peek_of at)) → KeepsImage result at o.image o' (seat_state t) → CountedBy result at o'.work →
        Falls (Runs c at) result o'.work (seat_state t) → CameTo who t.region.past held (Some (going_on own r)) result o' →
        HasLooked start kept looks (looked looks m past) result o' (Some (going_on own r)) t.region.past
    call_looks who held m le at step.Idle last ok apart is_at lock_s is_to lock_t is keeps cause acts place image counts falls came = absurd keeps
    call_looks who held m le at step.Going last ok apart is_at lock_s is_to lock_t is keeps cause acts place image counts falls came =
        subst (λ k. IsLooking start kept (looked looks k past) o'.image o'.work (Some (going_on own r))) (last refl) (going_on_looks at o'.work keeps.0 keeps.1 is_at lock_s is_to lock_t is acts image falls)
    call_looks who held m le at step.Again last ok apart is_at lock_s is_to lock_t is keeps cause acts place image counts falls came = absurd came
    call_looks who held m le at (step.Blocked holder) last ok apart is_at lock_s is_to lock_t is keeps cause acts place image counts falls came =
        subst (λ w. IsLooking start kept (looked looks m past) o'.image w (Some (going_on own r))) (sym falls) (blocked_looks m le at cause.0 cause.1 is image)
    call_looks who held m le at (step.Answered a) last ok apart is_at lock_s is_to lock_t is keeps cause acts place image counts falls came = answered_looks ok apart m le at a is acts image counts place came.2.locks
    call_looks who held m le at (step.Stopped why) last ok apart is_at lock_s is_to lock_t is keeps cause acts place image counts falls came = (image, stopped_looks m le at why is cause)
