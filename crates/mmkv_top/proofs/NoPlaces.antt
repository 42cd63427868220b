-- The places that are kept for the openers, and a call that found none.
use Rattle.std.proofs.Common.{◌≡◌, ◌≢◌, ℕ, zero, suc, ◌+◌, ◌-◌, ◌<◌, ◌≤◌, ◌⊎◌, Bool, true, false, List, [], ◌∷◌, length, refl, sym, ap, ◌∙◌, inl, inr, arith, subst}
use Rattle.std.proofs.lemmas.Bool.Decides.{nat_tests}
use Rattle.std.proofs.lemmas.Bool.{cases_lt}
use Rattle.std.specs.Option.{option_map_or}
use Rattle.std.specs.Prelude.{Option, Some, None, IsTrue, not, nat_le, slice_get, ◌&&◌, ◌==◌, if◌then◌else◌}
use Rattle.change_log.specs.declared.call.Call.{Call as Asked}
use Rattle.change_log.specs.declared.call.Call.TheVariants as call
use Rattle.lock_rules.specs.Locks.{Locks, MayTake, holds_exclusive}
use Rattle.lock_rules.specs.declared.table.LockKind.{LockKind}
use Rattle.lock_rules.specs.declared.table.LockKind.TheVariants.{Exclusive, Shared}
use Rattle.opener.specs.Opener.{HasReason, HasStopped, IsAt, Owes, Tied, image_at, is_ended, is_storing, lock_in, stop_found}
use Rattle.opener.specs.Calls.{is_write, kind_of, kind_tried}
use Rattle.opener.specs.Plans.{CanWrite, IsPlanOf, events_in}
use Rattle.opener.specs.State.{OpenerState}
use Rattle.opener.specs.declared.calls.Stop.{Stop}
use Rattle.opener.specs.declared.calls.Stop.TheVariants as stop
use Rattle.opener.specs.declared.work.End.TheVariants as end
use Rattle.opener.specs.declared.work.Running.{Running as Call}
use Rattle.opener.specs.declared.work.Stage.{Stage}
use Rattle.opener.specs.declared.work.Stage.TheVariants as stage
use Rattle.opener.specs.declared.work.Work.{Work}
use Rattle.opener.specs.declared.work.Work.TheVariants.{Ended, Idle, Runs}
use Rattle.region_words.specs.Apart.{Apart}
use Rattle.region_words.specs.Local.{Seated, account_of, kept_after, reserved_in, seat_state}
use Rattle.region_words.specs.Past.{has_died, locks_after}
use Rattle.region_words.specs.Region.{Region, IsAccepted}
use Rattle.region_words.specs.Share.{Goes, IsFull, ShareState, lock_of, most_events, places_for, total, unlock_place, unmoved}
use Rattle.region_words.specs.declared.event.Event.{Event}
use Rattle.region_words.proofs.LockOf.{exclusive_is}
use Rattle.world.specs.World.{IsSound, WorldState, share_of}
use Rattle.script_lang.specs.Parts.{Part, Running, past_of, strategies}
use Rattle.script_lang.specs.Played.{AsksFor, IsTooFull, places_after}
use Rattle.mmkv_top.specs.Progress.{FollowsWork, IsOpenTo}

-- Who has places reserved holds the lock exclusive.
reserving : (o : OpenerState) (work : Work) (s : ShareState) → 0 < s.reserved s.who → Owes o work s → IsAt o work → lock_in o.holds work ≡ Some Exclusive
reserving o (Runs c (stage.Store plan)) s some owes at = at.2.0
reserving o Idle s some owes at = absurd (omega (arith, some, owes))
reserving o Ended s some owes at = absurd (omega (arith, some, owes))
reserving o (Runs c stage.PeekChecksum) s some owes at = absurd (omega (arith, some, owes))
reserving o (Runs c (stage.PeekSequence peek)) s some owes at = absurd (omega (arith, some, owes))
reserving o (Runs c (stage.LockShared extent)) s some owes at = absurd (omega (arith, some, owes))
reserving o (Runs c stage.LockExclusive) s some owes at = absurd (omega (arith, some, owes))
reserving o (Runs c (stage.Continue loading)) s some owes at = absurd (omega (arith, some, owes))
reserving o (Runs c (stage.Load loading)) s some owes at = absurd (omega (arith, some, owes))
reserving o (Runs c stage.Size) s some owes at = absurd (omega (arith, some, owes))
reserving o (Runs c (stage.Reserve plan)) s some owes at = absurd (omega (arith, some, owes))
reserving o (Runs c (stage.Unlock how)) s some owes at = absurd (omega (arith, some, owes))
reserving o (Runs c stage.Hold) s some owes at = absurd (omega (arith, some, owes))
reserving o (Runs c stage.Release) s some owes at = absurd (omega (arith, some, owes))

-- the opener at a place
pub opener_there : (openers : List OpenerState) (i : ℕ) → i < length openers → (o : OpenerState) × (slice_get openers i ≡ Some o)
opener_there [] i lt = absurd (omega (arith, lt))
opener_there (o ∷ openers) zero lt = (o, refl)
opener_there (o ∷ openers) (suc i) lt = opener_there openers i (omega (arith, lt))

pub holder : (w : WorldState) → IsSound w → (who : ℕ) → 1 ≤ who → who ≤ length w.openers → 0 < (share_of w.region who).reserved who → lock_of (locks_after w.region.past) who ≡ Some Exclusive
holder w sound who least most some =
    let i = who - 1 in
    let at = opener_there w.openers i (omega (arith, least, most)) in
    let is : i + 1 ≡ who = omega (arith, least) in
    let tied : Tied at.0 (share_of w.region who) = subst (λ v. Tied at.0 (share_of w.region v)) is (sound.each i at.0 at.1).tied in
    tied.holds ∙ reserving at.0 at.0.work (share_of w.region who) some tied.owes tied.at

pub free_of : (locks : Locks) (who : ℕ) (kind : LockKind) → MayTake locks who kind → locks.exclusive ≡ None
free_of locks who Shared may = may.1
free_of locks who Exclusive may = may.1

pub no_holder : (locks : Locks) (w : ℕ) → locks.exclusive ≡ None → IsTrue (holds_exclusive locks w) → ⊥
no_holder locks w none is = let never : holds_exclusive locks w ≡ false = ap (λ o. option_map_or (λ h. h == w) o false) none in let both : true ≡ false = sym is ∙ never in absurd cc

same_number : (a b : ℕ) → (a == b) ≡ true → a ≡ b
same_number a b t = grind (arith, nat_tests)

one_holder : (locks : Locks) (v w : ℕ) → IsTrue (holds_exclusive locks v) → IsTrue (holds_exclusive locks w) → v ≡ w
one_holder locks v w = go locks.exclusive
  where
    go : (e : Option ℕ) → IsTrue (option_map_or (λ h. h == v) e false) → IsTrue (option_map_or (λ h. h == w) e false) → v ≡ w
    go None a b = absurd cc
    go (Some h) a b = sym (same_number h v a) ∙ same_number h w b

-- so where a call asks for places nobody else has any
pub alone_asks : (start : Region) (who asked : ℕ) (c : Running) (past : List Event) → AsksFor start who c past asked → (w : ℕ) → w ≢ who → lock_of (locks_after past) w ≡ Some Exclusive → ⊥
alone_asks start who asked c past (inl (two, (kind, takes, may))) w apart held = no_holder (locks_after past) w (free_of (locks_after past) who kind may) (exclusive_is (locks_after past) w held)
alone_asks start who asked c past (inr (mine, writes, plan)) w apart held = apart (one_holder (locks_after past) w who (exclusive_is (locks_after past) w held) (exclusive_is (locks_after past) who mine))

abbrev first : ℕ → ℕ → Bool
first opened w = nat_le 1 w && nat_le w opened

abbrev no_places : ℕ → ℕ
no_places w = 0

-- the places that one opener has reserved
abbrev extra_for : (ℕ → Bool) → (ℕ → ℕ) → List Event → ℕ → ℕ
extra_for admitted reserved past w = if admitted w && not (has_died past w) then reserved w else 0

is_first : (opened w : ℕ) (b : Bool) → 1 ≤ w → b ≡ nat_le w opened → b ≡ first opened w
is_first opened w b least is = is ∙ go (nat_le 1 w) (yes 1 w least)
  where
    yes : (a b : ℕ) → a ≤ b → nat_le a b ≡ true
    yes a b le = grind (arith, nat_tests)

    go : (t : Bool) → t ≡ true → nat_le w opened ≡ (t && nat_le w opened)
    go true e = refl
    go false e = absurd cc

one_place : (a b d : Bool) (u x : ℕ) → a ≡ b → (if a && not d then 1 + u + x else 0) ≡ (if b && not d then 1 + u + 0 else 0) + (if a && not d then x else 0)
one_place true true true u x e = refl
one_place true true false u x e = omega arith
one_place true false d u x e = absurd cc
one_place false true d u x e = absurd cc
one_place false false d u x e = refl

total_split : (f g h : ℕ → ℕ) (n : ℕ) → ((w : ℕ) → 1 ≤ w → f w ≡ g w + h w) → total f n ≡ total g n + total h n
unfolding total
total_split f g h zero parts = refl
total_split f g h (suc n) parts = omega (arith, total_split f g h n parts, parts (suc n) (omega arith))

total_some : (f : ℕ → ℕ) (n : ℕ) → 0 < total f n → (w : ℕ) × (1 ≤ w) × (w ≤ n) × (0 < f w)
unfolding total
total_some f zero some = absurd (omega (arith, some))
total_some f (suc n) some = go (λ some. total_some f n some) some (cases_lt 0 (f (suc n)))
  where
    go : (0 < total f n → (w : ℕ) × (1 ≤ w) × (w ≤ n) × (0 < f w)) → 0 < total f n + f (suc n) → (0 < f (suc n)) ⊎ (f (suc n) ≤ 0) → (w : ℕ) × (1 ≤ w) × (w ≤ suc n) × (0 < f w)
    go rest some (inl here) = (suc n, omega arith, omega arith, here)
    go rest some (inr none) = let before = rest (omega (arith, some, none)) in (before.0, before.1, omega (arith, before.2), before.3)

-- The places that are kept are those for deaths and unlocks, and those that are reserved.
module _ (w : WorldState) (sound : IsSound w) (opened : ℕ) (open_to : IsOpenTo opened w.region) (all : opened ≡ length w.openers) where
  abbrev admitted : ℕ → Bool
  admitted v = (account_of w.region.accounts v).admitted

  abbrev extra : ℕ
  extra = total (extra_for admitted (reserved_in w.region) w.region.past) 64

  kept_parts : kept_after w.region ≡ places_after opened w.region.past + extra
  kept_parts =
      total_split (places_for admitted (reserved_in w.region) w.region.past) (places_for (first opened) no_places w.region.past) (extra_for admitted (reserved_in w.region) w.region.past) 64
      (λ v least. one_place (admitted v) (first opened v) (has_died w.region.past v) (unlock_place (lock_of (locks_after w.region.past) v)) (reserved_in w.region v) (is_first opened v (admitted v) least (open_to v least)))

  -- whoever has any reserved
  pub record Reserver : Type 0 where
    pub number : ℕ
    pub least : 1 ≤ number
    pub most : number ≤ opened
    pub some : 0 < reserved_in w.region number
    pub holds : lock_of (locks_after w.region.past) number ≡ Some Exclusive

  reserver : 0 < extra → Reserver
  reserver some =
      let v = total_some (extra_for admitted (reserved_in w.region) w.region.past) 64 some in
      let has = go (admitted v.0) (has_died w.region.past v.0) (reserved_in w.region v.0) v.3 in
      let most = within v.0 opened (sym (open_to v.0 v.1) ∙ has.0) in
      record { number = v.0; least = v.1; most = most; some = has.1; holds = holder w sound v.0 v.1 (omega (arith, all, most)) has.1 }
    where
      go : (a d : Bool) (x : ℕ) → 0 < (if a && not d then x else 0) → (a ≡ true) × (0 < x)
      go true false x some = (refl, some)
      go true true x some = absurd (omega (arith, some))
      go false d x some = absurd (omega (arith, some))

      within : (v n : ℕ) → nat_le v n ≡ true → v ≤ n
      within v n t = grind (arith, nat_tests)

  -- there is room for the events and the places kept
  pub roomy : length w.region.past + places_after opened w.region.past ≤ most_events
  roomy = omega (arith, kept_parts, sound.roomy)

  -- where nobody has any reserved
  pub too_full : (asked : ℕ) → ((v : Reserver) → ⊥) → most_events < length w.region.past + kept_after w.region + asked → IsTooFull opened w.region.past asked
  too_full asked nobody full = omega (arith, kept_parts, full, none (cases_lt 0 extra))
    where
      none : (0 < extra) ⊎ (extra ≤ 0) → extra ≡ 0
      none (inl some) = absurd (nobody (reserver some))
      none (inr zeros) = omega (arith, zeros)

  -- one more opener has no place
  pub no_place : most_events < length w.region.past + kept_after w.region + 1 →
      (reserved : ℕ) × (0 < reserved → Reserver) × IsTooFull opened w.region.past (reserved + 1)
  no_place full = (extra, reserver, omega (arith, kept_parts, full))

-- a call that changes the map
writes : (asked : Asked) → CanWrite asked → is_write asked ≡ true
writes (call.Put key value seconds) can = refl
writes (call.Remove key) can = refl
writes call.Clear can = refl
writes (call.Get key) can = absurd can
writes call.Keys can = absurd can
writes call.Count can = absurd can
writes (call.Enable seconds) can = refl
writes call.Disable can = refl
writes call.Hold can = absurd can
writes call.Release can = absurd can
writes call.Sync can = absurd can

-- who has places reserved runs a write
pub writing : (o : OpenerState) (work : Work) (r : Option Running) (s : ShareState) → 0 < s.reserved s.who → Owes o work s → IsAt o work → FollowsWork work r →
    (c : Running) × (r ≡ Some c) × (is_write c.call ≡ true)
writing o (Runs c (stage.Store plan)) (Some r) s some owes at follows = (r, refl, ap is_write (sym follows.call) ∙ writes c.call at.1)
writing o (Runs c (stage.Store plan)) None s some owes at follows = absurd follows
writing o Idle r s some owes at follows = absurd (omega (arith, some, owes))
writing o Ended r s some owes at follows = absurd (omega (arith, some, owes))
writing o (Runs c stage.PeekChecksum) r s some owes at follows = absurd (omega (arith, some, owes))
writing o (Runs c (stage.PeekSequence peek)) r s some owes at follows = absurd (omega (arith, some, owes))
writing o (Runs c (stage.LockShared extent)) r s some owes at follows = absurd (omega (arith, some, owes))
writing o (Runs c stage.LockExclusive) r s some owes at follows = absurd (omega (arith, some, owes))
writing o (Runs c (stage.Continue loading)) r s some owes at follows = absurd (omega (arith, some, owes))
writing o (Runs c (stage.Load loading)) r s some owes at follows = absurd (omega (arith, some, owes))
writing o (Runs c stage.Size) r s some owes at follows = absurd (omega (arith, some, owes))
writing o (Runs c (stage.Reserve plan)) r s some owes at follows = absurd (omega (arith, some, owes))
writing o (Runs c (stage.Unlock how)) r s some owes at follows = absurd (omega (arith, some, owes))
writing o (Runs c stage.Hold) r s some owes at follows = absurd (omega (arith, some, owes))
writing o (Runs c stage.Release) r s some owes at follows = absurd (omega (arith, some, owes))

-- and lives
pub reserves_alive : (o : OpenerState) (work : Work) (s : ShareState) → 0 < s.reserved s.who → Owes o work s → is_ended work ≡ false
reserves_alive o Idle s some owes = refl
reserves_alive o (Runs c at) s some owes = refl
reserves_alive o Ended s some owes = absurd (omega (arith, some, owes))

-- after the lines there is room
abbrev HasRoom : List Part → Type 0
HasRoom parts = length (past_of parts) + places_after (length (strategies parts)) (past_of parts) ≤ most_events

-- where a stop is found, no stores are under way, and nothing is reserved
pub at_stop : (o : OpenerState) (work : Work) (s : ShareState) (why : Stop) → stop_found work ≡ Some why → (is_storing work ≡ false) × (Owes o work s → s.reserved s.who ≡ 0)
at_stop o Idle s why e = absurd cc
at_stop o Ended s why e = absurd cc
at_stop o (Runs c stage.PeekChecksum) s why e = absurd cc
at_stop o (Runs c (stage.PeekSequence peek)) s why e = absurd cc
at_stop o (Runs c (stage.LockShared extent)) s why e = absurd cc
at_stop o (Runs c stage.LockExclusive) s why e = absurd cc
at_stop o (Runs c (stage.Continue loading)) s why e = absurd cc
at_stop o (Runs c (stage.Load loading)) s why e = absurd cc
at_stop o (Runs c stage.Size) s why e = absurd cc
at_stop o (Runs c (stage.Reserve plan)) s why e = absurd cc
at_stop o (Runs c (stage.Store plan)) s why e = absurd cc
at_stop o (Runs c (stage.Unlock (end.Answer place reply))) s why e = absurd cc
at_stop o (Runs c (stage.Unlock (end.Stop found))) s why e = (refl, λ owes. owes)
at_stop o (Runs c stage.Hold) s why e = absurd cc
at_stop o (Runs c stage.Release) s why e = absurd cc

-- the call found no places: it asked for a lock that it may take, or for the events of its rows
pub record FoundNone (who : ℕ) (r : Running) (s t : Seated) : Type 0 where
  pub stays : Goes (unmoved (seat_state s)) (seat_state s) (seat_state t)
  pub asked : ℕ
  pub asks : AsksFor t.region.start who r t.region.past asked
  pub full : IsFull asked (seat_state t)

for_lock : (who : ℕ) (c : Call) (r : Running) (s t : Seated) → t.who ≡ who → (kind : LockKind) → kind_of r.call ≡ Some kind → Goes (unmoved (seat_state s)) (seat_state s) (seat_state t) → IsFull 2 (seat_state t) →
    MayTake (locks_after t.region.past) t.who kind → FoundNone who r s t
for_lock who c r s t one kind takes goes full free =
    record { stays = goes; asked = 2; asks = inl (refl, (kind, takes, subst (λ w. MayTake (locks_after t.region.past) w kind) one free)); full = full }

-- a try is one of the kind of the call
kind_at : (c : Call) (at : Stage) (kind : LockKind) → kind_tried c.call at ≡ Some kind → kind_of c.call ≡ Some kind
kind_at c (stage.LockShared extent) kind tried = tried
kind_at c stage.LockExclusive kind tried = tried
kind_at c stage.Hold kind tried = tried
kind_at c stage.PeekChecksum kind tried = absurd cc
kind_at c (stage.PeekSequence peek) kind tried = absurd cc
kind_at c (stage.Continue loading) kind tried = absurd cc
kind_at c (stage.Load loading) kind tried = absurd cc
kind_at c stage.Size kind tried = absurd cc
kind_at c (stage.Reserve plan) kind tried = absurd cc
kind_at c (stage.Store plan) kind tried = absurd cc
kind_at c (stage.Unlock how) kind tried = absurd cc
kind_at c stage.Release kind tried = absurd cc

pub found_none : (who : ℕ) (o : OpenerState) (c : Call) (at : Stage) (r : Running) (s t : Seated) → s.who ≡ who → t.who ≡ who → (seat_state s).holds ≡ lock_in o.holds (Runs c at) → IsAt o (Runs c at) →
    c.call ≡ r.call → c.now ≡ r.now → HasReason (Runs c at) stop.JournalFull (seat_state s) (seat_state t) → FoundNone who r s t
found_none who o c at r s t was one holds is call now (inl h) = for_lock who c r s t one h.0 (ap kind_of (sym call) ∙ kind_at c at h.0 h.1) h.2.0 h.2.1 h.2.2
found_none who o c (stage.Reserve plan) r s t was one holds is call now (inr h) =
    record {
      stays = h.0.0;
      asked = events_in plan;
      asks = inr (
        subst (λ w. lock_of (locks_after t.region.past) w ≡ Some Exclusive) one (h.0.0.after.holds ∙ holds ∙ is.2.0),
        ap is_write (sym call) ∙ writes c.call is.1,
        (plan, refl, subst (λ w. PlanFor w r.call r.now) was (subst (λ x. PlanFor s.who x r.now) call (subst (λ n. PlanFor s.who c.call n) now h.2))),
      );
      full = h.0.1;
    }
  where
    PlanFor : ℕ → Asked → ℕ → Type 0
    PlanFor number asked moment = IsAccepted t.region.start → Apart t.region.start t.region.past → IsPlanOf number asked moment (image_at t.region.start t.region.past) plan
found_none who o c stage.PeekChecksum r s t was one holds is call now (inr never) = absurd never
found_none who o c (stage.PeekSequence peek) r s t was one holds is call now (inr never) = absurd never
found_none who o c (stage.LockShared extent) r s t was one holds is call now (inr never) = absurd never
found_none who o c stage.LockExclusive r s t was one holds is call now (inr never) = absurd never
found_none who o c (stage.Continue loading) r s t was one holds is call now (inr never) = absurd never
found_none who o c (stage.Load loading) r s t was one holds is call now (inr never) = absurd never
found_none who o c stage.Size r s t was one holds is call now (inr never) = absurd never
found_none who o c (stage.Store plan) r s t was one holds is call now (inr never) = absurd never
found_none who o c (stage.Unlock how) r s t was one holds is call now (inr never) = absurd never
found_none who o c stage.Hold r s t was one holds is call now (inr never) = absurd never
found_none who o c stage.Release r s t was one holds is call now (inr never) = absurd never

-- a step stops for want of places where it finds none, and not for what was found before
pub reason_now : (found : Option Stop) (work : Work) (s t : ShareState) → found ≢ Some stop.JournalFull → HasStopped found work stop.JournalFull s t → HasReason work stop.JournalFull s t
reason_now None work s t unfull h = h
reason_now (Some found) work s t unfull (inl same) = absurd (unfull (ap Some (sym same)))
reason_now (Some found) work s t unfull (inr (fault, fails)) = absurd cc
