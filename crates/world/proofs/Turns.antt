-- The opener at a place takes its turn at the region.
use Rattle.std.proofs.Common.{◌≡◌, ◌≢◌, ℕ, ◌+◌, ◌-◌, ◌*◌, ◌<◌, ◌≤◌, Bool, true, false, not, ◌||◌, List, [], ◌∷◌, ◌++◌, length, set, refl, sym, ap, ◌∙◌, inl, inr, subst, arith, append-nil}
use Rattle.std.specs.Prelude.{◌↔◌, Option, Some, None, IfSome, IsTrue, is_some, slice_get, if◌then◌else◌}
use Rattle.std.specs.Ordering.{nat_cmp}
use Rattle.std.specs.FinSet as sets
use Rattle.change_log.specs.declared.call.Answer.{Answer}
use Rattle.change_log.specs.declared.call.Call.{Call}
use Rattle.lock_rules.specs.Locks.{unlocked}
use Rattle.lock_rules.specs.declared.table.LockKind.{LockKind}
use Rattle.lock_rules.specs.declared.table.LockKind.TheVariants.{Shared, Exclusive}
use Rattle.region_words.specs.Lawful.{Lawful}
use Rattle.region_words.specs.Local.{Local, Seated, account_of, after_admission, lock_after, seat_state, with_account}
use Rattle.region_words.specs.Past.{NoneOf, changes_of, has_died}
use Rattle.region_words.specs.Region.{Region}
use Rattle.region_words.specs.Share.{ShareState}
use Rattle.region_words.specs.Told.{History, OnTold}
use Rattle.region_words.specs.declared.event.Event.{Event}
use Rattle.region_words.proofs.Beside.{others_loads}
use Rattle.region_words.proofs.Later.{died_others, lock_others}
use Rattle.opener.specs.Adds.{AddsTo}
use Rattle.opener.specs.Begins.{Begins, refusal}
use Rattle.opener.specs.Bound.{Falls, steps_left}
use Rattle.opener.specs.Fresh.{CountedBy, CountsSoFar}
use Rattle.opener.specs.Opener.{HasCause, IsAnswer, KeepsWork, MakesOne, OnAnswer, Tied, is_ended, lock_in}
use Rattle.opener.specs.Settles.{AreSettled, BeginsSettled, Settles, answers_by}
use Rattle.opener.specs.State.{OpenerState}
use Rattle.opener.specs.Steps.{ActsAt, IsPlaceOf, KeepsImage, LeavesStores, OnRunning, TakesTried, peek_of}
use Rattle.opener.specs.declared.work.Work.{Work}
use Rattle.opener.specs.declared.work.Work.TheVariants.{Idle, Ended, Runs}
use Rattle.opener.proofs.Carry.{exclusive_if, exclusive_some}
use Rattle.opener.specs.declared.calls.Step.{Step}
use Rattle.opener.specs.declared.calls.Step.TheVariants as step
use Rattle.world.specs.World.{IsLiving, IsUnused, IsWorld, Lives, WorldState, calls_running, share_of}
use Rattle.world.specs.Moves.{Begun, HoldsAreKept, IfAnswered, IsSaid, Moves, Steps, new_opener}
use Rattle.world.specs.declared.moves.Moved.{Moved}
use Rattle.world.specs.declared.moves.Moved.TheVariants as moved
use Rattle.world.proofs.Numbered.{one_fewer_runs, within_is}
use Rattle.world.proofs.Stays.{agrees_with, held_while, stays_by}
use Rattle.world.proofs.Stepped.{EndsOrStays, began, counted_on, ends_or_stays, opened, room_left, stepped}

-- an opener that is turned to is tied to the seat
pub seated : (l : Local) (turned : Seated) (openers : List OpenerState) (answers : List Answer) (i : ℕ) (o : OpenerState) → IsWorld l openers answers → slice_get openers i ≡ Some o →
    turned ≡ record { who = i + 1; region = l } → Tied o (seat_state turned)
seated l turned openers answers i o world at is = subst (λ (s : Seated). Tied o (seat_state s)) (sym is) (world.each i o at).tied

-- it lives
pub lives_at : (openers : List OpenerState) (i : ℕ) (o : OpenerState) → slice_get openers i ≡ Some o → is_ended o.work ≡ false → Lives openers (i + 1) o
lives_at openers i o at alive =
    let e : i + 1 - 1 ≡ i = omega arith in
    record { numbered = omega arith; there = subst (λ n. slice_get openers n ≡ Some o) (sym e) at; alive = alive }

-- What its step promises.
pub record Made (o next : OpenerState) (came : Step) (s t : ShareState) : Type 0 where
  pub tied : Tied next t
  pub makes : MakesOne s t
  pub adds : AddsTo o.who o.work came next.work s t
  pub call : KeepsWork o came next
  pub cause : HasCause o.work came next.work s t
  pub takes : TakesTried o.work s t
  pub acts : OnRunning o.work (λ at. ActsAt came at o.image next.work s t)
  pub stores : OnRunning o.work (λ at. LeavesStores came at next.work)
  pub answer : OnAnswer came (λ a. OnTold t.told (λ h. IsAnswer a h.start h.past))
  pub place : OnRunning o.work (λ at. OnAnswer came (λ a. OnTold t.told (λ h. IsPlaceOf (peek_of at) a)))
  pub image : OnRunning o.work (λ at. KeepsImage came at o.image next t)
  pub counts : CountsSoFar o.work → OnRunning o.work (λ at. CountedBy came at next.work)
  pub falls : Falls o.work came next.work t
  pub settles : Settles o came next s t

-- an opener with a hold that lives has the lock for itself
pub holds_exclusive : (p : OpenerState) (work : Work) → p.work ≡ work → is_ended work ≡ false → 0 < p.holds → lock_in p.holds p.work ≡ Some Exclusive
holds_exclusive p Idle is alive some = ap (lock_in p.holds) is ∙ exclusive_if p.holds None some
holds_exclusive p Ended is alive some = absurd cc
holds_exclusive p (Runs running stage) is alive some = ap (lock_in p.holds) is ∙ exclusive_if p.holds running.taken some

pub same_seat : (s t : ShareState) → MakesOne s t → t.who ≡ s.who
same_seat s t (inl same) = ap (λ (x : ShareState). x.who) same
same_seat s t (inr (left, after, few)) = after.same.who

pub same_tag : (s t : ShareState) → MakesOne s t → t.tag ≡ s.tag
same_tag s t (inl same) = ap (λ (x : ShareState). x.tag) same
same_tag s t (inr (left, after, few)) = after.same.tag

module _ (l : Local) (turned new : Seated) (openers : List OpenerState) (answers : List Answer) (i : ℕ) (o next : OpenerState) (came : Step) (world : IsWorld l openers answers)
    (at : slice_get openers i ≡ Some o) (is : turned ≡ record { who = i + 1; region = l }) (made : Made o next came (seat_state turned) (seat_state new)) where
  seat_same : new.who ≡ i + 1
  seat_same = same_seat (seat_state turned) (seat_state new) made.makes ∙ ap (λ (s : Seated). s.who) is

  -- the same of the shares by their numbers
  numbered : Made o next came (share_of l (i + 1)) (share_of new.region (i + 1))
  numbered =
      subst (λ w. Made o next came (share_of l (i + 1)) (share_of new.region w)) seat_same
      (subst (λ (s : Seated). Made o next came (seat_state s) (seat_state new)) is made)

  counted : CountsSoFar o.work
  counted = (world.each i o at).counted

  pub world_after : IsWorld new.region (set openers i next) (answers ++ answers_by came)
  world_after = stepped l new.region openers answers i o next came world at numbered.makes numbered.tied numbered.settles numbered.call
      (counted_on o next came o.work refl made.call (made.counts counted))

  pub room_after : (room : ℕ) → length answers + calls_running openers ≤ room → length (answers ++ answers_by came) + calls_running (set openers i next) ≤ room
  room_after room within = room_left openers answers i o next came room at (ends_or_stays o next came o.work refl made.call) within

  pub start_same : new.region.start ≡ l.start
  start_same = go numbered.makes
    where
      go : MakesOne (share_of l (i + 1)) (share_of new.region (i + 1)) → new.region.start ≡ l.start
      go (inl same) = let told = ap (λ (s : ShareState). s.told) same in let history : record { start = new.region.start; past = new.region.past } ≡ record { start = l.start; past = l.past } = cc in ap (λ (h : History). h.start) history
      go (inr (left, after, few)) = after.told.start

  -- nothing was changed under another's hold
  pub held_kept : (more : List Answer) (noted : Bool) →
      HoldsAreKept (i + 1) (record { region = l; openers = openers; answers = answers; noted = noted }) (record { region = new.region; openers = set openers i next; answers = more; noted = noted })
  held_kept more noted other p apart lives some =
      let j = other - 1 in
      let is : j + 1 ≡ other = omega (arith, lives.numbered) in
      let apart' : i + 1 ≢ j + 1 = (λ e. apart (sym (e ∙ is))) in
      let tied = (world.each j p lives.there).tied in
      held_while (j + 1) l new.region (stays_by (i + 1) (j + 1) l new.region apart' numbered.makes) (agrees_with new.region (i + 1) (j + 1) numbered.tied.told.agrees)
      (Some Exclusive) (tied.holds ∙ holds_exclusive p p.work refl lives.alive some) (exclusive_some (Some Exclusive) refl)

  -- all that the world says of the step
  pub steps_are : (noted : Bool) (more : List Answer) → more ≡ answers ++ answers_by came → is_ended o.work ≡ false →
      Steps (i + 1) o next came (record { region = l; openers = openers; answers = answers; noted = noted }) (record { region = new.region; openers = set openers i next; answers = more; noted = noted })
  steps_are noted more more_is alive =
      let e : i + 1 - 1 ≡ i = omega arith in
      record {
        lives = lives_at openers i o at alive;
        number = (world.each i o at).number;
        openers = ap (λ n. set openers n next) (sym e);
        answers = more_is;
        start = start_same;
        noted = refl;
        makes = numbered.makes;
        others = λ w least most apart. others_loads l new.region (i + 1) w (same_tag (share_of l (i + 1)) (share_of new.region (i + 1)) numbered.makes) least most apart;
        adds = numbered.adds;
        call = numbered.call;
        cause = numbered.cause;
        takes = numbered.takes;
        acts = numbered.acts;
        stores = numbered.stores;
        answer = made.answer;
        place = made.place;
        image = numbered.image;
        counts = made.counts counted;
        falls = numbered.falls;
      }

-- where an opener answered there is room for its answer
pub room_for : (openers : List OpenerState) (count : ℕ) (i : ℕ) (o next : OpenerState) (came : Step) (room : ℕ) → slice_get openers i ≡ Some o → KeepsWork o came next →
    count + calls_running openers ≤ room → IfAnswered came (count < room)
room_for openers count i o next came room at keeps within = go came (ends_or_stays o next came o.work refl keeps)
  where
    go : (s : Step) → EndsOrStays o next s → IfAnswered s (count < room)
    go (step.Answered a) ends = omega (arith, within, one_fewer_runs openers i o next at ends.0 ends.1)
    go step.Idle ends = tt
    go step.Going ends = tt
    go step.Again ends = tt
    go (step.Blocked holder) ends = tt
    go (step.Stopped why) ends = tt

-- a region in memory turns nobody away
pub never_again : (came : Step) (o next : OpenerState) (s : Seated) (t : ShareState) → HasCause o.work came next.work (seat_state s) t → came ≢ step.Again
never_again step.Again o next s t cause e = let turns = cause.0.takes_turns in cc
never_again step.Idle o next s t cause e = cc
never_again step.Going o next s t cause e = cc
never_again (step.Blocked holder) o next s t cause e = cc
never_again (step.Answered a) o next s t cause e = cc
never_again (step.Stopped why) o next s t cause e = cc

-- what the world says of a step that was made
pub moves_by : (who count : ℕ) (said : Moved) (old new : WorldState) (o next : OpenerState) (came : Step) → IsSaid count came said → count ≡ length old.answers → Steps who o next came old new → Moves who said old new
moves_by who count said old new o next step.Idle is same steps = subst (λ m. Moves who m old new) (sym is) (o, next, step.Idle, refl, steps)
moves_by who count said old new o next step.Going is same steps = subst (λ m. Moves who m old new) (sym is) (o, next, step.Going, refl, steps)
moves_by who count said old new o next step.Again is same steps = absurd is
moves_by who count said old new o next (step.Blocked holder) is same steps = subst (λ m. Moves who m old new) (sym is) (o, next, step.Blocked holder, refl, steps)
moves_by who count said old new o next (step.Answered a) is same steps = subst (λ m. Moves who m old new) (sym is) (o, next, step.Answered a, ap moved.Answered same, steps)
moves_by who count said old new o next (step.Stopped why) is same steps = subst (λ m. Moves who m old new) (sym is) (o, next, step.Stopped why, refl, steps)

-- a step was made
pub is_moved : (count : ℕ) (came : Step) (said : Moved) → IsSaid count came said → said ≢ moved.NoOpener
is_moved count step.Idle said is e = let both = sym is ∙ e in cc
is_moved count step.Going said is e = let both = sym is ∙ e in cc
is_moved count step.Again said is e = absurd is
is_moved count (step.Blocked holder) said is e = let both = sym is ∙ e in cc
is_moved count (step.Answered a) said is e = let both = sym is ∙ e in cc
is_moved count (step.Stopped why) said is e = let both = sym is ∙ e in cc

-- A call is begun.
module _ (l : Local) (turned : Seated) (openers : List OpenerState) (answers : List Answer) (i : ℕ) (o next : OpenerState) (world : IsWorld l openers answers)
    (at : slice_get openers i ≡ Some o) (is : turned ≡ record { who = i + 1; region = l }) (tied : Tied next (seat_state turned)) where
  pub world_begun : BeginsSettled o next (seat_state turned) → CountsSoFar next.work → IsWorld turned.region (set openers i next) answers
  world_begun settles counted =
      subst (λ (s : Seated). IsWorld s.region (set openers i next) answers) (sym is)
      (began l openers answers i o next world at (subst (λ (s : Seated). Tied next (seat_state s)) is tied) (subst (λ (s : Seated). BeginsSettled o next (seat_state s)) is settles) counted)

  pub calls_begun : (noted : Bool) (asked : Call) (now : ℕ) → refusal o asked ≡ None → Begins asked now (length (changes_of turned.region.past)) o next → ((words : ℕ) → steps_left words next.work ≤ 6 * words + 100) →
      CountsSoFar next.work → is_ended o.work ≡ false →
      Begun (i + 1) asked now (record { region = l; openers = openers; answers = answers; noted = noted }) (record { region = turned.region; openers = set openers i next; answers = answers; noted = noted })
  calls_begun noted asked now first begins few counts alive =
      let e : i + 1 - 1 ≡ i = omega arith in
      let region : turned.region ≡ l = ap (λ (s : Seated). s.region) is in (
        o,
        next,
        record {
          lives = lives_at openers i o at alive;
          first = first;
          begins = subst (λ (m : Local). Begins asked now (length (changes_of m.past)) o next) region begins;
          few = few;
          counts = counts;
          openers = ap (λ n. set openers n next) (sym e);
          answers = refl;
          region = region;
          noted = refl;
        },
      )

-- an opener that was put back as it was
pub world_kept : (l : Local) (turned : Seated) (openers : List OpenerState) (answers : List Answer) (i : ℕ) (o next : OpenerState) → IsWorld l openers answers → slice_get openers i ≡ Some o →
    turned ≡ record { who = i + 1; region = l } → next ≡ o → IsWorld turned.region (set openers i next) answers
world_kept l turned openers answers i o next world at is same =
    subst (λ (s : Seated). IsWorld s.region (set openers i next) answers) (sym is)
    (began l openers answers i o next world at (subst (λ p. Tied p (share_of l (i + 1))) (sym same) (world.each i o at).tied)
    (λ own settled. subst (λ p. OnTold (share_of l (i + 1)).told (AreSettled p own)) (sym same) settled) (subst (λ (p : OpenerState). CountsSoFar p.work) (sym same) (world.each i o at).counted))

-- A number that nobody has: it lives, and holds nothing.
abbrev free_by : Bool → Option LockKind
free_by held = if held then Some Shared else None

unheld : (who : ℕ) → lock_after [] who ≡ None
unheld who = go (sets.contains unlocked.shared who) (sets.contains-empty nat_cmp who)
  where
    go : (b : Bool) → b ≡ false → free_by b ≡ None
    go false e = refl
    go true e = absurd cc

holds_nothing : (start : Region) (past : List Event) (who : ℕ) → Lawful start past → NoneOf who past → lock_after past who ≡ None
holds_nothing start past who lawful none =
    ap (λ p. lock_after p who) (sym (append-nil past)) ∙ (lock_others start past [] who (subst (Lawful start) (sym (append-nil past)) lawful) none ∙ unheld who)

not_dead : (past : List Event) (who : ℕ) → NoneOf who past → has_died past who ≡ false
not_dead past who none = ap (λ p. has_died p who) (sym (append-nil past)) ∙ died_others past [] who none

-- One more opener is let in.
module _ (l : Local) (turned new : Seated) (openers : List OpenerState) (answers : List Answer) (world : IsWorld l openers answers)
    (is : turned ≡ record { who = length openers + 1; region = l })
    (let_in : new ≡ record turned { region = with_account turned.region (length openers + 1) (after_admission (account_of turned.region.accounts (length openers + 1))) }) where
  abbrev pub who : ℕ
  who = length openers + 1

  unused : IsUnused l answers (length openers + 1)
  unused = world.unused (length openers + 1) (omega arith)

  seat_is : new.who ≡ who
  seat_is = ap (λ (s : Seated). s.who) let_in ∙ ap (λ (s : Seated). s.who) is

  region_is : new.region ≡ with_account l who (after_admission (account_of l.accounts who))
  region_is = ap (λ (s : Seated). s.region) let_in ∙ ap (λ (s : Seated). with_account s.region who (after_admission (account_of s.region.accounts who))) is

  past_is : new.region.past ≡ l.past
  past_is = ap (λ (m : Local). m.past) region_is

  pub is_new_alive : (account_of new.region.accounts who).admitted ≡ true → (seat_state new).ended ≡ false
  is_new_alive admitted =
      ap (λ w. not (account_of new.region.accounts w).admitted || has_died new.region.past w) seat_is
      ∙ (ap (λ b. not b || has_died new.region.past who) admitted ∙ (ap (λ p. has_died p who) past_is ∙ not_dead l.past who unused.silent))

  pub is_new_free : (seat_state new).holds ≡ None
  is_new_free = ap (lock_after new.region.past) seat_is ∙ (ap (λ p. lock_after p who) past_is ∙ holds_nothing l.start l.past who world.lawful unused.silent)

  pub world_opened : length openers < 64 → Tied (new_opener who) (seat_state new) → IsWorld new.region (openers ++ new_opener who ∷ []) answers
  world_opened room tied =
      opened l new.region openers answers (after_admission (account_of l.accounts who)) world room region_is (subst (λ w. Tied (new_opener who) (share_of new.region w)) seat_is tied)

-- Whether an opener of a number lives, by the place where it stands.
pub lives_some : (openers : List OpenerState) (who : ℕ) (found : Option ℕ) →
    IfSome found (λ place. (place + 1 ≡ who) × (place < length openers) × ((o : OpenerState) → slice_get openers place ≡ Some o → is_ended o.work ≡ false)) →
    (found ≡ None → (o : OpenerState) → Lives openers who o → ⊥) → IsTrue (is_some found) ↔ IsLiving openers who
lives_some openers who None some none = ((λ never. absurd cc), λ living. absurd (none refl living.0 living.1))
lives_some openers who (Some place) some none =
    let at = within_is openers place some.1 in
    ((λ yes. (at.0, subst (λ w. Lives openers w at.0) some.0 (lives_at openers place at.0 at.1 (some.2 at.0 at.1)))), λ living. refl)
