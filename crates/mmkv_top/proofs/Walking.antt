-- A line goes on by one step of its opener in the world.
use Rattle.std.proofs.Common.{◌≡◌, ◌≢◌, ℕ, zero, suc, ◌+◌, ◌-◌, ◌<◌, ◌≤◌, List, [], ◌∷◌, ◌++◌, length, set, refl, sym, ap, ◌∙◌, arith, subst, append-nil, append_assoc, length-append}
use Rattle.std.proofs.lemmas.List.{length-set}
use Rattle.std.specs.Prelude.{Option, Some, option_map, slice_get}
use Rattle.opener.specs.Opener.{stop_found}
use Rattle.opener.specs.Settles.{answers_by}
use Rattle.opener.specs.State.{OpenerState}
use Rattle.opener.specs.declared.calls.Step.{Step}
use Rattle.opener.specs.declared.calls.Step.TheVariants as step
use Rattle.opener.specs.declared.calls.Stop.TheVariants as stop
use Rattle.opener.specs.Opener.{Tied}
use Rattle.region_words.specs.Apart.{Apart}
use Rattle.region_words.specs.Region.{Region}
use Rattle.region_words.specs.Share.{made_by}
use Rattle.region_words.proofs.ReadLaws.{apart_front}
use Rattle.region_words.specs.declared.event.Event.{Event}
use Rattle.world.specs.World.{IsSound, Lives, WorldState, share_of}
use Rattle.world.specs.Moves.{IsSaid, Moves, Steps}
use Rattle.world.specs.declared.moves.Moved.{Moved}
use Rattle.world.specs.declared.moves.Moved.TheVariants as moved
use Rattle.world.proofs.Numbered.{set_there}
use Rattle.script_lang.specs.Kept.{looked}
use Rattle.script_lang.specs.Parts.{Running, going_on}
use Rattle.script_lang.proofs.Calls.{going_none}
use Rattle.mmkv_top.specs.Looking.{HasLooked, IsLooking}
use Rattle.mmkv_top.specs.Progress.{IsPlaced, MetFull, Stepped, Walks, seat_at}
use Rattle.mmkv_top.proofs.LineEnds.{said_going}
use Rattle.mmkv_top.proofs.Looking.{lasting_looks}
use Rattle.mmkv_top.proofs.LineLooks.{step_looks}
use Rattle.mmkv_top.proofs.Stepping.{at_most, follows_alive, full_met, lives_on, moved, one_more}

-- an element that is put where it stands, and one that is put over another
set_same : {A : Type 0} (xs : List A) (i : ℕ) (x : A) → slice_get xs i ≡ Some x → set xs i x ≡ xs
set_same [] i x is = refl
set_same (y ∷ xs) zero x is = let e : y ≡ x = cc in ap (λ z. z ∷ xs) (sym e)
set_same (y ∷ xs) (suc i) x is = ap (λ l. y ∷ l) (set_same xs i x is)

set_twice : {A : Type 0} (xs : List A) (i : ℕ) (x y : A) → set (set xs i x) i y ≡ set xs i y
set_twice [] i x y = refl
set_twice (z ∷ xs) zero x y = refl
set_twice (z ∷ xs) (suc i) x y = ap (λ l. z ∷ l) (set_twice xs i x y)

-- where a step was made, it was one of an opener that lives
pub record Made (who : ℕ) (said : Moved) (old new : WorldState) : Type 0 where
  pub o : OpenerState
  pub next : OpenerState
  pub came : Step
  pub is : IsSaid (length old.answers) came said
  pub steps : Steps who o next came old new

was_made : (who : ℕ) (said : Moved) (old new : WorldState) (o : OpenerState) → Lives old.openers who o → Moves who said old new → Made who said old new
was_made who moved.NoOpener old new o lives m = absurd (m.1 o lives)
was_made who moved.Idle old new o lives m = record { o = m.0; next = m.1; came = m.2; is = m.3; steps = m.4 }
was_made who moved.Going old new o lives m = record { o = m.0; next = m.1; came = m.2; is = m.3; steps = m.4 }
was_made who (moved.Blocked holder) old new o lives m = record { o = m.0; next = m.1; came = m.2; is = m.3; steps = m.4 }
was_made who (moved.Answered place) old new o lives m = record { o = m.0; next = m.1; came = m.2; is = m.3; steps = m.4 }
was_made who (moved.Stopped why) old new o lives m = record { o = m.0; next = m.1; came = m.2; is = m.3; steps = m.4 }

going_said : (count : ℕ) (came : Step) (said : Moved) → IsSaid count came said → came ≡ step.Going → said ≡ moved.Going
going_said count came said is going = subst (λ c. IsSaid count c said) going is

-- nothing was walked yet
pub walks_begin : (who opened : ℕ) (start : Region) (past : List Event) (held : ℕ) (before : Option Running) (o : OpenerState) (w : WorldState) → Lives w.openers who o →
    Stepped who opened start past held before o.work 0 step.Going [] o (seat_at who w.region) → Walks who opened start past held before o.work 0 moved.Going w w
walks_begin who opened start past held before o w lives first =
    record {
      next = o;
      came = step.Going;
      made = [];
      is = refl;
      stepped = first;
      leaves = record { openers = sym (set_same w.openers (who - 1) o lives.there); answers = sym (append-nil w.answers) };
      looking = λ x there kept looks was apart.
          let same : x ≡ o = let both = sym there.there ∙ lives.there in cc in
          subst (IsLooking start kept (looked looks 0 past) o.image o.work) (sym (going_none before))
          (lasting_looks start kept looks past o.image o.work before (subst (λ (y : OpenerState). IsLooking start kept looks y.image y.work before) same (was apart)));
    }

module _ (who opened : ℕ) (start : Region) (past : List Event) (held : ℕ) (before : Option Running) (first : OpenerState) (n : ℕ) (begun old new : WorldState) (said : Moved)
    (lived : Lives begun.openers who first) (here : IsSound old) (there : IsSound new) (all : opened ≡ length old.openers) (moves : Moves who said old new)
    (w : Walks who opened start past held before first.work n moved.Going begun old) where
  goes : w.came ≡ step.Going
  goes = said_going (length begun.answers) w.came w.is

  st : Stepped who opened start past held before first.work n step.Going w.made w.next (seat_at who old.region)
  st = subst (λ c. Stepped who opened start past held before first.work n c w.made w.next (seat_at who old.region)) goes w.stepped

  mine : slice_get old.openers (who - 1) ≡ Some w.next
  mine = subst (λ l. slice_get l (who - 1) ≡ Some w.next) (sym w.leaves.openers) (set_there begun.openers (who - 1) first w.next lived.there)

  now_lives : Lives old.openers who w.next
  now_lives = record { numbered = lived.numbered; there = mine; alive = follows_alive w.next.work _ st.came.0 }

  made : Made who said old new
  made = was_made who said old new w.next now_lives moves

  same : made.o ≡ w.next
  same = let both = sym made.steps.lives.there ∙ mine in cc

  steps : Steps who w.next made.next made.came old new
  steps = subst (λ o. Steps who o made.next made.came old new) same made.steps

  number : (who - 1) + 1 ≡ who
  number = omega (arith, lived.numbered)

  tied : Tied w.next (share_of old.region who)
  tied = subst (λ v. Tied w.next (share_of old.region v)) number (here.each (who - 1) w.next mine).tied

  placed : slice_get new.openers (who - 1) ≡ Some made.next
  placed = subst (λ l. slice_get l (who - 1) ≡ Some made.next) (sym steps.openers) (set_there old.openers (who - 1) w.next made.next mine)

  tied' : Tied made.next (share_of new.region who)
  tied' = subst (λ v. Tied made.next (share_of new.region v)) number (there.each (who - 1) made.next placed).tied

  still : opened ≡ length new.openers
  still = all ∙ sym (ap length steps.openers ∙ length-set old.openers (who - 1) made.next)

  next_lives : Lives new.openers who made.next
  next_lives =
      record {
        numbered = lived.numbered;
        there = placed;
        alive = lives_on who opened start past held before first.work n w.made w.next made.next old new made.came there still st tied tied' steps;
      }

  answers_were : old.answers ≡ begun.answers
  answers_were = w.leaves.answers ∙ ap (λ c. begun.answers ++ answers_by c) goes ∙ append-nil begun.answers

  looking_so_far : (x : OpenerState) → Lives begun.openers who x → (kept : Option (List Event)) (looks : List (List Event)) → (Apart start past → IsLooking start kept looks x.image x.work before) → Apart start (w.made ++ past) →
      IsLooking start kept (looked looks n past) w.next.image w.next.work (option_map (going_on w.made) before)
  looking_so_far x lives kept looks was apart =
      subst (λ c. HasLooked start kept looks (looked looks n past) c w.next (option_map (going_on w.made) before) (w.made ++ past)) goes (w.looking x lives kept looks was apart)

  -- one step more on the way
  pub walks_on : (count : ℕ) → n + 1 ≤ count → (said ≡ moved.Going → n + 1 ≡ count) → (said ≡ moved.Going → (o : OpenerState) → Lives new.openers who o → stop_found o.work ≢ Some stop.JournalFull) →
      Walks who opened start past held before first.work count said begun new
  walks_on count below last unfull =
      let next = one_more who opened start past held before first.work n w.made w.next made.next old new made.came there still st tied tied' steps
      (λ going. unfull (going_said (length old.answers) made.came said made.is going) made.next next_lives) in
      record {
        next = made.next;
        came = made.came;
        made = _;
        is = subst (λ l. IsSaid (length l) made.came said) answers_were made.is;
        stepped = at_most who opened start past held before first.work (n + 1) count made.came _ made.next (seat_at who new.region) below
            (λ going. last (going_said (length old.answers) made.came said made.is going)) next;
        leaves = record {
          openers = steps.openers ∙ ap (λ l. set l (who - 1) made.next) w.leaves.openers ∙ set_twice begun.openers (who - 1) w.next made.next;
          answers = steps.answers ∙ ap (λ l. l ++ answers_by made.came) answers_were;
        };
        looking = λ x lives kept looks was apart.
            let m = moved (seat_at who old.region) (seat_at who new.region) steps.makes in
            let all : Apart start (made_by who m.own ++ (w.made ++ past)) = subst (Apart start) (append_assoc (made_by who m.own) w.made past) apart in
            let before_now = looking_so_far x lives kept looks was (apart_front start (made_by who m.own) (w.made ++ past) all) in
            let here : Apart new.region.start new.region.past = subst (λ r. Apart r new.region.past) (sym next.start_is) (subst (Apart start) (sym next.past_is) apart) in
            subst (HasLooked start kept looks (looked looks count past) made.came made.next (option_map (going_on (made_by who m.own ++ w.made)) before)) next.past_is
            (step_looks who held start kept looks past w.made (made_by who m.own) n count below (seat_at who old.region) (seat_at who new.region) w.next made.next made.came
            (λ going. last (going_said (length old.answers) made.came said made.is going)) next.start_is st.past_is m.past there.accepted here w.next.work before st.came.0 tied.at tied.holds tied'.at tied'.holds before_now
            steps.call steps.cause steps.acts steps.place steps.image steps.counts steps.falls next.came);
      }

  -- a step that has found no places
  pub walks_full : (count : ℕ) → n + 1 ≤ count → said ≡ moved.Going → ((o : OpenerState) → Lives new.openers who o → stop_found o.work ≡ Some stop.JournalFull) → MetFull who opened start past before count
  walks_full count below going found =
      full_met who opened start past held before first.work n w.made w.next made.next old new made.came there still st tied tied' steps count below
      (said_going (length old.answers) made.came (subst (IsSaid (length old.answers) made.came) going made.is)) (found made.next next_lives)

-- as many openers are there after a step
pub moved_count : (who : ℕ) (said : Moved) (old new : WorldState) → Moves who said old new → length new.openers ≡ length old.openers
moved_count who moved.NoOpener old new m = ap (λ (w : WorldState). length w.openers) m.0
moved_count who moved.Idle old new m = ap length m.4.openers ∙ length-set old.openers (who - 1) m.1
moved_count who moved.Going old new m = ap length m.4.openers ∙ length-set old.openers (who - 1) m.1
moved_count who (moved.Blocked holder) old new m = ap length m.4.openers ∙ length-set old.openers (who - 1) m.1
moved_count who (moved.Answered place) old new m = ap length m.4.openers ∙ length-set old.openers (who - 1) m.1
moved_count who (moved.Stopped why) old new m = ap length m.4.openers ∙ length-set old.openers (who - 1) m.1

-- and an answer that is said stands there
pub placed_of : (who : ℕ) (said : Moved) (old new : WorldState) → Moves who said old new → IsPlaced (length new.answers) said
placed_of who moved.NoOpener old new m = tt
placed_of who moved.Idle old new m = tt
placed_of who moved.Going old new m = tt
placed_of who (moved.Blocked holder) old new m = tt
placed_of who (moved.Stopped why) old new m = tt
placed_of who (moved.Answered place) old new m = go m.2 m.3 (ap length m.4.answers)
  where
    go : (came : Step) → IsSaid (length old.answers) came (moved.Answered place) → length new.answers ≡ length (old.answers ++ answers_by came) → place < length new.answers
    go (step.Answered a) is long = let at : place ≡ length old.answers = cc in omega (arith, at, long, length-append old.answers (a ∷ []))
    go step.Idle is long = absurd cc
    go step.Going is long = absurd cc
    go step.Again is long = absurd is
    go (step.Blocked holder) is long = absurd cc
    go (step.Stopped why) is long = absurd cc

-- the steps that were asked for were made
pub walks_end : (who opened : ℕ) (start : Region) (past : List Event) (held : ℕ) (before : Option Running) (o : OpenerState) (n count : ℕ) (begun now : WorldState) → n ≡ count →
    Walks who opened start past held before o.work n moved.Going begun now → Walks who opened start past held before o.work count moved.Going begun now
walks_end who opened start past held before o n count begun now e w = subst (λ k. Walks who opened start past held before o.work k moved.Going begun now) e w
