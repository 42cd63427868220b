-- An opener of a world died.
use Rattle.std.proofs.Common.{◌≡◌, ℕ, ◌+◌, ◌-◌, ◌<◌, ◌≤◌, Bool, true, false, List, length, set, refl, sym, ap, ◌∙◌, inl, inr, subst, arith, lit≤}
use Rattle.std.proofs.lemmas.Option.{slice_get_within}
use Rattle.std.specs.Prelude.{Option, Some, None, slice_get}
use Rattle.change_log.specs.declared.call.Answer.{Answer}
use Rattle.region_words.specs.Local.{Local, Seated, seat_state}
use Rattle.region_words.specs.Share.{ShareState, died as died_with, failed}
use Rattle.region_words.specs.Told.{History}
use Rattle.region_words.proofs.Beside.{others_loads}
use Rattle.opener.specs.Deaths.{DeathEnds, DeathSettles, DiesAt}
use Rattle.opener.specs.Opener.{MakesOne, Tied, is_ended}
use Rattle.opener.specs.Quick.{ended_as}
use Rattle.opener.specs.State.{OpenerState}
use Rattle.opener.specs.declared.work.Work.{Work}
use Rattle.opener.specs.declared.work.Work.TheVariants.{Idle, Ended, Runs}
use Rattle.world.specs.Handlers.{HaveHandlers, of_living}
use Rattle.world.specs.Moves.{Dies, Kills}
use Rattle.world.specs.World.{IsWorld, WorldState, calls_running, share_of}
use Rattle.world.proofs.Handed.{all_kept, as_many, ended_have, ended_kept}
use Rattle.world.proofs.Numbered.{fewer_run}
use Rattle.world.proofs.Stepped.{died}
use Rattle.world.proofs.Turns.{lives_at, same_seat, same_tag}

-- it made one event
makes_one : (work : Work) (bits : Option ℕ) (s t : ShareState) → is_ended work ≡ false → DiesAt work bits s t → MakesOne s t
makes_one Idle bits s t alive (inl dies) = inr (died_with dies.left s, dies.goes.after, lit≤ tt)
makes_one Idle bits s t alive (inr fails) = inr (failed s, fails.after, lit≤ tt)
makes_one Ended bits s t alive same = absurd cc
makes_one (Runs running at) bits s t alive (inl dies) = inr (died_with dies.left s, dies.goes.after, lit≤ tt)
makes_one (Runs running at) bits s t alive (inr fails) = inr (failed s, fails.after, lit≤ tt)

module _ (l : Local) (turned new : Seated) (openers : List OpenerState) (answers : List Answer) (i : ℕ) (o : OpenerState) (bits : Option ℕ) (world : IsWorld l openers answers)
    (at : slice_get openers i ≡ Some o) (is : turned ≡ record { who = i + 1; region = l }) (alive : is_ended o.work ≡ false)
    (dies : DiesAt o.work bits (seat_state turned) (seat_state new)) (ends : DeathEnds o (seat_state new)) (settles : DeathSettles o (seat_state turned) (seat_state new)) where
  number : o.who ≡ i + 1
  number = (world.each i o at).number

  makes : MakesOne (seat_state turned) (seat_state new)
  makes = makes_one o.work bits (seat_state turned) (seat_state new) alive dies

  seat_same : new.who ≡ i + 1
  seat_same = same_seat (seat_state turned) (seat_state new) makes ∙ ap (λ (s : Seated). s.who) is

  -- the same of the shares by their numbers
  by_number : (P : ShareState → ShareState → Type 0) → P (seat_state turned) (seat_state new) → P (share_of l (i + 1)) (share_of new.region (i + 1))
  by_number P p = subst (λ w. P (share_of l (i + 1)) (share_of new.region w)) seat_same (subst (λ (s : Seated). P (seat_state s) (seat_state new)) is p)

  pub world_dead : IsWorld new.region (set openers i (ended_as (i + 1))) answers
  world_dead =
      subst (λ n. IsWorld new.region (set openers i (ended_as n)) answers) number
      (died l new.region openers answers i o (ended_as o.who) world at (by_number MakesOne makes) (by_number (λ s t. Tied (ended_as o.who) t) (ends alive))
      (by_number (λ s t. DeathSettles o s t) settles alive) tt)

  pub fewer_dead : calls_running (set openers i (ended_as (i + 1))) ≤ calls_running openers
  fewer_dead = fewer_run openers i o (ended_as (i + 1)) at (λ none. refl)

  pub start_dead : new.region.start ≡ l.start
  start_dead = go (by_number MakesOne makes)
    where
      go : MakesOne (share_of l (i + 1)) (share_of new.region (i + 1)) → new.region.start ≡ l.start
      go (inl same) = let told = ap (λ (s : ShareState). s.told) same in let history : record { start = new.region.start; past = new.region.past } ≡ record { start = l.start; past = l.past } = cc in ap (λ (h : History). h.start) history
      go (inr (left, after, few)) = after.told.start

  pub kills : (noted : Bool) → Kills (i + 1) bits o (record { region = l; openers = openers; answers = answers; noted = noted })
      (record { region = new.region; openers = set openers i (ended_as (i + 1)); answers = answers; noted = noted })
  kills noted =
      let e : i + 1 - 1 ≡ i = omega arith in
      record {
        lives = lives_at openers i o at alive;
        dies = by_number (DiesAt o.work bits) dies;
        openers = ap (λ n. set openers n (ended_as (i + 1))) (sym e);
        answers = refl;
        start = start_dead;
        noted = refl;
        others = λ w least most apart. others_loads l new.region (i + 1) w (by_number (λ s t. t.tag ≡ s.tag) (same_tag (seat_state turned) (seat_state new) makes)) least most apart;
      }

-- Its handler is given up.
module _ {A : Type 0} (who : ℕ) (bits : Option ℕ) (old new : WorldState) (handlers : List (Option A)) (have : HaveHandlers old.openers handlers) where
  pub has_place : Dies who bits true old new → who - 1 < length handlers
  has_place (o, kills) = omega (arith, slice_get_within old.openers (who - 1) o kills.lives.there, as_many old.openers handlers have)

  pub gives_up : Dies who bits true old new → HaveHandlers new.openers (set handlers (who - 1) None) × (set handlers (who - 1) None ≡ of_living new.openers handlers)
  gives_up (o, kills) = (
    subst (λ openers. HaveHandlers openers (set handlers (who - 1) None)) (sym kills.openers) (ended_have old.openers (who - 1) (ended_as who) handlers refl have),
    subst (λ openers. set handlers (who - 1) None ≡ of_living openers handlers) (sym kills.openers) (ended_kept old.openers (who - 1) (ended_as who) handlers refl have),
  )

  pub keeps_all : Dies who bits false old new → HaveHandlers new.openers handlers × (handlers ≡ of_living new.openers handlers)
  keeps_all (same, none) =
      let now = subst (λ (w : WorldState). HaveHandlers w.openers handlers) (sym same) have in
      (now, all_kept new.openers handlers now)
