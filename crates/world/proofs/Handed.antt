-- The handlers of openers, where an opener is opened, begins a call, or makes a step.
use Rattle.std.proofs.Common.{◌≡◌, ◌≢◌, ℕ, zero, suc, ◌-◌, ◌<◌, Bool, true, false, cond, List, [], ◌∷◌, ◌++◌, length, set, refl, sym, ap, ◌∙◌, subst, arith}
use Rattle.std.specs.Prelude.{Option, Some, None, Result, Ok, Err, OnErr, OnOk, is_some, map, not, slice_get, ⊤}
use Rattle.change_log.specs.declared.call.Call.{Call}
use Rattle.opener.specs.Opener.{is_ended}
use Rattle.opener.specs.State.{OpenerState}
use Rattle.world.specs.Handlers.{HaveHandlers, is_alive, of_living}
use Rattle.world.specs.Moves.{Begun, Moves}
use Rattle.world.specs.World.{IsLiving, Lives, WorldState}
use Rattle.world.specs.declared.moves.Moved.{Moved}
use Rattle.world.specs.declared.moves.Moved.TheVariants.{NoOpener, Idle, Going, Blocked, Answered, Stopped}
use Rattle.world.proofs.Numbered.{set_is, set_there}

-- the handler of one opener
given_up : {A : Type 0} (ended : Bool) (handler : Option A) → is_some handler ≡ not ended → handler ≡ cond ended None handler
given_up true None has = refl
given_up true (Some handler) has = absurd cc
given_up false handler has = refl

-- where all openers are as they were, all handlers are kept
pub all_kept : {A : Type 0} (openers : List OpenerState) (handlers : List (Option A)) → HaveHandlers openers handlers → handlers ≡ of_living openers handlers
all_kept [] [] have = refl
all_kept [] (handler ∷ handlers) have = absurd cc
all_kept (o ∷ openers) [] have = absurd cc
all_kept (o ∷ openers) (handler ∷ handlers) have =
    let one : handler ≡ cond (is_ended o.work) None handler = given_up (is_ended o.work) handler cc in
    let others = all_kept openers handlers cc in
    λ i. one i ∷ others i

-- there are as many
pub as_many : {A : Type 0} (openers : List OpenerState) (handlers : List (Option A)) → HaveHandlers openers handlers → length openers ≡ length handlers
as_many [] [] have = refl
as_many [] (handler ∷ handlers) have = absurd cc
as_many (o ∷ openers) [] have = absurd cc
as_many (o ∷ openers) (handler ∷ handlers) have = ap suc (as_many openers handlers cc)

-- one more opener, and its handler
pub one_more : {A : Type 0} (openers : List OpenerState) (o : OpenerState) (handlers : List (Option A)) (handler : A) → is_ended o.work ≡ false →
    HaveHandlers openers handlers → HaveHandlers (openers ++ o ∷ []) (handlers ++ Some handler ∷ [])
one_more [] o [] handler alive have = ap (λ b. not b ∷ []) (sym alive)
one_more [] o (other ∷ handlers) handler alive have = absurd cc
one_more (p ∷ openers) o [] handler alive have = absurd cc
one_more (p ∷ openers) o (other ∷ handlers) handler alive have =
    let one : is_some other ≡ is_alive p = cc in
    let others = one_more openers o handlers handler alive cc in
    λ i. one i ∷ others i

-- an opener that lives on
pub still_have : {A : Type 0} (openers : List OpenerState) (i : ℕ) (o next : OpenerState) (handlers : List (Option A)) → slice_get openers i ≡ Some o → is_ended o.work ≡ false →
    is_ended next.work ≡ false → HaveHandlers openers handlers → HaveHandlers (set openers i next) handlers
still_have [] i o next handlers at was is have = absurd cc
still_have (p ∷ openers) i o next [] at was is have = absurd cc
still_have (p ∷ openers) zero o next (handler ∷ handlers) at was is have =
    let here : p ≡ o = cc in
    let same : is_alive p ≡ is_alive next = ap is_alive here ∙ ap not (was ∙ sym is) in
    have ∙ (λ j. same j ∷ map is_alive openers)
still_have (p ∷ openers) (suc i) o next (handler ∷ handlers) at was is have =
    let one : is_some handler ≡ is_alive p = cc in
    let others = still_have openers i o next handlers at was is cc in
    λ j. one j ∷ others j

-- an opener that ends, and gives its handler up
pub ended_have : {A : Type 0} (openers : List OpenerState) (i : ℕ) (next : OpenerState) (handlers : List (Option A)) → is_ended next.work ≡ true →
    HaveHandlers openers handlers → HaveHandlers (set openers i next) (set handlers i None)
ended_have [] i next [] ended have = refl
ended_have [] i next (handler ∷ handlers) ended have = absurd cc
ended_have (p ∷ openers) i next [] ended have = absurd cc
ended_have (p ∷ openers) zero next (handler ∷ handlers) ended have =
    let one : false ≡ is_alive next = ap not (sym ended) in
    let others : map is_some handlers ≡ map is_alive openers = cc in
    λ j. one j ∷ others j
ended_have (p ∷ openers) (suc i) next (handler ∷ handlers) ended have =
    let one : is_some handler ≡ is_alive p = cc in
    let others = ended_have openers i next handlers ended cc in
    λ j. one j ∷ others j

pub ended_kept : {A : Type 0} (openers : List OpenerState) (i : ℕ) (next : OpenerState) (handlers : List (Option A)) → is_ended next.work ≡ true →
    HaveHandlers openers handlers → set handlers i None ≡ of_living (set openers i next) handlers
ended_kept [] i next [] ended have = refl
ended_kept [] i next (handler ∷ handlers) ended have = absurd cc
ended_kept (p ∷ openers) i next [] ended have = absurd cc
ended_kept (p ∷ openers) zero next (handler ∷ handlers) ended have =
    let one : None ≡ cond (is_ended next.work) None handler = ap (λ b. cond b None handler) (sym ended) in
    let others = all_kept openers handlers cc in
    λ j. one j ∷ others j
ended_kept (p ∷ openers) (suc i) next (handler ∷ handlers) ended have =
    let one : handler ≡ cond (is_ended p.work) None handler = given_up (is_ended p.work) handler cc in
    let others = ended_kept openers i next handlers ended cc in
    λ j. one j ∷ others j

-- a call that begins
pub begun_have : {A E : Type 0} (result : Result ⊤ E) (who : ℕ) (asked : Call) (now : ℕ) (old new : WorldState) (handlers : List (Option A)) → OnOk result (Begun who asked now old new) →
    OnErr result (new ≡ old) → HaveHandlers old.openers handlers → HaveHandlers new.openers handlers
begun_have (Err why) who asked now old new handlers begun same have = subst (λ (w : WorldState). HaveHandlers w.openers handlers) (sym same) have
begun_have (Ok done) who asked now old new handlers begun same have =
    let o = begun.0 in
    let next = begun.1 in
    let begins = begun.2 in
    let alive : is_ended next.work ≡ false = ap (λ (n : OpenerState). is_ended n.work) begins.begins.work in
    subst (λ openers. HaveHandlers openers handlers) (sym begins.openers) (still_have old.openers (who - 1) o next handlers begins.lives.there begins.lives.alive alive have)

-- an opener that made a step
record HasStepped (who : ℕ) (old new : WorldState) : Type 0 where
  o : OpenerState
  next : OpenerState
  lived : Lives old.openers who o
  openers : new.openers ≡ set old.openers (who - 1) next

stepped : (who : ℕ) (said : Moved) (old new : WorldState) → said ≢ NoOpener → Moves who said old new → HasStepped who old new
stepped who NoOpener old new there moves = absurd (there refl)
stepped who Idle old new there moves = let s = moves.4 in record { o = moves.0; next = moves.1; lived = s.lives; openers = s.openers }
stepped who Going old new there moves = let s = moves.4 in record { o = moves.0; next = moves.1; lived = s.lives; openers = s.openers }
stepped who (Blocked holder) old new there moves = let s = moves.4 in record { o = moves.0; next = moves.1; lived = s.lives; openers = s.openers }
stepped who (Answered place) old new there moves = let s = moves.4 in record { o = moves.0; next = moves.1; lived = s.lives; openers = s.openers }
stepped who (Stopped why) old new there moves = let s = moves.4 in record { o = moves.0; next = moves.1; lived = s.lives; openers = s.openers }

module _ {A : Type 0} (who : ℕ) (said : Moved) (old new : WorldState) (handlers : List (Option A)) (moves : Moves who said old new) (have : HaveHandlers old.openers handlers) where
  -- it has a place among the handlers
  pub has_place : said ≢ NoOpener → who - 1 < length handlers
  has_place there = let s = stepped who said old new there moves in omega (arith, within old.openers (who - 1) s.o s.lived.there, as_many old.openers handlers have)
    where
      within : (openers : List OpenerState) (i : ℕ) (o : OpenerState) → slice_get openers i ≡ Some o → i < length openers
      within [] i o at = absurd cc
      within (p ∷ openers) zero o at = omega arith
      within (p ∷ openers) (suc i) o at = omega (arith, within openers i o at)

  -- it has ended, and its handler is given up
  pub dead_step : said ≢ NoOpener → (IsLiving new.openers who → ⊥) → HaveHandlers new.openers (set handlers (who - 1) None) × (set handlers (who - 1) None ≡ of_living new.openers handlers)
  dead_step there dead =
      let s = stepped who said old new there moves in
      let ended : is_ended s.next.work ≡ true = go s (is_ended s.next.work) refl in (
        subst (λ openers. HaveHandlers openers (set handlers (who - 1) None)) (sym s.openers) (ended_have old.openers (who - 1) s.next handlers ended have),
        subst (λ openers. set handlers (who - 1) None ≡ of_living openers handlers) (sym s.openers) (ended_kept old.openers (who - 1) s.next handlers ended have),
      )
    where
      go : (s : HasStepped who old new) (b : Bool) → is_ended s.next.work ≡ b → is_ended s.next.work ≡ true
      go s true e = e
      go s false e =
          absurd (dead (s.next, subst (λ openers. Lives openers who s.next) (sym s.openers) (record { numbered = s.lived.numbered; there = set_there old.openers (who - 1) s.o s.next s.lived.there; alive = e })))

  -- it lives on
  pub living_step : said ≢ NoOpener → IsLiving new.openers who → HaveHandlers new.openers handlers × (handlers ≡ of_living new.openers handlers)
  living_step there living =
      let s = stepped who said old new there moves in
      let here = subst (λ openers. slice_get openers (who - 1) ≡ Some living.0) s.openers living.1.there in
      let same : living.0 ≡ s.next = set_is old.openers (who - 1) s.o s.next living.0 s.lived.there here in
      let now = subst (λ openers. HaveHandlers openers handlers) (sym s.openers)
      (still_have old.openers (who - 1) s.o s.next handlers s.lived.there s.lived.alive (ap (λ (p : OpenerState). is_ended p.work) (sym same) ∙ living.1.alive) have) in
      (now, all_kept new.openers handlers now)

  -- none of that number was there
  pub no_step : said ≡ NoOpener → HaveHandlers new.openers handlers × (handlers ≡ of_living new.openers handlers)
  no_step none =
      let same = subst (λ m. Moves who m old new) none moves in
      let now = subst (λ (w : WorldState). HaveHandlers w.openers handlers) (sym same.0) have in
      (now, all_kept new.openers handlers now)
