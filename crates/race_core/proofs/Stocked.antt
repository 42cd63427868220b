-- What holds of all handlers of a stock holds of the one that is drawn, and of those that are left.
use Rattle.std.proofs.Common.{◌≡◌, ◌⊎◌, List, [], ◌∷◌, ◌++◌, inl, inr, refl, subst, sym}
use Rattle.std.proofs.lemmas.List.Elements.{All-nil, All-cons, All-head, All-tail}
use Rattle.std.specs.Prelude.{◌≢◌, All, Option, Some, None, IfSome}
use Rattle.std.specs.declared.alloc.Global.{Global}
use Rattle.std.specs.declared.dyn_box.DynBox.{DynBox}
use Rattle.handlers.specs.declared.stock.HandlerStock.{HandlerStock}
use Rattle.handlers.specs.Stock.{Draws, TakesLast}
use Rattle.handlers.specs.declared.handler.Strategy.{Strategy}
use Rattle.handlers.specs.declared.handler.Strategy.TheVariants.{Discard, Recover, Leave}
use Rattle.race_core.specs.Stocked.{OfAll}

same : (a b : Strategy) → (a ≡ b) ⊎ (a ≢ b)
same Discard Discard = inl refl
same Discard Recover = inr (λ e. absurd cc)
same Discard Leave = inr (λ e. absurd cc)
same Recover Discard = inr (λ e. absurd cc)
same Recover Recover = inl refl
same Recover Leave = inr (λ e. absurd cc)
same Leave Discard = inr (λ e. absurd cc)
same Leave Recover = inr (λ e. absurd cc)
same Leave Leave = inl refl

module _ {A : Type 0} (P : A → Type 0) where
  parted : (xs : List A) (x : A) → All P (xs ++ x ∷ []) → All P xs × P x
  parted [] x h = (All-nil P, All-head P x [] h)
  parted (y ∷ xs) x h =
      let rest = parted xs x (All-tail P y (xs ++ x ∷ []) h) in
      (All-cons P y xs (All-head P y (xs ++ x ∷ []) h) rest.0, rest.1)

  taken : (old new : List A) (drawn : Option A) → TakesLast old new drawn → All P old → All P new × IfSome drawn P
  taken old new None t h = (subst (All P) (sym t.1) (All-nil P), tt)
  taken old new (Some last) t h = parted new last (subst (All P) t h)

  left_of : (asked strategy : Strategy) (old new : List A) (drawn : Option A) → Draws asked strategy old new drawn → All P old → All P new
  left_of asked strategy old new drawn draws h = go (same asked strategy)
    where
      go : (asked ≡ strategy) ⊎ (asked ≢ strategy) → All P new
      go (inl e) = (taken old new drawn (draws.0 e) h).0
      go (inr e) = subst (All P) (sym (draws.1 e)) h

  -- the one that is drawn is of the list of its strategy
  drawn_of : (d d' r r' l l' : List A) (drawn : Option A) (asked : Strategy) → All P d → All P r → All P l →
      Draws asked Discard d d' drawn → Draws asked Recover r r' drawn → Draws asked Leave l l' drawn → IfSome drawn P
  drawn_of d d' r r' l l' drawn Discard hd hr hl of_discard of_recover of_leave = (taken d d' drawn (of_discard.0 refl) hd).1
  drawn_of d d' r r' l l' drawn Recover hd hr hl of_discard of_recover of_leave = (taken r r' drawn (of_recover.0 refl) hr).1
  drawn_of d d' r r' l l' drawn Leave hd hr hl of_discard of_recover of_leave = (taken l l' drawn (of_leave.0 refl) hl).1

module _ {A : Type 0} {Is : A → Type 0} (P : DynBox A Global Is → Type 0) (old new : HandlerStock A Is) (asked : Strategy) (drawn : Option (DynBox A Global Is)) (all : OfAll P old)
    (discard : Draws asked Discard old.discard.items new.discard.items drawn) (recover : Draws asked Recover old.recover.items new.recover.items drawn)
    (leave : Draws asked Leave old.leave.items new.leave.items drawn) where
  pub those_left : OfAll P new
  unfolding OfAll
  those_left = (
    left_of P asked Discard old.discard.items new.discard.items drawn discard all.0,
    left_of P asked Recover old.recover.items new.recover.items drawn recover all.1,
    left_of P asked Leave old.leave.items new.leave.items drawn leave all.2,
  )

  pub the_drawn : IfSome drawn P
  unfolding OfAll
  the_drawn =
      drawn_of P old.discard.items new.discard.items old.recover.items new.recover.items old.leave.items new.leave.items drawn asked
      all.0 all.1 all.2 discard recover leave
