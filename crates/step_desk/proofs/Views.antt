-- What stays of the other passes when one of them makes a step.
use Rattle.std.proofs.Common.{◌≡◌, ◌≢◌, ◌⊎◌, ℕ, ◌≤◌, true, List, ◌++◌, set, refl, sym, ◌∙◌, ap, subst, inl, inr, ⊎_elim, arith, append_assoc}
use mathlib.Core.Option.{some}
use lib.ListN.{get_elem?}
use Rattle.atomic_table.proofs.Lists.{at_set}
use Rattle.region_words.specs.Past.{NoneOf}
use Rattle.region_words.specs.Share.{made_by}
use Rattle.region_words.specs.Local.{Local}
use Rattle.region_words.specs.declared.event.What.{What}
use Rattle.step_desk.specs.declared.view.Stage.{Stage}
use Rattle.step_desk.specs.declared.view.Stage.TheVariants.{Idle, Holding, Counted}
use Rattle.step_desk.specs.declared.view.View.{View}
use Rattle.step_desk.specs.Numbers.{Answers}
use Rattle.step_desk.specs.Rule.{StageIs, LiveIs, Views}
use Rattle.step_desk.specs.Steps.{OthersStand}
use Rattle.step_desk.proofs.Lists.{none_append, none_made}

pub at_stage : (turn count : ℕ) (now : Local) (v : View) (stage : Stage) → v.stage ≡ stage → StageIs turn count now v v.stage → StageIs turn count now v stage
at_stage turn count now v stage is s = subst (StageIs turn count now v) is s

module _ (about : Local) (seats : ℕ) where
  -- where one view is changed, what holds of the others and of the new one holds of all
  pub views_set : (now : Local) (turn count : ℕ) (owner : ℕ → ℕ) (views : List View) (id : ℕ) (w : View) →
      ((j : ℕ) (u : View) → j ≢ id → get_elem? views j ≡ some u → u.live ≡ true → LiveIs about seats now turn count owner j u) →
      (w.live ≡ true → LiveIs about seats now turn count owner id w) → Views about seats now turn count owner (set views id w)
  views_set now turn count owner views id w others mine j u at =
      ⊎_elim
      (λ (x : (j ≡ id) × (w ≡ u)). subst (λ (y : ℕ × View). y.1.live ≡ true → LiveIs about seats now turn count owner y.0 y.1) (λ i. (sym x.0 i, x.1 i)) mine)
      (λ (x : (j ≢ id) × (get_elem? views j ≡ some u)). others j u x.0 x.1)
      (at_set views id j w u at)

  -- the turn is free, or this opener has it
  abbrev pub FreeOr : ℕ → ℕ → Type 0
  FreeOr who turn = (turn ≡ 0) ⊎ (turn ≡ who)

  module _ (now : Local) (owner : ℕ → ℕ) (id who : ℕ) (mine : owner who ≡ id) (j : ℕ) (u : View) (apart : j ≢ id) where
    not_mine : (turn count : ℕ) → LiveIs about seats now turn count owner j u → (n : ℕ) → Answers u n → who ≢ n
    not_mine turn count l n a same = apart (sym (l.owns n a).0 ∙ ap owner (sym same) ∙ mine)

    free_or_not : (turn n : ℕ) → FreeOr who turn → 1 ≤ n → who ≢ n → turn ≢ n
    free_or_not turn n (inl free) one ne is = omega (arith, free, one, is)
    free_or_not turn n (inr held) one ne is = ne (sym held ∙ is)

    -- no other pass has the turn
    not_holding : (turn count : ℕ) → FreeOr who turn → LiveIs about seats now turn count owner j u → turn ≢ u.who
    not_holding turn count free l is = free_or_not turn u.who free (l.owns u.who (inl refl)).1 (not_mine turn count l u.who (inl refl)) is

    other_stage : (turn count turn' count' : ℕ) (now' : Local) → FreeOr who turn → FreeOr who turn' → (l : LiveIs about seats now turn count owner j u) →
        (stage : Stage) → StageIs turn count now u stage → StageIs turn' count' now' u stage
    other_stage turn count turn' count' now' was is l Idle s = λ n a. free_or_not turn' n is (l.owns n a).1 (not_mine turn count l n a)
    other_stage turn count turn' count' now' was is l Holding s = absurd (not_holding turn count was l s.0)
    other_stage turn count turn' count' now' was is l Counted s = absurd (not_holding turn count was l s.0)

    -- the pass makes events of its own
    pub other_live : (turn count turn' count' : ℕ) (own : List What) (now' : Local) → now'.past ≡ made_by who own ++ now.past → OthersStand who now now' →
        FreeOr who turn → FreeOr who turn' → LiveIs about seats now turn count owner j u → LiveIs about seats now' turn' count' owner j u
    other_live turn count turn' count' own now' grown stand was is l = record {
      about_is = l.about_is;
      owns = l.owns;
      later = made_by who own ++ l.later;
      past = grown ∙ ap (λ past. made_by who own ++ past) l.past ∙ sym (append_assoc (made_by who own) l.later u.seen);
      others = λ n a. none_append n (made_by who own) l.later (none_made who n own (not_mine turn count l n a)) (l.others n a);
      fresh = λ n a. let ne = not_mine turn count l n (inr (inr a)) in let f = l.fresh n a in let s = stand n (λ e. ne (sym e)) in record {
        none = subst (NoneOf n) (sym grown) (none_append n (made_by who own) now.past (none_made who n own ne) f.none);
        places = s.0 ∙ f.places;
        room = s.1 ∙ f.room;
        not_own = f.not_own;
        not_taken = f.not_taken;
      };
      places = (stand u.who (λ e. not_mine turn count l u.who (inl refl) (sym e))).0 ∙ l.places;
      room = (stand u.who (λ e. not_mine turn count l u.who (inl refl) (sym e))).1 ∙ l.room;
      heard = made_by who own ++ l.heard;
      heard_past = grown ∙ ap (λ past. made_by who own ++ past) l.heard_past ∙ sym (append_assoc (made_by who own) l.heard u.told);
      heard_others = λ n a. let h = l.heard_others n a in (h.0, none_append n (made_by who own) l.heard (none_made who n own (not_mine turn count l n h.0)) h.1);
      stage = other_stage turn count turn' count' now' was is l u.stage l.stage;
    }
