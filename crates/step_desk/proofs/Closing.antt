-- A pass that answers for every number has seen all that happened.
use Rattle.std.proofs.Common.{◌≡◌, ◌⊎◌, ℕ, ◌<◌, ◌≤◌, true, List, [], ◌∷◌, ◌++◌, refl, sym, ◌∙◌, ap, subst, inl, inr, ⊎_elim, arith}
use Rattle.std.proofs.lemmas.Bool.Decides.{eqb_tells, leb_tells}
use Rattle.std.specs.Prelude.{Option, Some, IsSome}
use mathlib.Core.Option.{some, some-injective}
use lib.ListN.{get_elem?}
use Rattle.atomic_table.specs.Table.{Final, Seen}
use Rattle.region_words.specs.Region.{Region}
use Rattle.region_words.specs.Past.{NoneOf}
use Rattle.region_words.specs.Lawful.{Lawful}
use Rattle.region_words.specs.Local.{Local}
use Rattle.region_words.specs.declared.event.Event.{Event}
use Rattle.step_desk.specs.declared.view.Stage.TheVariants.{Idle}
use Rattle.step_desk.specs.declared.view.View.{View}
use Rattle.step_desk.specs.Numbers.{Answers, HasAll}
use Rattle.step_desk.specs.Rule.{TableIs}
use Rattle.step_desk.proofs.Lists.{none_first}
use Rattle.step_desk.proofs.Views.{at_stage}

-- a number of the desk, or a number beyond
within_or_beyond : (n seats : ℕ) → (n ≤ seats) ⊎ (seats < n)
within_or_beyond n seats = ⊎_elim (λ t. inl t.1) (λ t. let ne = t.1 in inr (omega (arith, ne))) (leb_tells n seats)

no_later : (start : Region) (seats : ℕ) (later : List Event) (v : View) → Lawful start (later ++ v.seen) → HasAll seats v → ((n : ℕ) → Answers v n → NoneOf n later) → ((n : ℕ) → seats < n → NoneOf n later) → later ≡ []
no_later start seats [] v lawful all others beyond = refl
no_later start seats (e ∷ later) v lawful all others beyond =
    absurd (⊎_elim (λ within. (others e.who (all e.who lawful.1.maker.0 within)).0 refl) (λ past. (beyond e.who past).0 refl) (within_or_beyond e.who seats))

module _ (about : Local) (seats id : ℕ) (v : View) (ws : List ℕ) (xs : List (Option Local)) (live : v.live ≡ true) (idle : v.stage ≡ Idle) (all : HasAll seats v) (last : Final (Seen (TableIs about seats) id v) ws xs) where
  r : TableIs about seats last.0
  r = last.1.0

  no_turn : r.turn ≡ 0
  no_turn = ⊎_elim (λ t. t.1)
      (λ t. let few = r.few in let ne = t.1 in absurd (at_stage r.turn r.count r.now v Idle idle (r.each id v last.1.1 live).stage r.turn (all r.turn (omega (arith, ne)) few) refl))
      (eqb_tells r.turn 0)

  pub record IsClosed (x : Local) : Type 0 where
    pub past : x.past ≡ v.seen
    pub start : x.start ≡ about.start
    pub listed : x.failing.listed ≡ about.failing.listed

  closes : (x : Local) × (get_elem? xs 0 ≡ some (Some x)) × IsClosed x
  closes =
      let l = r.each id v last.1.1 live in
      let f = r.free no_turn in
      let c = r.continues in
      let gone = no_later about.start seats l.later v (subst (Lawful about.start) l.past c.lawful) all l.others (λ n beyond. none_first n l.later v.seen (subst (NoneOf n) l.past (r.beyond n beyond))) in (
        r.now,
        last.4 0 (Some r.now) (ap (λ h. get_elem? h 0) f.0),
        record { past = l.past ∙ ap (λ later. later ++ v.seen) gone; start = c.start; listed = c.listed },
      )

  pub is_some : (result : Option Local) → get_elem? xs 0 ≡ some result → IsSome result
  is_some result at = subst (λ o. IsSome o) (some-injective _ _ (sym closes.1 ∙ at)) refl

  pub is_closed : (result : Option Local) (y : Local) → get_elem? xs 0 ≡ some result → result ≡ Some y → IsClosed y
  is_closed result y at is = let same : Some closes.0 ≡ Some y = some-injective _ _ (sym closes.1 ∙ at) ∙ is in
      let e : closes.0 ≡ y = cc in
      subst IsClosed e closes.2
