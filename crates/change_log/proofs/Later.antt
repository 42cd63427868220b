-- What is legal for one caller stays so while others make changes.
use Rattle.std.proofs.Common.{◌≡◌, ℕ, zero, suc, ◌+◌, Bool, true, List, [], ◌∷◌, ◌++◌, refl, sym, ap, ◌∙◌, ◌<◌, ◌≤◌, length, inl, inr, arith, subst, length-append}
use Rattle.std.specs.Prelude.{Option, Some, None, IfSome, slice_get, slice_index_or, take}
use Rattle.std.proofs.lemmas.Option.{slice_get_within, get_or_from_slice_get}
use Rattle.expiring_map.specs.Map.{Map}
use Rattle.change_log.specs.Acts.{replay, act_of, is_of_call}
use Rattle.change_log.specs.History.{IsPlaced, IsOwned, IsFollowed, MakesNone, reply_in}
use Rattle.change_log.specs.EachCaller.{LegalFor}
use Rattle.change_log.specs.Settled.{NoneBy}
use Rattle.change_log.specs.declared.change.Act.{Act}
use Rattle.change_log.specs.declared.change.Change.{Change}
use Rattle.change_log.specs.declared.call.Answer.{Answer}
use Rattle.change_log.proofs.Fronts.{front_at, either_at}

-- where none of the changes is this caller's, none at any place is
pub nobody : (who : ℕ) (changes : List Change) (i : ℕ) (c : Change) → NoneBy who changes → slice_get changes i ≡ Some c → c.maker ≡ who → ⊥
nobody who changes i c none at m =
    none i c (slice_get_within changes i c at) (ap (λ (x : Change). x.maker) (get_or_from_slice_get changes i c c at) ∙ m)

-- a change of this caller stood there before those of others
pub own_at : (who : ℕ) (changes more : List Change) (i : ℕ) (c : Change) → NoneBy who more → slice_get (changes ++ more) i ≡ Some c → c.maker ≡ who → slice_get changes i ≡ Some c
own_at who changes more i c none at m = elim (either_at changes more i c at) [
  | inl early ↦ early
  | inr late ↦ absurd (nobody who more late.0 c none late.2 m)
]

pub take_front : (xs ys : List Change) (k : ℕ) → k ≤ length xs → take k (xs ++ ys) ≡ take k xs
take_front xs ys zero h = refl
take_front [] ys (suc k) h = absurd (omega (arith, h))
take_front (x ∷ xs) ys (suc k) h = ap (λ z. x ∷ z) (take_front xs ys k (omega (arith, h)))

pub placed_later : (base : Map) (xs ys : List Change) (a : Answer) → IsPlaced base xs a → IsPlaced base (xs ++ ys) a
placed_later base xs ys a p =
    record {
      begun = p.begun;
      ended = p.ended;
      within = omega (arith, p.within, length-append xs ys);
      reply = p.reply ∙ ap (λ front. reply_in (replay base front) a.now a.call) (sym (take_front xs ys a.place (omega (arith, p.ended, p.within))));
    }

pub made_at : (o : Option Act) (xs ys : List Change) (a : Answer) →
    IfSome o (λ act. (a.place < a.ended) × (slice_get xs a.place ≡ Some (record { maker = a.who; act = act }))) →
    IfSome o (λ act. (a.place < a.ended) × (slice_get (xs ++ ys) a.place ≡ Some (record { maker = a.who; act = act })))
made_at None xs ys a h = h
made_at (Some act) xs ys a h = (h.0, front_at xs ys a.place (record { maker = a.who; act = act }) h.1)

makes_none_later : (p : Act → Bool) (xs ys : List Change) (maker i : ℕ) → NoneBy maker ys → MakesNone p xs maker i → MakesNone p (xs ++ ys) maker i
makes_none_later p xs ys maker i n h = λ j c le at m. h j c le (own_at maker xs ys j c n at m) m

owned_later : (xs ys : List Change) (own : List Answer) (i : ℕ) (c : Change) → NoneBy c.maker ys → IsOwned xs own i c → IsOwned (xs ++ ys) own i c
owned_later xs ys own i c n h = λ of_call. elim (h of_call) [
  | inl found ↦ inl found
  | inr left ↦ inr (makes_none_later is_of_call xs ys c.maker (i + 1) n left.0, left.1)
]

followed_later : (xs ys : List Change) (own : List Answer) (i : ℕ) (c : Change) → NoneBy c.maker ys → IsFollowed xs own i c → IsFollowed (xs ++ ys) own i c
followed_later xs ys own i c n h = λ t e. elim (h t e) [
  | inl next ↦ inl (next.0, front_at xs ys (i + 1) next.0 next.1, next.2, next.3, next.4)
  | inr last ↦ elim last [
    | inl none ↦ inr (inl (makes_none_later (λ _. true) xs ys c.maker (i + 1) n none))
    | inr one ↦ inr (inr (one.0, front_at xs ys (i + 1) one.0 one.1, one.2, makes_none_later (λ _. true) xs ys c.maker (i + 2) n one.3))
  ]
]

-- what is legal for one caller stays so while others make changes
pub LegalFor-later : (who : ℕ) (base : Map) (changes more : List Change) (own : List Answer) → NoneBy who more →
    LegalFor who base changes own → LegalFor who base (changes ++ more) own
LegalFor-later who base changes more own n h =
    record {
      all_own = h.all_own;
      in_order = h.in_order;
      placed = λ k d lt. placed_later base changes more (slice_index_or own k d) (h.placed k d lt);
      made = λ k d lt. let a = slice_index_or own k d in made_at (act_of a.call a.now) changes more a (h.made k d lt);
      owned = λ i c at m. owned_later changes more own i c (subst (λ w. NoneBy w more) (sym m) n) (h.owned i c (own_at who changes more i c n at m) m);
      followed = λ i c at m. followed_later changes more own i c (subst (λ w. NoneBy w more) (sym m) n) (h.followed i c (own_at who changes more i c n at m) m);
    }
