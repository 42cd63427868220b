-- A settled caller: what it is at first, how it goes on, and that it is legal.
use Rattle.std.proofs.Common.{◌≡◌, ◌⊎◌, ℕ, ◌+◌, Bool, true, List, [], ◌∷◌, ◌++◌, refl, sym, ap, ◌∙◌, ◌<◌, ◌≤◌, length, inl, inr, arith, subst, length-append}
use Rattle.std.specs.Prelude.{Option, Some, None, IfSome, IsTrue, Any, slice_get, slice_index_or}
use Rattle.std.proofs.lemmas.Option.{slice_get_within}
use Rattle.std.proofs.lemmas.List.Elements.{All-nil, All-push}
use Rattle.std.proofs.lemmas.List.Quantifiers.{Any-push, all_pairs_push}
use Rattle.expiring_map.specs.Map.{Map}
use Rattle.change_log.specs.Acts.{act_of, is_of_call, is_append}
use Rattle.change_log.specs.History.{makes_change, IsPlaced, IsMade, IsAnswered, IsOwned, IsFollowed, IsLeftOpen, MakesNone}
use Rattle.change_log.specs.EachCaller.{LegalFor}
use Rattle.change_log.specs.Settled.{IsAppendAt, IsSettled, AreOfAct, AreOfCall, HasMade}
use Rattle.change_log.specs.Laws.{IsSettledFirst, StaysSettled, IsSettledByARead, IsSettledByAWrite, SettledIsLegal, CutIsLegal}
use Rattle.change_log.specs.declared.change.Act.{Act}
use Rattle.change_log.specs.declared.change.Act.TheVariants as act
use Rattle.change_log.specs.declared.change.Change.{Change}
use Rattle.change_log.specs.declared.call.Call.{Call}
use Rattle.change_log.specs.declared.call.Answer.{Answer}
use Rattle.change_log.proofs.Fronts.{front_at, later_at, either_at, Any-front}
use Rattle.change_log.proofs.OfCall.{its, IsPackAt, of_no_call, member_of, last_of, member_of_call, makes_no_pack, some_act}
use Rattle.change_log.proofs.Later.{nobody, own_at, placed_later, made_at, LegalFor-later}

pub settled_first : IsSettledFirst
settled_first who base changes none =
    record {
      all_own = All-nil (λ a. a.who ≡ who);
      in_order = λ i j d lt within. absurd (omega (arith, within));
      placed = All-nil (IsPlaced base changes);
      made = All-nil (IsMade base changes);
      answered = λ i c at m of_call. absurd (nobody who changes i c none at m);
      followed = λ i c at m t e. absurd (nobody who changes i c none at m);
    }

append_later : (changes more : List Change) (own : List Answer) (i who t : ℕ) → IsAppendAt changes own i who t → IsAppendAt (changes ++ more) own i who t
append_later changes more own i who t (next, at, maker, kind, found) =
    (next, front_at changes more i next at, maker, kind, found)

pub stays_settled : StaysSettled
stays_settled who base changes more own h none =
    record {
      all_own = h.all_own;
      in_order = h.in_order;
      placed = λ k d lt. placed_later base changes more (slice_index_or own k d) (h.placed k d lt);
      made = λ k d lt. let a = slice_index_or own k d in made_at (act_of a.call a.now) changes more a (h.made k d lt);
      answered = λ i c at m. h.answered i c (own_at who changes more i c none at m) m;
      followed = λ i c at m t e. append_later changes more own (i + 1) who t (h.followed i c (own_at who changes more i c none at m) m t e);
    }

append_answered : (changes : List Change) (own : List Answer) (a : Answer) (i who t : ℕ) → IsAppendAt changes own i who t → IsAppendAt changes (own ++ a ∷ []) i who t
append_answered changes own a i who t (next, at, maker, kind, found) =
    (next, at, maker, kind, Any-front (λ b. IsTrue (makes_change changes b) × (b.place ≡ i) × (b.now ≡ t)) own (a ∷ []) found)

is_answered_still : (changes : List Change) (own : List Answer) (a : Answer) (i : ℕ) → IsAnswered changes own i → IsAnswered changes (own ++ a ∷ []) i
is_answered_still changes own a i found = Any-front (λ b. IsTrue (makes_change changes b) × (b.place ≡ i)) own (a ∷ []) found

made_nothing : (changes : List Change) (a : Answer) (o : Option Act) → o ≡ None →
    IfSome o (λ act. (a.place < a.ended) × (slice_get changes a.place ≡ Some (record { maker = a.who; act = act })))
made_nothing changes a None e = tt
made_nothing changes a (Some act) e = absurd cc

pub settled_by_a_read : IsSettledByARead
settled_by_a_read who base changes own a h is_own reads ended placed =
    record {
      all_own = All-push (λ b. b.who ≡ who) own a h.all_own is_own;
      in_order = all_pairs_push (λ b c. b.ended ≤ c.begun) own a h.in_order ended;
      placed = All-push (IsPlaced base changes) own a h.placed placed;
      made = All-push (IsMade base changes) own a h.made (made_nothing changes a (act_of a.call a.now) reads);
      answered = λ i c at m of_call. is_answered_still changes own a i (h.answered i c at m of_call);
      followed = λ i c at m t e. append_answered changes own a (i + 1) who t (h.followed i c at m t e);
    }

module _ (who : ℕ) (base : Map) (before made : List Change) (own : List Answer) (a : Answer) (h : IsSettled who base before own)
    (w : HasMade who base before made a) (deed : Act) (acts : act_of a.call a.now ≡ Some deed) where
  abbrev all : List Change
  all = before ++ made

  of_act : AreOfAct who a.now (Some deed) made
  of_act = subst (λ o. AreOfAct who a.now o made) acts w.changes

  at_place : slice_get all a.place ≡ Some (its who a.now deed)
  at_place =
      let last = last_of who a.now deed made of_act in
      ap (slice_get all) (omega (arith, last.1, w.place, length-append before made)) ∙ later_at before made last.0 (its who a.now deed) last.2

  placed_now : IsPlaced base all a
  placed_now =
      let last = last_of who a.now deed made of_act in
      record {
        begun = omega (arith, w.begun, w.place, last.1, length-append before made);
        ended = omega (arith, w.place, w.ended);
        within = omega (arith, w.ended);
        reply = w.reply;
      }

  made_now : IsMade base all a
  made_now =
      subst (λ o. IfSome o (λ act. (a.place < a.ended) × (slice_get all a.place ≡ Some (record { maker = a.who; act = act })))) (sym acts)
      (omega (arith, w.place, w.ended), at_place ∙ ap (λ n. Some (record { maker = n; act = deed })) (sym w.caller))

  answered_now : (i : ℕ) (c : Change) → slice_get all i ≡ Some c → c.maker ≡ who → IsTrue (is_of_call c.act) → IsAnswered all (own ++ a ∷ []) i
  answered_now i c at m of_call = elim (either_at before made i c at) [
    | inl early ↦ is_answered_still all own a i (h.answered i c early m of_call)
    | inr late ↦ elim (member_of who a.now deed made of_act late.0 c late.2) [
      | inl last ↦ Any-push (λ b. IsTrue (makes_change all b) × (b.place ≡ i)) own a (w.makes, omega (arith, late.1, last.0, w.place, length-append before made))
      | inr write_back ↦ absurd (of_no_call who a.now deed c write_back.1 of_call)
    ]
  ]

  followed_now : (i : ℕ) (c : Change) → slice_get all i ≡ Some c → c.maker ≡ who → (t : ℕ) → c.act ≡ act.Pack t → IsAppendAt all (own ++ a ∷ []) (i + 1) who t
  followed_now i c at m t e = elim (either_at before made i c at) [
    | inl early ↦ append_answered all own a (i + 1) who t (append_later before made own (i + 1) who t (h.followed i c early m t e))
    | inr late ↦ elim (member_of who a.now deed made of_act late.0 c late.2) [
      | inl last ↦ absurd (makes_no_pack a.call a.now t (acts ∙ ap (λ x. Some x) (sym (ap (λ (x : Change). x.act) last.1) ∙ e)))
      | inr write_back ↦
          let next : a.place ≡ i + 1 = omega (arith, late.1, write_back.0, w.place, length-append before made) in (
            its who a.now deed,
            ap (slice_get all) (sym next) ∙ at_place,
            refl,
            write_back.2,
            Any-push (λ b. IsTrue (makes_change all b) × (b.place ≡ i + 1) × (b.now ≡ t)) own a (w.makes, next, moment (sym (ap (λ (x : Change). x.act) write_back.1) ∙ e)),
          )
    ]
  ]
    where
      moment : act.Pack a.now ≡ act.Pack t → a.now ≡ t
      moment e = cc

pub settled_by_a_write : IsSettledByAWrite
settled_by_a_write who base before made own a h ended w =
    let found = some_act (act_of a.call a.now) w.makes in
    record {
      all_own = All-push (λ b. b.who ≡ who) own a h.all_own w.caller;
      in_order = all_pairs_push (λ b c. b.ended ≤ c.begun) own a h.in_order ended;
      placed = All-push (IsPlaced base (before ++ made)) own a (λ k d lt. placed_later base before made (slice_index_or own k d) (h.placed k d lt))
          (placed_now who base before made own a h w found.0 found.1);
      made = All-push (IsMade base (before ++ made)) own a
          (λ k d lt. let b = slice_index_or own k d in made_at (act_of b.call b.now) before made b (h.made k d lt))
          (made_now who base before made own a h w found.0 found.1);
      answered = answered_now who base before made own a h w found.0 found.1;
      followed = followed_now who base before made own a h w found.0 found.1;
    }

followed_by_append : (changes : List Change) (own : List Answer) (i who t : ℕ) (c : Change) → c.maker ≡ who → IsAppendAt changes own (i + 1) who t →
    (next : Change) × (slice_get changes (i + 1) ≡ Some next) × (next.maker ≡ c.maker) × IsTrue (is_append next.act)
    × Any (λ a. IsTrue (makes_change changes a) × (a.place ≡ i + 1) × (a.now ≡ t)) own
followed_by_append changes own i who t c m (next, at, maker, kind, found) = (next, at, maker ∙ sym m, kind, found)

pub settled_is_legal : SettledIsLegal
settled_is_legal who base changes own h =
    record {
      all_own = h.all_own;
      in_order = h.in_order;
      placed = h.placed;
      made = h.made;
      owned = λ i c at m of_call. inl (h.answered i c at m of_call);
      followed = λ i c at m t e. inl (followed_by_append changes own i who t c m (h.followed i c at m t e));
    }

-- no change is made after the last
makes_none_past : (p : Act → Bool) (changes : List Change) (maker i : ℕ) → length changes ≤ i → MakesNone p changes maker i
makes_none_past p changes maker i past = λ j c le at m. absurd (omega (arith, past, le, slice_get_within changes j c at))

module _ (who : ℕ) (base : Map) (before made : List Change) (own : List Answer) (call : Call) (now : ℕ) (h : IsSettled who base before own)
    (more : List Change) (begun : AreOfCall who call now (made ++ more)) where
  member_at : (k : ℕ) (c : Change) → slice_get made k ≡ Some c →
      (deed : Act) × (((k + 1 ≡ length (made ++ more)) × (c ≡ its who now deed)) ⊎ IsPackAt who now deed (made ++ more) k c)
  member_at k c at = member_of_call who now (act_of call now) (made ++ more) begun k c (front_at made more k c at)

  left_open : (i k maker : ℕ) → i ≡ length before + k → IsLeftOpen own maker i
  left_open i k maker e = λ j d lt is. let p = h.placed j d lt in omega (arith, e, p.within)

  owned_open : (i : ℕ) (c : Change) → slice_get (before ++ made) i ≡ Some c → c.maker ≡ who → IsOwned (before ++ made) own i c
  owned_open i c at m of_call = elim (either_at before made i c at) [
    | inl early ↦ inl (h.answered i c early m of_call)
    | inr late ↦ elim (member_at late.0 c late.2).1 [
      | inl last ↦ inr (
        makes_none_past is_of_call (before ++ made) c.maker (i + 1) (omega (arith, late.1, last.0, slice_get_within made late.0 c late.2, length-append before made, length-append made more)),
        left_open i late.0 c.maker late.1,
      )
      | inr write_back ↦ absurd (of_no_call who now (member_at late.0 c late.2).0 c write_back.1 of_call)
    ]
  ]

  followed_open : (i : ℕ) (c : Change) → slice_get (before ++ made) i ≡ Some c → c.maker ≡ who → IsFollowed (before ++ made) own i c
  followed_open i c at m t e = elim (either_at before made i c at) [
    | inl early ↦ inl (followed_by_append (before ++ made) own i who t c m (append_later before made own (i + 1) who t (h.followed i c early m t e)))
    | inr late ↦
        let member = member_at late.0 c late.2 in
        let within = slice_get_within made late.0 c late.2 in
        elim member.1 [
          | inl last ↦ inr (inl (makes_none_past (λ _. true) (before ++ made) c.maker (i + 1) (omega (arith, late.1, last.0, within, length-append before made, length-append made more))))
          | inr write_back ↦ elim (either_at made more (late.0 + 1) (its who now member.0) write_back.3) [
            | inl there ↦ inr (inr (
              its who now member.0,
              ap (slice_get (before ++ made)) (omega (arith, late.1)) ∙ later_at before made (late.0 + 1) (its who now member.0) there,
              sym m,
              makes_none_past (λ _. true) (before ++ made) c.maker (i + 2) (omega (arith, late.1, write_back.0, within, length-append before made, length-append made more)),
            ))
            | inr beyond ↦ inr (inl (makes_none_past (λ _. true) (before ++ made) c.maker (i + 1) (omega (arith, late.1, beyond.1, length-append before made))))
          ]
        ]
  ]

  legal_open : LegalFor who base (before ++ made) own
  legal_open =
      record {
        all_own = h.all_own;
        in_order = h.in_order;
        placed = λ k d lt. placed_later base before made (slice_index_or own k d) (h.placed k d lt);
        made = λ k d lt. let a = slice_index_or own k d in made_at (act_of a.call a.now) before made a (h.made k d lt);
        owned = owned_open;
        followed = followed_open;
      }

pub cut_is_legal : CutIsLegal
cut_is_legal who base before made more own call now h (rest, begun) none =
    LegalFor-later who base (before ++ made) more own none (legal_open who base before made own call now h rest begun)
