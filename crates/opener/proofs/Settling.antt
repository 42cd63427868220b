-- Each answer of an opener settles what its call changed.
use Rattle.std.proofs.Common.{◌≡◌, ℕ, ◌+◌, ◌<◌, ◌≤◌, List, [], ◌∷◌, ◌++◌, length, refl, sym, ap, ◌∙◌, inl, inr, arith, subst, append-nil, length-append}
use Rattle.std.specs.Prelude.{Option, Some, None, IfSome, IsTrue, is_some, slice_get}
use Rattle.expiring_map.specs.Map.{Map}
use Rattle.change_log.specs.Acts.{act_of, is_of_call}
use Rattle.change_log.specs.History.{makes_change, IsPlaced, IsMade, IsAnswered}
use Rattle.change_log.specs.Settled.{AreEndedBy, AreOfAct, AreOfCall, IsSettled}
use Rattle.change_log.specs.declared.call.Answer.{Answer}
use Rattle.change_log.specs.declared.call.Call.{Call}
use Rattle.change_log.specs.declared.call.Call.TheVariants as call
use Rattle.change_log.specs.declared.change.Act.{Act}
use Rattle.change_log.specs.declared.change.Change.{Change}
use Rattle.change_log.proofs.Fronts.{either_at}
use Rattle.change_log.proofs.OfCall.{makes_no_pack, member_of}
use Rattle.change_log.proofs.Settled.{settled_by_a_read, settled_by_a_write}

call_of_act : (asked : Call) (now : ℕ) (deed : Act) → act_of asked now ≡ Some deed → IsTrue (is_of_call deed)
call_of_act (call.Put key value seconds) now deed e = subst (λ o. IfSome o (λ a. IsTrue (is_of_call a))) e refl
call_of_act (call.Remove key) now deed e = subst (λ o. IfSome o (λ a. IsTrue (is_of_call a))) e refl
call_of_act call.Clear now deed e = subst (λ o. IfSome o (λ a. IsTrue (is_of_call a))) e refl
call_of_act (call.Enable seconds) now deed e = subst (λ o. IfSome o (λ a. IsTrue (is_of_call a))) e refl
call_of_act call.Disable now deed e = subst (λ o. IfSome o (λ a. IsTrue (is_of_call a))) e refl
call_of_act (call.Get key) now deed e = absurd cc
call_of_act call.Keys now deed e = absurd cc
call_of_act call.Count now deed e = absurd cc
call_of_act call.Hold now deed e = absurd cc
call_of_act call.Release now deed e = absurd cc
call_of_act call.Sync now deed e = absurd cc

-- An answered call that changed these, behind what is settled.
module _ (who : ℕ) (m : Map) (before made : List Change) (own : List Answer) (a : Answer) (settled : IsSettled who m before own) (by : a.who ≡ who) (ended : AreEndedBy a.begun own)
    (begun : a.begun ≤ length before) (placed : IsPlaced m (before ++ made) a) (makes : IsMade m (before ++ made) a) (over : a.ended ≡ length (before ++ made)) where
  -- of what was settled no change is this call's
  none_before : (deed : Act) → act_of a.call a.now ≡ Some deed → slice_get before a.place ≡ Some (record { maker = a.who; act = deed }) → ⊥
  none_before deed acts at = go (settled.answered a.place (record { maker = a.who; act = deed }) at by (call_of_act a.call a.now deed acts))
    where
      earlier : (b : Answer) → IsMade m before b → IsTrue (makes_change before b) → b.place < b.ended
      earlier b of_b makes = before_end (act_of b.call b.now) of_b makes
        where
          before_end : (o : Option Act) → IfSome o (λ act. (b.place < b.ended) × (slice_get before b.place ≡ Some (record { maker = b.who; act = act }))) → IsTrue (is_some o) → b.place < b.ended
          before_end None of_b makes = absurd cc
          before_end (Some deed) of_b makes = of_b.0

      go : IsAnswered before own a.place → ⊥
      go (k, b, lt, e, found) =
          let early : b.place < b.ended = earlier b (subst (IsMade m before) e (settled.made k b lt)) found.0 in
          let late : b.ended ≤ a.begun = subst (λ (z : Answer). z.ended ≤ a.begun) e (ended k b lt) in
          omega (arith, early, late, placed.begun, found.1)

  -- so it stands at the end
  place_is : (deed : Act) → act_of a.call a.now ≡ Some deed → slice_get (before ++ made) a.place ≡ Some (record { maker = a.who; act = deed }) → AreOfAct who a.now (Some deed) made →
      a.place + 1 ≡ length (before ++ made)
  place_is deed acts at are = elim (either_at before made a.place (record { maker = a.who; act = deed }) at) [
    | inl early ↦ absurd (none_before deed acts early)
    | inr late ↦ elim (member_of who a.now deed made are late.0 (record { maker = a.who; act = deed }) late.2) [
      | inl last ↦ omega (arith, late.1, last.0, length-append before made)
      | inr write_back ↦ absurd (makes_no_pack a.call a.now a.now (acts ∙ ap (λ (c : Change). Some c.act) write_back.1))
    ]
  ]

  pub answer_settles : AreOfCall who a.call a.now made → IsSettled who m (before ++ made) (own ++ a ∷ [])
  answer_settles are = go (act_of a.call a.now) refl are makes
    where
      go : (o : Option Act) → act_of a.call a.now ≡ o → AreOfAct who a.now o made →
          IfSome o (λ act. (a.place < a.ended) × (slice_get (before ++ made) a.place ≡ Some (record { maker = a.who; act = act }))) → IsSettled who m (before ++ made) (own ++ a ∷ [])
      go None acts none stands =
          settled_by_a_read who m (before ++ made) own a (subst (λ l. IsSettled who m l own) (sym (ap (λ l. before ++ l) none ∙ append-nil before)) settled) by acts ended placed
      go (Some deed) acts all stands =
          settled_by_a_write who m before made own a settled ended
          (record {
            caller = by;
            changes = are;
            makes = subst (λ o. IsTrue (is_some o)) (sym acts) refl;
            begun = begun;
            place = place_is deed acts stands.1 all;
            ended = over;
            reply = placed.reply;
          })
