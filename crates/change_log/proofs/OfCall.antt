-- The changes of a call: its own, which is the last, and a write-back before it.
use Rattle.std.proofs.Common.{◌≡◌, ◌⊎◌, ℕ, zero, suc, ◌+◌, true, false, List, [], ◌∷◌, refl, sym, ap, ◌∙◌, length, inl, inr, arith, subst}
use Rattle.std.specs.Prelude.{Option, Some, None, IsTrue, slice_get, is_some}
use Rattle.change_log.specs.Acts.{act_of, is_of_call, is_append}
use Rattle.change_log.specs.Settled.{AreOfAct}
use Rattle.change_log.specs.declared.change.Act.{Act}
use Rattle.change_log.specs.declared.change.Act.TheVariants as act
use Rattle.change_log.specs.declared.change.Change.{Change}
use Rattle.change_log.specs.declared.call.Call.{Call}
use Rattle.change_log.specs.declared.call.Call.TheVariants as call

module _ (who now : ℕ) (deed : Act) where
  -- the call's own change
  abbrev pub its : Change
  its = record { maker = who; act = deed }

  -- the write-back that it makes room by
  abbrev pub pack : Change
  pack = record { maker = who; act = act.Pack now }

  pub of_no_call : (c : Change) → c ≡ pack → IsTrue (is_of_call c.act) → ⊥
  of_no_call c e of_call = never (subst (λ (x : Change). IsTrue (is_of_call x.act)) e of_call)
    where
      never : false ≡ true → ⊥
      never e = cc

  -- the write-back is here, and the call's own change is the next and last
  abbrev pub IsPackAt : List Change → ℕ → Change → Type 0
  IsPackAt changes k c = (k + 2 ≡ length changes) × (c ≡ pack) × IsTrue (is_append deed) × (slice_get changes (k + 1) ≡ Some its)

  -- each of these changes is the call's own and the last, or the write-back before it
  abbrev pub IsMember : List Change → Type 0
  IsMember changes = (k : ℕ) (c : Change) → slice_get changes k ≡ Some c → ((k + 1 ≡ length changes) × (c ≡ its)) ⊎ IsPackAt changes k c

  alone : IsMember (its ∷ [])
  alone zero c e = inl (omega arith, cc)
  alone (suc k) c e = absurd cc

  both : IsTrue (is_append deed) → IsMember (pack ∷ its ∷ [])
  both is zero c e = inr (omega arith, cc, is, refl)
  both is (suc zero) c e = inl (omega arith, cc)
  both is (suc (suc k)) c e = absurd cc

  pub member_of : (changes : List Change) → AreOfAct who now (Some deed) changes → IsMember changes
  member_of changes (inl e) = subst IsMember (sym e) alone
  member_of changes (inr (is, e)) = subst IsMember (sym e) (both is)

  abbrev pub HasLast : List Change → Type 0
  HasLast changes = (k : ℕ) × (k + 1 ≡ length changes) × (slice_get changes k ≡ Some its)

  pub last_of : (changes : List Change) → AreOfAct who now (Some deed) changes → HasLast changes
  last_of changes (inl e) = subst HasLast (sym e) (0, omega arith, refl)
  last_of changes (inr (is, e)) = subst HasLast (sym e) (1, omega arith, refl)

-- no call makes a write-back
pub makes_no_pack : (call : Call) (now t : ℕ) → act_of call now ≡ Some (act.Pack t) → ⊥
makes_no_pack (call.Put key value seconds) now t e = cc
makes_no_pack (call.Remove key) now t e = cc
makes_no_pack call.Clear now t e = cc
makes_no_pack (call.Enable seconds) now t e = cc
makes_no_pack call.Disable now t e = cc
makes_no_pack _ now t e = cc

pub some_act : (o : Option Act) → IsTrue (is_some o) → (deed : Act) × (o ≡ Some deed)
some_act None is = absurd cc
some_act (Some deed) is = (deed, refl)

-- a change of a call is its own and the last, or the write-back before it
pub member_of_call : (who now : ℕ) (o : Option Act) (changes : List Change) → AreOfAct who now o changes → (k : ℕ) (c : Change) → slice_get changes k ≡ Some c →
    (deed : Act) × (((k + 1 ≡ length changes) × (c ≡ its who now deed)) ⊎ IsPackAt who now deed changes k c)
member_of_call who now None changes are k c at = absurd (nothing (sym (ap (λ xs. slice_get xs k) are) ∙ at))
  where
    nothing : slice_get [] k ≡ Some c → ⊥
    nothing e = cc
member_of_call who now (Some deed) changes are k c at = (deed, member_of who now deed changes are k c at)
