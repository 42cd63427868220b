-- An opener whose try is refused holds nothing.
use Rattle.std.proofs.Common.{◌≡◌, ◌≢◌, ℕ, ◌⊎◌, Bool, true, false, eqb, List, [], ◌∷◌, sym, ap, ◌∙◌, inl, inr}
use Rattle.std.proofs.lemmas.Bool.Decides.{eqb_tells}
use Rattle.std.specs.Prelude.{Some, None, ◌==◌, if◌then◌else◌}
use Rattle.lock_rules.specs.Locks.{IsLeastAgainst, Locks, MayTake}
use Rattle.lock_rules.specs.declared.table.LockKind.{LockKind}
use Rattle.lock_rules.specs.declared.table.LockKind.TheVariants.{Shared, Exclusive}
use Rattle.opener.specs.Calls.{kind_of, kind_tried}
use Rattle.opener.specs.Ends.{lock_by}
use Rattle.opener.specs.Opener.{IsAt}
use Rattle.opener.specs.State.{OpenerState}
use Rattle.opener.specs.declared.work.Running.{Running as Call}
use Rattle.opener.specs.declared.work.Stage.{Stage}
use Rattle.opener.specs.declared.work.Stage.TheVariants as stage
use Rattle.opener.specs.declared.work.Work.TheVariants.{Runs}
use Rattle.region_words.specs.Lawful.{IsPossible, Lawful}
use Rattle.region_words.specs.Past.{locks_after, locks_step, region_after}
use Rattle.region_words.specs.Region.{Region}
use Rattle.region_words.specs.Share.{lock_of}
use Rattle.region_words.specs.declared.event.Event.{Event}
use Rattle.region_words.specs.declared.event.What.{What}
use Rattle.region_words.specs.declared.event.What.TheVariants.{Store, Grow, Lock, Unlock, Died}
use Rattle.region_words.proofs.LockOf.{exclusive_is, is_exclusive, lock_at_first, lock_other, lock_with, lock_without, some_holds}
use Rattle.mmkv_top.proofs.NoPlaces.{free_of, no_holder}

-- who holds exclusive is the only holder
abbrev IsOnly : Locks → Type 0
IsOnly locks = (w v : ℕ) → lock_of locks w ≡ Some Exclusive → lock_of locks v ≢ None → v ≡ w

none_else : (locks : Locks) (who v : ℕ) → MayTake locks who Exclusive → lock_of locks v ≡ None
none_else locks who v may = (λ i. lock_of (record { shared = may.0 i; exclusive = may.1 i }) v) ∙ lock_at_first v

module _ (r : Region) (locks : Locks) (who : ℕ) (only : IsOnly locks) where
  -- a lock that was given up
  left_only : (what : What) → IsPossible r locks who what → lock_of (locks_step locks who what) who ≡ None → IsOnly (locks_step locks who what)
  left_only what may free w v held some = go (eqb_tells w who) (eqb_tells v who)
    where
      go : ((eqb w who ≡ true) × (w ≡ who)) ⊎ ((eqb w who ≡ false) × (w ≢ who)) → ((eqb v who ≡ true) × (v ≡ who)) ⊎ ((eqb v who ≡ false) × (v ≢ who)) → v ≡ w
      go (inl a) (inl b) = b.1 ∙ sym a.1
      go (inl a) (inr b) = let both : None ≡ Some Exclusive = sym free ∙ ap (lock_of (locks_step locks who what)) (sym a.1) ∙ held in absurd cc
      go (inr a) (inl b) = absurd (some (ap (lock_of (locks_step locks who what)) b.1 ∙ free))
      go (inr a) (inr b) = only w v (sym (lock_other r locks who w what a.1 may) ∙ held) (λ none. some (lock_other r locks who v what b.1 may ∙ none))

  -- one that was taken
  taken_only : (kind : LockKind) → MayTake locks who kind → IsOnly (locks_step locks who (Lock kind))
  taken_only kind may w v held some = go (eqb_tells w who) (eqb_tells v who)
    where
      mine : (kind : LockKind) → MayTake locks who kind → Some kind ≡ Some Exclusive → v ≢ who → lock_of locks v ≡ None
      mine Exclusive may is apart = none_else locks who v may
      mine Shared may is apart = absurd cc

      go : ((eqb w who ≡ true) × (w ≡ who)) ⊎ ((eqb w who ≡ false) × (w ≢ who)) → ((eqb v who ≡ true) × (v ≡ who)) ⊎ ((eqb v who ≡ false) × (v ≢ who)) → v ≡ w
      go (inl a) (inl b) = b.1 ∙ sym a.1
      go (inl a) (inr b) =
          let is : Some kind ≡ Some Exclusive = sym (lock_with locks who kind may) ∙ ap (lock_of (locks_step locks who (Lock kind))) (sym a.1) ∙ held in
          absurd (some (lock_other r locks who v (Lock kind) b.1 may ∙ mine kind may is b.1))
      go (inr a) other = absurd (no_holder locks w (free_of locks who kind may) (exclusive_is locks w (sym (lock_other r locks who w (Lock kind) a.1 may) ∙ held)))

  step_only : (what : What) → IsPossible r locks who what → IsOnly (locks_step locks who what)
  step_only (Store side word value mark) may = only
  step_only (Grow size) may = only
  step_only (Lock kind) may = taken_only kind may
  step_only Unlock may = left_only Unlock may (lock_without locks who)
  step_only (Died torn) may = left_only (Died torn) may (lock_without locks who)

only_holder : (start : Region) (past : List Event) → Lawful start past → IsOnly (locks_after past)
only_holder start [] lawful = λ w v held some. absurd (some (lock_at_first v))
only_holder start (e ∷ past) lawful = step_only (region_after start past) (locks_after past) e.who (only_holder start past lawful.0) e.what lawful.1.possible

-- who stands against a try holds something
holds_against : (locks : Locks) (who : ℕ) (kind : LockKind) (holder : ℕ) → IsLeastAgainst locks who kind holder → (holder ≢ who) × (lock_of locks holder ≢ None)
holds_against locks who Shared holder least = (least.against.0, λ none. let both : None ≡ Some Exclusive = sym none ∙ is_exclusive locks holder least.against.1 in absurd cc)
holds_against locks who Exclusive holder least = (least.against.0, some_holds locks holder least.against.1)

-- so who tries holds nothing
pub free_to_try : (start : Region) (past : List Event) (who : ℕ) (kind : LockKind) (holder holds : ℕ) → Lawful start past → IsLeastAgainst (locks_after past) who kind holder →
    lock_of (locks_after past) who ≡ lock_by holds None → lock_of (locks_after past) who ≡ None
free_to_try start past who kind holder holds lawful least is = go (holds == 0) is
  where
    go : (b : Bool) → lock_of (locks_after past) who ≡ (if b then None else Some Exclusive) → lock_of (locks_after past) who ≡ None
    go true is = is
    go false is = let h = holds_against (locks_after past) who kind holder least in absurd (h.0 (only_holder start past lawful who holder is h.1))

-- a try is one of the kind of the call, and nothing was taken for it before
pub tried_at : (o : OpenerState) (c : Call) (at : Stage) (kind : LockKind) → kind_tried c.call at ≡ Some kind → IsAt o (Runs c at) → (kind_of c.call ≡ Some kind) × (c.taken ≡ None)
tried_at o c (stage.LockShared extent) kind tried is = (tried, is.2.1)
tried_at o c stage.LockExclusive kind tried is = (tried, is.2.1)
tried_at o c stage.Hold kind tried is = (tried, is.2.1)
tried_at o c stage.PeekChecksum kind tried is = absurd cc
tried_at o c (stage.PeekSequence peek) kind tried is = absurd cc
tried_at o c (stage.Continue loading) kind tried is = absurd cc
tried_at o c (stage.Load loading) kind tried is = absurd cc
tried_at o c stage.Size kind tried is = absurd cc
tried_at o c (stage.Reserve plan) kind tried is = absurd cc
tried_at o c (stage.Store plan) kind tried is = absurd cc
tried_at o c (stage.Unlock how) kind tried is = absurd cc
tried_at o c stage.Release kind tried is = absurd cc
