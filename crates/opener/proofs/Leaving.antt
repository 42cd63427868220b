-- An opener gives its lock up.
use Rattle.std.proofs.Common.{◌≡◌, ◌≢◌, ℕ, ◌≤◌, Bool, true, false, cond, List, ◌∷◌, refl, sym, ◌∙◌, subst, not, ◌||◌}
use Rattle.std.specs.Prelude.{Option, Some, None}
use Rattle.std.specs.FinSet as set
use Rattle.lock_rules.specs.Locks.{Locks, holds, holds_exclusive}
use Rattle.lock_rules.specs.declared.table.LockKind.{LockKind}
use Rattle.lock_rules.specs.declared.table.LockKind.TheVariants.{Shared, Exclusive}
use Rattle.region_words.specs.Region.{Region}
use Rattle.region_words.specs.Past.{locks_after, has_died}
use Rattle.region_words.specs.Apart.{Apart}
use Rattle.region_words.specs.Lawful.{Lawful, Between}
use Rattle.region_words.specs.Outcome.{AtRest}
use Rattle.region_words.specs.Told.{History}
use Rattle.region_words.specs.Share.{ShareState, MayMake, lock_of}
use Rattle.region_words.specs.Local.{event_of, lock_after}
use Rattle.region_words.specs.declared.event.What.TheVariants.{Unlock}
use Rattle.region_words.specs.declared.event.Event.{Event}
use Rattle.region_words.proofs.Regions.{lawful_accepted}
use Rattle.region_words.proofs.LockOf.{holds_some}
use Rattle.region_words.proofs.Notices.{shared_free, free_rests}
use Rattle.region_words.proofs.Telling.{told_map}
use Rattle.opener.specs.State.{OpenerState}
use Rattle.opener.specs.Ends.{lock_by}
use Rattle.opener.specs.Opener.{Tied, Knows, Facts, is_storing, running_as}
use Rattle.opener.specs.declared.work.Running.{Running}
use Rattle.opener.specs.declared.work.Stage.{Stage}
use Rattle.opener.specs.declared.work.Work.TheVariants.{Runs}

-- a lock may be given up at rest
unlock_at_rest : (start : Region) (past : List Event) (who : ℕ) → Lawful start past → (1 ≤ who) × (who ≤ 64) → has_died past who ≡ false → holds (locks_after past) who ≡ true →
    (Apart start past → AtRest start past) → Lawful start (event_of who Unlock ∷ past)
unlock_at_rest start past who l maker alive mine rests = (
  l,
  record { maker = maker; alive = alive; possible = mine; accepted = λ ok. lawful_accepted start past ok l },
  λ apart. let r = rests apart in (Between None, (Between r.0, r.1, ((r.0, refl), refl))),
)

living : (admitted died : Bool) → (not admitted || died) ≡ false → died ≡ false
living true died e = e
living false died e = absurd cc

-- who holds the lock shared is among its holders
shared_is : (locks : Locks) (who : ℕ) → lock_of locks who ≡ Some Shared → set.contains locks.shared who ≡ true
shared_is locks who e = go (holds_exclusive locks who) (set.contains locks.shared who) e
  where
    go : (b c : Bool) → cond b (Some Exclusive) (cond c (Some Shared) None) ≡ Some Shared → c ≡ true
    go true c e = absurd cc
    go false true e = refl
    go false false e = absurd cc

-- under a shared lock no row is under way
pub rests_shared : (start : Region) (past : List Event) (who : ℕ) → Lawful start past → lock_after past who ≡ Some Shared → Apart start past → AtRest start past
rests_shared start past who l mine apart = free_rests start past l apart (shared_free start past who l (shared_is (locks_after past) who mine))

-- and under any lock but while stores are made
pub rests_locked : (o : OpenerState) (running : Running) (stage : Stage) (start : Region) (past : List Event) (who : ℕ) → Lawful start past → Facts (running_as o running stage) start past →
    is_storing (Runs running stage) ≡ false → (lock : Option LockKind) → lock_by o.holds running.taken ≡ lock → lock ≢ None → lock_after past who ≡ lock → Apart start past → AtRest start past
rests_locked o running stage start past who l facts calm None is some mine apart = absurd (some refl)
rests_locked o running stage start past who l facts calm (Some Shared) is some mine apart = rests_shared start past who l mine apart
rests_locked o running stage start past who l facts calm (Some Exclusive) is some mine apart = (None, facts.rests is calm apart)

-- so it may be given up
pub may_leave : (o : OpenerState) (running : Running) (stage : Stage) (s : ShareState) → Tied (running_as o running stage) s → is_storing (Runs running stage) ≡ false →
    lock_by o.holds running.taken ≢ None → MayMake Unlock s
may_leave o running stage s tied calm some =
    told_map s.told (Knows (running_as o running stage) s) (λ h. Lawful h.start (event_of s.who Unlock ∷ h.past)) go tied.told
  where
    alive : s.ended ≡ false
    alive = tied.ended

    go : (h : History) → Knows (running_as o running stage) s h → Lawful h.start (event_of s.who Unlock ∷ h.past)
    go h k =
        let mine = k.agrees.holds ∙ tied.holds in
        unlock_at_rest h.start h.past s.who k.agrees.lawful (subst (λ w. (1 ≤ w) × (w ≤ 64)) (sym tied.who) tied.maker)
        (living (s.admitted s.who) (has_died h.past s.who) (sym k.agrees.ended ∙ alive)) (holds_some (locks_after h.past) s.who (λ e. some (sym mine ∙ e)))
        (rests_locked o running stage h.start h.past s.who k.agrees.lawful k.facts calm (lock_by o.holds running.taken) refl some mine)
