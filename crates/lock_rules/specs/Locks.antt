use Rattle.std.specs.Prelude.{◌≡◌, ◌≢◌, ℕ, ◌≤◌, ◌⊎◌, Bool, false, Option, Some, None, IsTrue, ◌||◌, ◌==◌, if◌then◌else◌, refl}
use Rattle.std.specs.Option.{option_map_or}
use Rattle.std.specs.Ordering.{nat_cmp}
use Rattle.std.specs.FinSet as set
use Rattle.std.specs.Coded.{Coded, code_by, coded×, coded_ℕ, coded_option}
use Rattle.lock_rules.specs.declared.table.LockKind.{LockKind}
use Rattle.lock_rules.specs.declared.table.LockKind.TheVariants.{Shared, Exclusive}

-- who holds the lock: some shared, or one exclusive
pub record Locks : Type 0 where
  pub shared : set.FinSet nat_cmp
  pub exclusive : Option ℕ

-- they are stored as the pair of their fields
abbrev pub locks_code : Coded Locks
locks_code =
    code_by (set.FinSet nat_cmp × Option ℕ) (coded× (set.code coded_ℕ) (coded_option coded_ℕ)) (λ l. (l.shared, l.exclusive)) (λ p. record { shared = p.0; exclusive = p.1 }) (λ _. refl)

abbrev pub unlocked : Locks
unlocked = record { shared = set.empty; exclusive = None }

abbrev pub holds_exclusive : Locks → ℕ → Bool
holds_exclusive locks who = option_map_or (λ h. h == who) locks.exclusive false

abbrev pub holds : Locks → ℕ → Bool
holds locks who = holds_exclusive locks who || set.contains locks.shared who

-- exclusive and shared never stand together
unfoldable pub IsSound : Locks → Type 0
IsSound locks = (locks.exclusive ≡ None) ⊎ ((h : ℕ) → set.contains locks.shared h ≡ false)

-- another opener stands against a try of this kind: it holds exclusive, or it holds shared and the kind is exclusive
abbrev pub IsAgainst : Locks → ℕ → LockKind → ℕ → Type 0
IsAgainst locks who Shared h = (h ≢ who) × IsTrue (holds_exclusive locks h)
IsAgainst locks who Exclusive h = (h ≢ who) × IsTrue (holds locks h)

-- the least of those
pub record IsLeastAgainst (locks : Locks) (who : ℕ) (kind : LockKind) (h : ℕ) : Type 0 where
  pub against : IsAgainst locks who kind h
  pub least : (other : ℕ) → IsAgainst locks who kind other → h ≤ other

-- this opener may take the lock: it holds nothing, and no holder stands against it
abbrev pub MayTake : Locks → ℕ → LockKind → Type 0
MayTake locks who Shared = (holds locks who ≡ false) × (locks.exclusive ≡ None)
MayTake locks who Exclusive = (locks.shared ≡ set.empty) × (locks.exclusive ≡ None)

abbrev pub with_lock : Locks → ℕ → LockKind → Locks
with_lock locks who Shared = record locks { shared = set.insert locks.shared who }
with_lock locks who Exclusive = record locks { exclusive = Some who }

-- the locks without what this opener holds
abbrev pub without_holder : Locks → ℕ → Locks
without_holder locks who =
    record {
      shared = set.remove locks.shared who;
      exclusive = option_map_or (λ h. if h == who then None else Some h) locks.exclusive None;
    }
