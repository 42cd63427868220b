-- The numbers of holders, and the bits that stand for them.
use Rattle.std.specs.Prelude.{◌≡◌, ℕ, zero, suc, ◌^◌, ◌<◌, ◌≤◌, true, List, [], ◌∷◌, Option, Some, None, if◌then◌else◌, ◌==◌}
use Rattle.std.specs.Int.{bit_at}
use Rattle.std.specs.Ordering.{nat_cmp}
use Rattle.std.specs.FinSet as set
use Rattle.lock_rules.specs.Locks.{Locks, holds}
use Rattle.lock_rules.specs.declared.limits.TheConstants.{MOST_OPENERS}

-- each holder has the number of an opener
unfoldable pub AreHolders : Locks → Type 0
AreHolders locks = (h : ℕ) → holds locks h ≡ true → (1 ≤ h) × (h ≤ MOST_OPENERS)

-- the holders 1 to k whose bits are set
unfoldable pub holders_to : ℕ → ℕ → List ℕ
holders_to zero bits = []
holders_to (suc k) bits = if bit_at bits k == 1 then suc k ∷ holders_to k bits else holders_to k bits

-- the holders whose bits are set
unfoldable pub holders_of : ℕ → set.FinSet nat_cmp
holders_of bits = set.from_list (holders_to MOST_OPENERS bits)

-- one holder has such a number and stands alone
abbrev pub StandsAlone : ℕ → Option ℕ → Type 0
StandsAlone shared None = Unit {0}
StandsAlone shared (Some h) = (1 ≤ h) × (h ≤ MOST_OPENERS) × (shared ≡ 0)

-- the bits of the shared holders are 64, and an exclusive holder stands alone
abbrev pub IsApart : ℕ → Option ℕ → Type 0
IsApart shared exclusive = (shared < 2 ^ 64) × StandsAlone shared exclusive
