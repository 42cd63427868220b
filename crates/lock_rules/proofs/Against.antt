-- A try is refused exactly where somebody stands against it.
use Rattle.std.proofs.Common.{◌≡◌, ℕ, false, ap, ◌∙◌, refl, arith}
use Rattle.std.specs.Prelude.{Option, Some, None, ◌||◌, ◌==◌}
use Rattle.std.specs.Option.{option_map_or}
use Rattle.std.specs.Ordering.{nat_cmp}
use Rattle.std.specs.FinSet as set
use Rattle.lock_rules.specs.Locks.{Locks, holds, MayTake, IsAgainst, IsLeastAgainst}
use Rattle.lock_rules.specs.declared.table.LockKind.{LockKind}
use Rattle.lock_rules.specs.declared.table.LockKind.TheVariants.{Shared, Exclusive}

none_holds : (o : Option ℕ) (h : ℕ) → o ≡ None → option_map_or (λ x. x == h) o false ≡ false
none_holds None h e = refl
none_holds (Some x) h e = absurd cc

-- nobody stands against a lock that may be taken
pub none_against : (locks : Locks) (who : ℕ) (kind : LockKind) (h : ℕ) → MayTake locks who kind → IsAgainst locks who kind h → ⊥
none_against locks who Shared h (free, none) (other, x) = let e = none_holds locks.exclusive h none in absurd cc
none_against locks who Exclusive h (empty, none) (other, x) =
    let e = none_holds locks.exclusive h none in
    let f : set.contains locks.shared h ≡ false = ap (λ s. set.contains s h) empty ∙ set.contains-empty nat_cmp h in
    let g : holds locks h ≡ false = (λ i. e i || f i) in
    absurd cc

-- the least of those against a try is one
pub least_once : (locks : Locks) (who : ℕ) (kind : LockKind) (h g : ℕ) → IsLeastAgainst locks who kind h → IsLeastAgainst locks who kind g → h ≡ g
least_once locks who kind h g a b = omega (arith, a.least g b.against, b.least h a.against)
