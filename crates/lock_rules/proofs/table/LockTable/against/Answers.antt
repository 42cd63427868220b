use Rattle.std.proofs.Common.{ℕ, ◌≡◌, false, arith, subst}
use Rattle.std.specs.Prelude.{IfSome, IfNone}
use Rattle.lock_rules.specs.Locks.{Locks, holds, MayTake, IsLeastAgainst}
use Rattle.lock_rules.proofs.Views.{by_exclusive, by_nobody}
use Rattle.lock_rules.proofs.table.LockTable.against.Goals as goal

pub returns-in-Exclusive-2-clause-some : goal.returns-in-Exclusive-2-clause-some
returns-in-Exclusive-2-clause-some c =
    subst (λ (l : Locks). IfSome c.self.inside.exclusive (λ h. (who : ℕ) → holds l who ≡ false → IsLeastAgainst l who c.args.kind h)) c.self.view_is (by_exclusive c.self.inside.shared c.self.inside.exclusive c.args.kind c.self.invariant)

pub returns-in-Exclusive-2-clause-none : goal.returns-in-Exclusive-2-clause-none
returns-in-Exclusive-2-clause-none c =
    subst (λ (l : Locks). IfNone c.self.inside.exclusive ((who : ℕ) → holds l who ≡ false → MayTake l who c.args.kind)) c.self.view_is (by_nobody c.self.inside.shared c.self.inside.exclusive c.args.kind (λ _. omega arith))
