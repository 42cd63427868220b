use Rattle.std.proofs.Common.{ap, lit<}
use Rattle.std.specs.Prelude.{None}
use Rattle.std.specs.Ordering.{nat_cmp}
use Rattle.std.specs.FinSet as set
use Rattle.lock_rules.specs.Locks.{Locks}
use Rattle.lock_rules.proofs.Holding.{holders_of-none}
use Rattle.lock_rules.proofs.Views.{seen_sound, seen_within}
use Rattle.lock_rules.proofs.table.LockTable.new.Goals as goal

pub returns-clause-value : goal.returns-clause-value
returns-clause-value c = ap (λ (s : set.FinSet nat_cmp). let l : Locks = record { shared = s; exclusive = None } in l) holders_of-none

pub returns-clause-sound : goal.returns-clause-sound
returns-clause-sound c = seen_sound 0 None (lit< tt, tt)

pub returns-clause-within : goal.returns-clause-within
returns-clause-within c = seen_within 0 None (lit< tt, tt)
