-- How often an opener asked for each kind of lock.
use Rattle.std.specs.Prelude.{ℕ, ◌+◌, ◌-◌, ◌≤◌, ◌||◌, ◌==◌, nat_lt, if◌then◌else◌}
use Rattle.lock_rules.specs.declared.limits.TheConstants.{DEEPEST_COUNT}
use Rattle.lock_rules.specs.declared.counts.Ask.{Ask}
use Rattle.lock_rules.specs.declared.counts.Ask.TheVariants as ask
use Rattle.lock_rules.specs.declared.counts.Leave.{Leave}
use Rattle.lock_rules.specs.declared.counts.Leave.TheVariants as leave
use Rattle.lock_rules.specs.declared.table.LockKind.{LockKind}
use Rattle.lock_rules.specs.declared.table.LockKind.TheVariants.{Shared, Exclusive}

-- how many holds of each kind stand
pub record Counts : Type 0 where
  pub shared : ℕ
  pub exclusive : ℕ

abbrev pub none_counted : Counts
none_counted = record { shared = 0; exclusive = 0 }

abbrev pub count_of : Counts → LockKind → ℕ
count_of counts Shared = counts.shared
count_of counts Exclusive = counts.exclusive

-- no count is above its limit
pub record IsWithin (counts : Counts) : Type 0 where
  pub shared : counts.shared ≤ DEEPEST_COUNT
  pub exclusive : counts.exclusive ≤ DEEPEST_COUNT

-- the counts with one more hold of this kind
abbrev pub counted_up : Counts → LockKind → Counts
counted_up counts Shared = record counts { shared = counts.shared + 1 }
counted_up counts Exclusive = record counts { exclusive = counts.exclusive + 1 }

-- the counts with one hold less of this kind, if there is one
abbrev pub counted_down : Counts → LockKind → Counts
counted_down counts Shared = record counts { shared = counts.shared - 1 }
counted_down counts Exclusive = record counts { exclusive = counts.exclusive - 1 }

-- what is to be done for a hold whose count has room
abbrev pub asked_of : Counts → LockKind → Ask
asked_of counts Shared = if nat_lt 0 counts.shared || nat_lt 0 counts.exclusive then ask.Counted else ask.Take
asked_of counts Exclusive = if nat_lt 0 counts.exclusive then ask.Counted else (if nat_lt 0 counts.shared then ask.GiveUpThenTake else ask.Take)

-- what is to be done for one more hold of this kind
abbrev pub ask_of : Counts → LockKind → Ask
ask_of counts kind = if count_of counts kind == DEEPEST_COUNT then ask.TooDeep else asked_of counts kind

-- what is to be done where these counts are left
abbrev pub left_of : Counts → LockKind → Leave
left_of counts Shared = if nat_lt 0 counts.shared || nat_lt 0 counts.exclusive then leave.Counted else leave.GiveUp
left_of counts Exclusive = if nat_lt 0 counts.exclusive then leave.Counted else (if nat_lt 0 counts.shared then leave.BackToShared else leave.GiveUp)

-- what is to be done where a hold of this kind is left
abbrev pub leave_of : Counts → LockKind → Leave
leave_of counts kind = if count_of counts kind == 0 then leave.NotHeld else left_of (counted_down counts kind) kind
