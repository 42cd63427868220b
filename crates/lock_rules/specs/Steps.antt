-- What the answers about holds are among the moves of an opener.
use Rattle.std.specs.Prelude.{◌≡◌, ℕ}
use Rattle.lock_rules.specs.Locks.{Locks}
use Rattle.lock_rules.specs.Counts.{Counts}
use Rattle.lock_rules.specs.Moves.{at_rest, after_ask, after_leave, after_move, Asks, Leaves}
use Rattle.lock_rules.specs.declared.counts.Ask.{Ask}
use Rattle.lock_rules.specs.declared.counts.Ask.TheVariants as ask
use Rattle.lock_rules.specs.declared.counts.Leave.{Leave}
use Rattle.lock_rules.specs.declared.table.LockKind.{LockKind}

-- an ask with this answer is a move, whatever the table
abbrev pub AsksAs : Counts → LockKind → Ask → Type 0
AsksAs counts kind answer = (who : ℕ) (locks : Locks) → after_move who (at_rest counts locks) (Asks kind) ≡ after_ask who (at_rest counts locks) kind answer

-- these are the counts after a move that counts a hold, with the lock taken or not
abbrev pub TookAs : Counts → LockKind → Counts → Type 0
TookAs old kind new = (who : ℕ) (locks : Locks) → ((after_ask who (at_rest old locks) kind ask.Counted).counts ≡ new) × ((after_ask who (at_rest old locks) kind ask.Take).counts ≡ new)

-- a leave with this answer and these counts behind it is a move, whatever the table
abbrev pub LeavesAs : Counts → LockKind → Leave → Counts → Type 0
LeavesAs old kind answer new =
    (who : ℕ) (locks : Locks) → (after_move who (at_rest old locks) (Leaves kind) ≡ after_leave who (at_rest old locks) kind answer) × ((after_leave who (at_rest old locks) kind answer).counts ≡ new)
