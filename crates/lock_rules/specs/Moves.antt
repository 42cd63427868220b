-- One opener's holds beside the table, move by move, with the moves of others in between.
use Rattle.std.specs.Prelude.{◌≡◌, ◌≢◌, ℕ, ◌&&◌, ◌==◌, false, nat_lt, List, [], ◌∷◌, Option, Some, None}
use Rattle.std.specs.FinSet as set
use Rattle.lock_rules.specs.Locks.{Locks, unlocked, holds, holds_exclusive, MayTake, with_lock, without_holder}
use Rattle.lock_rules.specs.Counts.{Counts, none_counted, counted_up, counted_down, ask_of, leave_of}
use Rattle.lock_rules.specs.declared.counts.Ask.{Ask}
use Rattle.lock_rules.specs.declared.counts.Ask.TheVariants as ask
use Rattle.lock_rules.specs.declared.counts.Leave.{Leave}
use Rattle.lock_rules.specs.declared.counts.Leave.TheVariants as leave
use Rattle.lock_rules.specs.declared.table.LockKind.{LockKind}
use Rattle.lock_rules.specs.declared.table.LockKind.TheVariants.{Shared, Exclusive}

-- An opener's counts and the table. Between the two events of an upgrade or of a way back it waits for a lock.
pub record Standing : Type 0 where
  pub counts : Counts
  pub locks : Locks
  pub waits : Option LockKind

-- an opener that waits for no lock
abbrev pub at_rest : Counts → Locks → Standing
at_rest counts locks = record { counts = counts; locks = locks; waits = None }

-- what may happen: the opener asks for a hold, takes the lock that it waits for, leaves a hold or dies; another opener takes the lock, or gives it up or dies
pub data Move : Type 0 where
  Asks : LockKind → Move
  Takes : Move
  Leaves : LockKind → Move
  Dies : Move
  OtherTakes : ℕ → LockKind → Move
  OtherGoes : ℕ → Move

-- after an ask with this answer; where the lock is to be taken, it was
abbrev pub after_ask : ℕ → Standing → LockKind → Ask → Standing
after_ask who s kind ask.Counted = record s { counts = counted_up s.counts kind }
after_ask who s kind ask.Take = record s { counts = counted_up s.counts kind; locks = with_lock s.locks who kind }
after_ask who s kind ask.GiveUpThenTake = record s { locks = without_holder s.locks who; waits = Some kind }
after_ask who s kind ask.TooDeep = s

-- after a hold was left with this answer
abbrev pub after_leave : ℕ → Standing → LockKind → Leave → Standing
after_leave who s kind leave.NotHeld = s
after_leave who s kind leave.Counted = record s { counts = counted_down s.counts kind }
after_leave who s kind leave.GiveUp = record s { counts = counted_down s.counts kind; locks = without_holder s.locks who }
after_leave who s kind leave.BackToShared = record { counts = counted_down s.counts kind; locks = without_holder s.locks who; waits = Some Shared }

-- after the lock that the opener waited for was taken; an upgrade is counted then, a way back is counted already
abbrev pub after_wait : ℕ → Standing → Option LockKind → Standing
after_wait who s None = s
after_wait who s (Some Shared) = record s { locks = with_lock s.locks who Shared; waits = None }
after_wait who s (Some Exclusive) = record { counts = counted_up s.counts Exclusive; locks = with_lock s.locks who Exclusive; waits = None }

abbrev pub after_move : ℕ → Standing → Move → Standing
after_move who s (Asks kind) = after_ask who s kind (ask_of s.counts kind)
after_move who s Takes = after_wait who s s.waits
after_move who s (Leaves kind) = after_leave who s kind (leave_of s.counts kind)
after_move who s Dies = record { counts = none_counted; locks = without_holder s.locks who; waits = None }
after_move who s (OtherTakes other kind) = record s { locks = with_lock s.locks other kind }
after_move who s (OtherGoes other) = record s { locks = without_holder s.locks other }

-- the lock is there to be taken, where it is to be taken
abbrev pub MayAsk : ℕ → Standing → LockKind → Ask → Type 0
MayAsk who s kind ask.Take = MayTake s.locks who kind
MayAsk who s kind ask.Counted = Unit {0}
MayAsk who s kind ask.GiveUpThenTake = Unit {0}
MayAsk who s kind ask.TooDeep = Unit {0}

-- the lock that the opener waits for is there to be taken
abbrev pub MayWait : ℕ → Standing → Option LockKind → Type 0
MayWait who s None = ⊥
MayWait who s (Some kind) = MayTake s.locks who kind

-- the move may come next: an opener that waits for a lock asks for no hold and leaves none
abbrev pub MayMove : ℕ → Standing → Move → Type 0
MayMove who s (Asks kind) = (s.waits ≡ None) × MayAsk who s kind (ask_of s.counts kind)
MayMove who s Takes = MayWait who s s.waits
MayMove who s (Leaves kind) = s.waits ≡ None
MayMove who s Dies = Unit {0}
MayMove who s (OtherTakes other kind) = (other ≢ who) × MayTake s.locks other kind
MayMove who s (OtherGoes other) = other ≢ who

-- these moves lead from one standing to the other
abbrev pub LeadsTo : ℕ → Standing → List Move → Standing → Type 0
LeadsTo who s [] t = s ≡ t
LeadsTo who s (move ∷ moves) t = MayMove who s move × LeadsTo who (after_move who s move) moves t

-- nobody holds the lock, and nothing is counted
abbrev pub begun : Standing
begun = at_rest none_counted unlocked

-- An opener holds exclusive exactly where its exclusive count is positive, and shared exactly where only its shared count is.
-- While it waits for a lock, it holds nothing.
abbrev pub HoldsAsCounted : ℕ → Standing → Option LockKind → Type 0
HoldsAsCounted who s None = (holds_exclusive s.locks who ≡ nat_lt 0 s.counts.exclusive) × (set.contains s.locks.shared who ≡ ((s.counts.exclusive == 0) && nat_lt 0 s.counts.shared))
HoldsAsCounted who s (Some kind) = holds s.locks who ≡ false

-- after every list of moves an opener holds what its counts say
abbrev pub CountsTellTheLock : Type 0
CountsTellTheLock = (who : ℕ) (moves : List Move) (s : Standing) → LeadsTo who begun moves s → HoldsAsCounted who s s.waits
