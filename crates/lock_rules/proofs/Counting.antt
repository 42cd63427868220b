-- What an opener holds follows from what it counts, move by move.
use Rattle.std.proofs.Common.{◌≡◌, ◌≢◌, ℕ, ◌<◌, Bool, true, false, cond, List, [], ◌∷◌, refl, ap, sym, ◌∙◌, subst, arith}
use Rattle.std.specs.Prelude.{Option, Some, None, ◌||◌, ◌&&◌, ◌==◌, nat_lt, not, if◌then◌else◌}
use Rattle.std.specs.Option.{option_map_or}
use Rattle.std.specs.Ordering.{nat_cmp}
use Rattle.std.specs.Cmp.{nat_cmp_total}
use Rattle.std.specs.FinSet as set
use Rattle.std.proofs.lemmas.Bool.Decides.{nat_tests}
use Rattle.lock_rules.specs.Locks.{Locks, holds_exclusive, MayTake, with_lock, without_holder}
use Rattle.lock_rules.specs.Counts.{Counts, ask_of, leave_of}
use Rattle.lock_rules.specs.Moves.{Standing, at_rest, Move, Asks, Takes, Leaves, Dies, OtherTakes, OtherGoes, after_ask, after_leave, after_wait, after_move, MayAsk, MayWait, MayMove, LeadsTo, begun, HoldsAsCounted}
use Rattle.lock_rules.specs.declared.counts.Ask.{Ask}
use Rattle.lock_rules.specs.declared.counts.Ask.TheVariants as ask
use Rattle.lock_rules.specs.declared.counts.Leave.{Leave}
use Rattle.lock_rules.specs.declared.counts.Leave.TheVariants as leave
use Rattle.lock_rules.specs.declared.table.LockKind.{LockKind}
use Rattle.lock_rules.specs.declared.table.LockKind.TheVariants.{Shared, Exclusive}
use Rattle.lock_rules.proofs.Holding.{is_equal}

-- what an opener holds, as two tests
abbrev pub IsHeld : Locks → ℕ → Bool → Bool → Type 0
IsHeld locks who exclusive shared = (holds_exclusive locks who ≡ exclusive) × (set.contains locks.shared who ≡ shared)

kept_out : (e : Option ℕ) (who : ℕ) → option_map_or (λ h. h == who) (option_map_or (λ h. if h == who then None else Some h) e None) false ≡ false
kept_out None who = refl
kept_out (Some h) who = go (h == who) refl
  where
    go : (b : Bool) → (h == who) ≡ b → option_map_or (λ h. h == who) (cond b None (Some h)) false ≡ false
    go true e = refl
    go false e = e

-- who gives up holds nothing
pub gave_up : (locks : Locks) (who : ℕ) → IsHeld (without_holder locks who) who false false
gave_up locks who = (
  kept_out locks.exclusive who,
  set.contains-remove nat_cmp_total locks.shared who who ∙ (λ i. not (is_equal who who i) && set.contains locks.shared who) ∙ grind (arith, nat_tests),
)

other_exclusive : (e : Option ℕ) (who other : ℕ) → other ≢ who → option_map_or (λ h. h == who) (option_map_or (λ h. if h == other then None else Some h) e None) false ≡ option_map_or (λ h. h == who) e false
other_exclusive None who other n = refl
other_exclusive (Some h) who other n = go (h == other) refl
  where
    go : (b : Bool) → (h == other) ≡ b → option_map_or (λ h. h == who) (cond b None (Some h)) false ≡ (h == who)
    go true e = grind (arith, nat_tests, e, n)
    go false e = refl

-- another's going changes nothing
pub other_goes : (locks : Locks) (who other : ℕ) (x s : Bool) → other ≢ who → IsHeld locks who x s → IsHeld (without_holder locks other) who x s
other_goes locks who other x s n held = (
  other_exclusive locks.exclusive who other n ∙ held.0,
  set.contains-remove nat_cmp_total locks.shared other who ∙ (λ i. not (is_equal who other i) && held.1 i) ∙ grind (arith, nat_tests, n),
)

-- who takes the lock holds it alone in its kind
pub took_shared : (locks : Locks) (who : ℕ) → locks.exclusive ≡ None → IsHeld (with_lock locks who Shared) who false true
took_shared locks who none = (
  ap (λ (e : Option ℕ). option_map_or (λ h. h == who) e false) none,
  set.contains-insert nat_cmp_total locks.shared who who ∙ (λ i. is_equal who who i || set.contains locks.shared who) ∙ grind (arith, nat_tests),
)

pub took_exclusive : (locks : Locks) (who : ℕ) → locks.shared ≡ set.empty → IsHeld (with_lock locks who Exclusive) who true false
took_exclusive locks who empty = (grind (arith, nat_tests), ap (λ s. set.contains s who) empty ∙ set.contains-empty nat_cmp who)

pub other_takes : (locks : Locks) (who other : ℕ) (kind : LockKind) (x s : Bool) → other ≢ who → MayTake locks other kind → IsHeld locks who x s → IsHeld (with_lock locks other kind) who x s
other_takes locks who other Shared x s n may held = (
  held.0,
  set.contains-insert nat_cmp_total locks.shared other who ∙ (λ i. is_equal who other i || held.1 i) ∙ grind (arith, nat_tests, n),
)
other_takes locks who other Exclusive x s n may held =
    let free : holds_exclusive locks who ≡ false = ap (λ (e : Option ℕ). option_map_or (λ h. h == who) e false) may.1 in
    let apart : (other == who) ≡ false = grind (arith, nat_tests, n) in
    (apart ∙ sym free ∙ held.0, held.1)

-- what is kept from move to move
abbrev pub Tied : ℕ → Counts → Locks → Option LockKind → Type 0
Tied who counts locks None = IsHeld locks who (nat_lt 0 counts.exclusive) ((counts.exclusive == 0) && nat_lt 0 counts.shared)
Tied who counts locks (Some kind) = IsHeld locks who false false × (counts.exclusive ≡ 0) × (0 < counts.shared)

abbrev pub IsTied : ℕ → Standing → Type 0
IsTied who s = Tied who s.counts s.locks s.waits

held_as : (locks : Locks) (who : ℕ) (x s x' s' : Bool) → x ≡ x' → s ≡ s' → IsHeld locks who x s → IsHeld locks who x' s'
held_as locks who x s x' s' e f held = (held.0 ∙ e, held.1 ∙ f)

pub asked : (who : ℕ) (counts : Counts) (locks : Locks) (kind : LockKind) (a : Ask) → ask_of counts kind ≡ a → MayAsk who (at_rest counts locks) kind a → Tied who counts locks None → IsTied who (after_ask who (at_rest counts locks) kind a)
asked who counts locks Shared ask.Counted e may held = (held.0, held.1 ∙ grind (arith, nat_tests, e))
asked who counts locks Exclusive ask.Counted e may held = (held.0 ∙ grind (arith, nat_tests, e), held.1 ∙ grind (arith, nat_tests, e))
asked who counts locks Shared ask.Take e may held = held_as _ who _ _ _ _ (grind (arith, nat_tests, e)) (grind (arith, nat_tests, e)) (took_shared locks who may.1)
asked who counts locks Exclusive ask.Take e may held = held_as (with_lock locks who Exclusive) who _ _ _ _ (grind (arith, nat_tests, e)) (grind (arith, nat_tests, e)) (took_exclusive locks who may.0)
asked who counts locks Shared ask.GiveUpThenTake e may held = absurd (grind (arith, nat_tests, e))
asked who counts locks Exclusive ask.GiveUpThenTake e may held = (gave_up locks who, grind (arith, nat_tests, e), grind (arith, nat_tests, e))
asked who counts locks kind ask.TooDeep e may held = held

pub left : (who : ℕ) (counts : Counts) (locks : Locks) (kind : LockKind) (a : Leave) → leave_of counts kind ≡ a → Tied who counts locks None → IsTied who (after_leave who (at_rest counts locks) kind a)
left who counts locks Shared leave.Counted e held = (held.0, held.1 ∙ grind (arith, nat_tests, e))
left who counts locks Exclusive leave.Counted e held = (held.0 ∙ grind (arith, nat_tests, e), held.1 ∙ grind (arith, nat_tests, e))
left who counts locks Shared leave.GiveUp e held = held_as _ who _ _ _ _ (grind (arith, nat_tests, e)) (grind (arith, nat_tests, e)) (gave_up locks who)
left who counts locks Exclusive leave.GiveUp e held = held_as _ who _ _ _ _ (grind (arith, nat_tests, e)) (grind (arith, nat_tests, e)) (gave_up locks who)
left who counts locks Shared leave.BackToShared e held = absurd (grind (arith, nat_tests, e))
left who counts locks Exclusive leave.BackToShared e held = (gave_up locks who, grind (arith, nat_tests, e), grind (arith, nat_tests, e))
left who counts locks kind leave.NotHeld e held = held

pub waited : (who : ℕ) (counts : Counts) (locks : Locks) (waits : Option LockKind) → MayWait who (record { counts = counts; locks = locks; waits = waits }) waits → Tied who counts locks waits → IsTied who (after_wait who (record { counts = counts; locks = locks; waits = waits }) waits)
waited who counts locks None may tied = absurd may
waited who counts locks (Some Shared) may tied = held_as _ who _ _ _ _ (grind (arith, nat_tests, tied.1)) (grind (arith, nat_tests, tied.1, tied.2)) (took_shared locks who may.1)
waited who counts locks (Some Exclusive) may tied = held_as (with_lock locks who Exclusive) who _ _ _ _ (grind (arith, nat_tests)) (grind (arith, nat_tests)) (took_exclusive locks who may.0)

asks : (who : ℕ) (counts : Counts) (locks : Locks) (waits : Option LockKind) (kind : LockKind) → waits ≡ None → MayAsk who (record { counts = counts; locks = locks; waits = waits }) kind (ask_of counts kind) → Tied who counts locks waits → IsTied who (after_ask who (record { counts = counts; locks = locks; waits = waits }) kind (ask_of counts kind))
asks who counts locks None kind e may tied = asked who counts locks kind (ask_of counts kind) refl (same_ask (ask_of counts kind) may) tied
  where
    same_ask : (a : Ask) → MayAsk who (record { counts = counts; locks = locks; waits = None }) kind a → MayAsk who (at_rest counts locks) kind a
    same_ask a may = may
asks who counts locks (Some other) kind e may tied = absurd cc

leaves : (who : ℕ) (counts : Counts) (locks : Locks) (waits : Option LockKind) (kind : LockKind) → waits ≡ None → Tied who counts locks waits → IsTied who (after_leave who (record { counts = counts; locks = locks; waits = waits }) kind (leave_of counts kind))
leaves who counts locks None kind e tied = left who counts locks kind (leave_of counts kind) refl tied
leaves who counts locks (Some other) kind e tied = absurd cc

others : (who : ℕ) (counts : Counts) (locks next : Locks) (waits : Option LockKind) → ((x s : Bool) → IsHeld locks who x s → IsHeld next who x s) → Tied who counts locks waits → Tied who counts next waits
others who counts locks next None same tied = same _ _ tied
others who counts locks next (Some kind) same tied = (same false false tied.0, tied.1, tied.2)

moved : (who : ℕ) (s : Standing) (move : Move) → MayMove who s move → IsTied who s → IsTied who (after_move who s move)
moved who s (Asks kind) may tied = asks who s.counts s.locks s.waits kind may.0 may.1 tied
moved who s Takes may tied = waited who s.counts s.locks s.waits may tied
moved who s (Leaves kind) may tied = leaves who s.counts s.locks s.waits kind may tied
moved who s Dies may tied = gave_up s.locks who
moved who s (OtherTakes other kind) may tied = others who s.counts s.locks (with_lock s.locks other kind) s.waits (λ x h held. other_takes s.locks who other kind x h may.0 may.1 held) tied
moved who s (OtherGoes other) may tied = others who s.counts s.locks (without_holder s.locks other) s.waits (λ x h held. other_goes s.locks who other x h may held) tied

led : (who : ℕ) (s : Standing) (moves : List Move) (t : Standing) → IsTied who s → LeadsTo who s moves t → IsTied who t
led who s [] t tied leads = subst (IsTied who) leads tied
led who s (move ∷ moves) t tied leads = led who (after_move who s move) moves t (moved who s move leads.0 tied) leads.1

told : (who : ℕ) (s : Standing) (waits : Option LockKind) → Tied who s.counts s.locks waits → HoldsAsCounted who s waits
told who s None tied = tied
told who s (Some kind) tied = (λ i. tied.0.0 i || tied.0.1 i)

pub counts_tell : (who : ℕ) (moves : List Move) (s : Standing) → LeadsTo who begun moves s → HoldsAsCounted who s s.waits
counts_tell who moves s leads = told who s s.waits (led who begun moves s (refl, set.contains-empty nat_cmp who) leads)
