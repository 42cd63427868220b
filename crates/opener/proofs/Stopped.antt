-- A call on the share that was not answered leaves the opener tied to it.
use Rattle.std.proofs.Common.{◌≡◌, arith, false, refl, sym, ◌∙◌, subst, ap, lit≤}
use Rattle.std.specs.Prelude.{Option, Some, None, ⊤}
use Rattle.lock_rules.specs.declared.table.LockKind.{LockKind}
use Rattle.region_words.specs.Told.{History, OnTold}
use Rattle.region_words.specs.Share.{ShareState, Goes, Fails, IsTurnedAway, Stops, StopsTrying, failed, turned_away, unmoved}
use Rattle.region_words.specs.declared.stops.ShareStop.{ShareStop}
use Rattle.region_words.specs.declared.stops.ShareStop.TheVariants.{Failed, Turn, Memory, JournalFull}
use Rattle.region_words.proofs.Owing.{owing_turned}
use Rattle.opener.specs.State.{OpenerState}
use Rattle.opener.specs.Calls.{AfterStop}
use Rattle.opener.specs.Ends.{lock_by}
use Rattle.opener.specs.Opener.{Tied, Owes, running_as, is_storing}
use Rattle.opener.specs.Quick.{ended_as}
use Rattle.opener.specs.Writes.{first_events}
use Rattle.opener.specs.declared.calls.Step.{Step}
use Rattle.opener.specs.declared.work.Running.{Running}
use Rattle.opener.specs.declared.work.Stage.{Stage}
use Rattle.opener.specs.declared.work.Stage.TheVariants as stage
use Rattle.opener.specs.declared.work.Work.{Work}
use Rattle.opener.specs.declared.work.Work.TheVariants.{Idle, Ended, Runs}
use Rattle.opener.proofs.Carry.{none_reserved, unreserved, tied_after}

pub nothing_told : (t : Option History) → OnTold t (λ k. ⊤)
nothing_told None = tt
nothing_told (Some h) = tt

-- what is owed is owed still
owes_turned : (o : OpenerState) (work : Work) (s t : ShareState) → Owes o work s → IsTurnedAway s t → Owes o work t
owes_turned o Idle s t owes away = none_reserved s t (turned_away s) away.after owes
owes_turned o Ended s t owes away = none_reserved s t (turned_away s) away.after owes
owes_turned o (Runs running (stage.Store plan)) s t owes away =
    record {
      row = owes.row;
      row_is = owes.row_is;
      owing = owing_turned owes.row (first_events plan) s t owes.owing away;
      places = let p = owes.places in let q = ap t.reserved away.after.same.who ∙ away.after.places in omega (arith, p, q);
    }
owes_turned o (Runs running stage.PeekChecksum) s t owes away = none_reserved s t (turned_away s) away.after owes
owes_turned o (Runs running (stage.PeekSequence peek)) s t owes away = none_reserved s t (turned_away s) away.after owes
owes_turned o (Runs running (stage.LockShared extent)) s t owes away = none_reserved s t (turned_away s) away.after owes
owes_turned o (Runs running stage.LockExclusive) s t owes away = none_reserved s t (turned_away s) away.after owes
owes_turned o (Runs running (stage.Continue loading)) s t owes away = none_reserved s t (turned_away s) away.after owes
owes_turned o (Runs running (stage.Load loading)) s t owes away = none_reserved s t (turned_away s) away.after owes
owes_turned o (Runs running stage.Size) s t owes away = none_reserved s t (turned_away s) away.after owes
owes_turned o (Runs running (stage.Reserve plan)) s t owes away = none_reserved s t (turned_away s) away.after owes
owes_turned o (Runs running (stage.Unlock how)) s t owes away = none_reserved s t (turned_away s) away.after owes
owes_turned o (Runs running stage.Hold) s t owes away = none_reserved s t (turned_away s) away.after owes
owes_turned o (Runs running stage.Release) s t owes away = none_reserved s t (turned_away s) away.after owes

-- the opener waits for its turn
pub turned_tied : (o : OpenerState) (s t : ShareState) → Tied o s → IsTurnedAway s t → Tied o t
turned_tied o s t tied away =
    tied_after o o s t (turned_away s) (λ start past. ⊤) tied away.after refl tied.ended tied.holds tied.deep tied.sound tied.at (owes_turned o o.work s t tied.owes away) (nothing_told t.told)
    (λ start past region lawful lock facts e. facts)

-- it is dead
pub failed_tied : (o : OpenerState) (s t : ShareState) → Tied o s → Fails s t → Tied (ended_as o.who) t
failed_tied o s t tied fails =
    tied_after o (ended_as o.who) s t (failed s) (λ start past. ⊤) tied fails.after refl refl refl (lit≤ tt) tt refl (none_reserved s t (failed s) fails.after refl) (nothing_told t.told)
    (λ start past region lawful lock facts e. record { image = tt; rests = λ held. absurd cc; work = tt })

-- it gives its call up, where it holds what its holds take
abbrev idle_as : OpenerState → OpenerState
idle_as o = record o { image = None; work = Idle }

idle_tied : (o : OpenerState) (running : Running) (stage : Stage) (s t : ShareState) → Tied (running_as o running stage) s → is_storing (Runs running stage) ≡ false →
    Goes (unmoved s) s t → running.taken ≡ None → Tied (idle_as o) t
idle_tied o running stage s t tied calm goes free =
    let lock : lock_by o.holds running.taken ≡ lock_by o.holds None = ap (lock_by o.holds) free in
    tied_after (running_as o running stage) (idle_as o) s t (unmoved s) (λ start past. ⊤) tied goes.after refl tied.ended (tied.holds ∙ lock) tied.deep tt tt
    (none_reserved s t (unmoved s) goes.after (unreserved (running_as o running stage) (Runs running stage) s calm tied.owes)) (nothing_told t.told)
    (λ start past region lawful mine facts e. record { image = tt; rests = λ held rest. facts.rests (lock ∙ held) calm; work = tt })

dead_is : (o new : OpenerState) → new.who ≡ o.who → new.holds ≡ 0 → new.image ≡ None → new.work ≡ Ended → new ≡ ended_as o.who
dead_is o new who holds image work = λ i. record { who = who i; image = image i; holds = holds i; work = work i }

given_up_is : (o new : OpenerState) → new.who ≡ o.who → new.holds ≡ o.holds → new.image ≡ None → new.work ≡ Idle → new ≡ idle_as o
given_up_is o new who holds image work = λ i. record { who = who i; image = image i; holds = holds i; work = work i }

pub stopped_tied : (o : OpenerState) (running : Running) (stage : Stage) (why : ShareStop) (result : Step) (new : OpenerState) (s t : ShareState) →
    Tied (running_as o running stage) s → AfterStop why o running stage result new → Stops why s t → Tied new t
stopped_tied o running stage Turn result new s t tied after stops = subst (λ (n : OpenerState). Tied n t) (sym after.1) (turned_tied (running_as o running stage) s t tied stops)
stopped_tied o running stage Failed result new s t tied after stops =
    subst (λ (n : OpenerState). Tied n t) (sym (dead_is o new after.1 after.2 after.3 after.4)) (failed_tied (running_as o running stage) s t tied stops)
stopped_tied o running stage Memory result new s t tied after stops = absurd stops
stopped_tied o running stage JournalFull result new s t tied after stops = absurd stops

-- the same of a try for the lock
pub tried_tied : (o : OpenerState) (running : Running) (stage : Stage) (kind : LockKind) (why : ShareStop) (result : Step) (new : OpenerState) (s t : ShareState) →
    Tied (running_as o running stage) s → is_storing (Runs running stage) ≡ false → running.taken ≡ None →
    AfterStop why o running stage result new → StopsTrying kind why s t → Tied new t
tried_tied o running stage kind Turn result new s t tied calm free after stops = subst (λ (n : OpenerState). Tied n t) (sym after.1) (turned_tied (running_as o running stage) s t tied stops)
tried_tied o running stage kind Failed result new s t tied calm free after stops =
    subst (λ (n : OpenerState). Tied n t) (sym (dead_is o new after.1 after.2 after.3 after.4)) (failed_tied (running_as o running stage) s t tied stops)
tried_tied o running stage kind Memory result new s t tied calm free after stops =
    subst (λ (n : OpenerState). Tied n t) (sym (given_up_is o new after.1.0 after.1.1 after.1.2 after.1.3)) (idle_tied o running stage s t tied calm stops.0 free)
tried_tied o running stage kind JournalFull result new s t tied calm free after stops =
    subst (λ (n : OpenerState). Tied n t) (sym (given_up_is o new after.1.0 after.1.1 after.1.2 after.1.3)) (idle_tied o running stage s t tied calm stops.0 free)
