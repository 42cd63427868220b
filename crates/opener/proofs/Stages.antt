-- What an opener knows after each of the stages that take a lock, peek or load.
use Rattle.std.proofs.Common.{◌≡◌, ℕ, arith, false, List, [], ◌∷◌, length, refl, sym, ◌∙◌, subst, ap}
use Rattle.std.specs.Prelude.{Option, None, ⊤}
use Rattle.lock_rules.specs.declared.table.LockKind.{LockKind}
use Rattle.lock_rules.specs.declared.table.LockKind.TheVariants.{Exclusive}
use Rattle.lock_rules.specs.declared.table.Tried.TheVariants.{Busy}
use Rattle.region_words.specs.Region.{Region}
use Rattle.region_words.specs.Past.{region_after, changes_of}
use Rattle.region_words.specs.Apart.{Apart}
use Rattle.region_words.specs.Images.{checksum_at}
use Rattle.region_words.specs.Told.{OnTold, changes_told}
use Rattle.region_words.specs.Share.{ShareState, Goes, Tries, loaded, refused}
use Rattle.region_words.specs.Local.{event_of}
use Rattle.region_words.specs.declared.event.What.TheVariants.{Lock}
use Rattle.region_words.specs.declared.event.Event.{Event}
use Rattle.region_words.specs.declared.stops.Peek.{Peek}
use Rattle.region_words.proofs.Held.{Apart-front}
use Rattle.region_words.proofs.ReadLaws.{run_of}
use Rattle.region_words.proofs.Rest.{at_rest}
use Rattle.region_words.proofs.Telling.{told_and}
use Rattle.region_words.specs.Lawful.{Lawful, Between, Reaches}
use Rattle.loader.specs.Loads.{HasLoaded, is_done, Load as Loading}
use Rattle.opener.specs.State.{OpenerState}
use Rattle.opener.specs.Calls.{IsPlain, is_write}
use Rattle.opener.specs.Continues.{SameCall}
use Rattle.opener.specs.Ends.{lock_by}
use Rattle.opener.specs.Opener.{Tied, LooksUnder, IsCalm, is_storing, running_as}
use Rattle.opener.specs.declared.work.Running.{Running}
use Rattle.opener.specs.declared.work.Stage.{Stage}
use Rattle.opener.specs.declared.work.Stage.TheVariants.{PeekChecksum, PeekSequence, Load}
use Rattle.opener.specs.declared.work.Work.TheVariants.{Runs}
use Rattle.opener.proofs.Carry.{none_reserved, owes_nothing, unreserved, tied_after, changes_are}
use Rattle.opener.proofs.Stopped.{nothing_told}

-- a write looks at the region as the same call did
pub looks_on : (running next : Running) (lock old : Option LockKind) → next.call ≡ running.call → old ≡ lock → LooksUnder running old → LooksUnder next lock
looks_on running next lock old same is looks = λ write. sym is ∙ looks (ap is_write (sym same) ∙ write)

-- the checksum was peeked
pub peeked_tied : (o : OpenerState) (running next : Running) (peek : Peek) (s t : ShareState) → Tied (running_as o running PeekChecksum) s → SameCall running next → next.taken ≡ running.taken →
    Goes (loaded s) s t → OnTold t.told (λ h. peek.checksum ≡ checksum_at h.start h.past) → peek.changes ≡ changes_told t.told →
    Tied (running_as o next (PeekSequence peek)) t
peeked_tied o running next peek s t tied same taken goes checksum changes =
    tied_after (running_as o running PeekChecksum) (running_as o next (PeekSequence peek)) s t (loaded s)
    (λ start past. (peek.checksum ≡ checksum_at start past) × (peek.changes ≡ length (changes_of past))) tied goes.after refl tied.ended (tied.holds ∙ ap (lock_by o.holds) (sym taken)) tied.deep tied.sound
    ((λ some. taken ∙ tied.at.0 some), subst IsPlain (sym same.call) tied.at.1, (tied.at.2.0, looks_on running next (lock_by o.holds next.taken) (lock_by o.holds running.taken) same.call (ap (lock_by o.holds) (sym taken)) tied.at.2.1, (λ read. taken ∙ tied.at.2.2 (ap is_write (sym same.call) ∙ read))))
    (none_reserved s t (loaded s) goes.after tied.owes) (told_and t.told _ _ _ (λ h p q. (p, q)) checksum (changes_are t.told peek.changes changes))
    (λ start past region lawful lock facts e. record {
      image = facts.image;
      rests = λ held. facts.rests (ap (lock_by o.holds) (sym taken) ∙ held);
      work = (
        omega (arith, same.begun, facts.work.0),
        (
          record {
            later = [];
            earlier = past;
            is = refl;
            place = e.1;
            since = omega (arith, same.begun, facts.work.0, e.1);
            checksum = e.0;
            kept = facts.image;
          },
          λ held. e.0,
        ),
      );
    })

-- another stood against the lock
pub busy_tied : (o : OpenerState) (running : Running) (stage : Stage) (kind : LockKind) (holder : ℕ) (s t : ShareState) → Tied (running_as o running stage) s →
    is_storing (Runs running stage) ≡ false → Tries kind (Busy holder) s t → Tied (running_as o running stage) t
busy_tied o running stage kind holder s t tied calm tries =
    tied_after (running_as o running stage) (running_as o running stage) s t (refused s) (λ start past. ⊤) tied tries.0.after refl tied.ended tied.holds tied.deep tied.sound tied.at
    (owes_nothing (running_as o running stage) (Runs running stage) t calm
    (none_reserved s t (refused s) tries.0.after (unreserved (running_as o running stage) (Runs running stage) s calm tied.owes))) (nothing_told t.told)
    (λ start past region lawful lock facts e. facts)

-- after a lock is taken exclusive no row is under way
pub locked_rest : (start : Region) (past : List Event) (who : ℕ) → Lawful start (event_of who (Lock Exclusive) ∷ past) → Apart start (event_of who (Lock Exclusive) ∷ past) →
    IsCalm start (event_of who (Lock Exclusive) ∷ past)
locked_rest start past who l apart =
    let run = run_of start past l.0 (Apart-front start (event_of who (Lock Exclusive)) past apart) in
    (Between None, subst (Reaches start past) (at_rest start past run.0 l.0 run.1 l.1.possible.1) run.1, refl)

-- a load was made
pub loaded_tied : (o : OpenerState) (running next : Running) (old new : Loading) (s t : ShareState) → Tied (running_as o running (Load old)) s → SameCall running next → next.taken ≡ running.taken →
    is_done new ≡ false → Goes (loaded s) s t → OnTold t.told (λ h. HasLoaded new (region_after h.start h.past)) → Tied (running_as o next (Load new)) t
loaded_tied o running next old new s t tied same taken going goes told =
    let lock : lock_by o.holds running.taken ≡ lock_by o.holds next.taken = ap (lock_by o.holds) (sym taken) in
    tied_after (running_as o running (Load old)) (running_as o next (Load new)) s t (loaded s) (λ start past. HasLoaded new (region_after start past)) tied goes.after refl
    tied.ended (tied.holds ∙ lock) tied.deep tied.sound
    ((λ some. taken ∙ tied.at.0 some), subst IsPlain (sym same.call) tied.at.1, (going, (λ none. tied.at.2.1 (lock ∙ none)), looks_on running next _ _ same.call lock tied.at.2.2)) (none_reserved s t (loaded s) goes.after tied.owes) told
    (λ start past region lawful lock_is facts e. record { image = facts.image; rests = λ held. facts.rests (lock ∙ held); work = (omega (arith, same.begun, facts.work.0), e) })
