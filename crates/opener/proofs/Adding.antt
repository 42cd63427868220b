-- What a step adds to the call that runs, for each way in which a step ends.
use Rattle.std.proofs.Common.{◌≡◌, ℕ, ◌+◌, List, [], ◌∷◌, refl, sym, ◌∙◌, subst, ap, inl, inr, Bool, true, false}
use Rattle.std.specs.Prelude.{Option, Some, None}
use Rattle.change_log.specs.Acts.{act_of}
use Rattle.change_log.specs.Settled.{AreOfAct, AreOfCall, AreBegun}
use Rattle.change_log.specs.declared.call.Call.TheVariants as call
use Rattle.change_log.specs.declared.change.Act.{Act}
use Rattle.change_log.specs.declared.change.Change.{Change}
use Rattle.lock_rules.specs.declared.table.LockKind.{LockKind}
use Rattle.region_words.specs.Making.{next_of}
use Rattle.region_words.specs.declared.event.What.{What}
use Rattle.region_words.specs.declared.event.What.TheVariants as what
use Rattle.opener.specs.State.{OpenerState}
use Rattle.opener.specs.Adds.{AreMade, AreMadeAt, AreMadeBy, Counts, IsRaised, locks_taken, stores_in}
use Rattle.opener.specs.Calls.{IsPlain, is_write}
use Rattle.opener.specs.Continues.{SameCall}
use Rattle.opener.specs.Counted.{counted, with_stored}
use Rattle.loader.specs.declared.loaded.Image.{Image}
use Rattle.opener.specs.Ends.{GoesOn, IsDone, Finishes, Leaves, LeavesBy, IsReady, IsReadyBy, Notices, OnImage, Reads, ReadsBy, Replies, lock_by}
use Rattle.opener.specs.declared.calls.Step.{Step}
use Rattle.opener.specs.declared.calls.Step.TheVariants as step
use Rattle.opener.specs.declared.calls.Stop.{Stop}
use Rattle.opener.specs.declared.calls.Stop.TheVariants as why
use Rattle.opener.specs.declared.work.Running.{Running}
use Rattle.opener.specs.declared.work.End.{End}
use Rattle.opener.specs.declared.work.End.TheVariants as end
use Rattle.opener.specs.declared.work.Stage.{Stage}
use Rattle.opener.specs.declared.work.Stage.TheVariants.{Unlock, Size}
use Rattle.opener.specs.declared.work.Work.TheVariants.{Runs}
use Rattle.opener.specs.Opener.{stop_found}
use Rattle.opener.proofs.Ready.{no_act}

-- counts that nothing was added to, and counts that a load, a lock or an event of a row was added to
pub none_more : (running : Running) → IsRaised running 0 0 0 running.loads running.stores running.locks
none_more running = record { loads_are = refl; stores_are = refl; locks_are = refl }

pub load_more : (running next : Running) → next ≡ record running { loads = counted (running.loads + 1) } → IsRaised running 1 0 0 next.loads next.stores next.locks
load_more running next e =
    record { loads_are = ap (λ (r : Running). r.loads) e; stores_are = ap (λ (r : Running). r.stores) e; locks_are = ap (λ (r : Running). r.locks) e }

pub lock_more : (kind : LockKind) (running next : Running) → next ≡ record running { taken = Some kind; locks = counted (running.locks + 1) } →
    IsRaised running 0 0 1 next.loads next.stores next.locks
lock_more kind running next e =
    record { loads_are = ap (λ (r : Running). r.loads) e; stores_are = ap (λ (r : Running). r.stores) e; locks_are = ap (λ (r : Running). r.locks) e }

pub event_more : (first : What) (rest : List What) (running next : Running) → next ≡ with_stored (next_of (first ∷ rest)) running →
    IsRaised running 0 (stores_in (first ∷ [])) 0 next.loads next.stores next.locks
event_more (what.Store side word value mark) rest running next e =
    record { loads_are = ap (λ (r : Running). r.loads) e; stores_are = ap (λ (r : Running). r.stores) e; locks_are = ap (λ (r : Running). r.locks) e }
event_more (what.Grow size) rest running next e =
    record { loads_are = ap (λ (r : Running). r.loads) e; stores_are = ap (λ (r : Running). r.stores) e; locks_are = ap (λ (r : Running). r.locks) e }
event_more (what.Lock kind) rest running next e =
    record { loads_are = ap (λ (r : Running). r.loads) e; stores_are = ap (λ (r : Running). r.stores) e; locks_are = ap (λ (r : Running). r.locks) e }
event_more what.Unlock rest running next e =
    record { loads_are = ap (λ (r : Running). r.loads) e; stores_are = ap (λ (r : Running). r.stores) e; locks_are = ap (λ (r : Running). r.locks) e }
event_more (what.Died torn) rest running next e =
    record { loads_are = ap (λ (r : Running). r.loads) e; stores_are = ap (λ (r : Running). r.stores) e; locks_are = ap (λ (r : Running). r.locks) e }

-- no lock is taken where the lock stays as it is, or is given up
same_lock : (lock : Option LockKind) → locks_taken lock lock ≡ 0
same_lock None = refl
same_lock (Some kind) = refl

pub keeps_lock : (old new : Option LockKind) → new ≡ old → locks_taken old new ≡ 0
keeps_lock old new e = ap (locks_taken old) e ∙ same_lock old

lock_given : (old : Option LockKind) → locks_taken old None ≡ 0
lock_given None = refl
lock_given (Some kind) = refl

pub gives_lock : (old new : Option LockKind) → new ≡ None → locks_taken old new ≡ 0
gives_lock old new e = ap (locks_taken old) e ∙ lock_given old

pub takes_lock : (kind : LockKind) (old new : Option LockKind) → old ≡ None → new ≡ Some kind → locks_taken old new ≡ 1
takes_lock kind old new none some = λ i. locks_taken (none i) (some i)

-- What a step came to says what the call has made, and what it counts.
module _ (who : ℕ) (running next : Running) (mid : OpenerState) (result : Step) (new : OpenerState) where
  pub going_made : (stage : Stage) (made : List Change) → GoesOn next stage mid result new → AreMadeAt who next stage made → AreMadeBy who running result new.work made
  going_made stage made on are =
      subst (λ r. AreMadeBy who running r new.work made) (sym on.0) (subst (λ (n : OpenerState). AreMade who n.work made) (sym on.1) are)

  pub going_counts : (stage : Stage) (loads stores locks : ℕ) → GoesOn next stage mid result new → IsRaised running loads stores locks next.loads next.stores next.locks →
      Counts running loads stores locks result new.work
  going_counts stage loads stores locks on is =
      subst (λ r. Counts running loads stores locks r new.work) (sym on.0) (subst (λ (n : OpenerState). Counts running loads stores locks step.Going n.work) (sym on.1) is)

  stop_made : (stop : Stop) (made : List Change) → made ≡ [] → AreMadeBy who running (step.Stopped stop) new.work made
  stop_made why.Fault made none = subst (AreBegun who running.call running.now) (sym none) (first_none (act_of running.call running.now))
    where
      first_none : (act : Option Act) → (more : List Change) × AreOfAct who running.now act more
      first_none None = ([], refl)
      first_none (Some act) = (record { maker = who; act = act } ∷ [], inl refl)
  stop_made why.Memory made none = none
  stop_made why.JournalFull made none = none
  stop_made (why.NotWhole seen) made none = none
  stop_made (why.Version n) made none = none
  stop_made (why.Flags n) made none = none
  stop_made (why.Full n) made none = none
  stop_made why.SequenceEnd made none = none
  stop_made why.ExpiryOff made none = none
  stop_made why.ExpiryRange made none = none
  stop_made why.AlreadyOn made none = none
  stop_made why.AlreadyOff made none = none

  -- what a call has made is of the same call that goes on
  pub same_made : (made : List Change) → SameCall running next → AreOfCall who running.call running.now made → AreOfCall who next.call next.now made
  same_made made same are =
      subst (λ c. AreOfCall who c next.now made) (sym same.call) (subst (λ n. AreOfCall who running.call n made) (sym same.now) are)

  pub finishes_made : (how : End) (ended : ℕ) (made : List Change) → Finishes next how ended mid result new → AreMadeAt who running (Unlock how) made →
      AreMadeBy who running result new.work made
  finishes_made (end.Answer place reply) ended made is are = subst (λ r. AreMadeBy who running r new.work made) (sym is.0) are
  finishes_made (end.Stop stop) ended made is none = subst (λ r. AreMadeBy who running r new.work made) (sym is.0) (stop_made stop made none)

  pub finishes_counts : (how : End) (ended loads stores locks : ℕ) → Finishes next how ended mid result new → IsRaised running loads stores locks next.loads next.stores next.locks →
      Counts running loads stores locks result new.work
  finishes_counts (end.Answer place reply) ended loads stores locks is more = subst (λ r. Counts running loads stores locks r new.work) (sym is.0) more
  finishes_counts (end.Stop stop) ended loads stores locks is more = subst (λ r. Counts running loads stores locks r new.work) (sym is.0) tt

  leaving_made : (how : End) (made : List Change) → SameCall running next → AreMadeAt who running (Unlock how) made → AreMadeAt who next (Unlock how) made
  leaving_made (end.Answer place reply) made same are = same_made made same are
  leaving_made (end.Stop stop) made same none = none

  pub leaves_made : (how : End) (ended : ℕ) (made : List Change) → SameCall running next → Leaves next how ended mid result new → AreMadeAt who running (Unlock how) made →
      AreMadeBy who running result new.work made
  leaves_made how ended made same leaves are = go next.taken leaves
    where
      go : (taken : Option LockKind) → LeavesBy taken next how ended mid result new → AreMadeBy who running result new.work made
      go None is = finishes_made how ended made is are
      go (Some kind) is = going_made (Unlock how) made is (leaving_made how made same are)

  pub leaves_counts : (how : End) (ended loads stores locks : ℕ) → Leaves next how ended mid result new → IsRaised running loads stores locks next.loads next.stores next.locks →
      Counts running loads stores locks result new.work
  leaves_counts how ended loads stores locks leaves more = go next.taken leaves
    where
      go : (taken : Option LockKind) → LeavesBy taken next how ended mid result new → Counts running loads stores locks result new.work
      go None is = finishes_counts how ended loads stores locks is more
      go (Some kind) is = going_counts (Unlock how) loads stores locks is more

  -- a call that the image answers has made nothing
  read_made : (how : End) (i : _) (place : ℕ) (made : List Change) → act_of running.call running.now ≡ None → Replies next i place how → made ≡ [] → AreMadeAt who running (Unlock how) made
  read_made how i place made none (inl (reply, replies, how_is)) nothing =
      subst (λ h. AreMadeAt who running (Unlock h) made) (sym how_is) (subst (λ act. AreOfAct who running.now act made) (sym none) nothing)
  read_made how i place made none (inr how_is) nothing = subst (λ h. AreMadeAt who running (Unlock h) made) (sym how_is) nothing

  pub ready_made : (place ended : ℕ) (i : _) (made : List Change) → SameCall running next → IsPlain running.call → mid.image ≡ Some i → IsReady next place ended mid result new → made ≡ [] →
      AreMadeBy who running result new.work made
  ready_made place ended i made same plain kept ready nothing = go (is_write next.call) refl ready
    where
      go : (b : Bool) → is_write next.call ≡ b → IsReadyBy b next place ended mid result new → AreMadeBy who running result new.work made
      go true write on = going_made Size made on nothing
      go false read (how, replies, leaves) =
          leaves_made how ended made same leaves
          (read_made how i place made (no_act running.call running.now plain (ap is_write (sym same.call) ∙ read)) (subst (λ z. OnImage z (λ k. Replies next k place how)) kept replies) nothing)

  pub ready_counts : (place ended loads stores locks : ℕ) → IsReady next place ended mid result new → IsRaised running loads stores locks next.loads next.stores next.locks →
      Counts running loads stores locks result new.work
  ready_counts place ended loads stores locks ready more = go (is_write next.call) ready
    where
      go : (b : Bool) → IsReadyBy b next place ended mid result new → Counts running loads stores locks result new.work
      go true on = going_counts Size loads stores locks on more
      go false (how, replies, leaves) = leaves_counts how ended loads stores locks leaves more

  pub done_made : (holds place : ℕ) (made : List Change) → IsDone next holds place mid result new → AreOfCall who running.call running.now made → AreMadeBy who running result new.work made
  done_made holds place made is are = subst (λ r. AreMadeBy who running r new.work made) (sym is.0) are

  pub done_counts : (holds place loads stores locks : ℕ) → IsDone next holds place mid result new → IsRaised running loads stores locks next.loads next.stores next.locks →
      Counts running loads stores locks result new.work
  done_counts holds place loads stores locks is more = subst (λ r. Counts running loads stores locks r new.work) (sym is.0) more

-- before a load nothing is made
pub reads_nothing : (who : ℕ) (next : Running) (holds : ℕ) (taken : Option LockKind) (to : Stage) (made : List Change) → Reads holds taken to → made ≡ [] → AreMadeAt who next to made
reads_nothing who next holds taken to made reads nothing = go (lock_by holds taken) reads
  where
    go : (lock : Option LockKind) → ReadsBy lock to → AreMadeAt who next to made
    go None is = subst (λ z. AreMadeAt who next z made) (sym is) nothing
    go (Some kind) (loading, is, fresh) = subst (λ z. AreMadeAt who next z made) (sym is) nothing

pub notices_nothing : (who : ℕ) (next : Running) (image : Option Image) (holds : ℕ) (taken : Option LockKind) (to : Stage) (made : List Change) → Notices image holds taken to → made ≡ [] →
    AreMadeAt who next to made
notices_nothing who next None holds taken to made notices nothing = reads_nothing who next holds taken to made notices nothing
notices_nothing who next (Some i) holds taken to made is nothing = subst (λ z. AreMadeAt who next z made) (sym is) nothing

-- and no stop is found there
pub reads_none : (next : Running) (holds : ℕ) (taken : Option LockKind) (to : Stage) → Reads holds taken to → stop_found (Runs next to) ≡ None
reads_none next holds taken to reads = go (lock_by holds taken) reads
  where
    go : (lock : Option LockKind) → ReadsBy lock to → stop_found (Runs next to) ≡ None
    go None is = ap (λ z. stop_found (Runs next z)) is
    go (Some kind) (loading, is, fresh) = ap (λ z. stop_found (Runs next z)) is

pub notices_none : (next : Running) (image : Option Image) (holds : ℕ) (taken : Option LockKind) (to : Stage) → Notices image holds taken to → stop_found (Runs next to) ≡ None
notices_none next None holds taken to notices = reads_none next holds taken to notices
notices_none next (Some i) holds taken to is = ap (λ z. stop_found (Runs next z)) is

-- a hold and a release change nothing
holding_none : (who : ℕ) (running : Running) (made : List Change) → act_of running.call running.now ≡ None → made ≡ [] → AreOfCall who running.call running.now made
holding_none who running made none nothing = subst (λ act. AreOfAct who running.now act made) (sym none) nothing

pub holds_none : (who : ℕ) (running : Running) (made : List Change) → running.call ≡ call.Hold → made ≡ [] → AreOfCall who running.call running.now made
holds_none who running made is = holding_none who running made (ap (λ c. act_of c running.now) is)

pub releases_none : (who : ℕ) (running : Running) (made : List Change) → running.call ≡ call.Release → made ≡ [] → AreOfCall who running.call running.now made
releases_none who running made is = holding_none who running made (ap (λ c. act_of c running.now) is)
