-- At every step that doesn't wait fewer steps are left of a call.
use Rattle.std.proofs.Common.{◌≡◌, ℕ, ◌+◌, ◌*◌, ◌/◌, ◌<◌, ◌≤◌, arith, Bool, true, false, cond, List, [], ◌∷◌, ◌++◌, length, replicate, refl, sym, subst, ap, length-append}
use Rattle.std.specs.Prelude.{◌-◌, Option, Some, None, nat_lt, ◌==◌, ◌&&◌}
use Rattle.std.proofs.lemmas.List.{length-replicate}
use Rattle.std.proofs.lemmas.Bool.Decides.{nat_tests}
use Rattle.change_log.specs.declared.call.Call.{Call}
use Rattle.change_log.specs.declared.call.Call.TheVariants as call
use Rattle.change_log.specs.declared.call.Reply.TheVariants.{Done}
use Rattle.lock_rules.specs.declared.table.LockKind.{LockKind}
use Rattle.region_words.specs.Region.{Region, file_size}
use Rattle.region_words.specs.Past.{region_after, region_step}
use Rattle.region_words.specs.Told.{History, OnTold, OnBoth}
use Rattle.region_words.specs.Share.{ShareState, Goes, Grows, loaded}
use Rattle.region_words.specs.Making.{MakesFirst}
use Rattle.region_words.specs.declared.event.What.{What}
use Rattle.region_words.specs.declared.event.What.TheVariants.{Grow}
use Rattle.region_words.specs.declared.stops.ShareStop.{ShareStop}
use Rattle.region_words.specs.declared.stops.ShareStop.TheVariants.{Failed, Turn, Memory, JournalFull}
use Rattle.region_words.proofs.Telling.{told_map, grows_to}
use Rattle.loader.specs.FirstWords.{size_in}
use Rattle.loader.specs.Loads.{Load, loads_of}
use Rattle.loader.specs.declared.loaded.Image.{Image}
use Rattle.opener.specs.State.{OpenerState}
use Rattle.opener.specs.Begins.{IsFirst, IsFirstPlain}
use Rattle.opener.specs.Bound.{Falls, Shortens, grown_by, next_growth, size_met, size_planned, steps_at, steps_left, stores_left}
use Rattle.opener.specs.Calls.{AfterStop, is_write}
use Rattle.opener.specs.Ends.{Finishes, GoesOn, IsDone, IsReady, IsReadyBy, Leaves, LeavesBy, Notices, OnImage, ReadsBy, Waits, Written, lock_by, sized_image}
use Rattle.opener.specs.Opener.{ImageIs, IsImage, Tied, running_as}
use Rattle.loader.specs.PartialLoads.{IsSoundImage}
use Rattle.opener.specs.Plans.{IsPlanOf, events_in}
use Rattle.opener.specs.Writes.{first_events}
use Rattle.opener.specs.declared.calls.Step.{Step}
use Rattle.opener.specs.declared.plan.Plan.{Plan}
use Rattle.opener.specs.declared.plan.Plan.TheVariants.{Append, Rewrite}
use Rattle.opener.specs.declared.work.End.{End}
use Rattle.opener.specs.declared.work.End.TheVariants as end
use Rattle.opener.specs.declared.work.Running.{Running}
use Rattle.opener.specs.declared.work.Extent.{Extent}
use Rattle.opener.specs.declared.work.Extent.TheVariants.{Partial, Full}
use Rattle.opener.specs.declared.work.Stage.{Stage}
use Rattle.opener.specs.declared.work.Stage.TheVariants as stage
use Rattle.opener.specs.declared.work.Work.{Work}
use Rattle.opener.specs.declared.work.Work.TheVariants.{Runs}
use Rattle.opener.proofs.Carry.{told_call}
use Rattle.opener.proofs.PlanEvents.{planned_file, planned_steps}
use Rattle.opener.proofs.Sized.{IsSize, sized_sound}

-- at each stage a step is left
pub some_stores : (words : ℕ) (plan : Plan) → 0 < stores_left words plan
some_stores words plan = go (nat_lt (4 * words) (next_growth plan))
  where
    go : (b : Bool) → 0 < cond b 1 (events_in plan + 1)
    go true = omega arith
    go false = omega arith

pub some_step : (stage : Stage) (words : ℕ) → 0 < steps_at words stage
some_step stage.LockExclusive words = omega arith
some_step stage.PeekChecksum words = omega arith
some_step (stage.PeekSequence peek) words = omega arith
some_step (stage.LockShared Partial) words = omega arith
some_step (stage.LockShared Full) words = omega arith
some_step (stage.Continue loading) words = omega arith
some_step (stage.Load loading) words = omega arith
some_step stage.Size words = omega arith
some_step (stage.Reserve plan) words = omega arith
some_step (stage.Store plan) words = some_stores words plan
some_step (stage.Unlock how) words = omega arith
some_step stage.Hold words = omega arith
some_step stage.Release words = omega arith

-- a call on the share that was not answered is made again, or the last
pub stopped_falls : (stop : ShareStop) (o : OpenerState) (running : Running) (stage : Stage) (result : Step) (new : OpenerState) (t : ShareState) → AfterStop stop o running stage result new →
    Falls (Runs running stage) result new.work t
stopped_falls Turn o running stage result new t after = subst (λ r. Falls (Runs running stage) r new.work t) (sym after.0) (ap (λ (n : OpenerState). n.work) after.1)
stopped_falls Failed o running stage result new t after = subst (λ r. Falls (Runs running stage) r new.work t) (sym after.0) (some_step stage)
stopped_falls Memory o running stage result new t after = subst (λ r. Falls (Runs running stage) r new.work t) (sym after.0) (some_step stage)
stopped_falls JournalFull o running stage result new t after = subst (λ r. Falls (Runs running stage) r new.work t) (sym after.0) (some_step stage)

-- a lock that is held against the call is asked for again
pub blocked_falls : (running : Running) (stage : Stage) (holder : ℕ) (mid : OpenerState) (result : Step) (new : OpenerState) (t : ShareState) → Waits running stage holder mid result new →
    Falls (Runs running stage) result new.work t
blocked_falls running stage holder mid result new t waits =
    subst (λ r. Falls (Runs running stage) r new.work t) (sym waits.0) (ap (λ (n : OpenerState). n.work) waits.1)

-- a hold and a release are answered
pub done_falls : (running next : Running) (stage : Stage) (holds place : ℕ) (mid : OpenerState) (result : Step) (new : OpenerState) (t : ShareState) → IsDone next holds place mid result new →
    Falls (Runs running stage) result new.work t
done_falls running next stage holds place mid result new t done = subst (λ r. Falls (Runs running stage) r new.work t) (sym done.0) (some_step stage)

-- and so is a call that has given its lock up
pub finishes_falls : (running next : Running) (stage : Stage) (how : End) (ended : ℕ) (mid : OpenerState) (result : Step) (new : OpenerState) (t : ShareState) →
    Finishes next how ended mid result new → Falls (Runs running stage) result new.work t
finishes_falls running next stage (end.Answer place reply) ended mid result new t is = subst (λ r. Falls (Runs running stage) r new.work t) (sym is.0) (some_step stage)
finishes_falls running next stage (end.Stop stop) ended mid result new t is = subst (λ r. Falls (Runs running stage) r new.work t) (sym is.0) (some_step stage)

-- what goes on is shorter
pub going_falls : (old : Work) (next : Running) (stage : Stage) (mid : OpenerState) (result : Step) (new : OpenerState) (t : ShareState) → Shortens old (Runs next stage) t →
    GoesOn next stage mid result new → Falls old result new.work t
going_falls old next stage mid result new t short on =
    subst (λ r. Falls old r new.work t) (sym on.0) (subst (λ (n : OpenerState). Shortens old n.work t) (sym on.1) short)

pub always_told : (t : Option History) (P : History → Type 0) → ((h : History) → P h) → OnTold t P
always_told None P p = tt
always_told (Some h) P p = p h

-- a step that met no size is shorter where its next stage has fewer steps
pub plainly_shorter : (old new : Work) (t : ShareState) → size_met old new ≡ 0 → ((words : ℕ) → steps_left words new < steps_left words old) → Shortens old new t
plainly_shorter old new t none fewer =
    record {
      falls = λ words within. fewer words;
      met = always_told t.told (λ h. size_met old new ≤ file_size (region_after h.start h.past)) (λ h. omega (arith, none));
    }

-- a call leaves, where the unlock is shorter
pub leaves_falls : (running next : Running) (here : Stage) (how : End) (ended : ℕ) (mid : OpenerState) (result : Step) (new : OpenerState) (t : ShareState) →
    Shortens (Runs running here) (Runs next (stage.Unlock how)) t → Leaves next how ended mid result new → Falls (Runs running here) result new.work t
leaves_falls running next here how ended mid result new t short leaves = go next.taken leaves
  where
    go : (taken : Option LockKind) → LeavesBy taken next how ended mid result new → Falls (Runs running here) result new.work t
    go None is = finishes_falls running next here how ended mid result new t is
    go (Some kind) is = going_falls (Runs running here) next (stage.Unlock how) mid result new t short is

-- a write goes on with the image that is kept, and another call is answered by it
pub ready_falls : (running next : Running) (here : Stage) (place ended : ℕ) (mid : OpenerState) (result : Step) (new : OpenerState) (t : ShareState) →
    Shortens (Runs running here) (Runs next stage.Size) t → ((how : End) → Shortens (Runs running here) (Runs next (stage.Unlock how)) t) →
    IsReady next place ended mid result new → Falls (Runs running here) result new.work t
ready_falls running next here place ended mid result new t writes leaves ready = go (is_write next.call) ready
  where
    go : (b : Bool) → IsReadyBy b next place ended mid result new → Falls (Runs running here) result new.work t
    go true on = going_falls (Runs running here) next stage.Size mid result new t writes on
    go false (how, replies, left) = leaves_falls running next here how ended mid result new t (leaves how) left

-- what a look at the region comes to
module _ (running next : Running) (t : ShareState) where
  pub checksum_shorter : (peek : _) → Shortens (Runs running stage.PeekChecksum) (Runs next (stage.PeekSequence peek)) t
  checksum_shorter peek = plainly_shorter (Runs running stage.PeekChecksum) (Runs next (stage.PeekSequence peek)) t refl (λ words. omega arith)

  -- a shared lock for a load
  pub asked_shorter : (peek : _) (extent : Extent) → Shortens (Runs running (stage.PeekSequence peek)) (Runs next (stage.LockShared extent)) t
  asked_shorter peek Partial = plainly_shorter (Runs running (stage.PeekSequence peek)) (Runs next (stage.LockShared Partial)) t refl (λ words. omega arith)
  asked_shorter peek Full = plainly_shorter (Runs running (stage.PeekSequence peek)) (Runs next (stage.LockShared Full)) t refl (λ words. omega arith)

  -- the lock of a write is taken
  pub exclusive_shorter : (image : Option Image) (holds : ℕ) (taken : Option LockKind) (next_stage : Stage) → Notices image holds taken next_stage →
      Shortens (Runs running stage.LockExclusive) (Runs next next_stage) t
  exclusive_shorter (Some i) holds taken next_stage is =
      subst (λ z. Shortens (Runs running stage.LockExclusive) (Runs next z) t) (sym is)
      (plainly_shorter (Runs running stage.LockExclusive) (Runs next stage.PeekChecksum) t refl (λ words. omega arith))
  exclusive_shorter None holds taken next_stage reads = go (lock_by holds taken) reads
    where
      go : (lock : Option LockKind) → ReadsBy lock next_stage → Shortens (Runs running stage.LockExclusive) (Runs next next_stage) t
      go None is =
          subst (λ z. Shortens (Runs running stage.LockExclusive) (Runs next z) t) (sym is)
          (plainly_shorter (Runs running stage.LockExclusive) (Runs next (stage.LockShared Full)) t refl (λ words. omega arith))
      go (Some kind) (loading, is, fresh) =
          subst (λ z. Shortens (Runs running stage.LockExclusive) (Runs next z) t) (sym is)
          (plainly_shorter (Runs running stage.LockExclusive) (Runs next (stage.Load loading)) t refl (λ words. omega arith))

-- a load is one step less, within the words of the file whose size it was answered
module _ (running next : Running) (before : Load) (t : ShareState) where
  pub load_shorter : (after : Load) → loads_of after ≡ loads_of before + 1 → loads_of after ≤ 10 + size_in after.first / 4 →
      OnTold t.told (λ h. size_in after.first ≡ file_size (region_after h.start h.past)) → Shortens (Runs running (stage.Load before)) (Runs next (stage.Load after)) t
  load_shorter after one most told =
      record {
        falls = λ words within. omega (arith, one, most, within);
        met = told_map t.told (λ h. size_in after.first ≡ file_size (region_after h.start h.past)) (λ h. size_in after.first ≤ file_size (region_after h.start h.past)) (λ h is. omega (arith, is)) told;
      }

  pub load_left : (how : End) → Shortens (Runs running (stage.Load before)) (Runs next (stage.Unlock how)) t
  load_left how = plainly_shorter (Runs running (stage.Load before)) (Runs next (stage.Unlock how)) t refl (λ words. omega arith)

-- a call begins with so many steps at most
pub first_bound : (image : Option Image) (holds : ℕ) (asked : Call) (first : Stage) → IsFirst image holds asked first → (words : ℕ) → steps_at words first ≤ 6 * words + 100
first_bound image holds asked first is words = go asked is
  where
    reads : (lock : Option LockKind) → ReadsBy lock first → steps_at words first ≤ 6 * words + 100
    reads None is = subst (λ z. steps_at words z ≤ 6 * words + 100) (sym is) (omega arith)
    reads (Some kind) (loading, is, fresh) = subst (λ z. steps_at words z ≤ 6 * words + 100) (sym is) (omega arith)

    notices : (kept : Option Image) → Notices kept holds None first → steps_at words first ≤ 6 * words + 100
    notices None is = reads (lock_by holds None) is
    notices (Some i) is = subst (λ z. steps_at words z ≤ 6 * words + 100) (sym is) (omega arith)

    plain : (b : Bool) → IsFirstPlain b image holds first → steps_at words first ≤ 6 * words + 100
    plain true is = subst (λ z. steps_at words z ≤ 6 * words + 100) (sym is) (omega arith)
    plain false is = notices image is

    go : (asked : Call) → IsFirst image holds asked first → steps_at words first ≤ 6 * words + 100
    go call.Hold is = subst (λ z. steps_at words z ≤ 6 * words + 100) (sym is) (omega arith)
    go call.Release is = subst (λ z. steps_at words z ≤ 6 * words + 100) (sym is) (omega arith)
    go (call.Get key) is = plain (is_write (call.Get key) && (holds == 0)) is
    go (call.Put key value seconds) is = plain (is_write (call.Put key value seconds) && (holds == 0)) is
    go (call.Remove key) is = plain (is_write (call.Remove key) && (holds == 0)) is
    go call.Clear is = plain (is_write call.Clear && (holds == 0)) is
    go call.Keys is = plain (is_write call.Keys && (holds == 0)) is
    go call.Count is = plain (is_write call.Count && (holds == 0)) is
    go (call.Enable seconds) is = plain (is_write (call.Enable seconds) && (holds == 0)) is
    go call.Disable is = plain (is_write call.Disable && (holds == 0)) is
    go call.Sync is = plain (is_write call.Sync && (holds == 0)) is

-- a write's plan is made for the size that was asked for, or for a growth
module _ (running next : Running) (t : ShareState) where
  pub size_shorter : (o : OpenerState) (size : ℕ) (s : ShareState) (plan : Plan) → Tied (running_as o running stage.Size) s → Goes (loaded s) s t →
      OnTold t.told (λ h. size ≡ file_size (region_after h.start h.past)) → IsSize size →
      OnImage o.image (λ i. IsPlanOf o.who running.call running.now (sized_image i size) plan) → Shortens (Runs running stage.Size) (Runs next (stage.Reserve plan)) t
  size_shorter o size s plan tied goes told is planned = go o.image refl planned
    where
      go : (image : Option Image) → o.image ≡ image → OnImage image (λ i. IsPlanOf o.who running.call running.now (sized_image i size) plan) →
          Shortens (Runs running stage.Size) (Runs next (stage.Reserve plan)) t
      go None kept planned = absurd (tied.at.2.0 kept)
      go (Some i) kept planned =
          let sound = sized_sound i size (subst (λ k. OnImage k IsSoundImage) kept tied.sound) is in
          record {
            falls = λ words within. let few = planned_steps o.who running.call running.now (sized_image i size) plan tied.at.1 sound planned words within in omega (arith, few);
            met = told_call (running_as o running stage.Size) s t (loaded s) (λ start past. size ≡ file_size (region_after start past)) (λ start past. size_planned plan ≤ file_size (region_after start past))
                tied goes.after told
                (λ start past region lawful lock facts e.
                let image : IsImage i start past = subst (λ k. ImageIs k start past) kept facts.image in
                let file = planned_file o.who running.call running.now (sized_image i size) plan tied.at.1 sound planned in
                omega (arith, file, e, image.file));
          }

  pub refused_shorter : (how : End) → Shortens (Runs running stage.Size) (Runs next (stage.Unlock how)) t
  refused_shorter how = plainly_shorter (Runs running stage.Size) (Runs next (stage.Unlock how)) t refl (λ words. omega arith)

  -- its places are reserved, or not
  pub reserved_shorter : (plan : Plan) → Shortens (Runs running (stage.Reserve plan)) (Runs next (stage.Store plan)) t
  reserved_shorter plan = plainly_shorter (Runs running (stage.Reserve plan)) (Runs next (stage.Store plan)) t refl (λ words. omega arith)

  pub unreserved_shorter : (plan : Plan) (how : End) → Shortens (Runs running (stage.Reserve plan)) (Runs next (stage.Unlock how)) t
  unreserved_shorter plan how = plainly_shorter (Runs running (stage.Reserve plan)) (Runs next (stage.Unlock how)) t refl (λ words. omega (arith, some_stores words plan))

-- after a growth the file has the size to which it was grown
grown_file : (r : Region) (first : What) (rest : List What) → grown_by (first ∷ rest) ≤ file_size (region_step r first)
grown_file r (Grow size) rest = omega (arith, length-append r.data_bytes (replicate (size - length r.data_bytes) 0), length-replicate {A = ℕ} (size - length r.data_bytes) 0)
grown_file r what rest = omega arith

both_told : (a b : Option History) (R : History → History → Type 0) (P : History → Type 0) → ((h k : History) → R h k → P k) → OnBoth a b R → OnTold b P
both_told None None R P f both = tt
both_told None (Some k) R P f both = absurd both
both_told (Some h) None R P f both = absurd both
both_told (Some h) (Some k) R P f both = f h k both

-- the stores of a plan, within the words of a growth that comes first
pub few_stores : (words : ℕ) (plan : Plan) → stores_left words plan ≤ events_in plan + 1
few_stores words plan = go (nat_lt (4 * words) (next_growth plan))
  where
    go : (b : Bool) → cond b 1 (events_in plan + 1) ≤ events_in plan + 1
    go true = omega arith
    go false = omega arith

all_stores : (words : ℕ) (plan : Plan) → next_growth plan ≤ 4 * words → stores_left words plan ≡ events_in plan + 1
all_stores words plan within = go (nat_lt (4 * words) (next_growth plan)) refl
  where
    go : (b : Bool) → nat_lt (4 * words) (next_growth plan) ≡ b → cond b 1 (events_in plan + 1) ≡ events_in plan + 1
    go true e = let more : 4 * words < next_growth plan = grind (arith, nat_tests) in absurd (omega (arith, more, within))
    go false e = refl

-- an event of a plan is made
module _ (running next : Running) (plan : Plan) (rest : List What) (s t : ShareState) (made : MakesFirst (first_events plan) rest s t) where
  size_grown : OnTold t.told (λ h. next_growth plan ≤ file_size (region_after h.start h.past))
  size_grown =
      both_told s.told t.told (Grows s.who s.alone (made.0 ∷ [])) (λ h. next_growth plan ≤ file_size (region_after h.start h.past))
      (λ h k g. grows_to s.who s.alone (made.0 ∷ []) h k g (λ start past. next_growth plan ≤ file_size (region_after start past))
      (subst (λ l. grown_by l ≤ file_size (region_step (region_after h.start (g.others ++ h.past)) made.0)) (sym made.1)
      (grown_file (region_after h.start (g.others ++ h.past)) made.0 rest)))
      made.2.after.told

  pub store_shorter : (then : Stage) → ((words : ℕ) → steps_at words then < events_in plan + 1) → Shortens (Runs running (stage.Store plan)) (Runs next then) t
  store_shorter then fewer = record { falls = λ words within. omega (arith, all_stores words plan within, fewer words); met = size_grown }

  some_event : 0 < events_in plan
  some_event = go plan made.1
    where
      go : (p : Plan) → first_events p ≡ made.0 ∷ rest → 0 < events_in p
      go (Append a map) is = omega (arith, ap length is)
      go (Rewrite r then map) is = omega (arith, ap length is)

  -- it was the last
  pub written_falls : (image : Image) (ended : ℕ) (mid : OpenerState) (result : Step) (new : OpenerState) → Written next image ended mid result new →
      Falls (Runs running (stage.Store plan)) result new.work t
  written_falls image ended mid result new written =
      leaves_falls running next (stage.Store plan) (end.Answer (ended - 1) Done) ended (record mid { image = Some image }) result new t
      (store_shorter (stage.Unlock (end.Answer (ended - 1) Done)) (λ words. omega (arith, some_event))) written
