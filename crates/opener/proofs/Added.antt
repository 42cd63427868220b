-- All that a step adds, by what its call on the share did.
use Rattle.std.proofs.Common.{◌≡◌, ◌≤◌, lit≤, length, ℕ, Bool, List, [], ◌∷◌, ◌++◌, refl, sym, ◌∙◌, subst, ap, inl, inr, append-nil}
use Rattle.std.specs.Prelude.{Option, Some, None, filter}
use Rattle.change_log.specs.Acts.{act_of}
use Rattle.change_log.specs.Settled.{AreOfAct, AreOfCall, AreBegun}
use Rattle.change_log.specs.declared.change.Act.{Act}
use Rattle.change_log.specs.declared.change.Change.{Change}
use Rattle.lock_rules.specs.declared.table.LockKind.{LockKind}
use Rattle.region_words.specs.Past.{change_of}
use Rattle.region_words.specs.Share.{ShareState, After, Left, Goes, Fails, Stops, StopsTrying, Grows, loaded, locked, refused, stored, unlocked_by, unmoved, failed, turned_away}
use Rattle.region_words.specs.Told.{History, OnBoth}
use Rattle.region_words.specs.declared.event.What.{What}
use Rattle.region_words.specs.declared.stops.ShareStop.{ShareStop}
use Rattle.region_words.specs.declared.stops.ShareStop.TheVariants.{Failed, Turn, Memory, JournalFull}
use Rattle.opener.specs.State.{OpenerState}
use Rattle.opener.specs.Adds.{Adds, AreMade, AreMadeAt, AreMadeBy, AreStored, AreStoredAt, AreStoredBy, changes_region, Counts, IsRaisedIn, Loads, locks_taken, stores_in}
use Rattle.opener.specs.Calls.{AfterStop}
use Rattle.opener.specs.Ends.{Waits}
use Rattle.opener.specs.Opener.{MakesOne}
use Rattle.opener.specs.Writes.{commits_of, commits_in}
use Rattle.opener.specs.declared.calls.Step.{Step}
use Rattle.opener.specs.declared.calls.Step.TheVariants as step
use Rattle.opener.specs.declared.calls.Stop.TheVariants as why
use Rattle.opener.specs.declared.work.Running.{Running}
use Rattle.opener.specs.declared.work.End.TheVariants as end
use Rattle.opener.specs.declared.work.Stage.{Stage}
use Rattle.opener.specs.declared.work.Stage.TheVariants as stage
use Rattle.opener.specs.declared.work.Work.{Work}
use Rattle.opener.specs.declared.work.Work.TheVariants.{Runs}
use Rattle.opener.proofs.Adding.{none_more, keeps_lock, gives_lock, takes_lock}
use Rattle.opener.proofs.Storing.{StoresNothing, KeepsStored, calm_stored}

-- where nothing is made, a history grows by nothing
grows_none : (who : ℕ) (alone : Bool) (told : Option History) → OnBoth told told (Grows who alone [])
grows_none who alone None = tt
grows_none who alone (Some h) = record { start = refl; others = []; by_others = tt; none = λ e. refl; past = refl }

-- the changes of a call that made some so far are the first that it makes
pub made_first : (who : ℕ) (running : Running) (at : Stage) (made : List Change) → AreMadeAt who running at made → AreBegun who running.call running.now made
made_first who running at made are = go at are
  where
    first_none : (act : Option Act) → (more : List Change) × AreOfAct who running.now act more
    first_none None = ([], refl)
    first_none (Some act) = (record { maker = who; act = act } ∷ [], inl refl)

    nothing : made ≡ [] → AreBegun who running.call running.now made
    nothing none = subst (AreBegun who running.call running.now) (sym none) (first_none (act_of running.call running.now))

    go : (at : Stage) → AreMadeAt who running at made → AreBegun who running.call running.now made
    go (stage.Store plan) are = (commits_in plan, are)
    go (stage.Unlock (end.Answer place reply)) are = ([], subst (AreOfCall who running.call running.now) (sym (append-nil made)) are)
    go (stage.Unlock (end.Stop stop)) none = nothing none
    go stage.PeekChecksum none = nothing none
    go (stage.PeekSequence peek) none = nothing none
    go (stage.LockShared extent) none = nothing none
    go stage.LockExclusive none = nothing none
    go (stage.Continue loading) none = nothing none
    go (stage.Load loading) none = nothing none
    go stage.Size none = nothing none
    go (stage.Reserve plan) none = nothing none
    go stage.Hold none = nothing none
    go stage.Release none = nothing none

-- what was done to the share changed nothing in the region, with so many loads, and took this lock or none
pub record Quietly (loads : ℕ) (lock : Option LockKind) (s t : ShareState) : Type 0 where
  pub own : List What
  pub grows : OnBoth s.told t.told (Grows s.who s.alone own)
  pub makes : MakesOne s t
  pub load : Loads loads s t
  pub took : locks_taken s.holds t.holds ≡ locks_taken None lock
  pub takes : (kind : LockKind) → s.holds ≡ None → t.holds ≡ Some kind → lock ≡ Some kind
  pub stores : stores_in own ≡ 0
  pub commits : commits_of own ≡ []
  pub changes : filter changes_region own ≡ []

module _ {s t : ShareState} where
  pub load_quietly : Goes (loaded s) s t → Quietly 1 None s t
  load_quietly goes =
      record {
        own = [];
        grows = goes.after.told;
        makes = inr (loaded s, goes.after, lit≤ tt);
        load = inr (refl, ap (λ c. c.loads) goes.after.counts);
        took = keeps_lock s.holds t.holds goes.after.holds;
        takes = λ kind none some. sym none ∙ (sym goes.after.holds ∙ some);
        stores = refl;
        commits = refl;
        changes = refl;
      }

  pub lock_quietly : (kind : LockKind) → Goes (locked kind s) s t → s.holds ≡ None → Quietly 0 (Some kind) s t
  lock_quietly kind goes free =
      record {
        own = (locked kind s).own;
        grows = goes.after.told;
        makes = inr (locked kind s, goes.after, lit≤ tt);
        load = inl (refl, ap (λ c. c.loads) goes.after.counts);
        took = takes_lock kind s.holds t.holds free goes.after.holds;
        takes = λ k none some. sym goes.after.holds ∙ some;
        stores = refl;
        commits = refl;
        changes = refl;
      }

  pub unlock_quietly : Goes (unlocked_by s) s t → Quietly 0 None s t
  unlock_quietly goes =
      record {
        own = (unlocked_by s).own;
        grows = goes.after.told;
        makes = inr (unlocked_by s, goes.after, lit≤ tt);
        load = inl (refl, ap (λ c. c.loads) goes.after.counts);
        took = gives_lock s.holds t.holds goes.after.holds;
        takes = λ kind none some. sym goes.after.holds ∙ some;
        stores = refl;
        commits = refl;
        changes = refl;
      }

  -- no event, and no load
  pub none_quietly : (left : Left) → After left s t → left.own ≡ [] → left.counts.loads ≡ s.counts.loads → left.holds ≡ s.holds → Quietly 0 None s t
  none_quietly left after none loads holds =
      record {
        own = left.own;
        grows = after.told;
        makes = inr (left, after, subst (λ l. length l ≤ 1) (sym none) (lit≤ tt));
        load = inl (refl, ap (λ c. c.loads) after.counts ∙ loads);
        took = keeps_lock s.holds t.holds (after.holds ∙ holds);
        takes = λ kind none some. sym none ∙ (sym (after.holds ∙ holds) ∙ some);
        stores = ap stores_in none;
        commits = ap commits_of none;
        changes = ap (filter changes_region) none;
      }

-- and no call at all
pub still : (s : ShareState) → Quietly 0 None s s
still s =
    record {
      own = [];
      grows = grows_none s.who s.alone s.told;
      makes = inl refl;
      load = inl (refl, refl);
      took = keeps_lock s.holds s.holds refl;
      takes = λ kind none some. sym none ∙ some;
      stores = refl;
      commits = refl;
      changes = refl;
    }

module _ (who : ℕ) (running : Running) (at : Stage) (result : Step) (new : Work) (s t : ShareState) where
  -- what this step makes of what was made before, where its events commit nothing
  abbrev pub KeepsMade : Type 0
  KeepsMade = (so_far : List Change) → AreMadeAt who running at so_far → AreMadeBy who running result new so_far

  as_before : KeepsMade → (own : List What) → commits_of own ≡ [] → (so_far : List Change) → AreMadeAt who running at so_far → AreMadeBy who running result new (so_far ++ commits_of own)
  as_before keeps own none so_far are =
      subst (AreMadeBy who running result new) (sym (ap (λ l. so_far ++ l) none ∙ append-nil so_far)) (keeps so_far are)

  as_stored : KeepsStored at result new → (own : List What) → filter changes_region own ≡ [] → (so_far : List What) → AreStoredAt at so_far →
      AreStoredBy result new (so_far ++ filter changes_region own)
  as_stored keeps own none so_far are = subst (AreStoredBy result new) (sym (ap (λ l. so_far ++ l) none ∙ append-nil so_far)) (keeps so_far are)

  pub adds_quietly : (loads : ℕ) (lock : Option LockKind) → Quietly loads lock s t → KeepsStored at result new → KeepsMade → Counts running loads 0 (locks_taken None lock) result new →
      Adds who running at result new s t
  adds_quietly loads lock did stored keeps counts =
      record {
        own = did.own;
        loads = loads;
        grows = did.grows;
        loaded = did.load;
        made = as_before keeps did.own did.commits;
        stored = as_stored stored did.own did.changes;
        counts = subst (λ n. Counts running loads n (locks_taken s.holds t.holds) result new) (sym did.stores) (subst (λ n. Counts running loads 0 n result new) (sym did.took) counts);
      }

  -- an event of a row
  pub adds_event : (first : What) → After (stored first s) s t → ((so_far : List What) → AreStoredBy result new so_far) →
      ((so_far : List Change) → AreMadeAt who running at so_far → AreMadeBy who running result new (so_far ++ change_of first)) →
      Counts running 0 (stores_in (first ∷ [])) 0 result new → Adds who running at result new s t
  adds_event first after stored_by made counts =
      record {
        own = first ∷ [];
        loads = 0;
        grows = after.told;
        loaded = inl (refl, ap (λ c. c.loads) after.counts);
        made = λ so_far are. subst (λ l. AreMadeBy who running result new (so_far ++ l)) (sym (append-nil (change_of first))) (made so_far are);
        stored = λ so_far are. stored_by (so_far ++ filter changes_region (first ∷ []));
        counts = subst (λ n. Counts running 0 (stores_in (first ∷ [])) n result new) (sym (keeps_lock s.holds t.holds after.holds)) counts;
      }

-- What a step adds whose call on the share was not answered.
module _ (who : ℕ) (o : OpenerState) (running : Running) (at : Stage) (result : Step) (new : OpenerState) (s t : ShareState) where
  again_made : (result ≡ step.Again) × (new ≡ record o { work = Runs running at }) → KeepsMade who running at result new.work s t
  again_made is so_far are =
      subst (λ r. AreMadeBy who running r new.work so_far) (sym is.0) (subst (λ (n : OpenerState). AreMadeBy who running step.Again n.work so_far) (sym is.1) are)

  again_counts : (result ≡ step.Again) × (new ≡ record o { work = Runs running at }) → Counts running 0 0 0 result new.work
  again_counts is =
      subst (λ r. Counts running 0 0 0 r new.work) (sym is.0) (subst (λ (n : OpenerState). Counts running 0 0 0 step.Again n.work) (sym is.1) (none_more running))

  again_stored : (result ≡ step.Again) × (new ≡ record o { work = Runs running at }) → KeepsStored at result new.work
  again_stored is so_far are =
      subst (λ r. AreStoredBy r new.work so_far) (sym is.0) (subst (λ (n : OpenerState). AreStoredBy step.Again n.work so_far) (sym is.1) are)

  failed_made : result ≡ step.Stopped why.Fault → KeepsMade who running at result new.work s t
  failed_made is so_far are = subst (λ r. AreMadeBy who running r new.work so_far) (sym is) (made_first who running at so_far are)

  failed_counts : result ≡ step.Stopped why.Fault → Counts running 0 0 0 result new.work
  failed_counts is = subst (λ r. Counts running 0 0 0 r new.work) (sym is) tt

  died_adds : Fails s t → result ≡ step.Stopped why.Fault → Adds who running at result new.work s t
  died_adds fails is =
      record {
        own = (failed s).own;
        loads = 0;
        grows = fails.after.told;
        loaded = inl (refl, ap (λ c. c.loads) fails.after.counts);
        made = λ so_far are. subst (AreMadeBy who running result new.work) (sym (append-nil so_far)) (failed_made is so_far are);
        stored = λ so_far are. subst (λ r. AreStoredBy r new.work (so_far ++ filter changes_region (failed s).own)) (sym is) tt;
        counts = subst (λ n. Counts running 0 0 n result new.work) (sym (gives_lock s.holds t.holds fails.after.holds)) (failed_counts is);
      }

  pub stopped_adds : (stop : ShareStop) → AfterStop stop o running at result new → Stops stop s t → Adds who running at result new.work s t
  stopped_adds Turn after stops = adds_quietly who running at result new.work s t 0 None (none_quietly (turned_away s) stops.after refl refl refl) (again_stored after) (again_made after) (again_counts after)
  stopped_adds Failed after stops = died_adds stops after.0
  stopped_adds Memory after stops = absurd stops
  stopped_adds JournalFull after stops = absurd stops

  -- a try of a call that has made nothing yet
  pub tried_adds : StoresNothing at → (kind : LockKind) (stop : ShareStop) → ((so_far : List Change) → AreMadeAt who running at so_far → so_far ≡ []) → AfterStop stop o running at result new →
      StopsTrying kind stop s t → Adds who running at result new.work s t
  tried_adds calm kind Turn nothing after stops = adds_quietly who running at result new.work s t 0 None (none_quietly (turned_away s) stops.after refl refl refl) (again_stored after) (again_made after) (again_counts after)
  tried_adds calm kind Failed nothing after stops = died_adds stops after.0
  tried_adds calm kind Memory nothing after stops =
      adds_quietly who running at result new.work s t 0 None (none_quietly (unmoved s) stops.0.after refl refl refl) (calm_stored at result new.work calm)
      (λ so_far are. subst (λ r. AreMadeBy who running r new.work so_far) (sym after.0) (nothing so_far are)) (subst (λ r. Counts running 0 0 0 r new.work) (sym after.0) tt)
  tried_adds calm kind JournalFull nothing after stops =
      adds_quietly who running at result new.work s t 0 None (none_quietly (unmoved s) stops.0.after refl refl refl) (calm_stored at result new.work calm)
      (λ so_far are. subst (λ r. AreMadeBy who running r new.work so_far) (sym after.0) (nothing so_far are)) (subst (λ r. Counts running 0 0 0 r new.work) (sym after.0) tt)

  pub waits_adds : (holder : ℕ) → Waits running at holder o result new → Goes (refused s) s t → Adds who running at result new.work s t
  waits_adds holder waits goes =
      adds_quietly who running at result new.work s t 0 None (none_quietly (refused s) goes.after refl refl refl)
      (λ so_far are. subst (λ r. AreStoredBy r new.work so_far) (sym waits.0) (subst (λ (n : OpenerState). AreStored n.work so_far) (sym waits.1) are))
      (λ so_far are. subst (λ r. AreMadeBy who running r new.work so_far) (sym waits.0) (subst (λ (n : OpenerState). AreMade who n.work so_far) (sym waits.1) are))
      (subst (λ r. Counts running 0 0 0 r new.work) (sym waits.0) (subst (λ (n : OpenerState). IsRaisedIn running 0 0 0 n.work) (sym waits.1) (none_more running)))
