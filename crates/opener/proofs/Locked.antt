-- A write has taken its lock.
use Rattle.std.proofs.Common.{◌≡◌, ℕ, arith, false, List, [], ◌∷◌, refl, sym, ◌∙◌, subst}
use Rattle.std.specs.Prelude.{Option, Some, None, ⊤}
use Rattle.lock_rules.specs.declared.table.LockKind.{LockKind}
use Rattle.lock_rules.specs.declared.table.LockKind.TheVariants.{Exclusive}
use Rattle.lock_rules.specs.declared.table.Tried.TheVariants.{Taken}
use Rattle.region_words.specs.Region.{Region}
use Rattle.region_words.specs.Past.{region_after}
use Rattle.region_words.specs.Share.{ShareState, Tries, locked}
use Rattle.region_words.specs.Local.{event_of}
use Rattle.region_words.specs.declared.event.What.TheVariants.{Lock}
use Rattle.region_words.specs.declared.event.Event.{Event}
use Rattle.loader.specs.declared.loaded.Image.{Image}
use Rattle.opener.specs.State.{OpenerState}
use Rattle.opener.specs.Calls.{IsPlain}
use Rattle.opener.specs.Plans.{CanWrite}
use Rattle.opener.specs.Continues.{SameCall}
use Rattle.opener.specs.Ends.{Notices, ReadsBy, lock_by}
use Rattle.opener.specs.Steps.{IsStillKept}
use Rattle.opener.specs.Opener.{Tied, IsAtStage, Owes, StageIs, Suits, is_storing, running_as}
use Rattle.opener.specs.declared.work.Running.{Running}
use Rattle.opener.specs.declared.work.Stage.{Stage}
use Rattle.opener.specs.declared.work.Stage.TheVariants.{LockExclusive}
use Rattle.opener.specs.declared.work.Work.TheVariants.{Runs}
use Rattle.opener.proofs.Carry.{none_reserved, tied_after, more_changes, image_later, own_if}
use Rattle.opener.proofs.Reserved.{is_written, write_plain}
use Rattle.opener.proofs.Stages.{locked_rest}
use Rattle.opener.proofs.Stopped.{nothing_told}

-- what a stage that finds the region as it is wants, under an exclusive lock
record MayNotice (o : OpenerState) (next : Running) (stage : Stage) : Type 0 where
  pub suits : Suits next.call stage
  pub at : IsAtStage o next stage
  pub calm : is_storing (Runs next stage) ≡ false
  pub owes : (s : ShareState) → s.reserved s.who ≡ 0 → Owes o (Runs next stage) s
  pub told : (start : Region) (past : List Event) → StageIs o next stage start past

may_load : (o : OpenerState) (next : Running) (stage : Stage) (lock : Option LockKind) → IsPlain next.call → lock_by o.holds next.taken ≡ Some Exclusive → lock ≡ Some Exclusive →
    ReadsBy lock stage → MayNotice o next stage
may_load o next stage None plain mine is reads = absurd cc
may_load o next stage (Some kind) plain mine is reads =
    subst (MayNotice o next) (sym reads.1)
    (record {
      suits = plain;
      at = (reads.2.going, (λ none. let both = sym mine ∙ none in absurd cc), (λ write. mine));
      calm = refl;
      owes = λ s none. none;
      told = λ start past. reads.2.told (region_after start past);
    })

may_notice : (o : OpenerState) (next : Running) (stage : Stage) (taken : Option LockKind) → CanWrite next.call → lock_by o.holds next.taken ≡ Some Exclusive →
    lock_by o.holds taken ≡ Some Exclusive → (image : Option Image) → o.image ≡ image → Notices image o.holds taken stage → MayNotice o next stage
may_notice o next stage taken can mine same None e reads = may_load o next stage (lock_by o.holds taken) (write_plain next.call can) mine same reads
may_notice o next stage taken can mine same (Some i) e is =
    subst (MayNotice o next) (sym is)
    (record {
      suits = write_plain next.call can;
      at = ((λ none. let both = sym e ∙ none in absurd cc), (λ write. mine), (λ read. let both = sym (is_written next.call can) ∙ read in absurd cc));
      calm = refl;
      owes = λ s none. none;
      told = λ start past. tt;
    })

-- the image is still kept
pub notices_kept : (next : Running) (image : Option Image) (holds : ℕ) (taken : Option LockKind) (to : Stage) → Notices image holds taken to → IsStillKept (Runs next to) image LockExclusive image
notices_kept next (Some i) holds taken to is = subst (λ z. IsStillKept (Runs next z) (Some i) LockExclusive (Some i)) (sym is) (λ looks. (refl, refl))
notices_kept next None holds taken to reads = go (lock_by holds taken) reads
  where
    go : (lock : Option LockKind) → ReadsBy lock to → IsStillKept (Runs next to) None LockExclusive None
    go None is = subst (λ z. IsStillKept (Runs next z) None LockExclusive None) (sym is) (λ looks. (refl, refl))
    go (Some kind) (loading, is, fresh) = subst (λ z. IsStillKept (Runs next z) None LockExclusive None) (sym is) (λ looks. (refl, refl))

-- it looks at the region next
pub exclusive_tied : (o : OpenerState) (running next : Running) (stage : Stage) (s t : ShareState) → Tied (running_as o running LockExclusive) s → SameCall running next → next.taken ≡ Some Exclusive →
    Tries Exclusive Taken s t → Notices o.image o.holds next.taken stage → Tied (running_as o next stage) t
exclusive_tied o running next stage s t tied same taken tries notices =
    let mine : lock_by o.holds next.taken ≡ Some Exclusive = own_if o.holds next.taken tied.at.2.0 ∙ taken in
    let may = may_notice o next stage next.taken (subst CanWrite (sym same.call) tied.at.1) mine mine o.image refl notices in
    tied_after (running_as o running LockExclusive) (running_as o next stage) s t (locked Exclusive s) (λ start past. ⊤) tied tries.0.after refl tied.ended
    (sym mine) tied.deep tied.sound ((λ some. absurd (omega (arith, some, tied.at.2.0))), may.suits, may.at) (may.owes t (none_reserved s t (locked Exclusive s) tries.0.after tied.owes)) (nothing_told t.told)
    (λ start past region lawful lock facts e. record {
      image = image_later o.image start (event_of s.who (Lock Exclusive) ∷ []) past lawful facts.image;
      rests = λ held calm apart. locked_rest start past s.who lawful apart;
      work = (omega (arith, same.begun, facts.work.0, more_changes (event_of s.who (Lock Exclusive) ∷ []) past), may.told start _);
    })
