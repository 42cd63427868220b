-- A load begins under a lock: of the whole region, or of what was appended to the image that is kept.
use Rattle.std.proofs.Common.{◌≡◌, ◌≢◌, ◌+◌, ◌<◌, ◌++◌, arith, false, refl, sym, ◌∙◌, subst, ap, List}
use Rattle.std.specs.Prelude.{Option, Some, None, ⊤}
use Rattle.lock_rules.specs.declared.table.LockKind.{LockKind}
use Rattle.lock_rules.specs.declared.table.LockKind.TheVariants.{Shared, Exclusive}
use Rattle.lock_rules.specs.declared.table.Tried.TheVariants.{Taken}
use Rattle.region_words.specs.Apart.{Apart}
use Rattle.region_words.specs.Lawful.{Lawful}
use Rattle.region_words.specs.Past.{region_after}
use Rattle.region_words.specs.Region.{Region}
use Rattle.region_words.specs.Share.{ShareState, After, Goes, Left, Tries, loaded, locked, made_by}
use Rattle.region_words.specs.declared.event.Event.{Event}
use Rattle.region_words.specs.declared.stops.Peek.{Peek}
use Rattle.loader.specs.Loads.{Load as Loading}
use Rattle.loader.specs.PartialLoads.{IsSoundImage, going_on_from}
use Rattle.loader.specs.declared.loaded.Image.{Image}
use Rattle.opener.specs.State.{OpenerState}
use Rattle.opener.specs.Calls.{IsPlain, is_write}
use Rattle.opener.specs.Continues.{SameCall}
use Rattle.opener.specs.Counted.{counted}
use Rattle.opener.specs.Ends.{IsFresh, OnImage, lock_by}
use Rattle.opener.specs.Extents.{BeginsLoad, CanLoad, LoadsBy, LoadsNext}
use Rattle.opener.specs.Fresh.{HasCounted}
use Rattle.opener.specs.Opener.{Facts, ImageIs, IsCalm, LooksUnder, Tied, running_as}
use Rattle.opener.specs.Steps.{FindsLoad, Steps}
use Rattle.opener.specs.declared.calls.Step.{Step}
use Rattle.opener.specs.declared.work.Extent.{Extent}
use Rattle.opener.specs.declared.work.Extent.TheVariants.{Partial, Full}
use Rattle.opener.specs.declared.work.Running.{Running}
use Rattle.opener.specs.declared.work.Stage.{Stage}
use Rattle.opener.specs.declared.work.Stage.TheVariants.{PeekSequence, LockShared, Continue, Load}
use Rattle.opener.proofs.Carry.{image_later, more_changes, none_reserved, own_if, tied_after}
use Rattle.opener.proofs.Falling.{asked_shorter, plainly_shorter}
use Rattle.opener.proofs.Noticed.{asks_shared, looks_next}
use Rattle.opener.proofs.Same.{loaded_same, locked_same}
use Rattle.opener.proofs.StepEnds.{loads_on, locks_on}
use Rattle.opener.proofs.Stopped.{nothing_told}
use Rattle.opener.proofs.TriedKinds.{reads_shared}

-- what is known where a load may begin
pub record MayLoad (o : OpenerState) (running next : Running) (stage : Stage) (s : ShareState) (left : Left) : Type 0 where
  pub lock : left.holds ≡ lock_by o.holds next.taken
  pub held : lock_by o.holds next.taken ≢ None
  pub alive : left.ended ≡ false
  pub places : left.places ≡ 0
  pub own : 0 < o.holds → next.taken ≡ None
  pub plain : IsPlain next.call
  pub looks : LooksUnder next (lock_by o.holds next.taken)
  pub rests : (start : Region) (past : List Event) → Lawful start (made_by s.who left.own ++ past) → Facts (running_as o running stage) start past →
      lock_by o.holds next.taken ≡ Some Exclusive → Apart start (made_by s.who left.own ++ past) → IsCalm start (made_by s.who left.own ++ past)

module _ (o : OpenerState) (running next : Running) (stage : Stage) (s t : ShareState) (left : Left) (tied : Tied (running_as o running stage) s) (after : After left s t)
    (same : SameCall running next) (may : MayLoad o running next stage s left) where
  pub whole_tied : (loading : Loading) → IsFresh loading → Tied (running_as o next (Load loading)) t
  whole_tied loading fresh =
      tied_after (running_as o running stage) (running_as o next (Load loading)) s t left (λ start past. ⊤) tied after refl may.alive may.lock tied.deep tied.sound
      (may.own, may.plain, (fresh.going, may.held, may.looks)) (none_reserved s t left after may.places) (nothing_told t.told)
      (λ start past region lawful lock facts e. record {
        image = image_later o.image start (made_by s.who left.own) past lawful facts.image;
        rests = λ held calm apart. may.rests start past lawful facts held apart;
        work = (omega (arith, same.begun, facts.work.0, more_changes (made_by s.who left.own) past), fresh.told (region_after start (made_by s.who left.own ++ past)));
      })

  pub part_tied : (i : Image) → o.image ≡ Some i → Tied (record (running_as o next (Continue (going_on_from i))) { image = None }) t
  part_tied i kept =
      tied_after (running_as o running stage) (record (running_as o next (Continue (going_on_from i))) { image = None }) s t left (λ start past. ⊤) tied after refl may.alive may.lock tied.deep tt
      (may.own, may.plain, (record { lacking = tt }, may.held, may.looks, subst (λ k. OnImage k IsSoundImage) kept tied.sound, refl)) (none_reserved s t left after may.places) (nothing_told t.told)
      (λ start past region lawful lock facts e.
      let image = subst (λ k. ImageIs k start (made_by s.who left.own ++ past)) kept (image_later o.image start (made_by s.who left.own) past lawful facts.image) in
      record {
        image = tt;
        rests = λ held calm apart. may.rests start past lawful facts held apart;
        work = (
          omega (arith, same.begun, facts.work.0, more_changes (made_by s.who left.own) past),
          (record { words = record { same = refl }; file = image.file; asked = λ asked. absurd cc; added = refl }, image),
        );
      })

-- the load that two peeks ask for begins, or a shared lock is asked for first
module _ (o : OpenerState) (running : Running) (peek : Peek) (result : Step) (new : OpenerState) (s t : ShareState) (tied : Tied (running_as o running (PeekSequence peek)) s)
    (next : Running) (goes : Goes (loaded s) s t) (more : next ≡ record running { loads = counted (running.loads + 1) }) (extent : Extent) (look : FindsLoad (Some extent) peek o.image t)
    (can : CanLoad extent o.image) where
  may_load : (kind : LockKind) → lock_by o.holds next.taken ≡ Some kind → MayLoad o running next (PeekSequence peek) s (loaded s)
  may_load kind held =
      let same = loaded_same running next more in
      let lock : lock_by o.holds running.taken ≡ lock_by o.holds next.taken = ap (lock_by o.holds) (sym same.taken) in
      record {
        lock = tied.holds ∙ lock;
        held = λ none. let both = sym held ∙ none in absurd cc;
        alive = tied.ended;
        places = tied.owes;
        own = λ some. same.taken ∙ tied.at.0 some;
        plain = subst IsPlain (sym same.same.call) tied.at.1;
        looks = looks_next o running next peek s t tied same goes;
        rests = λ start past lawful facts mine apart. facts.rests (lock ∙ mine) refl apart;
      }

  counted_two : (running.loads ≡ 1) × (running.stores ≡ 0) → (next.loads ≡ 2) × (next.stores ≡ 0)
  counted_two has = (omega (arith, has.0, ap (λ (r : Running). r.loads) more), ap (λ (r : Running). r.stores) more ∙ has.1)

  asked_counted : (e : Extent) → (running.loads ≡ 1) × (running.stores ≡ 0) → HasCounted (LockShared e) next
  asked_counted Partial has = counted_two has
  asked_counted Full has = tt

  pub noticed_steps : LoadsNext extent next o result new → Steps o running (PeekSequence peek) result new s t
  noticed_steps loads = go (lock_by o.holds next.taken) refl extent look can loads
    where
      same : SameCall running next
      same = (loaded_same running next more).same

      go : (lock : Option LockKind) → lock_by o.holds next.taken ≡ lock → (extent : Extent) → FindsLoad (Some extent) peek o.image t → CanLoad extent o.image → LoadsBy lock extent next o result new →
          Steps o running (PeekSequence peek) result new s t
      go None none extent look can on =
          loads_on tied (λ stored none. none) o next (LockShared extent) refl goes more (goes, look) (λ looks. (refl, refl)) (asked_counted extent) on refl (λ so_far are. are)
          (asks_shared o running next peek s t tied (loaded_same running next more) goes extent can (ap (lock_by o.holds) (sym (loaded_same running next more).taken) ∙ none)) (asked_shorter running next t peek extent) tt
      go (Some kind) held Full look can (loading, fresh, on) =
          loads_on tied (λ stored none. none) o next (Load loading) refl goes more (goes, look) (λ looks. (refl, refl)) (λ has. omega (arith, fresh.none)) on refl (λ so_far are. are)
          (whole_tied o running next (PeekSequence peek) s t (loaded s) tied goes.after same (may_load kind held) loading fresh)
          (plainly_shorter _ _ t refl (λ words. omega arith)) tt
      go (Some kind) held Partial look can (i, kept, on) =
          loads_on tied (λ stored none. none) (record o { image = None }) next (Continue (going_on_from i)) refl goes more (goes, look) (λ looks. (refl, sym kept)) (λ has. omega (arith, (counted_two has).0)) on refl (λ so_far are. are)
          (part_tied o running next (PeekSequence peek) s t (loaded s) tied goes.after same (may_load kind held) i kept)
          (plainly_shorter _ _ t refl (λ words. omega arith)) tt

-- the shared lock was taken
module _ (o : OpenerState) (running : Running) (result : Step) (new : OpenerState) (s t : ShareState) (next : Running) (tries : Tries Shared Taken s t)
    (more : next ≡ record running { taken = Some Shared; locks = counted (running.locks + 1) }) where
  same : SameCall running next
  same = (locked_same running next Shared more).0

  may_load_locked : (extent : Extent) → Tied (running_as o running (LockShared extent)) s → MayLoad o running next (LockShared extent) s (locked Shared s)
  may_load_locked extent tied =
      let mine : lock_by o.holds next.taken ≡ Some Shared = own_if o.holds next.taken tied.at.2.0 ∙ (locked_same running next Shared more).1 in
      record {
        lock = sym mine;
        held = λ none. let both = sym mine ∙ none in absurd cc;
        alive = tied.ended;
        places = tied.owes;
        own = λ some. absurd (omega (arith, some, tied.at.2.0));
        plain = subst IsPlain (sym same.call) tied.at.1.0;
        looks = λ write. let both = sym tied.at.1.1 ∙ ap is_write (sym same.call) ∙ write in absurd cc;
        rests = λ start past lawful facts held apart. let both = sym mine ∙ held in absurd cc;
      }

  free : (extent : Extent) → Tied (running_as o running (LockShared extent)) s → s.holds ≡ None
  free extent tied = tied.holds ∙ own_if o.holds running.taken tied.at.2.0 ∙ tied.at.2.1

  pub locked_steps : (extent : Extent) → Tied (running_as o running (LockShared extent)) s → BeginsLoad extent next o result new → Steps o running (LockShared extent) result new s t
  locked_steps Full tied (loading, fresh, on) =
      locks_on tied (λ stored none. none) o next Shared (reads_shared running.call tied.at.1.0 tied.at.1.1) (Load loading) refl (free Full tied) tries more refl (λ looks. (refl, refl)) (λ has. omega (arith, fresh.none)) on refl (λ so_far are. are)
      (whole_tied o running next (LockShared Full) s t (locked Shared s) tied tries.0.after same (may_load_locked Full tied) loading fresh) (plainly_shorter _ _ t refl (λ words. omega arith)) tt
  locked_steps Partial tied (i, kept, on) =
      locks_on tied (λ stored none. none) (record o { image = None }) next Shared (reads_shared running.call tied.at.1.0 tied.at.1.1) (Continue (going_on_from i)) refl (free Partial tied) tries more refl (λ looks. (refl, sym kept))
      (λ has. omega (arith, has.0, ap (λ (r : Running). r.loads) more)) on refl (λ so_far are. are)
      (part_tied o running next (LockShared Partial) s t (locked Shared s) tied tries.0.after same (may_load_locked Partial tied) i kept) (plainly_shorter _ _ t refl (λ words. omega arith)) tt
