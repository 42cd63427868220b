-- A write's plan, made once the file's size is known.
use Rattle.std.proofs.Common.{◌≡◌, ℕ, ◌%◌, ◌^◌, ◌<◌, ◌≤◌, arith, List, refl, sym, ◌∙◌, subst, ap, inl, inr, ◌⊎◌}
use Rattle.std.specs.Prelude.{Option, Some, None, unwrap_or, ⊤}
use Rattle.kv_pairs.specs.Growth.{largest}
use Rattle.change_log.specs.Settled.{AreOfCall}
use Rattle.change_log.specs.declared.call.Call.{Call}
use Rattle.change_log.specs.declared.call.Call.TheVariants as call
use Rattle.lock_rules.specs.declared.table.LockKind.TheVariants.{Exclusive}
use Rattle.region_words.specs.Region.{Region, IsRegion, IsAccepted, file_size, size_of}
use Rattle.region_words.specs.Past.{region_after}
use Rattle.region_words.specs.Apart.{Apart}
use Rattle.region_words.specs.Lawful.{Lawful, map_after}
use Rattle.region_words.specs.Rows.{standing}
use Rattle.region_words.specs.Standings.{standing_of}
use Rattle.region_words.specs.Told.{History, OnTold}
use Rattle.region_words.specs.Share.{ShareState, Goes, loaded}
use Rattle.region_words.specs.declared.event.Event.{Event}
use Rattle.region_words.proofs.Regions.{lawful_accepted, lawful_region}
use Rattle.region_words.proofs.Telling.{told_map}
use Rattle.loader.specs.declared.loaded.Image.{Image}
use Rattle.opener.specs.State.{OpenerState}
use Rattle.opener.specs.Calls.{IsPlain}
use Rattle.opener.specs.Continues.{SameCall}
use Rattle.opener.specs.Ends.{OnImage, sized_image, lock_by}
use Rattle.opener.specs.Opener.{Tied, Facts, HasReason, ImageIs, IsImage, IsSeen, IsShown, MayEnd, PlanIs, image_at, running_as}
use Rattle.opener.specs.Writes.{commits_in}
use Rattle.loader.specs.PartialLoads.{IsSoundImage}
use Rattle.opener.specs.Plans.{CanWrite, IsNotPlanned, IsPlanOf, refusal_of}
use Rattle.opener.specs.declared.calls.Stop.{Stop}
use Rattle.opener.specs.declared.calls.Stop.TheVariants as why
use Rattle.opener.specs.declared.plan.Plan.{Plan}
use Rattle.opener.specs.declared.work.Running.{Running}
use Rattle.opener.specs.declared.work.End.TheVariants as end
use Rattle.opener.specs.declared.work.Stage.TheVariants.{Size, Reserve}
use Rattle.opener.specs.declared.work.Work.TheVariants.{Runs}
use Rattle.opener.proofs.Carry.{none_reserved, told_call, tied_after}
use Rattle.opener.proofs.Leaves.{LeftWith, Leaving}
use Rattle.opener.proofs.Planned.{planned_reserves, planned_sound, planned_commits}
use Rattle.opener.proofs.Starting.{IsBeside, planned_leads, planned_starts}
use Rattle.opener.proofs.Stopped.{nothing_told}
use Rattle.opener.proofs.WriteStops.{IsOfWrite, stop_of_write}

-- the answer to the question for the size, whatever the share tells
abbrev pub IsSize : ℕ → Type 0
IsSize size = (size % 4096 ≡ 0) × (0 < size) × (size ≤ largest)

-- the image is sound beside it
pub sized_sound : (i : Image) (size : ℕ) → IsSoundImage i → IsSize size → IsSoundImage (sized_image i size)
sized_sound i size sound (pages, some, most) =
    record {
      standing = record {
        file = record { some = omega (arith, some); pages = omega (arith, pages, sound.standing.file.pages); most = omega (arith, most, sound.standing.file.most) };
        within = omega (arith, sound.standing.within);
        firm = sound.standing.firm;
      };
      map = sound.map;
    }

-- a write may be one that gives its lock up
pub can_plain : (asked : Call) → CanWrite asked → IsPlain asked
can_plain (call.Put key value seconds) can = can
can_plain (call.Remove key) can = can
can_plain call.Clear can = tt
can_plain (call.Get key) can = absurd can
can_plain call.Keys can = absurd can
can_plain call.Count can = absurd can
can_plain (call.Enable seconds) can = tt
can_plain call.Disable can = tt
can_plain call.Hold can = absurd can
can_plain call.Release can = absurd can
can_plain call.Sync can = absurd can

is_seen : (stop : Stop) → IsOfWrite stop → IsSeen stop
is_seen why.Fault is = absurd is
is_seen why.Memory is = tt
is_seen why.JournalFull is = tt
is_seen (why.NotWhole seen) is = tt
is_seen (why.Version n) is = tt
is_seen (why.Flags n) is = tt
is_seen (why.Full need) is = tt
is_seen why.SequenceEnd is = tt
is_seen why.ExpiryOff is = tt
is_seen why.ExpiryRange is = tt
is_seen why.AlreadyOn is = tt
is_seen why.AlreadyOff is = tt

-- this is the reason for which the region's image is refused
abbrev pub IsReason : Running → Stop → History → Type 0
IsReason running stop h = IsAccepted h.start → Apart h.start h.past → refusal_of running.call running.now (standing (region_after h.start h.past)) (map_after h.start h.past) ≡ Some stop

-- where the share tells its journal, this is known of the sized image
pub beside_of : (o : OpenerState) (running : Running) (i : Image) (size : ℕ) (start : Region) (past : List Event) → o.image ≡ Some i → IsRegion start → Lawful start past →
    lock_by o.holds running.taken ≡ Some Exclusive → Facts (running_as o running Size) start past → IsSoundImage i → i.standing.checksum < 2 ^ 32 → IsSize size →
    size ≡ file_size (region_after start past) → IsBeside (sized_image i size) start past
beside_of o running i size start past kept region lawful lock facts sound sum is size_is =
    let r = region_after start past in
    let j = sized_image i size in
    let image : IsImage i start past = subst (λ k. ImageIs k start past) kept facts.image in
    let shows : IsAccepted start → Apart start past → IsShown i start past = subst (λ k. OnImage k (λ i. IsAccepted start → Apart start past → IsShown i start past)) kept facts.work.1 in
    let file : j.standing.file_size ≡ file_size r = omega (arith, size_is, image.file) in
    record {
      region = lawful_region start past lawful region;
      sound = sized_sound i size sound is;
      sum = sum;
      file = file;
      firm = image.firm;
      accepted = λ ok. lawful_accepted start past ok lawful;
      calm = λ apart. (facts.rests lock refl apart, lawful_accepted start past (image.accepted apart) lawful);
      now = λ apart.
          let s = shows (image.accepted apart) apart in
          let stands : standing r ≡ j.standing =
          ap (λ z. standing_of r (unwrap_or (size_of z) 0)) s.kept.shows ∙ sym s.known.known ∙ ap (λ n. record i.standing { file_size = n }) (sym file) in
          record { whole = s.kept.shows; is = λ k. record { standing = stands k; map = sym s.history k } };
    }

module _ (o : OpenerState) (running next : Running) (size : ℕ) (s t : ShareState) (tied : Tied (running_as o running Size) s) (same : SameCall running next) (taken : next.taken ≡ running.taken)
    (goes : Goes (loaded s) s t) (told : OnTold t.told (λ h. size ≡ file_size (region_after h.start h.past))) (is : IsSize size) where
  abbrev lock : lock_by o.holds running.taken ≡ lock_by o.holds next.taken
  lock = ap (lock_by o.holds) (sym taken)

  abbrev given : OpenerState
  given = record o { image = None }

  -- the plan is made
  module _ (plan : Plan) where
    of_call : AreOfCall o.who running.call running.now (commits_in plan) → AreOfCall o.who next.call next.now (commits_in plan)
    of_call are = subst (λ c. AreOfCall o.who c next.now (commits_in plan)) (sym same.call) (subst (λ n. AreOfCall o.who running.call n (commits_in plan)) (sym same.now) are)

    -- the call makes it in the region as it is
    plan_there : (start : Region) (past : List Event) (j : Image) → IsBeside j start past → IsPlanOf o.who running.call running.now j plan → PlanIs o.who next plan start past
    plan_there start past j beside is_plan ok apart =
        subst (λ c. IsPlanOf o.who c next.now (image_at start past) plan) (sym same.call)
        (subst (λ n. IsPlanOf o.who running.call n (image_at start past) plan) (sym same.now)
        (subst (λ i. IsPlanOf o.who running.call running.now i plan) (sym (beside.now apart).is) is_plan))

    made : (i : Image) → o.image ≡ Some i → i.standing.checksum < 2 ^ 32 → IsPlanOf o.who running.call running.now (sized_image i size) plan → Tied (running_as given next (Reserve plan)) t
    made i kept sum is_plan =
        let sound : IsSoundImage i = subst (λ k. OnImage k IsSoundImage) kept tied.sound in
        let j = sized_image i size in
        let can : CanWrite running.call = tied.at.1 in
        let fits = sized_sound i size sound is in
        tied_after (running_as o running Size) (running_as given next (Reserve plan)) s t (loaded s) (λ start past. size ≡ file_size (region_after start past)) tied goes.after refl
        tied.ended (tied.holds ∙ lock) tied.deep tt
        ((λ some. taken ∙ tied.at.0 some), subst CanWrite (sym same.call) can, (sym lock ∙ tied.at.2.1, planned_reserves o.who running.call running.now j plan can fits is_plan, planned_sound o.who running.call running.now j plan can fits is_plan next same.call same.now, of_call (planned_commits o.who running.call running.now j plan can fits is_plan)))
        (none_reserved s t (loaded s) goes.after tied.owes) told
        (λ start past region lawful lock_is facts e.
        let beside = beside_of o running i size start past kept region lawful tied.at.2.1 facts sound sum is e in
        record {
          image = tt;
          rests = λ held calm. facts.rests (lock ∙ held) refl;
          work = (
            omega (arith, same.begun, facts.work.0),
            (planned_starts o.who start past j beside running.call running.now plan can is_plan next same.call same.now, planned_leads o.who start past j beside running.call running.now plan can is_plan, plan_there start past j beside is_plan),
          );
        })

    pub size_tied : OnImage o.image (λ i. i.standing.checksum < 2 ^ 32) → OnImage o.image (λ i. IsPlanOf o.who running.call running.now (sized_image i size) plan) → Tied (running_as given next (Reserve plan)) t
    size_tied sum is_plan = go o.image refl sum is_plan
      where
        go : (image : Option Image) → o.image ≡ image → OnImage image (λ i. i.standing.checksum < 2 ^ 32) → OnImage image (λ i. IsPlanOf o.who running.call running.now (sized_image i size) plan) →
            Tied (running_as given next (Reserve plan)) t
        go None kept sum is_plan = absurd (tied.at.2.0 kept)
        go (Some i) kept sum is_plan = made i kept sum is_plan

  -- it isn't made
  module _ (stop : Stop) (refused : OnImage o.image (λ i. IsNotPlanned running.call running.now (sized_image i size) stop)) where
    of_write : IsOfWrite stop
    of_write = go o.image tied.at.2.0 refused
      where
        go : (image : Option Image) → (image ≡ None → ⊥) → OnImage image (λ i. IsNotPlanned running.call running.now (sized_image i size) stop) → IsOfWrite stop
        go None some refused = absurd (some refl)
        go (Some i) some refused = let j = sized_image i size in stop_of_write running.call running.now j.standing j.map stop refused

    pub refused_ends : MayEnd (end.Stop stop)
    refused_ends = is_seen stop of_write

    pub refused_leaving : Leaving o given running next s t
    refused_leaving =
        record {
          left = loaded s;
          after = goes.after;
          alive = refl;
          lock = refl;
          places = tied.owes;
          who = refl;
          holds = refl;
          sound = tt;
          taken = taken;
          plain = can_plain next.call (subst CanWrite (sym same.call) tied.at.1);
        }

    pub refused_left : OnTold t.told (λ k. LeftWith None given next (end.Stop stop) k.start k.past)
    refused_left =
        told_call (running_as o running Size) s t (loaded s) (λ start past. ⊤) (LeftWith None given next (end.Stop stop)) tied goes.after (nothing_told t.told)
        (λ start past region lawful lock_is facts e.
        record { begun = omega (arith, same.begun, facts.work.0); image = tt; end_is = tt; ends = tt; rests = λ held apart. facts.rests (lock ∙ held) refl apart })

    -- the reason is found
    abbrev IsFound : Region → List Event → Type 0
    IsFound start past =
        IsAccepted start → Apart start past → (stop ≡ why.Memory) ⊎ (refusal_of running.call running.now (standing (region_after start past)) (map_after start past) ≡ Some stop)

    found : (i : Image) → o.image ≡ Some i → i.standing.checksum < 2 ^ 32 → IsNotPlanned running.call running.now (sized_image i size) stop → OnTold t.told (λ h. IsFound h.start h.past)
    found i kept sum not =
        let sound : IsSoundImage i = subst (λ k. OnImage k IsSoundImage) kept tied.sound in
        told_call (running_as o running Size) s t (loaded s) (λ start past. size ≡ file_size (region_after start past)) IsFound tied goes.after told
        (λ start past region lawful lock_is facts e good apart.
        let beside = beside_of o running i size start past kept region lawful tied.at.2.1 facts sound sum is e in
        reason (image_at start past) (sized_image i size) (beside.now apart).is not)
      where
        reason : (now j : Image) → now ≡ j → IsNotPlanned running.call running.now j stop → (stop ≡ why.Memory) ⊎ (refusal_of running.call running.now now.standing now.map ≡ Some stop)
        reason now j e (inl memory) = inl memory
        reason now j e (inr found) = inr (ap (λ (i : Image). refusal_of running.call running.now i.standing i.map) e ∙ found)

    pub refused_reason : OnImage o.image (λ i. i.standing.checksum < 2 ^ 32) → HasReason (Runs running Size) stop s t
    refused_reason sum = by stop of_write (told_of o.image refl sum refused)
      where
        told_of : (image : Option Image) → o.image ≡ image → OnImage image (λ i. i.standing.checksum < 2 ^ 32) → OnImage image (λ i. IsNotPlanned running.call running.now (sized_image i size) stop) →
            OnTold t.told (λ h. IsFound h.start h.past)
        told_of None kept sum not = absurd (tied.at.2.0 kept)
        told_of (Some i) kept sum not = found i kept sum not

        held : t.holds ≡ Some Exclusive
        held = goes.after.holds ∙ tied.holds ∙ tied.at.2.1

        other : (x : Stop) → (x ≡ why.Memory → ⊥) → OnTold t.told (λ h. IsAccepted h.start → Apart h.start h.past →
            (x ≡ why.Memory) ⊎ (refusal_of running.call running.now (standing (region_after h.start h.past)) (map_after h.start h.past) ≡ Some x)) → OnTold t.told (IsReason running x)
        other x differs told = told_map t.told _ (IsReason running x) (λ h f ok apart. elim (f ok apart) [ inl e ↦ absurd (differs e) | inr e ↦ e ]) told

        by : (x : Stop) → IsOfWrite x → OnTold t.told (λ h. IsAccepted h.start → Apart h.start h.past →
            (x ≡ why.Memory) ⊎ (refusal_of running.call running.now (standing (region_after h.start h.past)) (map_after h.start h.past) ≡ Some x)) → HasReason (Runs running Size) x s t
        by why.Fault is told = absurd is
        by why.Memory is told = tt
        by why.JournalFull is told = absurd is
        by (why.NotWhole seen) is told = absurd is
        by (why.Version n) is told = absurd is
        by (why.Flags n) is told = absurd is
        by (why.Full need) is told = (tt, held, other (why.Full need) (λ e. absurd cc) told)
        by why.SequenceEnd is told = (tt, held, other why.SequenceEnd (λ e. absurd cc) told)
        by why.ExpiryOff is told = (tt, held, other why.ExpiryOff (λ e. absurd cc) told)
        by why.ExpiryRange is told = (tt, held, other why.ExpiryRange (λ e. absurd cc) told)
        by why.AlreadyOn is told = (tt, held, other why.AlreadyOn (λ e. absurd cc) told)
        by why.AlreadyOff is told = (tt, held, other why.AlreadyOff (λ e. absurd cc) told)
