-- One event of a plan is made, and others are to come.
use Rattle.std.proofs.Common.{◌≡◌, ◌≢◌, ℕ, ◌+◌, ◌^◌, ◌<◌, ◌≤◌, arith, true, false, List, [], ◌∷◌, ◌++◌, length, refl, sym, ◌∙◌, subst, ap, append_assoc}
use Rattle.std.specs.Prelude.{Some, None, ⊤}
use Rattle.expiring_map.specs.Map.{Map}
use Rattle.change_log.specs.Acts.{act_of, replay}
use Rattle.change_log.specs.Settled.{AreOfCall}
use Rattle.change_log.specs.declared.change.Change.{Change}
use Rattle.region_words.specs.Region.{Region, base, record_of, file_size}
use Rattle.region_words.specs.Past.{region_after, after_all, changes_of, change_of}
use Rattle.region_words.specs.Rows.{Row, item_of}
use Rattle.region_words.specs.Local.{event_of}
use Rattle.region_words.specs.Making.{Making, MakesFirst}
use Rattle.region_words.specs.Owing.{IsOwing}
use Rattle.region_words.specs.Share.{ShareState, After, stored}
use Rattle.region_words.specs.declared.standing.Standing.{Standing}
use Rattle.region_words.specs.declared.event.What.{What}
use Rattle.region_words.specs.declared.event.Event.{Event}
use Rattle.region_words.proofs.Held.{Apart-front}
use Rattle.opener.specs.State.{OpenerState}
use Rattle.opener.specs.Continues.{SameCall}
use Rattle.opener.specs.Ends.{lock_by}
use Rattle.opener.proofs.UnderWay.{under_way_on}
use Rattle.opener.specs.Opener.{Tied, running_as}
use Rattle.loader.specs.PartialLoads.{IsSoundImage, IsSoundStanding}
use Rattle.opener.specs.Plans.{CanWrite, events_in}
use Rattle.opener.specs.Writes.{IsOwn, Follows, IsSoundPlan, IsRowOf, HasStanding, Leads, PlanLeads, HasMadeSoFar, OwesPlan, commits_of, commits_in, events_of, first_events, making_of}
use Rattle.opener.specs.declared.plan.Plan.{Plan}
use Rattle.opener.specs.declared.plan.Plan.TheVariants.{Append, Rewrite}
use Rattle.opener.specs.declared.work.Running.{Running}
use Rattle.opener.specs.declared.work.Stage.TheVariants.{Store}
use Rattle.opener.proofs.Carry.{tied_after, image_later, more_changes}
use Rattle.opener.proofs.Same.{SameLock}
use Rattle.opener.proofs.Stopped.{nothing_told}

-- a plan with this in place of what is made first
abbrev pub with_making : Plan → Making → Plan
with_making (Append a map) b = Append b map
with_making (Rewrite r next map) b = Rewrite b next map

-- what events lead to, after the first of them
pub lead_next : (k b : Making) (m : Map) (start : Region) (past : List Event) (who : ℕ) (first : What) → k.events ≡ first ∷ b.events → b.standing ≡ k.standing → Leads k m start past →
    Leads b m start (event_of who first ∷ past)
lead_next k b m start past who first is same leads =
    let r = region_after start past in
    let e = event_of who first in
    record {
      file = subst (λ (s : Standing). s.file_size ≤ file_size (after_all r (first ∷ b.events))) (sym same) (subst (λ l. k.standing.file_size ≤ file_size (after_all r l)) is leads.file);
      firm = subst (λ (s : Standing). (record_of (after_all r (first ∷ b.events))).version ≡ 0 → s.version ≡ 0) (sym same)
          (subst (λ l. (record_of (after_all r l)).version ≡ 0 → k.standing.version ≡ 0) is leads.firm);
      stands = λ ok apart. subst (HasStanding (after_all r (first ∷ b.events))) (sym same)
          (subst (λ l. HasStanding (after_all r l) k.standing) is (leads.stands ok (Apart-front start e past apart)));
      map = λ ok apart.
          ap (replay (base start)) (append_assoc (changes_of past) (change_of first) (commits_of b.events)) ∙ ap (λ l. replay (base start) (changes_of past ++ commits_of l)) (sym is)
          ∙ leads.map ok (Apart-front start e past apart);
    }

-- the same call
pub own_on : (who : ℕ) (running next : Running) (change : Change) → SameCall running next → IsOwn who running change → IsOwn who next change
own_on who running next change same own = record { act = (λ i. act_of (same.call i) (same.now i)) ∙ own.act; maker = own.maker }

-- the events that are left
pub events_on : (b : Making) (first : What) (plan : Plan) → first_events plan ≡ first ∷ b.events → events_of plan ≡ first ∷ events_of (with_making plan b)
events_on b first (Append a map) is = is
events_on b first (Rewrite r None map) is = is
events_on b first (Rewrite r (Some a) map) is = ap (λ l. l ++ a.events) is

pub follows_on : (who : ℕ) (running next : Running) (s : Standing) (a : Making) (change : Change) → SameCall running next → Follows who running s a change → Follows who next s a change
follows_on who running next s a change same f = record { own = own_on who running next change same f.own; can = f.can; is = f.is }

module _ (who : ℕ) (running next : Running) (same : SameCall running next) (b : Making) (first : What) where
  -- it is of the same row
  row_on : (plan : Plan) (row : Row) → b.standing ≡ (making_of plan).standing → IsRowOf who running row plan → IsRowOf who next row (with_making plan b)
  row_on (Append a map) row stands is = is
  row_on (Rewrite r None map) row stands is = is
  row_on (Rewrite r (Some a) map) row stands (now, need, row_is, (change, follows, size)) = (
    now,
    need,
    row_is,
    subst (λ s. (change : Change) × Follows who next s a change × (need ≡ length (item_of s.flag change.act))) (sym stands) (change, follows_on who running next r.standing a change same follows, size),
  )

  -- sound still
  sound_on : (plan : Plan) → b.standing ≡ (making_of plan).standing → b.events ≢ [] → IsSoundPlan who running plan → IsSoundPlan who next (with_making plan b)
  sound_on (Append a map) stands some sound = (some, subst (λ s. IsSoundImage (record { standing = s; map = map })) (sym stands) sound.1)
  sound_on (Rewrite r None map) stands some sound = (some, subst (λ s. IsSoundImage (record { standing = s; map = map })) (sym stands) sound.1)
  sound_on (Rewrite r (Some a) map) stands some (old, standing, sum, (change, follows), left) = (
    some,
    subst IsSoundStanding (sym stands) standing,
    subst (λ (s : Standing). s.checksum < 2 ^ 32) (sym stands) sum,
    (change, subst (λ s. Follows who next s a change) (sym stands) (follows_on who running next r.standing a change same follows)),
    left,
  )

  pub places_on : (plan : Plan) → first_events plan ≡ first ∷ b.events → events_in plan ≡ events_in (with_making plan b) + 1
  places_on (Append a map) is = omega (arith, ap length is)
  places_on (Rewrite r then map) is = omega (arith, ap length is)

  pub commits_on : (plan : Plan) → first_events plan ≡ first ∷ b.events → commits_in plan ≡ change_of first ++ commits_in (with_making plan b)
  commits_on (Append a map) is = ap commits_of is
  commits_on (Rewrite r None map) is = ap commits_of is
  commits_on (Rewrite r (Some a) map) is = ap (λ l. commits_of l ++ commits_of a.events) is ∙ append_assoc (change_of first) (commits_of b.events) (commits_of a.events)

  leads_next : (plan : Plan) (start : Region) (past : List Event) (maker : ℕ) → first_events plan ≡ first ∷ b.events → b.standing ≡ (making_of plan).standing → PlanLeads plan start past →
      PlanLeads (with_making plan b) start (event_of maker first ∷ past)
  leads_next (Append a map) start past maker is stands leads = lead_next a b map start past maker first is stands leads
  leads_next (Rewrite r None map) start past maker is stands leads = lead_next r b map start past maker first is stands leads
  leads_next (Rewrite r (Some a) map) start past maker is stands (mid, leads, then) = (mid, lead_next r b mid start past maker first is stands leads, then)

  first_is : (plan : Plan) → first_events (with_making plan b) ≡ b.events
  first_is (Append a map) = refl
  first_is (Rewrite r then map) = refl

  -- of its changes one more may be made
  pub made_on : (plan new : Plan) (past : List Event) (maker : ℕ) → commits_in plan ≡ change_of first ++ commits_in new → HasMadeSoFar who running plan past →
      HasMadeSoFar who next new (event_of maker first ∷ past)
  made_on plan new past maker is so_far =
      record {
        before = so_far.before;
        made = so_far.made ++ change_of first;
        are = ap (λ l. l ++ change_of first) so_far.are ∙ append_assoc so_far.before so_far.made (change_of first);
        begun = omega (arith, so_far.begun, same.begun);
        all = subst (λ l. AreOfCall who next.call next.now l) (ap (λ l. so_far.made ++ l) is ∙ sym (append_assoc so_far.made (change_of first) (commits_in new)))
            (subst (λ c. AreOfCall who c next.now (so_far.made ++ commits_in plan)) (sym same.call) (subst (λ n. AreOfCall who running.call n (so_far.made ++ commits_in plan)) (sym same.now) so_far.all));
      }

  -- the rest is owed
  owes_on : (plan : Plan) (s t : ShareState) → first_events plan ≡ first ∷ b.events → b.standing ≡ (making_of plan).standing → After (stored first s) s t →
      ((row : Row) → IsOwing row (first_events plan) s → IsOwing row b.events t) → OwesPlan who running plan s → OwesPlan who next (with_making plan b) t
  owes_on plan s t is stands after owing owes =
      record {
        row = owes.row;
        row_is = row_on plan owes.row stands owes.row_is;
        owing = subst (λ l. IsOwing owes.row l t) (sym (first_is plan)) (owing owes.row owes.owing);
        places = let p = owes.places in let q = ap t.reserved after.same.who ∙ after.places in omega (arith, p, q, places_on plan is);
      }

-- a store, and the plan goes on
pub stored_tied : (o : OpenerState) (running next : Running) (plan : Plan) (b : Making) (s t : ShareState) → Tied (running_as o running (Store plan)) s → SameLock running next →
    MakesFirst (first_events plan) b.events s t → b.standing ≡ (making_of plan).standing → b.events ≢ [] →
    ((row : Row) → IsOwing row (first_events plan) s → IsOwing row b.events t) → Tied (running_as o next (Store (with_making plan b))) t
stored_tied o running next plan b s t tied lock (first, is, goes) stands some owing =
    let same = lock.same in
    let held : lock_by o.holds next.taken ≡ lock_by o.holds running.taken = ap (lock_by o.holds) lock.taken in
    tied_after (running_as o running (Store plan)) (running_as o next (Store (with_making plan b))) s t (stored first s) (λ start past. ⊤) tied goes.after refl tied.ended (tied.holds ∙ sym held) tied.deep tied.sound
    ((λ some. lock.taken ∙ tied.at.0 some), subst CanWrite (sym same.call) tied.at.1, (held ∙ tied.at.2.0, sound_on o.who running next same b first plan stands some tied.at.2.1))
    (owes_on o.who running next same b first plan s t is stands goes.after owing tied.owes) (nothing_told t.told)
    (λ start past region lawful mine facts e. record {
      image = image_later o.image start (event_of s.who first ∷ []) past lawful facts.image;
      rests = λ held calm. absurd (storing_not_calm calm);
      work = (
        omega (arith, same.begun, facts.work.0, more_changes (event_of s.who first ∷ []) past),
        (
          leads_next o.who running next same b first plan start past s.who is stands facts.work.1.0,
          made_on o.who running next same b first plan (with_making plan b) past s.who (commits_on o.who running next same b first plan is) facts.work.1.1,
          under_way_on o.who running start next same plan (with_making plan b) past s.who first tied.who (events_on b first plan is) facts.work.1.2,
        ),
      );
    })
  where
    storing_not_calm : true ≡ false → ⊥
    storing_not_calm e = cc
