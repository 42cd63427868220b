-- Places and room are reserved for a plan, or not.
use Rattle.std.proofs.Common.{◌≡◌, ℕ, ◌+◌, ◌^◌, ◌<◌, ◌≤◌, arith, true, false, List, [], ◌∷◌, length, refl, sym, ◌∙◌, subst, ap, append-nil}
use Rattle.std.specs.Prelude.{Option, Some, None, max, ⊤}
use Rattle.change_log.specs.declared.change.Act.TheVariants as act
use Rattle.region_words.specs.Past.{changes_of}
use Rattle.region_words.specs.Rows.{Row, item_of}
use Rattle.region_words.specs.Rows as rows
use Rattle.region_words.specs.Told.{History, OnTold}
use Rattle.region_words.specs.Owing.{IsWithin, AreWithin, AreStorable, Comes, Owes}
use Rattle.region_words.specs.Past.{region_after}
use Rattle.region_words.specs.Share.{ShareState, Agrees, Goes, Stops, StopsReserving, reserving, unmoved}
use Rattle.region_words.specs.declared.stops.ShareStop.{ShareStop}
use Rattle.region_words.specs.declared.stops.ShareStop.TheVariants as share
use Rattle.region_words.specs.declared.event.What.{What}
use Rattle.region_words.specs.declared.event.What.TheVariants.{Store, Grow, Lock, Unlock, Died}
use Rattle.region_words.proofs.Telling.{told_and}
use Rattle.opener.specs.State.{OpenerState}
use Rattle.opener.specs.Calls.{IsPlain, is_write}
use Rattle.opener.specs.Counted.{counted}
use Rattle.opener.proofs.UnderWay.{under_way_first}
use Rattle.region_words.specs.Past.{locks_after}
use Rattle.region_words.specs.Share.{lock_of}
use Rattle.opener.specs.Opener.{Tied, PlanIs, running_as}
use Rattle.opener.specs.Plans.{CanWrite, events_in, room_in}
use Rattle.opener.specs.Writes.{IsSoundPlan, IsRowOf, PlanStarts, OwesPlan, first_events}
use Rattle.opener.specs.declared.calls.Stop.{Stop}
use Rattle.opener.specs.declared.plan.Plan.{Plan}
use Rattle.opener.specs.declared.plan.Plan.TheVariants.{Append, Rewrite}
use Rattle.opener.specs.declared.work.Running.{Running}
use Rattle.opener.specs.declared.work.End.TheVariants as end
use Rattle.opener.specs.declared.work.Stage.TheVariants as stage
use Rattle.change_log.specs.declared.call.Call.{Call}
use Rattle.change_log.specs.declared.call.Call.TheVariants as call
use Rattle.opener.proofs.Carry.{tied_after, told_call}
use Rattle.opener.proofs.Leaves.{LeftWith, Leaving}
use Rattle.opener.proofs.Stopped.{nothing_told}

is_within_more : (room more : ℕ) (what : What) → room ≤ more → IsWithin room what → IsWithin more what
is_within_more room more (Grow size) le is = omega (arith, le, is)
is_within_more room more (Store side word value mark) le is = tt
is_within_more room more (Lock kind) le is = tt
is_within_more room more Unlock le is = tt
is_within_more room more (Died torn) le is = tt

-- more room is room
pub within_more : (room more : ℕ) (events : List What) → room ≤ more → AreWithin room events → AreWithin more events
within_more room more [] le are = tt
within_more room more (what ∷ rest) le are = (is_within_more room more what le are.0, within_more room more rest le are.1)

-- a plan has a row
any_row : (who : ℕ) (running : Running) (plan : Plan) → IsSoundPlan who running plan → (row : Row) × IsRowOf who running row plan
any_row who running (Append a map) sound = (rows.Append act.Clear, (act.Clear, refl))
any_row who running (Rewrite r None map) sound = (rows.Clear, tt)
any_row who running (Rewrite r (Some a) map) (some, standing, sum, (change, follows), left) =
    let need = length (item_of r.standing.flag change.act) in
    (rows.Pack 0 need, (0, need, refl, (change, follows, refl)))

first_few : (plan : Plan) → length (first_events plan) ≤ events_in plan
first_few (Append a map) = omega arith
first_few (Rewrite r then map) = omega arith

pub counted_is : (n : ℕ) → n < 2 ^ 32 → counted n ≡ n
counted_is n few = omega (arith, few)

-- which is owed where it may start
starts_row : (who : ℕ) (running : Running) (plan : Plan) (t : ShareState) → t.who ≡ who → IsSoundPlan who running plan → (told : Option History) →
    OnTold told (λ k. Agrees t k × PlanStarts who running plan k.start k.past) → (row : Row) × IsRowOf who running row plan × OnTold told (Owes row (first_events plan) t)
starts_row who running plan t by sound None starts = let any = any_row who running plan sound in (any.0, any.1, tt)
starts_row who running plan t by sound (Some k) (agrees, (row, is, may)) = (
  row,
  is,
  record {
    agrees = agrees;
    storable = subst (λ w. AreStorable (region_after k.start k.past) w (first_events plan)) (sym by) may.storable;
    coming = λ apart. subst (λ w. Comes k.start k.past w row (first_events plan)) (sym by) (may.coming apart);
  },
)

module _ (o : OpenerState) (running : Running) (plan : Plan) (s t : ShareState) (tied : Tied (running_as o running (stage.Reserve plan)) s) where
  reserved_owes : Goes (reserving (counted (events_in plan)) (room_in plan) s) s t → OwesPlan o.who running plan t
  reserved_owes goes =
      let after = goes.after in
      let can = tied.at.2.1 in
      let starts = told_call (running_as o running (stage.Reserve plan)) s t (reserving (counted (events_in plan)) (room_in plan) s) (λ start past. ⊤) (PlanStarts o.who running plan) tied after (nothing_told t.told)
      (λ start past region lawful lock facts e. facts.work.1.0) in
      let found = starts_row o.who running plan t (after.same.who ∙ tied.who) tied.at.2.2 t.told (told_and t.told (Agrees t) _ _ (λ h p q. (p, q)) after.sound.told starts) in
      let places : t.reserved t.who ≡ s.reserved s.who + counted (events_in plan) = ap t.reserved after.same.who ∙ after.places in
      let room : t.room t.who ≡ max (s.room s.who) (room_in plan) = ap t.room after.same.who ∙ after.room in
      record {
        row = found.0;
        row_is = found.1;
        owing = record {
          alive = after.ended ∙ tied.ended;
          holds = after.holds ∙ tied.holds ∙ tied.at.2.0;
          maker = after.sound.maker;
          places = omega (arith, places, counted_is (events_in plan) can.few, first_few plan);
          room = within_more (room_in plan) (t.room t.who) (first_events plan) (omega (arith, room)) can.within;
          told = found.2;
        };
        places = omega (arith, places, tied.owes, counted_is (events_in plan) can.few);
      }

  -- the stores are next
  pub reserved_tied : Goes (reserving (counted (events_in plan)) (room_in plan) s) s t → Tied (running_as o running (stage.Store plan)) t
  reserved_tied goes =
      tied_after (running_as o running (stage.Reserve plan)) (running_as o running (stage.Store plan)) s t (reserving (counted (events_in plan)) (room_in plan) s) (λ start past. ⊤) tied goes.after refl tied.ended
      tied.holds tied.deep tied.sound (tied.at.0, tied.at.1, (tied.at.2.0, tied.at.2.2)) (reserved_owes goes) (nothing_told t.told)
      (λ start past region lawful lock facts e. record {
        image = facts.image;
        rests = λ held calm. absurd (storing_not_calm calm);
        work = (
          facts.work.0,
          (
            facts.work.1.1,
            record { before = changes_of past; made = []; are = sym (append-nil (changes_of past)); begun = facts.work.0; all = tied.at.2.3 },
            under_way_first o.who running start plan past facts.work.0 (ap (λ w. lock_of (locks_after past) w) (sym tied.who) ∙ lock ∙ tied.holds ∙ tied.at.2.0) facts.work.1.2,
          ),
        );
      })
    where
      storing_not_calm : true ≡ false → ⊥
      storing_not_calm e = cc

  -- nothing was reserved, and the call ends
  module _ (goes : Goes (unmoved s) s t) where
    pub unreserved_leaving : IsPlain running.call → Leaving o o running running s t
    unreserved_leaving plain =
        record { left = unmoved s; after = goes.after; alive = refl; lock = refl; places = tied.owes; who = refl; holds = refl; sound = tied.sound; taken = refl; plain = plain }

    pub unreserved_left : (why : Stop) → OnTold t.told (λ k. LeftWith None o running (end.Stop why) k.start k.past)
    unreserved_left why =
        told_call (running_as o running (stage.Reserve plan)) s t (unmoved s) (λ start past. ⊤) (LeftWith None o running (end.Stop why)) tied goes.after (nothing_told t.told)
        (λ start past region lawful lock facts e. record { begun = facts.work.0; image = facts.image; end_is = tt; ends = tt; rests = λ held. facts.rests held refl })

    -- the plan is still the one that the call makes
    pub unreserved_plan : OnTold t.told (λ k. PlanIs s.who running plan k.start k.past)
    unreserved_plan =
        subst (λ w. OnTold t.told (λ k. PlanIs w running plan k.start k.past)) (sym tied.who)
        (told_call (running_as o running (stage.Reserve plan)) s t (unmoved s) (λ start past. ⊤) (PlanIs o.who running plan) tied goes.after (nothing_told t.told)
        (λ start past region lawful lock facts e. facts.work.1.2))

-- where places were not refused
pub reserving_stops : (asked : ℕ) (stop : ShareStop) (s t : ShareState) → (stop ≡ share.Memory → ⊥) → (stop ≡ share.JournalFull → ⊥) → StopsReserving asked stop s t → Stops stop s t
reserving_stops asked share.Failed s t memory full stops = stops
reserving_stops asked share.Turn s t memory full stops = stops
reserving_stops asked share.Memory s t memory full stops = absurd (memory refl)
reserving_stops asked share.JournalFull s t memory full stops = absurd (full refl)

-- what changes the map is a plain call
pub write_plain : (asked : Call) → CanWrite asked → IsPlain asked
write_plain (call.Put key value seconds) can = can
write_plain (call.Remove key) can = can
write_plain call.Clear can = can
write_plain (call.Get key) can = absurd can
write_plain call.Keys can = absurd can
write_plain call.Count can = absurd can
write_plain (call.Enable seconds) can = can
write_plain call.Disable can = can
write_plain call.Hold can = absurd can
write_plain call.Release can = absurd can
write_plain call.Sync can = absurd can

pub is_written : (asked : Call) → CanWrite asked → is_write asked ≡ true
is_written (call.Put key value seconds) can = refl
is_written (call.Remove key) can = refl
is_written call.Clear can = refl
is_written (call.Get key) can = absurd can
is_written call.Keys can = absurd can
is_written call.Count can = absurd can
is_written (call.Enable seconds) can = refl
is_written call.Disable can = refl
is_written call.Hold can = absurd can
is_written call.Release can = absurd can
is_written call.Sync can = absurd can
