-- How a step ends that made an event of a plan.
use Rattle.std.proofs.Common.{arith, ◌≡◌, ◌≢◌, ◌+◌, ℕ, List, [], ◌∷◌, ◌++◌, length, refl, sym, ◌∙◌, subst, ap, inr, lit≤, append-nil}
use Rattle.std.specs.Prelude.{Option, Some, None}
use Rattle.expiring_map.specs.Map.{Map}
use Rattle.region_words.specs.Making.{Making, MakesFirst, next_of, stored_of}
use Rattle.region_words.specs.Owing.{IsOwing}
use Rattle.region_words.specs.Past.{change_of}
use Rattle.region_words.specs.Rows.{Row}
use Rattle.region_words.specs.Share.{ShareState, stored}
use Rattle.region_words.specs.Told.{changes_told}
use Rattle.region_words.specs.declared.event.What.{What}
use Rattle.region_words.specs.declared.next.Stored.TheVariants as next
use Rattle.opener.specs.State.{OpenerState}
use Rattle.opener.specs.Counted.{with_stored}
use Rattle.opener.specs.Ends.{GoesOn, Rewritten}
use Rattle.opener.specs.Opener.{Tied, running_as}
use Rattle.opener.specs.Plans.{events_in}
use Rattle.opener.specs.Steps.{Steps}
use Rattle.opener.specs.Writes.{IsSoundPlan, commits_in, commits_of, events_of, first_events, making_of}
use Rattle.opener.specs.declared.calls.Step.{Step}
use Rattle.opener.specs.declared.plan.Plan.{Plan}
use Rattle.opener.specs.declared.plan.Plan.TheVariants.{Append, Rewrite}
use Rattle.opener.specs.declared.work.Running.{Running}
use Rattle.opener.specs.declared.work.Stage.TheVariants.{Store}
use Rattle.opener.specs.declared.work.Work.TheVariants.{Runs}
use Rattle.opener.proofs.AddsBy.{event_goes}
use Rattle.opener.proofs.Counting.{going_counted, stored_loads}
use Rattle.opener.proofs.EndClauses.{going_answer, going_call, going_acts, going_cause, going_image}
use Rattle.opener.proofs.Falling.{few_stores, going_falls, store_shorter}
use Rattle.opener.proofs.Followed.{followed_tied}
use Rattle.opener.proofs.Same.{stored_same}
use Rattle.opener.proofs.StopClauses.{takes_same}
use Rattle.opener.proofs.Stored.{commits_on, events_on, places_on, stored_tied, with_making}
use Rattle.opener.proofs.StoresNext.{going_stores}
use Rattle.opener.proofs.Written.{rewrite_ends, writes}

-- whether events are left
pub more_left : (events : List What) → stored_of events ≡ next.More → events ≢ []
more_left [] is e = absurd cc
more_left (what ∷ rest) is e = absurd cc

pub all_made : (events : List What) → stored_of events ≡ next.Done → events ≡ []
all_made [] is = refl
all_made (what ∷ rest) is = absurd cc

-- a plan that is sound has events to come
pub some_first : (who : ℕ) (running : Running) (plan : Plan) → IsSoundPlan who running plan → first_events plan ≢ []
some_first who running (Append a map) sound = sound.0
some_first who running (Rewrite r None map) sound = sound.0
some_first who running (Rewrite r (Some a) map) sound = sound.0

module _ {o : OpenerState} {running : Running} {plan : Plan} {result : Step} {new : OpenerState} {s t : ShareState} (tied : Tied (running_as o running (Store plan)) s) (b : Making) (next : Running)
    (more : next ≡ with_stored (next_of (first_events plan)) running) (made : MakesFirst (first_events plan) b.events s t) where
  -- the call goes on with the events that are left
  pub stores_to : (then : Plan) → commits_in plan ≡ change_of made.0 ++ commits_in then → events_of plan ≡ made.0 ∷ events_of then → events_in plan ≡ events_in then + 1 → Tied (running_as o next (Store then)) t → GoesOn next (Store then) o result new →
      Steps o running (Store plan) result new s t
  stores_to then commits rest fewer left on =
      let lock = stored_same (next_of (first_events plan)) running next more in
      record {
        tied = subst (λ (n : OpenerState). Tied n t) (sym on.1) left;
        makes = inr (stored made.0 s, made.2.after, lit≤ tt);
        adds = event_goes o.who running next plan o result new s t made.0 b.events then made.2 (more ∙ ap (λ l. with_stored (next_of l) running) made.1) commits on;
        call = going_call o.who o.holds running next (Store then) o result new lock.same refl on;
        cause = going_cause (Runs running (Store plan)) next (Store then) o result new s t refl on;
        takes = takes_same (Runs running (Store plan)) s t made.2.after.holds;
        acts = going_acts (Store plan) o.image next (Store then) o result new s t (b.events, made, fewer) on;
        stores = going_stores (Store plan) next (Store then) o result new (made.0, rest) on;
        answer = going_answer next (Store then) o result new _ on;
        place = going_answer next (Store then) o result new _ on;
        image = going_image (Store plan) next (Store then) o o.image result new t (λ looks. absurd cc) on;
        counts = λ has. going_counted (Store plan) next (Store then) o result new (omega (arith, has, stored_loads (next_of (first_events plan)) running next more)) on;
        falls = going_falls (Runs running (Store plan)) next (Store then) o result new t (store_shorter running next plan b.events s t made (Store then) (λ words. omega (arith, few_stores words then, fewer))) on;
      }

  -- of the same row
  pub stores_on : b.standing ≡ (making_of plan).standing → b.events ≢ [] → ((row : Row) → IsOwing row (first_events plan) s → IsOwing row b.events t) →
      GoesOn next (Store (with_making plan b)) o result new → Steps o running (Store plan) result new s t
  stores_on stands some owing on =
      let lock = stored_same (next_of (first_events plan)) running next more in
      stores_to (with_making plan b) (commits_on o.who running next lock.same b made.0 plan made.1) (events_on b made.0 plan made.1) (places_on o.who running next lock.same b made.0 plan made.1)
      (stored_tied o running next plan b s t tied lock made stands some owing) on

-- after the last event of a rewrite an item is appended, or the call ends
module _ {o : OpenerState} {running : Running} {r : Making} {map : Map} {result : Step} {new : OpenerState} {s t : ShareState} (b : Making) (next : Running)
    (more : next ≡ with_stored (next_of r.events) running) (made : MakesFirst r.events b.events s t) (stands : b.standing ≡ r.standing) (done : b.events ≡ [])
    (owing : (row : Row) → IsOwing row r.events s → IsOwing row b.events t) (ended : ℕ) (count : ended ≡ changes_told t.told) where
  pub rewrites : (then : Option Making) → Tied (running_as o running (Store (Rewrite r then map))) s → Rewritten next b.standing then map ended o result new →
      Steps o running (Store (Rewrite r then map)) result new s t
  rewrites None tied written = writes o running next (Rewrite r None map) b map s t tied (rewrite_ends o.who running r map) more made stands done owing ended count written
  rewrites (Some a) tied on =
      let only : r.events ≡ made.0 ∷ [] = made.1 ∙ ap (λ l. made.0 ∷ l) done in
      stores_to tied b next more made (Append a map) (ap (λ l. commits_of l ++ commits_of a.events) only ∙ ap (λ l. l ++ commits_of a.events) (append-nil (change_of made.0))) (ap (λ l. l ++ a.events) only) (omega (arith, ap length only))
      (followed_tied o running next r b a map s t tied (stored_same (next_of r.events) running next more) made stands done owing) on
