-- Stores that are under way, as their events are made and others make theirs.
use Rattle.std.proofs.Common.{◌≡◌, ℕ, ◌≤◌, true, cond, List, [], ◌∷◌, ◌++◌, length, length-append, ◌+◌, refl, sym, ap, ◌∙◌, subst, append-nil, append_assoc, ne_eqb, arith}
use Rattle.std.specs.Prelude.{◌==◌, Some, None}
use Rattle.std.proofs.lemmas.Bool.Decides.{nat_tests}
use Rattle.lock_rules.specs.declared.table.LockKind.TheVariants.{Exclusive}
use Rattle.region_words.specs.Local.{event_of}
use Rattle.region_words.specs.Past.{NoneOf, changes_of, locks_after}
use Rattle.region_words.specs.Region.{Region}
use Rattle.region_words.specs.Share.{lock_of}
use Rattle.region_words.specs.declared.event.Event.{Event}
use Rattle.region_words.specs.declared.event.What.{What}
use Rattle.opener.specs.Continues.{SameCall}
use Rattle.opener.specs.Opener.{IsUnderWay, PlanIs, image_at, made_among}
use Rattle.opener.specs.Plans.{IsPlanOf, events_in}
use Rattle.opener.specs.Writes.{events_of}
use Rattle.opener.specs.declared.plan.Plan.{Plan}
use Rattle.opener.specs.declared.plan.Plan.TheVariants.{Append, Rewrite}
use Rattle.opener.specs.declared.work.Running.{Running}

-- others make none of one's events
none_among : (who : ℕ) (others later : List Event) → NoneOf who others → made_among who (others ++ later) ≡ made_among who later
none_among who [] later none = refl
none_among who (e ∷ others) later none =
    ap (λ b. made_among who (others ++ later) ++ cond b (e.what ∷ []) []) (ne_eqb e.who who none.0) ∙ append-nil (made_among who (others ++ later)) ∙ none_among who others later none.1

-- an own one is the last
one_among : (who maker : ℕ) (first : What) (later : List Event) → maker ≡ who → made_among who (event_of maker first ∷ later) ≡ made_among who later ++ first ∷ []
one_among who maker first later mine = ap (λ b. made_among who later ++ cond b (first ∷ []) []) (yes maker mine)
  where
    yes : (n : ℕ) → n ≡ who → (n == who) ≡ true
    yes n e = grind (arith, nat_tests)

module _ (who : ℕ) (running : Running) (start : Region) where
  -- the places were reserved just now
  pub under_way_first : (plan : Plan) (past : List Event) → running.begun ≤ length (changes_of past) → lock_of (locks_after past) who ≡ Some Exclusive → PlanIs who running plan start past →
      IsUnderWay who running plan start past
  under_way_first plan past since held planned = record { later = []; earlier = past; is = refl; since = since; held = held; whole = plan; planned = planned; rest = refl }

  -- others made these
  pub under_way_still : (plan : Plan) (others past : List Event) → NoneOf who others → IsUnderWay who running plan start past → IsUnderWay who running plan start (others ++ past)
  under_way_still plan others past none u =
      record {
        later = others ++ u.later;
        earlier = u.earlier;
        is = append_assoc others u.later u.earlier ∙ ap (λ l. others ++ l) u.is;
        since = u.since;
        held = u.held;
        whole = u.whole;
        planned = u.planned;
        rest = u.rest ∙ ap (λ l. l ++ events_of plan) (sym (none_among who others u.later none));
      }

  -- the first event of the plan was made
  pub under_way_on : (next : Running) → SameCall running next → (plan then : Plan) (past : List Event) (maker : ℕ) (first : What) → maker ≡ who → events_of plan ≡ first ∷ events_of then →
      IsUnderWay who running plan start past → IsUnderWay who next then start (event_of maker first ∷ past)
  under_way_on next same plan then past maker first mine rest u =
      record {
        later = event_of maker first ∷ u.later;
        earlier = u.earlier;
        is = ap (λ l. event_of maker first ∷ l) u.is;
        since = omega (arith, u.since, same.begun);
        held = u.held;
        whole = u.whole;
        planned = λ ok apart.
            subst (λ c. IsPlanOf who c next.now (image_at start u.earlier) u.whole) (sym same.call)
            (subst (λ n. IsPlanOf who running.call n (image_at start u.earlier) u.whole) (sym same.now) (u.planned ok apart));
        rest = u.rest ∙ ap (λ l. made_among who u.later ++ l) rest ∙ sym (append_assoc (made_among who u.later) (first ∷ []) (events_of then))
            ∙ ap (λ l. l ++ events_of then) (sym (one_among who maker first u.later mine));
      }

-- so many are left of a plan
pub events_counted : (plan : Plan) → length (events_of plan) ≡ events_in plan
events_counted (Append a map) = refl
events_counted (Rewrite r None map) = arith_zero (length r.events)
  where
    arith_zero : (n : ℕ) → n ≡ n + 0
    arith_zero n = omega arith
events_counted (Rewrite r (Some a) map) = length-append r.events a.events
