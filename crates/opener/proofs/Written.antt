-- All is stored: the call ends, its change is the last, and the image is kept.
use Rattle.std.proofs.Common.{◌≡◌, ℕ, zero, suc, ◌+◌, ◌≤◌, arith, List, [], ◌∷◌, ◌++◌, length, refl, sym, ◌∙◌, subst, ap, inr, lit≤, append-nil, length-append}
use Rattle.std.specs.Prelude.{◌-◌, Some, None, IfSome, slice_get}
use Rattle.expiring_map.specs.Map.{Map}
use Rattle.change_log.specs.Acts.{act_of}
use Rattle.change_log.specs.History.{reply_in}
use Rattle.change_log.specs.Settled.{AreOfAct, AreOfCall}
use Rattle.change_log.specs.declared.call.Call.{Call}
use Rattle.change_log.specs.declared.call.Call.TheVariants as call
use Rattle.change_log.specs.declared.call.Reply.TheVariants.{Done}
use Rattle.change_log.specs.declared.change.Act.{Act}
use Rattle.change_log.specs.declared.change.Change.{Change}
use Rattle.change_log.proofs.OfCall.{last_of}
use Rattle.region_words.specs.Region.{Region, IsRegion}
use Rattle.region_words.specs.Past.{changes_of, change_of}
use Rattle.region_words.specs.Lawful.{Lawful, Between, Reaches, room_of}
use Rattle.region_words.specs.Local.{event_of}
use Rattle.region_words.specs.Making.{Making, MakesFirst, next_of}
use Rattle.region_words.specs.Owing.{IsOwing}
use Rattle.region_words.specs.Rows.{Row}
use Rattle.region_words.specs.Rows as rows
use Rattle.region_words.specs.Share.{ShareState, After, stored}
use Rattle.region_words.specs.Told.{OnTold, changes_told}
use Rattle.region_words.specs.declared.event.What.{What}
use Rattle.region_words.specs.declared.event.Event.{Event}
use Rattle.region_words.proofs.Telling.{told_and}
use Rattle.opener.specs.State.{OpenerState}
use Rattle.opener.specs.Ends.{Written}
use Rattle.opener.specs.Counted.{with_stored}
use Rattle.opener.specs.Opener.{Tied, Facts, ChangeIs, IsLastPlace, KeepsWords, running_as}
use Rattle.loader.specs.PartialLoads.{IsSoundImage}
use Rattle.opener.specs.Plans.{CanWrite, events_in}
use Rattle.opener.specs.Steps.{Steps, StoresFirst}
use Rattle.opener.specs.Writes.{IsRowOf, IsSoundPlan, StandsAlone, Leads, PlanLeads, HasMadeSoFar, commits_of, commits_in, first_events, image_after, making_of}
use Rattle.opener.specs.declared.calls.Step.{Step}
use Rattle.opener.specs.declared.plan.Plan.{Plan}
use Rattle.opener.specs.declared.plan.Plan.TheVariants.{Append, Rewrite}
use Rattle.opener.specs.declared.work.Running.{Running}
use Rattle.opener.specs.declared.work.End.{End}
use Rattle.opener.specs.declared.work.End.TheVariants as end
use Rattle.opener.specs.declared.work.Stage.TheVariants as stage
use Rattle.opener.specs.declared.work.Work.TheVariants.{Runs}
use Rattle.opener.proofs.AddsBy.{event_written}
use Rattle.opener.proofs.Counting.{leaves_counted, stored_loads}
use Rattle.opener.proofs.EndClauses.{leaves_call, leaves_acts, leaves_cause}
use Rattle.opener.proofs.Falling.{written_falls}
use Rattle.opener.proofs.Carry.{told_call, changes_are, more_changes}
use Rattle.opener.proofs.Followed.{RowOver, row_over}
use Rattle.opener.proofs.Leaves.{LeftWith, Leaving, leaves_answer, leaves_image, leaves_place, leaves_tied}
use Rattle.opener.proofs.Reserved.{is_written, write_plain}
use Rattle.opener.proofs.RowEnds.{row_ended, row_is_shown, shown_matches}
use Rattle.opener.proofs.StoresNext.{leaves_stores}
use Rattle.opener.proofs.Same.{SameLock, stored_same}
use Rattle.opener.proofs.StopClauses.{takes_same}
use Rattle.opener.proofs.Stored.{lead_next, made_on}

-- a write makes a change, and is answered that it is done
write_act : (asked : Call) (now : ℕ) → CanWrite asked → (deed : Act) × (act_of asked now ≡ Some deed)
write_act (call.Put key value seconds) now can = (_, refl)
write_act (call.Remove key) now can = (_, refl)
write_act call.Clear now can = (_, refl)
write_act (call.Get key) now can = absurd can
write_act call.Keys now can = absurd can
write_act call.Count now can = absurd can
write_act (call.Enable seconds) now can = (_, refl)
write_act call.Disable now can = (_, refl)
write_act call.Hold now can = absurd can
write_act call.Release now can = absurd can
write_act call.Sync now can = absurd can

write_reply : (asked : Call) (m : Map) (now : ℕ) → CanWrite asked → Done ≡ reply_in m now asked
write_reply (call.Put key value seconds) m now can = refl
write_reply (call.Remove key) m now can = refl
write_reply call.Clear m now can = refl
write_reply (call.Get key) m now can = absurd can
write_reply call.Keys m now can = absurd can
write_reply call.Count m now can = absurd can
write_reply (call.Enable seconds) m now can = refl
write_reply call.Disable m now can = refl
write_reply call.Hold m now can = absurd can
write_reply call.Release m now can = absurd can
write_reply call.Sync m now can = absurd can

get_behind : (front behind : List Change) (i k : ℕ) → i ≡ length front + k → slice_get (front ++ behind) i ≡ slice_get behind k
get_behind [] behind i k e = ap (slice_get behind) (omega (arith, e))
get_behind (x ∷ front) behind zero k e = absurd (omega (arith, e))
get_behind (x ∷ front) behind (suc i) k e = get_behind front behind i k (omega (arith, e))

-- the call's own change is the last, and was made since it began
pub own_is_last : (who ended : ℕ) (next : Running) (past : List Event) (before made : List Change) → changes_of past ≡ before ++ made → next.begun ≤ length before →
    AreOfCall who next.call next.now made → CanWrite next.call → ended ≡ length (changes_of past) →
    (next.begun ≤ ended - 1) × (ended - 1 ≤ length (changes_of past)) × ChangeIs who next (ended - 1) past × (ended - 1 + 1 ≡ length (changes_of past))
own_is_last who ended next past before made are begun all can count =
    let deed = write_act next.call next.now can in
    let last = last_of who next.now deed.0 made (subst (λ o. AreOfAct who next.now o made) deed.1 all) in
    let long : length (changes_of past) ≡ length before + length made = ap length are ∙ length-append before made in (
      omega (arith, count, long, begun, last.1),
      omega (arith, count),
      subst (λ o. IfSome o (λ a. slice_get (changes_of past) (ended - 1) ≡ Some (record { maker = who; act = a }))) (sym deed.1)
          (ap (λ l. slice_get l (ended - 1)) are ∙ get_behind before made (ended - 1) last.0 (omega (arith, count, long, last.1)) ∙ last.2),
      omega (arith, count, long, last.1),
    )

-- no row is to come after the first of this plan, which leads to this map
pub record EndsWith (who : ℕ) (running : Running) (plan : Plan) (m : Map) : Type 0 where
  pub calm : (row : Row) → IsRowOf who running row plan → room_of row ≡ None
  pub leads : (start : Region) (past : List Event) → PlanLeads plan start past → Leads (making_of plan) m start past
  pub commits : commits_in plan ≡ commits_of (first_events plan)
  pub many : events_in plan ≡ length (first_events plan)
  pub sound : IsSoundPlan who running plan → IsSoundImage (image_after (making_of plan) m)

-- a row that stands alone makes room for none
alone_calm : (row : Row) → StandsAlone row → room_of row ≡ None
alone_calm (rows.Append a) is = absurd is
alone_calm (rows.Pack now need) is = absurd is
alone_calm rows.Clear is = refl
alone_calm (rows.Enable now seconds) is = refl
alone_calm (rows.Disable now) is = refl
alone_calm rows.Restore is = absurd is
alone_calm rows.Discard is = absurd is
alone_calm rows.Recover is = absurd is
alone_calm rows.SizeRepair is = absurd is

pub append_ends : (who : ℕ) (running : Running) (a : Making) (map : Map) → EndsWith who running (Append a map) map
append_ends who running a map = record { calm = λ row is. ap room_of is.1; leads = λ start past leads. leads; commits = refl; many = refl; sound = λ sound. sound.1 }

pub rewrite_ends : (who : ℕ) (running : Running) (r : Making) (map : Map) → EndsWith who running (Rewrite r None map) map
rewrite_ends who running r map = record { calm = alone_calm; leads = λ start past leads. leads; commits = refl; many = omega arith; sound = λ sound. sound.1 }

-- its last event is made
module _ (o : OpenerState) (running next : Running) (plan : Plan) (b : Making) (m : Map) (s t : ShareState) (tied : Tied (running_as o running (stage.Store plan)) s) (last : EndsWith o.who running plan m)
    (more : next ≡ with_stored (next_of (first_events plan)) running) (made : MakesFirst (first_events plan) b.events s t) (stands : b.standing ≡ (making_of plan).standing) (done : b.events ≡ [])
    (owing : (row : Row) → IsOwing row (first_events plan) s → IsOwing row b.events t) (ended : ℕ) (count : ended ≡ changes_told t.told) where
  abbrev first : What
  first = made.0

  abbrev after : After (stored first s) s t
  after = made.2.after

  abbrev mid : OpenerState
  mid = record o { image = Some (image_after b m) }

  abbrev how : End
  how = end.Answer (ended - 1) Done

  abbrev row : Row
  row = tied.owes.row

  lock : SameLock running next
  lock = stored_same (next_of (first_events plan)) running next more

  can_next : CanWrite next.call
  can_next = subst CanWrite (sym lock.same.call) tied.at.1

  only : first_events plan ≡ first ∷ []
  only = made.1 ∙ ap (λ l. first ∷ l) done

  over : OnTold t.told (λ k. RowOver t.who row first k.start k.past)
  over = row_over row first s t (subst (λ l. IsOwing row l s) only tied.owes.owing) after (subst (λ l. IsOwing row l t) done (owing row tied.owes.owing))

  at_end : (start : Region) (past : List Event) → IsRegion start → Lawful start (event_of s.who first ∷ past) → Facts (running_as o running (stage.Store plan)) start past →
      RowOver t.who row first start (event_of s.who first ∷ past) × (ended ≡ length (changes_of (event_of s.who first ∷ past))) → LeftWith None mid next how start (event_of s.who first ∷ past)
  at_end start past region lawful facts (e, counted) =
      let later = event_of s.who first ∷ past in
      let so_far : HasMadeSoFar o.who next (Append b m) later = made_on o.who running next lock.same b first plan (Append b m) past s.who (last.commits ∙ ap commits_of made.1) facts.work.1.1 in
      let all : AreOfCall o.who next.call next.now so_far.made = subst (AreOfCall o.who next.call next.now) (ap (λ l. so_far.made ++ commits_of l) done ∙ append-nil so_far.made) so_far.all in
      let own = own_is_last o.who ended next later so_far.before so_far.made so_far.are so_far.begun all can_next counted in
      record {
        begun = omega (arith, lock.same.begun, facts.work.0, more_changes (event_of s.who first ∷ []) past);
        image = row_ended start past s.who first region lawful e.1 (room_of row) e.0 b m done (lead_next (making_of plan) b m start past s.who first made.1 stands (last.leads start past facts.work.1.0));
        end_is = (own.0, own.1, (λ ok apart. write_reply next.call _ next.now can_next), own.2);
        ends = subst (λ w. IsLastPlace w (ended - 1) (length (changes_of later)) × KeepsWords w (Some (image_after b m)) start later) (sym (is_written next.call can_next)) (
          own.3,
          λ ok apart.
              shown_matches (image_after b m) start later
              (row_is_shown start past s.who first region lawful e.1 (room_of row) e.0 b m done (lead_next (making_of plan) b m start past s.who first made.1 stands (last.leads start past facts.work.1.0)) ok apart),
        );
        rests = λ held apart. subst (λ room. Reaches start later (Between room)) (last.calm row tied.owes.row_is) (e.0 apart);
      }

  left : OnTold t.told (λ k. LeftWith None mid next how k.start k.past)
  left =
      told_call (running_as o running (stage.Store plan)) s t (stored first s) (λ start past. RowOver t.who row first start past × (ended ≡ length (changes_of past))) (LeftWith None mid next how) tied after
      (told_and t.told (λ k. RowOver t.who row first k.start k.past) (λ k. ended ≡ length (changes_of k.past)) _ (λ k p q. (p, q)) over (changes_are t.told ended count))
      (λ start past region lawful mine facts e. at_end start past region lawful facts e)

  -- the event took the last place that was reserved
  last_place : s.reserved s.who - 1 ≡ 0
  last_place = let places = tied.owes.places in omega (arith, places, last.many, ap length only)

  leaving : Leaving o mid running next s t
  leaving =
      record {
        left = stored first s;
        after = after;
        alive = refl;
        lock = refl;
        places = last_place;
        who = refl;
        holds = refl;
        sound = subst (λ z. IsSoundImage (record { standing = z; map = m })) (sym stands) (last.sound tied.at.2.1);
        taken = lock.taken;
        plain = write_plain next.call can_next;
      }

  -- the call is over, or gives up its lock
  pub writes : {result : Step} {new : OpenerState} → Written next (image_after b m) ended o result new → Steps o running (stage.Store plan) result new s t
  writes {result} {new} written =
      record {
        tied = leaves_tied o mid running next (stage.Store plan) s t tied leaving how ended result new tt left written;
        makes = inr (stored first s, after, lit≤ tt);
        adds = event_written o.who running next plan o result new s t ended first b.events (image_after b m) made.2 (more ∙ ap (λ l. with_stored (next_of l) running) made.1)
            (last.commits ∙ ap commits_of only ∙ append-nil (change_of first)) written;
        call = leaves_call o.who o.holds running next how ended mid result new lock.same (write_plain running.call tied.at.1) tt refl refl written;
        cause = leaves_cause (Runs running (stage.Store plan)) next how ended mid result new s t refl tt written;
        takes = takes_same (Runs running (stage.Store plan)) s t after.holds;
        acts = let stores : StoresFirst plan 0 s t = (b.events, made, omega (arith, last.many, ap length only)) in leaves_acts (stage.Store plan) o.image next how ended mid result new s t stores (λ a. stores) written;
        stores = leaves_stores (stage.Store plan) next how ended mid result new written;
        answer = leaves_answer None mid next t how ended result new count left written;
        place = leaves_place None mid next t how ended result new count left written;
        image = leaves_image (stage.Store plan) mid next o.image t how ended result new (λ looks. absurd cc) left written;
        counts = λ has. leaves_counted (stage.Store plan) next how ended mid result new (refl, omega (arith, has, stored_loads (next_of (first_events plan)) running next more)) written;
        falls = written_falls running next plan b.events s t made (image_after b m) ended o result new written;
      }
