-- What a step adds that makes an event of a row, and then goes on or leaves.
use Rattle.std.proofs.Common.{◌≡◌, ℕ, List, ◌∷◌, ◌++◌, sym, ◌∙◌, subst, ap, append_assoc}
use Rattle.std.specs.Prelude.{Some, ◌-◌}
use Rattle.change_log.specs.Settled.{AreOfCall}
use Rattle.change_log.specs.declared.call.Reply.TheVariants.{Done}
use Rattle.change_log.specs.declared.change.Change.{Change}
use Rattle.region_words.specs.Past.{change_of}
use Rattle.region_words.specs.Making.{next_of}
use Rattle.region_words.specs.Share.{ShareState, Goes, stored}
use Rattle.region_words.specs.declared.event.What.{What}
use Rattle.loader.specs.declared.loaded.Image.{Image}
use Rattle.opener.specs.State.{OpenerState}
use Rattle.opener.specs.Adds.{Adds}
use Rattle.opener.specs.Continues.{SameCall}
use Rattle.opener.specs.Counted.{with_stored}
use Rattle.opener.specs.Ends.{GoesOn, Written}
use Rattle.opener.specs.Writes.{commits_in}
use Rattle.opener.specs.declared.calls.Step.{Step}
use Rattle.opener.specs.declared.plan.Plan.{Plan}
use Rattle.opener.specs.declared.work.Running.{Running}
use Rattle.opener.specs.declared.work.End.TheVariants as end
use Rattle.opener.specs.declared.work.Stage.TheVariants.{Store}
use Rattle.opener.proofs.Adding.{event_more, going_made, going_counts, leaves_made, leaves_counts, same_made}
use Rattle.opener.proofs.Added.{adds_event}
use Rattle.opener.proofs.Same.{stored_same}
use Rattle.opener.proofs.Storing.{answers_stored, storing_on}

module _ (who : ℕ) (running next : Running) (plan : Plan) (mid : OpenerState) (result : Step) (new : OpenerState) (s t : ShareState) where
  -- of what a plan changes, the first event changes this
  more_made : (after : Plan) (first : What) (so_far : List Change) → SameCall running next → commits_in plan ≡ change_of first ++ commits_in after →
      AreOfCall who running.call running.now (so_far ++ commits_in plan) → AreOfCall who next.call next.now ((so_far ++ change_of first) ++ commits_in after)
  more_made after first so_far same is are =
      same_made who running next mid result new ((so_far ++ change_of first) ++ commits_in after) same
      (subst (AreOfCall who running.call running.now) (ap (λ l. so_far ++ l) is ∙ sym (append_assoc so_far (change_of first) (commits_in after))) are)

  pub event_goes : (first : What) (rest : List What) (after : Plan) → Goes (stored first s) s t → next ≡ with_stored (next_of (first ∷ rest)) running →
      commits_in plan ≡ change_of first ++ commits_in after → GoesOn next (Store after) mid result new → Adds who running (Store plan) result new.work s t
  event_goes first rest after goes more is on =
      adds_event who running (Store plan) result new.work s t first goes.after (λ so_far. storing_on next mid result new so_far after on)
      (λ so_far are.
      going_made who running next mid result new (Store after) (so_far ++ change_of first) on
      (more_made after first so_far (stored_same (next_of (first ∷ rest)) running next more).same is are))
      (going_counts who running next mid result new (Store after) 0 _ 0 on (event_more first rest running next more))

  -- the last event of a plan
  pub event_written : (ended : ℕ) (first : What) (rest : List What) (image : Image) → Goes (stored first s) s t →
      next ≡ with_stored (next_of (first ∷ rest)) running → commits_in plan ≡ change_of first → Written next image ended mid result new → Adds who running (Store plan) result new.work s t
  event_written ended first rest image goes more is written =
      adds_event who running (Store plan) result new.work s t first goes.after
      (λ so_far. answers_stored next (record mid { image = Some image }) result new so_far (ended - 1) ended Done written)
      (λ so_far are.
      leaves_made who running next (record mid { image = Some image }) result new (end.Answer (ended - 1) Done) ended (so_far ++ change_of first) (stored_same (next_of (first ∷ rest)) running next more).same
      written (subst (λ l. AreOfCall who running.call running.now (so_far ++ l)) is are))
      (leaves_counts who running next (record mid { image = Some image }) result new (end.Answer (ended - 1) Done) ended 0 _ 0 written (event_more first rest running next more))
