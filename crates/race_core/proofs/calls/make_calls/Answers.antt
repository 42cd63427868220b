use Rattle.std.proofs.Common.{[], ◌∷◌, ◌++◌, ap, append_assoc, refl, sym, subst, ◌∙◌}
use Rattle.std.specs.Vec.Iter.{into_iter_items}
use Rattle.opener.specs.Settles.{AreSettled}
use Rattle.region_words.specs.Told.{OnTold}
use Rattle.script_lang.specs.Parts.{answers_in}
use Rattle.race_core.specs.Calls.{AreAllowed, AreOutcomes, IsOutcomeOf}
use Rattle.race_core.proofs.Allowed.{answers_more, one_outcome}
use Rattle.race_core.proofs.Making.{same_join, same_still, start_join, start_stays}
use Rattle.race_core.proofs.calls.make_calls.Goals as goal

pub loop-asked-init : goal.loop-asked-init
loop-asked-init g c =
    let s = g.S.Share.state c.args.share.now in
    let calls = c.into_iter-asked-iterator.ensures.into_iter_gives.0 in (
      c.requires.tied,
      same_still s,
      start_stays s.told,
      c.requires.idle,
      refl,
      subst (AreAllowed c.args.opener.now.core.holds) (sym calls) c.requires.allowed,
      ([], sym calls, c.requires.none),
      (λ settled. subst (λ l. OnTold s.told (AreSettled c.args.opener.now.core (answers_in l))) (sym c.requires.none) settled),
    )

pub make-requires-clause-may : goal.make-requires-clause-may
make-requires-clause-may g c = (subst (AreAllowed c.loop-asked.opener.core.holds) c.in-Some.ensures.steps.0 c.loop-asked.invariant.5).0

pub loop-asked-preserved : goal.loop-asked-preserved
loop-asked-preserved g c =
    let s = g.S.Share.state c.args.share.now in
    let t = g.S.Share.state c.make.new.share in
    let step = c.in-Some.ensures.steps.0 in
    let allowed = (subst (AreAllowed c.loop-asked.opener.core.holds) step c.loop-asked.invariant.5).1 in
    let made = c.loop-asked.invariant.6 in
    let noted = c.in_default.ensures.ok in (
      c.make.ensures.tied,
      same_join _ _ _ c.loop-asked.invariant.1 c.make.ensures.same,
      start_join _ _ _ c.loop-asked.invariant.2 c.make.ensures.start,
      c.in-Ok.ensures.idle,
      sym c.make.ensures.tied.who ∙ c.make.ensures.same.who ∙ c.loop-asked.invariant.0.who ∙ c.loop-asked.invariant.4,
      subst (λ h. AreAllowed h (into_iter_items c.next.new.self)) (sym c.in-Ok.ensures.holds) allowed,
      (
        made.0 ++ c.in-Some.asked ∷ [],
        made.1 ∙ ap (λ l. made.0 ++ l) step ∙ sym (append_assoc made.0 (c.in-Some.asked ∷ []) (into_iter_items c.next.new.self)),
        subst (AreOutcomes c.args.opener.now.core.who (made.0 ++ c.in-Some.asked ∷ [])) (sym noted)
            (one_outcome c.args.opener.now.core.who made.0 c.loop-asked.outcomes.items c.in-Some.asked c.in-Ok.outcome made.2
            (subst (λ w. IsOutcomeOf w c.in-Some.asked c.in-Ok.outcome) c.loop-asked.invariant.4 c.in-Ok.ensures.outcome)),
      ),
      (λ settled. subst (λ l. OnTold t.told (AreSettled c.make.new.opener.core l)) (sym (ap answers_in noted ∙ answers_more c.loop-asked.outcomes.items (c.in-Ok.outcome ∷ [])))
          (c.in-Ok.ensures.settled (answers_in c.loop-asked.outcomes.items) (c.loop-asked.invariant.7 settled))),
    )
