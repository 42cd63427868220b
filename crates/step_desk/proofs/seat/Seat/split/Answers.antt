use Rattle.std.proofs.Common.{refl, sym, subst}
use Rattle.region_words.specs.Past.{NoneOf}
use Rattle.step_desk.specs.Numbers.{Among}
use Rattle.step_desk.specs.Steps.{M}
use Rattle.step_desk.specs.Passes.{PassState}
use Rattle.step_desk.proofs.seat.Seat.split.Goals as goal

pub split-hand-requires-clause-picked : goal.split-hand-requires-clause-picked
split-hand-requires-clause-picked c = refl

pub returns-clause-fresh : goal.returns-clause-fresh
returns-clause-fresh c =
    subst (λ (m : M). NoneOf c.args.who m.0.seen) (sym c.split-hand.ensures.handed)
    (c.split-hand.ensures.fresh c.args.who (subst (λ (k : PassState). Among c.args.who k.view.hands) (sym c.self.view_is) c.requires))
