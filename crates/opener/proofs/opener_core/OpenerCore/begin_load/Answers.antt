use Rattle.std.proofs.Common.{sym, subst, ap, ◌∙◌}
use Rattle.opener.specs.Extents.{BeginsLoad}
use Rattle.opener.specs.State.{OpenerState}
use Rattle.opener.specs.declared.work.Stage.TheVariants.{Continue}
use Rattle.opener.specs.declared.work.Work.TheVariants.{Runs}
use Rattle.opener.proofs.opener_core.OpenerCore.begin_load.Goals as goal

pub returns-in-Some : goal.returns-in-Some
returns-in-Some c =
    subst (λ e. BeginsLoad e c.args.running c.args.self.now c.going.result c.going.new.self) (sym c.in-Partial.is) (
      c.in-Some.image,
      sym (ap (λ (o : OpenerState). o.image) c.self.view_is) ∙ sym c.take.ensures.value ∙ c.in-Some.is,
      (
        c.going.ensures.0,
        c.going.ensures.1 ∙ (λ j. record (c.self.view_is j) { image = c.take.ensures.after j; work = Runs c.args.running (Continue (c.new-loading.ensures.new j)) }),
      ),
    )
