use Rattle.std.proofs.Common.{◌<◌, arith, inr, ◌∙◌}
use Rattle.script_lang.proofs.Writing.{within_rest, wrote_more}
use Rattle.script_lang.proofs.output.write_all.Goals as goal

pub loop-written-preserved : goal.loop-written-preserved
loop-written-preserved g c =
    let told = c.loop-written.invariant in
    let some : 0 < c.in-Ok.n = omega arith in (
      within_rest c.args.text.now c.loop-written.written c.in-Ok.n told.0 c.in-Ok.ensures.within,
      wrote_more _ _ _ c.args.text.now c.loop-written.written c.in-Ok.n told.1 c.in-Ok.ensures.ok,
      c.in-Ok.ensures.counts.1 (inr some) ∙ told.2,
    )
