use Rattle.std.proofs.Common.{[], arith, refl}
use Rattle.std.proofs.lemmas.List.{ext_get_or}
use Rattle.change_log.proofs.placed.are_same.Goals as goal

pub returns : goal.returns
returns c = (λ yes. ext_get_or [] c.args.keys.now c.args.others.now c.if-keys-others.false (λ k lt. c.loop-i.invariant k (omega arith)), λ e. refl)
