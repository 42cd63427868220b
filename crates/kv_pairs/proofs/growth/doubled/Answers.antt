use Rattle.std.proofs.Common.{◌≡◌, refl, ◌*◌, sym, ap, ◌∙◌, arith}
use Rattle.kv_pairs.specs.Growth.{grown_to}
use Rattle.kv_pairs.proofs.Doubling.{at_least, double_on, double_ends, double_stops}
use Rattle.kv_pairs.proofs.growth.doubled.Goals as goal

pub loop-size-init : goal.loop-size-init
loop-size-init c = record { least = at_least c.args.file c.requires; most = c.requires.most; same = refl }

pub loop-size-preserved : goal.loop-size-preserved
loop-size-preserved c =
    let i = c.loop-size.invariant in
    let twice : 2 * c.loop-size.size ≡ c.loop-size.size * 2 = omega arith in
    record {
      least = omega (arith, i.least);
      most = omega arith;
      same = i.same ∙ double_on c.args.wanted c.loop-size.size i.least (omega arith) (omega arith) ∙ ap (grown_to c.args.wanted) twice;
    }

pub returns-then-size-gt-LARGEST_FILE-clause-value : goal.returns-then-size-gt-LARGEST_FILE-clause-value
returns-then-size-gt-LARGEST_FILE-clause-value c =
    sym (c.loop-size.invariant.same ∙ double_stops c.args.wanted c.loop-size.size (omega arith) (omega arith))

pub returns-clause-value : goal.returns-clause-value
returns-clause-value c = sym (c.loop-size.invariant.same ∙ double_ends c.args.wanted c.loop-size.size (omega arith))
