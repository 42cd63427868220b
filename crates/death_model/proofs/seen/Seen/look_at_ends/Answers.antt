use Rattle.std.proofs.Common.{arith}
use Rattle.death_model.specs.FilesInside.{region_in}
use Rattle.death_model.proofs.Ends.{all_below, none_below, one_more_below, stops_at}
use Rattle.death_model.proofs.seen.Seen.look_at_ends.Goals as goal

pub loop-size-init : goal.loop-size-init
loop-size-init c = none_below (region_in c.args.files.now) c.args.checksum c.args.end c.requires.least c.args.self.now

pub returns-then-not-branch : goal.returns-then-not-branch
returns-then-not-branch c =
    stops_at (region_in c.args.files.now) c.args.checksum c.args.end c.requires.least c.args.self.now c.loop-size.size c.loop-size.self c.look_where.new.self c.in_ok-look_where.field-0 c.if-not-branch.true
    c.loop-size-test.true c.loop-size.invariant c.in_ok-look_where.ensures

pub loop-size-preserved : goal.loop-size-preserved
loop-size-preserved c =
    one_more_below (region_in c.args.files.now) c.args.checksum c.args.end c.requires.least c.args.self.now c.loop-size.size c.loop-size.self c.look_where.new.self c.in_ok-look_where.field-0 c.if-not-branch.false
    c.loop-size.invariant c.in_ok-look_where.ensures

pub returns : goal.returns
returns c =
    all_below (region_in c.args.files.now) c.args.checksum c.args.end c.requires.least c.args.self.now c.loop-size.self c.loop-size.size (omega (arith, c.loop-size.auto.size-end, c.loop-size-test.false, c.requires.least))
    c.loop-size.invariant
