use Rattle.std.proofs.Common.{[]}
use Rattle.region_words.specs.Apart.{recorded_payloads}
use Rattle.death_model.specs.FilesInside.{region_in, payload_at}
use Rattle.death_model.specs.SeenInside.{Tells}
use Rattle.death_model.proofs.Looks.{comes_third, if_ok, stops_first, stops_second}
use Rattle.death_model.proofs.seen.Seen.look_at_all.Goals as goal

pub returns-then-not-branch : goal.returns-then-not-branch
returns-then-not-branch c =
    stops_first (region_in c.args.files.now) c.sizes-sizes.result c.sizes-sizes.ensures [] [] [] c.args.self.now c.look_at.new.self c.in_ok-look_at.field-0 c.if-not-branch.true c.in_ok-look_at.ensures

pub returns-then-not-branch-2 : goal.returns-then-not-branch-2
returns-then-not-branch-2 c =
    stops_second (region_in c.args.files.now) c.sizes-sizes.result c.sizes-sizes.ensures [] [] [] c.args.self.now c.look_at.new.self c.look_at-2.new.self c.in_ok-look_at.field-0 c.in_ok-look_at-2.field-0
    c.if-not-branch.false c.if-not-branch-2.true c.in_ok-look_at.ensures c.in_ok-look_at-2.ensures

pub returns : goal.returns
returns c =
    let now = region_in c.args.files.now in
    if_ok (Tells [] c.look_at-2.new.self c.look_at-3.new.self (payload_at now c.sizes-sizes.result.last_size)) (Tells [] c.args.self.now c.look_at-3.new.self (recorded_payloads now)) c.look_at-3.result
    (λ b t. comes_third now c.sizes-sizes.result c.sizes-sizes.ensures [] [] [] c.args.self.now c.look_at.new.self c.look_at-2.new.self c.look_at-3.new.self c.in_ok-look_at.field-0 c.in_ok-look_at-2.field-0 b
    c.if-not-branch.false c.if-not-branch-2.false c.in_ok-look_at.ensures c.in_ok-look_at-2.ensures t) c.look_at-3.ensures
