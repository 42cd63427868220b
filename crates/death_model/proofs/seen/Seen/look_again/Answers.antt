use Rattle.std.proofs.Common.{◌≡◌, false, sym, subst}
use Rattle.region_words.specs.Region.{Region}
use Rattle.region_words.specs.Apart.{recorded_payloads}
use Rattle.death_model.specs.FilesInside.{IsStepTo, payload_at, region_in, sizes_of}
use Rattle.death_model.specs.SeenInside.{Tells}
use Rattle.death_model.proofs.Looks.{comes_third, if_ok, stops_first, stops_second, three_are}
use Rattle.death_model.proofs.seen.Seen.look_again.Goals as goal

pub returns-then-not-branch : goal.returns-then-not-branch
returns-then-not-branch c = λ r step is.
    let z = c.args.before in
    subst (λ ks. Tells ks c.args.self.now c.look_at_changed.new.self (recorded_payloads (region_in c.args.files.now)) false) (three_are r z (sym is))
    (stops_first (region_in c.args.files.now) c.sizes-sizes.result c.sizes-sizes.ensures (payload_at r z.header) (payload_at r z.size) (payload_at r z.last_size)
    c.args.self.now c.look_at_changed.new.self c.in_ok-look_at_changed.field-0 c.if-not-branch.true (c.in_ok-look_at_changed.ensures r step))

pub returns-then-not-branch-2 : goal.returns-then-not-branch-2
returns-then-not-branch-2 c = λ r step is.
    let z = c.args.before in
    subst (λ ks. Tells ks c.args.self.now c.look_at_changed-2.new.self (recorded_payloads (region_in c.args.files.now)) false) (three_are r z (sym is))
    (stops_second (region_in c.args.files.now) c.sizes-sizes.result c.sizes-sizes.ensures (payload_at r z.header) (payload_at r z.size) (payload_at r z.last_size)
    c.args.self.now c.look_at_changed.new.self c.look_at_changed-2.new.self c.in_ok-look_at_changed.field-0 c.in_ok-look_at_changed-2.field-0
    c.if-not-branch.false c.if-not-branch-2.true (c.in_ok-look_at_changed.ensures r step) (c.in_ok-look_at_changed-2.ensures r step))

pub returns : goal.returns
returns c =
    let now = region_in c.args.files.now in
    let z = c.args.before in
    if_ok (λ b. (r : Region) → IsStepTo r c.args.what.now now → Tells (payload_at r z.last_size) c.look_at_changed-2.new.self c.look_at_changed-3.new.self (payload_at now c.sizes-sizes.result.last_size) b)
    (λ b. (r : Region) → IsStepTo r c.args.what.now now → sizes_of r ≡ z → Tells (recorded_payloads r) c.args.self.now c.look_at_changed-3.new.self (recorded_payloads now) b) c.look_at_changed-3.result
    (λ b t r step is.
    subst (λ ks. Tells ks c.args.self.now c.look_at_changed-3.new.self (recorded_payloads now) b) (three_are r z (sym is))
    (comes_third now c.sizes-sizes.result c.sizes-sizes.ensures (payload_at r z.header) (payload_at r z.size) (payload_at r z.last_size)
    c.args.self.now c.look_at_changed.new.self c.look_at_changed-2.new.self c.look_at_changed-3.new.self c.in_ok-look_at_changed.field-0 c.in_ok-look_at_changed-2.field-0 b
    c.if-not-branch.false c.if-not-branch-2.false (c.in_ok-look_at_changed.ensures r step) (c.in_ok-look_at_changed-2.ensures r step) (t r step))) c.look_at_changed-3.ensures
