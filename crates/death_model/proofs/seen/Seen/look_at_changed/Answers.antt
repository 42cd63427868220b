use Rattle.std.proofs.Common.{◌≡◌, ap, sym, ◌∙◌, subst, [], true}
use Rattle.region_words.specs.Region.{Region}
use Rattle.death_model.specs.FilesInside.{region_in, payload_at, IsStepTo}
use Rattle.death_model.specs.SeenInside.{Tells}
use Rattle.death_model.proofs.Looks.{tells_known, tells_anyway, if_ok}
use Rattle.death_model.proofs.Payloads.{left_alone}
use Rattle.death_model.proofs.seen.Seen.look_at_changed.Goals as goal

pub returns-then-not-touches : goal.returns-then-not-touches
returns-then-not-touches c = λ r step.
    let now = region_in c.args.files.now in
    let same : payload_at r c.args.before ≡ payload_at now c.args.size =
    ap (payload_at r) (sym c.if-size-before.true) ∙ sym (left_alone r now c.args.what.now c.args.size step (sym c.touches.ensures ∙ c.if-not-touches.true)) in
    subst (λ ps. Tells (payload_at r c.args.before) c.args.self.now c.args.self.now ps true) same (tells_known (payload_at r c.args.before) c.args.self.now)

pub returns : goal.returns
returns c =
    let now = payload_at (region_in c.args.files.now) c.args.size in
    if_ok (Tells [] c.args.self.now c.look_at.new.self now)
    (λ b. (r : Region) → IsStepTo r c.args.what.now (region_in c.args.files.now) → Tells (payload_at r c.args.before) c.args.self.now c.look_at.new.self now b) c.look_at.result
    (λ b t r s. tells_anyway (payload_at r c.args.before) c.args.self.now c.look_at.new.self now b t) c.look_at.ensures
