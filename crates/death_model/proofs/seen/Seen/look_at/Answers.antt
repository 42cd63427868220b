use Rattle.std.proofs.Common.{◌≡◌, [], ◌∷◌, ap, sym, ◌∙◌, subst}
use Rattle.std.specs.Result.{IfOk}
use Rattle.death_model.specs.FilesInside.{region_in, payload_at}
use Rattle.death_model.specs.SeenInside.{Tells}
use Rattle.death_model.proofs.Payloads.{at_fits}
use Rattle.death_model.proofs.seen.Seen.look_at.Goals as goal

pub returns-in-Some : goal.returns-in-Some
returns-in-Some c =
    let there : c.in-Some.payload.now ∷ [] ≡ payload_at (region_in c.args.files.now) c.args.size =
    ap (λ p. p ∷ []) c.in-Some.ensures.1 ∙ sym (at_fits (region_in c.args.files.now) c.args.size c.in-Some.ensures.0) in
    subst (λ ps. IfOk c.look.result (Tells [] c.args.self.now c.look.new.self ps)) there c.look.ensures
