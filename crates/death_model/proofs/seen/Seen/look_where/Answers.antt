use Rattle.std.proofs.Common.{◌≡◌, [], ◌∷◌, ap, sym, ◌∙◌, subst}
use Rattle.std.specs.Result.{IfOk}
use Rattle.crc_words.specs.Crc.{crc}
use Rattle.death_model.specs.FilesInside.{region_in}
use Rattle.death_model.specs.SeenInside.{Tells, summed}
use Rattle.death_model.proofs.Payloads.{summed_one}
use Rattle.death_model.proofs.seen.Seen.look_where.Goals as goal

pub returns-in-Some : goal.returns-in-Some
returns-in-Some c =
    let sum = ap crc (sym c.in-Some.ensures.1) ∙ sym c.crc32.ensures ∙ c.if-crc32-checksum.true in
    let there : c.in-Some.payload.now ∷ [] ≡ summed (region_in c.args.files.now) c.args.checksum (c.args.size ∷ []) =
    ap (λ p. p ∷ []) c.in-Some.ensures.1 ∙ sym (summed_one (region_in c.args.files.now) c.args.checksum c.args.size c.in-Some.ensures.0 sum) in
    subst (λ ps. IfOk c.look.result (Tells [] c.args.self.now c.look.new.self ps)) there c.look.ensures
