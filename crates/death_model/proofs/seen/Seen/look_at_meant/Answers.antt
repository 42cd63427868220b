use Rattle.std.proofs.Common.{[], subst}
use Rattle.std.specs.Prelude.{IfOk}
use Rattle.death_model.specs.FilesInside.{region_in}
use Rattle.death_model.specs.SeenInside.{Tells}
use Rattle.death_model.proofs.Ends.{meant_ends}
use Rattle.death_model.proofs.seen.Seen.look_at_meant.Goals as goal

pub returns-in-Some-Some : goal.returns-in-Some-Some
returns-in-Some-Some c =
    subst (λ ps. IfOk c.look_at_ends.result (Tells [] c.args.self.now c.look_at_ends.new.self ps))
    (meant_ends (region_in c.args.files.now) c.args.last c.args.checksum c.in-Some-Some.word c.in-Some-Some.checksum c.in-Some-Some.is-0 c.in-Some-Some.is-1 c.if-word-gt0.true) c.look_at_ends.ensures
