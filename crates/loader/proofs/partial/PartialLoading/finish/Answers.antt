use Rattle.std.proofs.Common.{rules, sym, subst, ◌<◌}
use Rattle.std.specs.Prelude.{All}
use Rattle.region_words.specs.Past.{region_after}
use Rattle.loader.specs.PartialLoads.{IsSoundImage, ShowsImage, bytes_from}
use Rattle.loader.specs.PartialInside.{IsPartialLoad}
use Rattle.loader.proofs.PartFinished.{part_sound, part_shows}
use Rattle.loader.proofs.partial.PartialLoading.finish.Goals as goal

pub returns-clause-image : goal.returns-clause-image
returns-clause-image c = search rules

pub returns-clause-sound : goal.returns-clause-sound
returns-clause-sound c m kept e =
    let p = c.args.self in
    let good : IsPartialLoad p = subst IsPartialLoad c.self.view_is c.self.invariant in
    let small : All (λ b. b < 256) (bytes_from p) = subst (λ bytes. All (λ b. b < 256) bytes) c.payload.ensures.bytes c.standing.ensures.bytes in
    subst IsSoundImage (sym (returns-clause-image c)) (part_sound p m good small kept e)

pub returns-clause-shows : goal.returns-clause-shows
returns-clause-shows c m start past run was e has =
    subst (λ i. ShowsImage i (region_after start past)) (sym (returns-clause-image c)) (part_shows c.args.self m start past run was e has)
