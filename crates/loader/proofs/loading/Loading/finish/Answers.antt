use Rattle.std.proofs.Common.{subst, sym}
use Rattle.loader.specs.Inside.{load_of}
use Rattle.loader.specs.Loads.{IsLoadedWhole}
use Rattle.loader.proofs.Finished.{finished, sound_image}
use Rattle.loader.proofs.loading.Loading.finish.Goals as goal

pub returns-clause-whole : goal.returns-clause-whole
returns-clause-whole c =
    subst (λ bytes. IsLoadedWhole (record { shown = c.in-Found.found.shown; rec = c.record.result; header = c.header.result; image = c.in-Found.found.image; payload = bytes })) (sym c.of_vec.ensures)
    (finished (load_of c.self.inside) c.in-Found.found c.in-Found.found.shown c.record.result c.header.result c.self.invariant c.in-Found.is c.record.ensures c.header.ensures)

pub returns-clause-sound : goal.returns-clause-sound
returns-clause-sound c = sound_image _ (returns-clause-whole c)
