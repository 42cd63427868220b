use Rattle.std.proofs.Common.{refl}
use Rattle.death_model.proofs.Runs.{begins}
use Rattle.std.specs.Prelude.{None}
use Rattle.death_model.proofs.run.Run.start.Goals as goal

pub returns-clause-begins : goal.returns-clause-begins
returns-clause-begins c =
    begins (record { files = c.args.files; last_word = None; seen = c.look_at_all.new.self }) c.new-seen.result c.in_ok-apart.apart refl c.new-seen.ensures c.in_ok-apart.ensures
