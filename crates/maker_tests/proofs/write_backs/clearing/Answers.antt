use Rattle.std.proofs.Common.{sym, subst}
use Rattle.change_log.specs.declared.change.Act.TheVariants.{Clear}
use Rattle.change_log.specs.declared.change.Change.{Change}
use Rattle.write_back.specs.Rewrites.{CanWriteBack}
use Rattle.maker_tests.proofs.WriteBackSample.{can_write}
use Rattle.maker_tests.proofs.write_backs.clearing.Goals as goal

abbrev clear : Change
clear = record { maker = 1; act = Clear }

pub start_rewrite-requires : goal.start_rewrite-requires
start_rewrite-requires c =
    subst (λ m. CanWriteBack c.args.standing.now m clear c.args.need) (sym c.new.ensures)
    (can_write c.args.standing.now clear c.args.need tt c.requires.file c.requires.need)
