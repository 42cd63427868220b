use Rattle.std.proofs.Common.{sym, subst}
use Rattle.appender.specs.Appends.{CanAppend}
use Rattle.maker_tests.proofs.AppendSample.{known, can_append}
use Rattle.maker_tests.proofs.appends.started.Goals as goal

pub start_append-requires : goal.start_append-requires
start_append-requires c = subst (CanAppend known) (sym c.in_ok-put.ensures) can_append
