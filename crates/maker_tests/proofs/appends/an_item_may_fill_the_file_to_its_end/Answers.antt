use Rattle.std.proofs.Common.{sym, subst}
use Rattle.appender.specs.Appends.{CanAppend}
use Rattle.maker_tests.proofs.AppendSample.{known, can_fill}
use Rattle.maker_tests.proofs.appends.an_item_may_fill_the_file_to_its_end.Goals as goal

pub start_append-requires : goal.start_append-requires
start_append-requires g c = subst (CanAppend (record known { size = 4008; tail = 0 })) (sym c.in_ok-put.ensures) can_fill
