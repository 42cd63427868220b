use Rattle.std.proofs.Common.{sym, subst}
use Rattle.change_log.specs.declared.change.Act.TheVariants.{Remove}
use Rattle.appender.specs.Appends.{CanAppend}
use Rattle.maker_tests.proofs.AppendSample.{known, can_remove}
use Rattle.maker_tests.proofs.appends.a_removal_ends_with_a_length_of_0.Goals as goal

pub start_append-requires : goal.start_append-requires
start_append-requires g c =
    subst (λ key. CanAppend (record known { size = 8; tail = 0 }) (record { maker = 1; act = Remove key })) (sym c.in_ok-copy_of.ensures) can_remove
