use Rattle.std.proofs.Common.{sym, subst}
use Rattle.opener.specs.Opener.{Tied}
use Rattle.opener_tests.proofs.quick.core_look_after_a_get.Goals as goal

pub core_finds-look-requires : goal.core_finds-look-requires
core_finds-look-requires c = subst (Tied c.ask_core.new.core) (sym c.change.ensures) c.ask_core.ensures
