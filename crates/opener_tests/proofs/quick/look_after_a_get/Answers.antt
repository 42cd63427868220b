use Rattle.std.proofs.Common.{sym, subst}
use Rattle.opener.specs.Opener.{Tied}
use Rattle.opener_tests.proofs.quick.look_after_a_get.Goals as goal

pub finds-look-requires : goal.finds-look-requires
finds-look-requires c = subst (Tied c.ask.new.opener.core) (sym c.change.ensures) c.ask.ensures
