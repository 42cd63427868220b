use Rattle.std.proofs.Common.{sym, subst}
use Rattle.write_back.specs.Rewrites.{CanWriteBack}
use Rattle.maker_tests.proofs.WriteBackSample.{known, change, can_pack}
use Rattle.maker_tests.proofs.write_backs.packing.Goals as goal

pub start_rewrite-requires : goal.start_rewrite-requires
start_rewrite-requires c = subst (λ m. CanWriteBack known m change 7) (sym c.new.ensures) can_pack
