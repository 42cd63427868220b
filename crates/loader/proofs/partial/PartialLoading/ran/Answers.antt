use Rattle.std.proofs.Common.{◌∙◌, sym}
use Rattle.loader.proofs.GoingOn.{full_load_fails}
use Rattle.loader.proofs.partial.PartialLoading.ran.Goals as goal

pub returns-in-FullLoad-clause-fails : goal.returns-in-FullLoad-clause-fails
returns-in-FullLoad-clause-fails c fails r region has on = full_load_fails c.args.self.now r (sym c.need.ensures ∙ c.in-FullLoad.is) has on
