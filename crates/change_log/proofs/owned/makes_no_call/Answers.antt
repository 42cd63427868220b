use Rattle.change_log.specs.Acts.{is_of_call}
use Rattle.change_log.proofs.Each.{none_after}
use Rattle.change_log.proofs.owned.makes_no_call.Goals as goal

pub returns : goal.returns
returns c = none_after is_of_call c.args.changes.now c.args.maker c.args.from c.all_make_no_call.result c.all_make_no_call.ensures
