use Rattle.opener.proofs.QuickReads.{answers}
use Rattle.opener.proofs.laws.kept_values_answer_after_a_look.Goals as goal

pub returns : goal.returns
returns c = answers
