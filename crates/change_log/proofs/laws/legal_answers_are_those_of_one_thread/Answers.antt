use Rattle.change_log.proofs.Threaded.{as_one_thread}
use Rattle.change_log.proofs.laws.legal_answers_are_those_of_one_thread.Goals as goal

pub returns : goal.returns
returns c = as_one_thread
