use Rattle.change_log.proofs.Settled.{settled_first, stays_settled, settled_by_a_read, settled_by_a_write}
use Rattle.change_log.proofs.laws.a_caller_is_settled_after_each_answer.Goals as goal

pub returns-clause-first : goal.returns-clause-first
returns-clause-first c = settled_first

pub returns-clause-others : goal.returns-clause-others
returns-clause-others c = stays_settled

pub returns-clause-read : goal.returns-clause-read
returns-clause-read c = settled_by_a_read

pub returns-clause-write : goal.returns-clause-write
returns-clause-write c = settled_by_a_write
