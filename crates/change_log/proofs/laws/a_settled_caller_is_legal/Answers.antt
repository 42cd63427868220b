use Rattle.change_log.proofs.Settled.{settled_is_legal, cut_is_legal}
use Rattle.change_log.proofs.laws.a_settled_caller_is_legal.Goals as goal

pub returns-clause-whole : goal.returns-clause-whole
returns-clause-whole c = settled_is_legal

pub returns-clause-cut : goal.returns-clause-cut
returns-clause-cut c = cut_is_legal
