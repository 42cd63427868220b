use Rattle.change_log.proofs.Together.{Legal-from_each, each_of_some_is_legal}
use Rattle.change_log.proofs.laws.legal_callers_are_one_history.Goals as goal

pub returns-clause-each : goal.returns-clause-each
returns-clause-each c = Legal-from_each

pub returns-clause-some : goal.returns-clause-some
returns-clause-some c = each_of_some_is_legal
