use Rattle.opener.proofs.Settles.{first_settles, others_settle, settled_legal}
use Rattle.opener.proofs.laws.an_opener_that_is_settled_is_legal.Goals as goal

pub returns-clause-first : goal.returns-clause-first
returns-clause-first c = first_settles

pub returns-clause-others : goal.returns-clause-others
returns-clause-others c = others_settle

pub returns-clause-legal : goal.returns-clause-legal
returns-clause-legal c = settled_legal
