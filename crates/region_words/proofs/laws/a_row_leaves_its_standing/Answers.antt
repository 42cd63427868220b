use Rattle.region_words.proofs.LeftStanding.{append_leaves}
use Rattle.region_words.proofs.Rewritten.{write_back_leaves, switch_leaves, recover_leaves}
use Rattle.region_words.proofs.RepairsLeft.{last_stands, restore_leaves, discard_leaves, size_repair_leaves}
use Rattle.region_words.proofs.laws.a_row_leaves_its_standing.Goals as goal

pub returns-clause-append : goal.returns-clause-append
returns-clause-append c = λ r m who n a is whole room may. append_leaves r m who n a is whole room may

pub returns-clause-write_back : goal.returns-clause-write_back
returns-clause-write_back c = λ r m room who row is w may bytes. write_back_leaves r m room who row is w may bytes

pub returns-clause-switch : goal.returns-clause-switch
returns-clause-switch c = λ r m room who row is ok w may bytes. switch_leaves r m room who row is ok w may bytes

pub returns-clause-recover : goal.returns-clause-recover
returns-clause-recover c = λ r m room who is may. recover_leaves r m room who is may

pub returns-clause-last : goal.returns-clause-last
returns-clause-last c = λ r n last. last_stands r n last

pub returns-clause-restore : goal.returns-clause-restore
returns-clause-restore c = λ r m room who is may. restore_leaves r m room who is may

pub returns-clause-discard : goal.returns-clause-discard
returns-clause-discard c = λ r m room who is may. discard_leaves r m room who is may

pub returns-clause-size_repair : goal.returns-clause-size_repair
returns-clause-size_repair c = λ r m room who is may. size_repair_leaves r m room who is may
