use Rattle.std.proofs.Common.{sym, arith}
use Rattle.kv_pairs.proofs.Shortest.{one_group, two_groups, three_groups, four_groups, five_groups}
use Rattle.kv_pairs.proofs.length.length_size.Goals as goal

pub returns-in-0-to-127-clause-size : goal.returns-in-0-to-127-clause-size
returns-in-0-to-127-clause-size c = sym (one_group c.args.n (omega arith))

pub returns-in-128-to-16383-clause-size : goal.returns-in-128-to-16383-clause-size
returns-in-128-to-16383-clause-size c = sym (two_groups c.args.n (omega arith) (omega arith))

pub returns-in-16384-to-2097151-clause-size : goal.returns-in-16384-to-2097151-clause-size
returns-in-16384-to-2097151-clause-size c = sym (three_groups c.args.n (omega arith) (omega arith))

pub returns-in-2097152-to-268435455-clause-size : goal.returns-in-2097152-to-268435455-clause-size
returns-in-2097152-to-268435455-clause-size c = sym (four_groups c.args.n (omega arith) (omega arith))

pub returns-in_default-clause-size : goal.returns-in_default-clause-size
returns-in_default-clause-size c = sym (five_groups c.args.n (omega arith) (omega arith))
