use Rattle.std.proofs.Common.{◌-◌, ◌^◌, ◌≤◌, arith}
use Rattle.kv_pairs.proofs.Spans.{one_more, some_span}
use Rattle.wire_values.proofs.Groups.{in_nine}
use Rattle.wire_values.proofs.number.+read_groups.Goals as goal

pub overflow_mul-result : goal.overflow_mul-result
overflow_mul-result t c =
    let small : 128 ^ (c.args.most - 1) ≤ 9223372036854775808 = in_nine (c.args.most - 1) (omega arith) in
    omega (arith, c.in_ok-read_groups-in-Some.ensures.bound)

pub overflow_add-result : goal.overflow_add-result
overflow_add-result t c =
    let small : 128 ^ (c.args.most - 1) ≤ 9223372036854775808 = in_nine (c.args.most - 1) (omega arith) in
    omega (arith, c.in_ok-read_groups-in-Some.ensures.bound)

pub returns-in-Some-default-empty-clause-bound : goal.returns-in-Some-default-empty-clause-bound
returns-in-Some-default-empty-clause-bound t c = omega (arith, one_more c.args.most (omega arith), some_span (c.args.most - 1))

pub returns-in_ok-read_groups-in-Some-clause-bound : goal.returns-in_ok-read_groups-in-Some-clause-bound
returns-in_ok-read_groups-in-Some-clause-bound t c =
    omega (arith, one_more c.args.most (omega arith), c.in_ok-read_groups-in-Some.ensures.bound)
