use Rattle.std.proofs.Common.{◌-◌, ◌^◌, ◌≤◌, arith}
use Rattle.kv_pairs.proofs.Spans.{one_more, some_span, in_seven}
use Rattle.kv_pairs.proofs.length.+read_number.Goals as goal

pub overflow_mul-result : goal.overflow_mul-result
overflow_mul-result t c =
    let small : 128 ^ (c.args.most - 1) ≤ 562949953421312 = in_seven (c.args.most - 1) (omega arith) in
    omega (arith, c.in_ok-number-in-Some-2.ensures.bound)

pub overflow_add-result : goal.overflow_add-result
overflow_add-result t c =
    let small : 128 ^ (c.args.most - 1) ≤ 562949953421312 = in_seven (c.args.most - 1) (omega arith) in
    omega (arith, c.in_ok-number-in-Some-2.ensures.bound)

pub returns-in-Some-clause-bound : goal.returns-in-Some-clause-bound
returns-in-Some-clause-bound t c = omega (arith, one_more c.args.most (omega arith), some_span (c.args.most - 1))

pub returns-in_ok-number-in-Some-2-clause-bound : goal.returns-in_ok-number-in-Some-2-clause-bound
returns-in_ok-number-in-Some-2-clause-bound t c =
    omega (arith, one_more c.args.most (omega arith), c.in_ok-number-in-Some-2.ensures.bound)
