use Rattle.wire_values.proofs.SmallNumbers.{no_small}
use Rattle.wire_values.proofs.words.i32_in.Goals as goal

pub returns-clause-none : goal.returns-clause-none
returns-clause-none c =
    let found = c.in_ok-i64_in.ensures.some in
    no_small c.try_from.result c.ok.result c.in_ok-i64_in.field-0 c.args.word.now c.try_from.ensures c.ok.ensures.value found.0 found.1
