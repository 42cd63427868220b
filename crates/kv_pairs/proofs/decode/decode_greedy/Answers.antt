use Rattle.std.proofs.Common.{arith, subst, ap, sym, ◌∙◌}
use Rattle.kv_pairs.specs.Grammar.{IsGreedy}
use Rattle.kv_pairs.specs.Reading.{greedy_size}
use Rattle.kv_pairs.proofs.GoodItems.{Small-of}
use Rattle.kv_pairs.proofs.Longest.{greedy_is_longest}
use Rattle.kv_pairs.proofs.decode.decode_greedy.Goals as goal

pub returns-clause-greedy : goal.returns-clause-greedy
returns-clause-greedy c =
    subst (IsGreedy c.args.payload.now (greedy_size c.args.payload.now)) (ap (λ p. p.0) c.in_ok-read_front.ensures.read ∙ sym c.of_vec.ensures)
    (greedy_is_longest c.args.payload.now (Small-of c.args.payload.now (λ i. omega (arith, c.type_inv.payload i))))
