use Rattle.std.proofs.Common.{◌++◌, length, subst, sym, ap, ◌∙◌}
use Rattle.std.proofs.lemmas.Iterator.Consumers.{YieldsList-from_rest, YieldsList-turn, YieldsList-end}
use Rattle.expiring_map.specs.Lent.{lent}
use Rattle.expiring_map.specs.Map.{pairs_of, HasContent}
use Rattle.kv_pairs.proofs.Pairs.{items_of_pairs, all_items, IsShortPair, short_pair}
use Rattle.kv_pairs.proofs.packed.write_map.Goals as goal

pub append_item-requires-clause-some : goal.append_item-requires-clause-some
append_item-requires-clause-some c =
    let all = YieldsList-from_rest {shows = lent} (pairs_of c.args.map.now) (c.into_iter-pair-iterator.ensures.into_iter_gives ∙ c.iter-pair-items.ensures.rest) in
    let turn = YieldsList-turn all c.loop-pair.yielded c.loop-pair.pair-iterator c.loop-pair.yielded_by c.next.result c.next.new.self c.in-Some.pair c.in-Some.is c.next.ensures.steps in
    let filled = subst HasContent (sym turn.1) (c.iter-pair-items.ensures.filled (length c.loop-pair.yielded) (lent c.in-Some.pair) turn.0) in
    filled.0

pub append_item-requires-clause-key : goal.append_item-requires-clause-key
append_item-requires-clause-key c =
    let all = YieldsList-from_rest {shows = lent} (pairs_of c.args.map.now) (c.into_iter-pair-iterator.ensures.into_iter_gives ∙ c.iter-pair-items.ensures.rest) in
    let turn = YieldsList-turn all c.loop-pair.yielded c.loop-pair.pair-iterator c.loop-pair.yielded_by c.next.result c.next.new.self c.in-Some.pair c.in-Some.is c.next.ensures.steps in
    let short = subst IsShortPair (sym turn.1) (short_pair c.args.map.now (length c.loop-pair.yielded) (lent c.in-Some.pair) c.requires turn.0) in
    short.0

pub append_item-requires-clause-value : goal.append_item-requires-clause-value
append_item-requires-clause-value c =
    let all = YieldsList-from_rest {shows = lent} (pairs_of c.args.map.now) (c.into_iter-pair-iterator.ensures.into_iter_gives ∙ c.iter-pair-items.ensures.rest) in
    let turn = YieldsList-turn all c.loop-pair.yielded c.loop-pair.pair-iterator c.loop-pair.yielded_by c.next.result c.next.new.self c.in-Some.pair c.in-Some.is c.next.ensures.steps in
    let short = subst IsShortPair (sym turn.1) (short_pair c.args.map.now (length c.loop-pair.yielded) (lent c.in-Some.pair) c.requires turn.0) in
    short.1

pub returns-clause-ok : goal.returns-clause-ok
returns-clause-ok c =
    let all = YieldsList-from_rest {shows = lent} (pairs_of c.args.map.now) (c.into_iter-pair-iterator.ensures.into_iter_gives ∙ c.iter-pair-items.ensures.rest) in
    let end = YieldsList-end all c.loop-pair.yielded c.loop-pair.pair-iterator c.loop-pair.yielded_by c.next.result c.next.new.self c.in-None.is c.next.ensures.steps in
    c.loop-pair.invariant ∙ ap (λ pairs. c.args.out.now.items ++ items_of_pairs c.args.flag pairs) end.0
    ∙ ap (λ z. c.args.out.now.items ++ z) (all_items c.args.flag c.args.map.now c.iter-pair-items.ensures.filled)
