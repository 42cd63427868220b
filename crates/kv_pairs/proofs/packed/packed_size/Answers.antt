use Rattle.std.proofs.Common.{◌+◌, [], ◌∷◌, length, map, refl, subst, sym, ap, ◌∙◌, arith, length-append}
use Rattle.std.proofs.lemmas.Iterator.Consumers.{YieldsList-from_rest, YieldsList-turn, YieldsList-end}
use Rattle.expiring_map.specs.Lent.{lent}
use Rattle.expiring_map.specs.Map.{value_until, pairs_of}
use Rattle.kv_pairs.proofs.Pairs.{items_of_pairs, more_bytes, lent_more, all_items, pair_count, IsShortPair, short_pair}
use Rattle.kv_pairs.proofs.packed.packed_size.Goals as goal

pub overflow_cast-pair : goal.overflow_cast-pair
overflow_cast-pair c =
    let all = YieldsList-from_rest {shows = lent} (pairs_of c.args.map.now) (c.into_iter-pair-iterator.ensures.into_iter_gives ∙ c.iter-pair-items.ensures.rest) in
    let turn = YieldsList-turn all c.loop-pair.yielded c.loop-pair.pair-iterator c.loop-pair.yielded_by c.next.result c.next.new.self c.in-Some.pair c.in-Some.is c.next.ensures.steps in
    let short = subst IsShortPair (sym turn.1) (short_pair c.args.map.now (length c.loop-pair.yielded) (lent c.in-Some.pair) c.requires turn.0) in
    omega (arith, short.0)

pub overflow_cast-pair-in-loop-pair : goal.overflow_cast-pair-in-loop-pair
overflow_cast-pair-in-loop-pair c =
    let all = YieldsList-from_rest {shows = lent} (pairs_of c.args.map.now) (c.into_iter-pair-iterator.ensures.into_iter_gives ∙ c.iter-pair-items.ensures.rest) in
    let turn = YieldsList-turn all c.loop-pair.yielded c.loop-pair.pair-iterator c.loop-pair.yielded_by c.next.result c.next.new.self c.in-Some.pair c.in-Some.is c.next.ensures.steps in
    let short = subst IsShortPair (sym turn.1) (short_pair c.args.map.now (length c.loop-pair.yielded) (lent c.in-Some.pair) c.requires turn.0) in
    omega (arith, short.1)

pub item_size-size-requires-clause-key : goal.item_size-size-requires-clause-key
item_size-size-requires-clause-key c =
    let all = YieldsList-from_rest {shows = lent} (pairs_of c.args.map.now) (c.into_iter-pair-iterator.ensures.into_iter_gives ∙ c.iter-pair-items.ensures.rest) in
    let turn = YieldsList-turn all c.loop-pair.yielded c.loop-pair.pair-iterator c.loop-pair.yielded_by c.next.result c.next.new.self c.in-Some.pair c.in-Some.is c.next.ensures.steps in
    let short = subst IsShortPair (sym turn.1) (short_pair c.args.map.now (length c.loop-pair.yielded) (lent c.in-Some.pair) c.requires turn.0) in
    short.0

pub item_size-size-requires-clause-value : goal.item_size-size-requires-clause-value
item_size-size-requires-clause-value c =
    let all = YieldsList-from_rest {shows = lent} (pairs_of c.args.map.now) (c.into_iter-pair-iterator.ensures.into_iter_gives ∙ c.iter-pair-items.ensures.rest) in
    let turn = YieldsList-turn all c.loop-pair.yielded c.loop-pair.pair-iterator c.loop-pair.yielded_by c.next.result c.next.new.self c.in-Some.pair c.in-Some.is c.next.ensures.steps in
    let short = subst IsShortPair (sym turn.1) (short_pair c.args.map.now (length c.loop-pair.yielded) (lent c.in-Some.pair) c.requires turn.0) in
    short.1

pub overflow_add-size : goal.overflow_add-size
overflow_add-size c =
    let all = YieldsList-from_rest {shows = lent} (pairs_of c.args.map.now) (c.into_iter-pair-iterator.ensures.into_iter_gives ∙ c.iter-pair-items.ensures.rest) in
    let turn = YieldsList-turn all c.loop-pair.yielded c.loop-pair.pair-iterator c.loop-pair.yielded_by c.next.result c.next.new.self c.in-Some.pair c.in-Some.is c.next.ensures.steps in
    let short = subst IsShortPair (sym turn.1) (short_pair c.args.map.now (length c.loop-pair.yielded) (lent c.in-Some.pair) c.requires turn.0) in
    omega (arith, short.0, short.1, turn.0, pair_count c.args.map.now, c.requires.few, c.loop-pair.invariant.small, c.item_size-size.ensures.most)

pub loop-pair-preserved : goal.loop-pair-preserved
loop-pair-preserved c =
    let all = YieldsList-from_rest {shows = lent} (pairs_of c.args.map.now) (c.into_iter-pair-iterator.ensures.into_iter_gives ∙ c.iter-pair-items.ensures.rest) in
    let turn = YieldsList-turn all c.loop-pair.yielded c.loop-pair.pair-iterator c.loop-pair.yielded_by c.next.result c.next.new.self c.in-Some.pair c.in-Some.is c.next.ensures.steps in
    let short = subst IsShortPair (sym turn.1) (short_pair c.args.map.now (length c.loop-pair.yielded) (lent c.in-Some.pair) c.requires turn.0) in
    let pair = c.in-Some.pair in
    let item = c.item_size-size.ensures.size pair.key.now (value_until pair.value.now pair.expiry) refl refl in
    let more = ap (λ pairs. length (items_of_pairs c.args.flag pairs)) (lent_more c.loop-pair.yielded pair) ∙ more_bytes c.args.flag (map lent c.loop-pair.yielded) (lent pair) in
    record {
      size = (λ i. c.loop-pair.invariant.size i + item i) ∙ sym more;
      small = omega (arith, short.0, short.1, length-append c.loop-pair.yielded (pair ∷ []), c.loop-pair.invariant.small, c.item_size-size.ensures.most);
    }

pub returns : goal.returns
returns c =
    let all = YieldsList-from_rest {shows = lent} (pairs_of c.args.map.now) (c.into_iter-pair-iterator.ensures.into_iter_gives ∙ c.iter-pair-items.ensures.rest) in
    let end = YieldsList-end all c.loop-pair.yielded c.loop-pair.pair-iterator c.loop-pair.yielded_by c.next.result c.next.new.self c.in-None.is c.next.ensures.steps in
    c.loop-pair.invariant.size ∙ ap (λ pairs. length (items_of_pairs c.args.flag pairs)) end.0 ∙ ap length (all_items c.args.flag c.args.map.now c.iter-pair-items.ensures.filled)
