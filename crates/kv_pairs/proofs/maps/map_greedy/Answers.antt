use Rattle.std.proofs.Common.{◌≢◌, [], length, subst, sym, ap, ◌∙◌}
use Rattle.std.proofs.lemmas.Iterator.Adapters.{YieldsList-from_vec}
use Rattle.std.proofs.lemmas.Iterator.Consumers.{YieldsList-turn}
use Rattle.kv_pairs.proofs.Turns.{key_at}
use Rattle.kv_pairs.proofs.maps.map_greedy.Goals as goal

pub take_in-requires-clause-key : goal.take_in-requires-clause-key
take_in-requires-clause-key c =
    let gives = c.into_iter-item-iterator.ensures.into_iter_gives in
    let items = c.into_vec-item-items in
    let all = YieldsList-from_vec {s = c.into_iter-item-iterator.result} c.args.items (gives.0 ∙ items.ensures) (gives.1 ∙ items.result.ok.0 ∙ ap length items.ensures) in
    let turn = YieldsList-turn all c.loop-item.yielded c.loop-item.item-iterator c.loop-item.yielded_by c.next.result c.next.new.self c.in-Some.item c.in-Some.is c.next.ensures.steps in
    subst (λ item. item.key ≢ []) (sym turn.1) (key_at _ _ _ c.requires turn.0)
