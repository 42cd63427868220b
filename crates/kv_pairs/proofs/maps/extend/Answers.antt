use Rattle.std.proofs.Common.{◌≡◌, ◌≢◌, true, false, [], length, subst, sym, ap, ◌∙◌}
use Rattle.std.specs.List.{list_all}
use Rattle.std.proofs.lemmas.Iterator.Adapters.{YieldsList-from_vec}
use Rattle.std.proofs.lemmas.Iterator.Consumers.{YieldsList-at, YieldsList-from_enumerate}
use Rattle.std.proofs.lemmas.Result.{err_from_is_err_and}
use Rattle.kv_pairs.specs.Mapped.{with_items, has_room_for_expiry}
use Rattle.kv_pairs.proofs.Turns.{key_at, at_place, at_end, first_is, none_refused, no_map}
use Rattle.kv_pairs.proofs.maps.extend.Goals as goal

pub take_in-requires-clause-key : goal.take_in-requires-clause-key
take_in-requires-clause-key c =
    let vec = YieldsList-from_vec {s = c.into_iter.result} c.args.items (c.into_iter.ensures.rest ∙ c.into_vec.ensures) (c.into_iter.ensures.len ∙ c.into_vec.result.ok.0 ∙ ap length c.into_vec.ensures) in
    let all = YieldsList-at c.into_iter-place-iterator.ensures.into_iter_gives (YieldsList-from_enumerate (YieldsList-at c.enumerate-place-items.ensures.source vec) c.enumerate-place-items.ensures.count) in
    let place = at_place c.args.items all c.loop-place.yielded c.loop-place.place-iterator c.loop-place.yielded_by c.next.result c.next.new.self (c.in-Some.place, c.in-Some.item) c.in-Some.is c.next.ensures.steps in
    subst (λ item. item.key ≢ []) (sym place.item_is) (key_at _ _ _ c.requires place.within)

pub returns-then-not-has_room : goal.returns-then-not-has_room
returns-then-not-has_room c =
    let vec = YieldsList-from_vec {s = c.into_iter.result} c.args.items (c.into_iter.ensures.rest ∙ c.into_vec.ensures) (c.into_iter.ensures.len ∙ c.into_vec.result.ok.0 ∙ ap length c.into_vec.ensures) in
    let all = YieldsList-at c.into_iter-place-iterator.ensures.into_iter_gives (YieldsList-from_enumerate (YieldsList-at c.enumerate-place-items.ensures.source vec) c.enumerate-place-items.ensures.count) in
    let place = at_place c.args.items all c.loop-place.yielded c.loop-place.place-iterator c.loop-place.yielded_by c.next.result c.next.new.self (c.in-Some.place, c.in-Some.item) c.in-Some.is c.next.ensures.steps in
    let room = subst (λ items. list_all (has_room_for_expiry c.args.flag) items ≡ true) place.front c.loop-place.invariant.room in
    let refused : has_room_for_expiry c.args.flag c.in-Some.item ≡ false =
    ap (λ v. has_room_for_expiry c.args.flag (record { key = []; value = v })) (sym c.as_slice.ensures) ∙ sym c.has_room.ensures ∙ c.if-not-has_room.true in
    let first = first_is c.args.flag c.args.items c.in-Some.place c.in-Some.item place.within room (sym (ap (has_room_for_expiry c.args.flag) place.item_is) ∙ refused) in
    let before = c.loop-place.invariant.so_far ∙ ap (with_items c.args.flag c.args.map.now) place.front in
    record { ok = tt; all = tt; none = no_map c.args.flag c.args.items c.in-Some.place first; at = first; before = before; memory = (c.in-Some.place, before) }

pub returns-in_err-take_in-clause-memory : goal.returns-in_err-take_in-clause-memory
returns-in_err-take_in-clause-memory c =
    let vec = YieldsList-from_vec {s = c.into_iter.result} c.args.items (c.into_iter.ensures.rest ∙ c.into_vec.ensures) (c.into_iter.ensures.len ∙ c.into_vec.result.ok.0 ∙ ap length c.into_vec.ensures) in
    let all = YieldsList-at c.into_iter-place-iterator.ensures.into_iter_gives (YieldsList-from_enumerate (YieldsList-at c.enumerate-place-items.ensures.source vec) c.enumerate-place-items.ensures.count) in
    let place = at_place c.args.items all c.loop-place.yielded c.loop-place.place-iterator c.loop-place.yielded_by c.next.result c.next.new.self (c.in-Some.place, c.in-Some.item) c.in-Some.is c.next.ensures.steps in
    let before = c.loop-place.invariant.so_far ∙ ap (with_items c.args.flag c.args.map.now) place.front in
    let p = err_from_is_err_and c.from_residual.result c.from_residual.ensures.1 in
    rw p.1 (c.in-Some.place, c.in_err-take_in.ensures.err ∙ before)

pub returns : goal.returns
returns c =
    let vec = YieldsList-from_vec {s = c.into_iter.result} c.args.items (c.into_iter.ensures.rest ∙ c.into_vec.ensures) (c.into_iter.ensures.len ∙ c.into_vec.result.ok.0 ∙ ap length c.into_vec.ensures) in
    let all = YieldsList-at c.into_iter-place-iterator.ensures.into_iter_gives (YieldsList-from_enumerate (YieldsList-at c.enumerate-place-items.ensures.source vec) c.enumerate-place-items.ensures.count) in
    let end = at_end c.args.items all c.loop-place.yielded c.loop-place.place-iterator c.loop-place.yielded_by c.next.result c.next.new.self c.in-None.is c.next.ensures.steps in
    let room = subst (λ items. list_all (has_room_for_expiry c.args.flag) items ≡ true) end c.loop-place.invariant.room in
    record { ok = c.loop-place.invariant.so_far ∙ ap (with_items c.args.flag c.args.map.now) end; all = none_refused c.args.flag c.args.items room; none = tt; at = tt; before = tt; memory = tt }
