use Rattle.std.proofs.Common.{[], ◌∷◌, refl, arith}
use Rattle.expiring_map.specs.Map.{value_until}
use Rattle.stores_bench.proofs.RowsOwed.{fits_of, can_append, append_owed}
use Rattle.stores_bench.proofs.work.append.Goals as goal

pub start_append-requires : goal.start_append-requires
start_append-requires c =
    let value = c.args.value.now in
    let standing = c.in_ok-seat.field-0.standing in
    let fits = fits_of c.in_ok-change.change value standing c.item_size-need.result c.in_ok-change.ensures.value c.in_ok-change.ensures.may c.requires.some
    (c.item_size-need.ensures.size (0x6b ∷ []) (value_until value 0) refl refl) (omega (arith, c.in_ok-seat.ensures.room)) in
    can_append c.in_ok-seat.field-0.seat standing c.in_ok-change.change value c.in_ok-seat.ensures.ready fits

pub finish-requires-clause-owing : goal.finish-requires-clause-owing
finish-requires-clause-owing c =
    let value = c.args.value.now in
    let standing = c.in_ok-seat.field-0.standing in
    let fits = fits_of c.in_ok-change.change value standing c.item_size-need.result c.in_ok-change.ensures.value c.in_ok-change.ensures.may c.requires.some
    (c.item_size-need.ensures.size (0x6b ∷ []) (value_until value 0) refl refl) (omega (arith, c.in_ok-seat.ensures.room)) in
    append_owed c.in_ok-seat.field-0.seat c.reserve.new.self standing c.in_ok-change.change value c.in_ok-row.row c.events.result c.room.result
    c.in_ok-seat.ensures.ready fits c.in_ok-row.ensures c.events.ensures c.in_ok-reserve.ensures.ok
