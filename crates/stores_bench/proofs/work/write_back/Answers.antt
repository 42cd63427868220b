use Rattle.stores_bench.proofs.RowsOwed.{write_back_owed}
use Rattle.stores_bench.proofs.work.write_back.Goals as goal

pub finish-requires-clause-owing : goal.finish-requires-clause-owing
finish-requires-clause-owing c =
    write_back_owed c.in_ok-seat.field-0.seat c.reserve.new.self c.in_ok-seat.field-0.standing c.args.map.now c.in_ok-row.row c.events.result c.room.result
    c.in_ok-seat.ensures.ready c.requires c.in_ok-row.ensures.begun c.in_ok-row.ensures.ok c.events.ensures c.room.ensures c.in_ok-reserve.ensures.ok
