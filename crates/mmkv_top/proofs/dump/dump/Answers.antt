use Rattle.std.proofs.Common.{refl}
use Rattle.mmkv_top.specs.Due.{IsDumpOf, dump_statuses}
use Rattle.mmkv_top.proofs.Dumped.{due, dump_of_status, unfaulted}
use Rattle.mmkv_top.proofs.dump.dump.Goals as goal

pub returns-in-Ok-clause-due : goal.returns-in-Ok-clause-due
returns-in-Ok-clause-due g c =
    due dump_statuses IsDumpOf (g.D.Shelf.stores c.args.shelf.now c.args.id.now) c.bring-brought.result c.in-Ok.ending _
    (λ x d. dump_of_status x c.in-Ok.ending d) refl refl
    c.bring-brought.ensures.told c.bring-brought.ensures.failed c.in-Ok.ensures

pub returns-in-Ok-clause-clean : goal.returns-in-Ok-clause-clean
returns-in-Ok-clause-clean g c other memory = c.bring-brought.ensures.steady (unfaulted IsDumpOf c.bring-brought.result c.in-Ok.ending c.in-Ok.ensures other)
