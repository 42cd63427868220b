use Rattle.std.proofs.Common.{refl}
use Rattle.mmkv_top.specs.Due.{IsPlayOf, play_statuses}
use Rattle.mmkv_top.proofs.Dumped.{due, unfaulted}
use Rattle.mmkv_top.proofs.Ended.{play_of_status}
use Rattle.mmkv_top.proofs.play.play.Goals as goal

pub returns-in-Ok-clause-due : goal.returns-in-Ok-clause-due
returns-in-Ok-clause-due g c =
    due play_statuses (IsPlayOf _ _ _ _) (g.D.Shelf.stores c.args.shelf.now c.args.id.now) c.bring-brought.result c.in-Ok.ending _
    (λ x d. play_of_status _ _ _ _ x c.in-Ok.ending d) refl refl
    c.bring-brought.ensures.told c.bring-brought.ensures.failed c.in-Ok.ensures.due

pub returns-in-Ok-clause-clean : goal.returns-in-Ok-clause-clean
returns-in-Ok-clause-clean g c other memory = c.bring-brought.ensures.steady (unfaulted (IsPlayOf _ _ _ _) c.bring-brought.result c.in-Ok.ending c.in-Ok.ensures.due other)
