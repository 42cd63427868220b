use Rattle.std.proofs.Common.{sym, subst, ◌≡◌, true, false}
use Rattle.change_log.specs.Acts.{applied}
use Rattle.change_log.specs.declared.change.Act.TheVariants as act
use Rattle.region_words.specs.Rows.{Pack, Clear, Enable, Disable, events_of}
use Rattle.region_words.specs.Making.{write_back_by, switch_by}
use Rattle.region_words.specs.declared.standing.Standing.{Standing}
use Rattle.region_words.specs.declared.event.Mark.TheVariants.{Commit}
use Rattle.region_words.proofs.ByStanding.{append_by_known, row_is, restore_is, discard_is, size_repair_by}
use Rattle.region_words.proofs.laws.a_row_is_made_from_its_standing.Goals as goal

pub returns-clause-append : goal.returns-clause-append
returns-clause-append c = λ r s m who a whole known. append_by_known r s whole known m who a

pub returns-clause-pack : goal.returns-clause-pack
returns-clause-pack c = λ r s m who now need is.
    subst (λ (t : Standing). events_of r m who (Pack now need) ≡ write_back_by t (applied m (act.Pack now)) need (Commit (record { maker = who; act = act.Pack now }))) (sym is) (row_is r m who (Pack now need) tt)

pub returns-clause-clear : goal.returns-clause-clear
returns-clause-clear c = λ r s m who is.
    subst (λ (t : Standing). events_of r m who Clear ≡ write_back_by t (applied m act.Clear) 0 (Commit (record { maker = who; act = act.Clear }))) (sym is) (row_is r m who Clear tt)

pub returns-clause-enable : goal.returns-clause-enable
returns-clause-enable c = λ r s m who now seconds is.
    subst (λ (t : Standing). events_of r m who (Enable now seconds) ≡ switch_by t true 1 (applied m (act.Enable now seconds)) (Commit (record { maker = who; act = act.Enable now seconds }))) (sym is) (row_is r m who (Enable now seconds) tt)

pub returns-clause-disable : goal.returns-clause-disable
returns-clause-disable c = λ r s m who now is.
    subst (λ (t : Standing). events_of r m who (Disable now) ≡ switch_by t false 0 (applied m (act.Disable now)) (Commit (record { maker = who; act = act.Disable now }))) (sym is) (row_is r m who (Disable now) tt)

pub returns-clause-restore : goal.returns-clause-restore
returns-clause-restore c = λ r s m who is. restore_is r s m who is

pub returns-clause-discard : goal.returns-clause-discard
returns-clause-discard c = λ r s m who is. discard_is r s m who is

pub returns-clause-size_repair : goal.returns-clause-size_repair
returns-clause-size_repair c = λ r s m who is. size_repair_by r s m who is
