use Rattle.std.proofs.Common.{◌≡◌, sym, subst, ap, ◌∙◌}
use Rattle.std.specs.Prelude.{Result, Ok, Err, Some, IfOk}
use Rattle.std.specs.FinMap as fin
use Rattle.std.specs.Result.{result_ok}
use Rattle.lock_rules.specs.declared.table.LockKind.TheVariants.{Exclusive}
use Rattle.region_words.specs.Rows.{Enable}
use Rattle.region_words.specs.Share.{Tries}
use Rattle.region_words.specs.Owing.{IsOwing}
use Rattle.region_words.specs.Local.{seat_state}
use Rattle.expiry_switch.specs.Switches.{enabling}
use Rattle.maker_tests.proofs.WriteBackSample.{known}
use Rattle.maker_tests.proofs.SwitchSample.{writes, owing}
use Rattle.maker_tests.proofs.switches.switching.Goals as goal

-- what holds of a value in an Ok holds of it where the rest is dropped
kept : {T E : Type 0} (r : Result T E) (P : T → Type 0) (x : T) → Some x ≡ result_ok r → IfOk r P → P x
kept (Ok y) P x e p = let same : y ≡ x = cc in subst P same p
kept (Err e) P x f p = absurd cc

pub returns-in-Ok : goal.returns-in-Ok
returns-in-Ok c =
    let s = c.in_ok-seat.seat in
    let t = c.try_lock.new.self in
    let u = c.reserve.new.self in
    let is : c.in_ok-maker.maker ≡ enabling known fin.empty 1 100 0 =
    kept c.enabling.result (λ maker. maker ≡ enabling known fin.empty 1 100 0) c.in_ok-maker.maker c.in_ok-maker.ensures.value c.enabling.ensures in
    let tried = subst (λ tried. Tries Exclusive tried (seat_state s) (seat_state t)) c.in-Ok-Taken.field-0-is c.in-Ok-Taken.ensures.ok in
    let seat = c.in_ok-seat.ensures in (
      Enable 100 0,
      subst (λ l. IsOwing (Enable 100 0) l (seat_state u)) (sym (ap (λ m. m.events) is ∙ writes))
          (owing s t u seat.alive seat.maker seat.start seat.past tried.0 c.in-Ok.ensures.ok),
    )
