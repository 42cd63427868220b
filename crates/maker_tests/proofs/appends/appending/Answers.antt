use Rattle.std.proofs.Common.{◌≡◌, length, sym, subst, ap, ◌∙◌}
use Rattle.std.specs.Prelude.{Result, Ok, Err, Some, IfOk}
use Rattle.std.specs.Result.{result_ok}
use Rattle.lock_rules.specs.declared.table.LockKind.TheVariants.{Exclusive}
use Rattle.region_words.specs.Rows.{Append}
use Rattle.region_words.specs.Share.{Goes, Tries, reserving}
use Rattle.region_words.specs.Owing.{IsOwing}
use Rattle.region_words.specs.Local.{seat_state}
use Rattle.appender.specs.Appends.{appending}
use Rattle.maker_tests.proofs.AppendSample.{change, put, known, appends, owing}
use Rattle.maker_tests.proofs.appends.appending.Goals as goal

-- what holds of a value in an Ok holds of it where the rest is dropped
kept : {T E : Type 0} (r : Result T E) (P : T → Type 0) (x : T) → Some x ≡ result_ok r → IfOk r P → P x
kept (Ok y) P x e p = let same : y ≡ x = cc in subst P same p
kept (Err e) P x f p = absurd cc

pub returns-in-Ok : goal.returns-in-Ok
returns-in-Ok c =
    let s = c.in_ok-seat.seat in
    let t = c.try_lock.new.self in
    let u = c.reserve.new.self in
    let is : c.in_ok-maker.maker ≡ appending known change = kept c.started.result (λ m. m ≡ appending known change) c.in_ok-maker.maker c.in_ok-maker.ensures.value c.started.ensures in
    let events = ap (λ m. m.events) is ∙ appends in
    let five : c.events.result ≡ 5 = c.events.ensures ∙ ap length events in
    let none : c.room.result ≡ 0 = c.room.ensures ∙ ap (λ m. m.room) is in
    let tried = subst (λ tried. Tries Exclusive tried (seat_state s) (seat_state t)) c.in-Ok-Taken.field-0-is c.in-Ok-Taken.ensures.ok in
    let reserved : Goes (reserving 5 0 (seat_state t)) (seat_state t) (seat_state u) =
    subst (λ n. Goes (reserving 5 n (seat_state t)) (seat_state t) (seat_state u)) none
    (subst (λ n. Goes (reserving n c.room.result (seat_state t)) (seat_state t) (seat_state u)) five c.in-Ok.ensures.ok) in
    let seat = c.in_ok-seat.ensures in
    (Append put, subst (λ l. IsOwing (Append put) l (seat_state u)) (sym events) (owing s t u seat.alive seat.maker seat.start seat.past tried.0 reserved))
