use Rattle.std.proofs.Common.{ap}
use Rattle.step_desk.specs.Passes.{tag_coded}
use Rattle.step_desk.proofs.Called.{list_in}
use Rattle.step_desk.proofs.laws.a_seat_stays_at_its_desk.Goals as goal

pub returns : goal.returns
returns c = λ old new same.
    let e = tag_coded.inj (new.table, (new.view.hands, new.view.taken)) (old.table, (old.view.hands, old.view.taken)) same.tag in
    record {
      table = ap (λ t. t.0) e;
      who = same.who;
      hands = ap (λ t. t.1.0) e;
      taken = ap (λ t. t.1.1) e;
      fails = ap list_in same.fails;
    }
