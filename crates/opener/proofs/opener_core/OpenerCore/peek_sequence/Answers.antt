use Rattle.std.proofs.Common.{arith, refl, sym, ◌∙◌, ap}
use Rattle.std.specs.Prelude.{None, Some}
use Rattle.opener.specs.Calls.{is_write}
use Rattle.opener.specs.declared.work.Running.{Running}
use Rattle.opener.proofs.Falling.{plainly_shorter}
use Rattle.opener.proofs.LoadBegins.{noticed_steps}
use Rattle.opener.proofs.Noticed.{can_begin, current_ready, finds_load, looks_next, none_asked, peeked_leaving}
use Rattle.opener.proofs.Same.{loaded_same}
use Rattle.opener.proofs.StepEnds.{fails, loads_ready}
use Rattle.opener.proofs.opener_core.OpenerCore.peek_sequence.Goals as goal

pub returns-in-None : goal.returns-in-None
returns-in-None g c =
    let o = c.args.self.now in
    let same = loaded_same c.args.running _ c.with_load.ensures in
    let none = sym c.load_after.ensures ∙ c.in-None.is in
    let cur = none_asked o.image c.args.peek c.in-Ok.sequence none in
    let look = finds_load o.image c.args.peek c.in-Ok.sequence None (g.S.Share.state c.peek_sequence.new.self) none c.in-Ok.ensures.value in
    loads_ready c.requires (λ stored none. none) o _ _ _ cur.i (peeked_leaving o _ _ _ _ _ c.requires same c.in-Ok.ensures.ok) c.in-Ok.ensures.ok c.with_load.ensures c.requires.at.1
    (c.in-Ok.ensures.ok, look) (λ how replies. (c.in-Ok.ensures.ok, look)) (λ a. (c.in-Ok.ensures.ok, look)) c.ready.ensures c.changes.ensures refl cur.kept (looks_next o _ _ _ _ _ c.requires same c.in-Ok.ensures.ok) (λ so_far none. none) (λ looks. refl)
    (λ has. omega (arith, has.0, ap (λ (r : Running). r.loads) c.with_load.ensures))
    (λ has read. (omega (arith, has.0, ap (λ (r : Running). r.loads) c.with_load.ensures), ap (λ (r : Running). r.stores) c.with_load.ensures ∙ has.1, same.taken ∙ c.requires.at.2.2 (ap is_write (sym same.same.call) ∙ read)))
    (current_ready o _ _ _ _ _ c.requires same c.in-Ok.ensures.ok _ cur c.in-Ok.ensures.value)
    (plainly_shorter _ _ _ refl (λ words. omega arith)) (λ how. plainly_shorter _ _ _ refl (λ words. omega arith))

pub load_next-requires : goal.load_next-requires
load_next-requires g c = can_begin c.args.self.now.image c.args.peek c.in-Ok.sequence c.in-Some.extent (sym c.load_after.ensures ∙ c.in-Some.is) c.requires.sound

pub returns-in-Some : goal.returns-in-Some
returns-in-Some g c =
    let o = c.args.self.now in
    let asked = sym c.load_after.ensures ∙ c.in-Some.is in
    noticed_steps _ _ _ _ _ _ _ c.requires _ c.in-Ok.ensures.ok c.with_load-in-Some.ensures c.in-Some.extent (finds_load o.image c.args.peek c.in-Ok.sequence (Some c.in-Some.extent) (g.S.Share.state c.peek_sequence.new.self) asked c.in-Ok.ensures.value)
    (can_begin o.image c.args.peek c.in-Ok.sequence c.in-Some.extent asked c.requires.sound) c.load_next.ensures

pub returns-in-Err : goal.returns-in-Err
returns-in-Err g c = fails c.requires c.in-Err.stop c.stopped.ensures c.in-Err.ensures.err.0 c.in-Err.ensures.err.1
