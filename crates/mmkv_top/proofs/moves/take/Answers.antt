use Rattle.std.proofs.Common.{sym, ap, subst, ◌∙◌}
use Rattle.std.specs.Prelude.{Some}
use Rattle.mmkv_top.specs.State.{play_state}
use Rattle.script_lang.specs.Played.{stock_of}
use Rattle.mmkv_top.specs.Progress.{Takes}
use Rattle.mmkv_top.proofs.Beginning.{nothing_taken}
use Rattle.mmkv_top.proofs.moves.take.Goals as goal

pub returns-in-None-clause-taken : goal.returns-in-None-clause-taken
returns-in-None-clause-taken g c = λ stock start parts at. nothing_taken stock _ start parts (play_state c.args.world.now.core c.args.text.now.items) c.args.line c.in-None.is c.requires.sound at

pub returns-in-Some-Open-clause-taken : goal.returns-in-Some-Open-clause-taken
returns-in-Some-Open-clause-taken g c = λ stock start parts at.
    subst (λ l. Takes stock (stock_of c.open.new.handlers) start parts l (play_state c.open.new.world.core c.args.text.now.items) c.open.result) (sym (c.in-Some-Open.is ∙ ap Some c.in-Some-Open.field-0-is))
    (c.open.ensures.taken stock start parts c.args.text.now.items at)

pub returns-in-Some-Begin-clause-taken : goal.returns-in-Some-Begin-clause-taken
returns-in-Some-Begin-clause-taken g c = λ stock start parts at.
    subst (λ l. Takes stock (stock_of c.args.handlers.now) start parts l (play_state c.begin.new.world.core c.args.text.now.items) c.begin.result) (sym (c.in-Some-Begin.is ∙ ap Some c.in-Some-Begin.field-0-is))
    (c.begin.ensures.taken stock _ start parts c.args.text.now.items at)

pub returns-in-Some-Step-clause-taken : goal.returns-in-Some-Step-clause-taken
returns-in-Some-Step-clause-taken g c = λ stock start parts at.
    subst (λ l. Takes stock (stock_of c.args.handlers.now) start parts l (play_state c.step.new.world.core c.step.new.text.items) c.step.result) (sym (c.in-Some-Step.is ∙ ap Some c.in-Some-Step.field-0-is))
    (c.step.ensures.taken stock _ start parts at)

pub returns-in-Some-Die-clause-taken : goal.returns-in-Some-Die-clause-taken
returns-in-Some-Die-clause-taken g c = λ stock start parts at.
    subst (λ l. Takes stock (stock_of c.args.handlers.now) start parts l (play_state c.die.new.world.core c.args.text.now.items) c.die.result) (sym (c.in-Some-Die.is ∙ ap Some c.in-Some-Die.field-0-is))
    (c.die.ensures.taken stock _ start parts c.args.text.now.items at)
