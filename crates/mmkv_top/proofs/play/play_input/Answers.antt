use Rattle.std.proofs.Common.{inl, subst, sym}
use Rattle.std.proofs.lemmas.Result.{IfOk-weaker}
use Rattle.std.specs.Prelude.{false}
use Rattle.region_words.specs.Outside.{Rose}
use Rattle.script_lang.specs.Script.{IsWholeInput}
use Rattle.mmkv_top.specs.Due.{IsInputPlay}
use Rattle.mmkv_top.specs.Lent.{PlaysOn}
use Rattle.script_lang.specs.Played.{stock_of}
use Rattle.mmkv_top.proofs.Ended.{whole_input}
use Rattle.mmkv_top.proofs.play.play_input.Goals as goal

pub returns-in-Ok-clause-due : goal.returns-in-Ok-clause-due
returns-in-Ok-clause-due g c =
    let stock = stock_of c.args.handlers.now in
    let start = c.args.world.now.core.region.start in
    let left = g.S.Source.left c.args.input.now in
    let now = g.S.Source.left c.read_script.new.source in
    let rose = Rose (g.S.Source.faults c.args.input.now) (g.S.Source.faults c.read_script.new.source) in
    IfOk-weaker c.play_text.result (PlaysOn false stock start c.deref.result.now c.play_text.new.world.core) (IsInputPlay stock start left now rose)
    (λ e h. inl (whole_input stock start left now c.deref.result.now c.play_text.new.world.core e (subst (IsWholeInput left now) (sym c.deref.ensures.value) c.in-Ok.ensures.ok) h)) c.play_text.ensures
