use Rattle.std.proofs.Common.{◌≡◌, ◌++◌, inl, inr}
use Rattle.std.proofs.lemmas.Result.{IfOk-weaker}
use Rattle.std.specs.Prelude.{◌⊎◌, false}
use Rattle.region_words.specs.Past.{changes_of, region_after}
use Rattle.script_lang.specs.Texts.{changes_text, region_text}
use Rattle.mmkv_top.specs.Ending.{ending}
use Rattle.mmkv_top.specs.State.{play_state}
use Rattle.script_lang.specs.Played.{stock_of}
use Rattle.mmkv_top.specs.Lent.{IsPlayedOn}
use Rattle.script_lang.specs.Script.{texts_of}
use Rattle.mmkv_top.specs.Play.{IsEndedEarly}
use Rattle.mmkv_top.specs.Progress.{IsEndingAt}
use Rattle.mmkv_top.proofs.Ended.{whole_played, ended_early}
use Rattle.mmkv_top.proofs.play.play_script.Goals as goal

pub returns-in-Ok-clause-played : goal.returns-in-Ok-clause-played
returns-in-Ok-clause-played g c =
    let stock = stock_of c.args.handlers.now in
    let start = c.args.world.now.core.region.start in
    let texts = texts_of c.args.script.now in
    let p = play_state c.take_lines.new.world.core c.take_lines.new.text.items in
    IfOk-weaker c.played.result
    (λ e. e ≡ ending 0 (p.text ++ (changes_text (changes_of p.world.region.past) ++ region_text (region_after p.world.region.start p.world.region.past))))
    (λ e. IsPlayedOn stock start texts c.take_lines.new.world.core e ⊎ IsEndedEarly stock start texts false e)
    (λ e text. inl (whole_played stock (stock_of c.take_lines.new.handlers) start texts p c.in-Ok.field-0 e c.take_lines.ensures.sound c.in-Ok.ensures.taken text)) c.played.ensures

pub returns-in-Err-clause-played : goal.returns-in-Err-clause-played
returns-in-Err-clause-played g c =
    let stock = stock_of c.args.handlers.now in
    let start = c.args.world.now.core.region.start in
    let texts = texts_of c.args.script.now in
    IfOk-weaker c.halted_at.result (IsEndingAt c.in-Err.halted.number c.in-Err.halted.why)
    (λ e. IsPlayedOn stock start texts c.take_lines.new.world.core e ⊎ IsEndedEarly stock start texts false e)
    (λ e is. inr (ended_early stock start texts false c.in-Err.halted.number c.in-Err.halted.why e c.in-Err.ensures.halted is)) c.halted_at.ensures
