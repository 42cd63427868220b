use Rattle.std.proofs.Common.{◌≡◌, ◌+◌, ◌∷◌, [], ℕ, inl}
use Rattle.std.proofs.lemmas.Result.{IfOk-weaker}
use Rattle.std.specs.Prelude.{true, take, codes, decimal}
use Rattle.script_lang.specs.Texts.{line}
use Rattle.mmkv_top.specs.Ending.{ending}
use Rattle.mmkv_top.specs.State.{play_state}
use Rattle.script_lang.specs.Played.{stock_of}
use Rattle.script_lang.specs.Script.{texts_of, EndsLines}
use Rattle.mmkv_top.specs.Play.{IsEndedEarly}
use Rattle.mmkv_top.specs.Progress.{IsEndingAt}
use Rattle.mmkv_top.proofs.Taking.{beyond_all, halts_beyond}
use Rattle.mmkv_top.proofs.Ended.{ended_early}
use Rattle.mmkv_top.proofs.play.play_cut.Goals as goal

pub returns-in-Ok-clause-played : goal.returns-in-Ok-clause-played
returns-in-Ok-clause-played g c =
    let stock = stock_of c.args.handlers.now in
    let start = c.args.world.now.core.region.start in
    let size = c.end_of_lines-size.result in
    IfOk-weaker c.script_refused.result
    (λ e. e ≡ ending 9 (line (codes "script" ∷ decimal (c.in-Ok.count + 1) ∷ [])))
    (λ e. (x : ℕ) × EndsLines c.args.script.now x × IsEndedEarly stock start (texts_of (take x c.args.script.now)) true e)
    (λ e text. (
      size,
      c.end_of_lines-size.ensures,
      inl (
        c.in-Ok.count + 1,
        beyond_all stock (stock_of c.take_lines-taken.new.handlers) start (texts_of (take size c.args.script.now)) (play_state c.take_lines-taken.new.world.core c.take_lines-taken.new.text.items) c.in-Ok.count c.take_lines-taken.ensures.sound c.in-Ok.ensures.taken,
        text,
      ),
    )) c.script_refused.ensures

pub returns-in-Err-clause-played : goal.returns-in-Err-clause-played
returns-in-Err-clause-played g c =
    let stock = stock_of c.args.handlers.now in
    let start = c.args.world.now.core.region.start in
    let size = c.end_of_lines-size.result in
    IfOk-weaker c.halted_at.result (IsEndingAt c.in-Err.halted.number c.in-Err.halted.why)
    (λ e. (x : ℕ) × EndsLines c.args.script.now x × IsEndedEarly stock start (texts_of (take x c.args.script.now)) true e)
    (λ e is. (
      size,
      c.end_of_lines-size.ensures,
      ended_early stock start (texts_of (take size c.args.script.now)) true c.in-Err.halted.number c.in-Err.halted.why e
          (halts_beyond stock start (texts_of (take size c.args.script.now)) c.in-Err.halted.number c.in-Err.halted.why c.in-Err.ensures.halted) is,
    )) c.halted_at.ensures
