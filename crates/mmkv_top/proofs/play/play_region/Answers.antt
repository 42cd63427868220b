use Rattle.std.proofs.Common.{◌≡◌, ◌∙◌, ap, sym, subst}
use Rattle.std.proofs.lemmas.Result.{IfOk-weaker}
use Rattle.std.specs.Prelude.{Ok}
use Rattle.region_words.specs.Outside.{Rose}
use Rattle.region_words.specs.Past.{region_after}
use Rattle.region_words.specs.Region.{region_of, shown_if_accepted}
use Rattle.meta_record.specs.declared.shown.Shown.TheVariants.{Whole}
use Rattle.world.specs.World.{WorldState}
use Rattle.script_lang.specs.Played.{stock_of}
use Rattle.mmkv_top.specs.Due.{IsInputPlay, IsPlayOf}
use Rattle.mmkv_top.proofs.Ended.{accepted_shown, whole_shown}
use Rattle.mmkv_top.proofs.play.play_region.Goals as goal

pub play_input-ending-requires-clause-unopened : goal.play_input-ending-requires-clause-unopened
play_input-ending-requires-clause-unopened g c = ap (λ (w : WorldState). w.openers) c.new-world.ensures.new

pub play_input-ending-requires-clause-steady : goal.play_input-ending-requires-clause-steady
play_input-ending-requires-clause-steady g c = ap (λ (w : WorldState). w.region.failing.listed) c.new-world.ensures.new ∙ c.requires.steady

pub new-world-requires-clause-accepted : goal.new-world-requires-clause-accepted
new-world-requires-clause-accepted g c =
    let r = c.args.region in
    let same : region_of c.data_bytes.result.now c.meta_bytes.result.now ≡ r.start =
    ap (λ x. region_of x c.meta_bytes.result.now) c.data_bytes.ensures ∙ ap (λ x. region_of (region_after r.start r.past).data_bytes x) c.meta_bytes.ensures ∙ ap (region_after r.start) c.requires.past in
    accepted_shown r.start c.in-Ok-Whole.field-0 (sym (ap shown_if_accepted same) ∙ sym c.shown.ensures ∙ c.in-Ok-Whole.is)

pub returns-in-Ok-Whole-clause-due : goal.returns-in-Ok-Whole-clause-due
returns-in-Ok-Whole-clause-due g c =
    let r = c.args.region in
    let stock = stock_of c.args.handlers.now in
    let left = g.S.Source.left c.args.input.now in
    let now = g.S.Source.left c.play_input-ending.new.input in
    let rose = Rose (g.S.Source.faults c.args.input.now) (g.S.Source.faults c.play_input-ending.new.input) in
    let same : region_of c.data_bytes.result.now c.meta_bytes.result.now ≡ r.start =
    ap (λ x. region_of x c.meta_bytes.result.now) c.data_bytes.ensures ∙ ap (λ x. region_of (region_after r.start r.past).data_bytes x) c.meta_bytes.ensures ∙ ap (region_after r.start) c.requires.past in
    let shows : shown_if_accepted r.start ≡ Ok (Whole c.in-Ok-Whole.field-0-0) =
    sym (ap shown_if_accepted same) ∙ sym c.shown.ensures ∙ c.in-Ok-Whole.is ∙ ap (λ x. Ok x) c.in-Ok-Whole.field-0-is in
    IfOk-weaker c.play_input-ending.result (IsInputPlay stock c.new-world.result.core.region.start left now rose) (IsPlayOf stock left now rose r.start)
    (λ e h. whole_shown stock left now rose r.start c.in-Ok-Whole.field-0-0 e shows
    (subst (λ x. IsInputPlay stock x left now rose e) (ap (λ (w : WorldState). w.region.start) c.new-world.ensures.new) h)) c.play_input-ending.ensures.due
