use Rattle.std.proofs.Common.{◌≡◌, ◌∙◌, ◌++◌, ap}
use Rattle.region_words.specs.Past.{changes_of, region_after}
use Rattle.region_words.specs.Local.{Local}
use Rattle.region_words.specs.Region.{region_of}
use Rattle.script_lang.specs.Texts.{changes_text, region_text}
use Rattle.mmkv_top.specs.Ending.{ending}
use Rattle.mmkv_top.proofs.Ended.{texts_join}
use Rattle.mmkv_top.proofs.play.played.Goals as goal

pub returns : goal.returns
returns g c =
    let r = c.args.world.now.core.region in
    let here = c.region-region.result.now in
    let there : here ≡ r = c.region-region.ensures.region in
    ap (λ x. ending 0 x)
    (c.of_vec.ensures ∙ texts_join c.args.outcomes.items c.changes_text.new.out.items c.region_text.new.out.items (changes_text (changes_of r.past)) (region_text (region_after r.start r.past))
    (c.in_ok-changes_text.ensures.ok ∙ ap (λ x. c.args.outcomes.items ++ changes_text x) (c.as_slice-2.ensures ∙ c.in_ok-changes.ensures ∙ ap (λ (x : Local). changes_of x.past) there))
    (c.in_ok-region_text.ensures.ok ∙ ap (λ x. c.changes_text.new.out.items ++ region_text x)
    (ap (λ x. region_of x c.meta_bytes.result.now) c.data_bytes.ensures ∙ ap (λ x. region_of (region_after here.start here.past).data_bytes x) c.meta_bytes.ensures
    ∙ ap (λ (x : Local). region_after x.start x.past) there)))
