use Rattle.std.proofs.Common.{◌∙◌}
use Rattle.std.proofs.lemmas.Result.{on_ok_weaker, on_err_weaker}
use Rattle.region_words.specs.Region.{region_of}
use Rattle.script_lang.proofs.Writing.{region_pieces, begins_with_front}
use Rattle.script_lang.proofs.region.push_region.Goals as goal

pub returns-clause-ok : goal.returns-clause-ok
returns-clause-ok c =
    on_ok_weaker c.push_base.result
    (region_pieces (region_of c.args.body.now c.args.meta.now) c.args.seen _ _ _ _ c.requires.seen (c.as_bytes.ensures.value ∙ c.in_ok-head.ensures) c.in_ok-extend_from_slice.ensures.items)
    c.push_base.ensures.ok

pub returns-clause-memory : goal.returns-clause-memory
returns-clause-memory c =
    on_err_weaker c.push_base.result (begins_with_front _ _ _ _ c.in_ok-extend_from_slice.ensures.items) c.push_base.ensures.memory
