use Rattle.std.proofs.Common.{subst}
use Rattle.region_words.specs.Local.{Local}
use Rattle.region_words.specs.Region.{IsRegion}
use Rattle.script_lang.specs.Played.{stock_of}
use Rattle.mmkv_top.proofs.Opening.{no_lines}
use Rattle.mmkv_top.proofs.play.play_lines.Goals as goal

pub play_cut-requires-clause-at : goal.play_cut-requires-clause-at
play_cut-requires-clause-at g c =
    let region = subst (λ (l : Local). IsRegion l.start) c.region.ensures.region c.journal.ensures.region in
    no_lines (stock_of c.args.handlers.now) c.args.world.now.core region c.requires.sound c.requires.unopened c.requires.steady

pub play_script-requires-clause-at : goal.play_script-requires-clause-at
play_script-requires-clause-at g c =
    let region = subst (λ (l : Local). IsRegion l.start) c.region.ensures.region c.journal.ensures.region in
    no_lines (stock_of c.args.handlers.now) c.args.world.now.core region c.requires.sound c.requires.unopened c.requires.steady
