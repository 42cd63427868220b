use Rattle.std.proofs.Common.{ap, arith, length}
use Rattle.step_desk.proofs.Turning.{meta_words}
use Rattle.step_desk.proofs.steps.shown_of.Goals as goal

pub load_word-requires : goal.load_word-requires
load_word-requires c =
    let words = meta_words _ _ 0 (omega arith) c.journal.ensures.lawful c.journal.ensures.region in
    omega (arith, words, ap length c.meta_bytes-meta.ensures)

pub load_word-requires-2 : goal.load_word-requires-2
load_word-requires-2 c =
    let words = meta_words _ _ 2 (omega arith) c.journal.ensures.lawful c.journal.ensures.region in
    omega (arith, words, ap length c.meta_bytes-meta.ensures)
