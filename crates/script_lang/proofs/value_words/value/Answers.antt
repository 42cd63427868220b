use Rattle.script_lang.proofs.Spelled.{no_text, no_blob, no_raw}
use Rattle.script_lang.proofs.value_words.value.Goals as goal

pub returns-in-None-clause-ok : goal.returns-in-None-clause-ok
returns-in-None-clause-ok c = rw c.in-Text.is (no_text c.args.word.now (rw c.in-None.is at c.in_ok-bytes-in-Text.ensures.ok))

pub returns-in-None-2-clause-ok : goal.returns-in-None-2-clause-ok
returns-in-None-2-clause-ok c = rw c.in-Blob.is (no_blob c.args.word.now (rw c.in-None-2.is at c.in_ok-bytes-in-Blob.ensures.ok))

pub returns-in-None-3-clause-ok : goal.returns-in-None-3-clause-ok
returns-in-None-3-clause-ok c = rw c.in-Raw.is (no_raw c.args.word.now (rw c.in-None-3.is at c.in_ok-bytes-in-Raw.ensures.ok))
