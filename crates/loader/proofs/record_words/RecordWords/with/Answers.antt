use Rattle.std.proofs.Common.{arith}
use Rattle.loader.proofs.RecordAnswered.{record_word_more}
use Rattle.loader.proofs.record_words.RecordWords.with.Goals as goal

pub returns-clause-told : goal.returns-clause-told
returns-clause-told c r first is = record_word_more c.args.self.now r c.args.value c.requires (omega arith) first is
