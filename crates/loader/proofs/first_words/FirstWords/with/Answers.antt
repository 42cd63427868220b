use Rattle.std.proofs.Common.{arith}
use Rattle.loader.proofs.Answered.{first_more}
use Rattle.loader.proofs.first_words.FirstWords.with.Goals as goal

pub returns-clause-told : goal.returns-clause-told
returns-clause-told c r first is = first_more c.args.self.now r c.args.value c.requires (omega arith) first is
