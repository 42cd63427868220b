use Rattle.region_words.proofs.ReadLaws.{lawful_front, apart_front}
use Rattle.region_words.proofs.laws.what_holds_of_a_journal_holds_of_its_fronts.Goals as goal

pub returns-clause-lawful : goal.returns-clause-lawful
returns-clause-lawful c = λ start later past l. lawful_front start later past l

pub returns-clause-apart : goal.returns-clause-apart
returns-clause-apart c = λ start later past a. apart_front start later past a
