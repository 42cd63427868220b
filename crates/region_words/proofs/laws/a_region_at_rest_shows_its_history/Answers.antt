use Rattle.region_words.proofs.MainLaw.{main_law, free_law}
use Rattle.region_words.proofs.laws.a_region_at_rest_shows_its_history.Goals as goal

pub returns-clause-rest : goal.returns-clause-rest
returns-clause-rest c = λ start past run rest. main_law start past run.region run.accepted run.lawful run.apart rest

pub returns-clause-free : goal.returns-clause-free
returns-clause-free c = λ start past run free. free_law start past run.region run.accepted run.lawful run.apart free
