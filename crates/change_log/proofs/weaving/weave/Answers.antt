use Rattle.std.proofs.Common.{◌≡◌, Some, ap, ◌∙◌}
use Rattle.change_log.proofs.weaving.weave.Goals as goal

pub returns-in-Some-clause-place : goal.returns-in-Some-clause-place
returns-in-Some-clause-place c = λ i. (λ e. let same : c.in-Some.i ≡ i = cc in (c.first_beyond.ensures.found i).0 (c.in-Some.is ∙ ap (λ k. Some k) same), λ h. let found = (c.first_beyond.ensures.found i).1 h in cc)

pub returns-in-Ok-clause-place : goal.returns-in-Ok-clause-place
returns-in-Ok-clause-place c = λ i. (λ e. absurd cc, λ h. let found = (c.first_beyond.ensures.found i).1 h in absurd cc)

pub returns-in-Err-clause-place : goal.returns-in-Err-clause-place
returns-in-Err-clause-place c = λ i. (λ e. absurd cc, λ h. let found = (c.first_beyond.ensures.found i).1 h in absurd cc)
