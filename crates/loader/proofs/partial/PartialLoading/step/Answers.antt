use Rattle.std.proofs.Common.{◌∙◌, ap}
use Rattle.loader.specs.PartialLoads.{PartialLoad}
use Rattle.loader.proofs.PartTelling.{told_part, told_holds, told_fails}
use Rattle.loader.proofs.partial.PartialLoading.step.Goals as goal

pub returns-clause-told : goal.returns-clause-told
returns-clause-told g c =
    told_part c.args.self.now c.take_in.new.self c.in_ok-value.value _ _ c.ask.ensures.sound c.in_ok-value.ensures.goes c.requires.lock c.requires.so_far c.in_ok-value.ensures.value
    c.in_ok-take_in.ensures.told c.ran.new.self c.in_ok-ran.ensures.parts

pub returns-clause-exact : goal.returns-clause-exact
returns-clause-exact g c holds =
    told_holds c.args.self.now c.take_in.new.self c.in_ok-value.value _ _ c.ask.ensures.sound c.in_ok-value.ensures.goes c.requires.lock c.requires.so_far c.in_ok-value.ensures.value
    c.in_ok-take_in.ensures.told c.ran.new.self c.take_in.new.self.map c.in_ok-ran.ensures.parts
    (ap (λ (p : PartialLoad). p.kept) c.in_ok-ran.ensures.parts ∙ c.in_ok-take_in.ensures.kept.0) (c.in_ok-ran.ensures.holds holds)

pub returns-clause-fails : goal.returns-clause-fails
returns-clause-fails g c fails =
    told_fails c.args.self.now c.take_in.new.self c.in_ok-value.value _ _ c.ask.ensures.sound c.in_ok-value.ensures.goes c.requires.lock c.requires.so_far c.in_ok-value.ensures.value
    c.in_ok-take_in.ensures.told c.in_ok-take_in.ensures.kept.0 (c.in_ok-ran.ensures.fails fails)
