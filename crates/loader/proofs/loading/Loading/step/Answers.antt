use Rattle.std.proofs.Common.{arith}
use Rattle.std.proofs.lemmas.Result.{err_from_is_err_and}
use Rattle.region_words.specs.Past.{region_after}
use Rattle.region_words.specs.Region.{IsAccepted}
use Rattle.region_words.proofs.Telling.{told_map}
use Rattle.loader.specs.Loads.{HasLoaded}
use Rattle.loader.proofs.Answered.{accepted-is}
use Rattle.loader.proofs.Telling.{told_after, stops, size_told}
use Rattle.loader.proofs.loading.Loading.step.Goals as goal

pub returns-in_err-take_in-clause-err : goal.returns-in_err-take_in-clause-err
returns-in_err-take_in-clause-err g c =
    let p = err_from_is_err_and c.from_residual-in_err-take_in.result c.from_residual-in_err-take_in.ensures.1 in
    rw (p.1, p.2)
    (stops c.in_err-take_in.field-0.0 c.args.self.now c.in_ok-value.value _ _ c.ask.ensures.sound c.in_ok-value.ensures.goes c.requires.lock c.requires.so_far
    c.in_ok-value.ensures.value c.in_err-take_in.ensures.err)

pub returns-clause-told : goal.returns-clause-told
returns-clause-told g c =
    told_after (HasLoaded c.take_in.new.self) c.args.self.now c.in_ok-value.value _ _ c.ask.ensures.sound c.in_ok-value.ensures.goes c.requires.lock c.requires.so_far
    c.in_ok-value.ensures.value c.in_ok-take_in.ensures.told

pub returns-clause-answered : goal.returns-clause-answered
returns-clause-answered g c = size_told c.take_in.new.self (g.S.Share.state c.ask.new.share) (c.went.ensures.begun (omega (arith, c.in_ok-take_in.ensures.loads))) (returns-clause-told g c)

pub returns-clause-accepts : goal.returns-clause-accepts
returns-clause-accepts g c = λ ten.
    told_map (g.S.Share.state c.ask.new.share).told (λ h. HasLoaded c.take_in.new.self (region_after h.start h.past)) (λ h. IsAccepted (region_after h.start h.past))
    (λ h has. accepted-is c.take_in.new.self.first (region_after h.start h.past) (c.went.ensures.made ten) has.first (c.went.ensures.accepted ten)) (returns-clause-told g c)
