use Rattle.std.proofs.Common.{get_or}
use Rattle.race_core.proofs.Askings.{ask_takes}
use Rattle.race_core.proofs.Places.{get_there}
use Rattle.race_core.proofs.script.ask.Goals as goal

pub returns-in-Some-clause-taken : goal.returns-in-Some-clause-taken
returns-in-Some-clause-taken c = λ all left before numbered at.
    let openers = c.args.openers.now in
    let place = c.in-Some.place in
    ask_takes all left before openers c.args.who c.args.asked place (get_or openers place c.index-openers-place.result) c.ask.new.self c.ask.result at c.in-Some.ensures.some.0
    (get_there openers place c.index-openers-place.result c.in-Some.ensures.some.1) numbered c.ask.ensures.may c.ask.ensures.strategy c.ask.ensures.calls c.ask.ensures.holds c.ask.ensures.err
