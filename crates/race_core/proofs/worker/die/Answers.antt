use Rattle.race_core.proofs.Ending.{away_rests, dead_rests}
use Rattle.race_core.proofs.worker.die.Goals as goal

pub returns-in-Ok-clause-rests : goal.returns-in-Ok-clause-rests
returns-in-Ok-clause-rests g c = λ idle. dead_rests c.args.opener.core.work (g.S.Share.state c.args.share.now) (g.S.Share.state c.die.new.share) c.in-Ok.ensures.dead idle

pub returns-in-Err-clause-rests : goal.returns-in-Err-clause-rests
returns-in-Err-clause-rests g c = λ idle. away_rests (g.S.Share.state c.args.share.now) (g.S.Share.state c.die.new.share) c.in-Err.ensures.turn
