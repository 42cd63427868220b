use Rattle.std.proofs.Common.{subst, sym}
use Rattle.region_words.specs.Share.{MayTearAt}
use Rattle.opener.proofs.Dying.{death_settles, died_tied, fault_settles}
use Rattle.opener.proofs.Stopped.{failed_tied, turned_tied}
use Rattle.opener.proofs.Tearing.{may_tear}
use Rattle.opener.proofs.opener_core.OpenerCore.die.Goals as goal

pub die-requires-clause-torn : goal.die-requires-clause-torn
die-requires-clause-torn g c = subst (λ t. MayTearAt t (g.S.Share.state c.args.share.now)) (sym c.torn_store.ensures) (may_tear c.args.self c.args.torn (g.S.Share.state c.args.share.now) c.requires)

pub returns-in-Err-Turn-clause-tied : goal.returns-in-Err-Turn-clause-tied
returns-in-Err-Turn-clause-tied g c = turned_tied c.args.self _ _ c.requires (rw c.in-Err-Turn.field-0-is at c.in-Err-Turn.ensures.err)

pub returns-in-Ok-clause-ended : goal.returns-in-Ok-clause-ended
returns-in-Ok-clause-ended g c alive = died_tied c.args.self _ _ _ c.requires c.in-Ok.ensures.ok.goes

pub returns-in-Ok-clause-settles : goal.returns-in-Ok-clause-settles
returns-in-Ok-clause-settles g c alive own settled = death_settles c.args.self _ _ _ c.requires c.in-Ok.ensures.ok own settled

pub returns-in-Err-Failed-clause-ended : goal.returns-in-Err-Failed-clause-ended
returns-in-Err-Failed-clause-ended g c alive = failed_tied c.args.self _ _ c.requires (rw c.in-Err-Failed.field-0-is at c.in-Err-Failed.ensures.err)

pub returns-in-Err-Failed-clause-settles : goal.returns-in-Err-Failed-clause-settles
returns-in-Err-Failed-clause-settles g c alive own settled = fault_settles c.args.self _ _ c.requires (rw c.in-Err-Failed.field-0-is at c.in-Err-Failed.ensures.err) own settled
