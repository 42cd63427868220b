use Rattle.std.proofs.Common.{◌≡◌, true, false, sym, ◌∙◌, ap}
use Rattle.std.specs.Prelude.{is_some, not}
use Rattle.opener.specs.State.{OpenerState}
use Rattle.opener.specs.Extents.{load_after}
use Rattle.opener.proofs.QuickReads.{some_image, fails_later, tied_still, current, stale}
use Rattle.opener.proofs.Stopped.{failed_tied}
use Rattle.opener.proofs.opener_core.OpenerCore.look.Goals as goal

pub returns-in_default-clause-tied : goal.returns-in_default-clause-tied
returns-in_default-clause-tied g c =
    rw c.fault.ensures.why
    (failed_tied c.args.self.now (g.S.Share.state c.args.share.now) (g.S.Share.state c.peek_checksum.new.self) c.requires.tied c.in_default.ensures.err.1)

pub returns-in_default-peek_sequence-clause-tied : goal.returns-in_default-peek_sequence-clause-tied
returns-in_default-peek_sequence-clause-tied g c =
    let o = c.args.self.now in
    let some : is_some o.image ≡ true = ap (λ (z : OpenerState). is_some z.image) (sym c.self.view_is) ∙ c.is_none.ensures ∙ ap not c.if-is_none.false in
    let k = some_image o.image some in
    rw c.fault-in_default-peek_sequence.ensures.why
    (fails_later o k.0 (g.S.Share.state c.args.share.now) (g.S.Share.state c.peek_checksum.new.self) c.in-Ok.peek c.requires.tied c.requires.idle k.1
    c.in-Ok.ensures.ok c.in-Ok.ensures.value c.in-Ok.ensures.changes (g.S.Share.state c.peek_sequence.new.self) c.in_default-peek_sequence.ensures.err.1)

pub returns-then-not-is_current-clause-tied : goal.returns-then-not-is_current-clause-tied
returns-then-not-is_current-clause-tied g c =
    let o = c.args.self.now in
    let some : is_some o.image ≡ true = ap (λ (z : OpenerState). is_some z.image) (sym c.self.view_is) ∙ c.is_none.ensures ∙ ap not c.if-is_none.false in
    let k = some_image o.image some in
    tied_still o k.0 (g.S.Share.state c.args.share.now) (g.S.Share.state c.peek_checksum.new.self) c.in-Ok.peek c.requires.tied c.requires.idle k.1
    c.in-Ok.ensures.ok c.in-Ok.ensures.value c.in-Ok.ensures.changes (g.S.Share.state c.peek_sequence.new.self) c.in-Ok-peek_sequence.sequence
    c.in-Ok-peek_sequence.ensures.ok c.in-Ok-peek_sequence.ensures.value

pub returns-then-not-is_current-clause-stale : goal.returns-then-not-is_current-clause-stale
returns-then-not-is_current-clause-stale g c =
    let o = c.args.self.now in
    let some : is_some o.image ≡ true = ap (λ (z : OpenerState). is_some z.image) (sym c.self.view_is) ∙ c.is_none.ensures ∙ ap not c.if-is_none.false in
    let k = some_image o.image some in
    let is : not (is_some (load_after o.image c.in-Ok.peek c.in-Ok-peek_sequence.sequence)) ≡ false = sym c.is_current.ensures ∙ c.if-not-is_current.true in
    stale o k.0 (g.S.Share.state c.args.share.now) (g.S.Share.state c.peek_checksum.new.self) c.in-Ok.peek c.requires.tied c.requires.idle k.1
    c.in-Ok.ensures.ok c.in-Ok.ensures.value c.in-Ok.ensures.changes (g.S.Share.state c.peek_sequence.new.self) c.in-Ok-peek_sequence.sequence
    c.in-Ok-peek_sequence.ensures.ok c.in-Ok-peek_sequence.ensures.value is

pub returns-clause-tied : goal.returns-clause-tied
returns-clause-tied g c =
    let o = c.args.self.now in
    let some : is_some o.image ≡ true = ap (λ (z : OpenerState). is_some z.image) (sym c.self.view_is) ∙ c.is_none.ensures ∙ ap not c.if-is_none.false in
    let k = some_image o.image some in
    tied_still o k.0 (g.S.Share.state c.args.share.now) (g.S.Share.state c.peek_checksum.new.self) c.in-Ok.peek c.requires.tied c.requires.idle k.1
    c.in-Ok.ensures.ok c.in-Ok.ensures.value c.in-Ok.ensures.changes (g.S.Share.state c.peek_sequence.new.self) c.in-Ok-peek_sequence.sequence
    c.in-Ok-peek_sequence.ensures.ok c.in-Ok-peek_sequence.ensures.value

pub returns-clause-ok : goal.returns-clause-ok
returns-clause-ok g c =
    let o = c.args.self.now in
    let some : is_some o.image ≡ true = ap (λ (z : OpenerState). is_some z.image) (sym c.self.view_is) ∙ c.is_none.ensures ∙ ap not c.if-is_none.false in
    let k = some_image o.image some in
    let is : not (is_some (load_after o.image c.in-Ok.peek c.in-Ok-peek_sequence.sequence)) ≡ true = sym c.is_current.ensures ∙ c.if-not-is_current.false in
    current o k.0 (g.S.Share.state c.args.share.now) (g.S.Share.state c.peek_checksum.new.self) c.in-Ok.peek c.requires.tied c.requires.idle k.1
    c.in-Ok.ensures.ok c.in-Ok.ensures.value c.in-Ok.ensures.changes (g.S.Share.state c.peek_sequence.new.self) c.in-Ok-peek_sequence.sequence
    c.in-Ok-peek_sequence.ensures.ok c.in-Ok-peek_sequence.ensures.value is
