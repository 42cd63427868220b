use Rattle.std.proofs.Common.{◌≡◌, ◌+◌, false, reverse, sym, subst, arith}
use Rattle.std.proofs.lemmas.List.{length-reverse}
use Rattle.std.proofs.lemmas.Result.{err_from_is_err_and}
use Rattle.region_words.specs.Local.{Local, LacksPlaces, account_of, after_admission}
use Rattle.region_words.specs.Inside.{local_of}
use Rattle.region_words.proofs.Accounts.{admitted_account, kept_set, lacks_places}
use Rattle.region_words.proofs.Keeping.{keeps_account}
use Rattle.region_words.proofs.region.LocalRegion.admit.Goals as goal

pub invariant_of-self-2 : goal.invariant_of-self-2
invariant_of-self-2 c =
    let new = subst (λ (l : Local). (account_of l.accounts c.args.who).admitted ≡ false) (sym c.self.view_is) c.requires.new in
    let own = account_of c.self.inside.accounts c.args.who in
    let good = admitted_account (reverse c.self.inside.journal.items) c.args.who own (c.self.invariant.good.each c.args.who) new in
    let len = length-reverse c.self.inside.journal.items in
    let room = c.self.invariant.room_for_each c.args.who in
    rw c.make_room.ensures.items
    (keeps_account (local_of c.self.inside) _ _ _ _ _ _ _ c.self.invariant c.args.who c.requires.least c.requires.most (after_admission own) (c.self.inside.kept + 1) _ _ good.1
    (omega (arith, good.0))
    (omega (arith, c.in_ok-make_room.ensures.few, c.self.inside.journal.ok.0, len))
    (omega (arith, c.in_ok-make_room.ensures.room, c.self.inside.journal.ok.0, len))
    room (omega arith))

pub returns-clause-room : goal.returns-clause-room
returns-clause-room c =
    let new = subst (λ (l : Local). (account_of l.accounts c.args.who).admitted ≡ false) (sym c.self.view_is) c.requires.new in
    let own = account_of c.self.inside.accounts c.args.who in
    let good = admitted_account (reverse c.self.inside.journal.items) c.args.who own (c.self.invariant.good.each c.args.who) new in
    let len = length-reverse c.self.inside.journal.items in
    let sum = kept_set c.self.inside.accounts c.args.who (after_admission own) c.requires.least c.requires.most c.self.invariant.good.accounts in
    rw c.make_room.ensures.items (omega (arith, c.in_ok-make_room.ensures.few, c.self.inside.journal.ok.0, len, sum, good.0, c.self.invariant.kept_is))

pub returns-in_err-make_room-clause-err : goal.returns-in_err-make_room-clause-err
returns-in_err-make_room-clause-err c =
    let p = err_from_is_err_and c.from_residual.result c.from_residual.ensures.1 in
    let stop = c.in_err-make_room.field-0.0 in
    let len = length-reverse c.self.inside.journal.items in
    rw (p.1, p.2)
    (subst (λ (l : Local). LacksPlaces l 1 stop) c.self.view_is
    (lacks_places (local_of c.self.inside) c.self.invariant.good 1 _ stop c.in_err-make_room.ensures.err (omega (arith, c.self.inside.journal.ok.0, len, c.self.invariant.kept_is))))
