use Rattle.lock_rules.specs.declared.table.LockKind.TheVariants.{Exclusive}
use Rattle.std.proofs.Common.{◌≡◌, ◌+◌, reverse, sym, subst, arith}
use Rattle.std.specs.Prelude.{Some}
use Rattle.std.proofs.lemmas.List.{length-reverse}
use Rattle.std.proofs.lemmas.Result.{err_from_is_err_and}
use Rattle.region_words.specs.Local.{Local, LacksPlaces, account_of, lock_after, after_reserve}
use Rattle.region_words.specs.Inside.{local_of}
use Rattle.region_words.proofs.Accounts.{reserved_account, lacks_places}
use Rattle.region_words.proofs.Keeping.{own_places, keeps_account}
use Rattle.region_words.proofs.region.LocalRegion.reserve.Goals as goal

pub overflow_add-self : goal.overflow_add-self
overflow_add-self c =
    let own = own_places c.self.inside.accounts c.args.who c.requires.least c.requires.most in
    omega (arith, own, c.self.invariant.kept_is, c.in_ok-make_room.ensures.few)

pub invariant_of-self-2 : goal.invariant_of-self-2
invariant_of-self-2 c =
    let held = subst (λ (l : Local). lock_after l.past c.args.who ≡ Some Exclusive) (sym c.self.view_is) c.requires.held in
    let own = account_of c.self.inside.accounts c.args.who in
    let good = reserved_account (reverse c.self.inside.journal.items) c.args.who own c.args.events c.args.size (c.self.invariant.good.each c.args.who) held in
    let len = length-reverse c.self.inside.journal.items in
    let room = c.self.invariant.room_for_each c.args.who in
    rw (c.max.ensures, c.make_room.ensures.items, c.make_bytes.ensures.items)
    (keeps_account (local_of c.self.inside) _ _ _ _ _ _ _ c.self.invariant c.args.who c.requires.least c.requires.most (after_reserve c.args.events c.args.size own) (c.self.inside.kept + c.args.events) _ _ good.1
    (omega arith)
    (omega (arith, c.in_ok-make_room.ensures.few, c.self.inside.journal.ok.0, len))
    (omega (arith, c.in_ok-make_room.ensures.room, c.self.inside.journal.ok.0, len))
    (omega (arith, room, c.make_bytes.ensures.capacity, c.in_ok-make_bytes.ensures.room)) c.make_bytes.ensures.capacity)

pub returns-in_err-make_room-clause-err : goal.returns-in_err-make_room-clause-err
returns-in_err-make_room-clause-err c =
    let p = err_from_is_err_and c.from_residual.result c.from_residual.ensures.1 in
    let stop = c.in_err-make_room.field-0.0 in
    let len = length-reverse c.self.inside.journal.items in
    rw (p.1, p.2)
    (subst (λ (l : Local). LacksPlaces l c.args.events stop) c.self.view_is
    (lacks_places (local_of c.self.inside) c.self.invariant.good c.args.events _ stop c.in_err-make_room.ensures.err (omega (arith, c.self.inside.journal.ok.0, len, c.self.invariant.kept_is))))
