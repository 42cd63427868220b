use Rattle.lock_rules.specs.declared.table.LockKind.{LockKind}
use Rattle.std.proofs.Common.{◌≡◌, ◌+◌, ◌<◌, false, reverse, refl, sym, subst, ap, ◌∙◌, arith}
use Rattle.std.specs.Prelude.{None, Some}
use Rattle.std.proofs.lemmas.List.{reverse-append, length-reverse}
use Rattle.lock_rules.specs.Locks.{Locks, MayTake, IsLeastAgainst, holds, with_lock, without_holder}
use Rattle.region_words.specs.Past.{locks_after, has_died}
use Rattle.region_words.specs.declared.event.What.TheVariants.{Lock}
use Rattle.region_words.specs.Local.{Local, HasPlace, LacksPlaces, account_of, lock_after}
use Rattle.region_words.specs.Inside.{local_of}
use Rattle.region_words.proofs.Accounts.{lacks_places}
use Rattle.region_words.proofs.LockOf.{holds_none, holds_some, lock_with, taken_back}
use Rattle.region_words.proofs.Permits.{may_lock}
use Rattle.region_words.proofs.Keeping.{keeps_event, keeps_wider}
use Rattle.region_words.proofs.region.LocalRegion.lock.Goals as goal

pub returns-in-Busy-clause-ok : goal.returns-in-Busy-clause-ok
returns-in-Busy-clause-ok c =
    let least = (c.try_take.ensures.busy c.in-Busy.holder).0 c.in-Busy.is in
    (c.self.view_is, subst (λ (x : Locks). IsLeastAgainst x c.args.who c.args.kind c.in-Busy.holder) (c.self.invariant.locks_are ∙ ap (λ (l : Local). locks_after l.past) c.self.view_is) least)

pub give_up-requires : goal.give_up-requires
give_up-requires c =
    let may = c.try_take.ensures.taken.0 c.in_default.is in
    let after = c.try_take.ensures.after c.in_default.is in
    let now = lock_with c.self.inside.locks c.args.who c.args.kind may in
    ap (λ (x : Locks). holds x c.args.who) after ∙ holds_some (with_lock c.self.inside.locks c.args.who c.args.kind) c.args.who (λ none. clash c.args.kind (sym none ∙ now))
  where
    clash : (kind : LockKind) → None ≡ Some kind → ⊥
    clash kind e = cc

pub invariant_of-self-in-Err : goal.invariant_of-self-in-Err
invariant_of-self-in-Err c =
    let may = c.try_take.ensures.taken.0 c.in_default.is in
    let after = c.try_take.ensures.after c.in_default.is in
    let free = subst (λ (l : Local). lock_after l.past c.args.who ≡ None) (sym c.self.view_is) c.requires.free in
    let idle = ap (λ (x : Locks). holds x c.args.who) c.self.invariant.locks_are ∙ holds_none (locks_after (reverse c.self.inside.journal.items)) c.args.who free in
    let back = c.give_up.ensures.after ∙ ap (λ (x : Locks). without_holder x c.args.who) after ∙ taken_back c.self.inside.locks c.args.who c.args.kind may idle in
    rw c.make_room.ensures.items (keeps_wider (local_of c.self.inside) _ _ _ _ _ _ _ _ _ _ c.self.invariant back c.make_room.ensures.capacity (omega arith))

pub invariant_of-self-2 : goal.invariant_of-self-2
invariant_of-self-2 c =
    let may = c.try_take.ensures.taken.0 c.in_default.is in
    let after = c.try_take.ensures.after c.in_default.is in
    let alive = subst (λ (l : Local). has_died l.past c.args.who ≡ false) (sym c.self.view_is) c.requires.alive in
    let living = subst (λ (l : Local). 0 < (account_of l.accounts c.args.who).kept) (sym c.self.view_is) c.requires.living in
    let past = reverse c.self.inside.journal.items in
    let start = (local_of c.self.inside).start in
    let free = subst (λ (x : Locks). MayTake x c.args.who c.args.kind) c.self.invariant.locks_are may in
    let lawful = may_lock start past c.args.who c.args.kind c.self.invariant.good.lawful (c.requires.least, c.requires.most) alive free in
    let len = length-reverse c.self.inside.journal.items in
    let room = c.self.invariant.room_for_each c.args.who in
    let place : HasPlace (local_of c.self.inside) c.args.who (Lock c.args.kind) = record { kept = living; room = omega (arith, c.in_default-make_room.ensures.few, c.self.inside.journal.ok.0, len, c.self.invariant.kept_is) } in
    rw (c.note_event.ensures.items, c.make_room.ensures.items, reverse-append)
    (keeps_event (local_of c.self.inside) _ _ _ _ _ _ _ c.self.invariant c.args.who c.requires.least c.requires.most (Lock c.args.kind) lawful place _ _ _ (c.self.inside.kept + 1) _ _ _
    refl refl after (omega arith) (omega arith)
    (omega (arith, c.in_default-make_room.ensures.room, c.self.inside.journal.ok.0, len, c.note_event.ensures.capacity))
    room (omega arith))

pub returns-in-Err-clause-err : goal.returns-in-Err-clause-err
returns-in-Err-clause-err c =
    let len = length-reverse c.self.inside.journal.items in
    subst (λ (l : Local). LacksPlaces l 2 c.in-Err.stop) c.self.view_is
    (lacks_places (local_of c.self.inside) c.self.invariant.good 2 _ c.in-Err.stop c.in-Err.ensures.err (omega (arith, c.self.inside.journal.ok.0, len, c.self.invariant.kept_is)))
