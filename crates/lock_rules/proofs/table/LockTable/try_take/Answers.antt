use Rattle.std.proofs.Common.{◌≡◌, ◌∙◌, ℕ, ap, subst}
use Rattle.std.specs.Prelude.{None, Some}
use Rattle.lock_rules.specs.Locks.{Locks, IsSound, IsLeastAgainst}
use Rattle.lock_rules.specs.Holders.{AreHolders}
use Rattle.lock_rules.proofs.Against.{none_against, least_once}
use Rattle.lock_rules.proofs.Views.{seen_sound, seen_within, none_exclusive, none_shared, no_bits, apart_alone}
use Rattle.lock_rules.proofs.table.LockTable.try_take.Goals as goal

pub returns-in-Some-clause-taken : goal.returns-in-Some-clause-taken
returns-in-Some-clause-taken c = (
  λ e. absurd cc,
  λ may. absurd (none_against c.args.self.now c.args.who c.args.kind c.in-Some.holder may (c.in-Some.ensures.some c.args.who c.requires.free).against),
)

pub returns-in-Some-clause-busy : goal.returns-in-Some-clause-busy
returns-in-Some-clause-busy c = λ h.
    let least : IsLeastAgainst c.args.self.now c.args.who c.args.kind c.in-Some.holder = c.in-Some.ensures.some c.args.who c.requires.free in (
      λ e. let same : c.in-Some.holder ≡ h = (cc) in subst (λ (g : ℕ). IsLeastAgainst c.args.self.now c.args.who c.args.kind g) same least,
      λ other. let same : c.in-Some.holder ≡ h = least_once c.args.self.now c.args.who c.args.kind c.in-Some.holder h least other in (cc),
    )

pub returns-in-Some-clause-sound : goal.returns-in-Some-clause-sound
returns-in-Some-clause-sound c = subst IsSound c.self.view_is (seen_sound c.self.inside.shared c.self.inside.exclusive c.self.invariant)

pub returns-in-Some-clause-within : goal.returns-in-Some-clause-within
returns-in-Some-clause-within c = subst AreHolders c.self.view_is (seen_within c.self.inside.shared c.self.inside.exclusive c.self.invariant)

pub returns-in-Shared-clause-sound : goal.returns-in-Shared-clause-sound
returns-in-Shared-clause-sound c =
    let none : c.self.inside.exclusive ≡ None = ap (λ (l : Locks). l.exclusive) c.self.view_is ∙ none_exclusive c.args.self.now c.args.who c.args.kind (c.in_default.ensures.none c.args.who c.requires.free) in
    seen_sound c.with_bit-self-inside.result c.self.inside.exclusive (apart_alone c.with_bit-self-inside.result c.self.inside.exclusive c.with_bit-self-inside.type_inv none)

pub returns-in-Shared-clause-within : goal.returns-in-Shared-clause-within
returns-in-Shared-clause-within c =
    let none : c.self.inside.exclusive ≡ None = ap (λ (l : Locks). l.exclusive) c.self.view_is ∙ none_exclusive c.args.self.now c.args.who c.args.kind (c.in_default.ensures.none c.args.who c.requires.free) in
    seen_within c.with_bit-self-inside.result c.self.inside.exclusive (apart_alone c.with_bit-self-inside.result c.self.inside.exclusive c.with_bit-self-inside.type_inv none)

pub invariant_of-self-in-Exclusive : goal.invariant_of-self-in-Exclusive
invariant_of-self-in-Exclusive c =
    let none = ap (λ (l : Locks). l.shared) c.self.view_is ∙ none_shared c.args.self.now c.args.who c.args.kind c.in-Exclusive.is (c.in_default.ensures.none c.args.who c.requires.free) in
    (c.self.invariant.0, (c.requires.least, c.requires.most, no_bits c.self.inside.shared c.self.invariant.0 none))

pub returns-in-Exclusive-clause-busy : goal.returns-in-Exclusive-clause-busy
returns-in-Exclusive-clause-busy c = λ h. (
  λ e. absurd cc,
  λ least. absurd (none_against c.args.self.now c.args.who c.args.kind h (c.in_default.ensures.none c.args.who c.requires.free) least.against),
)

pub returns-in-Exclusive-clause-sound : goal.returns-in-Exclusive-clause-sound
returns-in-Exclusive-clause-sound c = seen_sound c.self.inside.shared (Some c.args.who) (invariant_of-self-in-Exclusive c)

pub returns-in-Exclusive-clause-within : goal.returns-in-Exclusive-clause-within
returns-in-Exclusive-clause-within c = seen_within c.self.inside.shared (Some c.args.who) (invariant_of-self-in-Exclusive c)
