-- What an opener may do after these events.
use Rattle.std.proofs.Common.{◌≡◌, ◌≢◌, ℕ, true, false, List, [], ◌∷◌, not, ◌||◌, sym, subst, ap, ◌∙◌, arith}
use Rattle.std.specs.Prelude.{None, Some, if◌then◌else◌}
use Rattle.std.specs.Cmp.{nat_cmp_total}
use Rattle.std.specs.FinSet as set
use Rattle.std.proofs.lemmas.Bool.Decides.{nat_tests}
use Rattle.lock_rules.specs.Locks.{holds_exclusive}
use Rattle.lock_rules.specs.declared.table.LockKind.TheVariants.{Shared, Exclusive}
use Rattle.region_words.specs.Past.{has_died, locks_after}
use Rattle.region_words.specs.Local.{Seated, seat_state, lock_after, account_of, event_of}
use Rattle.region_words.specs.declared.event.What.TheVariants.{Lock, Died}
use Rattle.region_words.specs.declared.event.Event.{Event}
use Rattle.region_words.proofs.LockOf.{lock_at_first, lock_other}

-- two openers share the lock, and then one of them dies
abbrev pub one_shares : List Event
one_shares = event_of 2 (Lock Shared) ∷ []

abbrev pub two_share : List Event
two_share = event_of 1 (Lock Shared) ∷ one_shares

abbrev pub one_left : List Event
one_left = event_of 1 (Died None) ∷ two_share

-- it holds nothing
pub is_free : (s : Seated) → (past : List Event) → (who : ℕ) → s.region.past ≡ past → s.who ≡ who → lock_after past who ≡ None → (seat_state s).holds ≡ None
is_free s past who past_is who_is free =
    subst (λ p. lock_after p s.who ≡ None) (sym past_is) (subst (λ w. lock_after past w ≡ None) (sym who_is) free)

-- it was admitted, and hasn't died
pub is_alive : (s : Seated) → (past : List Event) → (who : ℕ) → s.region.past ≡ past → s.who ≡ who →
    (account_of s.region.accounts who).admitted ≡ true → has_died past who ≡ false → (seat_state s).ended ≡ false
is_alive s past who past_is who_is admitted living =
    subst (λ p. (not (account_of s.region.accounts s.who).admitted || has_died p s.who) ≡ false) (sym past_is)
    (subst (λ w. (not (account_of s.region.accounts w).admitted || has_died past w) ≡ false) (sym who_is)
    (rw admitted living))

-- another that shares the lock leaves it alone
other_shares : (past : List Event) (who w : ℕ) → w ≢ who → lock_after past w ≡ None → lock_after (event_of who (Lock Shared) ∷ past) w ≡ None
other_shares past who w n free =
    let same : set.contains (set.insert (locks_after past).shared who) w ≡ set.contains (locks_after past).shared w =
    set.contains-insert nat_cmp_total (locks_after past).shared who w ∙ grind (arith, nat_tests) in
    ap (λ b. if holds_exclusive (locks_after past) w then Some Exclusive else (if b then Some Shared else None)) same ∙ free

pub free_at_first : lock_after [] 2 ≡ None
free_at_first = lock_at_first 2

pub free_beside_one : lock_after one_shares 1 ≡ None
free_beside_one = other_shares [] 2 1 (λ e. absurd cc) (lock_at_first 1)

pub free_beside_two : lock_after two_share 3 ≡ None
free_beside_two = other_shares one_shares 1 3 (λ e. absurd cc) (other_shares [] 2 3 (λ e. absurd cc) (lock_at_first 3))

pub free_after_death : lock_after one_left 3 ≡ None
free_after_death = lock_other (record { data_bytes = []; meta_bytes = [] }) (locks_after two_share) 1 3 (Died None) (λ e. absurd cc) (tt, tt) ∙ free_beside_two
