-- The lock that an opener holds, after its own events and those of others.
use Rattle.std.proofs.Common.{◌≡◌, ◌≢◌, ℕ, Bool, true, false, List, ◌∷◌, refl, sym, ap, ◌∙◌, arith, ◌&&◌, ◌||◌, not, cond}
use Rattle.std.specs.Prelude.{Option, Some, None, IsTrue, ◌==◌, if◌then◌else◌}
use Rattle.std.specs.Option.{option_map_or}
use Rattle.std.specs.Ordering.{nat_cmp, eq_by_cmp}
use Rattle.std.specs.Cmp.{nat_cmp_total}
use Rattle.std.specs.FinSet as set
use Rattle.std.proofs.lemmas.Bool.Decides.{nat_tests}
use Rattle.lock_rules.specs.Locks.{Locks, holds, holds_exclusive, without_holder, with_lock, MayTake, unlocked}
use Rattle.lock_rules.specs.declared.table.LockKind.{LockKind}
use Rattle.lock_rules.specs.declared.table.LockKind.TheVariants.{Shared, Exclusive}
use Rattle.region_words.specs.Region.{Region}
use Rattle.region_words.specs.Past.{locks_step, has_died}
use Rattle.region_words.specs.Lawful.{IsPossible}
use Rattle.region_words.specs.Share.{lock_of}
use Rattle.region_words.specs.declared.event.What.{What}
use Rattle.region_words.specs.declared.event.What.TheVariants.{Store, Grow, Lock, Unlock, Died}
use Rattle.region_words.specs.declared.event.Event.{Event}

-- the lock by its two tests
abbrev lock_by : Bool → Bool → Option LockKind
lock_by exclusive shared = if exclusive then Some Exclusive else (if shared then Some Shared else None)

pub holds_none : (locks : Locks) (who : ℕ) → lock_of locks who ≡ None → holds locks who ≡ false
holds_none locks who e = go (holds_exclusive locks who) (set.contains locks.shared who) e
  where
    go : (x s : Bool) → lock_by x s ≡ None → (x || s) ≡ false
    go true s e = absurd cc
    go false true e = absurd cc
    go false false e = refl

pub none_holds : (locks : Locks) (who : ℕ) → holds locks who ≡ false → lock_of locks who ≡ None
none_holds locks who e = go (holds_exclusive locks who) (set.contains locks.shared who) e
  where
    go : (x s : Bool) → (x || s) ≡ false → lock_by x s ≡ None
    go true s e = absurd cc
    go false true e = absurd cc
    go false false e = refl

pub holds_some : (locks : Locks) (who : ℕ) → lock_of locks who ≢ None → holds locks who ≡ true
holds_some locks who e = go (holds_exclusive locks who) (set.contains locks.shared who) e
  where
    go : (x s : Bool) → (lock_by x s ≡ None → ⊥) → (x || s) ≡ true
    go true s e = refl
    go false true e = refl
    go false false e = absurd (e refl)

pub some_holds : (locks : Locks) (who : ℕ) → holds locks who ≡ true → lock_of locks who ≢ None
some_holds locks who e none = let free = holds_none locks who none in absurd cc

pub is_exclusive : (locks : Locks) (who : ℕ) → IsTrue (holds_exclusive locks who) → lock_of locks who ≡ Some Exclusive
is_exclusive locks who e = ap (λ x. lock_by x (set.contains locks.shared who)) e

pub exclusive_is : (locks : Locks) (who : ℕ) → lock_of locks who ≡ Some Exclusive → IsTrue (holds_exclusive locks who)
exclusive_is locks who e = go (holds_exclusive locks who) (set.contains locks.shared who) e
  where
    go : (x s : Bool) → lock_by x s ≡ Some Exclusive → x ≡ true
    go true s e = refl
    go false true e = absurd cc
    go false false e = absurd cc

pub exclusive_holds : (locks : Locks) (who : ℕ) → lock_of locks who ≡ Some Exclusive → holds locks who ≡ true
exclusive_holds locks who e = holds_some locks who (λ none. clash (sym none ∙ e))
  where
    clash : None ≡ Some Exclusive → ⊥
    clash e = cc

two : (a b c d : Bool) → a ≡ c → b ≡ d → lock_by a b ≡ lock_by c d
two a b c d p q = (λ i. lock_by (p i) (q i))

same_left : (o : Option ℕ) (who w : ℕ) → w ≢ who →
    option_map_or (λ h. h == w) (option_map_or (λ h. if h == who then None else Some h) o None) false ≡ option_map_or (λ h. h == w) o false
same_left None who w n = refl
same_left (Some x) who w n = go (x == who) refl
  where
    go : (b : Bool) → (x == who) ≡ b → option_map_or (λ h. h == w) (cond b None (Some x)) false ≡ (x == w)
    go true e = let other : (x == w) ≡ false = grind (arith, nat_tests) in sym other
    go false e = refl

-- what others do leaves it alone
pub lock_other : (r : Region) (locks : Locks) (who w : ℕ) (what : What) → w ≢ who → IsPossible r locks who what →
    lock_of (locks_step locks who what) w ≡ lock_of locks w
lock_other r locks who w (Store side word value mark) n p = refl
lock_other r locks who w (Grow size) n p = refl
lock_other r locks who w (Lock Shared) n p =
    two (holds_exclusive locks w) _ (holds_exclusive locks w) _ refl (set.contains-insert nat_cmp_total locks.shared who w ∙ grind (arith, nat_tests))
lock_other r locks who w (Lock Exclusive) n p =
    let none : holds_exclusive locks w ≡ false = ap (λ o. option_map_or (λ h. h == w) o false) p.1 in
    let other : (who == w) ≡ false = grind (arith, nat_tests) in
    two _ (set.contains locks.shared w) _ (set.contains locks.shared w) (other ∙ sym none) refl
lock_other r locks who w Unlock n p =
    two _ _ _ _ (same_left locks.exclusive who w n) (set.contains-remove nat_cmp_total locks.shared who w ∙ grind (arith, nat_tests))
lock_other r locks who w (Died torn) n p =
    two _ _ _ _ (same_left locks.exclusive who w n) (set.contains-remove nat_cmp_total locks.shared who w ∙ grind (arith, nat_tests))

-- after it gave up it holds nothing
pub lock_without : (locks : Locks) (who : ℕ) → lock_of (without_holder locks who) who ≡ None
lock_without locks who =
    two _ _ false false (gone locks.exclusive) (set.contains-remove nat_cmp_total locks.shared who who ∙ grind (arith, nat_tests))
  where
    gone : (o : Option ℕ) → option_map_or (λ h. h == who) (option_map_or (λ h. if h == who then None else Some h) o None) false ≡ false
    gone None = refl
    gone (Some x) = go (x == who) refl
      where
        go : (b : Bool) → (x == who) ≡ b → option_map_or (λ h. h == who) (cond b None (Some x)) false ≡ false
        go true e = refl
        go false e = e

-- after it took the lock it holds it
pub lock_with : (locks : Locks) (who : ℕ) (kind : LockKind) → MayTake locks who kind → lock_of (with_lock locks who kind) who ≡ Some kind
lock_with locks who Shared p =
    let none : holds_exclusive locks who ≡ false = ap (λ o. option_map_or (λ h. h == who) o false) p.1 in
    two _ _ false true none (set.contains-insert nat_cmp_total locks.shared who who ∙ grind (arith, nat_tests))
lock_with locks who Exclusive p =
    let here : (who == who) ≡ true = grind (arith, nat_tests) in
    two _ (set.contains locks.shared who) true (set.contains locks.shared who) here refl

-- at first nobody holds anything
pub lock_at_first : (who : ℕ) → lock_of unlocked who ≡ None
lock_at_first who = two false _ false false refl (set.contains-empty nat_cmp who)

-- who dies has died, and nobody else
pub died_other : (e : Event) (past : List Event) (w : ℕ) → w ≢ e.who → has_died (e ∷ past) w ≡ has_died past w
died_other e past w n = let other : (e.who == w) ≡ false = grind (arith, nat_tests) in rw other refl

remove_absent : (s : set.FinSet nat_cmp) (who : ℕ) → set.contains s who ≡ false → set.remove s who ≡ s
remove_absent s who none = set.same_set nat_cmp_total set.nat_cmp-IsAntisymmetric (set.remove s who) s (λ q. set.contains-remove nat_cmp_total s who q ∙ grind (arith, nat_tests))

-- a lock that was taken and given up leaves what stood before
pub taken_back : (locks : Locks) (who : ℕ) (kind : LockKind) → MayTake locks who kind → holds locks who ≡ false → without_holder (with_lock locks who kind) who ≡ locks
taken_back locks who Shared may free =
    let out : set.contains locks.shared who ≡ false = right (holds_exclusive locks who) (set.contains locks.shared who) free in
    let back : set.remove (set.insert locks.shared who) who ≡ locks.shared =
    set.same_set nat_cmp_total set.nat_cmp-IsAntisymmetric (set.remove (set.insert locks.shared who) who) locks.shared
    (λ q. set.contains-remove nat_cmp_total (set.insert locks.shared who) who q ∙ ap (λ b. not (eq_by_cmp nat_cmp q who) && b) (set.contains-insert nat_cmp_total locks.shared who q) ∙ grind (arith, nat_tests)) in
    (λ i. record { shared = back i; exclusive = (ap (λ o. option_map_or (λ h. if h == who then None else Some h) o None) may.1 ∙ sym may.1) i })
  where
    right : (a b : Bool) → (a || b) ≡ false → b ≡ false
    right true b e = absurd cc
    right false b e = e
taken_back locks who Exclusive may free =
    let out : set.contains locks.shared who ≡ false = ap (λ m. set.contains m who) may.0 ∙ set.contains-empty nat_cmp who in
    let here : (who == who) ≡ true = grind (arith, nat_tests) in
    (λ i. record { shared = remove_absent locks.shared who out i; exclusive = (ap (λ b. if b then None else Some who) here ∙ sym may.1) i })
