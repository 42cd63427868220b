-- The stores and locks of a call are counted by its events.
use Rattle.std.proofs.Common.{◌≡◌, ℕ, zero, suc, ◌+◌, ◌≤◌, Bool, true, false, cond, List, [], ◌∷◌, ◌++◌, length, refl, ap, ◌∙◌, arith}
use Rattle.std.proofs.lemmas.Bool.Decides.{nat_tests}
use Rattle.std.specs.Prelude.{None, filter}
use Rattle.lock_rules.specs.Locks.{Locks, MayTake}
use Rattle.lock_rules.specs.declared.table.LockKind.{LockKind}
use Rattle.lock_rules.specs.declared.table.LockKind.TheVariants.{Shared, Exclusive}
use Rattle.opener.specs.Adds.{locks_taken, raised, stores_in}
use Rattle.opener.specs.Counted.{counted}
use Rattle.opener.proofs.Adding.{gives_lock, keeps_lock, takes_lock}
use Rattle.region_words.specs.Answered.{is_store}
use Rattle.region_words.specs.Lawful.{IsPossible, Lawful}
use Rattle.region_words.specs.Local.{lock_after}
use Rattle.region_words.specs.Past.{locks_after, locks_step, region_after}
use Rattle.region_words.specs.Region.{Region}
use Rattle.region_words.specs.Share.{lock_of, made_by}
use Rattle.region_words.specs.declared.event.Event.{Event}
use Rattle.region_words.specs.declared.event.What.{What}
use Rattle.region_words.specs.declared.event.What.TheVariants.{Store, Grow, Lock, Unlock, Died}
use Rattle.region_words.proofs.LockOf.{lock_at_first, lock_with, lock_without, none_holds}
use Rattle.script_lang.specs.Parts.{is_lock, locks_among, stores_among}

-- the stores of an opener's events
pub stores_of_own : (who : ℕ) (own : List What) → stores_in own ≡ stores_among (made_by who own)
stores_of_own who [] = refl
stores_of_own who (x ∷ own) = go (is_store x) (stores_of_own who own)
  where
    go : (b : Bool) → stores_in own ≡ stores_among (made_by who own) → length (cond b (x ∷ filter is_store own) (filter is_store own))
        ≡ length (cond b (record { who = who; what = x } ∷ filter (λ e. is_store e.what) (made_by who own)) (filter (λ e. is_store e.what) (made_by who own)))
    go true same = ap suc same
    go false same = same

-- before a lock is taken nothing is held
pub free_before : (locks : Locks) (who : ℕ) (kind : LockKind) → MayTake locks who kind → lock_of locks who ≡ None
free_before locks who Shared may = none_holds locks who may.0
free_before locks who Exclusive may = (λ i. lock_of (record { shared = may.0 i; exclusive = may.1 i }) who) ∙ lock_at_first who

-- an event takes a lock or none
pub locks_of_one : (r : Region) (locks : Locks) (who : ℕ) (what : What) → IsPossible r locks who what → locks_taken (lock_of locks who) (lock_of (locks_step locks who what) who) ≡ cond (is_lock what) 1 0
locks_of_one r locks who (Store side word value mark) may = keeps_lock (lock_of locks who) (lock_of locks who) refl
locks_of_one r locks who (Grow size) may = keeps_lock (lock_of locks who) (lock_of locks who) refl
locks_of_one r locks who (Lock kind) may = takes_lock kind (lock_of locks who) _ (free_before locks who kind may) (lock_with locks who kind may)
locks_of_one r locks who Unlock may = gives_lock (lock_of locks who) _ (lock_without locks who)
locks_of_one r locks who (Died torn) may = gives_lock (lock_of locks who) _ (lock_without locks who)

-- a count of 32 bits goes on
pub counted_more : (n k : ℕ) → n ≤ 1 → raised n (counted k) ≡ counted (n + k)
counted_more zero k few = let same : k ≡ 0 + k = omega arith in ap counted same
counted_more (suc zero) k few = grind (arith, nat_tests)
counted_more (suc (suc n)) k few = absurd (omega (arith, few))

-- one list of events behind another
pub filter_join : (p : Event → Bool) (xs ys : List Event) → length (filter p (xs ++ ys)) ≡ length (filter p xs) + length (filter p ys)
filter_join p [] ys = let same : length (filter p ys) ≡ 0 + length (filter p ys) = omega arith in same
filter_join p (x ∷ xs) ys = go (p x) (filter_join p xs ys)
  where
    go : (b : Bool) → length (filter p (xs ++ ys)) ≡ length (filter p xs) + length (filter p ys) →
        length (cond b (x ∷ filter p (xs ++ ys)) (filter p (xs ++ ys))) ≡ length (cond b (x ∷ filter p xs) (filter p xs)) + length (filter p ys)
    go true same = omega (arith, same)
    go false same = same

-- counts that were raised by the events of a step are those of all events
pub count_goes_on : (p : Event → Bool) (own since : List Event) (n before now : ℕ) → n ≡ length (filter p own) → length own ≤ 1 → before ≡ counted (length (filter p since)) → now ≡ raised n before →
    now ≡ counted (length (filter p (own ++ since)))
count_goes_on p own since n before now is few counts raises =
    raises ∙ ap (raised n) counts ∙ counted_more n (length (filter p since)) (omega (arith, is, few, filter_least p own))
    ∙ ap counted (let all : n + length (filter p since) ≡ length (filter p (own ++ since)) = omega (arith, is, filter_join p own since) in all)
  where
    filter_least : (p : Event → Bool) (xs : List Event) → length (filter p xs) ≤ length xs
    filter_least p [] = omega arith
    filter_least p (x ∷ xs) = go (p x) (filter_least p xs)
      where
        go : (b : Bool) → length (filter p xs) ≤ length xs → length (cond b (x ∷ filter p xs) (filter p xs)) ≤ length (x ∷ xs)
        go true le = omega (arith, le)
        go false le = omega (arith, le)

-- the locks of an opener's event
pub own_locks : (start : Region) (past : List Event) (who : ℕ) (own : List What) → length own ≤ 1 → Lawful start (made_by who own ++ past) →
    locks_taken (lock_after past who) (lock_after (made_by who own ++ past) who) ≡ locks_among (made_by who own)
own_locks start past who [] few l = keeps_lock (lock_after past who) (lock_after past who) refl
own_locks start past who (x ∷ []) few l = locks_of_one (region_after start past) (locks_after past) who x l.1.possible ∙ go (is_lock x)
  where
    go : (b : Bool) → cond b 1 0 ≡ length {A = Event} (cond b (record { who = who; what = x } ∷ []) [])
    go true = refl
    go false = refl
own_locks start past who (x ∷ y ∷ own) few l = absurd (omega (arith, few))
