-- What a call counts tells which answers need a load of the region or a change.
use Rattle.std.proofs.Common.{◌≡◌, ◌≤◌, ℕ, Bool, true, false, arith, refl, sym, ◌∙◌, subst, ap}
use Rattle.std.specs.Prelude.{Option, Some, None, nat_lt, not, ◌==◌, ◌&&◌, ◌||◌, ⊤}
use Rattle.std.proofs.lemmas.Bool.Decides.{nat_tests}
use Rattle.change_log.specs.declared.call.Answer.{Answer}
use Rattle.change_log.specs.declared.call.Call.{Call}
use Rattle.change_log.specs.declared.call.Call.TheVariants as call
use Rattle.lock_rules.specs.declared.table.LockKind.{LockKind}
use Rattle.region_words.specs.declared.next.Next.{Next}
use Rattle.region_words.specs.declared.next.Next.TheVariants as next
use Rattle.region_words.specs.declared.stops.ShareStop.{ShareStop}
use Rattle.region_words.specs.declared.stops.ShareStop.TheVariants.{Failed, Turn, Memory, JournalFull}
use Rattle.loader.specs.declared.loaded.Image.{Image}
use Rattle.opener.specs.State.{OpenerState}
use Rattle.opener.specs.Begins.{IsFirst, IsFirstPlain, begun_at}
use Rattle.opener.specs.Calls.{AfterStop, is_write}
use Rattle.opener.specs.Counted.{with_stored}
use Rattle.opener.specs.Ends.{Finishes, GoesOn, IsReady, IsReadyBy, Leaves, LeavesBy, Notices, Reads, ReadsBy, lock_by}
use Rattle.opener.specs.Fresh.{CountedBy, CountsLooks, CountsNone, CountsSoFar, HasCounted, answers_by_look}
use Rattle.opener.specs.declared.calls.Step.{Step}
use Rattle.opener.specs.declared.work.Running.{Running}
use Rattle.opener.specs.declared.work.End.{End}
use Rattle.opener.specs.declared.work.End.TheVariants as end
use Rattle.opener.specs.declared.work.Stage.{Stage}
use Rattle.opener.specs.declared.work.Stage.TheVariants.{PeekChecksum, PeekSequence, LockShared, LockExclusive, Continue, Load, Size, Reserve, Store, Unlock, Hold, Release}

over_two : (n : ℕ) → 3 ≤ n → nat_lt 2 n ≡ true
over_two n many = grind (arith, nat_tests)

pub fresh_counts : (loads stores : ℕ) → 3 ≤ loads → (nat_lt 2 loads || nat_lt 0 stores) ≡ true
fresh_counts loads stores many = ap (λ b. b || nat_lt 0 stores) (over_two loads many)

pub few_counts : (loads stores n : ℕ) → nat_lt 2 n ≡ false → loads ≡ n → stores ≡ 0 → (nat_lt 2 loads || nat_lt 0 stores) ≡ false
few_counts loads stores n few loads_are stores_are = (λ i. nat_lt 2 (loads_are i) || nat_lt 0 (stores_are i)) ∙ ap (λ b. b || nat_lt 0 0) few

-- a store is no load
pub stored_loads : (event : Next) (old new : Running) → new ≡ with_stored event old → new.loads ≡ old.loads
stored_loads (next.Store side word value) old new e = ap (λ (r : Running). r.loads) e
stored_loads (next.Grow size) old new e = ap (λ (r : Running). r.loads) e
stored_loads next.End old new e = ap (λ (r : Running). r.loads) e

pub going_counted : (here : Stage) (next : Running) (stage : Stage) (mid : OpenerState) (result : Step) (new : OpenerState) → HasCounted stage next → GoesOn next stage mid result new →
    CountedBy result here new.work
going_counted here next stage mid result new has on =
    subst (λ r. CountedBy r here new.work) (sym on.0) (subst (λ (n : OpenerState). CountsSoFar n.work) (sym on.1) has)

pub stopped_counted : (stop : ShareStop) (o : OpenerState) (running : Running) (stage : Stage) (result : Step) (new : OpenerState) → HasCounted stage running → AfterStop stop o running stage result new →
    CountedBy result stage new.work
stopped_counted Turn o running stage result new has after =
    subst (λ r. CountedBy r stage new.work) (sym after.0) (subst (λ (n : OpenerState). CountsSoFar n.work) (sym after.1) has)
stopped_counted Failed o running stage result new has after = subst (λ r. CountedBy r stage new.work) (sym after.0) tt
stopped_counted Memory o running stage result new has after = subst (λ r. CountedBy r stage new.work) (sym after.0) tt
stopped_counted JournalFull o running stage result new has after = subst (λ r. CountedBy r stage new.work) (sym after.0) tt

-- an answer that no look gives has no looks to count
no_looks : (at : Stage) (a : Answer) → answers_by_look at ≡ false → CountsLooks at a
no_looks (PeekSequence peek) a none = absurd cc
no_looks PeekChecksum a none = tt
no_looks (LockShared extent) a none = tt
no_looks LockExclusive a none = tt
no_looks (Continue loading) a none = tt
no_looks (Load loading) a none = tt
no_looks Size a none = tt
no_looks (Reserve plan) a none = tt
no_looks (Store plan) a none = tt
no_looks (Unlock how) a none = tt
no_looks Hold a none = tt
no_looks Release a none = tt

two_looks : (at : Stage) (a : Answer) → a.loads ≡ 2 → a.stores ≡ 0 → CountsLooks at a
two_looks (PeekSequence peek) a loads stores = (loads, stores)
two_looks PeekChecksum a loads stores = tt
two_looks (LockShared extent) a loads stores = tt
two_looks LockExclusive a loads stores = tt
two_looks (Continue loading) a loads stores = tt
two_looks (Load loading) a loads stores = tt
two_looks Size a loads stores = tt
two_looks (Reserve plan) a loads stores = tt
two_looks (Store plan) a loads stores = tt
two_looks (Unlock how) a loads stores = tt
two_looks Hold a loads stores = tt
two_looks Release a loads stores = tt

-- what a call has counted that ends so after a load of the region
abbrev pub EndCounted : End → Stage → Running → Type 0
EndCounted (end.Answer place reply) at next = (answers_by_look at ≡ false) × (3 ≤ next.loads)
EndCounted (end.Stop why) at next = ⊤

pub finishes_counted : (at : Stage) (next : Running) (how : End) (ended : ℕ) (mid : OpenerState) (result : Step) (new : OpenerState) → EndCounted how at next → Finishes next how ended mid result new →
    CountedBy result at new.work
finishes_counted at next (end.Answer place reply) ended mid result new has is =
    subst (λ r. CountedBy r at new.work) (sym is.0) (fresh_counts next.loads next.stores has.1 ∙ sym (ap not has.0), no_looks at _ has.0)
finishes_counted at next (end.Stop why) ended mid result new has is = subst (λ r. CountedBy r at new.work) (sym is.0) tt

pub leaves_counted : (at : Stage) (next : Running) (how : End) (ended : ℕ) (mid : OpenerState) (result : Step) (new : OpenerState) → EndCounted how at next → Leaves next how ended mid result new →
    CountedBy result at new.work
leaves_counted at next how ended mid result new has leaves = go next.taken how has leaves
  where
    go : (taken : Option LockKind) (how : End) → EndCounted how at next → LeavesBy taken next how ended mid result new → CountedBy result at new.work
    go None how has is = finishes_counted at next how ended mid result new has is
    go (Some kind) (end.Answer place reply) has is = going_counted at next (Unlock (end.Answer place reply)) mid result new has.1 is
    go (Some kind) (end.Stop why) has is = going_counted at next (Unlock (end.Stop why)) mid result new tt is

-- and what a read has counted that a look answers, or a load
abbrev pub ReadCounted : Bool → Running → Type 0
ReadCounted true next = (next.loads ≡ 2) × (next.stores ≡ 0) × (next.taken ≡ None)
ReadCounted false next = 3 ≤ next.loads

pub ready_counted : (at : Stage) (next : Running) (place ended : ℕ) (mid : OpenerState) (result : Step) (new : OpenerState) → 2 ≤ next.loads →
    (is_write next.call ≡ false → ReadCounted (answers_by_look at) next) → IsReady next place ended mid result new → CountedBy result at new.work
ready_counted at next place ended mid result new sizes reads ready = go (is_write next.call) refl ready
  where
    ends : (how : End) → answers_by_look at ≡ false → 3 ≤ next.loads → EndCounted how at next
    ends (end.Answer place reply) loads many = (loads, many)
    ends (end.Stop why) loads many = tt

    looked : (how : End) → answers_by_look at ≡ true → ReadCounted true next → Finishes next how ended mid result new → CountedBy result at new.work
    looked (end.Answer place reply) looks has is =
        subst (λ r. CountedBy r at new.work) (sym is.0) (few_counts next.loads next.stores 2 refl has.0 has.1 ∙ sym (ap not looks), two_looks at _ has.0 has.1)
    looked (end.Stop why) looks has is = subst (λ r. CountedBy r at new.work) (sym is.0) tt

    read : (how : End) (b : Bool) → answers_by_look at ≡ b → ReadCounted b next → Leaves next how ended mid result new → CountedBy result at new.work
    read how true looks has leaves = looked how looks has (subst (λ taken. LeavesBy taken next how ended mid result new) has.2 leaves)
    read how false loads many leaves = leaves_counted at next how ended mid result new (ends how loads many) leaves

    go : (b : Bool) → is_write next.call ≡ b → IsReadyBy b next place ended mid result new → CountedBy result at new.work
    go true write on = going_counted at next Size mid result new sizes on
    go false is_read (how, replies, leaves) = read how (answers_by_look at) refl (reads is_read) leaves

-- the lock is given up
pub unlocked_counted : (who : ℕ) (running : Running) (how : End) (ended : ℕ) (mid : OpenerState) (result : Step) (new : OpenerState) → HasCounted (Unlock how) running →
    Finishes running how ended mid result new → CountedBy result (Unlock how) new.work
unlocked_counted who running (end.Answer place reply) ended mid result new has is = finishes_counted (Unlock (end.Answer place reply)) running (end.Answer place reply) ended mid result new (refl, has) is
unlocked_counted who running (end.Stop why) ended mid result new has is = finishes_counted (Unlock (end.Stop why)) running (end.Stop why) ended mid result new tt is

-- a load that is next has made none
pub reads_counted : (next : Running) (holds : ℕ) (taken : Option LockKind) (to : Stage) → Reads holds taken to → HasCounted to next
reads_counted next holds taken to reads = go (lock_by holds taken) reads
  where
    go : (lock : Option LockKind) → ReadsBy lock to → HasCounted to next
    go None is = subst (λ z. HasCounted z next) (sym is) tt
    go (Some kind) (loading, is, fresh) = subst (λ z. HasCounted z next) (sym is) (omega (arith, fresh.none))

pub notices_counted : (next : Running) (image : Option Image) (holds : ℕ) (taken : Option LockKind) (to : Stage) → Notices image holds taken to → CountsNone next → HasCounted to next
notices_counted next None holds taken to notices none = reads_counted next holds taken to notices
notices_counted next (Some i) holds taken to is none = subst (λ z. HasCounted z next) (sym is) none

-- a call begins with no counts
pub first_counted : (image : Option Image) (holds : ℕ) (asked : Call) (now changes : ℕ) (first : Stage) → IsFirst image holds asked first → HasCounted first (begun_at asked now changes)
first_counted image holds asked now changes first is = go asked is
  where
    notices : Notices image holds None first → HasCounted first (begun_at asked now changes)
    notices is = notices_counted (begun_at asked now changes) image holds None first is (refl, refl)

    plain : (b : Bool) → IsFirstPlain b image holds first → HasCounted first (begun_at asked now changes)
    plain true is = subst (λ z. HasCounted z (begun_at asked now changes)) (sym is) (refl, refl)
    plain false is = notices is

    go : (c : Call) → IsFirst image holds c first → HasCounted first (begun_at asked now changes)
    go call.Hold is = subst (λ z. HasCounted z (begun_at asked now changes)) (sym is) (refl, refl)
    go call.Release is = subst (λ z. HasCounted z (begun_at asked now changes)) (sym is) (refl, refl)
    go (call.Get key) is = plain (is_write (call.Get key) && (holds == 0)) is
    go (call.Put key value seconds) is = plain (is_write (call.Put key value seconds) && (holds == 0)) is
    go (call.Remove key) is = plain (is_write (call.Remove key) && (holds == 0)) is
    go call.Clear is = plain (is_write call.Clear && (holds == 0)) is
    go call.Keys is = plain (is_write call.Keys && (holds == 0)) is
    go call.Count is = plain (is_write call.Count && (holds == 0)) is
    go (call.Enable seconds) is = plain (is_write (call.Enable seconds) && (holds == 0)) is
    go call.Disable is = plain (is_write call.Disable && (holds == 0)) is
    go call.Sync is = plain (is_write call.Sync && (holds == 0)) is
