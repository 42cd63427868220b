-- Two openers, of which one writes the value of the other anew: their four answers are one legal history.
use Rattle.std.proofs.Common.{◌≡◌, ◌≢◌, ℕ, List, [], ◌∷◌, refl, lit<, lit≤, ◌≤◌, inl, inr, arith, zero, suc}
use Rattle.std.specs.Prelude.{slice_get, Some, All, AllPairs}
use Rattle.std.specs.Cmp.Lexicographic.{nat_list_cmp_total}
use Rattle.std.specs.FinMap as fin
use Rattle.std.proofs.lemmas.List.Elements.{All-nil, All-cons}
use Rattle.std.proofs.lemmas.List.Kept.{AllPairs-cons}
use Rattle.expiring_map.specs.Map.{Map, value_until}
use Rattle.expiring_map.specs.Live.{value_at}
use Rattle.expiring_map.proofs.MapLemmas.{get-with_expiry}
use Rattle.change_log.specs.Acts.{replay}
use Rattle.change_log.specs.History.{Legal, IsPlaced, IsMade, IsOwned, IsFollowed}
use Rattle.change_log.specs.declared.change.Act.TheVariants as act
use Rattle.change_log.specs.declared.call.Call.TheVariants as call
use Rattle.change_log.specs.declared.call.Reply.TheVariants as reply
use Rattle.change_log.specs.declared.change.Change.{Change}
use Rattle.change_log.specs.declared.call.Answer.{Answer}
use Rattle.change_log.specs.EachCaller.{LegalFor}
use Rattle.change_log.specs.Settled.{IsSettled, HasMade}
use Rattle.change_log.proofs.Settled.{settled_first, settled_by_a_write, cut_is_legal}

abbrev key : List ℕ
key = 0x6b ∷ []

abbrev long_value : List ℕ
long_value = 0x76 ∷ 0 ∷ 0 ∷ 0 ∷ 0 ∷ []

abbrev begin : Map
begin = fin.insert fin.empty key (value_until long_value 0)

abbrev changes : List Change
changes = record { maker = 2; act = act.Put key (0x76 ∷ []) 0 } ∷ record { maker = 2; act = act.Enable 100 0 } ∷ []

abbrev first : Answer
first = record { who = 1; call = call.Get key; now = 100; begun = 0; place = 0; ended = 0; reply = reply.Value long_value; loads = 13; stores = 0; locks = 1 }

abbrev second : Answer
second = record { who = 2; call = call.Put key (0x76 ∷ []) 0; now = 100; begun = 0; place = 0; ended = 1; reply = reply.Done; loads = 14; stores = 4; locks = 1 }

abbrev third : Answer
third = record { who = 2; call = call.Enable 0; now = 100; begun = 1; place = 1; ended = 2; reply = reply.Done; loads = 3; stores = 14; locks = 1 }

abbrev fourth : Answer
fourth = record { who = 1; call = call.Get key; now = 100; begun = 1; place = 2; ended = 2; reply = reply.Value (0x76 ∷ []); loads = 15; stores = 0; locks = 1 }

abbrev answers : List Answer
answers = first ∷ second ∷ third ∷ fourth ∷ []

first_value : value_at begin key 100 ≡ Some long_value
first_value = rw (fin.get-insert nat_list_cmp_total) refl

last_value : value_at (replay begin changes) key 100 ≡ Some (0x76 ∷ [])
last_value = rw (get-with_expiry, fin.get-insert nat_list_cmp_total) refl

first_placed : IsPlaced begin changes first
first_placed = record { begun = lit≤ tt; ended = lit≤ tt; within = lit≤ tt; reply = rw first_value refl }

second_placed : IsPlaced begin changes second
second_placed = record { begun = lit≤ tt; ended = lit≤ tt; within = lit≤ tt; reply = refl }

third_placed : IsPlaced begin changes third
third_placed = record { begun = lit≤ tt; ended = lit≤ tt; within = lit≤ tt; reply = refl }

fourth_placed : IsPlaced begin changes fourth
fourth_placed = record { begun = lit≤ tt; ended = lit≤ tt; within = lit≤ tt; reply = rw last_value refl }

all_placed : All (IsPlaced begin changes) answers
all_placed =
    let P = IsPlaced begin changes in
    All-cons P first (second ∷ third ∷ fourth ∷ []) first_placed
    (All-cons P second (third ∷ fourth ∷ []) second_placed
    (All-cons P third (fourth ∷ []) third_placed (All-cons P fourth [] fourth_placed (All-nil P))))

all_made : All (IsMade begin changes) answers
all_made =
    let P = IsMade begin changes in
    All-cons P first (second ∷ third ∷ fourth ∷ []) tt
    (All-cons P second (third ∷ fourth ∷ []) (lit< tt, refl)
    (All-cons P third (fourth ∷ []) (lit< tt, refl) (All-cons P fourth [] tt (All-nil P))))

abbrev InOrder : Answer → Answer → Type 0
InOrder a b = a.who ≡ b.who → a.ended ≤ b.begun

all_in_order : AllPairs InOrder answers
all_in_order =
    let after_first = All-cons (InOrder first) second (third ∷ fourth ∷ []) (λ e. absurd cc) (All-cons (InOrder first) third (fourth ∷ []) (λ e. absurd cc) (All-cons (InOrder first) fourth [] (λ e. lit≤ tt) (All-nil (InOrder first)))) in
    let after_second = All-cons (InOrder second) third (fourth ∷ []) (λ e. lit≤ tt) (All-cons (InOrder second) fourth [] (λ e. absurd cc) (All-nil (InOrder second))) in
    let after_third = All-cons (InOrder third) fourth [] (λ e. absurd cc) (All-nil (InOrder third)) in
    AllPairs-cons InOrder first (second ∷ third ∷ fourth ∷ []) after_first
    (AllPairs-cons InOrder second (third ∷ fourth ∷ []) after_second
    (AllPairs-cons InOrder third (fourth ∷ []) after_third (AllPairs-cons InOrder fourth [] (All-nil (InOrder fourth)) (λ i j d lt within. absurd (omega (arith, within))))))

both_owned : (i : ℕ) (c : Change) → slice_get changes i ≡ Some c → IsOwned changes answers i c
both_owned zero c e = λ _. inl (1, second, lit< tt, refl, (refl, refl))
both_owned (suc zero) c e = λ _. inl (2, third, lit< tt, refl, (refl, refl))
both_owned (suc (suc i)) c e = absurd cc

none_packed : (i : ℕ) (c : Change) → slice_get changes i ≡ Some c → IsFollowed changes answers i c
none_packed zero c e = λ t is. absurd cc
none_packed (suc zero) c e = λ t is. absurd cc
none_packed (suc (suc i)) c e = absurd cc

one_history : Legal begin changes answers
one_history = record { in_order = all_in_order; placed = all_placed; made = all_made; owned = both_owned; followed = none_packed }

abbrev packed : List Change
packed = record { maker = 2; act = act.Pack 100 } ∷ record { maker = 2; act = act.Put key (0x76 ∷ []) 0 } ∷ []

abbrev packer : Answer
packer = record { who = 2; call = call.Put key (0x76 ∷ []) 0; now = 100; begun = 0; place = 1; ended = 2; reply = reply.Done; loads = 14; stores = 14; locks = 1 }

packer_made : HasMade 2 begin [] packed packer
packer_made = record { caller = refl; changes = inr (refl, refl); makes = refl; begun = lit≤ tt; place = refl; ended = refl; reply = refl }

-- a caller that made room by a write-back and then put is settled
packer_is_settled : IsSettled 2 begin packed (packer ∷ [])
packer_is_settled =
    settled_by_a_write 2 begin [] packed [] packer (settled_first 2 begin [] (All-nil (λ c. c.maker ≢ 2))) (All-nil (λ a. a.ended ≤ 0)) packer_made

-- where it died between the two it is legal too
cut_packer_is_legal : LegalFor 2 begin (record { maker = 2; act = act.Pack 100 } ∷ []) []
cut_packer_is_legal =
    cut_is_legal 2 begin [] (record { maker = 2; act = act.Pack 100 } ∷ []) [] [] packer.call 100 (settled_first 2 begin [] (All-nil (λ c. c.maker ≢ 2)))
    (record { maker = 2; act = act.Put key (0x76 ∷ []) 0 } ∷ [], inr (refl, refl)) (All-nil (λ c. c.maker ≢ 2))
