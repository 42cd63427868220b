-- The images of a region's sizes are among the strings.
use Rattle.std.proofs.Common.{◌≡◌, ℕ, zero, suc, Bool, true, false, List, [], ◌∷◌, ◌++◌, refl, ap, ◌∙◌, arith}
use Rattle.std.specs.Prelude.{Contains, filter, map, ◌==◌}
use Rattle.std.specs.Option.{option_map_or}
use Rattle.std.proofs.lemmas.Bool.Decides.{nat_tests}
use Rattle.std.proofs.lemmas.List.Elements.{Contains-append_left, Contains-append_right}
use Rattle.crc_words.specs.Crc.{crc}
use Rattle.meta_record.specs.Words.{fits}
use Rattle.region_words.specs.Region.{Region, header, record_of, payload_of}
use Rattle.region_words.specs.Past.{region_after}
use Rattle.region_words.specs.Apart.{recorded_payloads, payloads_of, meant_by, strings, last_word, ending_in}
use Rattle.region_words.specs.declared.event.Side.TheVariants.{Data, Meta}
use Rattle.region_words.specs.declared.event.Mark.TheVariants.{Plain, Commit}
use Rattle.region_words.specs.declared.event.What.{What}
use Rattle.region_words.specs.declared.event.What.TheVariants.{Store, Grow, Lock, Unlock, Died}
use Rattle.region_words.specs.declared.event.Event.{Event}
use Rattle.region_words.proofs.View.{View, view}
use Rattle.region_words.proofs.Kept.{Holds, Within}
use Rattle.region_words.proofs.Safe.{Means, word_of}

pub contains_first : {X : Type 0} → (x : X) (xs : List X) → Contains (x ∷ xs) x
contains_first x xs = (0, omega arith, refl)

pub contains_more : {X : Type 0} → (x : X) (xs : List X) (y : X) → Contains xs y → Contains (x ∷ xs) y
contains_more x xs y (k, lt, e) = (suc k, omega (arith, lt), e)

pub contains_map : {X Y : Type 0} → (f : X → Y) (xs : List X) (x : X) → Contains xs x → Contains (map f xs) (f x)
contains_map f [] x (k, lt, e) = absurd (omega (arith, lt))
contains_map f (y ∷ ys) x (zero, lt, e) = (0, omega arith, ap f e)
contains_map f (y ∷ ys) x (suc k, lt, e) = contains_more (f y) (map f ys) (f x) (contains_map f ys x (k, omega (arith, lt), e))

pub contains_filter : {X : Type 0} → (p : X → Bool) (xs : List X) (x : X) → Contains xs x → p x ≡ true → Contains (filter p xs) x
contains_filter p [] x (k, lt, e) h = absurd (omega (arith, lt))
contains_filter {X} p (y ∷ ys) x (zero, lt, e) h = rw (ap p e ∙ h) (0, omega arith, e)
contains_filter {X} p (y ∷ ys) x (suc k, lt, e) h = go (contains_filter p ys x (k, omega (arith, lt), e) h) (p y) refl
  where
    go : Contains (filter p ys) x → (b : Bool) → p y ≡ b → Contains (filter p (y ∷ ys)) x
    go rest true f = rw f (contains_more y (filter p ys) x rest)
    go rest false f = rw f rest

-- a payload of one of these sizes that fits
pub contains_contents : (r : Region) (sizes : List ℕ) (n : ℕ) → Contains sizes n → fits r.data_bytes n ≡ true → Contains (payloads_of r sizes) (payload_of r n)
contains_contents r sizes n c f = contains_map (payload_of r) (filter (fits r.data_bytes) sizes) n (contains_filter (fits r.data_bytes) sizes n c f)

pub candidates_hold : (r : Region) → Holds (recorded_payloads r) (view r)
candidates_hold r =
    let sizes = header r ∷ (record_of r).size ∷ (record_of r).last_size ∷ [] in
    record {
      of_head = λ f. contains_contents r sizes (header r) (0, omega arith, refl) f;
      of_size = λ f. contains_contents r sizes (record_of r).size (1, omega arith, refl) f;
      of_last = λ f. contains_contents r sizes (record_of r).last_size (2, omega arith, refl) f;
    }

pub holds_more : (S T : List (List ℕ)) (v : View) → Within S T → Holds S v → Holds T v
holds_more S T v wide h = record { of_head = λ f. wide _ (h.of_head f); of_size = λ f. wide _ (h.of_size f); of_last = λ f. wide _ (h.of_last f) }

pub strings_hold : (start : Region) (past : List Event) → Holds (strings start past) (view (region_after start past))
strings_hold start [] = candidates_hold start
strings_hold start (e ∷ past) =
    let r = region_after start (e ∷ past) in
    holds_more (recorded_payloads r) (strings start (e ∷ past)) (view r)
    (λ t c. Contains-append_left (recorded_payloads r ++ meant_by r past e.what) (strings start past) t (Contains-append_left (recorded_payloads r) (meant_by r past e.what) t c))
    (candidates_hold r)

pub strings_wide : (start : Region) (e : Event) (past : List Event) → Within (strings start past) (strings start (e ∷ past))
strings_wide start e past =
    let r = region_after start (e ∷ past) in
    λ t c. Contains-append_right (recorded_payloads r ++ meant_by r past e.what) (strings start past) t c

same_test : (a b : ℕ) → a ≡ b → (a == b) ≡ true
same_test a b e = grind (arith, nat_tests)

means_in : (T : List (List ℕ)) (r : Region) (past : List Event) (what : What) → Within (meant_by r past what) T → Means T (last_word past) (view r) what
means_in T r past (Store Meta zero x Plain) wide =
    λ n c f e. wide (payload_of r n)
    (contains_filter (λ bytes. crc bytes == x) (payloads_of r (option_map_or ending_in (last_word past) [])) (payload_of r n)
    (contains_contents r (option_map_or ending_in (last_word past) []) n c f) (same_test _ _ e))
means_in T r past (Store Meta zero x (Commit change)) wide = tt
means_in T r past (Store Meta (suc word) x mark) wide = tt
means_in T r past (Store Data word x mark) wide = tt
means_in T r past (Grow size) wide = tt
means_in T r past (Lock kind) wide = tt
means_in T r past Unlock wide = tt
means_in T r past (Died torn) wide = tt

pub strings_mean : (start : Region) (e : Event) (past : List Event) → Means (strings start (e ∷ past)) (last_word past) (view (region_after start (e ∷ past))) e.what
strings_mean start e past =
    let r = region_after start (e ∷ past) in
    means_in (strings start (e ∷ past)) r past e.what
    (λ t c. Contains-append_left (recorded_payloads r ++ meant_by r past e.what) (strings start past) t (Contains-append_right (recorded_payloads r) (meant_by r past e.what) t c))

pub last_word_of : (e : Event) (past : List Event) → last_word (e ∷ past) ≡ word_of e.what (last_word past)
last_word_of e past = refl
