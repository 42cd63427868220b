-- When a record is accepted again after a store, and when an accepted one has a version.
use Rattle.std.proofs.Common.{◌≡◌, ◌≢◌, ℕ, ◌+◌, ◌*◌, ◌<◌, ◌≤◌, Bool, true, false, cond, List, [], length, refl, sym, ap, ◌∙◌, arith, subst}
use Rattle.std.specs.Prelude.{IsOk, Ok, Err, is_some, nat_lt, ◌&&◌, ◌||◌, ◌==◌, if◌then◌else◌}
use Rattle.std.proofs.lemmas.Bool.Decides.{nat_tests}
use Rattle.kv_pairs.specs.Reading.{read_payload, length_at}
use Rattle.meta_record.specs.Words.{with_word}
use Rattle.meta_record.specs.Records.{record_at, checked, is_fresh}
use Rattle.meta_record.specs.declared.record.Record.{Record}
use Rattle.meta_record.specs.declared.record.RecordFault.TheVariants.{Version, Flags}
use Rattle.meta_record.specs.declared.shown.Damage.TheVariants.{Content}
use Rattle.meta_record.specs.declared.shown.Shown.TheVariants.{Whole, Damaged}
use Rattle.meta_record.proofs.WordLemmas.{other_word}
use Rattle.meta_record.proofs.FreshStores.{fresh_is_whole}
use Rattle.region_words.specs.Region.{Region, IsRegion, IsAccepted, record_of, header, flag, shown, map_in, if_it_has_a_map}
use Rattle.region_words.proofs.Shows.{whole_shown}

-- a version that is accepted
abbrev is_known : ℕ → Bool
is_known v = (v == 3) || (v == 4)

-- nothing was ever written, if the version is this one
abbrev is_fresh_at : ℕ → Record → ℕ → Bool
is_fresh_at v rec h = (v == 0) && ((h == 0) && ((rec.checksum == 0) && ((rec.size == 0) && (rec.flags == 0))))

-- accepted, where these are the answers to the questions for a known version and for unknown flags
abbrev Passes : Bool → Bool → Record → Type 0
Passes known high rec = IsOk {T = Unit {0}} (if known then (if high then Err (Flags rec.flags) else Ok tt) else Err (Version rec.version))

no_fresh : (rec : Record) (h : ℕ) → rec.version ≢ 0 → is_fresh rec h ≡ false
no_fresh rec h n = go (rec.version == 0) refl
  where
    go : (b : Bool) → (rec.version == 0) ≡ b → (b && ((h == 0) && ((rec.checksum == 0) && ((rec.size == 0) && (rec.flags == 0))))) ≡ false
    go true e = absurd (n (grind (arith, nat_tests)))
    go false e = refl

-- an accepted record has a version where the header isn't 0
pub has_version : (rec : Record) (h : ℕ) → h ≢ 0 → IsOk (checked rec h) → rec.version ≢ 0
has_version rec h n ok e = go (h == 0) refl (subst (λ v. Passes (is_fresh_at v rec h || is_known v) (nat_lt 1 rec.flags) rec) e ok)
  where
    go : (b : Bool) → (h == 0) ≡ b → Passes ((b && ((rec.checksum == 0) && ((rec.size == 0) && (rec.flags == 0)))) || false) (nat_lt 1 rec.flags) rec → ⊥
    go true z o = n (grind (arith, nat_tests))
    go false z o = absurd cc

-- a record is accepted again with the same version, which isn't 0, and no unknown flags
pub other_flags : (old new : Record) (h k : ℕ) → new.version ≡ old.version → new.flags ≤ 1 → old.version ≢ 0 → IsOk (checked old h) → IsOk (checked new k)
other_flags old new h k v few n ok =
    subst (λ x. Passes (is_fresh new k || is_known x) (nat_lt 1 new.flags) new) (sym v)
    (go (is_fresh old h) (is_known old.version) (nat_lt 1 old.flags) (is_fresh new k) (nat_lt 1 new.flags) (no_fresh old h n) (no_more new.flags few) ok)
  where
    no_more : (f : ℕ) → f ≤ 1 → nat_lt 1 f ≡ false
    no_more f h = grind (arith, nat_tests)

    go : (f known b g c : Bool) → f ≡ false → c ≡ false → Passes (f || known) b old → Passes (g || known) c new
    go true known b g c e m o = absurd cc
    go false false b g c e m o = absurd cc
    go false true true g c e m o = absurd cc
    go false true false g true e m o = absurd cc
    go false true false true false e m o = refl
    go false true false false false e m o = refl

-- an accepted record has flags 0 or 1
pub few_flags : (rec : Record) (h : ℕ) → IsOk (checked rec h) → rec.flags ≤ 1
few_flags rec h ok = go (is_fresh rec h || is_known rec.version) (nat_lt 1 rec.flags) refl ok
  where
    go : (a b : Bool) → nat_lt 1 rec.flags ≡ b → Passes a b rec → rec.flags ≤ 1
    go true false e o = grind (arith, nat_tests)
    go true true e o = absurd cc
    go false b e o = absurd cc

-- with the same version and flags
pub same_version : (old new : Record) (h k : ℕ) → new.version ≡ old.version → new.flags ≡ old.flags → old.version ≢ 0 → IsOk (checked old h) → IsOk (checked new k)
same_version old new h k v f n ok = other_flags old new h k v (let few = few_flags old h ok in omega (arith, few, f)) n ok

-- and with another version that is accepted
pub other_version : (old new : Record) (h k w : ℕ) → is_known w ≡ true → new.version ≡ w → new.flags ≡ old.flags → IsOk (checked old h) → IsOk (checked new k)
other_version old new h k w known v f ok =
    subst (λ x. Passes (is_fresh new k || is_known x) (nat_lt 1 new.flags) new) (sym v)
    (subst (λ x. Passes (is_fresh new k || x) (nat_lt 1 new.flags) new) (sym known)
    (subst (λ x. Passes (is_fresh new k || true) (nat_lt 1 x) new) (sym f) (go (is_fresh old h || is_known old.version) (nat_lt 1 old.flags) (is_fresh new k) ok)))
  where
    go : (a b c : Bool) → Passes a b old → Passes (c || true) b new
    go true false true o = refl
    go true false false o = refl
    go true true c o = absurd cc
    go false b c o = absurd cc

-- a store of another word leaves the flags
pub kept_flags : (meta : List ℕ) (word value : ℕ) → 4 * word + 4 ≤ length meta → word ≢ 26 → word ≢ 27 → (record_at (with_word meta word value)).flags ≡ (record_at meta).flags
kept_flags meta word value inside n m =
    λ i. other_word meta word value inside 26 (λ e. n (sym e)) i + 4294967296 * other_word meta word value inside 27 (λ e. m (sym e)) i

-- the sequence counts for nothing
pub same_but_sequence : (meta : List ℕ) (x h : ℕ) → 112 ≤ length meta → checked (record_at (with_word meta 2 x)) h ≡ checked (record_at meta) h
same_but_sequence meta x h inside =
    let other = λ (w : ℕ) (n : w ≢ 2). other_word meta 2 x (omega (arith, inside)) w n in
    let now = record_at (with_word meta 2 x) in
    λ i. checked (record {
      checksum = other 0 (omega arith) i;
      version = other 1 (omega arith) i;
      sequence = now.sequence;
      size = other 7 (omega arith) i;
      last_size = now.last_size;
      last_checksum = now.last_checksum;
      flags = other 26 (omega arith) i + 4294967296 * other 27 (omega arith) i;
    }) h

-- an accepted region has a version where it shows a whole image that isn't empty,
pub whole_firm : (r : Region) (n : ℕ) → shown r ≡ Whole n → 0 < n → IsAccepted r → (record_of r).version ≢ 0
whole_firm r n whole some ok e = go ((record_of r).size == 0) refl (subst (λ v. Passes (is_fresh_at v (record_of r) (header r) || is_known v) (nat_lt 1 (record_of r).flags) (record_of r)) e ok)
  where
    no : (a b c : Bool) → Passes ((a && (b && (false && c))) || false) (nat_lt 1 (record_of r).flags) (record_of r) → ⊥
    no true true c o = absurd cc
    no true false c o = absurd cc
    no false b c o = absurd cc

    go : (b : Bool) → ((record_of r).size == 0) ≡ b →
        Passes ((header r == 0) && (((record_of r).checksum == 0) && (b && ((record_of r).flags == 0))) || false) (nat_lt 1 (record_of r).flags) (record_of r) → ⊥
    go true z o = let is : (record_of r).size ≡ 0 = grind (arith, nat_tests) in absurd (omega (arith, is, some, (whole_shown r n whole).0))
    go false z o = no (header r == 0) ((record_of r).checksum == 0) ((record_of r).flags == 0) o

-- an empty payload has a map
empty_map : (on : Bool) → is_some (map_in on []) ≡ true
unfolding read_payload length_at
empty_map on = refl

-- and where it shows no whole image
pub broken_firm : (r : Region) → IsRegion r → IsAccepted r → ((n : ℕ) → shown r ≡ Whole n → ⊥) → (record_of r).version ≢ 0
unfolding shown
broken_firm r is ok broken e =
    let four : 4 ≤ length r.data_bytes = omega (arith, is.data_file.pages, is.data_file.not_empty) in
    broken 0 (ap (if_it_has_a_map r) (fresh_is_whole (record_of r) (header r) r.data_bytes fresh four) ∙ ap (λ b. cond b (Whole 0) (Damaged Content)) (empty_map (flag r)))
  where
    known : (f : Bool) → Passes (f || false) (nat_lt 1 (record_of r).flags) (record_of r) → f ≡ true
    known true o = refl
    known false o = absurd cc

    fresh : is_fresh (record_of r) (header r) ≡ true
    fresh =
        subst (λ v. is_fresh_at v (record_of r) (header r) ≡ true) (sym e)
        (known ((header r == 0) && (((record_of r).checksum == 0) && (((record_of r).size == 0) && ((record_of r).flags == 0))))
        (subst (λ v. Passes (is_fresh_at v (record_of r) (header r) || is_known v) (nat_lt 1 (record_of r).flags) (record_of r)) e ok))
