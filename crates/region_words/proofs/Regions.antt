-- A region stays a region, whatever the checksums are.
use Rattle.std.proofs.Common.{◌≡◌, ℕ, zero, suc, ◌+◌, ◌*◌, ◌%◌, ◌-◌, ◌<◌, ◌≤◌, List, [], ◌∷◌, ◌++◌, length, take, drop, replicate, ap, ◌∙◌, arith, length-append}
use Rattle.std.specs.Prelude.{Some, None, All}
use Rattle.std.specs.Int.{to_le_bytes, w32}
use Rattle.std.proofs.lemmas.List.Elements.{All-nil, All-cons, All-head, All-tail}
use Rattle.std.proofs.lemmas.List.{length-replicate}
use Rattle.meta_record.specs.Words.{with_word, grown_to}
use Rattle.meta_record.proofs.WordLemmas.{length-with_word}
use Rattle.lock_rules.specs.Locks.{Locks}
use Rattle.kv_pairs.specs.Growth.{largest}
use Rattle.region_words.specs.Region.{Region, IsRegion, IsFile, IsAccepted}
use Rattle.region_words.specs.Past.{region_after, region_step, locks_after}
use Rattle.region_words.specs.Lawful.{Lawful, IsPossible}
use Rattle.region_words.specs.declared.event.Side.TheVariants.{Data, Meta}
use Rattle.region_words.specs.declared.event.What.{What}
use Rattle.region_words.specs.declared.event.What.TheVariants.{Store, Grow, Lock, Unlock, Died}
use Rattle.region_words.specs.declared.event.Event.{Event}
use Rattle.region_words.proofs.WordStores.{Small}

abbrev Byte : ℕ → Type 0
Byte b = b < 256

-- the two ways to say that all are bytes
pub Small-from_All : (xs : List ℕ) → All Byte xs → Small xs
Small-from_All [] h = tt
Small-from_All (x ∷ xs) h = (All-head Byte x xs h, Small-from_All xs (All-tail Byte x xs h))

pub All-from_Small : (xs : List ℕ) → Small xs → All Byte xs
All-from_Small [] h = All-nil Byte
All-from_Small (x ∷ xs) h = All-cons Byte x xs h.0 (All-from_Small xs h.1)

front_bytes : (n : ℕ) (xs : List ℕ) → Small xs → Small (take n xs)
front_bytes zero xs s = tt
front_bytes (suc n) [] s = tt
front_bytes (suc n) (x ∷ xs) s = (s.0, front_bytes n xs s.1)

back_bytes : (n : ℕ) (xs : List ℕ) → Small xs → Small (drop n xs)
back_bytes zero xs s = s
back_bytes (suc n) [] s = tt
back_bytes (suc n) (x ∷ xs) s = back_bytes n xs s.1

pub joined_bytes : (xs ys : List ℕ) → Small xs → Small ys → Small (xs ++ ys)
joined_bytes [] ys p q = q
joined_bytes (x ∷ xs) ys p q = (p.0, joined_bytes xs ys p.1 q)

pub zero_bytes : (n : ℕ) → Small (replicate n 0)
zero_bytes zero = tt
zero_bytes (suc n) = (omega arith, zero_bytes n)

pub word_bytes : (v : ℕ) → Small (to_le_bytes w32 v)
word_bytes v = (omega arith, (omega arith, (omega arith, (omega arith, tt))))

stored_file : (bytes : List ℕ) (limit w v : ℕ) → 4 * w + 4 ≤ length bytes → IsFile bytes limit → IsFile (with_word bytes w v) limit
stored_file bytes limit w v inside f =
    let same = length-with_word bytes w v inside in
    let small = Small-from_All bytes f.small in
    record {
      pages = ap (λ n. n % 4096) same ∙ f.pages;
      not_empty = omega (arith, same, f.not_empty);
      most = omega (arith, same, f.most);
      small = All-from_Small (with_word bytes w v) (joined_bytes (take (4 * w) bytes ++ to_le_bytes w32 v) (drop (4 * w + 4) bytes) (joined_bytes (take (4 * w) bytes) (to_le_bytes w32 v) (front_bytes (4 * w) bytes small) (word_bytes v)) (back_bytes (4 * w + 4) bytes small));
    }

grown_file : (bytes : List ℕ) (size : ℕ) → length bytes < size → size ≤ largest → size % 4096 ≡ 0 → IsFile bytes largest → IsFile (grown_to bytes size) largest
grown_file bytes size more most pages f =
    let len : length (grown_to bytes size) ≡ size = omega (arith, length-append bytes (replicate (size - length bytes) 0), length-replicate {A = ℕ} (size - length bytes) 0, more) in
    record {
      pages = ap (λ n. n % 4096) len ∙ pages;
      not_empty = omega (arith, len, more);
      most = omega (arith, len, most);
      small = All-from_Small (grown_to bytes size) (joined_bytes bytes (replicate (size - length bytes) 0) (Small-from_All bytes f.small) (zero_bytes (size - length bytes)));
    }

changed_region : (r : Region) (locks : Locks) (who : ℕ) (what : What) → IsPossible r locks who what → IsRegion r → IsRegion (region_step r what)
changed_region r locks who (Store Data word value mark) p f = record { data_file = stored_file r.data_bytes largest word value p.1 f.data_file; meta_file = f.meta_file }
changed_region r locks who (Store Meta word value mark) p f = record { data_file = f.data_file; meta_file = stored_file r.meta_bytes 65536 word value p.1 f.meta_file }
changed_region r locks who (Grow size) p f = record { data_file = grown_file r.data_bytes size p.1 p.2 p.3 f.data_file; meta_file = f.meta_file }
changed_region r locks who (Lock kind) p f = f
changed_region r locks who Unlock p f = f
changed_region r locks who (Died None) p f = f
changed_region r locks who (Died (Some torn)) p f = record { data_file = stored_file r.data_bytes largest torn.word torn.value p.1.1 f.data_file; meta_file = f.meta_file }

-- a region stays one through a lawful journal
pub lawful_region : (start : Region) (past : List Event) → Lawful start past → IsRegion start → IsRegion (region_after start past)
lawful_region start [] l f = f
lawful_region start (e ∷ past) l f = changed_region (region_after start past) (locks_after past) e.who e.what l.1.possible (lawful_region start past l.0 f)

-- and an accepted one stays accepted
pub lawful_accepted : (start : Region) (past : List Event) → IsAccepted start → Lawful start past → IsAccepted (region_after start past)
lawful_accepted start [] a l = a
lawful_accepted start (e ∷ past) a l = l.1.accepted a
