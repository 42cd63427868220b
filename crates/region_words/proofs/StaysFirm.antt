-- Whatever the checksums are, a version that was written is never 0 again, and a data file never shrinks.
use Rattle.std.proofs.Common.{◌≡◌, ◌≢◌, ℕ, ◌+◌, ◌*◌, ◌-◌, ◌<◌, ◌≤◌, ◌⊎◌, inl, inr, true, false, eqb, ◌^◌, subst, List, [], ◌∷◌, ◌++◌, length, sym, ◌∙◌, arith, length-append}
use Rattle.std.specs.Prelude.{None, Some, replicate}
use Rattle.std.proofs.lemmas.Bool.Decides.{eqb_tells}
use Rattle.lock_rules.specs.Locks.{Locks}
use Rattle.meta_record.specs.Words.{word_at, with_word}
use Rattle.meta_record.proofs.WordLemmas.{length-with_word, other_word, same_word}
use Rattle.region_words.specs.Region.{Region, record_of, file_size}
use Rattle.region_words.specs.Past.{region_after, region_step, locks_after}
use Rattle.region_words.specs.Lawful.{Lawful, IsPossible, IsVersionStore}
use Rattle.region_words.specs.declared.event.Side.TheVariants.{Data, Meta}
use Rattle.region_words.specs.declared.event.What.{What}
use Rattle.region_words.specs.declared.event.What.TheVariants.{Store, Grow, Lock, Unlock, Died}
use Rattle.region_words.specs.declared.event.Event.{Event}

-- a store of the version is of no 0, and another store leaves it
word_firm : (meta : List ℕ) (word value : ℕ) → 4 * word + 4 ≤ length meta → value < 2 ^ 32 → IsVersionStore Meta word value → word_at (with_word meta word value) 1 ≡ 0 → word_at meta 1 ≡ 0
word_firm meta word value inside small kind e = go (eqb_tells word 1)
  where
    some : (value ≡ 3) ⊎ (value ≡ 4) → value ≢ 0
    some (inl is) z = absurd (omega (arith, is, z))
    some (inr is) z = absurd (omega (arith, is, z))

    go : ((eqb word 1 ≡ true) × (word ≡ 1)) ⊎ ((eqb word 1 ≡ false) × (word ≢ 1)) → word_at meta 1 ≡ 0
    go (inl here) = absurd (some (kind here.1) (sym (same_word meta word value inside small) ∙ subst (λ w. word_at (with_word meta word value) w ≡ 0) (sym here.1) e))
    go (inr other) = sym (other_word meta word value inside 1 (λ is. other.1 (sym is))) ∙ e

event_firm : (r : Region) (locks : Locks) (who : ℕ) (what : What) → IsPossible r locks who what → (record_of (region_step r what)).version ≡ 0 → (record_of r).version ≡ 0
event_firm r locks who (Store Data word value mark) p e = e
event_firm r locks who (Store Meta word value mark) p e = word_firm r.meta_bytes word value p.1 p.2 p.3 e
event_firm r locks who (Grow size) p e = e
event_firm r locks who (Lock kind) p e = e
event_firm r locks who Unlock p e = e
event_firm r locks who (Died None) p e = e
event_firm r locks who (Died (Some torn)) p e = e

-- a journal that leaves no version found none
pub fresh_before : (start : Region) (later past : List Event) → Lawful start (later ++ past) →
    (record_of (region_after start (later ++ past))).version ≡ 0 → (record_of (region_after start past)).version ≡ 0
fresh_before start [] past l e = e
fresh_before start (x ∷ later) past l e =
    fresh_before start later past l.0 (event_firm (region_after start (later ++ past)) (locks_after (later ++ past)) x.who x.what l.1.possible e)

event_grows : (r : Region) (locks : Locks) (who : ℕ) (what : What) → IsPossible r locks who what → file_size r ≤ file_size (region_step r what)
event_grows r locks who (Store Data word value mark) p = omega (arith, length-with_word r.data_bytes word value p.1)
event_grows r locks who (Store Meta word value mark) p = omega arith
event_grows r locks who (Grow size) p = omega (arith, length-append r.data_bytes (replicate (size - length r.data_bytes) 0))
event_grows r locks who (Lock kind) p = omega arith
event_grows r locks who Unlock p = omega arith
event_grows r locks who (Died None) p = omega arith
event_grows r locks who (Died (Some torn)) p = omega (arith, length-with_word r.data_bytes torn.word torn.value p.1.1)

pub file_grows : (start : Region) (later past : List Event) → Lawful start (later ++ past) → file_size (region_after start past) ≤ file_size (region_after start (later ++ past))
file_grows start [] past l = omega arith
file_grows start (x ∷ later) past l =
    omega (arith, event_grows (region_after start (later ++ past)) (locks_after (later ++ past)) x.who x.what l.1.possible, file_grows start later past l.0)
