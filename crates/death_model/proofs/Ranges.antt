-- Events in range, one after another.
use Rattle.std.proofs.Common.{◌≡◌, ℕ, List, [], ◌∷◌, ◌++◌, length, refl, ap, ◌∙◌, arith, length-append}
use Rattle.std.proofs.lemmas.List.{length-replicate}
use Rattle.std.specs.Prelude.{Some, None, replicate, ◌-◌}
use Rattle.meta_record.proofs.WordLemmas.{length-with_word}
use Rattle.region_words.specs.Region.{Region, file_size, region_of}
use Rattle.region_words.specs.declared.event.Side.TheVariants.{Data, Meta}
use Rattle.region_words.specs.Past.{region_after, region_step}
use Rattle.region_words.specs.Lawful.{IsPossible, Lawful}
use Rattle.lock_rules.specs.Locks.{Locks}
use Rattle.region_words.specs.declared.event.What.{What}
use Rattle.region_words.specs.declared.event.What.TheVariants.{Store, Grow, Lock, Unlock, Died}
use Rattle.region_words.specs.declared.event.Event.{Event}
use Rattle.death_model.specs.InRange.{AreInRange, ArePages, IsInRange}
use Rattle.death_model.specs.FilesInside.{IsReadable, size_after}

-- what is possible is in range
possible_in_range : (r : Region) (locks : Locks) (who : ℕ) (what : What) → IsPossible r locks who what → IsInRange r what
possible_in_range r locks who (Store side word value mark) p = p.1
possible_in_range r locks who (Grow size) p = (p.1, p.2, p.3)
possible_in_range r locks who (Lock kind) p = tt
possible_in_range r locks who Unlock p = tt
possible_in_range r locks who (Died None) p = tt
possible_in_range r locks who (Died (Some torn)) p = p.1.1

pub lawful_in_range : (start : Region) (past : List Event) → Lawful start past → AreInRange start past
lawful_in_range start [] l = tt
lawful_in_range start (e ∷ past) l = (lawful_in_range start past l.0, possible_in_range (region_after start past) _ e.who e.what l.1.possible)

pub in_range_before : (start : Region) (later past : List Event) → AreInRange start (later ++ past) → AreInRange start past
in_range_before start [] past a = a
in_range_before start (e ∷ later) past a = in_range_before start later past a.0

-- the words of header and record stay there
pub stays_readable : (r : Region) (what : What) → IsInRange r what → IsReadable r → IsReadable (region_step r what)
stays_readable r (Store Data word value mark) i h = record { data_file = omega (arith, length-with_word r.data_bytes word value i, h.data_file); meta_file = h.meta_file }
stays_readable r (Store Meta word value mark) i h = record { data_file = h.data_file; meta_file = omega (arith, length-with_word r.meta_bytes word value i, h.meta_file) }
stays_readable r (Grow size) i h = record { data_file = omega (arith, length-append r.data_bytes (replicate (size - length r.data_bytes) 0), h.data_file); meta_file = h.meta_file }
stays_readable r (Lock kind) i h = h
stays_readable r Unlock i h = h
stays_readable r (Died None) i h = h
stays_readable r (Died (Some torn)) i h = record { data_file = omega (arith, length-with_word r.data_bytes torn.word torn.value i, h.data_file); meta_file = h.meta_file }

-- whole pages have them
pub pages_readable : (body meta : List ℕ) → ArePages body → ArePages meta → IsReadable (region_of body meta)
pages_readable body meta b m = record { data_file = omega (arith, b.0, b.1); meta_file = omega (arith, m.0, m.1) }

-- the files' sizes after an event
pub sizes_step : (r : Region) (what : What) → IsInRange r what → (file_size (region_step r what) ≡ size_after (file_size r) what) × (length (region_step r what).meta_bytes ≡ length r.meta_bytes)
sizes_step r (Store Data word value mark) i = (length-with_word r.data_bytes word value i, refl)
sizes_step r (Store Meta word value mark) i = (refl, length-with_word r.meta_bytes word value i)
sizes_step r (Grow size) i =
    (omega (arith, i.0, length-append r.data_bytes (replicate (size - length r.data_bytes) 0), length-replicate {A = ℕ} (size - length r.data_bytes) 0), refl)
sizes_step r (Lock kind) i = (refl, refl)
sizes_step r Unlock i = (refl, refl)
sizes_step r (Died None) i = (refl, refl)
sizes_step r (Died (Some torn)) i = (length-with_word r.data_bytes torn.word torn.value i, refl)

-- So far each event was in range, and the files have these sizes.
pub record AreSized (start : Region) (past : List Event) (data_size meta_size : ℕ) : Type 0 where
  pub in_range : AreInRange start past
  pub data_is : file_size (region_after start past) ≡ data_size
  pub meta_is : length (region_after start past).meta_bytes ≡ meta_size

pub sized_next : (start : Region) (past : List Event) (e : Event) (data_size meta_size : ℕ) → AreSized start past data_size meta_size → IsInRange (region_after start past) e.what →
    AreSized start (e ∷ past) (size_after data_size e.what) meta_size
sized_next start past e data_size meta_size s i =
    let step = sizes_step (region_after start past) e.what i in
    record { in_range = (s.in_range, i); data_is = step.0 ∙ ap (λ n. size_after n e.what) s.data_is; meta_is = step.1 ∙ s.meta_is }
