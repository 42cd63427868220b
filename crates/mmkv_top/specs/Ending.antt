-- How a run ends: with a status, and a text that it writes.
use Rattle.std.specs.Prelude.{◌≡◌, ℕ, List, [], ◌⊎◌, Option, length, codes}
use Rattle.script_lang.specs.Written.{Wrote, WroteFront}
use Rattle.mmkv_top.specs.declared.ending.Ending.{Ending}
use Rattle.mmkv_top.specs.declared.ending.Status.{Status}

abbrev pub ending : ℕ → List ℕ → Ending
ending status text = record { status = status; text = text }

-- the shelf had a fault
abbrev pub region_fault : Ending
region_fault = ending 5 (codes "region fault\n")

-- This ending is due by what is said of it. Instead, the shelf had a fault, or memory was refused.
abbrev pub IsDueOr : Type 0 → (Ending → Type 0) → Ending → Type 0
IsDueOr shelf_rose due e = due e ⊎ ((e ≡ region_fault) × shelf_rose) ⊎ (e ≡ ending 8 [])

-- The ending's status is answered and its text written, from the first to the last byte. Instead, the sink had a
-- fault behind a front of the text, and the status is 4.
abbrev pub IsDelivered : Option (List ℕ) → Option (List ℕ) → Type 0 → Status → Ending → Type 0
IsDelivered old new sink_rose result e =
    ((result.0 ≡ e.status) × Wrote old new e.text (length e.text)) ⊎ ((result.0 ≡ 4) × sink_rose × WroteFront old new e.text)

-- a run ends so: with what is due, or by a fault or want of memory
abbrev pub EndsWith : Option (List ℕ) → Option (List ℕ) → Type 0 → Type 0 → Status → (Ending → Type 0) → Type 0
EndsWith old new sink_rose shelf_rose result due = (e : Ending) × IsDueOr shelf_rose due e × IsDelivered old new sink_rose result e
