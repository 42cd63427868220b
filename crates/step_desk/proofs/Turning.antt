-- From one step of a turn to the next.
use Rattle.std.proofs.Common.{◌≡◌, ◌≢◌, ℕ, ◌+◌, ◌*◌, ◌<◌, ◌≤◌, List, [], ◌∷◌, length, refl, sym, ◌∙◌, ap, subst, ⊎_elim, arith}
use Rattle.std.specs.Prelude.{Option, Some, None, if◌then◌else◌}
use Rattle.atomic_table.specs.Table.{rest}
use Rattle.region_words.specs.Region.{Region, IsRegion}
use Rattle.region_words.specs.Past.{region_after}
use Rattle.region_words.specs.Lawful.{Lawful}
use Rattle.region_words.specs.Local.{Local}
use Rattle.region_words.specs.declared.event.Event.{Event}
use Rattle.region_words.specs.declared.event.What.{What}
use Rattle.region_words.proofs.Regions.{lawful_region}
use Rattle.step_desk.specs.declared.view.Stage.TheVariants.{Holding, Counted}
use Rattle.step_desk.specs.declared.view.View.{View}
use Rattle.step_desk.specs.Mirrors.{Words, checksum_after, sequence_after, changes_made, mirror}
use Rattle.step_desk.specs.Steps.{M, seeing, seeing_slot, Took, Carries, PutsBack, CanCount, joined, longer, shorter, numbers_of_shorter, Follows}
use Rattle.step_desk.specs.Passes.{IsTaken, IsShown}
use Rattle.step_desk.proofs.Lists.{by_lengths}

-- the words of the record that are mirrored lie in the meta file
pub meta_words : (start : Region) (past : List Event) (w : ℕ) → w < 1024 → Lawful start past → IsRegion start → 4 * w + 4 ≤ length (region_after start past).meta_bytes
meta_words start past w few lawful region = let file = (lawful_region start past lawful region).meta_file in omega (arith, few, file.pages, file.not_empty)

-- a word beside a number of changes is a mirror
pub mirror_is : (word : Words) (m shown changes : ℕ) (start : Region) (past : List Event) → m ≡ shown + 4294967296 * changes → shown ≡ word start past → changes ≡ changes_made past → m ≡ mirror word start past
mirror_is word m shown changes start past is shown_is changes_are = is ∙ (λ i. shown_is i + 4294967296 * changes_are i)

-- the slot of the pass that has just taken the turn
pub took_slot : (me new : M) (x : Local) → Took me x (Some x) new → new.1 ≡ (0, Some x) ∷ rest new.1
took_slot me new x t = ap (λ (m : M). m.1) t.view ∙ ap (λ (m : M). (0, Some x) ∷ rest m.1) (sym t.view)

abbrev slot_in : List (ℕ × Option Local) → Option Local
slot_in [] = None
slot_in ((k, slot) ∷ xs) = slot

abbrev local_in : Local → Option Local → Local
local_in d None = d
local_in d (Some x) = x

-- the region that was found in the slot, in a seat
pub taken : (me one new : M) (x y : Local) (found : Option Local) (who : ℕ) → Took me x (Some x) one → one.1 ≡ (0, found) ∷ rest one.1 → found ≡ Some y → new ≡ (one.0, (0, None) ∷ rest one.1) → me.0.who ≡ who →
    IsTaken me (record { who = who; region = y }) new
taken me one new x y found who t slots is after mine =
    let slot_is : Some x ≡ Some y = ap slot_in (sym (ap (λ (m : M). m.1) t.view) ∙ slots) ∙ is in
    let same : x ≡ y = ap (local_in x) slot_is in
    record {
      who = sym mine;
      took = subst (λ z. Took me z None new) same (record {
        view = after ∙ (λ i. let m : M = t.view i in let n : M = (m.0, (0, None) ∷ rest m.1) in n);
        continues = t.continues;
        later = t.later;
        past = t.past;
        others = t.others;
        places = t.places;
        room = t.room;
      });
    }

-- the region is in its slot again
module _ (own : List What) (me new : M) (x y : Local) (same : y ≡ x) (p : PutsBack own me x) (is : new ≡ (me.0, (0, Some y) ∷ rest me.1)) where
  pub slotted : Carries Holding (Some x) own new x
  slotted = subst (λ m. Carries Holding (Some x) own m x) (sym is) (record {
    live = p.carries.live;
    at = p.carries.at;
    slots = (λ i. (0, Some (same i)) ∷ rest (p.carries.slots i));
    continues = p.carries.continues;
    one = p.carries.one;
    past = p.carries.past;
    others = p.carries.others;
  })

  seen_is : new.0.seen ≡ me.0.seen
  seen_is = ap (λ (m : M). m.0.seen) is

  module _ (checksum sequence changes events : ℕ) (shown : IsShown checksum sequence changes events x.start x.past) (old_checksum old_sequence : ℕ)
      (checksum_is : old_checksum ≡ checksum_after x.start me.0.seen) (sequence_is : old_sequence ≡ sequence_after x.start me.0.seen) where
    same_checksum : checksum ≡ old_checksum → checksum_after x.start x.past ≡ checksum_after x.start me.0.seen
    same_checksum e = sym shown.checksum_is ∙ e ∙ checksum_is

    back : (f : Region → List Event → ℕ) → f x.start x.past ≡ f x.start me.0.seen → f x.start x.past ≡ f x.start new.0.seen
    back f e = e ∙ ap (f x.start) (sym seen_is)

    -- where the checksum was changed, the sequence wasn't
    pub still : checksum ≢ old_checksum → sequence_after x.start x.past ≡ sequence_after x.start new.0.seen
    still ne = ⊎_elim (λ e. absurd (ne (shown.checksum_is ∙ e ∙ sym checksum_is))) (λ e. back sequence_after e) p.word

    pub unchanged : checksum ≡ old_checksum → checksum_after x.start x.past ≡ checksum_after x.start new.0.seen
    unchanged e = back checksum_after (same_checksum e)

    pub counts : checksum ≡ old_checksum → sequence ≡ old_sequence → CanCount own new x events
    counts e f = record {
      carries = slotted;
      count_is = shown.events_are;
      checksum = unchanged e;
      sequence = back sequence_after (sym shown.sequence_is ∙ f ∙ sequence_is);
    }

-- after a store of a mirrored word the count alone is left
pub shown_counts : (own : List What) (me new : M) (x : Local) (count : ℕ) → Carries Holding (Some x) own me x → count ≡ length x.past → new ≡ (seeing_slot me.0 Holding me.1, me.1) → CanCount [] new x count
shown_counts own me new x count h is after = subst (λ m. CanCount [] m x count) (sym (after ∙ seen_slot)) (record {
  carries = record { live = h.live; at = refl; slots = h.slots; continues = h.continues; one = omega arith; past = refl; others = λ w ne. (refl, refl) };
  count_is = is;
  checksum = refl;
  sequence = refl;
})
  where
    seen_slot : ◌≡◌ {A = M} (seeing_slot me.0 Holding me.1, me.1) (seeing me.0 Holding x, me.1)
    seen_slot = ap (λ (c : List (ℕ × Option Local)). let m : M = (seeing_slot me.0 Holding c, me.1) in m) h.slots

-- after the count the turn alone is left
module _ (own : List What) (me new : M) (x : Local) (count : ℕ) (can : CanCount own me x count) (after : new ≡ (seeing_slot me.0 Counted me.1, me.1)) where
  counted_is : new ≡ (seeing me.0 Counted x, me.1)
  counted_is = after ∙ ap (λ (c : List (ℕ × Option Local)). let m : M = (seeing_slot me.0 Counted c, me.1) in m) can.carries.slots

  pub counted : Carries Counted (Some x) [] new x
  counted = subst (λ m. Carries Counted (Some x) [] m x) (sym counted_is) (record {
    live = can.carries.live;
    at = refl;
    slots = can.carries.slots;
    continues = can.carries.continues;
    one = omega arith;
    past = refl;
    others = λ w ne. (refl, refl);
  })

  pub counted_held : x ≡ new.0.held
  counted_held = sym (ap (λ (m : M). m.0.held) counted_is)

-- what a look at the table says after a join
pub told_follows : (v w : View) (slots : List (ℕ × Option Local)) (me : M) → me ≡ (joined v w, slots) → (length me.0.told ≤ length me.0.seen → Follows me.0.told_of me.0.seen me.0.told) →
    Follows (numbers_of_shorter v w) (longer v.seen w.seen) (shorter v.seen w.seen)
told_follows v w slots me is f = subst (λ (m : M). length m.0.told ≤ length m.0.seen → Follows m.0.told_of m.0.seen m.0.told) is f
    (by_lengths v.seen w.seen (λ b. length (if b then v.seen else w.seen) ≤ length (if b then w.seen else v.seen)) (λ less. less) (λ less. less))
