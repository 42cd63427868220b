-- The first events of a list, in which the oldest stands first.
use Rattle.std.proofs.Common.{◌≡◌, ℕ, ◌+◌, ◌<◌, ◌≤◌, true, false, List, [], ◌∷◌, ◌++◌, length, take, drop, get_or, reverse, append-nil, refl, sym, ap, ◌∙◌, subst}
use Rattle.std.specs.Prelude.{IsTrue, ◌↔◌, Some}
use Rattle.std.proofs.lemmas.List.{take-append-drop, take_more, take_all, reverse-append}
use Rattle.region_words.specs.Region.{Region}
use Rattle.region_words.specs.Past.{region_after}
use Rattle.region_words.specs.Apart.{Apart}
use Rattle.region_words.specs.declared.event.Event.{Event}
use Rattle.region_words.proofs.ReadLaws.{apart_front}
use Rattle.death_model.specs.InRange.{AreInRange, IsInRange}
use Rattle.death_model.specs.RunInside.{IsAfter}
use Rattle.death_model.specs.SeenInside.{kept_for}
use Rattle.death_model.specs.declared.run.Run.{Run}
use Rattle.death_model.proofs.Ranges.{in_range_before}

module _ (start : Region) (events : List Event) where
  -- the first of them, the latest first
  abbrev pub first : ℕ → List Event
  first k = reverse (take k events)

  pub first_all : (k : ℕ) → length events ≤ k → first k ≡ reverse events
  first_all k h = ap reverse (take_all k events h)

  module _ (k : ℕ) (e : Event) (at : e ≡ get_or events k e) (lt : k < length events) where
    pub first_next : first (k + 1) ≡ e ∷ first k
    first_next = ap reverse (take_more events k e lt) ∙ ap (λ x. reverse (take k events ++ x ∷ [])) (sym at) ∙ reverse-append (take k events) (e ∷ [])

    later : reverse events ≡ reverse (drop (k + 1) events) ++ e ∷ first k
    later =
        ap reverse (sym (take-append-drop (k + 1) events)) ∙ reverse-append (take (k + 1) events) (drop (k + 1) events)
        ∙ ap (λ l. reverse (drop (k + 1) events) ++ l) first_next

    pub next_in_range : AreInRange start (reverse events) → IsInRange (region_after start (first k)) e.what
    next_in_range a = (in_range_before start (reverse (drop (k + 1) events)) (e ∷ first k) (subst (AreInRange start) later a)).1

    pub next_apart : Apart start (reverse events) → Apart start (e ∷ first k)
    next_apart a = apart_front start (reverse (drop (k + 1) events)) (e ∷ first k) (subst (Apart start) later a)

  -- a run without events is one that has gone none
  pub start_apart : Apart start (reverse events) → Apart start []
  start_apart a = apart_front start (reverse events) [] (subst (Apart start) (sym (append-nil (reverse events))) a)

-- what is kept of all payloads tells them apart
pub keeps_apart : (run : Run) (start : Region) (past : List Event) → IsAfter run start past → Apart start past
keeps_apart run start past is s t in_s in_t e =
    let both : Some s ≡ Some t = sym (is.keeps.each s in_s) ∙ ap (kept_for run.seen) e ∙ is.keeps.each t in_t in
    cc

pub answers_false : (start : Region) (past : List Event) → (Apart start past → ⊥) → IsTrue false ↔ Apart start past
answers_false start past never = (λ t. absurd cc, λ a. absurd (never a))

pub answers_true : (start : Region) (past : List Event) → Apart start past → IsTrue true ↔ Apart start past
answers_true start past a = (λ t. a, λ b. refl)
