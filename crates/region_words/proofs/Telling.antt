-- What a share tells, and how a call moves it on.
use Rattle.std.proofs.Common.{◌≡◌, ◌≢◌, ℕ, ◌<◌, arith, Bool, List, [], ◌++◌, sym, ◌∙◌, subst, ap}
use Rattle.std.specs.Prelude.{Option, Some, None}
use Rattle.region_words.specs.Region.{Region}
use Rattle.region_words.specs.Past.{region_after, changes_of, locks_after}
use Rattle.region_words.specs.Lawful.{Lawful, IsWordOf}
use Rattle.region_words.specs.Told.{History, OnTold, OnBoth}
use Rattle.region_words.specs.Share.{ShareState, Agrees, IsSound, HasWord, Grows, made_by}
use Rattle.region_words.specs.declared.event.Side.{Side}
use Rattle.region_words.specs.declared.event.Side.TheVariants.{Data, Meta}
use Rattle.region_words.specs.declared.event.What.{What}
use Rattle.region_words.specs.declared.event.Event.{Event}
use Rattle.region_words.proofs.Held.{held}
use Rattle.region_words.proofs.Regions.{lawful_region}
use Rattle.region_words.proofs.LockOf.{holds_some}

pub told_map : (t : Option History) (P Q : History → Type 0) → ((h : History) → P h → Q h) → OnTold t P → OnTold t Q
told_map None P Q f p = tt
told_map (Some h) P Q f p = f h p

pub told_and : (t : Option History) (P Q R : History → Type 0) → ((h : History) → P h → Q h → R h) → OnTold t P → OnTold t Q → OnTold t R
told_and None P Q R f p q = tt
told_and (Some h) P Q R f p q = f h p q

-- from what held before a call, what the call did and what is known after it
pub told_step : (t u : Option History) (P S Q : History → Type 0) (R : History → History → Type 0) →
    ((h k : History) → P h → R h k → S k → Q k) → OnTold t P → OnBoth t u R → OnTold u S → OnTold u Q
told_step None None P S Q R f p r s = tt
told_step None (Some k) P S Q R f p r s = absurd r
told_step (Some h) None P S Q R f p r s = absurd r
told_step (Some h) (Some k) P S Q R f p r s = f h k p r s

-- what is said of the journal that a call made is said of the new one, and back
pub grows_to : (who : ℕ) (alone : Bool) (own : List What) (h k : History) (g : Grows who alone own h k) (P : Region → List Event → Type 0) →
    P h.start (made_by who own ++ (g.others ++ h.past)) → P k.start k.past
grows_to who alone own h k g P p = subst (λ past. P k.start past) (sym g.past) (subst (λ start. P start (made_by who own ++ (g.others ++ h.past))) (sym g.start) p)

pub grows_from : (who : ℕ) (alone : Bool) (own : List What) (h k : History) (g : Grows who alone own h k) (P : Region → List Event → Type 0) →
    P k.start k.past → P h.start (made_by who own ++ (g.others ++ h.past))
grows_from who alone own h k g P p = subst (λ start. P start (made_by who own ++ (g.others ++ h.past))) g.start (subst (λ past. P k.start past) g.past p)

-- while a lock is held, a call without an event of its own finds the region and the changes as they were
pub held_steady : (s new : ShareState) (h k : History) → Agrees s h → Agrees new k → Grows s.who s.alone [] h k → s.holds ≢ None →
    (region_after k.start k.past ≡ region_after h.start h.past) × (changes_of k.past ≡ changes_of h.past)
held_steady s new h k before after g holds =
    let lawful : Lawful h.start (g.others ++ h.past) = grows_from s.who s.alone [] h k g Lawful after.lawful in
    let same = held h.start g.others h.past s.who lawful (holds_some (locks_after h.past) s.who (λ e. holds (sym before.holds ∙ e))) g.by_others in
    (grows_to s.who s.alone [] h k g (λ start past. region_after start past ≡ region_after h.start h.past) same.0, ap changes_of g.past ∙ same.1)

-- the header and the words of the meta file that are read lie in their files
pub has_first_words : (s : ShareState) → IsSound s → (side : Side) (w : ℕ) → w < 1024 → HasWord side w s
has_first_words s is side w few = told_map s.told (Agrees s) (λ h. IsWordOf (region_after h.start h.past) side w) (λ h a. go h a side) is.told
  where
    go : (h : History) → Agrees s h → (side : Side) → IsWordOf (region_after h.start h.past) side w
    go h a Data = let file = (lawful_region h.start h.past a.lawful a.region).data_file in omega (arith, few, file.pages, file.not_empty)
    go h a Meta = let file = (lawful_region h.start h.past a.lawful a.region).meta_file in omega (arith, few, file.pages, file.not_empty)
