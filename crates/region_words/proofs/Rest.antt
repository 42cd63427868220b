use Rattle.std.proofs.Common.{◌≡◌, ℕ, Bool, true, false, List, [], ◌∷◌, refl, ◌∙◌}
use Rattle.std.specs.Prelude.{Option, Some, None, IsTrue, ◌==◌, if◌then◌else◌}
use Rattle.std.specs.Option.{option_map_or}
use Rattle.lock_rules.specs.Locks.{Locks, holds_exclusive}
use Rattle.lock_rules.specs.declared.table.LockKind.TheVariants.{Shared, Exclusive}
use Rattle.region_words.specs.Region.{Region}
use Rattle.region_words.specs.Past.{region_after, locks_after, locks_step}
use Rattle.region_words.specs.Lawful.{Phase, Between, Reaches, Lawful, IsPossible, IsStep, Dies, map_after}
use Rattle.expiring_map.specs.Map.{Map}
use Rattle.region_words.specs.declared.event.What.{What}
use Rattle.region_words.specs.declared.event.What.TheVariants.{Store, Grow, Lock, Unlock, Died}
use Rattle.region_words.specs.declared.event.TornWord.{TornWord}
use Rattle.region_words.specs.declared.event.Event.{Event}

-- who holds exclusive is somebody
not_none : (o : Option ℕ) (who : ℕ) → IsTrue (option_map_or (λ h. h == who) o false) → o ≡ None → ⊥
not_none None who h e = cc
not_none (Some x) who h e = cc

-- where nobody is left, there was nobody, or it was the one who left
left : (o : Option ℕ) (who : ℕ) → option_map_or (λ h. h == who) o false ≡ false → option_map_or (λ h. if h == who then None else Some h) o None ≡ None → o ≡ None
left None who h e = refl
left (Some x) who h e = cc

still : (b : Bool) (r : Region) (m : Map) (who : ℕ) (old : Phase) (torn : Option TornWord) (new : Phase) →
    Dies b r m who old torn new → (b ≡ false → old ≡ Between None) → new ≡ Between None
still true r m who old torn new c k = c.1
still false r m who old torn new c k = c ∙ k refl

-- one event keeps the law below
goes_on : (r : Region) (m : Map) (locks : Locks) (who : ℕ) (old : Phase) (what : What) (new : Phase) →
    IsPossible r locks who what → IsStep r m locks who old what new → (locks.exclusive ≡ None → old ≡ Between None) →
    (locks_step locks who what).exclusive ≡ None → new ≡ Between None
goes_on r m locks who old (Store side word value mark) new p g k e = absurd (not_none locks.exclusive who p.0 e)
goes_on r m locks who old (Grow size) new p g k e = absurd (not_none locks.exclusive who p.0 e)
goes_on r m locks who old (Lock Shared) new p g k e = g ∙ k e
goes_on r m locks who old (Lock Exclusive) new p g k e = absurd cc
goes_on r m locks who old Unlock new p g k e = g.1
goes_on r m locks who old (Died torn) new p g k e =
    still (holds_exclusive locks who) r m who old torn new g (λ f. k (left locks.exclusive who f e))

-- where nobody holds exclusive, no row is under way
pub at_rest : (start : Region) (past : List Event) (phase : Phase) → Lawful start past → Reaches start past phase →
    (locks_after past).exclusive ≡ None → phase ≡ Between None
at_rest start [] phase l g e = g
at_rest start (event ∷ past) phase l g e =
    goes_on (region_after start past) (map_after start past) (locks_after past) event.who g.0 event.what phase l.1.possible g.2
    (at_rest start past g.0 l.0 g.1) e
