-- A region in which a row has begun had an accepted record at its start, and so had one that is accepted between rows.
use Rattle.std.proofs.Common.{◌⊎◌, ℕ, Bool, true, false, List, [], ◌∷◌, subst, inl, inr, arith}
use Rattle.std.specs.Prelude.{Option, Some, None, IsOk, ⊤}
use Rattle.expiring_map.specs.Map.{Map}
use Rattle.meta_record.specs.Records.{checked}
use Rattle.meta_record.proofs.WordLemmas.{other_word}
use Rattle.lock_rules.specs.Locks.{holds_exclusive}
use Rattle.region_words.specs.Region.{Region, IsAccepted, record_of}
use Rattle.region_words.specs.Past.{region_after, region_step, locks_after}
use Rattle.region_words.specs.Coming.{IsComing, IsStoring}
use Rattle.region_words.specs.Rows.{Row}
use Rattle.region_words.specs.Lawful.{Lawful, Phase, Between, Within, Reaches, MayComeNext, Dies, IsTornIn, IsPossible, IsStep, map_after}
use Rattle.region_words.specs.declared.event.TornWord.{TornWord}
use Rattle.region_words.specs.declared.event.What.{What}
use Rattle.region_words.specs.declared.event.What.TheVariants.{Store, Grow, Lock, Unlock, Died}
use Rattle.region_words.specs.declared.event.Event.{Event}

-- a row is under way
abbrev IsUnder : Phase → Type 0
IsUnder (Between room) = ⊥
IsUnder (Within row rest) = ⊤

-- the record is accepted now, or a row is under way
abbrev IsSeen : Region → Phase → Type 0
IsSeen r phase = IsAccepted r ⊎ IsUnder phase

-- a row comes next only in such a region
comes_seen : (r : Region) (m : Map) (who : ℕ) (old : Phase) (row : Row) (events : List What) → MayComeNext r m who old row events → IsSeen r old
comes_seen r m who (Between room) row events c = inl c.2
comes_seen r m who (Within under rest) row events c = inr tt

-- a death leaves the header and the record
torn_back : (r : Region) (torn : Option TornWord) → IsTornIn r torn → IsAccepted (region_step r (Died torn)) → IsAccepted r
torn_back r None t a = a
torn_back r (Some torn) t a =
    subst (λ h. IsOk (checked (record_of r) h)) (other_word r.data_bytes torn.word torn.value t.1 0 (λ e. absurd (omega (arith, e, t.0)))) a

died_back : (b : Bool) (r : Region) (m : Map) (who : ℕ) (torn : Option TornWord) (old new : Phase) → IsTornIn r torn → Dies b r m who old torn new →
    IsSeen (region_step r (Died torn)) new → IsSeen r old
died_back b r m who torn old new t c (inl a) = inl (torn_back r torn t a)
died_back true r m who torn old new t c (inr u) = absurd (subst IsUnder c.1 u)
died_back false r m who torn old new t c (inr u) = inr (subst IsUnder c u)

accepted_before : (start : Region) (past : List Event) (phase : Phase) → Lawful start past → Reaches start past phase → IsSeen (region_after start past) phase → IsAccepted start
accepted_before start [] phase l leads (inl a) = a
accepted_before start [] phase l leads (inr u) = absurd (subst IsUnder leads u)
accepted_before start (e ∷ past) phase l leads seen = accepted_before start past leads.0 l.0 leads.1 (go e.who e.what l.1.possible leads.2 seen)
  where
    go : (who : ℕ) (what : What) → IsPossible (region_after start past) (locks_after past) who what →
        IsStep (region_after start past) (map_after start past) (locks_after past) who leads.0 what phase → IsSeen (region_step (region_after start past) what) phase →
        IsSeen (region_after start past) leads.0
    go who (Store side word value mark) p step seen = comes_seen (region_after start past) (map_after start past) who leads.0 step.0 (Store side word value mark ∷ step.1) step.2
    go who (Grow size) p step seen = comes_seen (region_after start past) (map_after start past) who leads.0 step.0 (Grow size ∷ step.1) step.2
    go who (Lock kind) p step seen = subst (IsSeen (region_after start past)) step seen
    go who Unlock p step (inl a) = inl a
    go who Unlock p step (inr u) = absurd (subst IsUnder step.1 u)
    go who (Died torn) p step seen = died_back (holds_exclusive (locks_after past) who) (region_after start past) (map_after start past) who torn leads.0 phase p.1 step seen

-- between rows the record is accepted
pub accepted_at_rest : (start : Region) (past : List Event) (phase : Phase) → Lawful start past → Reaches start past phase → IsAccepted (region_after start past) → IsAccepted start
accepted_at_rest start past phase l leads a = accepted_before start past phase l leads (inl a)

-- a row has begun, or may begin
pub accepted_coming : (start : Region) (past : List Event) (who : ℕ) (row : Row) (events : List What) → Lawful start past → IsComing start past who row events → IsAccepted start
accepted_coming start past who row events l c =
    accepted_before start past c.phase l c.reached (comes_seen (region_after start past) (map_after start past) who c.phase row events c.next)

-- a store or a growth was made as one of a row
pub accepted_stored : (start : Region) (e : Event) (past : List Event) (phase : Phase) → Lawful start past → IsStoring e.what → Reaches start (e ∷ past) phase → IsAccepted start
accepted_stored start e past phase l is leads = accepted_before start past leads.0 l leads.1 (go e.what is leads.2)
  where
    go : (what : What) → IsStoring what → IsStep (region_after start past) (map_after start past) (locks_after past) e.who leads.0 what phase → IsSeen (region_after start past) leads.0
    go (Store side word value mark) is step = comes_seen (region_after start past) (map_after start past) e.who leads.0 step.0 (Store side word value mark ∷ step.1) step.2
    go (Grow size) is step = comes_seen (region_after start past) (map_after start past) e.who leads.0 step.0 (Grow size ∷ step.1) step.2
    go (Lock kind) is step = absurd is
    go Unlock is step = absurd is
    go (Died torn) is step = absurd is
