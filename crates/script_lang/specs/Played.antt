-- A script that was played: what each line may make. Parts and events stand with the latest first.
use Rattle.std.specs.Prelude.{All, ◌≡◌, ◌≢◌, ℕ, ◌+◌, ◌<◌, ◌≤◌, ◌⊎◌, Bool, true, false, List, [], ◌∷◌, ◌++◌, Option, Some, None, length, filter, nat_le, ◌&&◌, IsTrue, ⊤}
use Rattle.std.specs.List.{AllByRecursion}
use Rattle.change_log.specs.Settled.{AreBegun, AreOfCall}
use Rattle.change_log.specs.declared.call.Answer.{Answer}
use Rattle.change_log.specs.declared.call.Call.{Call}
use Rattle.handlers.specs.declared.handler.Strategy.{Strategy}
use Rattle.handlers.specs.declared.handler.Strategy.TheVariants.{Discard, Recover, Leave}
use Rattle.handlers.specs.declared.stock.HandlerStock.{HandlerStock}
use Rattle.lock_rules.specs.Locks.{IsLeastAgainst, MayTake}
use Rattle.lock_rules.specs.declared.limits.TheConstants.{MOST_OPENERS}
use Rattle.lock_rules.specs.declared.table.LockKind.{LockKind}
use Rattle.lock_rules.specs.declared.table.LockKind.TheVariants.{Exclusive}
use Rattle.meta_record.specs.Words.{torn, word_at}
use Rattle.meta_record.specs.declared.shown.Shown.TheVariants.{Whole}
use Rattle.opener.specs.Begins.{call_refusal}
use Rattle.opener.specs.Calls.{is_write, kind_of}
use Rattle.opener.specs.Counted.{counted}
use Rattle.opener.specs.Opener.{image_at}
use Rattle.opener.specs.Plans.{IsPlanOf, events_in, refusal_of}
use Rattle.opener.specs.declared.calls.Stop.{Stop}
use Rattle.opener.specs.declared.calls.Stop.TheVariants as stop
use Rattle.opener.specs.declared.plan.Plan.{Plan}
use Rattle.region_words.specs.Apart.{Apart}
use Rattle.region_words.specs.Lawful.{Between, Phase, Reaches, Within, map_after}
use Rattle.region_words.specs.Past.{AreSteps, NoneDies, changes_of, locks_after, region_after}
use Rattle.region_words.specs.Region.{Region, IsAccepted, shown}
use Rattle.region_words.specs.Coming.{IsComing}
use Rattle.region_words.specs.Rows.{Row, standing}
use Rattle.region_words.specs.Share.{lock_of, most_events, places_kept}
use Rattle.region_words.specs.declared.event.Mark.{Mark}
use Rattle.region_words.specs.declared.event.Side.TheVariants.{Data}
use Rattle.region_words.specs.declared.event.What.{What}
use Rattle.region_words.specs.declared.event.What.TheVariants.{Died, Store}
use Rattle.region_words.specs.declared.event.Event.{Event}
use Rattle.region_words.specs.declared.event.TornWord.{TornWord}
use Rattle.script_lang.specs.declared.line.Line.{Line}
use Rattle.script_lang.specs.declared.line.Line.TheVariants.{Open, Begin, Step, Die, Next}
use Rattle.script_lang.specs.declared.outcome.Outcome.{Outcome}
use Rattle.script_lang.specs.declared.outcome.Outcome.TheVariants.{Answered, Blocked, Stopped}
use Rattle.script_lang.specs.declared.outcome.Reason.{Reason}
use Rattle.script_lang.specs.declared.outcome.Reason.TheVariants as reason
use Rattle.script_lang.specs.Parts.{Part, past_of, lives, holds_of, is_lock, locks_among, stores_among, strategies, Running, running, going_on}

-- how many handlers of each strategy a stock has
pub record Stock : Type 0 where
  pub discard : ℕ
  pub recover : ℕ
  pub leave : ℕ

abbrev pub stock_of : {A : Type 0} {Is : A → Type 0} → HandlerStock A Is → Stock
stock_of handlers = record { discard = length handlers.discard.items; recover = length handlers.recover.items; leave = length handlers.leave.items }

abbrev pub stocked : Stock → Strategy → ℕ
stocked stock Discard = stock.discard
stocked stock Recover = stock.recover
stocked stock Leave = stock.leave

abbrev pub is_same : Strategy → Strategy → Bool
is_same Discard Discard = true
is_same Recover Recover = true
is_same Leave Leave = true
is_same _ _ = false

-- how many of these have this strategy
abbrev pub drawn : Strategy → List Strategy → ℕ
drawn strategy opened = length (filter (is_same strategy) opened)

-- a call may begin
pub record MayStart (parts : List Part) (who : ℕ) (call : Call) : Type 0 where
  pub alive : IsTrue (lives who parts)
  pub idle : running who parts ≡ None
  pub asks : call_refusal call (holds_of who parts) ≡ None

-- what a line names may be done after these
abbrev pub MayCome : Stock → List Part → Line → Type 0
MayCome stock parts (Open strategy) = (length (strategies parts) < MOST_OPENERS) × (drawn strategy (strategies parts) < stocked stock strategy)
MayCome stock parts (Begin who now call) = MayStart parts who call
MayCome stock parts (Step who count) = IsTrue (lives who parts)
MayCome stock parts (Die who bits) = IsTrue (lives who parts)
MayCome stock parts (Next who now call) = ⊥

-- the call is answered: the answer's place lies between its begin and its end, and it counts the call's stores and locks
pub record IsAnsweredBy (past : List Event) (c : Running) (who : ℕ) (a : Answer) : Type 0 where
  pub by : a.who ≡ who
  pub call_is : a.call ≡ c.call
  pub moment : a.now ≡ c.now
  pub begun : a.begun ≡ length (changes_of c.past)
  pub place_begun : a.begun ≤ a.place
  pub place_ended : a.place ≤ a.ended
  pub ended : a.ended ≡ length (changes_of past)
  pub stores : a.stores ≡ counted (stores_among c.since)
  pub locks : a.locks ≡ counted (locks_among c.since)

-- the reasons that are printed so far: damage isn't among them
abbrev pub IsPrinted : Reason → Type 0
IsPrinted (reason.Full need) = ⊤
IsPrinted reason.SequenceEnd = ⊤
IsPrinted reason.ExpiryOff = ⊤
IsPrinted reason.ExpiryRange = ⊤
IsPrinted reason.AlreadyOn = ⊤
IsPrinted reason.AlreadyOff = ⊤
IsPrinted _ = ⊥

-- the reason that is printed for a stop, if it is one of these
abbrev pub reason_said : Stop → Option Reason
reason_said (stop.Full need) = Some (reason.Full need)
reason_said stop.SequenceEnd = Some reason.SequenceEnd
reason_said stop.ExpiryOff = Some reason.ExpiryOff
reason_said stop.ExpiryRange = Some reason.ExpiryRange
reason_said stop.AlreadyOn = Some reason.AlreadyOn
reason_said stop.AlreadyOff = Some reason.AlreadyOff
reason_said _ = None

-- this opener takes no lock among these events
abbrev pub TakesNone : ℕ → List Event → Type 0
TakesNone who events = AllByRecursion (λ e. e.who ≡ who → is_lock e.what ≡ false) events

-- A write of a moment, begun after so many changes, was refused for this: it was the first reason in the region as it stood under the
-- opener's last exclusive lock, and in the map of the history.
pub record WasRefused (who : ℕ) (why : Stop) (asked : Call) (now begun : ℕ) (start : Region) (past : List Event) : Type 0 where
  pub later : List Event
  pub earlier : List Event
  pub is : later ++ earlier ≡ past
  pub since : begun ≤ length (changes_of earlier)
  pub held : lock_of (locks_after earlier) who ≡ Some Exclusive
  pub last : TakesNone who later
  pub first : IsAccepted start → Apart start earlier → refusal_of asked now (standing (region_after start earlier)) (map_after start earlier) ≡ Some why

-- The last step of a call tried for a lock of the kind that the call takes, which this opener holds nothing of, and this is the least holder
-- that stands against it.
pub record IsBlockedBy (past : List Event) (c : Running) (who holder : ℕ) : Type 0 where
  pub kind : LockKind
  pub tries : kind_of c.call ≡ Some kind
  pub free : lock_of (locks_after past) who ≡ None
  pub least : IsLeastAgainst (locks_after past) who kind holder

-- what ends a step line of a running call: it goes on, is answered, waits for the least holder that stands against its try, or is stopped and
-- has stored nothing
abbrev pub IsOutcomeOf : List Event → Running → ℕ → Option Outcome → Type 0
IsOutcomeOf past c who None = ⊤
IsOutcomeOf past c who (Some (Answered a)) = IsAnsweredBy past c who a
IsOutcomeOf past c who (Some (Blocked w holder)) = (w ≡ who) × IsBlockedBy past c who holder
IsOutcomeOf past c who (Some (Stopped w why)) = (w ≡ who) × IsPrinted why × (stores_among c.since ≡ 0)

-- what a call has changed since it began: all that it makes, where it is answered; nothing, where it is stopped; and else the first part of
-- what it makes, or all
abbrev pub AreMarks : ℕ → Running → Option Outcome → Type 0
AreMarks who c (Some (Answered a)) = AreOfCall who c.call c.now (changes_of c.since)
AreMarks who c (Some (Stopped w why)) = changes_of c.since ≡ []
AreMarks who c _ = AreBegun who c.call c.now (changes_of c.since)

-- the part of a step line of a running call
pub record StepsOf (past : List Event) (who count : ℕ) (c : Running) (made : List Event) (outcome : Option Outcome) : Type 0 where
  pub few : length made ≤ count
  pub own : AreSteps who made
  pub ends : IsOutcomeOf (made ++ past) (going_on made c) who outcome
  pub marks : AreMarks who (going_on made c) outcome

-- without a running call nothing is made
abbrev pub IsStepLine : List Event → ℕ → ℕ → Option Running → List Event → Option Outcome → Type 0
IsStepLine past who count None made outcome = (made ≡ []) × (outcome ≡ None)
IsStepLine past who count (Some c) made outcome = StepsOf past who count c made outcome

-- A death of this opener tears this word. Of its bytes those that its store would have changed are those of the bits, and the others stand.
-- Where checksums tell payloads apart, that store was the next event of the opener's row.
pub record Tears (start : Region) (past : List Event) (who bits : ℕ) (t : TornWord) : Type 0 where
  pub new : ℕ
  pub left : t.value ≡ torn (word_at (region_after start past).data_bytes t.word) new bits
  pub next : Apart start past → (row : Row) × (mark : Mark) × (rest : List What) × IsComing start past who row (Store Data t.word new mark ∷ rest)

-- the row under way, if any, doesn't store a payload word next
abbrev pub StoresNoPayload : Phase → Type 0
StoresNoPayload (Between room) = ⊤
StoresNoPayload (Within row (Store Data word new mark ∷ rest)) = word ≡ 0
StoresNoPayload (Within row rest) = ⊤

-- A death of this opener tears nothing. So where it holds exclusive its row was not about to store a payload word.
abbrev pub TearsNone : Region → List Event → ℕ → Type 0
TearsNone start past who = lock_of (locks_after past) who ≡ Some Exclusive → Apart start past → (phase : Phase) × Reaches start past phase × StoresNoPayload phase

-- what a death with these bits, if any, leaves torn
abbrev pub MayLeave : Region → List Event → ℕ → Option ℕ → Option TornWord → Type 0
MayLeave start past who None torn = torn ≡ None
MayLeave start past who (Some bits) None = TearsNone start past who
MayLeave start past who (Some bits) (Some t) = Tears start past who bits t

-- what a line makes after these
abbrev pub Makes : List Part → Line → List Event → Option Outcome → Type 0
Makes parts (Step who count) made outcome = IsStepLine (past_of parts) who count (running who parts) made outcome
Makes parts (Die who bits) made outcome = ((t : Option TornWord) × (made ≡ record { who = who; what = Died t } ∷ [])) × (outcome ≡ None)
Makes parts _ made outcome = (made ≡ []) × (outcome ≡ None)

abbrev pub IsPartOf : Stock → List Part → Option Line → List Event → Option Outcome → Type 0
IsPartOf stock parts None made outcome = (made ≡ []) × (outcome ≡ None)
IsPartOf stock parts (Some l) made outcome = MayCome stock parts l × Makes parts l made outcome

-- from the answer of a hold to the last release nobody else's change is marked
abbrev pub IsHeld : Part → List Part → Type 0
IsHeld p parts = (who : ℕ) → 0 < holds_of who parts → All (λ c. c.maker ≡ who) (changes_of p.made)

-- at each line
abbrev pub AreHeld : List Part → Type 0
AreHeld [] = ⊤
AreHeld (p ∷ parts) = AreHeld parts × IsHeld p parts

-- where the line is a death, it tears no word but so
abbrev pub IsTorn : Region → Part → List Part → Type 0
IsTorn start p parts =
    (who : ℕ) (bits : Option ℕ) (t : Option TornWord) → p.line ≡ Some (Die who bits) → p.made ≡ record { who = who; what = Died t } ∷ [] → MayLeave start (past_of parts) who bits t

-- each line's
abbrev pub AreTorn : Region → List Part → Type 0
AreTorn start [] = ⊤
AreTorn start (p ∷ parts) = AreTorn start parts × IsTorn start p parts

-- where the line's call was stopped, its write was refused for the reason that is printed
abbrev pub IsReasoned : Region → Part → List Part → Type 0
IsReasoned start p parts =
    (c : Running) (who : ℕ) (r : Reason) → running who parts ≡ Some c → p.outcome ≡ Some (Stopped who r) →
    (why : Stop) × (reason_said why ≡ Some r) × WasRefused who why c.call c.now (length (changes_of c.past)) start (p.made ++ past_of parts)

-- each line's
abbrev pub AreReasoned : Region → List Part → Type 0
AreReasoned start [] = ⊤
AreReasoned start (p ∷ parts) = AreReasoned start parts × IsReasoned start p parts

-- each line made what it may
abbrev pub ArePlayed : Stock → List Part → Type 0
ArePlayed stock [] = Unit {0}
ArePlayed stock (p ∷ parts) = ArePlayed stock parts × IsPartOf stock parts p.line p.made p.outcome

-- the places that are kept after these events for the first openers, so many, where none is reserved: one for the death of each that lives, and
-- one for the unlock of each lock
abbrev pub places_after : ℕ → List Event → ℕ
places_after opened past = places_kept (λ who. nat_le 1 who && nat_le who opened) (λ who. 0) past

-- beside the events so far and the places kept, the journal has no room for so many places
abbrev pub IsTooFull : ℕ → List Event → ℕ → Type 0
IsTooFull opened past asked = most_events < length past + places_after opened past + asked

-- after these events a call asks for so many places: two for a lock of the kind that it takes, which it may take; or, where it is a write that
-- holds exclusive, one for each event of the rows that it makes
abbrev pub AsksFor : Region → ℕ → Running → List Event → ℕ → Type 0
AsksFor start who c past asked =
    ((asked ≡ 2) × ((kind : LockKind) × (kind_of c.call ≡ Some kind) × MayTake (locks_after past) who kind))
    ⊎ ((lock_of (locks_after past) who ≡ Some Exclusive) × (is_write c.call ≡ true)
    × ((plan : Plan) × (asked ≡ events_in plan) × (IsAccepted start → Apart start past → IsPlanOf who c.call c.now (image_at start past) plan)))

-- after some events of a step line its call asked for places that the journal hadn't
pub record MetFullJournal (start : Region) (parts : List Part) (who count : ℕ) : Type 0 where
  pub call : Running
  pub runs : running who parts ≡ Some call
  pub made : List Event
  pub few : length made < count
  pub own : AreSteps who made
  pub asked : ℕ
  pub asks : AsksFor start who call (made ++ past_of parts) asked
  pub full : IsTooFull (length (strategies parts)) (made ++ past_of parts) asked

-- one more opener asked for the place of its death. Other openers have so many places reserved for stores to come: none, unless one of them
-- holds exclusive and runs a write
pub record MetNoPlace (parts : List Part) : Type 0 where
  pub reserved : ℕ
  pub by_writer : 0 < reserved → (w : ℕ) × (c : Running) × (running w parts ≡ Some c) × (is_write c.call ≡ true) × (lock_of (locks_after (past_of parts)) w ≡ Some Exclusive)
  pub full : IsTooFull (length (strategies parts)) (past_of parts) (reserved + 1)

-- a line for which the journal was too full
abbrev pub MeetsFullJournal : Region → List Part → Line → Type 0
MeetsFullJournal start parts (Open strategy) = MetNoPlace parts
MeetsFullJournal start parts (Step who count) = MetFullJournal start parts who count
MeetsFullJournal start parts _ = ⊥

-- The call of a step line had looked at a region that shows no whole image. Where the start shows one, an opener had died, or checksums don't
-- tell payloads apart there.
pub record MetNoImage (start : Region) (parts : List Part) (who count : ℕ) : Type 0 where
  pub call : Running
  pub runs : running who parts ≡ Some call
  pub made : List Event
  pub few : length made ≤ count
  pub own : AreSteps who made
  pub later : List Event
  pub earlier : List Event
  pub is : later ++ earlier ≡ made ++ past_of parts
  pub not_whole : (n : ℕ) → shown (region_after start earlier) ≢ Whole n
  pub apart : (n : ℕ) → shown start ≡ Whole n → NoneDies earlier → Apart start earlier → ⊥

abbrev pub MeetsNoImage : Region → List Part → Line → Type 0
MeetsNoImage start parts (Step who count) = MetNoImage start parts who count
MeetsNoImage start parts _ = ⊥

-- after each line the journal has room for its events and the places kept
abbrev pub AreRoomy : List Part → Type 0
AreRoomy [] = ⊤
AreRoomy (p ∷ parts) =
    AreRoomy parts × (length (past_of (p ∷ parts)) + places_after (length (strategies (p ∷ parts))) (past_of (p ∷ parts)) ≤ most_events)
