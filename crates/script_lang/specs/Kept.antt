-- Which words an opener keeps of the region, and which reads they answer. Parts and events stand with the latest first.
use Rattle.std.specs.Prelude.{◌≡◌, ℕ, ◌<◌, false, List, [], ◌∷◌, ◌++◌, Option, Some, None, length, replicate, take, ◌==◌, ◌&&◌, if◌then◌else◌, ⊤}
use Rattle.change_log.specs.declared.call.Answer.{Answer}
use Rattle.change_log.specs.declared.call.Call.{Call}
use Rattle.lock_rules.specs.declared.table.LockKind.TheVariants.{Shared}
use Rattle.opener.specs.Calls.{kind_of}
use Rattle.opener.specs.Fresh.{is_fresh}
use Rattle.region_words.specs.Apart.{Apart}
use Rattle.region_words.specs.Images.{checksum_at, sequence_at}
use Rattle.region_words.specs.Past.{changes_of}
use Rattle.region_words.specs.Region.{Region}
use Rattle.region_words.specs.declared.event.Event.{Event}
use Rattle.script_lang.specs.declared.line.Line.{Line}
use Rattle.script_lang.specs.declared.line.Line.TheVariants.{Begin, Step}
use Rattle.script_lang.specs.declared.outcome.Outcome.{Outcome}
use Rattle.script_lang.specs.declared.outcome.Outcome.TheVariants.{Answered, Stopped}
use Rattle.script_lang.specs.Parts.{Part, Running, past_of, running}

-- a read takes a shared lock for itself, where it takes one
abbrev pub IsRead : Call → Type 0
IsRead call = kind_of call ≡ Some Shared

-- An opener keeps the words that the region has after an answer of its own with more than two loads, or with a store, and none after a
-- stop of its own. Its words are told by the events up to that answer.
abbrev pub kept_after : ℕ → List Event → Option Outcome → Option (List Event) → Option (List Event)
kept_after who past (Some (Answered a)) kept = if (a.who == who) && is_fresh a then Some past else kept
kept_after who past (Some (Stopped w why)) kept = if w == who then None else kept
kept_after who past _ kept = kept

abbrev pub kept_of : ℕ → List Part → Option (List Event)
kept_of who [] = None
kept_of who (p ∷ parts) = kept_after who (past_of (p ∷ parts)) p.outcome (kept_of who parts)

-- the first two of these looks and of so many more after these events
abbrev pub looked : List (List Event) → ℕ → List Event → List (List Event)
looked looks count past = take 2 (looks ++ replicate count past)

-- the events before the first two steps of an opener's call, as far as the lines asked for them: at the begin of the line that did
abbrev pub looks_after : Option Line → ℕ → List Event → List (List Event) → List (List Event)
looks_after (Some (Begin maker now call)) who past looks = if maker == who then [] else looks
looks_after (Some (Step maker count)) who past looks = if maker == who then looked looks count past else looks
looks_after _ who past looks = looks

abbrev pub looks_of : ℕ → List Part → List (List Event)
looks_of who [] = []
looks_of who (p ∷ parts) = looks_after p.line who (past_of parts) (looks_of who parts)

-- the first look, at the checksum, and the second, at the sequence, find the words that are kept
abbrev pub FindWords : Region → Option (List Event) → List (List Event) → Type 0
FindWords start (Some past) (first ∷ second ∷ more) = (checksum_at start first ≡ checksum_at start past) × (sequence_at start second ≡ sequence_at start past)
FindWords start kept looks = ⊥

-- the line asks for the second step of the opener's call, and both looks find the words that it keeps
abbrev pub SeesWords : Region → ℕ → Part → List Part → Type 0
SeesWords start who p parts = (length (looks_of who parts) < 2) × FindWords start (kept_of who parts) (looks_of who (p ∷ parts))

-- an answer that counts two loads, no store and no lock, and has the place of the first look
abbrev pub IsByLooks : List (List Event) → Answer → Type 0
IsByLooks (first ∷ more) a = (a.loads ≡ 2) × (a.stores ≡ 0) × (a.locks ≡ 0) × (a.place ≡ length (changes_of first))
IsByLooks [] a = ⊥

-- where the line sees the words that are kept, it is answered by its two looks, and else by no answer with two loads or fewer and no store
pub record IsByWords (start : Region) (who : ℕ) (p : Part) (parts : List Part) : Type 0 where
  pub seen : SeesWords start who p parts → (a : Answer) × (p.outcome ≡ Some (Answered a)) × IsByLooks (looks_of who (p ∷ parts)) a
  pub only : (a : Answer) → p.outcome ≡ Some (Answered a) → is_fresh a ≡ false → SeesWords start who p parts

-- so it is with a line of steps of a read, where checksums tell payloads apart
abbrev pub ReadsByWords : Region → Part → List Part → Type 0
ReadsByWords start p parts =
    (who count : ℕ) (c : Running) → p.line ≡ Some (Step who count) → running who parts ≡ Some c → IsRead c.call → Apart start (past_of (p ∷ parts)) →
    IsByWords start who p parts

-- and with each line
abbrev pub ReadByWords : Region → List Part → Type 0
ReadByWords start [] = ⊤
ReadByWords start (p ∷ parts) = ReadByWords start parts × ReadsByWords start p parts
