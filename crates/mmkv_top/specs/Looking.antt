-- What an opener keeps of the region, and what its call has looked at.
use Rattle.std.specs.Prelude.{◌≡◌, ◌<◌, ◌⊎◌, true, false, List, [], ◌∷◌, Option, Some, None, IsTrue, is_some, length, if◌then◌else◌, ⊤}
use Rattle.change_log.specs.declared.call.Answer.{Answer}
use Rattle.loader.specs.declared.loaded.Image.{Image}
use Rattle.opener.specs.Fresh.{is_fresh}
use Rattle.opener.specs.Opener.{MatchesRegion}
use Rattle.opener.specs.State.{OpenerState}
use Rattle.opener.specs.declared.calls.Step.{Step}
use Rattle.opener.specs.declared.calls.Step.TheVariants as step
use Rattle.opener.specs.declared.work.Stage.{Stage}
use Rattle.opener.specs.declared.work.Stage.TheVariants as stage
use Rattle.opener.specs.declared.work.Work.{Work}
use Rattle.opener.specs.declared.work.Work.TheVariants.{Runs}
use Rattle.region_words.specs.Images.{checksum_at}
use Rattle.region_words.specs.Past.{changes_of}
use Rattle.region_words.specs.Region.{Region}
use Rattle.region_words.specs.declared.event.Event.{Event}
use Rattle.region_words.specs.declared.stops.Peek.{Peek}
use Rattle.script_lang.specs.Kept.{FindWords, IsByLooks, IsRead}
use Rattle.script_lang.specs.Parts.{Running}
use Rattle.script_lang.specs.Played.{reason_said}

-- the image that is kept has the words that the region had after these events; none is kept where none are named
abbrev pub IsKnown : Region → Option (List Event) → Option Image → Type 0
IsKnown start None image = image ≡ None
IsKnown start (Some past) image = MatchesRegion image start past

-- neither these looks find the words that are kept, nor do more of them
abbrev pub NeverFind : Region → Option (List Event) → List (List Event) → Type 0
NeverFind start None looks = ⊤
NeverFind start (Some past) (first ∷ second ∷ more) = FindWords start (Some past) (first ∷ second ∷ more) → ⊥
NeverFind start (Some past) looks = ⊥

-- the first look was made, and this peeked
pub record LookedOnce (start : Region) (peek : Peek) (looks : List (List Event)) : Type 0 where
  pub first : List Event
  pub one : looks ≡ first ∷ []
  pub checksum : peek.checksum ≡ checksum_at start first
  pub place : peek.changes ≡ length (changes_of first)

-- At a stage of a call: up to its looks, which a read makes first, the words are known; a read that goes on from there hasn't found them.
abbrev pub LooksAt : Region → Option (List Event) → List (List Event) → Option Image → Running → Stage → Type 0
LooksAt start kept looks image r stage.PeekChecksum = IsKnown start kept image × (IsRead r.call → (looks ≡ []) × (r.since ≡ []))
LooksAt start kept looks image r (stage.PeekSequence peek) = IsKnown start kept image × (IsRead r.call → LookedOnce start peek looks × (r.since ≡ []))
LooksAt start kept looks image r stage.LockExclusive = IsKnown start kept image × (IsRead r.call → ⊥)
LooksAt start kept looks image r stage.Hold = IsKnown start kept image × (IsRead r.call → ⊥)
LooksAt start kept looks image r stage.Release = IsKnown start kept image × (IsRead r.call → ⊥)
LooksAt start kept looks image r at = IsRead r.call → NeverFind start kept looks

-- between two steps of an opener
abbrev pub IsLooking : Region → Option (List Event) → List (List Event) → Option Image → Work → Option Running → Type 0
IsLooking start kept looks image (Runs c at) (Some r) = LooksAt start kept looks image r at
IsLooking start kept looks image (Runs c at) None = ⊤
IsLooking start kept looks image work r = IsKnown start kept image

-- the answer of a read, for which there were these looks before its line, and these after it
abbrev pub AnswersRead : Region → Option (List Event) → List (List Event) → List (List Event) → Answer → Type 0
AnswersRead start kept before looks a =
    ((is_fresh a ≡ true) × NeverFind start kept looks) ⊎ ((is_fresh a ≡ false) × (length before < 2) × FindWords start kept looks × IsByLooks looks a)

-- once a step came to this
abbrev pub HasLooked : Region → Option (List Event) → List (List Event) → List (List Event) → Step → OpenerState → Option Running → List Event → Type 0
HasLooked start kept before looks (step.Answered a) o (Some r) past =
    IsKnown start (if is_fresh a then Some past else kept) o.image × (IsRead r.call → AnswersRead start kept before looks a)
HasLooked start kept before looks (step.Stopped why) o (Some r) past = (o.image ≡ None) × (IsRead r.call → IsTrue (is_some (reason_said why)) → NeverFind start kept looks)
HasLooked start kept before looks last o r past = IsLooking start kept looks o.image o.work r
