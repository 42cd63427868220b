-- A run that is followed event by event.
use Rattle.std.specs.Prelude.{◌≡◌, ℕ, Option, Some, Bool, true, false, List, [], ◌∷◌}
use Rattle.region_words.specs.Region.{Region}
use Rattle.region_words.specs.Past.{region_after}
use Rattle.region_words.specs.Apart.{Apart, last_word, strings}
use Rattle.region_words.specs.declared.event.Side.TheVariants.{Data}
use Rattle.region_words.specs.declared.event.What.{What}
use Rattle.region_words.specs.declared.event.What.TheVariants.{Store}
use Rattle.region_words.specs.declared.event.Event.{Event}
use Rattle.death_model.specs.FilesInside.{region_in}
use Rattle.death_model.specs.SeenInside.{Keeps}
use Rattle.death_model.specs.declared.run.Run.{Run}

-- the run has come to the end of these events
pub record IsAfter (run : Run) (start : Region) (past : List Event) : Type 0 where
  pub region_is : region_in run.files ≡ region_after start past
  pub word_is : run.last_word ≡ last_word past
  pub keeps : Keeps run.seen (strings start past)

-- nothing was followed yet, or the payloads of the start aren't apart
abbrev pub Begins : Run → Region → Bool → Type 0
Begins run start true = IsAfter run start []
Begins run start false = Apart start [] → ⊥

-- one event more was followed, or has made payloads that aren't apart
abbrev pub Follows : Run → Run → Event → Bool → Type 0
Follows old new e true = (start : Region) (past : List Event) → IsAfter old start past → IsAfter new start (e ∷ past)
Follows old new e false = (start : Region) (past : List Event) → IsAfter old start past → Apart start (e ∷ past) → ⊥

-- the data word that was stored last, after one more event
abbrev pub word_after : What → Option ℕ → Option ℕ
word_after (Store Data word value mark) earlier = Some word
word_after _ earlier = earlier
