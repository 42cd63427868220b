-- What an answered call tells of its share's journal.
use Rattle.std.specs.Prelude.{◌≡◌, ℕ, Bool, true, false, List, ◌++◌, length, ◌==◌, ◌&&◌, count_by}
use Rattle.change_log.specs.declared.call.Answer.{Answer}
use Rattle.region_words.specs.Past.{changes_of}
use Rattle.region_words.specs.declared.event.What.{What}
use Rattle.region_words.specs.declared.event.What.TheVariants.{Store, Lock}
use Rattle.region_words.specs.declared.event.Event.{Event}

abbrev pub is_store : What → Bool
is_store (Store side word value mark) = true
is_store _ = false

abbrev pub is_lock : What → Bool
is_lock (Lock kind) = true
is_lock _ = false

-- the stores and the taken locks of an opener among these events
abbrev pub stores_by : ℕ → List Event → ℕ
stores_by who events = count_by (λ e. (e.who == who) && is_store e.what) events

abbrev pub locks_by : ℕ → List Event → ℕ
locks_by who events = count_by (λ e. (e.who == who) && is_lock e.what) events

-- The answer of a call of this opener that began after this past, with these events since, while its share's count of loads rose so far.
pub record AnsweredOver (past since : List Event) (who rise : ℕ) (a : Answer) : Type 0 where
  pub by : a.who ≡ who
  pub begun : a.begun ≡ length (changes_of past)
  pub ended : a.ended ≡ length (changes_of (since ++ past))
  pub stores : a.stores ≡ stores_by who since
  pub locks : a.locks ≡ locks_by who since
  pub loads : a.loads ≡ rise
