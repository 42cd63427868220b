-- An expiring map of one thread, asked the calls of a history in its order.
use Rattle.std.specs.Prelude.{◌≡◌, ℕ, List, [], ◌∷◌, Some, All, IsTrue, slice_get}
use Rattle.expiring_map.specs.Map.{Map}
use Rattle.change_log.specs.Acts.{applied, act_of}
use Rattle.change_log.specs.History.{reply_in, makes_change, Legal, IsWoven}
use Rattle.change_log.specs.declared.change.Change.{Change}
use Rattle.change_log.specs.declared.call.Answer.{Answer}
use Rattle.change_log.specs.declared.woven.Entry.{Entry}
use Rattle.change_log.specs.declared.woven.Entry.TheVariants as entry

-- the calls that stand at this change make it, and are answered as this map answers
abbrev pub AreAnsweredBy : Map → List Change → List Answer → ℕ → Change → Type 0
AreAnsweredBy m changes answers place c =
    All (λ a. IsTrue (makes_change changes a) → a.place ≡ place → (act_of a.call a.now ≡ Some c.act) × (a.reply ≡ reply_in m a.now a.call)) answers

-- from this map on, each read is answered as the map so far answers at its moment, and each change is applied
abbrev pub Answers : Map → List Change → List Answer → List Entry → Type 0
Answers m changes answers [] = Unit {0}
Answers m changes answers (entry.Read i ∷ later) =
    ((a : Answer) × (slice_get answers i ≡ Some a) × (a.reply ≡ reply_in m a.now a.call)) × Answers m changes answers later
Answers m changes answers (entry.Change i ∷ later) =
    (c : Change) × (slice_get changes i ≡ Some c) × AreAnsweredBy m changes answers i c × Answers (applied m c.act) changes answers later

-- legal answers are those of a map of one thread, asked the calls in the woven order
abbrev pub AsOneThread : Type 0
AsOneThread =
    (base : Map) (changes : List Change) (answers : List Answer) (woven : List Entry) →
    Legal base changes answers → IsWoven changes answers woven → Answers base changes answers woven
