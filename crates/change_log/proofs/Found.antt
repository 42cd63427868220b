-- What reads found at their places, as a map is replayed.
use Rattle.std.proofs.Common.{◌≡◌, ℕ, ◌+◌, ◌<◌, List, take, get_or, length, refl, sym, ap, ◌∙◌, arith, below_more}
use Rattle.std.specs.Prelude.{All}
use Rattle.std.proofs.lemmas.List.Sums.{fold_more}
use Rattle.expiring_map.specs.Map.{Map}
use Rattle.change_log.specs.Acts.{replay, applied}
use Rattle.change_log.specs.History.{reply_in}
use Rattle.change_log.specs.declared.change.Change.{Change}
use Rattle.change_log.specs.declared.call.Answer.{Answer}

-- the map after one more change
pub replay_more : (base : Map) (changes : List Change) (i : ℕ) (c : Change) → i < length changes → c ≡ get_or changes i c →
    replay base (take (i + 1) changes) ≡ applied (replay base (take i changes)) c.act
replay_more base changes i c lt is =
    fold_more (λ m c. applied m c.act) base changes i c lt ∙ ap (λ (x : Change). applied (replay base (take i changes)) x.act) (sym is)

-- the answer found the map of its place
abbrev pub IsFound : Map → List Change → Answer → Type 0
IsFound base changes a = a.reply ≡ reply_in (replay base (take a.place changes)) a.now a.call

abbrev pub FoundBelow : Map → List Change → ℕ → Answer → Type 0
FoundBelow base changes n a = a.place < n → IsFound base changes a

pub found_more : (base : Map) (changes : List Change) (answers : List Answer) (i : ℕ) (m : Map) → m ≡ replay base (take i changes) →
    All (FoundBelow base changes i) answers → All (λ a. a.place ≡ i → a.reply ≡ reply_in m a.now a.call) answers →
    All (FoundBelow base changes (i + 1)) answers
found_more base changes answers i m is before here k d lt below =
    let a = get_or answers k d in
    below_more (λ n. a.place ≡ n → IsFound base changes a) i (λ n less e. before k d lt (omega (arith, less, e)))
    (λ e. here k d lt e ∙ ap (λ n. reply_in n a.now a.call) (is ∙ ap (λ n. replay base (take n changes)) (sym e))) a.place below refl
