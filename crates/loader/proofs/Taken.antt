-- What a load holds after one more answer.
use Rattle.std.proofs.Common.{◌≡◌, ℕ, ◌+◌, ◌<◌, ◌≤◌, List, ◌++◌, length, sym, ◌∙◌, arith, subst, cond}
use Rattle.std.specs.Prelude.{slice_index, nat_lt}
use Rattle.std.specs.Int.{to_le_bytes, w32}
use Rattle.std.proofs.lemmas.Bool.Decides.{nat_tests}
use Rattle.meta_record.specs.Records.{checked}
use Rattle.region_words.specs.Region.{Region, IsRegion, file_size}
use Rattle.loader.specs.FirstWords.{AreFirst, first_answers}
use Rattle.loader.specs.Candidates.{IsFront, IsWanted, NoneBefore}
use Rattle.loader.specs.Outlooks.{IsOutlookOf, IsDue, RefusesRecord}
use Rattle.loader.specs.Loads.{Load, HasLoaded, IsLoad, Refuses, next_answer, next_payload_word}
use Rattle.loader.specs.declared.first_words.FirstWords.{FirstWords}
use Rattle.loader.specs.declared.candidates.Candidate.{Candidate}
use Rattle.loader.specs.declared.outlook.Outlook.{Outlook}
use Rattle.loader.specs.declared.outlook.Outlook.TheVariants.{Wants}
use Rattle.loader.specs.declared.stops.LoadStop.{LoadStop}
use Rattle.loader.specs.declared.stops.LoadStop.TheVariants.{Share, Record, Memory}
use Rattle.loader.proofs.Answered.{record-is, header-is, size-is}
use Rattle.loader.proofs.Fronts.{front_more}

next_is_first : (l : Load) (r : Region) → l.first.made < 10 → next_answer l r ≡ slice_index (first_answers r) l.first.made
next_is_first l r few = go (next_payload_word l r) (slice_index (first_answers r) l.first.made) l.first.made few
  where
    go : (a b n : ℕ) → n < 10 → cond (nat_lt 9 n) a b ≡ b
    go a b n few = grind (arith, nat_tests)

-- the record that ten answers refuse is the region's
pub refused : (stop : LoadStop) (l : Load) (next : FirstWords) (value : ℕ) → l.first.made < 10 →
    ((r : Region) → AreFirst l.first r → value ≡ slice_index (first_answers r) l.first.made → AreFirst next r) →
    RefusesRecord stop next → Refuses stop l value
refused (Share stop) l next value few told refuses = absurd refuses
refused (Record fault) l next value few told refuses =
    λ r has is.
    let first = told r has.first (is ∙ next_is_first l r few) in
    sym (λ k. checked (record-is next r refuses.0 first k) (header-is next r refuses.0 first k)) ∙ refuses.1
refused Memory l next value few told refuses = tt

-- with one more payload word
pub word_taken : (l : Load) (value : ℕ) (c : Candidate) (bytes : List ℕ) (outlook : Outlook) (r : Region) → IsLoad l → l.first.made ≡ 10 → l.outlook ≡ Wants c →
    bytes ≡ l.payload ++ to_le_bytes w32 value →
    ((q : Region) → AreFirst l.first q → IsFront bytes q → NoneBefore c q → IsOutlookOf outlook q) →
    IsRegion r → HasLoaded l r → value ≡ next_payload_word l r →
    HasLoaded (record { first = l.first; payload = bytes; outlook = outlook }) r
word_taken l value c bytes outlook r good complete wants more told region has is =
    let due : IsWanted l.first l.payload c = subst (λ o. IsDue l.first l.payload o) wants (good.due complete) in
    let file = good.file (omega (arith, complete)) in
    let size = size-is l.first r has.first (omega (arith, complete)) in
    let fits : 8 + length l.payload ≤ file_size r = omega (arith, due.fits, due.more, good.words, file.pages, size) in
    let front : IsFront bytes r = subst (λ b. IsFront b r) (sym more) (front_more l.payload r value region.data_file.small good.words fits has.payload is) in
    let none : NoneBefore c r = subst (λ o. IsOutlookOf o r) wants has.outlook in
    record { first = has.first; payload = front; outlook = told r has.first front none }
