use Rattle.std.proofs.Common.{◌≡◌, ℕ, ◌++◌, ◌∙◌, sym, ap, subst, arith, List}
use Rattle.std.specs.Int.{to_le_bytes, w32}
use Rattle.region_words.specs.Region.{Region}
use Rattle.loader.specs.FirstWords.{AreFirst}
use Rattle.loader.specs.Candidates.{IsFront, NoneBefore}
use Rattle.loader.specs.Outlooks.{IsOutlookOf}
use Rattle.loader.specs.Loads.{Load, HasLoaded, next_payload_word}
use Rattle.loader.specs.Inside.{load_of}
use Rattle.loader.proofs.Taken.{word_taken}
use Rattle.loader.proofs.loading.Loading.take_payload_word.Goals as goal

pub returns-in-Ok-clause-told : goal.returns-in-Ok-clause-told
returns-in-Ok-clause-told c r region has is =
    let l = load_of c.self.inside in
    let here : HasLoaded l r = subst (λ (l : Load). HasLoaded l r) (sym c.self.view_is) has in
    let word : c.args.value ≡ next_payload_word l r = is ∙ sym (ap (λ (l : Load). next_payload_word l r) c.self.view_is) in
    let complete : c.self.inside.first.made ≡ 10 = omega (arith, ap (λ (l : Load). l.first.made) c.self.view_is) in
    let bytes = c.extend_from_slice.new.self.items in
    let more : bytes ≡ l.payload ++ to_le_bytes w32 c.args.value =
    c.in_ok-extend_from_slice.ensures.items ∙ ap (λ b. c.self.inside.payload.items ++ b) c.to_le_bytes.ensures in
    let told = subst (λ (b : List ℕ). (q : Region) → AreFirst l.first q → IsFront b q → NoneBefore c.in-Wants.candidate q → IsOutlookOf c.in-Ok.outlook q)
    c.deref.ensures.value c.in-Ok.ensures.told in
    word_taken l c.args.value c.in-Wants.candidate bytes c.in-Ok.outlook r c.self.invariant complete c.in-Wants.is more told region here word
