use Rattle.std.proofs.Common.{◌≡◌, ◌++◌, ◌∙◌, sym, ap, subst}
use Rattle.meta_record.specs.Words.{word_at}
use Rattle.loader.specs.PartialLoads.{PartialLoad, HasLoadedPart, need_of, next_part, next_part_word, answer_to}
use Rattle.loader.specs.PartialInside.{partial_load_of}
use Rattle.loader.specs.declared.partial.Need.TheVariants.{Payload}
use Rattle.loader.proofs.GoingOn.{part_word_taken}
use Rattle.loader.proofs.partial.PartialLoading.take_payload_word.Goals as goal

pub returns-clause-told : goal.returns-clause-told
returns-clause-told c r region has is =
    let p = partial_load_of c.self.inside in
    let here : HasLoadedPart p r = subst (λ (l : PartialLoad). HasLoadedPart l r) (sym c.self.view_is) has in
    let lacks : need_of p ≡ Payload = ap need_of c.self.view_is ∙ c.requires.payload in
    let word : c.args.value ≡ next_part p r = is ∙ sym (ap (λ (l : PartialLoad). next_part l r) c.self.view_is) in
    let answer : c.args.value ≡ word_at r.data_bytes (next_part_word p) = word ∙ ap (λ n. answer_to n p r) lacks in
    let more = c.in_ok-extend_from_slice.ensures.items ∙ ap (λ b. c.self.inside.added.items ++ b) c.to_le_bytes.ensures in
    part_word_taken p r c.args.value c.extend_from_slice.new.self.items c.self.invariant lacks more region here answer
