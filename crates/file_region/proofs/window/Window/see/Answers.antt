use Rattle.std.proofs.Common.{◌-◌, length, ap, sym, ◌∙◌}
use Rattle.std.proofs.lemmas.List.{with_items_is}
use Rattle.meta_record.specs.Words.{with_word}
use Rattle.meta_record.proofs.WordLemmas.{length-with_word}
use Rattle.file_region.specs.Pages.{word_in}
use Rattle.file_region.proofs.Windows.{lies_inside, other_words}
use Rattle.file_region.proofs.window.Window.see.Goals as goal

pub returns-then-shows-clause-others : goal.returns-then-shows-clause-others
returns-then-shows-clause-others c other apart =
    let w = c.args.self.now in
    let place = c.args.word - w.first in
    let shown = sym c.shows.ensures ∙ c.if-shows.true in
    let stored = c.store_word.ensures ∙ ap (λ bytes. with_word bytes place c.args.value) c.deref_mut.ensures.value in
    let same_size = length-with_word w.bytes.items place c.args.value (lies_inside w.first w.filled w.bytes.items c.args.word shown) in
    let size = ap length stored ∙ same_size ∙ sym (ap length c.deref_mut.ensures.value) ∙ c.deref_mut.ensures.len in
    ap (λ bytes. word_in w.first w.filled bytes other) (with_items_is w.bytes c.store_word.new.bytes size ∙ stored)
    ∙ other_words w.bytes.items w.first w.filled c.args.word c.args.value other shown apart
