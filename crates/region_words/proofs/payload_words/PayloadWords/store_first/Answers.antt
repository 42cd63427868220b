use Rattle.std.proofs.Common.{◌≡◌, ◌≢◌, ◌+◌, ◌*◌, [], ◌∷◌, drop, sym, ◌∙◌, ap}
use Rattle.region_words.specs.Rows.{stores_from, store_data}
use Rattle.region_words.specs.Standings.{words_of, first_of}
use Rattle.region_words.proofs.RowParts.{first_store, some_left, may_make_this}
use Rattle.region_words.proofs.payload_words.PayloadWords.store_first.Goals as goal

pub store-requires-clause-lawful : goal.store-requires-clause-lawful
store-requires-clause-lawful g c =
    let p = c.self.inside in
    let some : stores_from (p.first + p.stored) (words_of (drop (4 * p.stored) p.bytes.items)) ≢ [] = λ e. c.requires.some (sym c.self.view_is ∙ e) in
    let is = sym c.self.view_is ∙ first_store p.first p.stored p.bytes.items (some_left p.first p.stored p.bytes.items some) in
    let value : first_of (words_of (drop (4 * p.stored) p.bytes.items)) ≡ c.word_from-value.result =
    sym (c.word_from-value.ensures ∙ ap (λ bytes. first_of (words_of (drop (4 * p.stored) bytes))) c.deref.ensures.value) in
    let rest = stores_from (p.first + (p.stored + 1)) (words_of (drop (4 * (p.stored + 1)) p.bytes.items)) in
    (may_make_this c.args.self.now (store_data (p.first + p.stored) c.word_from-value.result) rest (g.S.Share.state c.args.share.now)
    (is ∙ ap (λ v. store_data (p.first + p.stored) v ∷ rest) value) c.requires.owing).lawful

pub returns-in-Ok-clause-ok : goal.returns-in-Ok-clause-ok
returns-in-Ok-clause-ok g c =
    let p = c.self.inside in
    let some : stores_from (p.first + p.stored) (words_of (drop (4 * p.stored) p.bytes.items)) ≢ [] = λ e. c.requires.some (sym c.self.view_is ∙ e) in
    let is = sym c.self.view_is ∙ first_store p.first p.stored p.bytes.items (some_left p.first p.stored p.bytes.items some) in
    let value : first_of (words_of (drop (4 * p.stored) p.bytes.items)) ≡ c.word_from-value.result =
    sym (c.word_from-value.ensures ∙ ap (λ bytes. first_of (words_of (drop (4 * p.stored) bytes))) c.deref.ensures.value) in
    let rest = stores_from (p.first + (p.stored + 1)) (words_of (drop (4 * (p.stored + 1)) p.bytes.items)) in
    (store_data (p.first + p.stored) c.word_from-value.result, is ∙ ap (λ v. store_data (p.first + p.stored) v ∷ rest) value, c.in-Ok.ensures.ok)
