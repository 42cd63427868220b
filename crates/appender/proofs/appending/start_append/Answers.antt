use Rattle.std.proofs.Common.{◌≡◌, ◌+◌, ◌%◌, length, ap, ◌∙◌, arith, length-append, length-take}
use Rattle.std.specs.Int.{to_le_bytes, w32}
use Rattle.region_words.specs.Standings.{words_of, tail_bytes}
use Rattle.region_words.specs.Rows.{item_of}
use Rattle.region_words.proofs.RowParts.{length-stores, length-words}
use Rattle.appender.proofs.appending.start_append.Goals as goal

pub new-requires-5 : goal.new-requires-5
new-requires-5 c =
    let s = c.args.standing.now in
    let item = item_of s.flag c.args.change.act in
    let bytes = c.in_ok-bytes.bytes.items in
    let payload : length c.new-3.result ≡ length (words_of bytes) = ap length c.new-3.ensures ∙ length-stores _ (words_of bytes) in
    let before = ap length (c.new-2.ensures ∙ c.new.ensures.items) in
    let after = ap length (c.new-4.ensures ∙ c.in_ok-ending.ensures) in
    let size : length bytes ≡ length (tail_bytes s) + length item = ap length c.in_ok-bytes.ensures ∙ length-append (tail_bytes s) item in
    omega (arith, payload, before, after, size, length-words bytes, length-take (s.size % 4) (to_le_bytes w32 s.tail), c.requires.room, c.requires.file)
