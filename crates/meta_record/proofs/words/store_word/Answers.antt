use Rattle.std.proofs.Common.{◌+◌, ◌*◌, ◌∙◌, sym, take, drop, append_assoc}
use Rattle.byteorder.specs.Endian.{little_bytes}
use Rattle.meta_record.proofs.Overwrites.{put_front}
use Rattle.meta_record.proofs.words.store_word.Goals as goal

pub returns : goal.returns
returns c =
    put_front (4 * c.args.word) 4 c.args.bytes.now (little_bytes 4 c.args.value) c.write_u32.new.buf c.write_u32.ensures
    ∙ sym (append_assoc (take (4 * c.args.word) c.args.bytes.now) (little_bytes 4 c.args.value) (drop (4 * c.args.word + 4) c.args.bytes.now))
