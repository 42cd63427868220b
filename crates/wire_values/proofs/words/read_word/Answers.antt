use Rattle.std.proofs.Common.{sym, refl}
use Rattle.wire_values.specs.declared.value.Value.TheVariants as value
use Rattle.wire_values.proofs.Spelled.{err_through}
use Rattle.wire_values.proofs.words.read_word.Goals as goal

pub returns-in-Text-clause-memory : goal.returns-in-Text-clause-memory
returns-in-Text-clause-memory c = λ h. (value.Text c.args.word.now, sym c.in-Text.is, refl)

pub returns-in-Blob-clause-memory : goal.returns-in-Blob-clause-memory
returns-in-Blob-clause-memory c = λ h. let t = c.hex_in.ensures.memory (err_through _ _ _ _ c.map-in-Blob.ensures.cases h) in (value.Blob t.0, sym c.in-Blob.is, t.1)

pub returns-in-Raw-clause-memory : goal.returns-in-Raw-clause-memory
returns-in-Raw-clause-memory c = λ h. let t = c.hex_in-in-Raw.ensures.memory (err_through _ _ _ _ c.map-in-Raw.ensures.cases h) in (value.Raw t.0, sym c.in-Raw.is, t.1)
