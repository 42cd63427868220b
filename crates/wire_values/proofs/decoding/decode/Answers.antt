use Rattle.std.proofs.Common.{sym}
use Rattle.wire_values.specs.declared.value.Value.TheVariants as value
use Rattle.wire_values.proofs.Spelled.{err_through, no_text, no_blob, some_raw}
use Rattle.wire_values.proofs.decoding.decode.Goals as goal

pub returns-in-Text-clause-shape : goal.returns-in-Text-clause-shape
returns-in-Text-clause-shape c = λ h. no_text c.args.bytes.now c.args.kind c.in-Text.is (c.text_of.ensures.shape (err_through _ _ _ _ c.map-in-Text.ensures.cases h))

pub returns-in-Text-clause-memory : goal.returns-in-Text-clause-memory
returns-in-Text-clause-memory c = λ h. let t = c.text_of.ensures.memory (err_through _ _ _ _ c.map-in-Text.ensures.cases h) in (value.Text t.0, sym c.in-Text.is, t.1)

pub returns-in-Blob-clause-shape : goal.returns-in-Blob-clause-shape
returns-in-Blob-clause-shape c = λ h. no_blob c.args.bytes.now c.args.kind c.in-Blob.is (c.text_of-in-Blob.ensures.shape (err_through _ _ _ _ c.map-in-Blob.ensures.cases h))

pub returns-in-Blob-clause-memory : goal.returns-in-Blob-clause-memory
returns-in-Blob-clause-memory c = λ h. let t = c.text_of-in-Blob.ensures.memory (err_through _ _ _ _ c.map-in-Blob.ensures.cases h) in (value.Blob t.0, sym c.in-Blob.is, t.1)

pub returns-in-Raw-clause-memory : goal.returns-in-Raw-clause-memory
returns-in-Raw-clause-memory c = λ h. some_raw c.args.bytes.now c.args.kind c.in-Raw.is (c.raw_of.ensures.memory (err_through _ _ _ _ c.map-in-Raw.ensures.cases h))
