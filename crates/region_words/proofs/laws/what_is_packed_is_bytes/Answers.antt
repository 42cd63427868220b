use Rattle.region_words.proofs.PackedBytes.{packed_bytes, shown_packs, appended_packs, pack_packs, clear_packs, enable_packs, disable_packs}
use Rattle.region_words.proofs.laws.what_is_packed_is_bytes.Goals as goal

pub returns-clause-bytes : goal.returns-clause-bytes
returns-clause-bytes c = λ flag m can. packed_bytes flag m can

pub returns-clause-shown : goal.returns-clause-shown
returns-clause-shown c = λ r m is e. shown_packs r m is e

pub returns-clause-appended : goal.returns-clause-appended
returns-clause-appended c = λ flag m a may short can. appended_packs flag m a may short can

pub returns-clause-rewritten : goal.returns-clause-rewritten
returns-clause-rewritten c = λ flag m can. (
  λ now. pack_packs flag m now can,
  clear_packs flag m,
  λ now seconds h. enable_packs flag m now seconds h can,
  λ now. disable_packs flag m now can,
)
