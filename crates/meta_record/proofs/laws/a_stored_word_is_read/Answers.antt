use Rattle.meta_record.proofs.WordLemmas.{length-with_word, same_word, other_word}
use Rattle.meta_record.proofs.laws.a_stored_word_is_read.Goals as goal

pub returns : goal.returns
returns c = λ bytes word value inside fits. record {
  long = length-with_word bytes word value inside;
  same = same_word bytes word value inside fits;
  others = other_word bytes word value inside;
}
