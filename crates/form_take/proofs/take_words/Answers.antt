use Rattle.form_take.proofs.Words.{words_taken}
use Rattle.form_take.proofs.take_words.Goals as goal

pub returns : goal.returns
returns c = search words_taken
