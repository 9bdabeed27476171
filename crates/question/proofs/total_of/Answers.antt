use Rattle.question.proofs.Asked.{total_words_lem}
use Rattle.question.proofs.total_of.Goals as goal

pub returns : goal.returns
returns c = search total_words_lem
