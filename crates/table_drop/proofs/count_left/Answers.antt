use Rattle.std.proofs.Common.{◌∙◌, ℕ, List, sym, ap, length, not, arith, rules}
use borrow.Author.Tests.{tests}
use Rattle.std.proofs.lemmas.Iterator.Consumers.{YieldsList-from_filter, count_from_yields_List}
use Rattle.meaning.proofs.Chains.{those_by_filter}
use Rattle.words_layout.specs.Words.{pieces}
use Rattle.words_layout.proofs.Chunks.{YieldsList-from_pieces}
use Rattle.table_drop.specs.Arriving.{row_goes, left_by}
use Rattle.table_drop.proofs.count_left.Goals as goal

pub returns : goal.returns
unfolding left_by
returns c =
    let stays = λ (row : List ℕ). not (row_goes c.args.a c.args.v.now row) in
    let rows = pieces c.args.width c.args.count.0 c.args.rows.now in
    count_from_yields_List c.filter.result _ c.count-left.ensures.ran
    (YieldsList-from_filter _ stays (YieldsList-from_pieces c.args.width c.args.count.0 c.args.rows.now (cc) (cc) (omega arith) c.requires.0) c.filter.ensures.closure (λ x b q k. search (rules, tests)))
    ∙ ap length (sym (those_by_filter stays rows))
