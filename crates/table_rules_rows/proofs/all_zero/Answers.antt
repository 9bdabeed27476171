use Rattle.std.proofs.Common.{◌∙◌, eqb, rules}
use Rattle.table_rules_rows.proofs.RowMeaning.{every_zero}
use Rattle.table_rules_rows.proofs.all_zero.Goals as goal

pub returns : goal.returns
returns c = c.every.ensures (λ word. eqb word 0) (λ x passed k. search rules) ∙ every_zero c.args.words.now
