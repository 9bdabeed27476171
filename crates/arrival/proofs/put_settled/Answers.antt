use Rattle.arrival.proofs.Keys.{none_long, bare_spelt, bare_put}
use native.Mathlib.Omega.{arith}
use borrow.Author.Rules.{rules}
use Rattle.arrival.proofs.put_settled.Goals as goal

pub put_row-requires-clause-key_len : goal.put_row-requires-clause-key_len
put_row-requires-clause-key_len c = (search rules, search none_long, search (bare_spelt, arith))

pub returns : goal.returns
returns c = search (bare_put, arith)
