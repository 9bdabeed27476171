use Rattle.arrival.proofs.Keys.{tagged_spelt, tagged_put}
use native.Mathlib.Omega.{arith}
use borrow.Author.Rules.{rules}
use Rattle.arrival.proofs.put_unsettled.Goals as goal

pub put_row-requires-clause-key_len : goal.put_row-requires-clause-key_len
put_row-requires-clause-key_len c = (search rules, search rules, search (tagged_spelt, arith))

pub returns : goal.returns
returns c = search (tagged_put, arith)
