use Rattle.std.proofs.Common.{◌≡◌, true, false, take, arith, rules}
use borrow.Author.Tests.{tests}
use Rattle.std.proofs.lemmas.Iterator.{IsFirst-from_position}
use Rattle.meaning.specs.Rows.{lower_key}
use Rattle.words_layout.proofs.Chunks.{YieldsList-from_pieces}
use Rattle.table_insert.proofs.Placing.{place_found}
use Rattle.table_insert.proofs.find_place.Goals as goal

pub returns : goal.returns
returns c =
    let key = c.args.key.now in
    let found =
    place_found c.args.rows.now key c.args.width c.args.count.0 c.wide-count.result c.position-place.result c.requires.0 c.wide-count.ensures.0
    (IsFirst-from_position c.position-place.new.self _ _ (λ row. lower_key key (take 7 row) ≡ true) (λ row. lower_key key (take 7 row) ≡ false) c.position-place.ensures.ran
    (YieldsList-from_pieces c.args.width c.args.count.0 c.args.rows.now (cc) (cc) (omega arith) (c.requires.0))
    (λ x q k. search (rules, tests)) (λ x q k. search (rules, tests))) in
    cc
