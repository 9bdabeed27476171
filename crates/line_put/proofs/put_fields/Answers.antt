use Rattle.std.proofs.Common.{◌∙◌, arith, rules}
use Rattle.std.proofs.lemmas.List.{length_push}
use Rattle.std.proofs.lemmas.Slice.Zip.{zip_end, zip_turn}
use Rattle.line_put.proofs.Laying.{fielding_start, fielding_room, fielding_turn, fielding_done}
use Rattle.line_put.proofs.put_fields.Goals as goal

pub loop-width-init : goal.loop-width-init
loop-width-init c = search fielding_start

pub put_number-to-requires : goal.put_number-to-requires
put_number-to-requires c =
    let t = zip_turn c.args.widths.now c.args.fields.now c.loop-width.yielded c.into_iter-width-iterator.result c.loop-width.width-iterator c.next.new.self _ (search rules) (search rules) c.loop-width.yielded_by _ c.in-Some.is c.next.ensures.steps in
    fielding_room _ _ _ _ _ _ _ c.loop-width.invariant _ t.0 (c.from.ensures ∙ t.2 0)

pub loop-width-preserved : goal.loop-width-preserved
loop-width-preserved c =
    let t = zip_turn c.args.widths.now c.args.fields.now c.loop-width.yielded c.into_iter-width-iterator.result c.loop-width.width-iterator c.next.new.self _ (search rules) (search rules) c.loop-width.yielded_by _ c.in-Some.is c.next.ensures.steps in
    rw (length_push c.loop-width.yielded (c.in-Some.width, c.in-Some.field)) (fielding_turn _ _ _ _ _ _ _ c.loop-width.invariant _ _ _ _ t.0 (c.from.ensures ∙ t.2 0) (t.3 0) c.put_number-to.ensures)

pub returns : goal.returns
returns c =
    let t = zip_end c.args.widths.now c.args.fields.now c.loop-width.yielded c.into_iter-width-iterator.result c.loop-width.width-iterator c.next.new.self _ (search rules) (search rules) c.loop-width.yielded_by c.in-None.is c.next.ensures.steps in
    fielding_done _ _ _ _ _ _ _ c.loop-width.invariant (omega (arith, t, c.requires.0))
