use Rattle.line_shape.proofs.Filling.{heading_start, field_narrow, heading_turn, heading_done}
use Rattle.line_shape.proofs.fields_of.Goals as goal

pub loop-i-init : goal.loop-i-init
loop-i-init g c = heading_start _ _ _

pub number_of-requires : goal.number_of-requires
number_of-requires g c = field_narrow c.args.widths.now c.loop-i.rest.now _ c.loop-i.i _ _ c.requires.small c.from.ensures c.min.ensures c.split_at.ensures.front_len

pub loop-i-preserved : goal.loop-i-preserved
loop-i-preserved g c = heading_turn _ _ _ _ _ _ c.loop-i.invariant c.requires.few _ _ _ _ _ c.loop-i-test.true c.from.ensures c.min.ensures c.split_at.ensures.front c.split_at.ensures.back c.number_of.ensures

pub returns : goal.returns
returns g c = heading_done _ _ _ _ _ _ c.loop-i.invariant c.requires.few c.loop-i-test.false
