use Rattle.line_read.specs.Types.{is_of}
use Rattle.line_read.specs.Named.{printing_read}
use Rattle.line_shape.specs.Shapes.{length_of}
use Rattle.line_read.proofs.read_printing.Goals as goal

pub returns : goal.returns
unfolding printing_read is_of length_of
returns c = c.has_shape.ensures
