-- The spaces of a program have the words and characters that its definitions name, computed.
use Rattle.std.proofs.Common.{refl}
use Rattle.program_input.proofs.run.Goals as goal

pub read_all-kept-requires : goal.read_all-kept-requires
read_all-kept-requires c = (refl, (refl, refl))
