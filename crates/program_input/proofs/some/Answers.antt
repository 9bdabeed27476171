use Rattle.program_input.proofs.Feeding.{piece_read, ready_written}
use Rattle.program_input.proofs.some.Goals as goal

pub returns : goal.returns
returns g c =
    let given = c.feed-kept.ensures in
    (ready_written _ _ _ _ _ given.1.1.1 c.flush-waiting.ensures, piece_read _ _ _ _ _ _ _ _ given.0 given.1.0)
