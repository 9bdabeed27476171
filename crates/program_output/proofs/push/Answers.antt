use Rattle.program_output.proofs.Gathering.{alone_room, joined_room, pushed_alone, pushed_joined}
use Rattle.program_output.proofs.push.Goals as goal

pub returns-then-text-pending : goal.returns-then-text-pending
returns-then-text-pending c = (search pushed_joined, search joined_room)

pub returns : goal.returns
returns c = (search pushed_alone, search alone_room)
