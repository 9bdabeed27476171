use Rattle.refusal_order.proofs.Chains.{rising_room, frame_stranger, frame_undeclared, frame_not_allowed, frame_known, frame_early, frame_falling, frame_passes}
use borrow.Author.Rules.{rules}
use Rattle.refusal_order.proofs.frame_refusal.Goals as goal

pub keeps_rising-falling-requires : goal.keeps_rising-falling-requires
keeps_rising-falling-requires c = (search rising_room, search rules)

pub returns-then-stranger : goal.returns-then-stranger
returns-then-stranger c = search frame_stranger

pub returns-then-undeclared : goal.returns-then-undeclared
returns-then-undeclared c = search frame_undeclared

pub returns-then-forbidden : goal.returns-then-forbidden
returns-then-forbidden c = search frame_not_allowed

pub returns-then-known : goal.returns-then-known
returns-then-known c = search frame_known

pub returns-then-early : goal.returns-then-early
returns-then-early c = search frame_early

pub returns-then-falling : goal.returns-then-falling
returns-then-falling c = search frame_falling

pub returns : goal.returns
returns c = search frame_passes
