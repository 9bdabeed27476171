use Rattle.refusal_order.proofs.Chains.{issue_undeclared, issue_not_allowed, issue_last, issue_passes}
use Rattle.refusal_order.proofs.issue_refusal.Goals as goal

pub returns-then-not-declared : goal.returns-then-not-declared
returns-then-not-declared c = search issue_undeclared

pub returns-then-not-allowed : goal.returns-then-not-allowed
returns-then-not-allowed c = search issue_not_allowed

pub returns-then-last : goal.returns-then-last
returns-then-last c = search issue_last

pub returns : goal.returns
returns c = search issue_passes
