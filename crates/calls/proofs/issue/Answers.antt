use Rattle.calls.proofs.Tested.{found, issue_no_table, issue_table}
use Rattle.calls.proofs.issue.Goals as goal

pub issue_line-requires : goal.issue_line-requires
issue_line-requires c = search found

pub returns-then-not-is_table : goal.returns-then-not-is_table
returns-then-not-is_table c = search issue_no_table

pub returns : goal.returns
returns c = search issue_table
