use Rattle.std.proofs.Common.{◌≡◌, ◌+◌, ◌-◌, ◌*◌, map, drop}
use Rattle.words_layout.specs.Words.{pieces}
use Rattle.words_layout.specs.Layout.{row_of}
use Rattle.question_scan.specs.Showing.{before_shown}
use Rattle.question_scan.proofs.next_shown.Given as goal

abbrev pub invariant-loop-i : goal.invariant-loop-i
invariant-loop-i l =
    before_shown l.object (map row_of (pieces l.width l.more.0 (drop l.at l.rows))) ≡ l.i + before_shown l.object (map row_of (pieces l.width (l.more.0 - l.i) (drop (l.at + l.i * l.width) l.rows)))
