use Rattle.std.proofs.Common.{◌≡◌, ◌-◌, ◌*◌, map, drop}
use Rattle.words_layout.specs.Words.{pieces}
use Rattle.words_layout.specs.Layout.{row_of}
use Rattle.question_scan.specs.Showing.{value_shown}
use Rattle.question_scan.proofs.value_shown.Given as goal

abbrev pub invariant-loop-i : goal.invariant-loop-i
invariant-loop-i l =
    value_shown l.object l.value.0 (map row_of (pieces l.width l.count.0 l.rows)) ≡ value_shown l.object l.value.0 (map row_of (pieces l.width (l.count.0 - l.i) (drop (l.i * l.width) l.rows)))
