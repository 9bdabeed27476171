use Rattle.std.proofs.Common.{◌∙◌, refl, arith}
use Rattle.line_hex.proofs.Reading.{ended_lf, ended_many, ended_other, ended_past}
use Rattle.line_hex.proofs.ended_at.Goals as goal
use Rattle.line_hex.proofs.ended_at.Goals.{else-alone-via-then-alone+else-eq, else-alone-via-else-alone}

pub returns-in_err-rest : goal.returns-in_err-rest
returns-in_err-rest c = c.from_residual.ensures ∙ ended_past c.args.line.now c.args.at c.args.count (grind arith)

pub returns-then-eq : goal.returns-then-eq
returns-then-eq c = ended_lf c.args.line.now c.args.at c.args.count _ c.in_ok-rest.ensures.lookup.0.2 _ _ _ refl c.eq.ensures c.last.ensures.value (omega arith) c.if-eq.true

pub returns-else-alone : goal.returns-else-alone
returns-else-alone c =
    let rest = c.in_ok-rest.ensures.lookup.0.2 in
    elim c.else-alone.branch [
      | else-alone-via-then-alone+else-eq w ↦ ended_other c.args.line.now c.args.at c.args.count _ rest _ _ _ refl w.eq.ensures w.last.ensures.value w.if-eq.false
      | else-alone-via-else-alone w ↦ ended_many c.args.line.now c.args.at c.args.count _ rest (λ e. omega arith)
    ]
