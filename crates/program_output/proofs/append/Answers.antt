use Rattle.std.proofs.Common.{◌≡◌, ◌+◌, ap, append_assoc, le_refl, length, take, drop, ℕ, List, ◌∙◌}
use Rattle.std.proofs.Math.Seq.{paste, take_all}
use Rattle.program_output.specs.Gathering.{Gathered, joined}
use Rattle.program_output.proofs.append.Goals as goal

put_joined : (space text : List ℕ) (at : ℕ) → ◌≡◌ {A = Gathered} (at + length text, paste space at text (length text)) (joined space at text)
unfolding joined
put_joined space text at = ap (λ (s : List ℕ). (at + length text, s)) (rw whole (append_assoc (take at space) text (drop (at + length text) space)))
  where
    whole : take (length text) text ≡ text
    whole = take_all (length text) text (le_refl (length text))

pub returns : goal.returns
returns c = ap (λ (s : List ℕ). (c.args.from + length c.args.text.now, s)) c.put.ensures ∙ put_joined _ _ _
