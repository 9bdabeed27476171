-- What is kept of a line says the same bytes as the whole of it, none if it is longer than the longest, and has the same type.
use Prim.Native.Nat.{ℕ, suc, ◌<◌}
use mathlib.Core.Path.{◌≡◌, refl, sym, ap, ◌∙◌}
use mathlib.Core.Bool.{Bool, true, false}
use mathlib.Core.List.{List, [], ◌++◌}
use native.Mathlib.Omega.{arith}
use lib.ListN.{length, get_or, take, drop, replicate, length-replicate}
use lib.Seq.{take_at}
use Rattle.std.proofs.Common.{Option, Some, None}
use Rattle.line_hex.specs.Choice.{pick}
use Rattle.line_hex.specs.Hex.{lf}
use Rattle.line_hex.specs.Decoding.{decoded, is_line, line_type, pairs}
use Rattle.line_hex.specs.Keeping.{kept_of}
use Rattle.line_hex.proofs.Keeping.{kept_decoded, kept_is_cut}
use Rattle.line_hex.proofs.Spelling.{cut_type}
use Rattle.line_decode.specs.Decoding.{bytes_of, byte_of_type, type_of}
use Rattle.line_read.specs.Types.{longest, line_room}

-- what is decoded alike says the same bytes
abbrev said_by : Option ℕ → List ℕ → List ℕ
said_by (Some n) x = take n x
said_by None x = []

bytes_decoded : (line buffer : List ℕ) → length buffer ≡ longest → said_by (decoded line buffer).0 (decoded line buffer).1 ≡ bytes_of line
unfolding decoded bytes_of
bytes_decoded line buffer long = rw long (go (is_line longest line))
  where
    go : (t : Bool) → said_by (pick t (Some (length (pairs longest line))) None) (pairs longest line ++ drop (length (pairs longest line)) buffer) ≡ pick t (pairs longest line) []
    go true = take_at (pairs longest line) (drop (length (pairs longest line)) buffer) (length (pairs longest line)) refl
    go false = refl

bytes_alike : (a b buffer : List ℕ) → length buffer ≡ longest → decoded a buffer ≡ decoded b buffer → bytes_of a ≡ bytes_of b
bytes_alike a b buffer long e = sym (bytes_decoded a buffer long) ∙ ap (λ (q : Option ℕ × List ℕ). said_by q.0 q.1) e ∙ bytes_decoded b buffer long

module _ (space line : List ℕ) (long : length space ≡ line_room) (alone : (i : ℕ) → suc i < length line → get_or line i 0 ≡ lf → ⊥) where
  bytes_in_lem : (buffer : List ℕ) → length buffer ≡ longest → bytes_of (kept_of space line) ≡ bytes_of line
  bytes_in_lem buffer room = bytes_alike (kept_of space line) line buffer room (kept_decoded space line buffer (omega (arith, room, long)) alone)

  pub kept_bytes : bytes_of (kept_of space line) ≡ bytes_of line
  kept_bytes = bytes_in_lem (replicate longest 0) (length-replicate {A = ℕ} longest 0)

  pub kept_type : type_of (kept_of space line) ≡ type_of line
  unfolding type_of
  kept_type = ap byte_of_type (ap line_type (kept_is_cut space line ∙ ap (λ (n : ℕ). take n line) long) ∙ cut_type line 521)
