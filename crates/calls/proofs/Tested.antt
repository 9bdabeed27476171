-- The one test of a space, and what it lets through.
use Rattle.question.specs.Told as reply
use Rattle.question.specs.Told.{Told}
use Rattle.std.proofs.Common.{Result, Err}
use Rattle.words_tags.specs.declared.RowCount.{RowCount}
use mathlib.Core.Path.{◌≡◌, refl, sym, ◌∙◌}
use mathlib.Core.Bool.{Bool, true, false}
use mathlib.Core.List.{List}
use Prim.Native.Nat.{ℕ}
use Rattle.words_layout.specs.Layout.{holds_table}
use Rattle.table_rules.specs.Checked.{Checked}
use Rattle.table_rules.proofs.Checking.{checked}
use Rattle.call_checked.specs.Called.{issued_on, received_on, replied_on, settled_on}
use Rattle.calls.specs.Calls.{issued_by, received_by, replied_by, settled_by}

-- a space that was found to hold a table
pub found : (s : List ℕ) (r : Bool) → r ≡ holds_table s → r ≡ true → Checked s
found s r e t = checked s (sym e ∙ t)

-- 14, or the frame to a table
module _ (line words : List ℕ) (b : Bool) (e : b ≡ holds_table words) where
  pub receive_no_table : b ≡ false → (Err 14, words) ≡ received_by line words
  unfolding received_by
  receive_no_table f = rw (sym e ∙ f) refl

  pub receive_table : b ≡ true → (r : Result (Unit {0}) ℕ) (x : List ℕ) → (r, x) ≡ received_on line words → (r, x) ≡ received_by line words
  unfolding received_by
  receive_table t r x f = rw (sym e ∙ t) f

-- 14, or the operation to a table
module _ (line words out : List ℕ) (b : Bool) (e : b ≡ holds_table words) where
  pub issue_no_table : b ≡ false → (Err 14, (words, out)) ≡ issued_by line words out
  unfolding issued_by
  issue_no_table f = rw (sym e ∙ f) refl

  pub issue_table : b ≡ true → (r : Result ℕ ℕ) (x y : List ℕ) → (r, (x, y)) ≡ issued_on line words out → (r, (x, y)) ≡ issued_by line words out
  unfolding issued_by
  issue_table t r x y f = rw (sym e ∙ t) f

-- 14, or the call on a table
module _ (line words : List ℕ) (b : Bool) (e : b ≡ holds_table words) where
  pub settle_no_table : b ≡ false → (Err 14, words) ≡ settled_by line words
  unfolding settled_by
  settle_no_table f = rw (sym e ∙ f) refl

  pub settle_table : b ≡ true → (r : Result RowCount ℕ) (x : List ℕ) → (r, x) ≡ settled_on line words → (r, x) ≡ settled_by line words
  unfolding settled_by
  settle_table t r x f = rw (sym e ∙ t) f

-- 14, or the question to a table
module _ (line words out : List ℕ) (b : Bool) (e : b ≡ holds_table words) where
  pub ask_no_table : b ≡ false → (reply.Refused 14, out) ≡ replied_by line words out
  unfolding replied_by
  ask_no_table f = rw (sym e ∙ f) refl

  pub ask_table : b ≡ true → (r : Told) (x : List ℕ) → (r, x) ≡ replied_on line words out → (r, x) ≡ replied_by line words out
  unfolding replied_by
  ask_table t r x f = rw (sym e ∙ t) f
