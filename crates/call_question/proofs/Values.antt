-- The values of a list, laid one after the other as digits.
use mathlib.Core.Path.{◌≡◌, refl, sym, ap, ◌∙◌}
use mathlib.Core.List.{List, [], ◌∷◌, ◌++◌}
use Prim.Native.Nat.{ℕ, ◌+◌, ◌-◌, ◌*◌, ◌≤◌, ◌<◌}
use native.Mathlib.Omega.{arith}
use lib.ListN.{length}
use Rattle.meaning.specs.Rows.{count_by_rows}
use Rattle.meaning.specs.Questions.{by_rows}
use Rattle.words_layout.specs.Layout.{table_of}
use Rattle.table_rules.specs.Checked.{Checked}
use Rattle.question_list.specs.Walking.{values_behind, next_value}
use Rattle.question_list.specs.declared.Found.{Found}
use Rattle.question_list.proofs.Lists.{next_left, all_left}
use Rattle.line_hex.specs.Numbers.{big_endian}
use Rattle.line_hex.specs.Putting.{put_at}
use Rattle.line_hex.proofs.Bytes.{length_big_endian}
use Rattle.line_shape.specs.Shapes.{written}
use Rattle.line_put.specs.Writing.{written_each}
use Rattle.line_put.proofs.Laying.{Laying, laying_start, laying_room, laying_turn, laying_done, length_written_each}

abbrev pub listed : List ℕ → ℕ → List ℕ
listed s o = (by_rows (table_of s)).list_at o

-- so many values are left, and they are laid from the next place on
pub record Valuing (s : List ℕ) (o : ℕ) (out₀ : List ℕ) (at : ℕ) (out : List ℕ) (passed to left : ℕ) : Type 0 where
  pub laying : Laying out₀ at (written_each 4 (listed s o)) out to (written_each 4 (values_behind passed o (table_of s)))
  pub number : length (values_behind passed o (table_of s)) ≡ left

pub valuing_start : (s : List ℕ) (o count at : ℕ) (out : List ℕ) → Checked s → count ≡ (by_rows (table_of s)).count_at o → at + 2 * (4 * count) ≤ length out → Valuing s o out at out 0 at (count - 0)
unfolding by_rows count_by_rows
valuing_start s o count at out K e h =
    let all : (by_rows (table_of s)).list_at o ≡ values_behind 0 o (table_of s) = all_left o (table_of s) K.by_rules in
    let many : length (listed s o) ≡ count - 0 = omega (arith, e) in
    record {
      laying = rw (sym all) (laying_start out at (written_each 4 (listed s o)) (omega (arith, length_written_each 4 (listed s o))));
      number = rw (sym all) many;
    }

none : (l : List ℕ) → length l ≡ 0 → written_each 4 l ≡ []
unfolding written_each written
none [] e = refl
none (x ∷ l) e = absurd (omega arith)

one_more : (v : ℕ) (rest : List ℕ) → written_each 4 (v ∷ rest) ≡ big_endian 4 v ++ written_each 4 rest
unfolding written_each written
one_more v rest = refl

module _ (s : List ℕ) (o : ℕ) (out₀ : List ℕ) (at : ℕ) (out : List ℕ) (passed to count i : ℕ) (N : Valuing s o out₀ at out passed to (count - i)) where
  pub valuing_done : count ≤ i → (to, out) ≡ put_at out₀ at (written_each 4 (listed s o))
  valuing_done h = laying_done out₀ at (written_each 4 (listed s o)) out to (written_each 4 (values_behind passed o (table_of s))) N.laying (none (values_behind passed o (table_of s)) (omega (arith, N.number)))

  module _ (h : i < count) where
    pub value_left : 0 < length (values_behind passed o (table_of s))
    value_left = omega (arith, N.number)

    abbrev value : ℕ
    value = (next_value passed o (table_of s)).value.0

    abbrev rest : List ℕ
    rest = values_behind (next_value passed o (table_of s)).passed.0 o (table_of s)

    next_bytes : written_each 4 (values_behind passed o (table_of s)) ≡ big_endian 4 value ++ written_each 4 rest
    next_bytes = ap (written_each 4) (next_left passed o (table_of s) value_left) ∙ one_more value rest

    pub value_room : to + 2 * 4 ≤ length out
    value_room = omega (arith, laying_room out₀ at (written_each 4 (listed s o)) out to (written_each 4 (values_behind passed o (table_of s))) N.laying (big_endian 4 value) (written_each 4 rest) next_bytes, length_big_endian 4 value)

    pub valuing_next : (f : Found) → f ≡ next_value passed o (table_of s) → (to' : ℕ) (out' : List ℕ) → (to', out') ≡ put_at out to (big_endian 4 f.value.0) → Valuing s o out₀ at out' f.passed.0 to' (count - (i + 1))
    valuing_next f e to' out' p =
        record {
          laying = rw e (laying_turn out₀ at (written_each 4 (listed s o)) out to (written_each 4 (values_behind passed o (table_of s))) N.laying (big_endian 4 value) (written_each 4 rest) out' to' next_bytes (p ∙ ap (λ (g : Found). put_at out to (big_endian 4 g.value.0)) e));
          number = rw e (omega (arith, ap (λ (l : List ℕ). length l) (next_left passed o (table_of s) value_left), N.number));
        }
