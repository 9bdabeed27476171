-- What one line of a form makes of a space under load.
use Rattle.std.specs.Prelude.{Ok}
use mathlib.Core.Path.{◌≡◌, refl, sym, ap, ◌∙◌}
use mathlib.Core.Bool.{true, ◌&&◌}
use mathlib.Core.List.{List, [], ◌∷◌, ◌++◌}
use Prim.Native.Nat.{ℕ, suc, ◌+◌, ◌-◌, ◌*◌, ◌/◌, ◌%◌, ◌≤◌, ◌<◌}
use native.Mathlib.Nat.{mul-le-mul_right}
use native.Mathlib.Omega.{arith}
use lib.Dec.{eqb}
use lib.IntN.{ℤ}
use lib.ListN.{get_or, length, take, set, replicate}
use lib.Seq.{paste, take_at}
use borrow.Author.Tests.{eq-eqb}
use Rattle.meaning.specs.Order.{Vector}
use Rattle.meaning.specs.Table.{Table, total_bound, greatest_size, most_objects}
use Rattle.words_layout.specs.Words.{word_limit, complement}
use Rattle.words_layout.specs.Layout.{Laid, table_of, words_of, rewritten, with_clock, with_last, with_totals, total_words, total_of_words, size_in, clock_at, totals_at}
use Rattle.words_layout.proofs.Reading.{InRange, table_read, two_read}
use Rattle.words_layout.proofs.Changing.{laid_again, put_clock, put_last, put_total}
use Rattle.table_rules_clock.specs.ClockTests.{last_kept, total_kept}
use Rattle.line_hex.specs.Choice.{pick}
use Rattle.line_shape.specs.Reading as shapes
use Rattle.line_read.specs.declared.Clock.{Clock}
use Rattle.line_read.specs.declared.LastVector.{LastVector}
use Rattle.line_read.specs.declared.Total.{Total}
use Rattle.line_read.specs.SavedNamed.{is_total, is_last, clock_read, is_clock, last_read, total_read}
use Rattle.line_decode.specs.Decoding.{bytes_of}
use Rattle.form_take.specs.declared.Loaded.TheVariants as loaded
use Rattle.form_load.specs.declared.Next.TheVariants as next
use Rattle.form_take.specs.Taking.{clock_taken, last_taken, spoilt, took, total_taken}
use Rattle.form_load.specs.Loading.{loaded_by, next_after, taken_as, waits}
use Rattle.law_round_trip.proofs.Setting.{pasted}
use Rattle.law_round_trip.proofs.Under.{Fresh, under, size_is, own_is, kinds_are, clock_is, room, taken_by_lem, took_as}

pub front_of : (v : List ℕ) (n : ℕ) → length v ≡ n → take n (shapes.padded greatest_size v) ≡ v
unfolding shapes.padded
front_of v n e = take_at v (replicate (greatest_size - length v) 0) n e

module _ (t : Table) (F : Fresh t) (rest : List ℕ) (p : ℕ) (line : List ℕ) (none : length t.rows ≡ 0) where
  abbrev plain : List ℕ
  plain = words_of t ++ rest

  abbrev size : ℕ
  size = t.header.size

  L : Laid plain
  L = laid_again t rest F.well F.sized

  back : table_of plain ≡ t
  back = table_read t F.well rest

  size_plain : size_in plain ≡ size
  unfolding words_of
  size_plain = refl

  no_rows : eqb (length t.rows) 0 ≡ true
  no_rows = eq-eqb (length t.rows) 0 none

  -- `50`
  pub clock_step : next_after size t.header.own t.header.kinds p ≡ next.Clock → (v : Vector) → length v ≡ size → (is_clock size (bytes_of line) ≡ true) × (clock_read size (bytes_of line) ≡ record { vector = shapes.padded greatest_size v }) → loaded_by line (under p t rest) ≡ (Ok loaded.Taken, under (suc p) (with_clock t v) rest)
  unfolding taken_as clock_taken waits
  clock_step c v long e =
      let words = under p t rest in
      let put : paste plain clock_at v (length v) ≡ rewritten plain (with_clock t v) = pasted plain v clock_at (size_in plain) (long ∙ sym size_plain) ∙ put_clock plain L v ∙ ap (λ (u : Table). rewritten plain (with_clock u v)) back in
      taken_by_lem t F rest p line next.Clock c no_rows
      ∙ ap (λ (n : ℕ). pick (is_clock n (bytes_of line)) (took words clock_at (take n (clock_read n (bytes_of line)).vector)) (spoilt words)) (size_is t F rest p)
      ∙ rw e.0 (ap (λ (f : Clock). took words clock_at (take size f.vector)) e.1)
      ∙ ap (took words clock_at) (front_of v size long)
      ∙ took_as t F rest p clock_at v (with_clock t v) (omega arith) (omega (arith, room t F rest p)) put

  -- `51`
  pub last_step : (k : ℕ) → k < size → next_after size t.header.own t.header.kinds p ≡ next.Last (record { 0 = k }) → (v : Vector) → length v ≡ size → last_kept t.header.own t.clock k v ≡ true → (is_last size (bytes_of line) ≡ true) × (last_read size (bytes_of line) ≡ record { station = k; vector = shapes.padded greatest_size v }) → loaded_by line (under p t rest) ≡ (Ok loaded.Taken, under (suc p) (with_last t (set t.last k v)) rest)
  unfolding taken_as last_taken waits words_of
  last_step k b c v long kept e =
      let words = under p t rest in
      let at = clock_at + size + k * size in
      let put : paste plain at v (length v) ≡ rewritten plain (with_last t (set t.last k v)) = rw (sym size_plain) (pasted plain v (clock_at + size_in plain + k * size_in plain) (size_in plain) (long ∙ sym size_plain) ∙ put_last plain L k v (rw size_plain b) ∙ ap (λ (u : Table). rewritten plain (with_last u (set u.last k v))) back) in
      let within : at ≤ length plain = omega (arith, room t F rest p, mul-le-mul_right size b) in
      taken_by_lem t F rest p line (next.Last (record { 0 = k })) c no_rows
      ∙ rw (size_is t F rest p, own_is t F rest p, clock_is t F rest p, e.0)
      (ap (λ (f : LastVector). pick (eqb f.station k && last_kept t.header.own t.clock k (take size f.vector)) (took words at (take size f.vector)) (spoilt words)) e.1
      ∙ rw (eq-eqb k k refl, front_of v size long, kept) (took_as t F rest p at v (with_last t (set t.last k v)) (omega arith) within put))

  -- `52`
  pub total_step : (o : ℕ) → o < length t.header.kinds → next_after size t.header.own t.header.kinds p ≡ next.Total o → (z : ℤ) → InRange z → total_kept (total_bound t.clock) (get_or t.header.kinds o 0) z ≡ true → (is_total (bytes_of line) ≡ true) × (total_read (bytes_of line) ≡ record { object = o; high = complement z / word_limit; low = complement z % word_limit }) → loaded_by line (under p t rest) ≡ (Ok loaded.Taken, under (suc p) (with_totals t (set t.totals o z)) rest)
  unfolding taken_as total_taken waits words_of
  total_step o b c z range kept e =
      let words = under p t rest in
      let at = totals_at + o * 2 in
      let few : length t.header.kinds ≤ most_objects = F.well.fit.few_kinds in
      let put : paste plain at (total_words z) 2 ≡ rewritten plain (with_totals t (set t.totals o z)) = pasted plain (total_words z) at 2 refl ∙ put_total plain L o z b ∙ ap (λ (u : Table). rewritten plain (with_totals u (set u.totals o z))) back in
      let same : total_of_words (total_words z) ≡ z = two_read z range in
      taken_by_lem t F rest p line (next.Total o) c no_rows
      ∙ rw (kinds_are t F rest p, clock_is t F rest p, e.0)
      (ap (λ (f : Total). pick (eqb f.object o && total_kept (total_bound t.clock) (get_or t.header.kinds o 0) (total_of_words (f.high ∷ f.low ∷ []))) (took words at (f.high ∷ f.low ∷ [])) (spoilt words)) e.1
      ∙ rw (eq-eqb o o refl, same, kept) (took_as t F rest p at (total_words z) (with_totals t (set t.totals o z)) (omega arith) (omega (arith, room t F rest p)) put))
