-- A space under load: a table record written in it, and how far the load has come.
use Rattle.std.specs.Prelude.{Ok}
use mathlib.Core.Path.{◌≡◌, refl, sym, ap, ap₂, ◌∙◌, subst}
use mathlib.Core.Bool.{true, ◌&&◌}
use mathlib.Core.List.{List, ◌++◌}
use Prim.Native.Nat.{ℕ, suc, ◌≤◌, ◌<◌}
use native.Mathlib.Omega.{arith}
use lib.Dec.{eqb, ltb}
use lib.ListN.{get_or, length, take, drop, set, length-set}
use lib.Seq.{paste, drop-set-lt, drop_at}
use borrow.Author.Tests.{le-leb, lt-ltb}
use Rattle.meaning.specs.Tests.{between, every}
use Rattle.meaning.specs.Table.{Table, in_range, header_rules, greatest_size, greatest_capacity, most_objects}
use Rattle.meaning.proofs.Tests.{and_left, and_right, between_in}
use Rattle.meaning.proofs.TableFacts.{HeaderFacts, header_facts}
use Rattle.words_layout.specs.Layout.{Laid, table_mark, table_of, words_of, rewritten, beyond, space_for, size_in, own_in, capacity_in, objects_in, count_in, clock_at}
use Rattle.words_layout.proofs.Reading.{Well, table_read}
use Rattle.words_layout.proofs.Changing.{Sized, laid_again, words_long}
use Rattle.table_rules.specs.TableTests.{clock_in, kinds_in, sizes_kept}
use Rattle.line_decode.specs.Decoding.{bytes_of}
use Rattle.form_take.specs.declared.Loaded.TheVariants as loaded
use Rattle.form_load.specs.declared.Next.{Next}
use Rattle.form_load.specs.declared.Next.TheVariants as next
use Rattle.form_take.specs.Taking.{progress_in, took}
use Rattle.form_load.specs.Loading.{head_loads, load_waits, loaded_by, next_after, next_in, taken_as, under_load, waits}
use Rattle.form_load.proofs.Nexts.{load_object, load_station, load_waits_lem}
use Rattle.law_round_trip.proofs.Setting.{paste_set, set_set}

-- what is written of a table with sizes in range
pub record Fresh (t : Table) : Type 0 where
  pub well : Well t
  pub sized : Sized t
  pub ranged : in_range t.header ≡ true

-- the space, with a table's record and the progress of its load
abbrev pub under : ℕ → Table → List ℕ → List ℕ
under p t rest = set (words_of t ++ rest) 6 p

module _ (t : Table) (F : Fresh t) (rest : List ℕ) (p : ℕ) where
  abbrev plain : List ℕ
  plain = words_of t ++ rest

  abbrev words : List ℕ
  words = under p t rest

  L : Laid plain
  L = laid_again t rest F.well F.sized

  H : HeaderFacts t.header
  H = header_facts t.header F.ranged

  pub size_is : size_in words ≡ t.header.size
  unfolding words_of
  size_is = refl

  pub own_is : own_in words ≡ t.header.own
  unfolding words_of
  own_is = refl

  pub capacity_is : capacity_in words ≡ t.header.capacity
  unfolding words_of
  capacity_is = refl

  pub objects_are : objects_in words ≡ length t.header.kinds
  unfolding words_of
  objects_are = refl

  pub count_is : count_in words ≡ length t.rows
  unfolding words_of
  count_is = refl

  pub progress_is : progress_in words ≡ p
  unfolding words_of
  progress_is = refl

  pub length_is : length words ≡ length plain
  length_is = length-set plain 6 p

  behind : (k : ℕ) → 6 < k → drop k words ≡ drop k plain
  behind k h = drop-set-lt k plain 6 p h

  pub kinds_are : kinds_in words ≡ t.header.kinds
  unfolding table_of words_of
  kinds_are = ap (λ (l : List ℕ). take (length t.header.kinds) l) (behind 7 (omega arith)) ∙ ap (λ (u : Table). u.header.kinds) (table_read t F.well rest)

  pub clock_is : clock_in words ≡ t.clock
  unfolding table_of words_of
  clock_is = ap (λ (l : List ℕ). take t.header.size l) (behind clock_at (omega arith)) ∙ ap (λ (u : Table). u.clock) (table_read t F.well rest)

  pub room : space_for t.header.size t.header.capacity ≤ length plain
  unfolding words_of
  room = L.room

  sizes : sizes_kept t.header.size t.header.own t.header.capacity (length t.header.kinds) (length t.rows) ≡ true
  unfolding sizes_kept
  sizes =
      rw (between_in 1 greatest_size t.header.size H.size_range.0 H.size_range.1, lt-ltb t.header.own t.header.size H.own_in_lem, between_in 1 (greatest_capacity t.header.size) t.header.capacity H.capacity_range.0 H.capacity_range.1, between_in 1 most_objects (length t.header.kinds) H.objects_range.0 H.objects_range.1, le-leb (length t.rows) t.header.capacity F.sized.within) refl

  known_kinds : every (between 1 9) t.header.kinds ≡ true
  unfolding in_range header_rules
  known_kinds =
      let a = between 1 greatest_size t.header.size in
      let b = ltb t.header.own t.header.size in
      let c = between 1 most_objects (length t.header.kinds) in
      let d = every (between 1 9) t.header.kinds in
      let e = between 1 (greatest_capacity t.header.size) t.header.capacity in
      and_left d (e && true) (and_right c (d && (e && true)) (and_right b (c && (d && (e && true))) (and_right a (b && (c && (d && (e && true)))) F.ranged)))

  abbrev coming : Next
  coming = next_after t.header.size t.header.own t.header.kinds p

  pub next_is : next_in words ≡ coming
  unfolding next_in words_of
  next_is = ap (λ (kinds : List ℕ). next_after t.header.size t.header.own kinds p) kinds_are

  mark_is : eqb (get_or words 0 0) table_mark ≡ true
  unfolding words_of
  mark_is = refl

  is_under : waits coming (length t.rows) ≡ true → under_load words ≡ true
  unfolding under_load head_loads load_waits words_of
  is_under h = rw (size_is, own_is, capacity_is, objects_are, count_is, kinds_are, next_is, length_is, sizes, le-leb (space_for t.header.size t.header.capacity) (length plain) room, known_kinds, h, mark_is) refl

  -- a line to it
  pub taken_by_lem : (line : List ℕ) (n : Next) → coming ≡ n → waits n (length t.rows) ≡ true → loaded_by line words ≡ taken_as n (bytes_of line) words
  unfolding loaded_by
  taken_by_lem line n e h = rw (is_under (rw e h), next_is, e) refl

  -- what comes next where a load is under way
  module _ (u : under_load words ≡ true) where
    pub waiting : (n : Next) → coming ≡ n → waits n (length t.rows) ≡ true
    waiting n c = ap₂ waits (sym (next_is ∙ c)) (sym count_is) ∙ load_waits_lem words u

    pub station_in : (k : ℕ) → coming ≡ next.Last (record { 0 = k }) → k < t.header.size
    station_in k c = subst (λ (n : ℕ). k < n) size_is (load_station words u (next.Last (record { 0 = k })) (sym (next_is ∙ c)) (record { 0 = k }) refl)

    pub object_in : (o : ℕ) → coming ≡ next.Total o → o < length t.header.kinds
    object_in o c = subst (λ (n : ℕ). o < n) objects_are (load_object words u (next.Total o) (sym (next_is ∙ c)) o refl)

  -- new words at a place that make another record of it
  pub took_as : (at : ℕ) (new : List ℕ) (u : Table) → 6 < at → at ≤ length plain → paste plain at new (length new) ≡ rewritten plain u → took words at new ≡ (Ok loaded.Taken, under (suc p) u rest)
  unfolding took rewritten words_of
  took_as at new u h room e =
      let beyond_is : beyond plain ≡ rest = drop_at (words_of t) rest (space_for t.header.size t.header.capacity) (words_long t F.well F.sized) in
      ap (λ (l : List ℕ). (Ok loaded.Taken, l)) (rw (paste_set plain new 6 at (length new) p h room, set_set (paste plain at new (length new)) 6 p (suc p), e, beyond_is) refl)
