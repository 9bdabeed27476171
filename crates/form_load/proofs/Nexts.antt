-- What comes next, and whether a space is under load.
use Rattle.std.specs.Prelude.{Result, Ok, Err}
use mathlib.Core.Path.{◌≡◌, refl, sym, ap, ◌∙◌, subst}
use mathlib.Core.Bool.{Bool, true, false, ◌&&◌, cond}
use mathlib.Core.List.{List, [], ◌∷◌}
use Prim.Native.Nat.{ℕ, zero, suc, ◌+◌, ◌-◌, ◌≤◌, ◌<◌}
use native.Mathlib.Omega.{arith}
use native.Mathlib.Nat.{mul-le-mul}
use borrow.Author.Tests.{eq-eqb, ne_eqb, eqb-false, le-leb, lt-leb, leb-true, leb-false}
use lib.Dec.{eqb, leb}
use lib.ListN.{drop, get_or, length, length-drop, take}
use lib.Seq.{length-take-le}
use Rattle.meaning.specs.Tests.{between, every}
use Rattle.meaning.specs.Operations.{is_counter}
use Rattle.meaning.proofs.Tests.{and_left, and_right, cases, clash, fails}
use Rattle.words_layout.specs.Layout.{capacity_in, count_in, objects_in, own_in, size_in, space_for, table_mark, clock_at}
use Rattle.table_rules.specs.TableTests.{kinds_in, sizes_kept}
use Rattle.table_rules.proofs.Heading.{sizes_out}
use Rattle.words_tags.specs.declared.Station.{Station}
use Rattle.form_write.specs.Seeking.{counter_at, other_at}
use Rattle.form_write.proofs.Places.{counter_below, other_below}
use Rattle.form_row.specs.LoadHead.{LoadHead}
use Rattle.form_row.proofs.Joining.{part_of, second_fails}
use Rattle.form_take.specs.Taking.{progress_in, most_progress}
use Rattle.form_load.specs.declared.Next.{Next}
use Rattle.form_load.specs.declared.Next.TheVariants as next
use Rattle.form_load.specs.Loading.{behind_lasts, head_loads, load_waits, next_after, next_in, under_load, waits}

-- behind the last vectors
pub behind_total : (found : Result ℕ ℕ) (object : ℕ) → found ≡ Ok object → next.Total object ≡ behind_lasts found
unfolding behind_lasts
behind_total found object e = sym (ap behind_lasts e)

pub behind_rows : (found : Result ℕ ℕ) (more : ℕ) → found ≡ Err more → more ≡ 0 → next.Rows ≡ behind_lasts found
unfolding behind_lasts
behind_rows found more e z = sym (ap behind_lasts (e ∙ ap Err z))

pub behind_more : (found : Result ℕ ℕ) (more : ℕ) → found ≡ Err more → (more ≡ 0 → ⊥) → next.Nothing ≡ behind_lasts found
unfolding behind_lasts
behind_more found zero e n = absurd (n refl)
behind_more found (suc more) e n = sym (ap behind_lasts e)

-- the line that comes next
module _ (s : List ℕ) where
  pub next_none : get_or s 6 0 ≡ 0 → next.Nothing ≡ next_in s
  unfolding next_in next_after
  next_none z = rw z refl

  module _ (d : get_or s 6 0 ≡ 0 → ⊥) where
    pub next_clock : get_or s 6 0 ≡ 1 → next.Clock ≡ next_in s
    unfolding next_in next_after
    next_clock z = rw z refl

    module _ (d₁ : get_or s 6 0 ≡ 1 → ⊥) (p n : ℕ) (ep : p ≡ get_or s 6 0) (en : n ≡ get_or s 1 0) where
      pub next_last : p ≤ n → (r : Station) → r.0 ≡ other_at (get_or s 2 0) (p - 2) → next.Last r ≡ next_in s
      unfolding next_in next_after
      next_last h r e =
          let within : leb (get_or s 6 0) (get_or s 1 0) ≡ true = le-leb (get_or s 6 0) (get_or s 1 0) (omega (arith, ep, en)) in
          rw (ne_eqb (get_or s 6 0) 0 d, ne_eqb (get_or s 6 0) 1 d₁, within) (ap (λ (k : ℕ). next.Last (record { 0 = k })) (e ∙ rw ep refl))

      pub next_behind : n < p → (o : ℕ) → o ≡ get_or s 4 0 → (found : Result ℕ ℕ) → found ≡ counter_at (take (7 + o - 7) (drop 7 s)) 0 (p - (n + 1)) → (r : Next) → r ≡ behind_lasts found → r ≡ next_in s
      unfolding next_in next_after
      next_behind h o eo found f r e =
          let beyond : leb (get_or s 6 0) (get_or s 1 0) ≡ false = lt-leb (get_or s 6 0) (get_or s 1 0) (omega (arith, ep, en)) in
          let ahead : p - (n + 1) ≡ get_or s 6 0 - suc (get_or s 1 0) = omega (arith, ep, en) in
          rw (ne_eqb (get_or s 6 0) 0 d, ne_eqb (get_or s 6 0) 1 d₁, beyond) (e ∙ ap behind_lasts (f ∙ rw (part_of s 7 o (get_or s 4 0) eo, ahead) refl))

-- whether something comes next
module _ (n : Next) (rows : ℕ) where
  pub waits_clock : n ≡ next.Clock → eqb rows 0 ≡ waits n rows
  unfolding waits
  waits_clock e = sym (ap (λ (k : Next). waits k rows) e)

  pub waits_last : (station : Station) → n ≡ next.Last station → eqb rows 0 ≡ waits n rows
  unfolding waits
  waits_last station e = sym (ap (λ (k : Next). waits k rows) e)

  pub waits_total : (object : ℕ) → n ≡ next.Total object → eqb rows 0 ≡ waits n rows
  unfolding waits
  waits_total object e = sym (ap (λ (k : Next). waits k rows) e)

  pub waits_rows : n ≡ next.Rows → true ≡ waits n rows
  unfolding waits
  waits_rows e = sym (ap (λ (k : Next). waits k rows) e)

  pub waits_nothing : n ≡ next.Nothing → false ≡ waits n rows
  unfolding waits
  waits_nothing e = sym (ap (λ (k : Next). waits k rows) e)

-- the head
module _ (s : List ℕ) where
  pub head_mark : (get_or s 0 0 ≡ 1919904876 → ⊥) → false ≡ head_loads s
  unfolding head_loads
  head_mark h = rw (ne_eqb (get_or s 0 0) 1919904876 h) refl

  module _ (r : Bool) (e : r ≡ sizes_kept (get_or s 1 0) (get_or s 2 0) (get_or s 3 0) (get_or s 4 0) (get_or s 5 0)) where
    pub head_sizes : r ≡ false → false ≡ head_loads s
    unfolding head_loads
    head_sizes h = sym (second_fails (eqb (get_or s 0 0) table_mark) (sizes_kept (get_or s 1 0) (get_or s 2 0) (get_or s 3 0) (get_or s 4 0) (get_or s 5 0)) (leb (space_for (size_in s) (capacity_in s)) (length s)) (sym e ∙ h))

    pub head_room : get_or s 0 0 ≡ 1919904876 → r ≡ true → (b : Bool) → b ≡ leb (space_for (get_or s 1 0) (get_or s 3 0)) (length s) → b ≡ head_loads s
    unfolding head_loads
    head_room m h b q = rw (eq-eqb (get_or s 0 0) 1919904876 m, sym e ∙ h) q

pub head_facts : (s : List ℕ) → head_loads s ≡ true → LoadHead s
unfolding head_loads
head_facts s e =
    let a = eqb (get_or s 0 0) table_mark in
    let b = sizes_kept (size_in s) (own_in s) (capacity_in s) (objects_in s) (count_in s) in
    let c = leb (space_for (size_in s) (capacity_in s)) (length s) in
    let behind = and_right a (b && c) e in
    let Z = sizes_out (size_in s) (own_in s) (capacity_in s) (objects_in s) (count_in s) (and_left b c behind) in
    let room = leb-true (space_for (size_in s) (capacity_in s)) (length s) (and_right b c behind) in
    record {
      some = Z.some;
      few = Z.few;
      own = Z.within_group;
      small = Z.small;
      objects = Z.most;
      within = Z.within;
      long = omega (arith, room);
      square = mul-le-mul Z.few Z.few;
      room = room;
    }

-- the kinds and what comes next
module _ (s : List ℕ) (o : ℕ) (eo : o ≡ get_or s 4 0) (r : Bool) (e : r ≡ every (between 1 9) (take (7 + o - 7) (drop 7 s))) where
  kinds_told : r ≡ every (between 1 9) (kinds_in s)
  kinds_told = e ∙ rw (part_of s 7 o (get_or s 4 0) eo) refl

  pub waits_kinds : r ≡ false → false ≡ load_waits s
  unfolding load_waits
  waits_kinds h = rw (sym kinds_told ∙ h) refl

  pub waits_next : r ≡ true → (n : Next) → n ≡ next_in s → (t : Bool) → t ≡ waits n (get_or s 5 0) → t ≡ load_waits s
  unfolding load_waits
  waits_next h n f t q = rw (sym kinds_told ∙ h) (q ∙ ap (λ (k : Next). waits k (get_or s 5 0)) f)

-- under load
module _ (s : List ℕ) where
  pub under_short : length s < clock_at → false ≡ under_load s
  unfolding under_load
  under_short h = rw (fails (head_loads s) (λ t. absurd (omega (arith, (head_facts s t).long)))) refl

  module _ (r : Bool) (e : r ≡ head_loads s) where
    pub under_head : r ≡ false → false ≡ under_load s
    unfolding under_load
    under_head h = rw (sym e ∙ h) refl

    module _ (h : r ≡ true) where
      pub under_headed : LoadHead s
      under_headed = head_facts s (sym e ∙ h)

      pub under_waits : (t : Bool) → t ≡ load_waits s → t ≡ under_load s
      unfolding under_load
      under_waits t q = rw (sym e ∙ h) q

-- no counter is behind all the kinds
behind_all : (kinds : List ℕ) (object ahead : ℕ) → length kinds < ahead → behind_lasts (counter_at kinds object ahead) ≡ next.Nothing
unfolding counter_at behind_lasts
behind_all [] object zero h = absurd (omega arith)
behind_all [] object (suc ahead) h = refl
behind_all (kind ∷ kinds) object ahead h =
    rw (ne_eqb ahead 0 (λ z. absurd (omega arith))) (by (is_counter kind) (behind_all kinds (suc object) (ahead - 1) (omega arith)) (behind_all kinds (suc object) ahead (omega arith)))
  where
    by : (b : Bool) → behind_lasts (counter_at kinds (suc object) (ahead - 1)) ≡ next.Nothing → behind_lasts (counter_at kinds (suc object) ahead) ≡ next.Nothing
        → behind_lasts (cond b (counter_at kinds (suc object) (ahead - 1)) (counter_at kinds (suc object) ahead)) ≡ next.Nothing
    by true f g = f
    by false f g = g

-- a line that comes next is of a station of the group, or of an object of the table
abbrev Placed : ℕ → ℕ → Next → Type 0
Placed size objects next.Clock = Unit {0}
Placed size objects (next.Last station) = station.0 < size
Placed size objects (next.Total object) = object < objects
Placed size objects next.Rows = Unit {0}
Placed size objects next.Nothing = Unit {0}

placed_behind : (size objects : ℕ) (kinds : List ℕ) (ahead : ℕ) → length kinds ≡ objects → (found : Result ℕ ℕ) → found ≡ counter_at kinds 0 ahead → Placed size objects (behind_lasts found)
unfolding behind_lasts
placed_behind size objects kinds ahead e (Ok object) f = counter_below kinds ahead objects object (Ok object) e f refl
placed_behind size objects kinds ahead e (Err zero) f = tt
placed_behind size objects kinds ahead e (Err (suc more)) f = tt

placed_after : (size own objects : ℕ) (kinds : List ℕ) (p : ℕ) → own < size → length kinds ≡ objects → Placed size objects (next_after size own kinds p)
unfolding next_after
placed_after size own objects kinds p h e =
    cases (eqb p 0)
    (λ z. rw z tt)
    (λ d. cases (eqb p 1)
    (λ z. rw (d, z) tt)
    (λ d₁. cases (leb p size)
    (λ w. rw (d, d₁, w) (other_below own (p - 2) size h (omega (arith, leb-true p size w, eqb-false p 0 d, eqb-false p 1 d₁))))
    (λ w. rw (d, d₁, w) (placed_behind size objects kinds (p - suc size) e (counter_at kinds 0 (p - suc size)) refl))))

-- what the lines of a load require
module _ (s : List ℕ) (u : under_load s ≡ true) where
  pub load_head : LoadHead s
  unfolding under_load
  load_head = head_facts s (and_left (head_loads s) (load_waits s) u)

  pub load_waits_lem : waits (next_in s) (count_in s) ≡ true
  unfolding under_load load_waits
  load_waits_lem = and_right (every (between 1 9) (kinds_in s)) (waits (next_in s) (count_in s)) (and_right (head_loads s) (load_waits s) u)

  kinds_long : length (kinds_in s) ≡ objects_in s
  kinds_long = length-take-le (objects_in s) (drop 7 s) (simp length-drop (omega (arith, load_head.long, load_head.objects)))

  far : most_progress < get_or s 6 0 → next_in s ≡ next.Nothing
  unfolding next_in next_after
  far h =
      let H = load_head in
      rw (ne_eqb (get_or s 6 0) 0 (λ z. absurd (omega arith)), ne_eqb (get_or s 6 0) 1 (λ z. absurd (omega arith)), lt-leb (get_or s 6 0) (get_or s 1 0) (omega (arith, H.few)))
      (behind_all (kinds_in s) 0 (get_or s 6 0 - suc (get_or s 1 0)) (omega (arith, kinds_long, H.few, H.objects)))

  pub load_early : progress_in s ≤ most_progress
  unfolding waits
  load_early = cases (leb (get_or s 6 0) most_progress) (λ t. leb-true (get_or s 6 0) most_progress t)
      (λ t. clash (waits (next_in s) (count_in s)) load_waits_lem (ap (λ (k : Next). waits k (count_in s)) (far (leb-false (get_or s 6 0) most_progress t))))

  placed : Placed (size_in s) (objects_in s) (next_in s)
  unfolding next_in
  placed = placed_after (size_in s) (own_in s) (objects_in s) (kinds_in s) (get_or s 6 0) load_head.own kinds_long

  pub load_station : (r : Next) → r ≡ next_in s → (station : Station) → r ≡ next.Last station → station.0 < size_in s
  load_station r e station h = subst (Placed (size_in s) (objects_in s)) (sym e ∙ h) placed

  pub load_object : (r : Next) → r ≡ next_in s → (object : ℕ) → r ≡ next.Total object → object < objects_in s
  load_object r e object h = subst (Placed (size_in s) (objects_in s)) (sym e ∙ h) placed
