-- "So stations that accepted the same operations agree, and fully settled ones hold the same bytes."
use mathlib.Core.Path.{◌≡◌, refl, sym, ◌∙◌, ap, subst}
use mathlib.Core.Bool.{Bool, true, false, not, ◌&&◌, ◌||◌}
use mathlib.Core.Logic.{⊎_elim}
use mathlib.Core.List.Memᴰ
use mathlib.Core.List.{List, [], ◌∷◌, Memᴰ}
use Prim.Native.Nat.{ℕ, ◌<◌, ◌≤◌}
use native.Mathlib.Omega.{arith}
use lib.Dec.{eqb}
use lib.IntN.{ℤ, pos, negsuc, nat_abs}
use lib.ListN.{get_or, length}
use lib.Seq.{ext_get_or}
use borrow.Author.Tests.{eqb-true}
use Rattle.meaning.specs.Tests.{any}
use Rattle.meaning.specs.Operations.{Operation, before, is_counter, code_allowed}
use Rattle.meaning.specs.Meaning.{on, add_of, remove_of, clear_of, ends, survives, stands, in_grow_set, in_two_phase_set, in_by_survival, in_by_standing, is_in, total_of, count_of}
use Rattle.meaning.specs.Rows.{Row, settled_row, unsettled_count, lower_row}
use Rattle.meaning.specs.Arrival.{gets_row}
use Rattle.meaning.specs.Table.{Header, Table, kind_in, stable, in_range, is_table, total_rule, storable}
use Rattle.meaning.specs.Questions.{Asked, by_definition}
use Rattle.meaning.specs.Refusals.{declared, asked_refusals, question_refusals}
use Rattle.meaning.specs.Calls.{ask_of, ask, meant}
use Rattle.meaning.specs.History.{Event, Station, reached}
use Rattle.meaning.proofs.Tests.{cases, clash, iff, and_left, and_right, and_both, fails_not, or_cases, any_in, any_out, any_none, any_cong, not_holds}
use Rattle.meaning.proofs.Vectors.{at_most_at}
use Rattle.meaning.proofs.Ascending.{asc_eq, row_irreflexive, row_trans}
use Rattle.meaning.proofs.RowLaws.{on_eq, on_self}
use Rattle.meaning.proofs.KindGroups.{counting, keeping, surviving, standing, group}
use Rattle.meaning.proofs.TableFacts.{facts}
use Rattle.meaning.proofs.Totals.{total_same}
use Rattle.meaning.proofs.Lists.{list_same}
use Rattle.meaning.proofs.Asking.{replies_alike}
use Rattle.meaning.proofs.Histories.{Cell, Faithful}
use Rattle.meaning.proofs.Demand3.{Sound, reached_sound, every_answer}
use Rattle.meaning.proofs.Survival
use Rattle.meaning.proofs.Standing
use Rattle.meaning.proofs.Keeping

-- every operation of the one list is in the other
abbrev pub Within : List Operation → List Operation → Type 0
Within accepted others = (u : Operation) → Memᴰ u accepted → Memᴰ u others

-- the definitions go by the set of accepted operations
module _ (accepted others : List Operation) (to : Within accepted others) (from : Within others accepted) where
  any_same : (p q : Operation → Bool) → ((u : Operation) → p u ≡ q u) → any p accepted ≡ any q others
  any_same p q e = any_cong p q accepted (λ u _. e u) ∙ iff (any q accepted) (any q others)
      (λ h. let s = any_out q accepted h in any_in q (to s.0 s.1) s.2)
      (λ h. let s = any_out q others h in any_in q (from s.0 s.1) s.2)

  survives_same : (k o v : ℕ) (u : Operation) → survives k o v accepted u ≡ survives k o v others u
  unfolding survives
  survives_same k o v u = ap not (any_same (λ (t : Operation). before u t && ends k o v t) (λ (t : Operation). before u t && ends k o v t) (λ _. refl))

  stands_same : (o v : ℕ) (u : Operation) → stands o v accepted u ≡ stands o v others u
  unfolding stands
  stands_same o v u = ap not (any_same (λ (t : Operation). before u t && (on o v t || clear_of o t)) (λ (t : Operation). before u t && (on o v t || clear_of o t)) (λ _. refl))

  survival_same : (k o v : ℕ) → in_by_survival k o v accepted ≡ in_by_survival k o v others
  unfolding in_by_survival
  survival_same k o v = any_same (λ (u : Operation). add_of o v u && survives k o v accepted u) (λ (u : Operation). add_of o v u && survives k o v others u) (λ u. ap (λ (b : Bool). add_of o v u && b) (survives_same k o v u))

  standing_same : (o v : ℕ) → in_by_standing o v accepted ≡ in_by_standing o v others
  unfolding in_by_standing
  standing_same o v =
      rw (
        any_same (λ (u : Operation). add_of o v u && stands o v accepted u) (λ (u : Operation). add_of o v u && stands o v others u) (λ u. ap (λ (b : Bool). add_of o v u && b) (stands_same o v u)),
        any_same (λ (u : Operation). remove_of o v u && stands o v accepted u) (λ (u : Operation). remove_of o v u && stands o v others u) (λ u. ap (λ (b : Bool). remove_of o v u && b) (stands_same o v u)),
      )

  in_same : (k o v : ℕ) → is_in k o v accepted ≡ is_in k o v others
  unfolding is_in in_grow_set in_two_phase_set
  in_same k o v = rw (any_same (add_of o v) (add_of o v) (λ _. refl), any_same (remove_of o v) (remove_of o v) (λ _. refl), survival_same k o v, standing_same o v)

meant_same : (header : Header) (accepted others : List Operation) → Within accepted others → Within others accepted → ((o : ℕ) → total_of o accepted ≡ total_of o others) → (room : ℕ) (asked : Asked) → meant header accepted room asked ≡ meant header others room asked
unfolding meant by_definition count_of
meant_same header accepted others to from totals room asked = replies_alike header (by_definition header accepted) (by_definition header others) room asked (λ _.
    let k = kind_in header asked.object in
    let lists = list_same k asked.object accepted others (in_same accepted others to from k asked.object) in
    record {
      totals = λ _. totals asked.object;
      ins = λ _ v. in_same accepted others to from k asked.object v;
      lists = λ _. lists;
      counts = λ _. ap length lists;
    })

-- no unsettled row is left
all_settled : (rows : List Row) → unsettled_count rows ≡ 0 → (r : Row) → Memᴰ r rows → r.settled ≡ true
all_settled [] e r m = elim m [ ]
all_settled (x ∷ rows) e r m = cases x.settled
    (λ q. ⊎_elim (λ f. ap (λ (y : Row). y.settled) f ∙ q) (λ n. all_settled rows (let h : unsettled_count rows ≡ 0 = (let g = rw q at e in omega arith) in h) r n) (Memᴰ.cases_cons m))
    (λ q. let g = rw q at e in absurd (omega arith))

-- settled rows of one object, value and code are one row
one_row_lem : (a b : Row) → a ≡ settled_row a.operation → b ≡ settled_row b.operation → a.operation.object ≡ b.operation.object → a.operation.value ≡ b.operation.value → a.operation.code ≡ b.operation.code → a ≡ b
one_row_lem a b p q e f g = p ∙ (λ i. record { settled = true; operation = record { object = e i; code = g i; value = f i; sender = 0; vector = [] } }) ∙ sym q

-- a settled row of this object, value and code, where a row of them is in a settled table
has_row : (code o v : ℕ) (rows : List Row) → ((r : Row) → Memᴰ r rows → r ≡ settled_row r.operation) → (r : Row) → r ≡ settled_row r.operation → (on o v r.operation && eqb r.operation.code code) ≡ true →
    any (λ (x : Row). on o v x.operation && eqb x.operation.code code) rows ≡ true → Memᴰ r rows
has_row code o v rows all r w p e =
    let s = any_out (λ (x : Row). on o v x.operation && eqb x.operation.code code) rows e in
    let x = on_eq o v r.operation (and_left (on o v r.operation) (eqb r.operation.code code) p) in
    let y = on_eq o v s.0.operation (and_left (on o v s.0.operation) (eqb s.0.operation.code code) s.2) in
    let c = eqb-true r.operation.code code (and_right (on o v r.operation) (eqb r.operation.code code) p) in
    let d = eqb-true s.0.operation.code code (and_right (on o v s.0.operation) (eqb s.0.operation.code code) s.2) in
    Memᴰ.cast (one_row_lem r s.0 w (all s.0 s.1) (x.0 ∙ sym y.0) (x.1 ∙ sym y.1) (c ∙ sym d)) s.1

has_add : (o v : ℕ) (rows : List Row) → ((r : Row) → Memᴰ r rows → r ≡ settled_row r.operation) → (r : Row) → r ≡ settled_row r.operation → add_of o v r.operation ≡ true → any (λ (x : Row). add_of o v x.operation) rows ≡ true → Memᴰ r rows
unfolding add_of
has_add o v rows all r w p e = has_row 1 o v rows all r w p e

has_remove : (o v : ℕ) (rows : List Row) → ((r : Row) → Memᴰ r rows → r ≡ settled_row r.operation) → (r : Row) → r ≡ settled_row r.operation → remove_of o v r.operation ≡ true → any (λ (x : Row). remove_of o v x.operation) rows ≡ true → Memᴰ r rows
unfolding remove_of
has_remove o v rows all r w p e = has_row 2 o v rows all r w p e

-- kinds 6 and 9 keep no settled remove without an unsettled add
no_remove : (o v : ℕ) (st : Operation → Bool) (accepted : List Operation) (rows : List Row) → ((r : Row) → Memᴰ r rows → r.settled ≡ true) → Standing.Inv o v st accepted rows → any (λ (r : Row). remove_of o v r.operation) rows ≡ false
unfolding Standing.Fit
no_remove o v st accepted rows all I =
    let none : (p : Operation → Bool) → Standing.ub p rows ≡ false = λ p. any_none (λ (r : Row). not r.settled && p r.operation) rows (λ r m. rw (all r m)) in
    let f : Standing.fb (remove_of o v) rows ≡ false = Standing.ok_still (Standing.fb (add_of o v) rows) (Standing.fb (remove_of o v) rows) (Standing.lb o v (add_of o v) accepted) (Standing.lb o v (remove_of o v) accepted) (rw (none (add_of o v), none (remove_of o v)) at I.fit) in
    Standing.split (remove_of o v) rows ∙ rw (none (remove_of o v), f)

-- a row of one settled station is a row of the other
module _ (here there : Station) (kinds : (o : ℕ) → kind_in here.table.header o ≡ kind_in there.table.header o) (is : is_table here.table ≡ true) (is' : is_table there.table ≡ true) (G : Faithful here) (G' : Faithful there)
    (all : (r : Row) → Memᴰ r here.table.rows → r.settled ≡ true) (all' : (r : Row) → Memᴰ r there.table.rows → r.settled ≡ true) (to : Within here.accepted there.accepted) (from : Within there.accepted here.accepted) where
  abbrev rows : List Row
  rows = here.table.rows

  abbrev rows' : List Row
  rows' = there.table.rows

  whole : (r : Row) → Memᴰ r rows' → r ≡ settled_row r.operation
  whole r m = ((facts there.table is').row_facts r m).without_tag (all' r m)

  carry_kept : (k : ℕ) (r : Row) → Memᴰ r rows → r ≡ settled_row r.operation → Keeping.Inv k r.operation.object r.operation.value here.accepted rows → Keeping.Inv k r.operation.object r.operation.value there.accepted rows' → Memᴰ r rows'
  carry_kept k r m w I I' =
      let o = r.operation.object in let v = r.operation.value in
      let adds = any_same here.accepted there.accepted to from (add_of o v) (add_of o v) (λ _. refl) in
      let rems = any_same here.accepted there.accepted to from (remove_of o v) (remove_of o v) (λ _. refl) in
      ⊎_elim
      (λ p. has_add o v rows' whole r w p (I'.adds ∙ rw (← adds, ← rems) (sym I.adds ∙ any_in (λ (x : Row). add_of o v x.operation) m p)))
      (λ p. has_remove o v rows' whole r w p (I'.rems ∙ sym rems ∙ sym I.rems ∙ any_in (λ (x : Row). remove_of o v x.operation) m p))
      (or_cases (add_of o v r.operation) (remove_of o v r.operation) (I.coded r m (on_self r.operation)))

  carry_surviving : (k : ℕ) (r : Row) → Memᴰ r rows → r ≡ settled_row r.operation → Survival.Inv k r.operation.object r.operation.value (stable here.table) here.accepted rows → Survival.Inv k r.operation.object r.operation.value (stable there.table) there.accepted rows' → Memᴰ r rows'
  carry_surviving k r m w I I' =
      let o = r.operation.object in let v = r.operation.value in
      let p = (I.root r.operation (subst (λ (g : Bool). Memᴰ (record { settled = g; operation = r.operation }) rows) (all r m) m) (on_self r.operation)).0 in
      has_add o v rows' whole r w p (Survival.answer k o v (stable there.table) there.accepted rows' I' ∙ sym (survival_same here.accepted there.accepted to from k o v) ∙ sym (Survival.answer k o v (stable here.table) here.accepted rows I) ∙ any_in (λ (x : Row). add_of o v x.operation) m p)

  carry_standing : (r : Row) → Memᴰ r rows → r ≡ settled_row r.operation → Standing.Inv r.operation.object r.operation.value (stable here.table) here.accepted rows → Standing.Inv r.operation.object r.operation.value (stable there.table) there.accepted rows' → Memᴰ r rows'
  carry_standing r m w I I' =
      let o = r.operation.object in let v = r.operation.value in
      let n = no_remove o v (stable here.table) here.accepted rows all I in
      ⊎_elim
      (λ p. let h = and_both (any (λ (x : Row). add_of o v x.operation) rows) (not (any (λ (x : Row). remove_of o v x.operation) rows)) (any_in (λ (x : Row). add_of o v x.operation) m p) (fails_not (any (λ (x : Row). remove_of o v x.operation) rows) n) in
      let h' = Standing.answer o v (stable there.table) there.accepted rows' I' ∙ sym (standing_same here.accepted there.accepted to from o v) ∙ sym (Standing.answer o v (stable here.table) here.accepted rows I) ∙ h in
      has_add o v rows' whole r w p (and_left (any (λ (x : Row). add_of o v x.operation) rows') (not (any (λ (x : Row). remove_of o v x.operation) rows')) h'))
      (λ p. clash (any (λ (x : Row). remove_of o v x.operation) rows) (any_in (λ (x : Row). remove_of o v x.operation) m p) n)
      (or_cases (add_of o v r.operation) (remove_of o v r.operation) (I.coded r m (on_self r.operation)))

  carry : (r : Row) → Memᴰ r rows → Memᴰ r rows'
  unfolding storable
  carry r m =
      let o = r.operation.object in let v = r.operation.value in let k = kind_in here.table.header o in
      let F = facts here.table is in
      let f = F.row_facts r m in
      let w = f.without_tag (all r m) in
      let C = G.cells o v in
      let C' : Cell k o v (stable there.table) there.accepted rows' = subst (λ (j : ℕ). Cell j o v (stable there.table) there.accepted rows') (sym (kinds o)) (G'.cells o v) in
      let range = F.kind_range o f.declared in
      let n : is_counter k ≡ false = not_holds (is_counter k) (and_left (not (is_counter k)) (code_allowed k r.operation.code && gets_row k r.operation) f.is_storable) in
      elim (group k range.0 range.1) [
        | counting c ↦ clash (is_counter k) c n
        | keeping g ↦ carry_kept k r m w (C.keeps g) (C'.keeps g)
        | surviving g ↦ carry_surviving k r m w (C.survives g) (C'.survives g)
        | standing g ↦ carry_standing r m w (C.stands g) (C'.stands g)
      ]

-- a clock is no higher than another that has heard as much
clock_below : (here there : Station) → Faithful here → Faithful there → Within here.accepted there.accepted → (s : ℕ) → get_or here.table.clock s 0 ≤ get_or there.table.clock s 0
clock_below here there G G' to s = ⊎_elim (λ z. omega arith) (λ x. let k = at_most_at x.0.vector there.table.clock (G'.bound x.0 (to x.0 x.1)) s in let e = x.2 in omega arith) (G.heard s)

pub no_amount : (z : ℤ) → nat_abs z ≡ 0 → z ≡ pos 0
no_amount (pos n) e = ap pos e
no_amount (negsuc n) e = absurd (omega arith)

-- the total of an object that is no counter
no_total : (table : Table) (o : ℕ) → is_table table ≡ true → o < length table.header.kinds → is_counter (kind_in table.header o) ≡ false → get_or table.totals o (pos 0) ≡ pos 0
unfolding total_rule
no_total table o is d n = no_amount (get_or table.totals o (pos 0)) (eqb-true (nat_abs (get_or table.totals o (pos 0))) 0 (rw n at ((facts table is).total_rule_lem o d)))

-- two stations, with the same objects, that have accepted the same operations; that a header is in range is what an accepted opening gives
module _ (header other : Header) (events happened : List Event) (range : in_range header ≡ true) (range' : in_range other ≡ true) (objects : header.kinds ≡ other.kinds)
    (to : Within (reached header events).accepted (reached other happened).accepted) (from : Within (reached other happened).accepted (reached header events).accepted) where
  abbrev here : Station
  here = reached header events

  abbrev there : Station
  there = reached other happened

  S : Sound header here
  S = reached_sound header events range

  S' : Sound other there
  S' = reached_sound other happened range'

  total_equal : (o : ℕ) → total_of o here.accepted ≡ total_of o there.accepted
  total_equal o = total_same o here.accepted there.accepted S.is_faithful.once S'.is_faithful.once to from

  -- only the kinds of a header matter to a question
  by_kinds : (accepted : List Operation) (room : ℕ) (asked : Asked) → meant header accepted room asked ≡ meant other accepted room asked
  unfolding meant ask_of question_refusals asked_refusals declared kind_in by_definition
  by_kinds accepted room asked = rw objects

  -- "stations that accepted the same operations agree": every question gets the same reply.
  pub equal_answers : (room : ℕ) (asked : Asked) → ask here.table room asked ≡ ask there.table room asked
  equal_answers room asked =
      every_answer header events range room asked
      ∙ meant_same header here.accepted there.accepted to from total_equal room asked
      ∙ by_kinds there.accepted room asked
      ∙ sym (every_answer other happened range' room asked)

  kinds_equal : (o : ℕ) → kind_in here.table.header o ≡ kind_in there.table.header o
  unfolding kind_in
  kinds_equal o = ap (λ (h : Header). get_or h.kinds o 0) S.same_header ∙ ap (λ (l : List ℕ). get_or l o 0) objects ∙ sym (ap (λ (h : Header). get_or h.kinds o 0) S'.same_header)

  -- "fully settled ones hold the same bytes": with no unsettled row left in either, they hold the same rows.
  pub equal_rows : unsettled_count here.table.rows ≡ 0 → unsettled_count there.table.rows ≡ 0 → here.table.rows ≡ there.table.rows
  equal_rows none none' =
      let all = all_settled here.table.rows none in
      let all' = all_settled there.table.rows none' in
      let F = facts here.table S.is_table_lem in
      let F' = facts there.table S'.is_table_lem in
      asc_eq lower_row row_irreflexive row_trans here.table.rows there.table.rows F.sorted F'.sorted
      (carry here there kinds_equal S.is_table_lem S'.is_table_lem S.is_faithful S'.is_faithful all all' to from)
      (carry there here (λ o. sym (kinds_equal o)) S'.is_table_lem S.is_table_lem S'.is_faithful S.is_faithful all' all from to)

  -- "stations that accepted the same operations agree": their totals are the same, settled or not.
  pub equal_totals : here.table.totals ≡ there.table.totals
  equal_totals =
      let F = facts here.table S.is_table_lem in
      let F' = facts there.table S'.is_table_lem in
      let many : length here.table.header.kinds ≡ length there.table.header.kinds = ap (λ (h : Header). length h.kinds) S.same_header ∙ ap length objects ∙ sym (ap (λ (h : Header). length h.kinds) S'.same_header) in
      ext_get_or (pos 0) here.table.totals there.table.totals (F.totals_length ∙ many ∙ sym F'.totals_length) (λ o d.
      let l = F.totals_length in
      cases (is_counter (kind_in here.table.header o))
      (λ c. S.is_faithful.totals_right o c ∙ total_equal o ∙ sym (S'.is_faithful.totals_right o (ap is_counter (sym (kinds_equal o)) ∙ c)))
      (λ c. no_total here.table o S.is_table_lem (omega arith) c ∙ sym (no_total there.table o S'.is_table_lem (omega arith) (ap is_counter (sym (kinds_equal o)) ∙ c))))

  -- "stations that accepted the same operations agree": in groups of one size, their clocks are the same.
  pub equal_clocks : header.size ≡ other.size → here.table.clock ≡ there.table.clock
  equal_clocks sizes =
      let F = facts here.table S.is_table_lem in
      let F' = facts there.table S'.is_table_lem in
      let size : here.table.header.size ≡ there.table.header.size = ap (λ (h : Header). h.size) S.same_header ∙ sizes ∙ sym (ap (λ (h : Header). h.size) S'.same_header) in
      ext_get_or 0 here.table.clock there.table.clock (F.clock_length ∙ size ∙ sym F'.clock_length) (λ s _.
      let below = clock_below here there S.is_faithful S'.is_faithful to s in
      let above = clock_below there here S'.is_faithful S.is_faithful from s in
      omega arith)
