-- Any history of a table from its opening: what its rows and totals have to do with all that was accepted.
use mathlib.Core.Path.{◌≡◌, refl, sym, ◌∙◌, ap, subst}
use mathlib.Core.Bool.{Bool, true, false}
use mathlib.Core.Logic.{◌⊎◌, inl, inr, ⊎_elim}
use mathlib.Core.List.{List, [], ◌∷◌, ◌++◌, Memᴰ}
use Prim.Native.Nat.{ℕ, zero, suc}
use native.Mathlib.Omega.{arith}
use lib.Dec.{eqb}
use lib.IntN.{pos}
use lib.ListN.{get_or, length, replicate}
use lib.Seq.{get_or-set_other}
use borrow.Author.Tests.{eqb-true, eqb-false}
use Rattle.meaning.specs.Tests.{any}
use Rattle.meaning.specs.Order.{Vector, at_most, raised}
use Rattle.meaning.specs.Operations.{Operation, is_counter, removes_stand, code_allowed}
use Rattle.meaning.specs.Meaning.{on, add_of, total_of, in_grow_set, is_in}
use Rattle.meaning.specs.Rows.{Row, unsettled_row, remove_rows_count, is_in_by_rows}
use Rattle.meaning.specs.Arrival.{concerns, row_before, taken_by, gets_row, rows_after}
use Rattle.meaning.specs.Settling.{stable_by, step_at}
use Rattle.meaning.specs.Table.{Header, Table, kind_in, low, stable, zeros, opened, is_table}
use Rattle.meaning.specs.Calls.{after_arrival, rows_settled}
use Rattle.meaning.specs.History.{Event, Station, after}
use Rattle.meaning.proofs.Tests.{and_true, cases, clash, on_cons}
use Rattle.meaning.proofs.Vectors.{at_most_trans, at_most_raised, raised_at}
use Rattle.meaning.proofs.OneValue.{gone, concerns_touches, Arrived, Fresh, add_on}
use Rattle.meaning.proofs.RowLaws.{on_eq, Tagged, tagged_rows, arrival_back, arrival_kept, arrival_new, concerns_object, other_back, other_kept, steps_elim}
use Rattle.meaning.proofs.KindGroups.{Keeper, Survivor, Stander, Group, counting, keeping, surviving, standing, at_keeper, at_survivor, at_stander, survivor_tagged, stander_tagged, survivor_stands_not, stander_stands, stander_no_register, survivor_gets, stander_gets, survivor_law}
use Rattle.meaning.proofs.Steps.{add_stepped, rem_stepped}
use Rattle.meaning.proofs.Arriving.{Accepts, unseen, fresh, arrived, calmed, event_elim}
use Rattle.meaning.proofs.TableFacts.{facts}
use Rattle.meaning.proofs.Totals.{Once, totals_after_lem}
use Rattle.meaning.proofs.Survival
use Rattle.meaning.proofs.Standing
use Rattle.meaning.proofs.Keeping

-- the invariant of one value of one object of kind k
pub record Cell (k o v : ℕ) (st : Operation → Bool) (accepted : List Operation) (rows : List Row) : Type 0 where
  pub keeps : Keeper k → Keeping.Inv k o v accepted rows
  pub survives : Survivor k → Survival.Inv k o v st accepted rows
  pub stands : Stander k → Standing.Inv o v st accepted rows

-- an arrival in kinds 5 to 9; ka is the kind of its own object
taken_gone : (k o v : ℕ) (t : Operation) (r : Row) → on o v r.operation ≡ true → taken_by k t r ≡ gone (concerns k o v t) t r
unfolding taken_by row_before
taken_gone k o v t r p = let e = on_eq o v r.operation p in rw (e.0, e.1)

value_arrives : (k ka o v : ℕ) (t : Operation) (rows : List Row) (puts : Operation → Bool) → Tagged k → (t.object ≡ o → ka ≡ k) → (on o v t ≡ true → gets_row k t ≡ puts t) → (puts t ≡ true → on o v t ≡ true) → Arrived o v (concerns k o v t) puts t rows (rows_after ka t rows)
value_arrives k ka o v t rows puts five e pg po = cases (eqb t.object o)
    (λ q. subst (Arrived o v (concerns k o v t) puts t rows) (sym (tagged_rows k t rows five) ∙ ap (λ (j : ℕ). rows_after j t rows) (sym (e (eqb-true t.object o q)))) (record {
      new = λ h. arrival_new k t rows (pg (po h) ∙ h);
      kept = λ r m p g. arrival_kept k t rows m (taken_gone k o v t r p ∙ g);
      back = λ r m p. ⊎_elim
          (λ c. inl (c.0, sym (pg (subst (λ (x : Row). on o v x.operation ≡ true) c.0 p)) ∙ c.1))
          (λ c. inr (c.0, sym (taken_gone k o v t r p) ∙ c.1))
          (arrival_back k t rows m);
    }))
    (λ q. let d = eqb-false t.object o q in record {
      new = λ h. absurd (d (on_eq o v t (po h)).0);
      kept = λ r m p g. other_kept ka t rows m (λ f. d (sym f ∙ (on_eq o v r.operation p).0));
      back = λ r m p. inr (other_back ka t rows m (λ f. d (sym f ∙ (on_eq o v r.operation p).0)), rw (concerns_object k o v t (λ f. d (sym f))));
    })

module _ (table : Table) (accepted : List Operation) (u : Operation) (last' : List Vector) (F : Fresh u accepted (stable table) (stable (after_arrival table u last'))) (ac : Accepts table u last') where
  cell_arrives : (o v : ℕ) → Cell (kind_in table.header o) o v (stable table) accepted table.rows → Cell (kind_in table.header o) o v (stable (after_arrival table u last')) (u ∷ accepted) (rows_after (kind_in table.header u.object) u table.rows)
  cell_arrives o v C =
      let k = kind_in table.header o in
      let ka = kind_in table.header u.object in
      let rows = table.rows in
      let e : u.object ≡ o → ka ≡ k = ap (kind_in table.header) in
      let l : on o v u ≡ true → code_allowed k u.code ≡ true = λ p. subst (λ (j : ℕ). code_allowed j u.code ≡ true) (e (on_eq o v u p).0) ac.code_allowed_lem in
      record {
        keeps = λ h. Keeping.arrive_inv k ka o v u accepted rows h e ac.code_allowed_lem (C.keeps h);
        survives = λ h. Survival.arrive_inv k o v u accepted (stable table) (stable (after_arrival table u last')) rows (rows_after ka u rows) F (law k o v h e)
            (value_arrives k ka o v u rows (add_of o v) (survivor_tagged k h) e (λ p. survivor_gets k o v u h (l p) p) (add_on o v u)) (C.survives h);
        stands = λ h. Standing.arrive_inv o v u accepted (stable table) (stable (after_arrival table u last')) rows (rows_after ka u rows) F
            (subst (λ (b : Bool). Arrived o v b (Standing.puts o v) u rows (rows_after ka u rows)) (concerns_touches k o v u (stander_no_register k h))
            (value_arrives k ka o v u rows (Standing.puts o v) (stander_tagged k h) e (λ p. stander_gets k o v u h (l p) p) (Standing.puts_on o v u))) (C.stands h);
      }
    where
      law : (k o v : ℕ) → Survivor k → (u.object ≡ o → kind_in table.header u.object ≡ k) → Survival.Law k o v u
      law k o v h e c n = cases (eqb u.object o)
          (λ q. survivor_law k o v u h (subst (λ (j : ℕ). code_allowed j u.code ≡ true) (e (eqb-true u.object o q)) ac.code_allowed_lem) c n)
          (λ q. clash (concerns k o v u) c (concerns_object k o v u (λ f. eqb-false u.object o q (sym f))))

-- a settling step, on the row of w
pub cell_steps : (table : Table) (accepted : List Operation) (a b : List Row) (w : Operation) → stable_by (low table) w ≡ true → (o v : ℕ) → Cell (kind_in table.header o) o v (stable table) accepted (a ++ (unsettled_row w ∷ b)) → Cell (kind_in table.header o) o v (stable table) accepted (step_at (kind_in table.header w.object) a w b)
unfolding stable stable_by
cell_steps table accepted a b w due o v C =
    let k = kind_in table.header o in
    let kk = kind_in table.header w.object in
    let same : on o v w ≡ true → kk ≡ k = λ p. ap (kind_in table.header) (on_eq o v w p).0 in
    record {
      keeps = λ h. Keeping.same_inv k o v accepted (a ++ (unsettled_row w ∷ b)) (step_at kk a w b) (Keeping.step_same k o v kk a b w accepted (C.keeps h)) (C.keeps h);
      survives = λ h. Survival.step_inv k o v w accepted (stable table) (λ u m. at_most_trans u.vector w.vector (low table) m due) (a ++ (unsettled_row w ∷ b)) (step_at kk a w b)
          (add_stepped k kk o v w a b (λ p. ap removes_stand (same p) ∙ survivor_stands_not k h)) (C.survives h);
      stands = λ h. Standing.step_inv o v w accepted (stable table) due (a ++ (unsettled_row w ∷ b)) (step_at kk a w b)
          (rem_stepped k kk o v w a b (λ p. ap removes_stand (same p) ∙ stander_stands k h)) (C.stands h);
    }

-- what a table has to do with the operations that it accepted
pub record Faithful (station : Station) : Type 0 where
  pub bound : (x : Operation) → Memᴰ x station.accepted → at_most x.vector station.table.clock ≡ true
  pub once : Once station.accepted
  pub heard : (s : ℕ) → (get_or station.table.clock s 0 ≡ 0) ⊎ ((x : Operation) × Memᴰ x station.accepted × (get_or x.vector s 0 ≡ get_or station.table.clock s 0))
  pub totals_right : (o : ℕ) → is_counter (kind_in station.table.header o) ≡ true → get_or station.table.totals o (pos 0) ≡ total_of o station.accepted
  pub cells : (o v : ℕ) → Cell (kind_in station.table.header o) o v (stable station.table) station.accepted station.table.rows

faithful_arrived : (station : Station) (u : Operation) (last' : List Vector) → is_table station.table ≡ true → Accepts station.table u last' → Faithful station → Faithful (arrived station u last')
unfolding after_arrival
faithful_arrived station u last' is ac G =
    let table = station.table in
    let F = facts table is in
    record {
      bound = on_cons (λ (x : Operation). at_most x.vector (raised table.clock u.sender) ≡ true) ac.under (λ x m. at_most_trans x.vector table.clock (raised table.clock u.sender) (G.bound x m) (at_most_raised table.clock u.sender));
      once = (unseen table station.accepted u last' G.bound ac, G.once);
      heard = λ s. cases (eqb s u.sender)
          (λ q. let e = eqb-true s u.sender q in inr (u, Memᴰ.head refl, rw e (ac.next ∙ sym (raised_at table.clock u.sender (let l = F.clock_length in let h = ac.sender_in in omega arith)))))
          (λ q. let same = get_or-set_other table.clock u.sender s (suc (get_or table.clock u.sender 0)) 0 (eqb-false s u.sender q) in
          ⊎_elim (λ z. inl (same ∙ z)) (λ x. inr (x.0, Memᴰ.tail x.1, x.2 ∙ sym same)) (G.heard s));
      totals_right = λ o h. totals_after_lem (kind_in table.header) u table.totals station.accepted o (let d = ac.declared in let l = F.totals_length in omega arith) ac.code_allowed_lem h (G.totals_right o h);
      cells = λ o v. cell_arrives table station.accepted u last' (fresh table station.accepted u last' G.bound ac) ac o v (G.cells o v);
    }

faithful_calmed : (station : Station) (limit : ℕ) → Faithful station → Faithful (calmed station limit)
unfolding rows_settled stable low
faithful_calmed station limit G =
    let table = station.table in
    record {
      bound = G.bound;
      once = G.once;
      heard = G.heard;
      totals_right = G.totals_right;
      cells = λ o v. steps_elim (λ (rows : List Row). Cell (kind_in table.header o) o v (stable table) station.accepted rows) (kind_in table.header) (low table) (λ a b w due C. cell_steps table station.accepted a b w due o v C) limit table.rows (G.cells o v);
    }

pub faithful_after : (event : Event) (station : Station) → is_table station.table ≡ true → Faithful station → Faithful (after event station)
faithful_after event station is G = event_elim Faithful event station is G (λ u last' ac. faithful_arrived station u last' is ac G) (λ limit. faithful_calmed station limit G)

pub faithful_opened : (header : Header) → Faithful (record { table = opened header; accepted = [] })
unfolding opened zeros total_of
faithful_opened header = record {
  bound = λ x m. elim m [ ];
  once = tt;
  heard = λ s. inl (none header.size s);
  totals_right = λ o _. nothing (length header.kinds) o;
  cells = λ o v. record { keeps = λ _. Keeping.empty_inv (kind_in header o) o v; survives = λ _. Survival.empty_inv (kind_in header o) o v (stable (opened header)); stands = λ _. Standing.empty_inv o v (stable (opened header)) };
}
  where
    nothing : (n o : ℕ) → get_or (replicate n (pos 0)) o (pos 0) ≡ pos 0
    nothing zero o = refl
    nothing (suc n) zero = refl
    nothing (suc n) (suc o) = nothing n o

    none : (n s : ℕ) → ◌≡◌ {A = ℕ} (get_or (replicate n 0) s 0) 0
    none zero s = refl
    none (suc n) zero = refl
    none (suc n) (suc s) = none n s

-- the answer at one value, in kinds 3 to 9
pub cell_answer : (k o v : ℕ) (st : Operation → Bool) (accepted : List Operation) (rows : List Row) → is_counter k ≡ false → Group k → Cell k o v st accepted rows → is_in_by_rows k o v rows ≡ is_in k o v accepted
unfolding is_in_by_rows is_in remove_rows_count removes_stand in_grow_set
cell_answer k o v st accepted rows h (counting c) C = clash (is_counter k) c h
cell_answer k o v st accepted rows h (keeping g) C = at_keeper (λ (j : ℕ). (Keeper j → Keeping.Inv j o v accepted rows) → is_in_by_rows j o v rows ≡ is_in j o v accepted)
    (λ I. and_true (any (λ (r : Row). add_of o v r.operation) rows) ∙ Keeping.answer3 o v accepted rows (I (inl refl)))
    (λ I. Keeping.answer 4 o v accepted rows (I (inr refl))) k g C.keeps
cell_answer k o v st accepted rows h (surviving g) C = at_survivor (λ (j : ℕ). (Survivor j → Survival.Inv j o v st accepted rows) → is_in_by_rows j o v rows ≡ is_in j o v accepted)
    (λ I. and_true (any (λ (r : Row). add_of o v r.operation) rows) ∙ Survival.answer 5 o v st accepted rows (I (inl refl)))
    (λ I. and_true (any (λ (r : Row). add_of o v r.operation) rows) ∙ Survival.answer 7 o v st accepted rows (I (inr (inl refl))))
    (λ I. and_true (any (λ (r : Row). add_of o v r.operation) rows) ∙ Survival.answer 8 o v st accepted rows (I (inr (inr refl)))) k g C.survives
cell_answer k o v st accepted rows h (standing g) C = at_stander (λ (j : ℕ). (Stander j → Standing.Inv o v st accepted rows) → is_in_by_rows j o v rows ≡ is_in j o v accepted)
    (λ I. Standing.answer o v st accepted rows (I (inl refl)))
    (λ I. Standing.answer o v st accepted rows (I (inr refl))) k g C.stands
