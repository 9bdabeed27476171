-- Demand 3: "From a fresh table, whatever was accepted, in whatever allowed order, with whatever settling between: every answer equals the
-- definitions over all accepted operations, though most are thrown away."
use mathlib.Core.Path.{◌≡◌, refl, ◌∙◌, ap}
use mathlib.Core.Bool.{true, false}
use mathlib.Core.List.{List, [], ◌∷◌}
use Prim.Native.Nat.{ℕ, ◌<◌}
use lib.ListN.{length}
use Rattle.meaning.specs.Operations.{is_counter}
use Rattle.meaning.specs.Meaning.{is_in, count_of}
use Rattle.meaning.specs.Rows.{is_in_by_rows, count_by_rows}
use Rattle.meaning.specs.Table.{Header, Table, kind_in, stable, in_range, is_table, opened}
use Rattle.meaning.specs.Questions.{Asked, by_rows, by_definition}
use Rattle.meaning.specs.Calls.{Opening, after_arrival, ask, meant, open_table}
use Rattle.meaning.specs.History.{Event, Station, after, after_all, reached}
use Rattle.meaning.proofs.KindGroups.{group}
use Rattle.meaning.proofs.TableFacts.{facts}
use Rattle.meaning.proofs.Arriving.{event_elim}
use Rattle.meaning.proofs.Lists.{list_is}
use Rattle.meaning.proofs.Asking.{Alike, replies_alike}
use Rattle.meaning.proofs.Histories.{Faithful, faithful_after, faithful_opened, cell_answer}
use Rattle.meaning.proofs.TableRules.{kept, opened_is_table, opens}

-- A table by the rules that is faithful to what it accepted
pub record Sound (header : Header) (station : Station) : Type 0 where
  pub same_header : station.table.header ≡ header
  pub is_table_lem : is_table station.table ≡ true
  pub is_faithful : Faithful station

header_after : (event : Event) (station : Station) → is_table station.table ≡ true → (after event station).table.header ≡ station.table.header
unfolding after_arrival
header_after event station is = event_elim (λ (next : Station). next.table.header ≡ station.table.header) event station is refl (λ u last' ac. refl) (λ limit. refl)

sound_all : (header : Header) (events : List Event) (station : Station) → Sound header station → Sound header (after_all events station)
unfolding after_all
sound_all header [] station S = S
sound_all header (event ∷ events) station S = sound_all header events (after event station) (record {
  same_header = header_after event station S.is_table_lem ∙ S.same_header;
  is_table_lem = kept event station S.is_table_lem;
  is_faithful = faithful_after event station S.is_table_lem S.is_faithful;
})

-- "From a fresh table, whatever was accepted": every station that an opening in range leads to is sound.
pub reached_sound : (header : Header) (events : List Event) → in_range header ≡ true → Sound header (reached header events)
unfolding reached opened
reached_sound header events r = sound_all header events (record { table = opened header; accepted = [] }) (record { same_header = refl; is_table_lem = opened_is_table header r; is_faithful = faithful_opened header })

-- in a sound table the rows answer as the definitions do
alike : (station : Station) → is_table station.table ≡ true → Faithful station → (o : ℕ) → o < length station.table.header.kinds →
    Alike (kind_in station.table.header o) (by_rows station.table) (by_definition station.table.header station.accepted) o
unfolding by_rows by_definition count_by_rows count_of
alike station is G o d =
    let k = kind_in station.table.header o in
    let range = (facts station.table is).kind_range o d in
    let ins : is_counter k ≡ false → (v : ℕ) → is_in_by_rows k o v station.table.rows ≡ is_in k o v station.accepted =
    λ n v. cell_answer k o v (stable station.table) station.accepted station.table.rows n (group k range.0 range.1) (G.cells o v) in
    record {
      totals = λ c. G.totals_right o c;
      ins = ins;
      lists = λ n. list_is k o station.table.rows station.accepted (ins n);
      counts = λ n. ap length (list_is k o station.table.rows station.accepted (ins n));
    }

-- "every answer equals the definitions over all accepted operations": for any opening in range (which is what an accepted opening gives, by
-- `TableRules.opens`), any events, some of them refused, and any question, with any list space.
pub every_answer : (header : Header) (events : List Event) → in_range header ≡ true → (room : ℕ) (asked : Asked) →
    ask (reached header events).table room asked ≡ meant header (reached header events).accepted room asked
unfolding ask meant
every_answer header events r room asked =
    let station = reached header events in
    let S = reached_sound header events r in
    replies_alike station.table.header (by_rows station.table) (by_definition station.table.header station.accepted) room asked (alike station S.is_table_lem S.is_faithful asked.object)
    ∙ ap (λ (h : Header). meant h station.accepted room asked) S.same_header

-- "From a fresh table": the same of the table that an accepted opening gives.
pub from_opening_lem : (space needed : ℕ) (header : Header) (table : Table) → open_table space needed header ≡ Opening.fresh table → (events : List Event) (room : ℕ) (asked : Asked) →
    let station = after_all events (record { table = table; accepted = [] }) in ask station.table room asked ≡ meant header station.accepted room asked
unfolding reached
from_opening_lem space needed header table e events room asked =
    let opening = opens space needed header in
    rw (opening.is_opened table e) (every_answer header events (opening.when_fresh table e).0 room asked)
