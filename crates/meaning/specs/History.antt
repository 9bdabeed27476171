-- Histories: what may happen to a table after its opening, and the operations that it accepts.
use Rattle.std.specs.Prelude.{List, [], ◌∷◌, ℕ}
use Rattle.meaning.specs.Operations.{Operation}
use Rattle.meaning.specs.Table.{Header, Table, opened}
use Rattle.meaning.specs.Refusals.{Frame, Local}
use Rattle.meaning.specs.Calls.{Outcome, Settled, receive, issue, settle}

-- Any call that may change a table, with anything in it: some will be refused.
pub data Event : Type 0 where
  receives : Frame → Event
  issues : Local → Event
  settles : ℕ → Event

-- A table and all the operations that it has accepted since its opening, the latest first.
pub record Station : Type 0 where
  pub table : Table
  pub accepted : List Operation

-- "a refusal changes no byte": a station after a frame or a local operation.
unfoldable pub after_outcome : Station → Outcome → Station
after_outcome station (Outcome.refused number) = station
after_outcome station (Outcome.accepted u table) = record { table = table; accepted = u ∷ station.accepted }

-- A settling call accepts no operation: a station after it.
unfoldable pub after_settling : Station → Settled → Station
after_settling station (Settled.refused number) = station
after_settling station (Settled.settled steps table) = record { table = table; accepted = station.accepted }

-- "whatever was accepted, in whatever allowed order, with whatever settling between": a station after one call.
unfoldable pub after : Event → Station → Station
after (receives frame) station = after_outcome station (receive station.table frame)
after (issues local) station = after_outcome station (issue station.table local)
after (settles limit) station = after_settling station (settle station.table limit)

-- The events one after the other, the first first.
unfoldable pub after_all : List Event → Station → Station
after_all [] station = station
after_all (event ∷ events) station = after_all events (after event station)

-- A station from its opening, after these events; an opening that is accepted gives the opened table (`TableRules.opens`).
unfoldable pub reached : Header → List Event → Station
reached header events = after_all events (record { table = opened header; accepted = [] })
