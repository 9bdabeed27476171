use Rattle.form_load.proofs.Loads.{takes_clock, takes_last, takes_nothing, takes_row, takes_total}
use Rattle.form_load.proofs.Nexts.{load_early, load_head, load_object, load_station}
use Rattle.form_load.proofs.take_bytes.Goals as goal

pub next_in-requires : goal.next_in-requires
next_in-requires c = search load_head

pub take_clock-requires : goal.take_clock-requires
take_clock-requires c = (search load_head, search load_early)

pub take_last-requires : goal.take_last-requires
take_last-requires c = (search load_head, search load_early, search load_station)

pub take_total-requires : goal.take_total-requires
take_total-requires c = (search load_head, search load_early, search load_object)

pub take_row_or_close-requires : goal.take_row_or_close-requires
take_row_or_close-requires c = search load_head

pub returns-in-Clock : goal.returns-in-Clock
returns-in-Clock c = search takes_clock

pub returns-in-Last : goal.returns-in-Last
returns-in-Last c = search takes_last

pub returns-in-Total : goal.returns-in-Total
returns-in-Total c = search takes_total

pub returns-in-Rows : goal.returns-in-Rows
returns-in-Rows c = search takes_row

pub returns-in-Nothing : goal.returns-in-Nothing
returns-in-Nothing c = search takes_nothing
