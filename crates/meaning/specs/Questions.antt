-- The five questions, and their answers from rows and from the definitions.
use Rattle.std.specs.Prelude.{Bool, not, ◌||◌, cond, List, ℕ, eqb, ℤ, pos, get_or}
use Rattle.meaning.specs.Operations.{Operation, is_counter, is_flag}
use Rattle.meaning.specs.Meaning.{is_in, total_of, list_of, count_of}
use Rattle.meaning.specs.Rows.{is_in_by_rows, list_by_rows, count_by_rows}
use Rattle.meaning.specs.Table.{Header, Table, kind_in}

-- "1 total, 2 flag, 3 list, 4 count of different values, 5 holds this value"
abbrev pub asks_total : ℕ
asks_total = 1

abbrev pub asks_flag : ℕ
asks_flag = 2

abbrev pub asks_list : ℕ
asks_list = 3

abbrev pub asks_count : ℕ
asks_count = 4

abbrev pub asks_holds : ℕ
asks_holds = 5

-- "object, question, value"
pub record Asked : Type 0 where
  pub object : ℕ
  pub question : ℕ
  pub value : ℕ

-- "Question 1 fits kinds 1, 2; question 2 fits 5, 6; the others fit 3, 4, 7, 8, 9."
unfoldable pub fits : ℕ → ℕ → Bool
fits question kind =
    cond (eqb question asks_total) (is_counter kind)
    (cond (eqb question asks_flag) (is_flag kind) (not (is_counter kind || is_flag kind)))

-- What a question gets.
pub data Answer : Type 0 where
  total : ℤ → Answer
  flag : Bool → Answer
  list : List ℕ → Answer
  count : ℕ → Answer
  holds : Bool → Answer

-- One who answers about an object o: by rows, or by the definitions.
pub record Source : Type 0 where
  pub total_at : ℕ → ℤ
  pub in_at : ℕ → ℕ → Bool
  pub list_at : ℕ → List ℕ
  pub count_at : ℕ → ℕ

-- "An answer from rows, in any table": one who answers by a table's totals and rows.
unfoldable pub by_rows : Table → Source
by_rows table = record {
  total_at = λ o. get_or table.totals o (pos 0);
  in_at = λ o v. is_in_by_rows (kind_in table.header o) o v table.rows;
  list_at = λ o. list_by_rows (kind_in table.header o) o table.rows;
  count_at = λ o. count_by_rows (kind_in table.header o) o table.rows;
}

-- "Definition over the accepted operations": one who answers by the nine definitions.
unfoldable pub by_definition : Header → List Operation → Source
by_definition header accepted = record {
  total_at = λ o. total_of o accepted;
  in_at = λ o v. is_in (kind_in header o) o v accepted;
  list_at = λ o. list_of (kind_in header o) o accepted;
  count_at = λ o. count_of (kind_in header o) o accepted;
}

-- "1 total, 2 flag, 3 list, 4 count of different values, 5 holds this value": what each question gets; a flag is on when 0 is in.
unfoldable pub answer_from : Source → Asked → Answer
answer_from source asked =
    let o = asked.object in
    cond (eqb asked.question asks_total) (total (source.total_at o))
    (cond (eqb asked.question asks_flag) (flag (source.in_at o 0))
    (cond (eqb asked.question asks_list) (list (source.list_at o))
    (cond (eqb asked.question asks_count) (count (source.count_at o)) (holds (source.in_at o asked.value)))))
