-- What the private code writes of an answer. No public clause cites it.
use Rattle.std.specs.Prelude.{◌≡◌, ℕ, Bool, List, ◌++◌, Option, Some, map}
use Rattle.cvss_lines.specs.declared.summary.Summary.{Summary}
use Rattle.cvss_csv.specs.Answers.{Answered, HasRows, IsOneAnswer, counted_once}
use Rattle.cvss_csv.specs.Rows.{AreRows, IsRow, WrittenRow, later_rows, rows_text}
use Rattle.cvss_csv.specs.declared.asked.Asked.{Asked}
use Rattle.cvss_csv.specs.declared.asked.Cells.{Cells}
use Rattle.cvss_csv.specs.private.Counting.{Counts, CountsAll}

-- the one answer to a record is written after what was, and how it is counted is returned
pub record WritesAnswer (asked : Asked) (cells : Cells) (is_header : Bool) (body line_end old new : List ℕ) (counted : Option Bool) : Type 0 where
  pub answered : Answered
  pub is_answer : IsOneAnswer asked cells is_header body line_end answered
  pub written : new ≡ old ++ answered.bytes
  pub counts : answered.counted ≡ counted_once counted

-- the row of a text is written and counted
pub record WritesRow (asked : Asked) (body line_end text old new : List ℕ) (before after : Summary) : Type 0 where
  pub row : WrittenRow
  pub is_row : IsRow asked body line_end text row
  pub written : new ≡ old ++ row.bytes
  pub counts : Counts before (Some row.accepted) after

-- those of some texts are, after another row
pub record WritesLater (asked : Asked) (body line_end : List ℕ) (texts : List (List ℕ)) (old new : List ℕ) (before after : Summary)
    : Type 0 where
  pub rows : List WrittenRow
  pub are_rows : AreRows asked body line_end texts rows
  pub written : new ≡ old ++ later_rows line_end rows
  pub counts : CountsAll before (map (λ row. row.accepted) rows) after

-- all those of some texts
pub record WritesRows (asked : Asked) (body line_end : List ℕ) (texts : List (List ℕ)) (old new : List ℕ) (before after : Summary)
    : Type 0 where
  pub rows : List WrittenRow
  pub are_rows : AreRows asked body line_end texts rows
  pub written : new ≡ old ++ rows_text line_end rows
  pub counts : CountsAll before (map (λ row. row.accepted) rows) after

-- the rows of a record
pub record WritesFound (asked : Asked) (cells : Cells) (body line_end old new : List ℕ) (before after : Summary) : Type 0 where
  pub answered : Answered
  pub has_rows : HasRows asked cells body line_end answered
  pub written : new ≡ old ++ answered.bytes
  pub counts : CountsAll before answered.counted after
