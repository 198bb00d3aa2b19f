use Rattle.laws_prompt.proofs.CellLemmas.{rows_answer_line, answers_show_lines, cells_by_division, shown_lines_are_plain}
use Rattle.laws_prompt.proofs.LineRunLemmas.{last_row_by_division}
use Rattle.laws_prompt.proofs.MeasuredRowLemmas.{measured_rows_are_rows, plain_rows_are_measured}
use Rattle.laws_prompt.proofs.row_cells.Goals as goal

pub returns-clause-measured : goal.returns-clause-measured
returns-clause-measured g c pen = measured_rows_are_rows pen

pub returns-clause-plain : goal.returns-clause-plain
returns-clause-plain g c = plain_rows_are_measured

pub returns-clause-answers : goal.returns-clause-answers
returns-clause-answers g c = answers_show_lines

pub returns-clause-shown : goal.returns-clause-shown
returns-clause-shown g c pen = shown_lines_are_plain pen

pub returns-clause-cells : goal.returns-clause-cells
returns-clause-cells g c = cells_by_division

pub returns-clause-last : goal.returns-clause-last
returns-clause-last g c = last_row_by_division

pub returns-clause-rows : goal.returns-clause-rows
returns-clause-rows g c = rows_answer_line
