use Rattle.std.proofs.Common.{inl, inr}
use Rattle.cvss_explain.proofs.what_if.write_table.Goals as goal

pub returns-in-CvssV20 : goal.returns-in-CvssV20
returns-in-CvssV20 c = rw c.in-CvssV20.is (rw c.in-CvssV20.is at c.write_lines.ensures)

pub returns-in-CvssV30 : goal.returns-in-CvssV30
returns-in-CvssV30 c = elim c.in-CvssV30.is [
  | inl is ↦ rw is (rw is at c.write_lines-in-CvssV30.ensures)
  | inr is ↦ rw is (rw is at c.write_lines-in-CvssV30.ensures)
]

pub returns-in-CvssV40 : goal.returns-in-CvssV40
returns-in-CvssV40 c = rw c.in-CvssV40.is (rw c.in-CvssV40.is at c.write_lines-in-CvssV40.ensures)
