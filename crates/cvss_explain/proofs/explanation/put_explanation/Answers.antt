use Rattle.std.proofs.Common.{inl, inr}
use Rattle.cvss_explain.proofs.explanation.put_explanation.Goals as goal

pub returns-in-CvssV20 : goal.returns-in-CvssV20
returns-in-CvssV20 c = record {
  tenths = c.overall_tenths-tenths.result;
  scored = c.overall_tenths-tenths.ensures.value;
  explains = rw c.in-CvssV20.is (rw c.in-CvssV20.is at c.put_explanation.ensures);
}

pub returns-in-CvssV40 : goal.returns-in-CvssV40
returns-in-CvssV40 c = record {
  tenths = c.overall_tenths-tenths.result;
  scored = c.overall_tenths-tenths.ensures.value;
  explains = rw c.in-CvssV40.is (rw c.in-CvssV40.is at c.put_explanation-in-CvssV40.ensures);
}

pub returns-in-CvssV30 : goal.returns-in-CvssV30
returns-in-CvssV30 c = record {
  tenths = c.overall_tenths-tenths.result;
  scored = c.overall_tenths-tenths.ensures.value;
  explains = elim c.in-CvssV30.is [
    | inl is ↦ rw is (rw is at c.put_explanation-in-CvssV30.ensures)
    | inr is ↦ rw is (rw is at c.put_explanation-in-CvssV30.ensures)
  ];
}
