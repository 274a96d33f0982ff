use Rattle.cvss_explain.proofs.v4.put_explanation.Goals as goal

pub returns : goal.returns
returns c = record {
  explanation = c.explanation-explanation.result;
  is_explanation = c.explanation-explanation.ensures.explanation;
  is = rw (c.requires.empty, c.fraction-mean.ensures, c.fraction-number.ensures, c.as_str-nomenclature.ensures.text, c.nomenclature.ensures)
      at c.put_object.ensures.text;
}
