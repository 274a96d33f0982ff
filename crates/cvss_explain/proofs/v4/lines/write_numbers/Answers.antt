use Rattle.cvss_explain.proofs.v4.lines.write_numbers.Goals as goal

pub returns-in_default : goal.returns-in_default
returns-in_default c =
    rw c.in_default.is (rw (c.fraction.ensures, c.title_of.ensures, c.nomenclature.ensures) at c.write_rows.ensures)

pub returns : goal.returns
returns c =
    rw c.in-Some.is
    (rw (c.fraction.ensures, c.fraction-2.ensures, c.title_of.ensures, c.nomenclature.ensures) at c.write_rows-2.ensures)
