use Rattle.cvss_csv.proofs.SearchLemmas.{found_cells}
use Rattle.cvss_csv.proofs.answer.Answerer.push_cells.Goals as goal

pub returns-clause-cells : goal.returns-clause-cells
returns-clause-cells c =
    found_cells c.args.self.now.asked c.args.self.now.asked.allow_incomplete c.args.cut.now.unclosed c.args.is_header c.args.cells c.args.cut.now.body.now _ _ c.push_found.result
    c.clear.new.self c.search.new.notes c.if-cut.false c.if-is_header.false c.clear.ensures c.in_ok-search.ensures c.push_found.ensures.cells
