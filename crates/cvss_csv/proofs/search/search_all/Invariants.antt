use Rattle.std.proofs.Common.{length}
use Rattle.cvss_csv.specs.Fields.{fields}
use Rattle.cvss_csv.specs.private.Cutting.{fields_left}
use Rattle.cvss_csv.specs.private.Searching.{HasFoundInAll}
use Rattle.cvss_csv.proofs.search.search_all.Given as goal

abbrev pub invariant-loop-field : goal.invariant-loop-field
invariant-loop-field g l = HasFoundInAll g.N.Notes.is_of (fields l.fn.body) (fields_left l.fields) l.fn.notes l.notes

abbrev pub decreases-loop-field : goal.decreases-loop-field
decreases-loop-field g l = length (fields_left l.fields)
