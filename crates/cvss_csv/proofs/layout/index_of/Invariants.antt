use Rattle.std.proofs.Common.{◌≡◌, ◌+◌, ◌≤◌, length}
use Rattle.cvss_csv.specs.Layouts.{index_of}
use Rattle.cvss_csv.specs.Fields.{fields}
use Rattle.cvss_csv.specs.private.Cutting.{fields_left}
use Rattle.cvss_csv.proofs.LayoutLemmas.{index_after}
use Rattle.cvss_csv.proofs.layout.index_of.Given as goal

abbrev pub invariant-loop-field : goal.invariant-loop-field
invariant-loop-field l = record {
  counted : l.at + length (fields_left l.fields) ≤ length (fields l.fn.body);
  index : index_after l.at l.fn.name (fields_left l.fields) ≡ index_of l.fn.name (fields l.fn.body);
}

abbrev pub decreases-loop-field : goal.decreases-loop-field
decreases-loop-field l = length (fields_left l.fields)
