use Rattle.std.proofs.Common.{map}
use Rattle.std.proofs.lemmas.Result.{on_ok_weaker}
use Rattle.cvss_audit.specs.Differences.{difference_view}
use Rattle.cvss_audit.specs.Inputs.{input_view}
use Rattle.cvss_audit.specs.Locations.{location_view}
use Rattle.cvss_audit.proofs.WritingLemmas.{vector_written}
use Rattle.cvss_audit.proofs.written.lines.write_vector_lines.Goals as goal

pub returns : goal.returns
returns c =
    on_ok_weaker c.write_differences.result
    (vector_written (input_view c.args.input) (location_view c.args.location.now) c.args.cvss.now (map difference_view c.args.differences.now) _ _ _ c.in_ok-write_missing.ensures)
    c.write_differences.ensures
