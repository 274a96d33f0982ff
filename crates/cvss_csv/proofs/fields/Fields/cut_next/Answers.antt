use Rattle.std.proofs.Common.{ap, ◌∙◌}
use Rattle.cvss_csv.specs.Fields.{comma}
use Rattle.cvss_csv.specs.declared.state.State.TheVariants.{Start}
use Rattle.cvss_csv.specs.private.Cutting.{fields_of_rest}
use Rattle.cvss_csv.proofs.CuttingLemmas.{cut_first_piece, cut_whole}
use Rattle.cvss_csv.proofs.fields.Fields.cut_next.Goals as goal

pub returns-in-Ok : goal.returns-in-Ok
returns-in-Ok c = ap fields_of_rest c.in_ok-rest.was ∙ cut_first_piece comma Start c.in_ok-rest.rest.now c.in-Ok.field.now c.in-Ok.following.now c.in-Ok.ensures

pub returns-in-Err : goal.returns-in-Err
returns-in-Err c = ap fields_of_rest c.in_ok-rest.was ∙ cut_whole comma Start _ c.in_ok-rest.rest.now c.in-Err.ensures
