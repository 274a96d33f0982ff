use Rattle.std.proofs.Common.{refl, ◌∙◌}
use Rattle.std.proofs.Output.{writes_in_calls_append}
use Rattle.cvss_base.proofs.component.write_component.Goals as goal

pub returns-clause-styled : goal.returns-clause-styled
returns-clause-styled g c = λ flush ok.
    let took = g.W.Write.write_str_gives in
    let name = c.in_ok-write_str.ensures.styled flush refl in
    let colon = c.in_ok-write_str-2.ensures.styled name.flush refl in
    let spelling = c.write_str-3.ensures.styled colon.flush ok in
    record {
      wrote = writes_in_calls_append took _ _ _ _ _ name.wrote (writes_in_calls_append took _ _ _ _ _ colon.wrote spelling.wrote);
      spec = spelling.spec ∙ colon.spec ∙ name.spec;
      flush = spelling.flush;
    }
