use Rattle.std.proofs.Common.{refl}
use Rattle.std.proofs.lemmas.Result.{on_ok_weaker}
use Rattle.cvss_explain.proofs.PartLemmas.{three_parts}
use Rattle.cvss_explain.proofs.v4.lines.write_lines.Goals as goal

pub returns : goal.returns
returns c =
    on_ok_weaker c.write_parts.result
    (λ parts. record {
      text = _;
      holds = record {
        explanation = c.explanation-explanation.result;
        is_explanation = c.explanation-explanation.ensures.explanation;
        parts = parts.text;
        are_parts = parts.holds;
        is = refl;
      };
      written = three_parts _ _ _ _ _ _ _ c.in_ok-write_metrics.ensures c.in_ok-write_numbers.ensures parts.written;
    })
    c.write_parts.ensures
