use Rattle.std.proofs.Common.{◌≡◌, ◌&&◌, not, [], true, false, ap, ap₂, refl, sym, append-nil, ◌∙◌}
use Rattle.cvss_report.specs.Gates.{is_failing, is_passed_over}
use Rattle.cvss_audit.specs.Findings.{finding_view, tenths_of}
use Rattle.cvss_audit.proofs.written.location.answer_location.Goals as goal

pub returns-then-passes_over : goal.returns-then-passes_over
returns-then-passes_over c =
    let over : is_passed_over c.args.input.gate (tenths_of c.rated-rated.result) ≡ true =
    ap (is_passed_over c.args.input.gate) (sym c.tenths_of-score.ensures) ∙ sym c.passes_over.ensures ∙ c.if-passes_over.true in
    record {
      found = record { texts = []; agrees = true };
      is_found = record {
        finding = finding_view c.in_ok-finding.finding;
        is_finding = c.in_ok-finding.ensures.is;
        rated = c.rated-rated.result;
        is_rated = c.rated-rated.ensures;
        are_texts = rw over refl;
        reported = rw over refl;
      };
      reported = refl;
      written = sym (append-nil c.args.answers.now.bytes.items);
    }

pub returns : goal.returns
returns c =
    let over : is_passed_over c.args.input.gate (tenths_of c.rated-rated.result) ≡ false =
    ap (is_passed_over c.args.input.gate) (sym c.tenths_of-score.ensures) ∙ sym c.passes_over.ensures ∙ c.if-passes_over.false in
    let written = c.in_ok-write_if_shown.ensures in
    record {
      found = record { texts = written.texts; agrees = c.is_passed.result };
      is_found = record {
        finding = finding_view c.in_ok-finding.finding;
        is_finding = c.in_ok-finding.ensures.is;
        rated = c.rated-rated.result;
        is_rated = c.rated-rated.ensures;
        are_texts = rw over written.are;
        reported = rw over (c.is_passed.ensures ∙ ap₂ (λ agreed score. agreed && not (is_failing c.args.input.gate score)) c.agrees-agrees.ensures c.tenths_of-score.ensures);
      };
      reported = refl;
      written = written.written;
    }
