use Rattle.std.proofs.Common.{[], ◌∷◌, ◌++◌, codes, inl, refl}
use Rattle.cvss_lines.proofs.TextsLemmas.{one_text}
use Rattle.cvss_lines.specs.Answers.{Rejected}
use Rattle.cvss_lists.specs.Departures.{departure_text}
use Rattle.cvss_lists.proofs.strict.StrictAnswering.answer_line.Goals as goal

pub returns-in_ok-write_departure-in-Some : goal.returns-in_ok-write_departure-in-Some
returns-in_ok-write_departure-in-Some g c =
    let departure = c.in-Some.departure in
    record {
      answer = Rejected ((codes "error: " ++ departure_text departure) ∷ []);
      answers = inl (record { departure = departure; departs = c.in-Some.ensures; is = refl });
      reported = refl;
      written = one_text c.args.answers.now.bytes.items (codes "error: " ++ departure_text departure) _ c.in_ok-write_departure-in-Some.ensures;
    }
