use Rattle.std.proofs.lemmas.Result.{IfOk-weaker}
use Rattle.cvss_csv.proofs.TallyLemmas.{denote_if}
use Rattle.cvss_csv.proofs.tally.denote_one_vector.Goals as goal

pub returns : goal.returns
returns c =
    IfOk-weaker c.have_one_text.result _ _
    (λ same iff. denote_if c.args.one.now c.args.other.now c.in-Some.first c.in-Some-read_bytes.second same c.in-Some.ensures.denoted c.in-Some-read_bytes.ensures.denoted
    c.in-Some.ensures.accepts c.in-Some-read_bytes.ensures.accepts iff)
    c.have_one_text.ensures
