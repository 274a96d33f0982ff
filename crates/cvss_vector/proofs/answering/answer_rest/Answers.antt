use Rattle.std.proofs.Common.{inl, inr, sym, ◌∙◌}
use Rattle.cvss_vector.proofs.ReadLemmas.{IsPublishedBy-read}
use Rattle.cvss_vector.proofs.answering.answer_rest.Goals as goal

pub reject-requires : goal.reject-requires
reject-requires g c = inl (c.reads_by_its_rules.ensures.read.rejected c.in-Err.fault c.read_text.new.vector _ c.in-Err.ensures c.of_version.ensures).rejected

pub reject-requires-in-Some : goal.reject-requires-in-Some
reject-requires-in-Some g c =
    let read = c.reads_by_its_rules.ensures.read.accepted c.in_default.field-0 c.read_text.new.vector c.in_default.ensures in
    inr (λ error is. record { cvss = _; denoted = read.denoted; utf8 = read.utf8; metric = c.in-Some.metric; missing = rw c.join.ensures at (sym c.missing_by.ensures ∙ c.in-Some.is); is = is })

pub published-requires : goal.published-requires
published-requires g c = record { scored = rw c.join-2.ensures (c.reads_by_its_rules.ensures.read.accepted c.in_default.field-0 c.read_text.new.vector c.in_default.ensures).scored }

pub returns : goal.returns
returns g c =
    let rules = c.reads_by_its_rules.ensures in
    let vector = c.read_text.new.vector in
    let is = IsPublishedBy-read c.args.allow_incomplete (rules.read.accepted c.in_default.field-0 vector c.in_default.ensures)
    (c.canonical-canonical.ensures ∙ sym (rules.text vector)) (rw c.join-2.ensures at c.published.ensures) (rw c.join.ensures at (sym c.missing_by.ensures ∙ c.in_default-missing_by.is)) in
    (c.canonical-canonical.result.now, c.published.result, is, c.in_ok-write_canonical.ensures)

pub returns-in-Some : goal.returns-in-Some
returns-in-Some g c = c.reject-in-Some.ensures c.args.scoring
