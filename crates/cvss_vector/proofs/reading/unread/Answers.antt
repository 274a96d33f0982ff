use Rattle.cvss_text.specs.Route.{ToNoVersion}
use Rattle.cvss_text.specs.private.Routing.{why_of}
use Rattle.cvss_vector.proofs.ReadLemmas.{read_err, reason_at}
use Rattle.cvss_vector.proofs.reading.unread.Goals as goal

pub returns : goal.returns
returns c =
    read_err c.args.text.now c.without_version.result (reason_at c.args.text.now (ToNoVersion (why_of c.args.why)) c.requires.route _ c.without_version.ensures.reason)
    (λ utf8. c.without_version.ensures.reportable (c.requires.printable utf8))
