use Rattle.std.proofs.Common.{◌∙◌, ap, chars, flat_map, sym, subst}
use Rattle.cvss_json.specs.Sinks.{Adds}
use Rattle.cvss_frame.proofs.NamesLemmas.{shown_otherwise, shown_utf8}
use Rattle.cvss_frame.specs.Names.{shown_char}
use Rattle.cvss_frame.proofs.names.put_escapes.Goals as goal

pub returns-in-Ok : goal.returns-in-Ok
returns-in-Ok g c =
    subst (λ text. Adds g.S.Sink.Holds text c.args.sink.now c.put_chars.new.sink)
    (ap (λ text. flat_map shown_char (chars text)) c.in-Ok.ensures.cases.0 ∙ sym (shown_utf8 c.args.name.now c.in-Ok.ensures.cases.1))
    c.put_chars.ensures

pub returns-in-Err : goal.returns-in-Err
returns-in-Err g c =
    subst (λ text. Adds g.S.Sink.Holds text c.args.sink.now c.put_bytes.new.sink)
    (sym (shown_otherwise c.args.name.now c.in-Err.ensures.cases.0))
    c.put_bytes.ensures
