use Rattle.std.proofs.Common.{◌∙◌, sym}
use Rattle.cvss_frame.proofs.NamesLemmas.{escaped_alone}
use Rattle.cvss_frame.specs.Names.{shown_char}
use Rattle.cvss_frame.proofs.names.put_char.Goals as goal

pub returns-then-is_hidden : goal.returns-then-is_hidden
unfolding shown_char
returns-then-is_hidden g c =
    rw (sym c.is_hidden.ensures ∙ c.if-is_hidden.true, sym (escaped_alone c.args.character c.ranges.character.0), sym c.encode_utf8-text.ensures.value)
    c.put_escaped.ensures
