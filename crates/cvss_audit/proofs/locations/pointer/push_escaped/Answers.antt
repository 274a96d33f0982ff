use Rattle.std.proofs.Common.{◌++◌, flat_map, string_bytes, sym, ap, ◌∙◌}
use Rattle.std.proofs.lemmas.Iterator.{YieldsList-from_chars}
use Rattle.std.proofs.lemmas.Iterator.Consumers.{YieldsList-end}
use Rattle.std.proofs.lemmas.List.{flat_map_more, map-id}
use Rattle.cvss_audit.specs.Locations.{escaped_char}
use Rattle.cvss_audit.proofs.locations.pointer.push_escaped.Goals as goal

pub loop-char-preserved : goal.loop-char-preserved
loop-char-preserved c =
    c.in_ok-push_char.ensures ∙ ap (λ before. before ++ escaped_char c.in-Some.char) c.loop-char.invariant
    ∙ flat_map_more escaped_char (string_bytes c.args.text.now) c.loop-char.yielded c.in-Some.char

pub returns : goal.returns
returns c =
    let all = YieldsList-end (YieldsList-from_chars c.args.name.now c.utf8.name cc) c.loop-char.yielded _ c.loop-char.yielded_by _ _ c.in-None.is c.next.ensures.steps in
    c.loop-char.invariant
    ∙ ap (λ chars. string_bytes c.args.text.now ++ flat_map escaped_char chars) (sym (map-id c.loop-char.yielded) ∙ all.0)
