use Rattle.std.proofs.Common.{◌≡◌, ◌∙◌, chars, map-id, sym}
use Rattle.std.proofs.lemmas.Iterator.{YieldsList-from_chars}
use Rattle.std.proofs.lemmas.Iterator.Consumers.{YieldsList-end}
use Rattle.cvss_json.proofs.AddsLemmas.{nothing}
use Rattle.cvss_frame.proofs.names.put_chars.Goals as goal

pub loop-character-init : goal.loop-character-init
loop-character-init g c = nothing

pub returns : goal.returns
returns g c =
    let end = YieldsList-end (YieldsList-from_chars c.args.text.now c.utf8.text cc) c.loop-character.yielded _ c.loop-character.yielded_by _ _ c.in-None.is c.next.ensures.steps in
    let all : c.loop-character.yielded ≡ chars c.args.text.now = sym (map-id c.loop-character.yielded) ∙ end.0 in
    rw all at c.loop-character.invariant
