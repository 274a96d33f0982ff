use Rattle.std.proofs.Common.{◌∙◌, ◌≤◌, ◌-◌, ap, arith, subst, sym, take}
use Rattle.std.proofs.lemmas.List.{length-take-le}
use Rattle.std.specs.Io.KnownBytes.{Consumes}
use Rattle.std.specs.Option.{option_map}
use Rattle.cvss_frame.specs.Marks.{seen}
use Rattle.cvss_frame.proofs.MarksLemmas.{begun_marked, moved, three}
use Rattle.cvss_frame.proofs.marks.begin.Goals as goal

pub returns-clause-bytes : goal.returns-clause-bytes
returns-clause-bytes g c before consumes =
    let count = c.args.count in
    let buf = c.args.buf.now in
    let head = take count buf in
    let marked = sym c.begins_utf8.ensures ∙ c.if-not-begins_utf8.false in
    let long : 3 ≤ count = omega (arith, three head marked, length-take-le count buf c.requires.room) in (
      subst (Consumes (option_map seen before) (g.R.Read.remaining c.args.reader.now)) (sym (ap (take (count - 3)) c.copy_within.ensures.after ∙ moved buf count long c.requires.room))
          (begun_marked head before (g.R.Read.remaining c.args.reader.now) consumes (sym c.begins_utf16.ensures ∙ c.if-begins_utf16.false) marked),
      λ none some. absurd (c.if-count-eq3.false (omega (arith, long, none))),
    )
