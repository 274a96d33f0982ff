use Rattle.std.proofs.Common.{◌≡◌, ◌++◌, ◌||◌, false, arith, inl, subst, sym, take}
use Rattle.std.proofs.lemmas.Grind.{common_steps}
use Rattle.std.proofs.KnownBytes.{Consumes-trans}
use Rattle.std.specs.Io.KnownBytes.{Consumes}
use Rattle.cvss_audit.specs.Files.{HasFirstText}
use Rattle.cvss_audit.specs.private.Beginnings.{HasLineEnd, IsCut, IsOpen, has_bytes}
use Rattle.cvss_audit.proofs.BeginningLemmas.{IsOpen-more, first_text_ended}
use Rattle.cvss_audit.proofs.documents.files.read_beginning.Goals as goal

pub returns-then-has_line_end-clause-read : goal.returns-then-has_line_end-clause-read
returns-then-has_line_end-clause-read g c =
    let unread = g.R.Read.remaining c.args.reader.now in
    let unread' = g.R.Read.remaining c.loop.reader in
    let unread'' = g.R.Read.remaining c.read.new.self in
    let before = c.loop.beginning.items in
    let more = take c.in-Ok.count c.deref.result.now in
    let all : c.extend_from_slice.new.self.items ≡ before ++ more = c.in_ok-extend_from_slice.ensures.items in
    let whole : c.deref.result.now ≡ c.read.new.buf = grind (arith, common_steps) in
    let read : Consumes unread' unread'' more = subst (λ bytes. Consumes unread' unread'' (take c.in-Ok.count bytes)) (sym whole) c.in-Ok.ensures.bytes.0 in
    let cut = subst IsCut c.more_text-text.ensures (subst (HasLineEnd c.more_text-text.result.now) c.if-has_line_end.true c.has_line_end.ensures) in
    record {
      consumed = subst (Consumes unread unread'') (sym all) (Consumes-trans unread unread' unread'' before more c.loop.invariant.consumed read);
      decided = inl (subst HasFirstText (sym all) (first_text_ended before more c.loop.has_text c.loop.invariant.is_open cut));
    }

pub loop-preserved : goal.loop-preserved
loop-preserved g c =
    let unread = g.R.Read.remaining c.args.reader.now in
    let unread' = g.R.Read.remaining c.loop.reader in
    let unread'' = g.R.Read.remaining c.read.new.self in
    let before = c.loop.beginning.items in
    let more = take c.in-Ok.count c.deref.result.now in
    let all : c.extend_from_slice.new.self.items ≡ before ++ more = c.in_ok-extend_from_slice.ensures.items in
    let whole : c.deref.result.now ≡ c.read.new.buf = grind (arith, common_steps) in
    let read : Consumes unread' unread'' more = subst (λ bytes. Consumes unread' unread'' (take c.in-Ok.count bytes)) (sym whole) c.in-Ok.ensures.bytes.0 in
    let none = subst (HasLineEnd c.more_text-text.result.now) c.if-has_line_end.false c.has_line_end.ensures in
    let opened = subst (λ text. HasLineEnd text false → IsOpen (before ++ more) (c.loop.has_text || has_bytes text)) (sym c.more_text-text.ensures)
    (IsOpen-more before more c.loop.has_text c.loop.invariant.is_open) in
    record {
      room = c.loop.invariant.room;
      is_open = subst (IsOpen c.extend_from_slice.new.self.items) (sym c.is_begun-has_text.ensures)
          (subst (λ bytes. IsOpen bytes (c.loop.has_text || has_bytes c.more_text-text.result.now)) (sym all) (opened none));
      consumed = subst (Consumes unread unread'') (sym all) (Consumes-trans unread unread' unread'' before more c.loop.invariant.consumed read);
    }
