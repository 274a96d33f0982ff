use Rattle.std.proofs.Common.{◌≡◌, ℕ, ◌+◌, ◌-◌, ◌<◌, ◌≤◌, List, [], ◌∷◌, ◌++◌, length, drop, refl, sym, ap, ap₂, ◌∙◌, append_assoc, append-nil, arith, length-append, length-drop, inr, subst}
use Rattle.std.proofs.Math.Seq.{drop-append_seam, take-append_seam}
use Rattle.std.proofs.lemmas.Bool.{le-leb, lt-leb}
use Rattle.std.proofs.lemmas.List.{drop-drop, drop_all, flat_map_more, take_all}
use Rattle.std.proofs.lemmas.List.Elements.{All-nil, All-push}
use borrow.Rule.Slice.PartMut.{mid_of, put_mid}
use Rattle.cvss_ffi.specs.Buffer.{HasPut, IsWritten}
use Rattle.cvss_ffi.specs.ScoreLines.{HasWritten, IsLineOf, IsScoreLine, ended}
use Rattle.cvss_ffi.proofs.score_lines.score_lines.Goals as goal

-- a text that is written into the rest of a buffer, which is as long as this
module _ (old first buffer text part : List ℕ) (offset reported : ℕ) (put : HasPut old first buffer offset) (written : IsWritten text (mid_of offset (length buffer - offset) buffer) part reported) where
  abbrev size : ℕ
  size = length buffer - offset

  after : drop offset buffer ≡ drop (length first) old
  after = rw (put.begins, put.offset_is) (drop-append_seam first (drop (length first) old))

  rest_is : mid_of offset size buffer ≡ drop (length first) old
  rest_is = take_all size (drop offset buffer) (omega (arith, length-drop offset buffer)) ∙ after

  whole : put_mid offset size buffer part ≡ first ++ part
  whole = ap₂ (λ front back. front ++ (part ++ back)) (rw (put.begins, put.offset_is) (take-append_seam first (drop (length first) old))) (drop_all size (drop offset buffer) (omega (arith, length-drop offset buffer)))
      ∙ ap (λ back. first ++ back) (append-nil part)

  room : length (drop (length first) old) ≡ size
  room = ap length (sym after) ∙ length-drop offset buffer

  part_left : size < reported → put_mid offset size buffer part ≡ buffer
  part_left large = whole ∙ ap (λ back. first ++ back) (rw (rest_is, lt-leb (length text) (length (drop (length first) old)) (omega (arith, large, room, written.reported_is))) at written.now_is) ∙ sym put.begins

  part_put : reported ≤ size → HasPut old (first ++ text) (put_mid offset size buffer part) (offset + reported)
  part_put fits = record {
    begins = whole
        ∙ ap (λ back. first ++ back) (rw (rest_is, le-leb (length text) (length (drop (length first) old)) (omega (arith, fits, room, written.reported_is))) at written.now_is)
        ∙ sym (append_assoc first text _)
        ∙ ap (λ back. (first ++ text) ++ back) (drop-drop (length text) (length first) old ∙ ap (λ n. drop n old) (sym (length-append first text)));
    offset_is = omega (arith, put.offset_is, written.reported_is, length-append first text);
  }

pub loop-line-init : goal.loop-line-init
loop-line-init c = record {
  given = [];
  texts_are = refl;
  lines = [];
  are = record { pairs = []; each = All-nil _; given_are = refl; lines_are = refl };
  put = record { begins = refl; offset_is = refl };
}

pub loop-line-preserved : goal.loop-line-preserved
loop-line-preserved c =
    let cut = c.in-Some.ensures in
    let one = c.write_line-length.ensures in
    let done = c.loop-line.invariant in
    let before = done.are in
    let line = c.in-Some.line.now in
    let after = c.in-Some.after.now in
    record {
      given = done.given ++ ended line;
      texts_are = done.texts_are ∙ ap (λ r. done.given ++ r) (cut.1 ∙ sym (append_assoc line (10 ∷ []) after)) ∙ sym (append_assoc done.given (ended line) after);
      lines = done.lines ++ ended one.0;
      are = record {
        pairs = before.pairs ++ (line, one.0) ∷ [];
        each = All-push (λ pair. IsLineOf c.args.flags pair.0 pair.1) before.pairs (line, one.0) before.each (record { one_line = cut.0; is = subst (λ text. IsScoreLine c.args.flags text one.0) c.line_text.ensures one.1 });
        given_are = ap (λ l. l ++ ended line) before.given_are ∙ flat_map_more (λ pair. ended pair.0) [] before.pairs (line, one.0);
        lines_are = ap (λ l. l ++ ended one.0) before.lines_are ∙ flat_map_more (λ pair. ended pair.1) [] before.pairs (line, one.0);
      };
      put = part_put c.args.buffer.now done.lines c.loop-line.buffer (ended one.0) _ c.loop-line.written c.write_line-length.result done.put one.2 (omega arith);
    }

pub returns-then-length-buffer : goal.returns-then-length-buffer
returns-then-length-buffer c =
    let cut = c.in-Some.ensures in
    let one = c.write_line-length.ensures in
    let done = c.loop-line.invariant in
    let texts = c.args.texts.now in
    let rest = c.loop-line.rest.now in
    let left = part_left c.args.buffer.now done.lines c.loop-line.buffer (ended one.0) _ c.loop-line.written c.write_line-length.result done.put one.2 (omega arith) in
    record {
      rest = rest;
      done = subst (λ now. HasWritten c.args.flags texts rest c.args.buffer.now now c.loop-line.written) (sym left) done;
      read_is = omega (arith, ap length done.texts_are, length-append done.given rest);
      last = inr (record {
        next = c.in-Some.line.now;
        after = c.in-Some.after.now;
        texts_are = cut.1;
        line = one.0;
        is = record { one_line = cut.0; is = subst (λ text. IsScoreLine c.args.flags text one.0) c.line_text.ensures one.1 };
        large = omega (arith, one.2.reported_is, c.loop-line.auto.buffer);
      });
    }
