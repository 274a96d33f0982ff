use Rattle.std.proofs.Common.{[], ◌∷◌, ◌++◌, ap, subst, sym, ◌∙◌, All}
use Rattle.std.proofs.lemmas.Bool.{iff_false}
use Rattle.std.proofs.lemmas.List.Elements.{All-push}
use Rattle.cvss_csv.specs.Rows.{AreDifferent, HasEqual}
use Rattle.cvss_csv.specs.Tallies.{IsCanonicalOf, IsRead, kept_in}
use Rattle.cvss_csv.specs.declared.different.Kept.{Kept}
use Rattle.cvss_csv.proofs.DifferentLemmas.{different_known, different_new, kept_push}
use Rattle.cvss_csv.proofs.different.DifferentNotes.note.Goals as goal

pub returns-then-has_equal : goal.returns-then-has_equal
returns-then-has_equal c = λ texts kept.
    let old = c.args.self.now.kept.items in
    let text_is = c.in_ok-from_slice.ensures.items in
    let read = subst (λ text. IsCanonicalOf c.in_ok-canonical_of.field-0 text) (sym text_is) c.in_ok-canonical_of.ensures in
    let equal = c.has_equal.ensures (subst (All IsRead) (sym c.deref.ensures.value) kept.read) read in
    let known = subst (λ all. HasEqual (kept_in all) c.in_ok-from_slice.field-0.items) c.deref.ensures.value (equal.0 c.if-has_equal.true) in
    record {
      are = different_known c.args.text.now [] texts (kept_in old) kept.are (subst (HasEqual (kept_in old)) text_is known);
      read = kept.read;
    }

pub returns : goal.returns
returns c = λ texts kept.
    let old = c.args.self.now.kept.items in
    let text = c.args.text.now in
    let text_is = c.in_ok-from_slice.ensures.items in
    let read = subst (λ bytes. IsCanonicalOf c.in_ok-canonical_of.field-0 bytes) (sym text_is) c.in_ok-canonical_of.ensures in
    let equal = c.has_equal.ensures (subst (All IsRead) (sym c.deref.ensures.value) kept.read) read in
    let found : Kept = record { text = c.in_ok-from_slice.field-0; canonical = c.in_ok-canonical_of.field-0 } in
    let all_are = ap (λ bytes. kept_in old ++ bytes ∷ []) (sym text_is) ∙ kept_push old found ∙ ap kept_in (sym c.in_ok-push.ensures.items) in
    record {
      are = subst (AreDifferent [] (texts ++ text ∷ [])) all_are
          (different_new text [] texts (kept_in old) kept.are (λ one. iff_false equal c.if-has_equal.false
          (subst (λ all. HasEqual (kept_in all) c.in_ok-from_slice.field-0.items) (sym c.deref.ensures.value) (subst (HasEqual (kept_in old)) (sym text_is) one))));
      read = subst (All IsRead) (sym c.in_ok-push.ensures.items) (All-push IsRead old found kept.read read);
    }
