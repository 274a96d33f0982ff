use Rattle.std.proofs.Common.{refl, sym, true≢false}
use Rattle.std.proofs.lemmas.Bool.{iff_false}
use Rattle.std.proofs.lemmas.List.{nil_from_length}
use Rattle.cvss_csv.proofs.DifferentLemmas.{compared_here, compared_next, compared_none, compared_read, compared_start}
use Rattle.cvss_csv.proofs.different.has_equal.Goals as goal

pub loop-each-init : goal.loop-each-init
loop-each-init c = λ read _. compared_start c.args.kept.now c.args.found.now.text.items read

pub returns-then-are_equal : goal.returns-then-are_equal
returns-then-are_equal c = λ read found.
    let before = c.loop-each.invariant read found in
    let is = c.in-Some.ensures.cases.0 in
    let equal = c.are_equal.ensures (compared_read before c.in-Some.each.now c.in-Some.rest.now is) found in
    (λ _. compared_here before c.in-Some.each.now c.in-Some.rest.now is (equal.0 c.if-are_equal.true), λ _. refl)

pub loop-each-preserved : goal.loop-each-preserved
loop-each-preserved c = λ read found.
    let before = c.loop-each.invariant read found in
    let is = c.in-Some.ensures.cases.0 in
    let equal = c.are_equal.ensures (compared_read before c.in-Some.each.now c.in-Some.rest.now is) found in
    compared_next before c.in-Some.each.now c.in-Some.rest.now is (iff_false equal c.if-are_equal.false)

pub returns : goal.returns
returns c = λ read found. (
  λ is. absurd (true≢false (sym is)),
  λ equal. absurd (compared_none c.args.kept.now c.loop-each.left.now c.args.found.now.text.items (c.loop-each.invariant read found) (nil_from_length _ c.in_default.ensures.cases) equal),
)
