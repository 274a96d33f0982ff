use Rattle.std.proofs.Common.{◌≡◌, ◌<◌, inr, slice_index_or, ℕ, List, [], length, map, take, Bor, sym, subst, arith}
use Rattle.std.proofs.lemmas.List.{length-map, get_or-map, take_all, take_more}
use Rattle.cvss_base.specs.Rejection.{piece_at, IsFirstRejectionAfter}
use Rattle.cvss_vector.specs.v4.Vector.{v4}
use Rattle.cvss_base.specs.Version.{Denotes}
use Rattle.cvss_vector.specs.v4.TriageFaults.{InText, HasNoRejectionBefore, IsFirstRejected, ReportsFault}
use Rattle.cvss_vector.specs.v4.Triage.{IsRow, IsRowOf}
use Rattle.cvss_vector.proofs.v4.TriageLemmas.{AreRows-push, HasNoRejectionBefore-more, first_place_same}
use Rattle.cvss_vector.proofs.v4.triage.rank.rows_of.Goals as goal

abbrev texts_of : List (Bor (List ℕ)) → List (List ℕ)
texts_of texts = map (λ text. text.now) texts

within : (texts : List (Bor (List ℕ))) (place : ℕ) → place < length texts → place < length (texts_of texts)
within texts place below = omega (arith, length-map texts (λ (text : Bor (List ℕ)). text.now))

-- the text of this turn
here : (texts : List (Bor (List ℕ))) (place : ℕ) (d : Bor (List ℕ)) → place < length texts → piece_at (texts_of texts) place ≡ (slice_index_or texts place d).now
here texts place d below = get_or-map (λ (text : Bor (List ℕ)). text.now) texts place d [] below

first : (c : goal.After-drop-rows-in-Err) → IsFirstRejected (texts_of c.args.texts.now) c.loop-index.index c.in-Err.ensures.rejected.reason
first c =
    let texts = c.args.texts.now in
    let index = c.loop-index.index in
    record {
      within = within texts index c.loop-index-test.true;
      is = subst (λ text. IsFirstRejectionAfter v4 text c.in-Err.ensures.rejected.reason) (sym (here texts index _ c.loop-index-test.true)) c.in-Err.ensures.rejected.first;
      earlier = c.loop-index.invariant.1;
    }

pub returns-in-Err-clause-rejected : goal.returns-in-Err-clause-rejected
returns-in-Err-clause-rejected c = inr (record {
  place = c.loop-index.index;
  reason = c.in-Err.ensures.rejected.reason;
  first = first c;
  reports = c.of_text.ensures c.in-Err.ensures.rejected.reason c.in-Err.ensures.rejected.reported;
})

pub returns-in-Err-clause-rejects : goal.returns-in-Err-clause-rejects
returns-in-Err-clause-rejects c = λ place reason is.
    let texts = c.args.texts.now in
    let index = c.loop-index.index in
    let same = first_place_same (texts_of texts) place index reason c.in-Err.ensures.rejected.reason is (first c) in
    let rejected = subst (λ text. IsFirstRejectionAfter v4 text reason) (here texts index _ c.loop-index-test.true) (subst (λ each. IsFirstRejectionAfter v4 (piece_at (texts_of texts) each) reason) same is.is) in
    subst (λ each. ReportsFault (InText each reason) c.of_text.result) (sym same) (c.of_text.ensures reason (c.in-Err.ensures.rejects reason rejected))

pub loop-index-preserved : goal.loop-index-preserved
loop-index-preserved c =
    let texts = c.args.texts.now in
    let index = c.loop-index.index in
    let turn = sym (here texts index _ c.loop-index-test.true) in
    let row : IsRow c.args.overrides.now (piece_at (texts_of texts) index) c.in_ok-of-in-Ok.field-0 = record {
      vector = c.in-Ok.vector;
      denoted = subst (λ text. Denotes v4 text c.in-Ok.vector) turn c.in-Ok.ensures.denoted;
      well_formed = c.in-Ok.ensures.well_formed;
      scored = c.overridden_by.result;
      overridden = c.overridden_by.ensures.map;
      is = subst (λ text. IsRowOf text c.overridden_by.result c.in_ok-of-in-Ok.field-0) turn c.in_ok-of-in-Ok.ensures;
    } in
    let rows = AreRows-push c.args.overrides.now (take index (texts_of texts)) c.loop-index.rows.items (piece_at (texts_of texts) index) c.in_ok-of-in-Ok.field-0 c.loop-index.invariant.0 row in (
      rw (take_more (texts_of texts) index [] (within texts index c.loop-index-test.true), c.in_ok-push-in-Ok.ensures.items) rows,
      HasNoRejectionBefore-more (texts_of texts) index c.loop-index.invariant.1 (λ reason rejected. c.in-Ok.ensures.rejects reason (subst (λ text. IsFirstRejectionAfter v4 text reason) (sym turn) rejected)),
    )

at_end : (c : goal.After-loop-index) → c.loop-index.index ≡ length (texts_of c.args.texts.now)
at_end c = omega (arith, length-map c.args.texts.now (λ (text : Bor (List ℕ)). text.now), c.loop-index.auto.index-end, c.loop-index-test.false)

pub returns-clause-rows : goal.returns-clause-rows
returns-clause-rows c = rw (take_all c.loop-index.index (texts_of c.args.texts.now) (omega (arith, at_end c))) at c.loop-index.invariant.0

pub returns-clause-unrejected : goal.returns-clause-unrejected
returns-clause-unrejected c = subst (HasNoRejectionBefore (texts_of c.args.texts.now)) (at_end c) c.loop-index.invariant.1

pub returns-clause-rejects : goal.returns-clause-rejects
returns-clause-rejects c = λ place reason is. (returns-clause-unrejected c).none place reason is.within is.is
