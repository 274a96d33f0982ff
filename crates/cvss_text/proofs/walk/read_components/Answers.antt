use Rattle.std.proofs.Common.{◌∙◌}
use Rattle.cvss_base.specs.Text.{pieces}
use Rattle.cvss_text.specs.private.Walk.{reason_of}
use Rattle.cvss_text.proofs.PieceLemmas.{IsUtf8-bad}
use Rattle.cvss_text.proofs.WalkLemmas.{HasReadTo-all, HasReadTo-more, IsFirstBadPiece-follows, IsFirstOfPieces-fault, IsUtf8-follows}
use Rattle.cvss_text.proofs.walk.read_components.Goals as goal

pub loop-rest-preserved : goal.loop-rest-preserved
loop-rest-preserved g c =
    let (piece, first, adds) = c.in-Ok.ensures.read in
    (HasReadTo-more g.V.Components.version g.met.V.Components.version_laws (pieces c.args.text.now) _ c.loop-rest.vector c.loop-rest.invariant.0 c.read_first.new.vector piece _ (c.in-Some.ensures ∙ first) adds, adds.puts.front ∙ c.loop-rest.invariant.1)

pub returns-in-Some-first_bad_piece-clause-rejected : goal.returns-in-Some-first_bad_piece-clause-rejected
returns-in-Some-first_bad_piece-clause-rejected g c =
    IsFirstBadPiece-follows g.V.Components.version g.met.V.Components.version_laws (pieces c.args.text.now) _ c.loop-rest.vector c.loop-rest.invariant.0 c.in-Some.rest.now c.in-Some.ensures _ c.in-Some-first_bad_piece.ensures

pub returns-in-Some-first_bad_piece-clause-printable : goal.returns-in-Some-first_bad_piece-clause-printable
returns-in-Some-first_bad_piece-clause-printable g c = IsUtf8-bad (returns-in-Some-first_bad_piece-clause-rejected g c)

pub returns-in-None-clause-rejected : goal.returns-in-None-clause-rejected
returns-in-None-clause-rejected g c =
    let version = g.V.Components.version in
    IsFirstOfPieces-fault version g.met.V.Components.version_laws (pieces c.args.text.now) _ c.loop-rest.vector c.loop-rest.invariant.0 c.in-Some.rest.now c.in-Some.ensures c.in-None.ensures (reason_of version c.in-Err.fault) c.in-Err.ensures.rejected

pub returns-in-None-clause-printable : goal.returns-in-None-clause-printable
returns-in-None-clause-printable g c = λ is.
    c.in-Err.ensures.printable (IsUtf8-follows g.V.Components.version g.met.V.Components.version_laws (pieces c.args.text.now) _ c.loop-rest.vector c.loop-rest.invariant.0 c.in-Some.rest.now c.in-Some.ensures is)

pub returns-clause-components : goal.returns-clause-components
returns-clause-components g c =
    HasReadTo-all g.V.Components.version g.met.V.Components.version_laws (pieces c.args.text.now) _ c.loop-rest.vector c.loop-rest.invariant.0 c.in_default.ensures
