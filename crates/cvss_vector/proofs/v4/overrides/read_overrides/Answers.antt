use Rattle.std.proofs.Common.{ap, arith, length, length-append}
use Rattle.cvss_vector.specs.v4.private.OverridingSteps.{objection_of}
use Rattle.cvss_vector.proofs.v4.OverridingLemmas.{AreOverrides-all, HasReadOverrides-more, HasReadOverrides-start, IsFirstObjection-next, no_objection_held, no_overrides}
use Rattle.cvss_vector.proofs.v4.overrides.read_overrides.Goals as goal

pub loop-cut-init : goal.loop-cut-init
loop-cut-init g c = HasReadOverrides-start (g.T.Texts.texts c.args.texts) c.empty-given.result c.empty-given.ensures.version c.empty-given.ensures.valueless

pub loop-cut-preserved : goal.loop-cut-preserved
loop-cut-preserved g c =
    HasReadOverrides-more (g.T.Texts.texts c.args.texts) _ c.loop-cut.given c.loop-cut.invariant c.in-Some.cut.0.now _ c.in-Some.ensures.cut c.read_override.new.given c.in_default-read_override.ensures.read

pub returns-in-Err-clause-rejected : goal.returns-in-Err-clause-rejected
returns-in-Err-clause-rejected g c =
    let texts = g.T.Texts.texts c.args.texts in
    let read = c.loop-cut.invariant.read in
    IsFirstObjection-next texts _ c.loop-cut.given c.loop-cut.invariant c.in-Some.cut.0.now _ c.in-Some.ensures.cut _
    (omega (arith, c.count.ensures, c.count-in-Err.ensures, ap length read.cut, length-append read.before (g.T.Texts.texts c.loop-cut.left)))
    (objection_of c.in-Err.fault) c.in-Err.ensures.rejected

pub returns-in-Err-clause-accepts : goal.returns-in-Err-clause-accepts
returns-in-Err-clause-accepts g c = λ vector are. absurd (no_overrides _ _ _ (returns-in-Err-clause-rejected g c) vector are)

pub returns-clause-accepted : goal.returns-clause-accepted
returns-clause-accepted g c = AreOverrides-all (g.T.Texts.texts c.args.texts) _ c.loop-cut.given c.loop-cut.invariant c.in_default.ensures.cut

pub returns-clause-faultless : goal.returns-clause-faultless
returns-clause-faultless g c = no_objection_held (g.T.Texts.texts c.args.texts) c.loop-cut.given (returns-clause-accepted g c)

pub loop-cut-smaller : goal.loop-cut-smaller
loop-cut-smaller g c = omega (arith, ap length c.in-Some.ensures.cut)

pub overflow_sub-result : goal.overflow_sub-result
overflow_sub-result g c =
    let read = c.loop-cut.invariant.read in
    omega (arith, c.count.ensures, c.count-in-Err.ensures, ap length read.cut, length-append read.before (g.T.Texts.texts c.loop-cut.left))
