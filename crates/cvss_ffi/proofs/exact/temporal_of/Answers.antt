use Rattle.std.proofs.Common.{inl, rules, subst, sym, ◌∙◌}
use Rattle.std.proofs.lemmas.Int.{to_z-of_z}
use mir.Syntax.{w32}
use Rattle.cvss_base.specs.Exact.{of_count}
use Rattle.cvss_score.specs.v2.Scores.{IsTemporal}
use Rattle.cvss_vector.specs.v2.Weights.{weights_of}
use Rattle.cvss_ffi.specs.Exact.{exact_of}
use Rattle.cvss_ffi.proofs.exact.temporal_of.Goals as goal

pub returns : goal.returns
returns c =
    let vector = c.in_ok-vector.vector in
    let is = c.temporal_score_internal.ensures.value in
    let counted = subst (λ each. IsTemporal (weights_of vector) (of_count each) is.number) c.in_ok-impact.ensures.count is.is_number in
    let reported = to_z-of_z w32 c.tenths_of.result (search rules) ∙ c.tenths_of.ensures is.number is.is_count in
    inl (c.in_ok-impact.ensures.number, (vector, c.in_ok-vector.ensures.is, subst (IsTemporal (weights_of vector) (exact_of c.args.impact.now)) (sym reported) counted))
