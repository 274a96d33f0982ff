use Rattle.std.proofs.Common.{◌≡◌, ◌∙◌, arith, inl, inr, pos, rules, subst, sym}
use Rattle.std.proofs.lemmas.Int.{ints, to_z-of_z}
use mir.Syntax.{w32, w128}
use Rattle.cvss_base.specs.Exact.{of_count}
use Rattle.cvss_base.specs.Rounding.{IsRoundedV2, IsRoundedV30, IsRoundedV31}
use Rattle.cvss_ffi.specs.Exact.{exact_of}
use Rattle.cvss_ffi.proofs.exact.rounded_of.Goals as goal

pub returns-in-20 : goal.returns-in-20
returns-in-20 c =
    let is = c.roundup.ensures.value in
    let version : c.args.version ≡ pos 20 = search rules in
    let rounded = subst (λ each. IsRoundedV2 (of_count each) is.number) c.in_ok-score.ensures.count is.is_number in
    let reported = to_z-of_z w32 c.tenths_of.result (search rules) ∙ c.tenths_of.ensures is.number is.is_count in (
      (inl version, c.in_ok-score.ensures.number),
      record {
        of_v20 = λ _. subst (IsRoundedV2 (exact_of c.args.number.now)) (sym reported) rounded;
        of_v30 = λ other. absurd (omega (arith, ints, version, other));
        of_v31 = λ other. absurd (omega (arith, ints, version, other));
      },
    )

pub returns-in-30 : goal.returns-in-30
returns-in-30 c =
    let version : c.args.version ≡ pos 30 = search rules in
    let count = to_z-of_z w128 c.value.result (search rules) ∙ c.value.ensures ∙ c.in_ok-score.ensures.count in
    let tenths = to_z-of_z w128 c.round_count.result (search rules) in
    let rounded = subst (λ each. IsRoundedV30 (of_count each) c.round_count.result) count c.round_count.ensures.value in
    let reported = to_z-of_z w32 _ (rw tenths (omega (arith, ints, c.round_count.ensures.low, c.round_count.ensures.high))) ∙ tenths in (
      (inr (inl version), c.in_ok-score.ensures.number),
      record {
        of_v20 = λ other. absurd (omega (arith, ints, version, other));
        of_v30 = λ _. subst (IsRoundedV30 (exact_of c.args.number.now)) (sym reported) rounded;
        of_v31 = λ other. absurd (omega (arith, ints, version, other));
      },
    )

pub returns-in-31 : goal.returns-in-31
returns-in-31 c =
    let version : c.args.version ≡ pos 31 = search rules in
    let count = to_z-of_z w128 c.value-in-31.result (search rules) ∙ c.value-in-31.ensures ∙ c.in_ok-score.ensures.count in
    let tenths = to_z-of_z w128 c.round_count-in-31.result (search rules) in
    let rounded = subst (λ each. IsRoundedV31 (of_count each) c.round_count-in-31.result) count c.round_count-in-31.ensures.value in
    let reported = to_z-of_z w32 _ (rw tenths (omega (arith, ints, c.round_count-in-31.ensures.low, c.round_count-in-31.ensures.high))) ∙ tenths in (
      (inr (inr version), c.in_ok-score.ensures.number),
      record {
        of_v20 = λ other. absurd (omega (arith, ints, version, other));
        of_v30 = λ other. absurd (omega (arith, ints, version, other));
        of_v31 = λ _. subst (IsRoundedV31 (exact_of c.args.number.now)) (sym reported) rounded;
      },
    )
