use Rattle.std.proofs.Common.{◌+◌, ◌-◌, arith, drop, get_or, length, length-drop, length-take, refl, subst, sym, take, ◌∙◌}
use Rattle.std.proofs.lemmas.List.{take_rest}
use Rattle.cvss_csv.specs.private.Cutting.{IsFirstPiece, IsWithin}
use Rattle.cvss_csv.proofs.CuttingLemmas.{first_piece, within_byte, within_run}
use Rattle.cvss_csv.proofs.cutting.cut_first.Goals as goal

pub returns-then-is_end : goal.returns-then-is_end
returns-then-is_end c =
    let bytes = c.args.bytes.now in
    let at = c.loop-at.at in
    let run = c.pass_run-run.result.0 in
    let after = c.pass_run-run.result.1 in
    let before = within_run c.args.delimiter c.args.state bytes at c.loop-at.now after run c.loop-at.invariant.passed
    (subst (λ ys. IsWithin c.args.delimiter c.loop-at.now (take run ys) after) (take_rest bytes at) c.pass_run-run.ensures.passed) in
    subst (IsFirstPiece c.args.delimiter c.args.state bytes (take (at + run) bytes)) (sym (take_rest bytes (at + run + 1)))
    (first_piece c.args.delimiter c.args.state bytes (at + run) after (get_or bytes (at + run) 0) before (omega arith) refl (sym c.is_end.ensures ∙ c.if-is_end.true))

pub loop-at-preserved-then-at-bytes : goal.loop-at-preserved-then-at-bytes
loop-at-preserved-then-at-bytes c =
    let bytes = c.args.bytes.now in
    let at = c.loop-at.at in
    let run = c.pass_run-run.result.0 in
    let after = c.pass_run-run.result.1 in
    let before = within_run c.args.delimiter c.args.state bytes at c.loop-at.now after run c.loop-at.invariant.passed
    (subst (λ ys. IsWithin c.args.delimiter c.loop-at.now (take run ys) after) (take_rest bytes at) c.pass_run-run.ensures.passed) in
    record {
      within = omega arith;
      passed = subst (IsWithin c.args.delimiter c.args.state (take (at + run + 1) bytes)) (sym c.next-now.ensures)
          (within_byte c.args.delimiter c.args.state bytes (at + run) after (get_or bytes (at + run) 0) before (omega arith) refl (sym c.is_end.ensures ∙ c.if-is_end.false));
    }

pub loop-at-preserved : goal.loop-at-preserved
loop-at-preserved c =
    let bytes = c.args.bytes.now in
    let at = c.loop-at.at in
    let run = c.pass_run-run.result.0 in
    record {
      within = omega (arith, c.pass_run-run.ensures.within, length-take (length bytes - at) (drop at bytes), length-drop at bytes, c.loop-at.invariant.within);
      passed = within_run c.args.delimiter c.args.state bytes at c.loop-at.now c.pass_run-run.result.1 run c.loop-at.invariant.passed
          (subst (λ ys. IsWithin c.args.delimiter c.loop-at.now (take run ys) c.pass_run-run.result.1) (take_rest bytes at) c.pass_run-run.ensures.passed);
    }
