use Rattle.std.specs.Prelude.{map, take}
use Rattle.cvss_examples.specs.Counts.{IsCountOf}
use Rattle.cvss_examples.specs.Findings.{IsFinding, IsNoVector}
use Rattle.cvss_examples.proofs.audit.count_findings.Given as goal

abbrev pub invariant-loop-text : goal.invariant-loop-text
invariant-loop-text l =
    IsCountOf (IsFinding l.fn.level) (take l.text-index (map (λ text. text.now) l.fn.texts)) l.findings
    × IsCountOf IsNoVector (take l.text-index (map (λ text. text.now) l.fn.texts)) l.rejected
