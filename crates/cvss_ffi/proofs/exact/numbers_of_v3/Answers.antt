use Rattle.std.proofs.Common.{rules}
use Rattle.cvss_ffi.proofs.exact.numbers_of_v3.Goals as goal

pub returns : goal.returns
returns c =
    record {
      size_is = search rules;
      base = search rules;
      temporal = search rules;
      environmental = search rules;
      impact_is = search rules;
      exploitability_is = search rules;
      adjusted_is = search rules;
    }
