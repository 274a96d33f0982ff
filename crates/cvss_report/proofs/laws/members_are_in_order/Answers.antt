use Rattle.std.proofs.Common.{refl}
use Rattle.cvss_report.proofs.laws.members_are_in_order.Goals as goal

pub returns : goal.returns
returns c = record {
  v2 = record { in_order = refl; each = refl };
  v3 = record { in_order = refl; each = refl };
  v4 = record { in_order = refl; each = refl };
}
