-- What one number of tenths counts.
use Rattle.std.proofs.Common.{ℤ, pos, ◌*ℤ◌, sym, ap, ◌∙◌, ◌^◌}
use Rattle.cvss_base.specs.Tenths.{IsInTenths}
use Rattle.cvss_base.specs.laws.Rounding.{IsOneCount}

pub in_tenths_once : (IsNumber : ℤ → Type 0) → IsOneCount IsNumber → IsOneCount (IsInTenths IsNumber)
in_tenths_once IsNumber once r s is_r is_s =
    let number = once is_r.number is_s.number is_r.is_number is_s.is_number in
    is_r.is_count ∙ (ap (λ n. n *ℤ pos (10 ^ 23)) number ∙ sym is_s.is_count)
