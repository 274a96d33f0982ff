use Rattle.std.proofs.Common.{rules, w32, pos, negsuc, ℤ, ◌≡◌, ◌∙◌, ap, refl}
use Rattle.std.specs.Int.{FitsUnsignedBits}
use Rattle.std.proofs.lemmas.Int.{to_z-of_z}
use lib.IntN.{nat_abs}
use Rattle.cvss_ffi.proofs.numbers.severity.Goals as goal

nat_abs_is : (z : ℤ) → FitsUnsignedBits 8 z → pos (nat_abs z) ≡ z
nat_abs_is (pos n) fits = refl
nat_abs_is (negsuc n) fits = absurd fits

pub returns-in-Ok : goal.returns-in-Ok
returns-in-Ok c =
    let version = to_z-of_z w32 c.args.version (search rules) in
    let same = to_z-of_z w32 c.args.tenths (search rules) in
    let number = to_z-of_z w32 c.severity_of_tenths.result (search rules) in
    let fits = c.in-Ok.ensures in
    let tenths : pos c.in-Ok.tenths ≡ c.args.tenths = ap pos fits.1 ∙ (nat_abs_is _ fits.0 ∙ same) in
    rw number (simp (version, tenths) at c.severity_of_tenths.ensures)
