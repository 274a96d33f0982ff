-- Values that the specifications and docs/PROGRAMS.md give.
use Rattle.std.proofs.Common.{◌≡◌, [], ◌∷◌, codes, refl}
use Rattle.std.proofs.Common as option
use Rattle.cvss_base.specs.Text.{pieces}
use Rattle.cvss_lists.specs.Departures.{first_exchanged, first_unlisted, letter_case_text, neighbours, order_text}
use Rattle.cvss_lists.specs.Differences.{change_if}

-- a metric that changes
changed : change_if (codes "MAV") (codes "N") (codes "L") ≡ codes "MAV: N -> L" ∷ []
changed = refl

unchanged : change_if (codes "MAV") (codes "-") (codes "-") ≡ []
unchanged = refl

-- two metrics are exchanged, and a component is not in upper case
exchanged : first_exchanged (pieces (codes "CVSS:4.0/AV:N/VC:L/E:A")) (neighbours (pieces (codes "CVSS:4.0/AV:N/E:A/VC:L"))) ≡ option.Some (codes "E:A", codes "VC:L")
exchanged = refl

in_order : first_exchanged (pieces (codes "CVSS:4.0/AV:N/VC:L/E:A")) (neighbours (pieces (codes "CVSS:4.0/AV:N/VC:L/E:A"))) ≡ option.None
in_order = refl

unlisted : first_unlisted (pieces (codes "CVSS:3.1/AV:N")) (pieces (codes "CVSS:3.1/av:n")) ≡ option.Some (codes "av:n")
unlisted = refl

said_of_order : order_text (codes "VC") (codes "E") ≡ codes "metrics out of order: VC after E"
said_of_order = refl

said_of_case : letter_case_text (codes "av:n") ≡ codes "lower case: av:n"
said_of_case = refl
