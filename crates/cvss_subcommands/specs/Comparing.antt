-- What `cvss diff` does.
use Rattle.std.specs.Prelude.{◌≡◌, ℕ, Bool, List, [], ◌∷◌}
use Rattle.std.specs.Global.{Vec}
use Rattle.cvss_frame.specs.Exit.{nothing_served}
use Rattle.cvss_frame.specs.Operands.{Endings, Rests, ServesAll}
use Rattle.cvss_frame.specs.State.{State}
use Rattle.cvss_frame.specs.declared.served.Served.{Served}
use Rattle.cvss_lines.specs.Runs.{Ends}
use Rattle.cvss_lists.specs.Differences.{difference_rule}
use Rattle.cvss_subcommands.specs.Flags.{scoring_of}

-- each line is compared with this text
abbrev pub ComparesLines : Bool → Bool → List ℕ → Endings
ComparesLines base allow_incomplete first prefix = Ends (difference_rule (scoring_of base) allow_incomplete first)

-- the others of the operands are compared with the first, by whether --base and --allow-incomplete are given
abbrev pub Compares : Bool → Bool → List (Vec ℕ) → State → State → Served → Type 0
Compares base allow_incomplete [] old new served = Rests old new × (served ≡ nothing_served)
Compares base allow_incomplete (first ∷ others) old new served =
    ServesAll (ComparesLines base allow_incomplete first.items) others old new served
