-- The subcommands, with their names and options.
use Rattle.std.specs.Prelude.{Bool, true, false, ℕ, List, [], ◌∷◌, codes}
use Rattle.cvss_subcommands.specs.declared.flags.Flag.{Flag}
use Rattle.cvss_subcommands.specs.declared.flags.Flag.TheVariants.{All, AllowIncomplete, Annotate, Assume, Base, Column, Count, Csv, Differing, Document, FailOn, Guard, Header, Json, KeepGoing, Min, Prefer, Profile, Quiet, Standard, Tsv, WhatIf}
use Rattle.cvss_subcommands.specs.declared.flags.Flag.TheVariants as flag
use Rattle.cvss_subcommands.specs.declared.subcommand.Subcommand.{Subcommand}
use Rattle.cvss_subcommands.specs.declared.subcommand.Subcommand.TheVariants.{Score, Find, Explain, Set, Triage, Audit, Diff}

abbrev pub subcommands : List Subcommand
subcommands = Score ∷ Find ∷ Explain ∷ Set ∷ Triage ∷ Audit ∷ Diff ∷ []

abbrev pub name_of : Subcommand → List ℕ
name_of Score = codes "score"
name_of Find = codes "find"
name_of Explain = codes "explain"
name_of Set = codes "set"
name_of Triage = codes "triage"
name_of Audit = codes "audit"
name_of Diff = codes "diff"

-- the options that it has
unfoldable pub flags_of : Subcommand → List Flag
flags_of Score = Json ∷ Tsv ∷ Csv ∷ Column ∷ Guard ∷ Base ∷ Standard ∷ Min ∷ FailOn ∷ Count ∷ Quiet ∷ AllowIncomplete ∷ []
flags_of Find = Json ∷ Csv ∷ Column ∷ Guard ∷ Annotate ∷ All ∷ Base ∷ Min ∷ FailOn ∷ Count ∷ Quiet ∷ AllowIncomplete ∷ Assume ∷ []
flags_of Explain = Json ∷ WhatIf ∷ AllowIncomplete ∷ []
flags_of Set = Base ∷ AllowIncomplete ∷ []
flags_of Triage = flag.Set ∷ Profile ∷ KeepGoing ∷ Header ∷ Prefer ∷ Json ∷ Csv ∷ Column ∷ Guard ∷ Base ∷ Min ∷ FailOn ∷ Count ∷ Quiet ∷ AllowIncomplete ∷ []
flags_of Audit = Json ∷ Differing ∷ Min ∷ FailOn ∷ Count ∷ Quiet ∷ AllowIncomplete ∷ Document ∷ []
flags_of Diff = Base ∷ AllowIncomplete ∷ []

-- words without a slash are metrics
abbrev pub sets_metrics : Subcommand → Bool
sets_metrics = elim [ Set ↦ true | _ ↦ false ]
