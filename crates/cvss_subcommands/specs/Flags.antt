-- The options of subcommands.
use Rattle.std.specs.Prelude.{◌&&◌, ◌||◌, Bool, true, false, not, is_some, List, ℕ, codes, Option, None, Some, if◌then◌else◌, bytes_eq, unwrap_or}
use Rattle.std.specs.Option.{option_map}
use Rattle.cvss_report.specs.Thresholds.{threshold}
use Rattle.cvss_report.specs.declared.gate.Gate.{Gate}
use Rattle.cvss_subcommands.specs.Preferences.{preference_of}
use Rattle.cvss_subcommands.specs.declared.flags.Flag.{Flag}
use Rattle.cvss_subcommands.specs.declared.flags.Flag.TheVariants.{Json, Tsv, Base, AllowIncomplete, Assume, Annotate, All, WhatIf, KeepGoing, Header, Document, Differing, Min, FailOn, Quiet, Count, Standard, Csv, Column, Guard, Set, Profile, Prefer}
use Rattle.cvss_subcommands.specs.declared.flags.Flags.{Flags}
use Rattle.cvss_vector.specs.declared.scoring.Scoring.{Scoring}
use Rattle.cvss_vector.specs.declared.setting.Version.{Version}
use Rattle.cvss_vector.specs.declared.setting.Version.TheVariants.{V30, V31}
use Rattle.cvss_vector.specs.declared.scoring.Scoring.TheVariants as scoring

-- how an option is written
abbrev pub flag_name : Flag → List ℕ
flag_name Json = codes "--json"
flag_name Tsv = codes "--tsv"
flag_name Base = codes "--base"
flag_name AllowIncomplete = codes "--allow-incomplete"
flag_name Assume = codes "--assume"
flag_name Annotate = codes "--annotate"
flag_name All = codes "--all"
flag_name WhatIf = codes "--what-if"
flag_name KeepGoing = codes "--keep-going"
flag_name Header = codes "--header"
flag_name Document = codes "--document"
flag_name Differing = codes "--differing"
flag_name Min = codes "--min"
flag_name FailOn = codes "--fail-on"
flag_name Quiet = codes "--quiet"
flag_name Count = codes "--count"
flag_name Standard = codes "--standard"
flag_name Csv = codes "--csv"
flag_name Column = codes "--column"
flag_name Guard = codes "--guard"
flag_name Set = codes "--set"
flag_name Profile = codes "--profile"
flag_name Prefer = codes "--prefer"

-- the word after it is its value
abbrev pub has_value : Flag → Bool
has_value = elim [ Assume ↦ true | Min ↦ true | FailOn ↦ true | Column ↦ true | Set ↦ true | Profile ↦ true | Prefer ↦ true | _ ↦ false ]

-- the option whose value comes next
abbrev pub value_due : Flag → Option Flag
value_due flag = if has_value flag then Some flag else None

abbrev pub no_flags : Flags
no_flags = record {
  json = false;
  tsv = false;
  base = false;
  allow_incomplete = false;
  assumed = None;
  annotate = false;
  all = false;
  what_if = false;
  keep_going = false;
  header = false;
  document = false;
  differing = false;
  minimum = None;
  fail_on = None;
  quiet = false;
  count = false;
  standard = false;
  csv = false;
  column = false;
  guard = false;
  prefer = None;
}

-- one more option is given, which may have a value after it
abbrev pub with_flag : Flag → Flags → Flags
with_flag Json flags = record flags { json = true }
with_flag Tsv flags = record flags { tsv = true }
with_flag Base flags = record flags { base = true }
with_flag AllowIncomplete flags = record flags { allow_incomplete = true }
with_flag Assume flags = flags
with_flag Annotate flags = record flags { annotate = true }
with_flag All flags = record flags { all = true }
with_flag WhatIf flags = record flags { what_if = true }
with_flag KeepGoing flags = record flags { keep_going = true }
with_flag Header flags = record flags { header = true }
with_flag Document flags = record flags { document = true }
with_flag Differing flags = record flags { differing = true }
with_flag Min flags = flags
with_flag FailOn flags = flags
with_flag Quiet flags = record flags { quiet = true }
with_flag Count flags = record flags { count = true }
with_flag Standard flags = record flags { standard = true }
with_flag Csv flags = record flags { csv = true }
with_flag Column flags = record flags { column = true }
with_flag Guard flags = record flags { guard = true }
with_flag Set flags = flags
with_flag Profile flags = flags
with_flag Prefer flags = flags

-- the version that vectors without their prefix can have
abbrev pub version_of : List ℕ → Option Version
version_of value =
    if bytes_eq value (codes "3.0") then Some V30
    else if bytes_eq value (codes "3.1") then Some V31
    else None

-- the value of an option is given, if it can be; those of the others are read where they are used
abbrev pub with_value : Flag → List ℕ → Flags → Option Flags
with_value Assume value flags = option_map (λ version. record flags { assumed = Some version }) (version_of value)
with_value Min value flags = option_map (λ tenths. record flags { minimum = Some tenths }) (threshold value)
with_value FailOn value flags = option_map (λ tenths. record flags { fail_on = Some tenths }) (threshold value)
with_value Prefer value flags = option_map (λ preference. record flags { prefer = Some preference }) (preference_of value)
with_value _ value flags = Some flags

-- the option whose output has all scores, where it is given with the one that chooses the base score
abbrev pub all_scores_of : Flags → Option Flag
all_scores_of flags =
    if flags.base && flags.json then Some Json
    else if flags.base && flags.tsv then Some Tsv
    else None

-- which score of a vector is printed, by whether --base is given
abbrev pub scoring_of : Bool → Scoring
scoring_of true = scoring.Base
scoring_of false = scoring.Overall

-- which vectors are shown and which fail, if an option says it
abbrev pub gate_of : Flags → Option Gate
gate_of flags =
    if is_some flags.minimum || is_some flags.fail_on || flags.quiet then
    Some (record { minimum = unwrap_or flags.minimum 0; fail_on = flags.fail_on; quiet = flags.quiet }) else None

-- the same, where nothing is printed of a vector since vectors are counted
abbrev pub counting_gate_of : Flags → Gate
counting_gate_of flags = record { minimum = unwrap_or flags.minimum 0; fail_on = flags.fail_on; quiet = true }

-- the numbers of vectors are printed
abbrev pub counts_of : Flags → Bool
counts_of flags = flags.count && not flags.quiet

-- the gate by which vectors are answered, which prints nothing of one where they are counted
abbrev pub gate_by : Flags → Option Gate
gate_by flags = if counts_of flags then Some (counting_gate_of flags) else gate_of flags

-- the option that counts vectors, chooses some by their scores or prints nothing, if one is given
abbrev pub gate_flag : Flags → Option Flag
gate_flag flags =
    if flags.count then Some Count
    else if is_some flags.minimum then Some Min
    else if is_some flags.fail_on then Some FailOn
    else if flags.quiet then Some Quiet
    else None

-- nothing is printed
abbrev pub is_quiet : Option Gate → Bool
is_quiet None = false
is_quiet (Some gate) = gate.quiet
