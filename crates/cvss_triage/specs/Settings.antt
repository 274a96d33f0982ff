-- What the options of triage set: `--set` gives metrics, and `--profile` a file of partial vectors. The prefixes are
-- those of the v3.1 specification, section 6, and the v4.0 specification, section 7.
use Rattle.std.specs.Prelude.{◌≡◌, ℕ, ◌==◌, ◌||◌, Bool, List, [], ◌∷◌, codes, drop, flat_map, filter_map, All, IsSome, IsSomeAnd, Option, None, Some, if◌then◌else◌}
use Rattle.std.specs.List.{list_all, starts_with}
use Rattle.std.specs.Global.{Vec}
use Rattle.cvss_lines.specs.Lines.{lines}
use Rattle.cvss_triage.specs.Overrides.{HoldsForSome}
use Rattle.cvss_triage.specs.declared.overrides.Family.{Family}
use Rattle.cvss_triage.specs.declared.overrides.Family.TheVariants.{V2, V3, V4}
use Rattle.cvss_triage.specs.declared.overrides.Override.{Override}
use Rattle.cvss_triage.specs.Inputs.{Reading, ReadsInput}
use Rattle.cvss_triage.specs.declared.settings.Setting.{Setting}
use Rattle.cvss_triage.specs.declared.settings.SettingKind.{SettingKind}
use Rattle.cvss_triage.specs.declared.settings.SettingKind.TheVariants.{Metrics, Profile}
use Rattle.cvss_triage.specs.declared.settings.SettingText.{SettingText}

-- a setting's kind and its word
abbrev pub as_words : Setting → SettingKind × List ℕ
as_words setting = (setting.kind, setting.word.now)

-- an override's versions and its metrics
abbrev pub as_metrics : Override → Option Family × List ℕ
as_metrics it = (it.family, it.metrics.now)

-- the text of a setting: its word, or what the profile has that its word names
abbrev pub ReadsText : SettingKind → Reading (List ℕ) (Option (Vec ℕ))
ReadsText Metrics word old new text = (new ≡ old) × IsSomeAnd text (λ bytes. bytes.items ≡ word)
ReadsText Profile word old new text = ReadsInput word old new text

abbrev pub ReadsSetting : Reading (SettingKind × List ℕ) SettingText
ReadsSetting words old new it = (as_words it.setting.now ≡ words) × ReadsText words.0 words.1 old new it.text

-- a blank or a tab
abbrev pub is_blank : ℕ → Bool
is_blank byte = (byte == 32) || (byte == 9)

abbrev pub is_blank_line : List ℕ → Bool
is_blank_line line = list_all is_blank line

abbrev pub begins_with : List ℕ → List ℕ → Bool
begins_with prefix line = starts_with (λ x y. x == y) line prefix

-- for which versions a partial vector is, by its prefix, and the metrics after that; CVSS v2 has no prefix
abbrev pub partial_vector : List ℕ → Option Family × List ℕ
partial_vector line =
    if begins_with (codes "CVSS:4.0/") line then (Some V4, drop 9 line)
    else if begins_with (codes "CVSS:3.1/") line || begins_with (codes "CVSS:3.0/") line then (Some V3, drop 9 line)
    else (Some V2, line)

abbrev pub line_metrics : List ℕ → Option (Option Family × List ℕ)
line_metrics line = if is_blank_line line then None else Some (partial_vector line)

-- what a profile sets: each line that is not blank is a partial vector
abbrev pub profile : List ℕ → List (Option Family × List ℕ)
profile text = filter_map line_metrics (lines text)

-- what the text of a setting sets, by its kind
abbrev pub given_by : SettingKind → Option (Vec ℕ) → List (Option Family × List ℕ)
given_by kind None = []
given_by Metrics (Some text) = (None, text.items) ∷ []
given_by Profile (Some text) = profile text.items

abbrev pub given : SettingText → List (Option Family × List ℕ)
given it = given_by it.setting.now.kind it.text

abbrev pub all_given : List SettingText → List (Option Family × List ℕ)
all_given texts = flat_map given texts

-- all texts are read, and each override holds for some vector
abbrev pub AreUnderstood : List SettingText → List Override → Type 0
AreUnderstood texts overrides = All (λ it. IsSome it.text) texts × All HoldsForSome overrides
