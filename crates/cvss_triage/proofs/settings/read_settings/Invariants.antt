use Rattle.std.proofs.Common.{◌≡◌, List, ◌++◌, drop, map}
use Rattle.cvss_frame.specs.State.{State}
use Rattle.cvss_frame.specs.Streams.{state}
use Rattle.cvss_triage.specs.Inputs.{ReadsEach}
use Rattle.cvss_triage.specs.Settings.{ReadsSetting, as_words}
use Rattle.cvss_triage.specs.declared.settings.SettingText.{SettingText}
use Rattle.cvss_triage.proofs.settings.read_settings.Given as goal

-- however the settings that are left are read, all are so; nothing is written
abbrev pub invariant-loop-setting : goal.invariant-loop-setting
invariant-loop-setting g l = ((last : State) → (more : List SettingText)
    → ReadsEach ReadsSetting (map as_words (drop l.setting-index l.fn.settings)) (state l.streams) last more
    → ReadsEach ReadsSetting (map as_words l.fn.settings) (state l.fn.streams) last (l.texts.items ++ more))
    × ((state l.streams).written ≡ (state l.fn.streams).written)
