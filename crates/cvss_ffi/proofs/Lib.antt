mod LengthLemmas
mod MatchLemmas
mod MessageLemmas
mod NomenclatureLemmas
mod RatedLemmas
mod ReadLemmas
mod SettingLemmas
