mod CountLemmas
mod DenotingLemmas
mod InputLemmas
mod OwnLemmas
mod PickingLemmas
mod RankLemmas
mod ReadsLemmas
mod RowLemmas
