mod GoneLemmas
mod LevelLemmas
mod LawLemmas
mod DealtLemmas
