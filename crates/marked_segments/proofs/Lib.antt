mod BitLemmas
mod BlockLemmas
mod LaneLemmas
mod MaskLemmas
mod PartLemmas
mod PlaceLemmas
mod ReadLemmas
mod Worked
