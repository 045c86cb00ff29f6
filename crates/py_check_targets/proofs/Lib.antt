pub mod AimLemmas
pub mod FaultLemmas
pub mod PlaceLemmas
pub mod LookLemmas
pub mod SeenLemmas
