pub mod LedgerLemmas
pub mod FewLemmas
mod Examples
