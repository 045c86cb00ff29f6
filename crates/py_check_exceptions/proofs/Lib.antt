pub mod RaiseLemmas
pub mod HandlerLemmas
