pub mod MostTurns
