pub mod Callees
pub mod CalleesSeen
pub mod Builtins
pub mod Exceptions
pub mod Methods
pub mod Calls
