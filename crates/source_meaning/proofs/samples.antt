pub mod Building
mod Numbers
mod Collections
mod Objects
mod Flows
mod Inputs
mod Stops
mod Typing
mod Orders
