-- The subcommand `size` of `upc-lab`. Read the modules in this order:
pub mod CellRates
pub mod Increments
pub mod Sizing
pub mod Advice
pub mod SizeWords
pub mod SizeFaults
pub mod SizeText
pub mod Senders
pub mod SetupReading
pub mod inner
