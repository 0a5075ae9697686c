-- A proved driver for programs that answer lines. Read the modules in this order:
pub mod Devices
pub mod Failures
pub mod Lines
pub mod Limits
pub mod Words
pub mod LineWords
pub mod Printing
pub mod Answering
pub mod Gathered
pub mod Serving
pub mod inner
