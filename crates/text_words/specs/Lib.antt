-- The words of lines, and the fault lines. Read the modules in this order:
pub mod Hexadecimal
pub mod CellWord
pub mod FaultLines
pub mod inner
