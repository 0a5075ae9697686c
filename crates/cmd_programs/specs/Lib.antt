-- Programs as octets and codes, and the subcommands for one program. Read the modules in this order:
pub mod CodeFaults
pub mod Program
pub mod Finding
pub mod AfterProgram
pub mod CellLines
pub mod Eval
pub mod SourceFaults
pub mod Check
pub mod inner
