-- The machine that runs a program on a packet. Read the modules in this order.
pub mod State
pub mod Packet
pub mod ScratchMemory
pub mod Arithmetic
pub mod Operand
pub mod Tests
pub mod Step
pub mod Value
pub mod Runs
pub mod Registers
pub mod inner
