pub mod Decided
pub mod FirstFault
pub mod InOrder
pub mod Masks
pub mod Onward
pub mod Places
pub mod Public
pub mod Visit
