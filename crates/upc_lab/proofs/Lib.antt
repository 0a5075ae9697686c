pub mod Texts
pub mod Differing
pub mod Forwarding
pub mod Hinting
pub mod SettingUp
