pub mod OneMeaning
pub mod OneFault
pub mod NeverBoth
pub mod Fitting
