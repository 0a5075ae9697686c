-- The text of `upc run`, and the card that the code stores for it. Read the modules in this order:
pub mod RunText
pub mod RunSide
pub mod PathLaws
pub mod ShownCard
pub mod inner
