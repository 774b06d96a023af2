mod ClientLemmas
mod DivisionLemmas
mod ListLemmas
mod NamedUnitsLemmas
mod StockRunLemmas
pub mod ReadingLemmas
pub mod ReturnLemmas
pub mod StockLemmas
