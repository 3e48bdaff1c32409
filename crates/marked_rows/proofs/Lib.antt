mod PoolLemmas
pub mod StepLemmas
pub mod CellLemmas
pub mod ChangeLemmas
pub mod EndingLemmas
pub mod KeptLemmas
pub mod PictureLemmas
pub mod PlaceLemmas
pub mod RowLemmas
pub mod ScanLemmas
pub mod SightLemmas
