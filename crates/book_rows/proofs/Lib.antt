mod SumLemmas
mod RowLemmas
mod ClassLemmas
