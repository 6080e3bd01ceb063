pub mod CacheLemmas
pub mod ColumnarExits
pub mod GroupLemmas
pub mod ItemLemmas
pub mod MemoryExits
pub mod NamingLemmas
pub mod PartLemmas
pub mod ScanLemmas
pub mod SettledLemmas
pub mod CountedLemmas
pub mod StoreLemmas
pub mod TableExits
pub mod TableLemmas
mod ScannedLemmas
