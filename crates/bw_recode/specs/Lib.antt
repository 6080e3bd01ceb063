pub mod Numbers
pub mod Recode
pub mod ColumnarRecode
