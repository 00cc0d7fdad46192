pub mod Fits
pub mod SpanLists
