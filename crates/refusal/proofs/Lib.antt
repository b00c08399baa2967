pub mod First
pub mod Results
