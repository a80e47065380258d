pub mod Commas
pub mod Fields
pub mod inner
pub mod Orders
pub mod Permits
pub mod Reports
pub mod RowJson
pub mod RowText
pub mod Rows
pub mod Tables
pub mod TokenFile
pub mod Values
mod Examples
