pub mod Carried
mod Growth
mod Journaled
mod Later
mod Places
mod Repeats
mod Reports
mod Rows
mod Settling
mod Whole
mod Withdrawn
