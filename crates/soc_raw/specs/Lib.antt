pub mod CrashId
pub mod Day
pub mod Digit
pub mod inner
pub mod RawCrash
pub mod Record
pub mod Refusals
