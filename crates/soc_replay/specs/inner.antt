-- Words of private contracts: settings and texts while they are read, the lines that refuse them, and the desk that is run.
pub mod Checking
pub mod Drafts
pub mod Exporting
pub mod Refusals
pub mod Replay
pub mod Serving
pub mod Texts
