-- Words of private contracts and of proofs: how a disk in memory keeps its log, and why it meets the laws of a disk.
pub mod DiskEntries
pub mod DiskLaws
pub mod DiskState
