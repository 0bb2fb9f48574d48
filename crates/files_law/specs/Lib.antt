pub mod Acknowledgments
pub mod Entries
pub mod Files
pub mod Found
pub mod Mailboxes
pub mod Named
pub mod Whole
pub mod Written
