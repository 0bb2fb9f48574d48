mod Cutting
mod Drafts
mod Joined
mod Newest
mod Ordered
mod Rows
mod Widths
mod Worked
