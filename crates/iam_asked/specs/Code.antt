pub mod Cut
pub mod Found
pub mod Lent
pub mod Own
pub mod Reading
pub mod TextsRead
pub mod Unread
