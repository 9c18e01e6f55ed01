pub mod Given
pub mod Looked
pub mod Principals
pub mod Scenes
pub mod Told
