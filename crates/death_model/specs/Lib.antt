pub mod InRange
pub mod FilesInside
pub mod SeenInside
pub mod RunInside
