pub mod Exports
pub mod ByteExports
