pub mod AskedRows
pub mod BaredNodes
pub mod BaredSublinks
pub mod ForcedJoins
pub mod ForcedRows
pub mod Passing
pub mod SimpleParts
pub mod Unread
