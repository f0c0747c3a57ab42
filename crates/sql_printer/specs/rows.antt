pub mod Carried
pub mod Printed
pub mod PrintedExpressions
pub mod Writable
