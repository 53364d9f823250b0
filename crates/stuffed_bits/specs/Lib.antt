pub mod Carried
pub mod BitInState
pub mod BitWriterState
pub mod BitsRead
pub mod NumbersRead
pub mod RunsRead
pub mod BitsWritten
