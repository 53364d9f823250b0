pub mod GenJob
