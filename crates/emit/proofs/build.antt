-- Laws of the words that the generator makes.
pub mod Words
