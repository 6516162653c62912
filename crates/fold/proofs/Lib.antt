-- Laws of folds and tests.
pub mod Folding
pub mod FoldLaws
pub mod TestLaws
