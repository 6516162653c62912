-- Laws of branches and patching.
pub mod JumpLaws
