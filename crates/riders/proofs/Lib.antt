-- Laws of the definitions in specs/ that a changed definition would break.
pub mod PostLaws
