-- Laws of the definitions in specs/ that a changed definition would break.
pub mod NearestLaws
pub mod RoundLaws
pub mod WeightLaws
pub mod LawExamples
-- Laws over plain numbers that the functions' proofs cite.
pub mod Signs
pub mod LongDivision
pub mod Weights
