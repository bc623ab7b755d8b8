-- Upload planning: the plan that rule 6.2 fixes, its batch, and the judge of lists of packets. Plain,
-- Judge and Parts say it with the numbers themselves, apart from the definitions that can be run.
pub mod Sizes
pub mod Cost
pub mod Plan
pub mod Judge
pub mod Parts
pub mod Plain
pub mod Planning
pub mod Examples
pub mod Internal
