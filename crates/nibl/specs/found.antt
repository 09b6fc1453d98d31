-- What is computed and need not be believed: each function here is tied by a theorem to what the grammar says without it.
-- a reading, exactly where the grammar gives one (proofs/Exact.antt)
pub mod Read
-- where no word could go on (proofs/GaveUp.antt)
pub mod GaveUp
-- the column of a refused line, which is `IsColumn` (proofs/Spot.antt)
pub mod Column
-- what a slice carries, which is what it is the form of (`form-exact`, crate `changes`)
pub mod Form
