-- Laws over plain values that the functions' proofs cite.
pub mod BillLines
pub mod MonthEnds
