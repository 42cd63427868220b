mod Held
mod NotApart
mod Owed
mod Roomy
mod Going
mod RowsOwed
