-- BookTable: reading refuses as the table says.
pub mod BookTable
