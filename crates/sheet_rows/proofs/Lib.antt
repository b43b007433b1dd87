-- Laws of rows as text: what is stored of a cell, of a line and of a page is the definition's.
pub mod CellTexts
pub mod Laying
