pub mod Cursors
pub mod SheetCursors
