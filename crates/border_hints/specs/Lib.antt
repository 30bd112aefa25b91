pub mod Numbered
pub mod Borders
pub mod TicketKept
