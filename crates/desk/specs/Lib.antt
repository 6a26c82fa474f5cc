-- What the entries tell of what the calls give and leave.
pub mod Told
