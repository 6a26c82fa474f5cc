-- What a reader must believe of the bench card once it is read, in the order of paper 01.
pub mod Run
pub mod Printing
pub mod Card
