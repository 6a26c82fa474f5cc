-- What only contracts inside speak of: the first line as the code hands it on.
pub mod Ram
