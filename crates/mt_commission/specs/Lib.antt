pub mod Answers
pub mod Commands
pub mod GeneralCommissioning
pub mod Laws
pub mod NetworkCommissioning
