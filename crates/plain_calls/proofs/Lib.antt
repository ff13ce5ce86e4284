pub mod IsCall
pub mod Answering
