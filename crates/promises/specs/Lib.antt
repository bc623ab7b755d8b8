-- That every contract has its plain promise in it, and that the plain promises of every entry hold
-- of one outcome at most.
pub mod Promised
pub mod Determined
