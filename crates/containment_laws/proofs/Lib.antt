mod Lookups
mod Outside
mod Holding
mod Contained
