pub mod TwoThreads
