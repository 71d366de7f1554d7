-- How contracts see the data of code, and names for pieces of the definitions. The promises of the program
-- do not depend on these.
pub mod CallLogs
