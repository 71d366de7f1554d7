-- How contracts see the code's data, and names for pieces of the definitions. The program's promises do not depend on
-- them.
pub mod Assembling
