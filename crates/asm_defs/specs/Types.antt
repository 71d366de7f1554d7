-- The types of the code's data that the definitions use, exported again so that each is imported from one module.
use Rattle.asm_defs.specs.declared
pub use declared.assembler.{AsmFault.AsmFault, AsmKind.AsmKind, Label.Label, Operands.Operands, Section.Section}
pub use declared.assembler.{Statement.Statement, TokenKind.TokenKind, Value.Value}
pub use declared.keys.{Key.Key}
