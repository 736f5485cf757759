-- Between crates: what can be written: names that are no keywords, numbers that their types have.
use Rattle.std.specs.Prelude.{◌≡◌, ℕ, suc, ◌<◌, ◌≤◌, ◌^◌, Bool, true, false, List, ℤ, pos, negsuc}
use Rattle.std.specs.List.{AllByRecursion}
use Rattle.std.specs.Str.{IsUtf8}
use Rattle.kr_ast.specs.declared.node.Primitive.{Primitive}
use Rattle.kr_ast.specs.declared.node.Primitive.TheVariants as primitives
use Rattle.kr_lex.specs.Characters.{is_line_end}
use Rattle.kr_lex.specs.Spelling.{spelling}
use Rattle.kr_lex.specs.Words.{IsName}
use Rattle.kr_lex.specs.declared.kind.Kind.{Kind}
use Rattle.kr_emit_laws.specs.Syntax.{Builder, Line, Creates, CreatesArray, SetsField, SetsElement, Operand, Whole, Boolean, NullOperand, Local, TypeName, PrimitiveName, SimpleName, NestedName}

-- a name that is no keyword
pub record IsIdentifier (text : List ℕ) : Type 0 where
  pub named : IsName text
  pub other : (kind : Kind) → text ≡ spelling kind → ⊥

abbrev pub IsClassName : TypeName → Type 0
IsClassName (PrimitiveName k) = ⊥
IsClassName (SimpleName text) = IsIdentifier text
IsClassName (NestedName outer text) = IsIdentifier outer × IsIdentifier text

abbrev pub IsValueType : Primitive → Type 0
IsValueType primitives.Void = ⊥
IsValueType _ = Unit {0}

abbrev pub IsElementName : TypeName → Type 0
IsElementName (PrimitiveName k) = IsValueType k
IsElementName t = IsClassName t

-- of a `long` or an `int`, after a minus sign
abbrev pub limit_of : Bool → ℕ
limit_of true = 9223372036854775808
limit_of false = 2147483648

abbrev pub IsWritten : Bool → ℤ → Type 0
IsWritten is_long (pos n) = n ≤ limit_of is_long
IsWritten is_long (negsuc n) = suc n ≤ limit_of is_long

-- locals and methods have numbers of at most 64 digits
abbrev pub IsNumbered : ℕ → Type 0
IsNumbered n = n < 10 ^ 64

abbrev pub IsWrittenOperand : Operand → Type 0
IsWrittenOperand (Whole is_long n) = IsWritten is_long n
IsWrittenOperand (Boolean b) = Unit {0}
IsWrittenOperand NullOperand = Unit {0}
IsWrittenOperand (Local n) = IsNumbered n

abbrev pub IsPrintableLine : Line → Type 0
IsPrintableLine (Creates t n) = IsClassName t × IsNumbered n
IsPrintableLine (CreatesArray t n length) = IsElementName t × IsNumbered n × IsWritten false length
IsPrintableLine (SetsField n field v) = IsNumbered n × IsIdentifier field × IsWrittenOperand v
IsPrintableLine (SetsElement n index v) = IsNumbered n × (index ≤ 2147483648) × IsWrittenOperand v

-- a text within a line
pub record IsComment (text : List ℕ) : Type 0 where
  pub in_line : AllByRecursion (λ b. is_line_end b ≡ false) text
  pub utf8 : IsUtf8 text

pub record IsPrintable (b : Builder) : Type 0 where
  pub key : IsComment b.key
  pub type : IsClassName b.type
  pub lines : AllByRecursion IsPrintableLine b.lines

abbrev pub ArePrintable : List Builder → Type 0
ArePrintable bs = AllByRecursion IsPrintable bs
