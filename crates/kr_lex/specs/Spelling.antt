-- To be believed: how tokens are written that have one spelling: keywords, the literals that are words, separators and operators
-- (Java Language Specification 3.9 to 3.12).
use Rattle.std.specs.Prelude.{List, ℕ, [], codes, Bool, true, false}
use Rattle.kr_lex.specs.declared.kind.Kind.{Kind}
use Rattle.kr_lex.specs.declared.kind.Kind.TheVariants as kinds

-- its spelling; empty for the three kinds that have many spellings, and for those that occur only in contract lines
unfoldable pub spelling : Kind → List ℕ
spelling kinds.Identifier = []
spelling kinds.Number = []
spelling kinds.LongNumber = []
spelling kinds.True = codes "true"
spelling kinds.False = codes "false"
spelling kinds.Null = codes "null"
spelling kinds.Boolean = codes "boolean"
spelling kinds.Break = codes "break"
spelling kinds.Catch = codes "catch"
spelling kinds.Class = codes "class"
spelling kinds.Continue = codes "continue"
spelling kinds.Do = codes "do"
spelling kinds.Else = codes "else"
spelling kinds.Extends = codes "extends"
spelling kinds.Final = codes "final"
spelling kinds.For = codes "for"
spelling kinds.If = codes "if"
spelling kinds.Import = codes "import"
spelling kinds.Instanceof = codes "instanceof"
spelling kinds.Int = codes "int"
spelling kinds.Long = codes "long"
spelling kinds.New = codes "new"
spelling kinds.Package = codes "package"
spelling kinds.Private = codes "private"
spelling kinds.Protected = codes "protected"
spelling kinds.Public = codes "public"
spelling kinds.Return = codes "return"
spelling kinds.Static = codes "static"
spelling kinds.Super = codes "super"
spelling kinds.This = codes "this"
spelling kinds.Throw = codes "throw"
spelling kinds.Try = codes "try"
spelling kinds.Void = codes "void"
spelling kinds.While = codes "while"
spelling kinds.Abstract = codes "abstract"
spelling kinds.Assert = codes "assert"
spelling kinds.Byte = codes "byte"
spelling kinds.Case = codes "case"
spelling kinds.Char = codes "char"
spelling kinds.Const = codes "const"
spelling kinds.Default = codes "default"
spelling kinds.Double = codes "double"
spelling kinds.Enum = codes "enum"
spelling kinds.Finally = codes "finally"
spelling kinds.Float = codes "float"
spelling kinds.Goto = codes "goto"
spelling kinds.Implements = codes "implements"
spelling kinds.Interface = codes "interface"
spelling kinds.Native = codes "native"
spelling kinds.Short = codes "short"
spelling kinds.Strictfp = codes "strictfp"
spelling kinds.Switch = codes "switch"
spelling kinds.Synchronized = codes "synchronized"
spelling kinds.Throws = codes "throws"
spelling kinds.Transient = codes "transient"
spelling kinds.Volatile = codes "volatile"
spelling kinds.LeftParenthesis = codes "("
spelling kinds.RightParenthesis = codes ")"
spelling kinds.LeftBrace = codes "{"
spelling kinds.RightBrace = codes "}"
spelling kinds.LeftBracket = codes "["
spelling kinds.RightBracket = codes "]"
spelling kinds.Semicolon = codes ";"
spelling kinds.Comma = codes ","
spelling kinds.Dot = codes "."
spelling kinds.At = codes "@"
spelling kinds.Equal = codes "="
spelling kinds.Greater = codes ">"
spelling kinds.Less = codes "<"
spelling kinds.Exclamation = codes "!"
spelling kinds.Tilde = codes "~"
spelling kinds.Question = codes "?"
spelling kinds.Colon = codes ":"
spelling kinds.EqualEqual = codes "=="
spelling kinds.GreaterEqual = codes ">="
spelling kinds.LessEqual = codes "<="
spelling kinds.ExclamationEqual = codes "!="
spelling kinds.AmpersandAmpersand = codes "&&"
spelling kinds.BarBar = codes "||"
spelling kinds.PlusPlus = codes "++"
spelling kinds.MinusMinus = codes "--"
spelling kinds.Plus = codes "+"
spelling kinds.Minus = codes "-"
spelling kinds.Star = codes "*"
spelling kinds.Slash = codes "/"
spelling kinds.Ampersand = codes "&"
spelling kinds.Bar = codes "|"
spelling kinds.Caret = codes "^"
spelling kinds.Percent = codes "%"
spelling kinds.LessLess = codes "<<"
spelling kinds.GreaterGreater = codes ">>"
spelling kinds.GreaterGreaterGreater = codes ">>>"
spelling kinds.PlusEqual = codes "+="
spelling kinds.MinusEqual = codes "-="
spelling kinds.StarEqual = codes "*="
spelling kinds.SlashEqual = codes "/="
spelling kinds.AmpersandEqual = codes "&="
spelling kinds.BarEqual = codes "|="
spelling kinds.CaretEqual = codes "^="
spelling kinds.PercentEqual = codes "%="
spelling kinds.LessLessEqual = codes "<<="
spelling kinds.GreaterGreaterEqual = codes ">>="
spelling kinds.GreaterGreaterGreaterEqual = codes ">>>="
spelling _ = []

-- a keyword of Java that the language doesn't use
unfoldable pub is_outside_profile : Kind → Bool
is_outside_profile kinds.Abstract = true
is_outside_profile kinds.Assert = true
is_outside_profile kinds.Byte = true
is_outside_profile kinds.Case = true
is_outside_profile kinds.Char = true
is_outside_profile kinds.Const = true
is_outside_profile kinds.Default = true
is_outside_profile kinds.Double = true
is_outside_profile kinds.Enum = true
is_outside_profile kinds.Finally = true
is_outside_profile kinds.Float = true
is_outside_profile kinds.Goto = true
is_outside_profile kinds.Implements = true
is_outside_profile kinds.Interface = true
is_outside_profile kinds.Native = true
is_outside_profile kinds.Short = true
is_outside_profile kinds.Strictfp = true
is_outside_profile kinds.Switch = true
is_outside_profile kinds.Synchronized = true
is_outside_profile kinds.Throws = true
is_outside_profile kinds.Transient = true
is_outside_profile kinds.Volatile = true
is_outside_profile _ = false
