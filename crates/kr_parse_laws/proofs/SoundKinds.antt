-- The facts on a token's kind that its terminal implies.
use Rattle.std.proofs.Common.{◌≡◌, ℕ, true, List, ◌∷◌, Some, refl}
use Rattle.std.proofs.Math.Path.{subst}
use Rattle.kr_base.specs.declared.place.Place.{Place}
use Rattle.kr_lex.specs.Lexemes.{Lexeme}
use Rattle.kr_lex.specs.declared.kind.Kind.{Kind}
use Rattle.kr_lex.specs.declared.kind.Kind.TheVariants as kinds
use Rattle.kr_ast.specs.Tree as trees
use Rattle.kr_ast.specs.Tree.{Tree}
use Rattle.kr_parse_grammar.specs.declared.terminal.Terminal.{Terminal}
use Rattle.kr_parse_grammar.specs.declared.terminal.Terminal.TheVariants as terminals
use Rattle.kr_parse_grammar.specs.declared.value.Form.TheVariants as forms
use Rattle.kr_parse_grammar.specs.TokenMeanings.{primitive_of, sign_of, step_before, step_behind, complement_of, binary_of, level, compound_of, is_access}
use Rattle.kr_parse_grammar.specs.Terminals.{terminal_of}
use Rattle.kr_parse_grammar.specs.Made.{the_primitive, the_unary, the_step_before, the_step_behind, the_binary, the_compound, assigned, literal_of}
use Rattle.kr_parse_grammar.specs.Grammar.{Der, Primary, number, long_number, truth, falsity, result_value, null, this}

-- an operator between two operands, of this level
abbrev pub IsBinary : ℕ → Kind → Type 0
IsBinary l x = (binary_of x ≡ Some (the_binary x)) × (level (the_binary x) ≡ l)

-- an operator that assigns
abbrev pub IsCompound : Kind → Type 0
IsCompound x = (compound_of x ≡ Some (the_compound x)) × ((p : Place) (t u : Tree) → assigned x p t u ≡ trees.CompoundAssignment p (the_compound x) t u)

-- a token of this kind is a literal
abbrev pub IsLiteral : Kind → Type 0
IsLiteral x = (a : Lexeme) (r : List Lexeme) → a.kind ≡ x → Der (Primary forms.Other) (a ∷ r) (literal_of x a.place a.text) r

-- the kinds of a terminal
abbrev pub Kinds : Terminal → Kind → Type 0
Kinds terminals.End x = Unit {0}
Kinds terminals.Identifier x = x ≡ kinds.Identifier
Kinds terminals.Literal x = IsLiteral x
Kinds terminals.Primitive x = primitive_of x ≡ Some (the_primitive x)
Kinds terminals.Access x = is_access x ≡ true
Kinds terminals.Static x = x ≡ kinds.Static
Kinds terminals.Final x = x ≡ kinds.Final
Kinds terminals.Package x = x ≡ kinds.Package
Kinds terminals.Import x = x ≡ kinds.Import
Kinds terminals.Class x = x ≡ kinds.Class
Kinds terminals.Extends x = x ≡ kinds.Extends
Kinds terminals.Void x = x ≡ kinds.Void
Kinds terminals.New x = x ≡ kinds.New
Kinds terminals.Super x = x ≡ kinds.Super
Kinds terminals.Instanceof x = x ≡ kinds.Instanceof
Kinds terminals.Return x = x ≡ kinds.Return
Kinds terminals.Break x = x ≡ kinds.Break
Kinds terminals.Continue x = x ≡ kinds.Continue
Kinds terminals.If x = x ≡ kinds.If
Kinds terminals.Else x = x ≡ kinds.Else
Kinds terminals.While x = x ≡ kinds.While
Kinds terminals.Do x = x ≡ kinds.Do
Kinds terminals.For x = x ≡ kinds.For
Kinds terminals.Throw x = x ≡ kinds.Throw
Kinds terminals.Try x = x ≡ kinds.Try
Kinds terminals.Catch x = x ≡ kinds.Catch
Kinds terminals.LeftParenthesis x = x ≡ kinds.LeftParenthesis
Kinds terminals.RightParenthesis x = x ≡ kinds.RightParenthesis
Kinds terminals.LeftBrace x = x ≡ kinds.LeftBrace
Kinds terminals.RightBrace x = x ≡ kinds.RightBrace
Kinds terminals.LeftBracket x = x ≡ kinds.LeftBracket
Kinds terminals.RightBracket x = x ≡ kinds.RightBracket
Kinds terminals.Semicolon x = x ≡ kinds.Semicolon
Kinds terminals.Comma x = x ≡ kinds.Comma
Kinds terminals.Dot x = x ≡ kinds.Dot
Kinds terminals.At x = x ≡ kinds.At
Kinds terminals.Question x = x ≡ kinds.Question
Kinds terminals.Colon x = x ≡ kinds.Colon
Kinds terminals.Equal x = x ≡ kinds.Equal
Kinds terminals.Compound x = IsCompound x
Kinds terminals.Less x = x ≡ kinds.Less
Kinds terminals.Greater x = x ≡ kinds.Greater
Kinds terminals.Star x = x ≡ kinds.Star
Kinds terminals.Sign x = (sign_of x ≡ Some (the_unary x)) × (binary_of x ≡ Some (the_binary x)) × (level (the_binary x) ≡ 9)
Kinds terminals.Step x = (step_before x ≡ Some (the_step_before x)) × (step_behind x ≡ Some (the_step_behind x))
Kinds terminals.Complement x = complement_of x ≡ Some (the_unary x)
Kinds terminals.Or x = IsBinary 1 x
Kinds terminals.And x = IsBinary 2 x
Kinds terminals.BitOr x = IsBinary 3 x
Kinds terminals.BitXor x = IsBinary 4 x
Kinds terminals.BitAnd x = IsBinary 5 x
Kinds terminals.Equality x = IsBinary 6 x
Kinds terminals.Relation x = IsBinary 7 x
Kinds terminals.Shift x = IsBinary 8 x
Kinds terminals.Division x = IsBinary 10 x
Kinds terminals.Contract x = x ≡ kinds.Contract
Kinds terminals.Requires x = x ≡ kinds.Requires
Kinds terminals.Ensures x = x ≡ kinds.Ensures
Kinds terminals.Signals x = x ≡ kinds.Signals
Kinds terminals.Old x = x ≡ kinds.Old
Kinds terminals.Outside x = Unit {0}

kinds_are : (x : Kind) → Kinds (terminal_of x) x
kinds_are kinds.Identifier = refl
kinds_are kinds.Number = λ a r e. number a e
kinds_are kinds.LongNumber = λ a r e. long_number a e
kinds_are kinds.True = λ a r e. truth a e
kinds_are kinds.False = λ a r e. falsity a e
kinds_are kinds.Null = λ a r e. null a e
kinds_are kinds.Boolean = refl
kinds_are kinds.Break = refl
kinds_are kinds.Class = refl
kinds_are kinds.Continue = refl
kinds_are kinds.Do = refl
kinds_are kinds.Else = refl
kinds_are kinds.Extends = refl
kinds_are kinds.Final = refl
kinds_are kinds.For = refl
kinds_are kinds.If = refl
kinds_are kinds.Import = refl
kinds_are kinds.Instanceof = refl
kinds_are kinds.Int = refl
kinds_are kinds.Long = refl
kinds_are kinds.New = refl
kinds_are kinds.Package = refl
kinds_are kinds.Private = refl
kinds_are kinds.Protected = refl
kinds_are kinds.Public = refl
kinds_are kinds.Return = refl
kinds_are kinds.Static = refl
kinds_are kinds.Super = refl
kinds_are kinds.This = λ a r e. this a e
kinds_are kinds.Void = refl
kinds_are kinds.While = refl
kinds_are kinds.Abstract = tt
kinds_are kinds.Assert = tt
kinds_are kinds.Byte = tt
kinds_are kinds.Case = tt
kinds_are kinds.Catch = refl
kinds_are kinds.Char = tt
kinds_are kinds.Const = tt
kinds_are kinds.Default = tt
kinds_are kinds.Double = tt
kinds_are kinds.Enum = tt
kinds_are kinds.Finally = tt
kinds_are kinds.Float = tt
kinds_are kinds.Goto = tt
kinds_are kinds.Implements = tt
kinds_are kinds.Interface = tt
kinds_are kinds.Native = tt
kinds_are kinds.Short = tt
kinds_are kinds.Strictfp = tt
kinds_are kinds.Switch = tt
kinds_are kinds.Synchronized = tt
kinds_are kinds.Throw = refl
kinds_are kinds.Throws = tt
kinds_are kinds.Transient = tt
kinds_are kinds.Try = refl
kinds_are kinds.Volatile = tt
kinds_are kinds.Contract = refl
kinds_are kinds.Requires = refl
kinds_are kinds.Ensures = refl
kinds_are kinds.Signals = refl
kinds_are kinds.Result = λ a r e. result_value a e
kinds_are kinds.Old = refl
kinds_are kinds.LeftParenthesis = refl
kinds_are kinds.RightParenthesis = refl
kinds_are kinds.LeftBrace = refl
kinds_are kinds.RightBrace = refl
kinds_are kinds.LeftBracket = refl
kinds_are kinds.RightBracket = refl
kinds_are kinds.Semicolon = refl
kinds_are kinds.Comma = refl
kinds_are kinds.Dot = refl
kinds_are kinds.At = refl
kinds_are kinds.Equal = refl
kinds_are kinds.Greater = refl
kinds_are kinds.Less = refl
kinds_are kinds.Exclamation = refl
kinds_are kinds.Tilde = refl
kinds_are kinds.Question = refl
kinds_are kinds.Colon = refl
kinds_are kinds.EqualEqual = (refl, refl)
kinds_are kinds.GreaterEqual = (refl, refl)
kinds_are kinds.LessEqual = (refl, refl)
kinds_are kinds.ExclamationEqual = (refl, refl)
kinds_are kinds.AmpersandAmpersand = (refl, refl)
kinds_are kinds.BarBar = (refl, refl)
kinds_are kinds.PlusPlus = (refl, refl)
kinds_are kinds.MinusMinus = (refl, refl)
kinds_are kinds.Plus = (refl, refl, refl)
kinds_are kinds.Minus = (refl, refl, refl)
kinds_are kinds.Star = refl
kinds_are kinds.Slash = (refl, refl)
kinds_are kinds.Ampersand = (refl, refl)
kinds_are kinds.Bar = (refl, refl)
kinds_are kinds.Caret = (refl, refl)
kinds_are kinds.Percent = (refl, refl)
kinds_are kinds.LessLess = (refl, refl)
kinds_are kinds.GreaterGreater = (refl, refl)
kinds_are kinds.GreaterGreaterGreater = (refl, refl)
kinds_are kinds.PlusEqual = (refl, λ p t u. refl)
kinds_are kinds.MinusEqual = (refl, λ p t u. refl)
kinds_are kinds.StarEqual = (refl, λ p t u. refl)
kinds_are kinds.SlashEqual = (refl, λ p t u. refl)
kinds_are kinds.AmpersandEqual = (refl, λ p t u. refl)
kinds_are kinds.BarEqual = (refl, λ p t u. refl)
kinds_are kinds.CaretEqual = (refl, λ p t u. refl)
kinds_are kinds.PercentEqual = (refl, λ p t u. refl)
kinds_are kinds.LessLessEqual = (refl, λ p t u. refl)
kinds_are kinds.GreaterGreaterEqual = (refl, λ p t u. refl)
kinds_are kinds.GreaterGreaterGreaterEqual = (refl, λ p t u. refl)

-- the kind of a token whose terminal is known
pub kind_of : (x : Kind) (k : Terminal) → terminal_of x ≡ k → Kinds k x
kind_of x k e = subst (λ t. Kinds t x) e (kinds_are x)
