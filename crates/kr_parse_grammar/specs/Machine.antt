-- Between crates: the machine. It takes tokens from a stack of symbols and the values so far, with one token of
-- lookahead.
use Rattle.std.specs.Prelude.{◌≡◌, ℕ, zero, suc, ◌+◌, Bool, true, false, if◌then◌else◌, nat_lt, List, [], ◌∷◌, ◌++◌, Option, Some, None}
use Rattle.kr_lex.specs.Lexemes.{Lexeme}
use Rattle.kr_parse_grammar.specs.declared.terminal.Terminal.{Terminal}
use Rattle.kr_parse_grammar.specs.declared.terminal.Terminal.TheVariants.{End, Identifier, Literal, Primitive, Access, Static, Final, Package, Import, Class, Extends, Void, New, Super, Instanceof, Return, Break, Continue, If, Else, While, Do, For, Throw, Try, Catch, LeftParenthesis, RightParenthesis, LeftBrace, RightBrace, LeftBracket, RightBracket, Semicolon, Comma, Dot, At, Question, Colon, Equal, Compound, Less, Greater, Star, Sign, Step, Complement, Or, And, BitOr, BitXor, BitAnd, Equality, Relation, Shift, Division, Contract, Requires, Ensures, Signals, Old}
use Rattle.kr_parse_grammar.specs.declared.value.Tag.{Tag}
use Rattle.kr_parse_grammar.specs.declared.value.Tag.TheVariants as tags
use Rattle.kr_parse_grammar.specs.declared.value.Form.TheVariants as forms
use Rattle.kr_parse_grammar.specs.declared.goal.Spelled.{Spelled}
use Rattle.kr_parse_grammar.specs.declared.goal.Spelled.TheVariants as spelled
use Rattle.kr_parse_grammar.specs.declared.goal.Goal.{Goal}
use Rattle.kr_parse_grammar.specs.declared.goal.Goal.TheVariants as goals
use Rattle.kr_parse_grammar.specs.declared.goal.Make.{Make}
use Rattle.kr_parse_grammar.specs.declared.goal.Make.TheVariants as makes
use Rattle.kr_parse_grammar.specs.declared.goal.Symbol.{Symbol}
use Rattle.kr_parse_grammar.specs.declared.goal.Symbol.TheVariants.{Take, Keep, Word, Literal as Leaf, Spell, Want, Build}
use Rattle.kr_parse_grammar.specs.TokenMeanings.{java, util, override}
use Rattle.kr_parse_grammar.specs.Terminals.{terminal_of}
use Rattle.kr_parse_grammar.specs.Values.{StackItem, mark, word, part, tag}
use Rattle.kr_parse_grammar.specs.Made.{made, literal}

-- the token ahead
abbrev pub ahead : List Lexeme → Terminal
ahead [] = End
ahead (a ∷ i) = terminal_of a.kind

abbrev pub starts_unsigned : Terminal → Bool
starts_unsigned Identifier = true
starts_unsigned Literal = true
starts_unsigned LeftParenthesis = true
starts_unsigned New = true
starts_unsigned Super = true
starts_unsigned Old = true
starts_unsigned Complement = true
starts_unsigned _ = false

abbrev pub starts_unary : Terminal → Bool
starts_unary Sign = true
starts_unary Step = true
starts_unary k = starts_unsigned k

-- the tokens that may follow an expression
abbrev pub ends_expression : Terminal → Bool
ends_expression RightParenthesis = true
ends_expression RightBracket = true
ends_expression Semicolon = true
ends_expression Comma = true
ends_expression Question = true
ends_expression Colon = true
ends_expression _ = false

-- how tightly the operators of a terminal bind, 0 where it has none
abbrev pub level_of : Terminal → ℕ
level_of Or = 1
level_of And = 2
level_of BitOr = 3
level_of BitXor = 4
level_of BitAnd = 5
level_of Equality = 6
level_of Less = 7
level_of Greater = 7
level_of Relation = 7
level_of Instanceof = 7
level_of Shift = 8
level_of Sign = 9
level_of Star = 10
level_of Division = 10
level_of _ = 0

-- an operator and its right operand, and what may follow
abbrev pub infix_body : ℕ → Terminal → List Symbol
infix_body n Instanceof = Take Instanceof ∷ Want goals.Tested ∷ Want (goals.Operators n 7) ∷ []
infix_body n k = Keep k ∷ Want goals.Unary ∷ Want (goals.Operators (level_of k + 1) 10) ∷ Build makes.Binary ∷ Want (goals.Operators n (level_of k)) ∷ []

abbrev pub operators_rule : ℕ → ℕ → Terminal → ℕ → Option (List Symbol)
operators_rule n x k zero = if ends_expression k then Some [] else None
operators_rule n x k (suc l) = if nat_lt (suc l) n then Some [] else if nat_lt x (suc l) then None else Some (infix_body n k)

-- the rule for a goal, by the token ahead and the values on top
abbrev pub rule : Goal → Terminal → Tag → Option (List Symbol)
rule goals.File Package q = Some (Take Package ∷ Take Identifier ∷ Want goals.Dotted ∷ Take Semicolon ∷ Want goals.Imports ∷ [])
rule goals.File k q = Some (Want goals.Imports ∷ [])
rule goals.Dotted Dot q = Some (Take Dot ∷ Take Identifier ∷ Want goals.Dotted ∷ [])
rule goals.Dotted k q = Some []
rule goals.Imports Import q = Some (Take Import ∷ Spell spelled.Java ∷ Take Dot ∷ Spell spelled.Util ∷ Take Dot ∷ Want goals.Imported ∷ Take Semicolon ∷ Want goals.Imports ∷ [])
rule goals.Imports k q = Some (Want goals.Classes ∷ [])
rule goals.Imported Identifier q = Some (Take Identifier ∷ [])
rule goals.Imported Star q = Some (Take Star ∷ [])
rule goals.Imported k q = None
rule goals.Classes End q = Some (Build makes.Nil ∷ [])
rule goals.Classes Semicolon q = Some (Take Semicolon ∷ Want goals.Classes ∷ [])
rule goals.Classes k q = Some (Want goals.ClassAhead ∷ Want goals.Classes ∷ Build makes.Cons ∷ [])
rule goals.ClassAhead Access q = Some (Take Access ∷ Want goals.ClassAhead ∷ [])
rule goals.ClassAhead Static q = Some (Take Static ∷ Want goals.ClassAhead ∷ [])
rule goals.ClassAhead Final q = Some (Take Final ∷ Want goals.ClassAhead ∷ [])
rule goals.ClassAhead Class q = Some (Take Class ∷ Word ∷ Want goals.Extended ∷ Build makes.Owner ∷ Build makes.MemberAhead ∷ Take LeftBrace ∷ Want goals.Members ∷ Take RightBrace ∷ Build makes.Class ∷ [])
rule goals.ClassAhead k q = None
rule goals.Extended Extends q = Some (Take Extends ∷ Word ∷ Want goals.ClassTail ∷ [])
rule goals.Extended k q = Some (Build makes.Nil ∷ [])
rule goals.ClassTail Dot q = Some (Take Dot ∷ Word ∷ Build makes.Pair ∷ Build makes.TypeOfName ∷ [])
rule goals.ClassTail k q = Some (Build makes.TypeOfName ∷ [])
rule goals.Members RightBrace q = Some (Build makes.EndMembers ∷ [])
rule goals.Members Semicolon q = Some (Take Semicolon ∷ Want goals.Members ∷ [])
rule goals.Members Contract q = Some (Keep Contract ∷ Want goals.Contract ∷ Want goals.Contracts ∷ Build makes.Cons ∷ Build makes.Swap ∷ Want goals.MethodAhead ∷ Build makes.Swap ∷ Build makes.MemberAhead ∷ Want goals.Members ∷ Build makes.ConsBelow ∷ [])
rule goals.Members k q = Some (Want goals.Member ∷ Build makes.Swap ∷ Build makes.MemberAhead ∷ Want goals.Members ∷ Build makes.ConsBelow ∷ [])
rule goals.Member Access q = Some (Take Access ∷ Want goals.Member ∷ [])
rule goals.Member Static q = Some (Take Static ∷ Build makes.SetStatic ∷ Want goals.Member ∷ [])
rule goals.Member Final q = Some (Take Final ∷ Build makes.SetFinal ∷ Want goals.Member ∷ [])
rule goals.Member At q = Some (Take At ∷ Spell spelled.Override ∷ Build makes.SetOverrides ∷ Want goals.Member ∷ [])
rule goals.Member Void q = Some (Keep Void ∷ Build makes.TypeOfMark ∷ Word ∷ Want goals.Method ∷ [])
rule goals.Member Class tags.Nestable = Some (Take Class ∷ Word ∷ Want goals.Extended ∷ Build makes.NestedOwner ∷ Build makes.MemberAhead ∷ Take LeftBrace ∷ Want goals.Members ∷ Take RightBrace ∷ Build makes.Class ∷ Build makes.Nested ∷ [])
rule goals.Member Primitive tags.Overriding = Some (Want goals.Type ∷ Word ∷ Want goals.Method ∷ [])
rule goals.Member Identifier tags.Overriding = Some (Want goals.Type ∷ Word ∷ Want goals.Method ∷ [])
rule goals.Member Primitive q = Some (Want goals.Type ∷ Word ∷ Want goals.FieldOrMethod ∷ [])
rule goals.Member Identifier q = Some (Word ∷ Want goals.MemberName ∷ [])
rule goals.Member k q = None
rule goals.Contracts Contract q = Some (Keep Contract ∷ Want goals.Contract ∷ Want goals.Contracts ∷ Build makes.Cons ∷ [])
rule goals.Contracts k q = Some (Build makes.Nil ∷ [])
rule goals.Contract Requires q = Some (Take Requires ∷ Want goals.Expression ∷ Take Semicolon ∷ Build makes.Requires ∷ [])
rule goals.Contract Ensures q = Some (Take Ensures ∷ Want goals.Expression ∷ Take Semicolon ∷ Build makes.Ensures ∷ [])
rule goals.Contract Signals q = Some (Take Signals ∷ Take LeftParenthesis ∷ Word ∷ Want goals.ClassTail ∷ Want goals.ThrownName ∷ Take RightParenthesis ∷ Want goals.Expression ∷ Take Semicolon ∷ Build makes.Signals ∷ [])
rule goals.Contract k q = None
rule goals.ThrownName Identifier q = Some (Word ∷ Build makes.Parameter ∷ [])
rule goals.ThrownName k q = Some []
rule goals.MethodAhead Access q = Some (Take Access ∷ Want goals.MethodAhead ∷ [])
rule goals.MethodAhead Static q = Some (Take Static ∷ Build makes.SetStatic ∷ Want goals.MethodAhead ∷ [])
rule goals.MethodAhead Final q = Some (Take Final ∷ Build makes.SetFinal ∷ Want goals.MethodAhead ∷ [])
rule goals.MethodAhead At q = Some (Take At ∷ Spell spelled.Override ∷ Build makes.SetOverrides ∷ Want goals.MethodAhead ∷ [])
rule goals.MethodAhead Void q = Some (Keep Void ∷ Build makes.TypeOfMark ∷ Word ∷ Want goals.ContractedMethod ∷ [])
rule goals.MethodAhead Primitive q = Some (Want goals.Type ∷ Word ∷ Want goals.ContractedMethod ∷ [])
rule goals.MethodAhead Identifier q = Some (Want goals.Type ∷ Word ∷ Want goals.ContractedMethod ∷ [])
rule goals.MethodAhead k q = None
rule goals.ContractedMethod k q = Some (Take LeftParenthesis ∷ Want goals.Parameters ∷ Take RightParenthesis ∷ Take LeftBrace ∷ Want goals.Statements ∷ Take RightBrace ∷ Build makes.ContractedMethod ∷ [])
rule goals.MemberName LeftParenthesis tags.Constructor = Some (Take LeftParenthesis ∷ Want goals.Parameters ∷ Take RightParenthesis ∷ Take LeftBrace ∷ Want goals.ConstructorBody ∷ Take RightBrace ∷ Build makes.Constructor ∷ [])
rule goals.MemberName Dot q = Some (Take Dot ∷ Word ∷ Build makes.Pair ∷ Want goals.TypeTail ∷ Word ∷ Want goals.FieldOrMethod ∷ [])
rule goals.MemberName Less q = Some (Want goals.TypeTail ∷ Word ∷ Want goals.FieldOrMethod ∷ [])
rule goals.MemberName LeftBracket q = Some (Want goals.TypeTail ∷ Word ∷ Want goals.FieldOrMethod ∷ [])
rule goals.MemberName Identifier q = Some (Want goals.TypeTail ∷ Word ∷ Want goals.FieldOrMethod ∷ [])
rule goals.MemberName k q = None
rule goals.Method LeftParenthesis q = Some (Take LeftParenthesis ∷ Want goals.Parameters ∷ Take RightParenthesis ∷ Take LeftBrace ∷ Want goals.Statements ∷ Take RightBrace ∷ Build makes.Method ∷ [])
rule goals.Method k q = None
rule goals.FieldOrMethod LeftParenthesis q = Some (Want goals.Method ∷ [])
rule goals.FieldOrMethod Equal q = Some (Want goals.Initialiser ∷ Build makes.Declarator ∷ Want goals.MoreDeclarators ∷ Take Semicolon ∷ Build makes.Field ∷ [])
rule goals.FieldOrMethod Comma q = Some (Want goals.Initialiser ∷ Build makes.Declarator ∷ Want goals.MoreDeclarators ∷ Take Semicolon ∷ Build makes.Field ∷ [])
rule goals.FieldOrMethod Semicolon q = Some (Want goals.Initialiser ∷ Build makes.Declarator ∷ Want goals.MoreDeclarators ∷ Take Semicolon ∷ Build makes.Field ∷ [])
rule goals.FieldOrMethod k q = None
rule goals.Parameters RightParenthesis q = Some (Build makes.Nil ∷ [])
rule goals.Parameters k q = Some (Want goals.Parameter ∷ Want goals.MoreParameters ∷ [])
rule goals.Parameter Final q = Some (Take Final ∷ Want goals.Type ∷ Word ∷ Build makes.Parameter ∷ [])
rule goals.Parameter k q = Some (Want goals.Type ∷ Word ∷ Build makes.Parameter ∷ [])
rule goals.MoreParameters Comma q = Some (Take Comma ∷ Want goals.Parameter ∷ Want goals.MoreParameters ∷ Build makes.Cons ∷ [])
rule goals.MoreParameters k q = Some (Build makes.Nil ∷ Build makes.Cons ∷ [])
rule goals.ConstructorBody Super q = Some (Keep Super ∷ Want goals.AfterSuper ∷ [])
rule goals.ConstructorBody k q = Some (Build makes.Nil ∷ Want goals.Statements ∷ [])
rule goals.AfterSuper LeftParenthesis q = Some (Take LeftParenthesis ∷ Want goals.Arguments ∷ Take RightParenthesis ∷ Take Semicolon ∷ Build makes.ConstructorCall ∷ Want goals.Statements ∷ [])
rule goals.AfterSuper Dot q = Some (Build makes.Nil ∷ Build makes.Swap ∷ Take Dot ∷ Word ∷ Take LeftParenthesis ∷ Want goals.Arguments ∷ Take RightParenthesis ∷ Build makes.SuperCall ∷ Want goals.Suffixes ∷ Want goals.AfterStatementPrimary ∷ Build makes.ExpressionStatement ∷ Take Semicolon ∷ Want goals.Statements ∷ Build makes.Cons ∷ [])
rule goals.AfterSuper k q = None
rule goals.Type Primitive q = Some (Keep Primitive ∷ Build makes.TypeOfMark ∷ Want goals.Dimensions ∷ [])
rule goals.Type Identifier q = Some (Word ∷ Want goals.TypeName ∷ [])
rule goals.Type k q = None
rule goals.TypeName Dot q = Some (Take Dot ∷ Word ∷ Build makes.Pair ∷ Want goals.TypeTail ∷ [])
rule goals.TypeName k q = Some (Want goals.TypeTail ∷ [])
rule goals.TypeTail Less q = Some (Take Less ∷ Want goals.Type ∷ Take Greater ∷ Build makes.Generic ∷ Want goals.Dimensions ∷ [])
rule goals.TypeTail k q = Some (Build makes.TypeOfName ∷ Want goals.Dimensions ∷ [])
rule goals.Dimensions LeftBracket q = Some (Take LeftBracket ∷ Take RightBracket ∷ Build makes.Array ∷ Want goals.Dimensions ∷ [])
rule goals.Dimensions k q = Some []
rule goals.Initialiser Equal q = Some (Take Equal ∷ Want goals.Expression ∷ [])
rule goals.Initialiser k q = Some (Build makes.Nil ∷ [])
rule goals.MoreDeclarators Comma q = Some (Take Comma ∷ Word ∷ Want goals.Initialiser ∷ Build makes.Declarator ∷ Want goals.MoreDeclarators ∷ Build makes.Cons ∷ [])
rule goals.MoreDeclarators k q = Some (Build makes.Nil ∷ Build makes.Cons ∷ [])
rule goals.AfterLocalName k q = Some (Want goals.Initialiser ∷ Build makes.Declarator ∷ Want goals.MoreDeclarators ∷ Build makes.Local ∷ [])
rule goals.Statements RightBrace q = Some (Build makes.Nil ∷ [])
rule goals.Statements k q = Some (Want goals.BlockStatement ∷ Want goals.Statements ∷ Build makes.Cons ∷ [])
rule goals.BlockStatement Final q = Some (Want goals.Item ∷ Take Semicolon ∷ [])
rule goals.BlockStatement Primitive q = Some (Want goals.Item ∷ Take Semicolon ∷ [])
rule goals.BlockStatement Identifier q = Some (Want goals.Item ∷ Take Semicolon ∷ [])
rule goals.BlockStatement k q = Some (Want goals.Statement ∷ [])
rule goals.Item Final q = Some (Take Final ∷ Want goals.Type ∷ Word ∷ Want goals.AfterLocalName ∷ [])
rule goals.Item Primitive q = Some (Want goals.Type ∷ Word ∷ Want goals.AfterLocalName ∷ [])
rule goals.Item Identifier q = Some (Word ∷ Want goals.ItemName ∷ [])
rule goals.Item k q = Some (Want goals.StatementExpression ∷ Build makes.ExpressionStatement ∷ [])
rule goals.ItemName Identifier q = Some (Build makes.TypeOfName ∷ Word ∷ Want goals.AfterLocalName ∷ [])
rule goals.ItemName Less q = Some (Take Less ∷ Want goals.Type ∷ Take Greater ∷ Build makes.Generic ∷ Want goals.Dimensions ∷ Word ∷ Want goals.AfterLocalName ∷ [])
rule goals.ItemName LeftBracket q = Some (Take LeftBracket ∷ Want goals.ItemBracket ∷ [])
rule goals.ItemName LeftParenthesis q = Some (Take LeftParenthesis ∷ Want goals.Arguments ∷ Take RightParenthesis ∷ Build makes.CallOfName ∷ Want goals.Suffixes ∷ Want goals.AfterStatementPrimary ∷ Build makes.ExpressionStatement ∷ [])
rule goals.ItemName Dot tags.Word = Some (Take Dot ∷ Word ∷ Build makes.Pair ∷ Want goals.ItemName ∷ [])
rule goals.ItemName k q = Some (Build makes.Variable ∷ Want goals.Suffixes ∷ Want goals.AfterStatementPrimary ∷ Build makes.ExpressionStatement ∷ [])
rule goals.ItemBracket RightBracket q = Some (Build makes.TypeOfName ∷ Take RightBracket ∷ Build makes.Array ∷ Want goals.Dimensions ∷ Word ∷ Want goals.AfterLocalName ∷ [])
rule goals.ItemBracket k q = Some (Build makes.Variable ∷ Want goals.Expression ∷ Take RightBracket ∷ Build makes.ArrayAccess ∷ Want goals.Suffixes ∷ Want goals.AfterStatementPrimary ∷ Build makes.ExpressionStatement ∷ [])
rule goals.Statement LeftBrace q = Some (Keep LeftBrace ∷ Want goals.Statements ∷ Take RightBrace ∷ Build makes.Block ∷ [])
rule goals.Statement Semicolon q = Some (Keep Semicolon ∷ Build makes.Empty ∷ [])
rule goals.Statement Return q = Some (Keep Return ∷ Want goals.OptionalExpression ∷ Take Semicolon ∷ Build makes.Return ∷ [])
rule goals.Statement Break q = Some (Keep Break ∷ Take Semicolon ∷ Build makes.Jump ∷ [])
rule goals.Statement Continue q = Some (Keep Continue ∷ Take Semicolon ∷ Build makes.Jump ∷ [])
rule goals.Statement If q = Some (Keep If ∷ Take LeftParenthesis ∷ Want goals.Expression ∷ Take RightParenthesis ∷ Want goals.Statement ∷ Want goals.ElsePart ∷ [])
rule goals.Statement While q = Some (Keep While ∷ Take LeftParenthesis ∷ Want goals.Expression ∷ Take RightParenthesis ∷ Want goals.Statement ∷ Build makes.While ∷ [])
rule goals.Statement Do q = Some (Keep Do ∷ Want goals.Statement ∷ Take While ∷ Take LeftParenthesis ∷ Want goals.Expression ∷ Take RightParenthesis ∷ Take Semicolon ∷ Build makes.Do ∷ [])
rule goals.Statement For q = Some (Keep For ∷ Take LeftParenthesis ∷ Want goals.ForInitial ∷ Take Semicolon ∷ Want goals.OptionalExpression ∷ Take Semicolon ∷ Want goals.ForUpdates ∷ Take RightParenthesis ∷ Want goals.Statement ∷ Build makes.For ∷ [])
rule goals.Statement Throw q = Some (Keep Throw ∷ Want goals.Expression ∷ Take Semicolon ∷ Build makes.Throw ∷ [])
rule goals.Statement Try q = Some (Keep Try ∷ Keep LeftBrace ∷ Want goals.Statements ∷ Take RightBrace ∷ Build makes.Block ∷ Want goals.Catch ∷ Want goals.Catches ∷ Build makes.Cons ∷ Build makes.Try ∷ [])
rule goals.Statement k q = Some (Want goals.StatementExpression ∷ Build makes.ExpressionStatement ∷ Take Semicolon ∷ [])
rule goals.OptionalExpression Semicolon q = Some (Build makes.Nil ∷ [])
rule goals.OptionalExpression k q = Some (Want goals.Expression ∷ [])
rule goals.ElsePart Else q = Some (Take Else ∷ Want goals.Statement ∷ Build makes.IfElse ∷ [])
rule goals.ElsePart k q = Some (Build makes.IfThen ∷ [])
rule goals.Catch Catch q = Some (Keep Catch ∷ Take LeftParenthesis ∷ Want goals.CaughtParameter ∷ Take RightParenthesis ∷ Keep LeftBrace ∷ Want goals.Statements ∷ Take RightBrace ∷ Build makes.Block ∷ Build makes.Catch ∷ [])
rule goals.Catch k q = None
rule goals.Catches Catch q = Some (Want goals.Catch ∷ Want goals.Catches ∷ Build makes.Cons ∷ [])
rule goals.Catches k q = Some (Build makes.Nil ∷ [])
rule goals.CaughtParameter Final q = Some (Take Final ∷ Word ∷ Want goals.ClassTail ∷ Word ∷ Build makes.Parameter ∷ [])
rule goals.CaughtParameter k q = Some (Word ∷ Want goals.ClassTail ∷ Word ∷ Build makes.Parameter ∷ [])
rule goals.ForInitial Semicolon q = Some (Build makes.Nil ∷ [])
rule goals.ForInitial k q = Some (Want goals.Item ∷ Want goals.MoreInitial ∷ [])
rule goals.MoreInitial Comma tags.Local = None
rule goals.MoreInitial Comma q = Some (Take Comma ∷ Want goals.StatementExpression ∷ Build makes.ExpressionStatement ∷ Want goals.MoreInitial ∷ Build makes.Cons ∷ [])
rule goals.MoreInitial k q = Some (Build makes.Nil ∷ Build makes.Cons ∷ [])
rule goals.ForUpdates RightParenthesis q = Some (Build makes.Nil ∷ [])
rule goals.ForUpdates k q = Some (Want goals.StatementExpression ∷ Want goals.MoreUpdates ∷ [])
rule goals.MoreUpdates Comma q = Some (Take Comma ∷ Want goals.StatementExpression ∷ Want goals.MoreUpdates ∷ Build makes.Cons ∷ [])
rule goals.MoreUpdates k q = Some (Build makes.Nil ∷ Build makes.Cons ∷ [])
rule goals.StatementExpression Step q = Some (Keep Step ∷ Want goals.Unary ∷ Build makes.StepBefore ∷ [])
rule goals.StatementExpression k q = Some (Want goals.Primary ∷ Want goals.AfterStatementPrimary ∷ [])
rule goals.AfterStatementPrimary Step q = Some (Keep Step ∷ Build makes.StepBehind ∷ [])
rule goals.AfterStatementPrimary Equal tags.Target = Some (Keep Equal ∷ Want goals.Expression ∷ Build makes.Assign ∷ [])
rule goals.AfterStatementPrimary Compound tags.Target = Some (Keep Compound ∷ Want goals.Expression ∷ Build makes.Assign ∷ [])
rule goals.AfterStatementPrimary Equal q = None
rule goals.AfterStatementPrimary Compound q = None
rule goals.AfterStatementPrimary k tags.Invocation = Some []
rule goals.AfterStatementPrimary k q = None
rule goals.Primary Literal q = Some (Leaf ∷ Want goals.Suffixes ∷ [])
rule goals.Primary Identifier q = Some (Word ∷ Want goals.PrimaryName ∷ [])
rule goals.Primary LeftParenthesis q = Some (Keep LeftParenthesis ∷ Want goals.Expression ∷ Take RightParenthesis ∷ Build makes.Enclosed ∷ Want goals.Suffixes ∷ [])
rule goals.Primary Super q = Some (Keep Super ∷ Take Dot ∷ Word ∷ Take LeftParenthesis ∷ Want goals.Arguments ∷ Take RightParenthesis ∷ Build makes.SuperCall ∷ Want goals.Suffixes ∷ [])
rule goals.Primary Old q = Some (Keep Old ∷ Take LeftParenthesis ∷ Want goals.Expression ∷ Take RightParenthesis ∷ Build makes.Old ∷ Want goals.Suffixes ∷ [])
rule goals.Primary New q = Some (Keep New ∷ Want goals.Creator ∷ Want goals.Suffixes ∷ [])
rule goals.Primary k q = None
rule goals.PrimaryName LeftParenthesis q = Some (Take LeftParenthesis ∷ Want goals.Arguments ∷ Take RightParenthesis ∷ Build makes.CallOfName ∷ Want goals.Suffixes ∷ [])
rule goals.PrimaryName k q = Some (Build makes.Variable ∷ Want goals.Suffixes ∷ [])
rule goals.Creator Primitive q = Some (Keep Primitive ∷ Build makes.TypeOfMark ∷ Want goals.ArrayLength ∷ [])
rule goals.Creator Identifier q = Some (Word ∷ Want goals.CreatorName ∷ [])
rule goals.Creator k q = None
rule goals.CreatorName Dot tags.Word = Some (Take Dot ∷ Word ∷ Build makes.Pair ∷ Want goals.CreatorName ∷ [])
rule goals.CreatorName Less q = Some (Take Less ∷ Want goals.CreatorArgument ∷ [])
rule goals.CreatorName LeftParenthesis q = Some (Build makes.TypeOfName ∷ Want goals.ObjectCreation ∷ [])
rule goals.CreatorName LeftBracket q = Some (Build makes.TypeOfName ∷ Want goals.ArrayLength ∷ [])
rule goals.CreatorName k q = None
rule goals.CreatorArgument Greater q = Some (Take Greater ∷ Build makes.Diamond ∷ Want goals.ObjectCreation ∷ [])
rule goals.CreatorArgument k q = Some (Want goals.Type ∷ Take Greater ∷ Build makes.Generic ∷ Want goals.ObjectCreation ∷ [])
rule goals.ObjectCreation k q = Some (Take LeftParenthesis ∷ Want goals.Arguments ∷ Take RightParenthesis ∷ Build makes.ObjectCreation ∷ [])
rule goals.ArrayLength k q = Some (Take LeftBracket ∷ Want goals.Expression ∷ Take RightBracket ∷ Build makes.ArrayCreation ∷ [])
rule goals.Suffixes Dot q = Some (Take Dot ∷ Word ∷ Want goals.Selected ∷ [])
rule goals.Suffixes LeftBracket tags.ArrayCreation = None
rule goals.Suffixes LeftBracket q = Some (Take LeftBracket ∷ Want goals.Expression ∷ Take RightBracket ∷ Build makes.ArrayAccess ∷ Want goals.Suffixes ∷ [])
rule goals.Suffixes Identifier q = None
rule goals.Suffixes Literal q = None
rule goals.Suffixes LeftParenthesis q = None
rule goals.Suffixes New q = None
rule goals.Suffixes Super q = None
rule goals.Suffixes Old q = None
rule goals.Suffixes Complement q = None
rule goals.Suffixes k q = Some []
rule goals.Selected LeftParenthesis q = Some (Take LeftParenthesis ∷ Want goals.Arguments ∷ Take RightParenthesis ∷ Build makes.MethodCall ∷ Want goals.Suffixes ∷ [])
rule goals.Selected k q = Some (Build makes.FieldAccess ∷ Want goals.Suffixes ∷ [])
rule goals.Arguments RightParenthesis q = Some (Build makes.Nil ∷ [])
rule goals.Arguments k q = Some (Want goals.Expression ∷ Want goals.MoreArguments ∷ [])
rule goals.MoreArguments Comma q = Some (Take Comma ∷ Want goals.Expression ∷ Want goals.MoreArguments ∷ Build makes.Cons ∷ [])
rule goals.MoreArguments k q = Some (Build makes.Nil ∷ Build makes.Cons ∷ [])
rule goals.Expression k q = Some (Want goals.Unary ∷ Want goals.AfterUnary ∷ [])
rule goals.AfterUnary Equal tags.Target = Some (Keep Equal ∷ Want goals.Expression ∷ Build makes.Assign ∷ [])
rule goals.AfterUnary Compound tags.Target = Some (Keep Compound ∷ Want goals.Expression ∷ Build makes.Assign ∷ [])
rule goals.AfterUnary k q = Some (Want (goals.Operators 1 10) ∷ Want goals.AfterOperation ∷ [])
rule goals.AfterOperation Question q = Some (Take Question ∷ Want goals.Expression ∷ Take Colon ∷ Want goals.Conditional ∷ Build makes.Conditional ∷ [])
rule goals.AfterOperation k q = Some []
rule goals.Conditional k q = Some (Want goals.Unary ∷ Want (goals.Operators 1 10) ∷ Want goals.AfterOperation ∷ [])
rule goals.Unary Sign q = Some (Keep Sign ∷ Want goals.Unary ∷ Build makes.Unary ∷ [])
rule goals.Unary Step q = Some (Keep Step ∷ Want goals.Unary ∷ Build makes.StepBefore ∷ [])
rule goals.Unary k q = Some (Want goals.Unsigned ∷ [])
rule goals.Unsigned Complement q = Some (Keep Complement ∷ Want goals.Unary ∷ Build makes.Unary ∷ [])
rule goals.Unsigned LeftParenthesis q = Some (Keep LeftParenthesis ∷ Want goals.InParentheses ∷ [])
rule goals.Unsigned k q = Some (Want goals.Primary ∷ Want goals.Postfixes ∷ [])
rule goals.Postfixes Step q = Some (Keep Step ∷ Build makes.StepBehind ∷ Want goals.Postfixes ∷ [])
rule goals.Postfixes k q = Some []
rule goals.InParentheses Primitive q = Some (Keep Primitive ∷ Build makes.TypeOfMark ∷ Want goals.PrimitiveCast ∷ [])
rule goals.InParentheses Identifier q = Some (Word ∷ Want goals.EnclosedName ∷ [])
rule goals.InParentheses k q = Some (Want goals.Expression ∷ Want goals.Closing ∷ [])
rule goals.PrimitiveCast RightParenthesis q = Some (Take RightParenthesis ∷ Want goals.Unary ∷ Build makes.Cast ∷ [])
rule goals.PrimitiveCast LeftBracket q = Some (Take LeftBracket ∷ Take RightBracket ∷ Build makes.Array ∷ Want goals.Dimensions ∷ Take RightParenthesis ∷ Want goals.Unsigned ∷ Build makes.Cast ∷ [])
rule goals.PrimitiveCast k q = None
rule goals.EnclosedName RightParenthesis q = Some (Take RightParenthesis ∷ Want goals.AfterEnclosedName ∷ [])
rule goals.EnclosedName Dot tags.Word = Some (Take Dot ∷ Word ∷ Build makes.Pair ∷ Want goals.EnclosedName ∷ [])
rule goals.EnclosedName LeftBracket q = Some (Take LeftBracket ∷ Want goals.EnclosedBracket ∷ [])
rule goals.EnclosedName Less q = Some (Take Less ∷ Want goals.ChainArgument ∷ Want goals.AfterChain ∷ [])
rule goals.EnclosedName LeftParenthesis q = Some (Take LeftParenthesis ∷ Want goals.Arguments ∷ Take RightParenthesis ∷ Build makes.CallOfName ∷ Want goals.EnclosedPrimary ∷ [])
rule goals.EnclosedName k q = Some (Build makes.Variable ∷ Want goals.EnclosedPrimary ∷ [])
rule goals.EnclosedBracket RightBracket q = Some (Build makes.TypeOfName ∷ Take RightBracket ∷ Build makes.Array ∷ Want goals.Dimensions ∷ Take RightParenthesis ∷ Want goals.Unsigned ∷ Build makes.Cast ∷ [])
rule goals.EnclosedBracket k q = Some (Build makes.Variable ∷ Want goals.Expression ∷ Take RightBracket ∷ Build makes.ArrayAccess ∷ Want goals.EnclosedPrimary ∷ [])
rule goals.EnclosedPrimary k q = Some (Want goals.Suffixes ∷ Want goals.Postfixes ∷ Want goals.AfterUnary ∷ Want goals.Closing ∷ [])
rule goals.Closing k q = Some (Take RightParenthesis ∷ Build makes.Enclosed ∷ Want goals.Suffixes ∷ Want goals.Postfixes ∷ [])
rule goals.AfterEnclosedName Identifier q = Some (Build makes.TypeOfName ∷ Want goals.Unsigned ∷ Build makes.Cast ∷ [])
rule goals.AfterEnclosedName Literal q = Some (Build makes.TypeOfName ∷ Want goals.Unsigned ∷ Build makes.Cast ∷ [])
rule goals.AfterEnclosedName LeftParenthesis q = Some (Build makes.TypeOfName ∷ Want goals.Unsigned ∷ Build makes.Cast ∷ [])
rule goals.AfterEnclosedName New q = Some (Build makes.TypeOfName ∷ Want goals.Unsigned ∷ Build makes.Cast ∷ [])
rule goals.AfterEnclosedName Super q = Some (Build makes.TypeOfName ∷ Want goals.Unsigned ∷ Build makes.Cast ∷ [])
rule goals.AfterEnclosedName Old q = Some (Build makes.TypeOfName ∷ Want goals.Unsigned ∷ Build makes.Cast ∷ [])
rule goals.AfterEnclosedName Complement q = Some (Build makes.TypeOfName ∷ Want goals.Unsigned ∷ Build makes.Cast ∷ [])
rule goals.AfterEnclosedName k q = Some (Build makes.Variable ∷ Build makes.Enclosed ∷ Want goals.Suffixes ∷ Want goals.Postfixes ∷ [])
rule goals.AfterChain k tags.Type = Some (Take RightParenthesis ∷ Want goals.Unsigned ∷ Build makes.Cast ∷ [])
rule goals.AfterChain k q = Some (Want (goals.Operators 1 7) ∷ Want goals.AfterOperation ∷ Want goals.Closing ∷ [])
rule goals.ChainArgument Primitive q = Some (Keep Primitive ∷ Build makes.TypeOfMark ∷ Want goals.ChainClosing ∷ [])
rule goals.ChainArgument Identifier q = Some (Word ∷ Want goals.ChainName ∷ [])
rule goals.ChainArgument k q = Some (Build makes.CompareAll ∷ Want goals.Unary ∷ Want (goals.Operators 8 10) ∷ Build makes.Less ∷ [])
rule goals.ChainName Dot tags.Word = Some (Take Dot ∷ Word ∷ Build makes.Pair ∷ Want goals.ChainName ∷ [])
rule goals.ChainName Less q = Some (Take Less ∷ Want goals.ChainArgument ∷ [])
rule goals.ChainName Greater q = Some (Take Greater ∷ Want goals.ChainGreater ∷ [])
rule goals.ChainName LeftBracket q = Some (Take LeftBracket ∷ Want goals.ChainBracket ∷ [])
rule goals.ChainName LeftParenthesis q = Some (Build makes.CompareBelow ∷ Take LeftParenthesis ∷ Want goals.Arguments ∷ Take RightParenthesis ∷ Build makes.CallOfName ∷ Want goals.ChainPrimary ∷ [])
rule goals.ChainName k q = Some (Build makes.CompareBelow ∷ Build makes.Variable ∷ Want goals.ChainPrimary ∷ [])
rule goals.ChainBracket RightBracket q = Some (Build makes.TypeOfName ∷ Take RightBracket ∷ Build makes.Array ∷ Want goals.ChainClosing ∷ [])
rule goals.ChainBracket k q = Some (Build makes.CompareBelow ∷ Build makes.Variable ∷ Want goals.Expression ∷ Take RightBracket ∷ Build makes.ArrayAccess ∷ Want goals.ChainPrimary ∷ [])
rule goals.ChainPrimary k q = Some (Want goals.Suffixes ∷ Want goals.Postfixes ∷ Want (goals.Operators 8 10) ∷ Build makes.Less ∷ [])
rule goals.ChainGreater Sign q = Some (Build makes.CompareAll ∷ Want goals.Unary ∷ Want (goals.Operators 8 10) ∷ Build makes.Greater ∷ [])
rule goals.ChainGreater Step q = Some (Build makes.CompareAll ∷ Want goals.Unary ∷ Want (goals.Operators 8 10) ∷ Build makes.Greater ∷ [])
rule goals.ChainGreater Identifier q = Some (Build makes.CompareAll ∷ Want goals.Unary ∷ Want (goals.Operators 8 10) ∷ Build makes.Greater ∷ [])
rule goals.ChainGreater Literal q = Some (Build makes.CompareAll ∷ Want goals.Unary ∷ Want (goals.Operators 8 10) ∷ Build makes.Greater ∷ [])
rule goals.ChainGreater LeftParenthesis q = Some (Build makes.CompareAll ∷ Want goals.Unary ∷ Want (goals.Operators 8 10) ∷ Build makes.Greater ∷ [])
rule goals.ChainGreater New q = Some (Build makes.CompareAll ∷ Want goals.Unary ∷ Want (goals.Operators 8 10) ∷ Build makes.Greater ∷ [])
rule goals.ChainGreater Super q = Some (Build makes.CompareAll ∷ Want goals.Unary ∷ Want (goals.Operators 8 10) ∷ Build makes.Greater ∷ [])
rule goals.ChainGreater Old q = Some (Build makes.CompareAll ∷ Want goals.Unary ∷ Want (goals.Operators 8 10) ∷ Build makes.Greater ∷ [])
rule goals.ChainGreater Complement q = Some (Build makes.CompareAll ∷ Want goals.Unary ∷ Want (goals.Operators 8 10) ∷ Build makes.Greater ∷ [])
rule goals.ChainGreater k q = Some (Build makes.TypeOfName ∷ Build makes.Generic ∷ Want goals.ChainClosing ∷ [])
rule goals.ChainClosing LeftBracket q = Some (Take LeftBracket ∷ Take RightBracket ∷ Build makes.Array ∷ Want goals.ChainClosing ∷ [])
rule goals.ChainClosing k tags.InnerType = Some (Take Greater ∷ Build makes.Generic ∷ Want goals.ChainClosing ∷ [])
rule goals.ChainClosing k q = Some []
rule goals.Tested Primitive q = Some (Keep Primitive ∷ Build makes.TypeOfMark ∷ Take LeftBracket ∷ Take RightBracket ∷ Build makes.Array ∷ Want goals.Dimensions ∷ Build makes.InstanceOf ∷ [])
rule goals.Tested Identifier q = Some (Word ∷ Want goals.TestedName ∷ [])
rule goals.Tested k q = None
rule goals.TestedName Dot tags.Word = Some (Take Dot ∷ Word ∷ Build makes.Pair ∷ Want goals.TestedName ∷ [])
rule goals.TestedName Less q = Some (Take Less ∷ Want goals.ChainArgument ∷ Want goals.AfterTested ∷ [])
rule goals.TestedName k q = Some (Build makes.TypeOfName ∷ Want goals.Dimensions ∷ Build makes.InstanceOf ∷ [])
rule goals.AfterTested k tags.Type = Some (Build makes.InstanceOf ∷ [])
rule goals.AfterTested k q = Some []
rule (goals.Operators n x) k q = operators_rule n x k (level_of k)

abbrev pub spelling : Spelled → List ℕ
spelling spelled.Java = java
spelling spelled.Util = util
spelling spelled.Override = override

-- From these symbols and values the machine takes exactly these tokens, and ends with the values ws.
pub data Runs : List Symbol → List StackItem → List Lexeme → List StackItem → Type 0 where
  done : {vs : List StackItem} → Runs [] vs [] vs
  take : {ss : List Symbol} {vs ws : List StackItem} {i : List Lexeme} {k : Terminal} (a : Lexeme) → terminal_of a.kind ≡ k → Runs ss vs i ws → Runs (Take k ∷ ss) vs (a ∷ i) ws
  keep : {ss : List Symbol} {vs ws : List StackItem} {i : List Lexeme} {k : Terminal} (a : Lexeme) → terminal_of a.kind ≡ k → Runs ss (mark a.kind a.place ∷ vs) i ws → Runs (Keep k ∷ ss) vs (a ∷ i) ws
  name : {ss : List Symbol} {vs ws : List StackItem} {i : List Lexeme} (a : Lexeme) → terminal_of a.kind ≡ Identifier → Runs ss (word a.place a.text ∷ vs) i ws → Runs (Word ∷ ss) vs (a ∷ i) ws
  leaf : {ss : List Symbol} {vs ws : List StackItem} {i : List Lexeme} (a : Lexeme) → terminal_of a.kind ≡ Literal → Runs ss (part a.place forms.Other (literal a) ∷ vs) i ws → Runs (Leaf ∷ ss) vs (a ∷ i) ws
  spell : {ss : List Symbol} {vs ws : List StackItem} {i : List Lexeme} {s : Spelled} (a : Lexeme) → terminal_of a.kind ≡ Identifier → a.text ≡ spelling s → Runs ss vs i ws → Runs (Spell s ∷ ss) vs (a ∷ i) ws
  want : {ss : List Symbol} {vs ws : List StackItem} {i : List Lexeme} {g : Goal} (body : List Symbol) → rule g (ahead i) (tag vs) ≡ Some body → Runs (body ++ ss) vs i ws → Runs (Want g ∷ ss) vs i ws
  build : {ss : List Symbol} {vs ws : List StackItem} {i : List Lexeme} {m : Make} → Runs ss (made m vs) i ws → Runs (Build m ∷ ss) vs i ws

-- the initial stack of a parse
abbrev pub start : List Symbol
start = Want goals.File ∷ []
