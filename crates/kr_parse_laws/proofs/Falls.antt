-- The symbols of a goal's rule weigh less than the goal.
use Rattle.std.proofs.Common.{◌≡◌, ℕ, zero, suc, ◌+◌, ◌<◌, ◌≤◌, Bool, true, false, if◌then◌else◌, ltb, List, [], ◌∷◌, ◌++◌, Option, Some, None, refl, arith}
use Rattle.std.proofs.lemmas.Bool.{ltb-true}
use Rattle.kr_parse_grammar.specs.declared.terminal.Terminal.{Terminal}
use Rattle.kr_parse_grammar.specs.declared.terminal.Terminal.TheVariants.{Access, Catch, Class, Comma, Complement, Compound, Dot, Else, End, Equal, Extends, Final, Greater, Identifier, Import, LeftBrace, LeftBracket, LeftParenthesis, Less, Literal, Package, Primitive, Question, RightBrace, RightBracket, RightParenthesis, Semicolon, Sign, Step, Super, Instanceof, Contract, Requires, Ensures, Signals, Try}
use Rattle.kr_parse_grammar.specs.declared.value.Tag.{Tag}
use Rattle.kr_parse_grammar.specs.declared.value.Tag.TheVariants as tags
use Rattle.kr_parse_grammar.specs.declared.goal.Goal.{Goal}
use Rattle.kr_parse_grammar.specs.declared.goal.Goal.TheVariants as goals
use Rattle.kr_parse_grammar.specs.declared.goal.Symbol.{Symbol}
use Rattle.kr_parse_grammar.specs.declared.goal.Symbol.TheVariants.{Take, Keep, Word, Literal as Leaf, Spell, Want, Build}
use Rattle.kr_parse_grammar.specs.Machine.{ends_expression, level_of, infix_body, operators_rule, rule}
use Rattle.kr_parse_grammar.specs.State.{weight_of, debt_of, weight, debt, load}
use Rattle.kr_parse_laws.specs.Laws.{Termination}

-- the most that symbols owe, in any context
abbrev debt_within : List Symbol → ℕ
debt_within [] = 80
debt_within (s ∷ ss) = debt (s ∷ ss)

abbrev is_lighter : Goal → Option (List Symbol) → Bool
is_lighter g None = true
is_lighter g (Some body) = ltb (weight body + debt_within body) (weight_of g + debt_of g)

infix_lighter : (n x : ℕ) (k : Terminal) → is_lighter (goals.Operators n x) (Some (infix_body n k)) ≡ true
infix_lighter n x Instanceof = refl
infix_lighter n x _ = refl

empty_lighter : (n x : ℕ) (b : Bool) → is_lighter (goals.Operators n x) (if b then Some [] else None) ≡ true
empty_lighter n x true = refl
empty_lighter n x false = refl

looser_lighter : (n x : ℕ) (k : Terminal) (b c : Bool) → is_lighter (goals.Operators n x) (if b then Some [] else if c then None else Some (infix_body n k)) ≡ true
looser_lighter n x k true c = refl
looser_lighter n x k false true = refl
looser_lighter n x k false false = infix_lighter n x k

operators_lighter : (n x : ℕ) (k : Terminal) (l : ℕ) → is_lighter (goals.Operators n x) (operators_rule n x k l) ≡ true
operators_lighter n x k zero = empty_lighter n x (ends_expression k)
operators_lighter n x k (suc l) = looser_lighter n x k (ltb (suc l) n) (ltb x (suc l))

lighter : (g : Goal) (k : Terminal) (q : Tag) → is_lighter g (rule g k q) ≡ true
lighter goals.File Package _ = refl
lighter goals.File _ _ = refl
lighter goals.Dotted Dot _ = refl
lighter goals.Dotted _ _ = refl
lighter goals.Imports Import _ = refl
lighter goals.Imports _ _ = refl
lighter goals.Imported Identifier _ = refl
lighter goals.Imported _ _ = refl
lighter goals.Classes End _ = refl
lighter goals.Classes _ _ = refl
lighter goals.ClassAhead Access _ = refl
lighter goals.ClassAhead _ _ = refl
lighter goals.Extended Extends _ = refl
lighter goals.Extended _ _ = refl
lighter goals.ClassTail Dot _ = refl
lighter goals.ClassTail _ _ = refl
lighter goals.Members RightBrace _ = refl
lighter goals.Members Contract _ = refl
lighter goals.Members _ _ = refl
lighter goals.Member Class tags.Nestable = refl
lighter goals.Member Primitive tags.Overriding = refl
lighter goals.Member Identifier tags.Overriding = refl
lighter goals.Member Class _ = refl
lighter goals.Member Primitive _ = refl
lighter goals.Member Identifier _ = refl
lighter goals.Member _ _ = refl
lighter goals.Contracts Contract _ = refl
lighter goals.Contracts _ _ = refl
lighter goals.Contract Requires _ = refl
lighter goals.Contract Ensures _ = refl
lighter goals.Contract Signals _ = refl
lighter goals.Contract _ _ = refl
lighter goals.ThrownName Identifier _ = refl
lighter goals.ThrownName _ _ = refl
lighter goals.MethodAhead Access _ = refl
lighter goals.MethodAhead _ _ = refl
lighter goals.ContractedMethod _ _ = refl
lighter goals.MemberName LeftParenthesis tags.Constructor = refl
lighter goals.MemberName LeftParenthesis _ = refl
lighter goals.MemberName _ _ = refl
lighter goals.Method LeftParenthesis _ = refl
lighter goals.Method _ _ = refl
lighter goals.FieldOrMethod LeftParenthesis _ = refl
lighter goals.FieldOrMethod _ _ = refl
lighter goals.Parameters RightParenthesis _ = refl
lighter goals.Parameters _ _ = refl
lighter goals.Parameter Final _ = refl
lighter goals.Parameter _ _ = refl
lighter goals.MoreParameters Comma _ = refl
lighter goals.MoreParameters _ _ = refl
lighter goals.ConstructorBody Super _ = refl
lighter goals.ConstructorBody _ _ = refl
lighter goals.AfterSuper LeftParenthesis _ = refl
lighter goals.AfterSuper _ _ = refl
lighter goals.Type Primitive _ = refl
lighter goals.Type _ _ = refl
lighter goals.TypeName Dot _ = refl
lighter goals.TypeName _ _ = refl
lighter goals.TypeTail Less _ = refl
lighter goals.TypeTail _ _ = refl
lighter goals.Dimensions LeftBracket _ = refl
lighter goals.Dimensions _ _ = refl
lighter goals.Initialiser Equal _ = refl
lighter goals.Initialiser _ _ = refl
lighter goals.MoreDeclarators Comma _ = refl
lighter goals.MoreDeclarators _ _ = refl
lighter goals.AfterLocalName _ _ = refl
lighter goals.Statements RightBrace _ = refl
lighter goals.Statements _ _ = refl
lighter goals.BlockStatement Final _ = refl
lighter goals.BlockStatement _ _ = refl
lighter goals.Item Final _ = refl
lighter goals.Item _ _ = refl
lighter goals.ItemName Dot tags.Word = refl
lighter goals.ItemName Dot _ = refl
lighter goals.ItemName _ _ = refl
lighter goals.ItemBracket RightBracket _ = refl
lighter goals.ItemBracket _ _ = refl
lighter goals.Statement LeftBrace _ = refl
lighter goals.Statement Try _ = refl
lighter goals.Statement _ _ = refl
lighter goals.OptionalExpression Semicolon _ = refl
lighter goals.OptionalExpression _ _ = refl
lighter goals.ElsePart Else _ = refl
lighter goals.ElsePart _ _ = refl
lighter goals.Catch Catch _ = refl
lighter goals.Catch _ _ = refl
lighter goals.Catches Catch _ = refl
lighter goals.Catches _ _ = refl
lighter goals.CaughtParameter Final _ = refl
lighter goals.CaughtParameter _ _ = refl
lighter goals.ForInitial Semicolon _ = refl
lighter goals.ForInitial _ _ = refl
lighter goals.MoreInitial Comma tags.Local = refl
lighter goals.MoreInitial Comma _ = refl
lighter goals.MoreInitial _ _ = refl
lighter goals.ForUpdates RightParenthesis _ = refl
lighter goals.ForUpdates _ _ = refl
lighter goals.MoreUpdates Comma _ = refl
lighter goals.MoreUpdates _ _ = refl
lighter goals.StatementExpression Step _ = refl
lighter goals.StatementExpression _ _ = refl
lighter goals.AfterStatementPrimary Equal tags.Target = refl
lighter goals.AfterStatementPrimary Compound tags.Target = refl
lighter goals.AfterStatementPrimary Equal _ = refl
lighter goals.AfterStatementPrimary Compound _ = refl
lighter goals.AfterStatementPrimary _ tags.Invocation = refl
lighter goals.AfterStatementPrimary _ _ = refl
lighter goals.Primary Literal _ = refl
lighter goals.Primary _ _ = refl
lighter goals.PrimaryName LeftParenthesis _ = refl
lighter goals.PrimaryName _ _ = refl
lighter goals.Creator Primitive _ = refl
lighter goals.Creator _ _ = refl
lighter goals.CreatorName Dot tags.Word = refl
lighter goals.CreatorName Dot _ = refl
lighter goals.CreatorName _ _ = refl
lighter goals.CreatorArgument Greater _ = refl
lighter goals.CreatorArgument _ _ = refl
lighter goals.ObjectCreation _ _ = refl
lighter goals.ArrayLength _ _ = refl
lighter goals.Suffixes LeftBracket tags.ArrayCreation = refl
lighter goals.Suffixes LeftBracket _ = refl
lighter goals.Suffixes _ _ = refl
lighter goals.Selected LeftParenthesis _ = refl
lighter goals.Selected _ _ = refl
lighter goals.Arguments RightParenthesis _ = refl
lighter goals.Arguments _ _ = refl
lighter goals.MoreArguments Comma _ = refl
lighter goals.MoreArguments _ _ = refl
lighter goals.Expression _ _ = refl
lighter goals.AfterUnary Equal tags.Target = refl
lighter goals.AfterUnary Compound tags.Target = refl
lighter goals.AfterUnary Equal _ = refl
lighter goals.AfterUnary Compound _ = refl
lighter goals.AfterUnary _ _ = refl
lighter goals.AfterOperation Question _ = refl
lighter goals.AfterOperation _ _ = refl
lighter goals.Conditional _ _ = refl
lighter goals.Unary Sign _ = refl
lighter goals.Unary _ _ = refl
lighter goals.Unsigned Complement _ = refl
lighter goals.Unsigned _ _ = refl
lighter goals.Postfixes Step _ = refl
lighter goals.Postfixes _ _ = refl
lighter goals.InParentheses Primitive _ = refl
lighter goals.InParentheses _ _ = refl
lighter goals.PrimitiveCast RightParenthesis _ = refl
lighter goals.PrimitiveCast _ _ = refl
lighter goals.EnclosedName Dot tags.Word = refl
lighter goals.EnclosedName Dot _ = refl
lighter goals.EnclosedName _ _ = refl
lighter goals.EnclosedBracket RightBracket _ = refl
lighter goals.EnclosedBracket _ _ = refl
lighter goals.EnclosedPrimary _ _ = refl
lighter goals.Closing _ _ = refl
lighter goals.AfterEnclosedName Identifier _ = refl
lighter goals.AfterEnclosedName _ _ = refl
lighter goals.AfterChain _ tags.Type = refl
lighter goals.AfterChain _ _ = refl
lighter goals.ChainArgument Primitive _ = refl
lighter goals.ChainArgument _ _ = refl
lighter goals.ChainName Dot tags.Word = refl
lighter goals.ChainName Dot _ = refl
lighter goals.ChainName _ _ = refl
lighter goals.ChainBracket RightBracket _ = refl
lighter goals.ChainBracket _ _ = refl
lighter goals.ChainPrimary _ _ = refl
lighter goals.ChainGreater Sign _ = refl
lighter goals.ChainGreater _ _ = refl
lighter goals.ChainClosing LeftBracket _ = refl
lighter goals.ChainClosing _ tags.InnerType = refl
lighter goals.ChainClosing _ _ = refl
lighter goals.Tested Primitive _ = refl
lighter goals.Tested _ _ = refl
lighter goals.TestedName Dot tags.Word = refl
lighter goals.TestedName Dot _ = refl
lighter goals.TestedName _ _ = refl
lighter goals.AfterTested _ tags.Type = refl
lighter goals.AfterTested _ _ = refl
lighter (goals.Operators n x) k q = operators_lighter n x k (level_of k)

weight_append : (body ss : List Symbol) → weight (body ++ ss) ≡ weight body + weight ss
weight_append [] ss = omega arith
weight_append (Take k ∷ body) ss = omega (arith, weight_append body ss)
weight_append (Keep k ∷ body) ss = omega (arith, weight_append body ss)
weight_append (Word ∷ body) ss = omega (arith, weight_append body ss)
weight_append (Leaf ∷ body) ss = omega (arith, weight_append body ss)
weight_append (Spell s ∷ body) ss = omega (arith, weight_append body ss)
weight_append (Build m ∷ body) ss = omega (arith, weight_append body ss)
weight_append (Want g ∷ body) ss = omega (arith, weight_append body ss)

is_small_debt : (g : Goal) → ltb (debt_of g) 81 ≡ true
is_small_debt goals.File = refl
is_small_debt _ = refl

debt_append : (body ss : List Symbol) → debt (body ++ ss) ≤ debt_within body
debt_append [] [] = omega arith
debt_append [] (Take k ∷ ss) = omega arith
debt_append [] (Keep k ∷ ss) = omega arith
debt_append [] (Word ∷ ss) = omega arith
debt_append [] (Leaf ∷ ss) = omega arith
debt_append [] (Spell s ∷ ss) = omega arith
debt_append [] (Build m ∷ ss) = omega arith
debt_append [] (Want g ∷ ss) = omega (arith, ltb-true (debt_of g) 81 (is_small_debt g))
debt_append (Take k ∷ body) ss = omega arith
debt_append (Keep k ∷ body) ss = omega arith
debt_append (Word ∷ body) ss = omega arith
debt_append (Leaf ∷ body) ss = omega arith
debt_append (Spell s ∷ body) ss = omega arith
debt_append (Build m ∷ body) ss = omega arith
debt_append (Want g ∷ body) ss = omega arith

falls : (g : Goal) (body ss : List Symbol) → is_lighter g (Some body) ≡ true → load (body ++ ss) < load (Want g ∷ ss)
falls g body ss h = omega (arith, weight_append body ss, debt_append body ss, ltb-true (weight body + debt_within body) (weight_of g + debt_of g) h)

pub termination : Termination
termination g k q body ss e = falls g body ss (rw e at (lighter g k q))
