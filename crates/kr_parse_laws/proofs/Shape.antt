-- A rule keeps a good stack good.
use Rattle.std.proofs.Common.{◌≡◌, ℕ, zero, suc, Bool, true, false, if◌then◌else◌, ltb, List, [], ◌∷◌, ◌++◌, Option, Some, None, refl, arith}
use Rattle.kr_parse_grammar.specs.declared.terminal.Terminal.{Terminal}
use Rattle.kr_parse_grammar.specs.declared.terminal.Terminal.TheVariants.{Access, At, Break, Catch, Class, Comma, Complement, Compound, Continue, Do, Dot, Else, End, Equal, Extends, Final, For, Greater, Identifier, If, Import, LeftBrace, LeftBracket, LeftParenthesis, Less, Literal, New, Package, Primitive, Question, Return, RightBrace, RightBracket, RightParenthesis, Semicolon, Sign, Star, Static, Step, Super, Throw, Try, Void, While, Instanceof, Outside, Contract, Requires, Ensures, Signals, Old}
use Rattle.kr_parse_grammar.specs.declared.value.Tag.{Tag}
use Rattle.kr_parse_grammar.specs.declared.value.Tag.TheVariants as tags
use Rattle.kr_parse_grammar.specs.declared.goal.Goal.{Goal}
use Rattle.kr_parse_grammar.specs.declared.goal.Goal.TheVariants as goals
use Rattle.kr_parse_grammar.specs.declared.goal.Symbol.{Symbol}
use Rattle.kr_parse_grammar.specs.declared.goal.Symbol.TheVariants.{Want}
use Rattle.kr_parse_grammar.specs.Machine.{ends_expression, level_of, infix_body, operators_rule, rule}
use Rattle.kr_parse_grammar.specs.State.{first, IsTaken, Good}
use Rattle.kr_parse_laws.specs.Laws.{Preservation}
use Rattle.kr_parse_laws.proofs.Behind.{void_inside, end_inside, right_brace_inside, right_brace_statement, right_parenthesis_inside, right_parenthesis_closes, semicolon_closes, closes_primary, closes_type, primary_inside, statement_inside, left_brace_class_name}

abbrev GoodOf : Option (List Symbol) → List Symbol → Type 0
GoodOf None ss = Unit {0}
GoodOf (Some body) ss = Good (body ++ ss)

-- an operator is a token
leveled_taken : (k : Terminal) (l : ℕ) → level_of k ≡ suc l → IsTaken k
leveled_taken End l e = absurd (omega arith)
leveled_taken Outside l e = absurd (omega arith)
leveled_taken _ l e = tt

good_infix : (n x : ℕ) (k : Terminal) (ss : List Symbol) → IsTaken k → Good (Want (goals.Operators n x) ∷ ss) → Good (infix_body n k ++ ss)
good_infix n x Instanceof ss t h = (tt, (h.0, h))
good_infix n x _ ss t h = (t, (h.0, (h.0, h)))

good_ended : (b : Bool) (ss : List Symbol) → Good ss → GoodOf (if b then Some [] else None) ss
good_ended true ss h = h
good_ended false ss h = tt

good_looser : (b c : Bool) (body ss : List Symbol) → Good ss → Good (body ++ ss) → GoodOf (if b then Some [] else if c then None else Some body) ss
good_looser true c body ss h g = h
good_looser false true body ss h g = tt
good_looser false false body ss h g = g

good_operators : (n x : ℕ) (k : Terminal) (l : ℕ) → level_of k ≡ l → (ss : List Symbol) → Good (Want (goals.Operators n x) ∷ ss) → GoodOf (operators_rule n x k l) ss
good_operators n x k zero e ss h = good_ended (ends_expression k) ss h.1
good_operators n x k (suc l) e ss h = good_looser (ltb (suc l) n) (ltb x (suc l)) (infix_body n k) ss h.1 (good_infix n x k ss (leveled_taken k l e) h)

good : (g : Goal) (k : Terminal) (q : Tag) (ss : List Symbol) → Good (Want g ∷ ss) → GoodOf (rule g k q) ss
good goals.File Package _ ss h = (tt, (tt, (refl, (tt, h))))
good goals.File _ _ ss h = h
good goals.Dotted Dot _ ss h = (tt, (tt, h))
good goals.Dotted _ _ ss h = h.1
good goals.Imports Import _ ss h = (tt, (tt, (tt, (refl, (tt, h)))))
good goals.Imports _ _ ss h = h
good goals.Imported Identifier _ ss h = (tt, h.1)
good goals.Imported Star _ ss h = (tt, h.1)
good goals.Imported _ _ _ _ = tt
good goals.Classes End _ ss h = h.1
good goals.Classes Semicolon _ ss h = (tt, h)
good goals.Classes _ _ ss h = (end_inside (first ss) h.0, h)
good goals.ClassAhead Access _ ss h = (tt, h)
good goals.ClassAhead Static _ ss h = (tt, h)
good goals.ClassAhead Final _ ss h = (tt, h)
good goals.ClassAhead Class _ ss h = (tt, (refl, (tt, (refl, (tt, h.1)))))
good goals.ClassAhead _ _ _ _ = tt
good goals.Extended Extends _ ss h = (tt, (left_brace_class_name (first ss) h.0, h.1))
good goals.Extended _ _ ss h = h.1
good goals.ClassTail Dot _ ss h = (tt, h.1)
good goals.ClassTail _ _ ss h = h.1
good goals.Members RightBrace _ ss h = h.1
good goals.Members Semicolon _ ss h = (tt, h)
good goals.Members Contract _ ss h = (tt, (refl, (refl, (right_brace_inside (first ss) h.0, h))))
good goals.Members _ _ ss h = (right_brace_inside (first ss) h.0, h)
good goals.Member Access _ ss h = (tt, h)
good goals.Member Static _ ss h = (tt, h)
good goals.Member Final _ ss h = (tt, h)
good goals.Member At _ ss h = (tt, h)
good goals.Member Void _ ss h = (tt, h)
good goals.Member Class tags.Nestable ss h = (tt, (refl, (tt, (refl, (tt, h.1)))))
good goals.Member Primitive tags.Overriding ss h = (refl, h)
good goals.Member Identifier tags.Overriding ss h = (refl, h)
good goals.Member Primitive _ ss h = (refl, h)
good goals.Member Identifier _ ss h = h
good goals.Member _ _ _ _ = tt
good goals.Contracts Contract _ ss h = (tt, (void_inside (first ss) h.0, h))
good goals.Contracts _ _ ss h = h.1
good goals.Contract Requires _ ss h = (tt, (refl, (tt, h.1)))
good goals.Contract Ensures _ ss h = (tt, (refl, (tt, h.1)))
good goals.Contract Signals _ ss h = (tt, (tt, (refl, (refl, (tt, (refl, (tt, h.1)))))))
good goals.Contract _ _ _ _ = tt
good goals.ThrownName Identifier _ ss h = h.1
good goals.ThrownName _ _ ss h = h.1
good goals.MethodAhead Access _ ss h = (tt, h)
good goals.MethodAhead Static _ ss h = (tt, h)
good goals.MethodAhead Final _ ss h = (tt, h)
good goals.MethodAhead At _ ss h = (tt, h)
good goals.MethodAhead Void _ ss h = (tt, h)
good goals.MethodAhead Primitive _ ss h = (refl, h)
good goals.MethodAhead Identifier _ ss h = (refl, h)
good goals.MethodAhead _ _ _ _ = tt
good goals.ContractedMethod _ _ ss h = (tt, (refl, (tt, (tt, (refl, (tt, h.1))))))
good goals.MemberName LeftParenthesis tags.Constructor ss h = (tt, (refl, (tt, (tt, (refl, (tt, h.1))))))
good goals.MemberName Dot _ ss h = (tt, (refl, h))
good goals.MemberName Less _ ss h = (refl, h)
good goals.MemberName LeftBracket _ ss h = (refl, h)
good goals.MemberName Identifier _ ss h = (refl, h)
good goals.MemberName _ _ _ _ = tt
good goals.Method LeftParenthesis _ ss h = (tt, (refl, (tt, (tt, (refl, (tt, h.1))))))
good goals.Method _ _ _ _ = tt
good goals.FieldOrMethod LeftParenthesis _ ss h = h
good goals.FieldOrMethod Equal _ ss h = (refl, (refl, (tt, h.1)))
good goals.FieldOrMethod Comma _ ss h = (refl, (refl, (tt, h.1)))
good goals.FieldOrMethod Semicolon _ ss h = (refl, (refl, (tt, h.1)))
good goals.FieldOrMethod _ _ _ _ = tt
good goals.Parameters RightParenthesis _ ss h = h.1
good goals.Parameters _ _ ss h = (right_parenthesis_inside (first ss) h.0, h)
good goals.Parameter Final _ ss h = (tt, (refl, h.1))
good goals.Parameter _ _ ss h = (refl, h.1)
good goals.MoreParameters Comma _ ss h = (tt, (right_parenthesis_inside (first ss) h.0, h))
good goals.MoreParameters _ _ ss h = h.1
good goals.ConstructorBody Super _ ss h = (tt, h)
good goals.ConstructorBody _ _ ss h = h
good goals.AfterSuper LeftParenthesis _ ss h = (tt, (refl, (tt, (tt, h))))
good goals.AfterSuper Dot _ ss h = (tt, (tt, (refl, (tt, (refl, (refl, (tt, h)))))))
good goals.AfterSuper _ _ _ _ = tt
good goals.Type Primitive _ ss h = (tt, h)
good goals.Type Identifier _ ss h = h
good goals.Type _ _ _ _ = tt
good goals.TypeName Dot _ ss h = (tt, h)
good goals.TypeName _ _ ss h = h
good goals.TypeTail Less _ ss h = (tt, (refl, (tt, h)))
good goals.TypeTail _ _ ss h = h
good goals.Dimensions LeftBracket _ ss h = (tt, (tt, h))
good goals.Dimensions _ _ ss h = h.1
good goals.Initialiser Equal _ ss h = (tt, (semicolon_closes (first ss) h.0, h.1))
good goals.Initialiser _ _ ss h = h.1
good goals.MoreDeclarators Comma _ ss h = (tt, (h.0, h))
good goals.MoreDeclarators _ _ ss h = h.1
good goals.AfterLocalName _ _ ss h = (h.0, h)
good goals.Statements RightBrace _ ss h = h.1
good goals.Statements _ _ ss h = (right_brace_statement (first ss) h.0, h)
good goals.BlockStatement Final _ ss h = (refl, (tt, h.1))
good goals.BlockStatement Primitive _ ss h = (refl, (tt, h.1))
good goals.BlockStatement Identifier _ ss h = (refl, (tt, h.1))
good goals.BlockStatement _ _ ss h = h
good goals.Item Final _ ss h = (tt, (refl, h))
good goals.Item Primitive _ ss h = (refl, h)
good goals.Item Identifier _ ss h = h
good goals.Item _ _ ss h = (semicolon_closes (first ss) h.0, h.1)
good goals.ItemName Identifier _ ss h = h
good goals.ItemName Less _ ss h = (tt, (refl, (tt, (refl, h))))
good goals.ItemName LeftBracket _ ss h = (tt, h)
good goals.ItemName LeftParenthesis _ ss h = (tt, (refl, (tt, (refl, (semicolon_closes (first ss) h.0, h.1)))))
good goals.ItemName Dot tags.Word ss h = (tt, h)
good goals.ItemName _ _ ss h = (refl, (semicolon_closes (first ss) h.0, h.1))
good goals.ItemBracket RightBracket _ ss h = (tt, (refl, h))
good goals.ItemBracket _ _ ss h = (refl, (tt, (refl, (semicolon_closes (first ss) h.0, h.1))))
good goals.Statement LeftBrace _ ss h = (tt, (refl, (tt, h.1)))
good goals.Statement Semicolon _ ss h = (tt, h.1)
good goals.Statement Return _ ss h = (tt, (refl, (tt, h.1)))
good goals.Statement Break _ ss h = (tt, (tt, h.1))
good goals.Statement Continue _ ss h = (tt, (tt, h.1))
good goals.Statement If _ ss h = (tt, (tt, (refl, (tt, (h.0, h)))))
good goals.Statement While _ ss h = (tt, (tt, (refl, (tt, h))))
good goals.Statement Do _ ss h = (tt, (refl, (tt, (tt, (refl, (tt, (tt, h.1)))))))
good goals.Statement For _ ss h = (tt, (tt, (refl, (tt, (refl, (tt, (refl, (tt, h))))))))
good goals.Statement Throw _ ss h = (tt, (refl, (tt, h.1)))
good goals.Statement Try _ ss h = (tt, (tt, (refl, (tt, (statement_inside (first ss) h.0, h)))))
good goals.Statement _ _ ss h = (refl, (tt, h.1))
good goals.OptionalExpression Semicolon _ ss h = h.1
good goals.OptionalExpression _ _ ss h = (semicolon_closes (first ss) h.0, h.1)
good goals.ElsePart Else _ ss h = (tt, h)
good goals.ElsePart _ _ ss h = h.1
good goals.Catch Catch _ ss h = (tt, (tt, (refl, (tt, (tt, (refl, (tt, h.1)))))))
good goals.Catch _ _ _ _ = tt
good goals.Catches Catch _ ss h = (statement_inside (first ss) h.0, h)
good goals.Catches _ _ ss h = h.1
good goals.CaughtParameter Final _ ss h = (tt, (refl, h.1))
good goals.CaughtParameter _ _ ss h = (refl, h.1)
good goals.ForInitial Semicolon _ ss h = h.1
good goals.ForInitial _ _ ss h = (h.0, h)
good goals.MoreInitial Comma tags.Local _ _ = tt
good goals.MoreInitial Comma _ ss h = (tt, (semicolon_closes (first ss) h.0, h))
good goals.MoreInitial _ _ ss h = h.1
good goals.ForUpdates RightParenthesis _ ss h = h.1
good goals.ForUpdates _ _ ss h = (right_parenthesis_closes (first ss) h.0, h)
good goals.MoreUpdates Comma _ ss h = (tt, (right_parenthesis_closes (first ss) h.0, h))
good goals.MoreUpdates _ _ ss h = h.1
good goals.StatementExpression Step _ ss h = (tt, h)
good goals.StatementExpression _ _ ss h = (refl, h)
good goals.AfterStatementPrimary Step _ ss h = (tt, h.1)
good goals.AfterStatementPrimary Equal tags.Target ss h = (tt, h)
good goals.AfterStatementPrimary Compound tags.Target ss h = (tt, h)
good goals.AfterStatementPrimary Equal _ _ _ = tt
good goals.AfterStatementPrimary Compound _ _ _ = tt
good goals.AfterStatementPrimary _ tags.Invocation ss h = h.1
good goals.AfterStatementPrimary _ _ _ _ = tt
good goals.Primary Literal _ ss h = h
good goals.Primary Identifier _ ss h = h
good goals.Primary LeftParenthesis _ ss h = (tt, (refl, (tt, h)))
good goals.Primary Super _ ss h = (tt, (tt, (tt, (refl, (tt, h)))))
good goals.Primary Old _ ss h = (tt, (tt, (refl, (tt, h))))
good goals.Primary New _ ss h = (tt, (primary_inside (first ss) h.0, h))
good goals.Primary _ _ _ _ = tt
good goals.PrimaryName LeftParenthesis _ ss h = (tt, (refl, (tt, h)))
good goals.PrimaryName _ _ ss h = h
good goals.Creator Primitive _ ss h = (tt, h)
good goals.Creator Identifier _ ss h = h
good goals.Creator _ _ _ _ = tt
good goals.CreatorName Dot tags.Word ss h = (tt, h)
good goals.CreatorName Less _ ss h = (tt, h)
good goals.CreatorName LeftParenthesis _ ss h = h
good goals.CreatorName LeftBracket _ ss h = h
good goals.CreatorName _ _ _ _ = tt
good goals.CreatorArgument Greater _ ss h = (tt, h)
good goals.CreatorArgument _ _ ss h = (refl, (tt, h))
good goals.ObjectCreation _ _ ss h = (tt, (refl, (tt, h.1)))
good goals.ArrayLength _ _ ss h = (tt, (refl, (tt, h.1)))
good goals.Suffixes Dot _ ss h = (tt, h)
good goals.Suffixes LeftBracket tags.ArrayCreation _ _ = tt
good goals.Suffixes LeftBracket _ ss h = (tt, (refl, (tt, h)))
good goals.Suffixes Identifier _ _ _ = tt
good goals.Suffixes Literal _ _ _ = tt
good goals.Suffixes LeftParenthesis _ _ _ = tt
good goals.Suffixes New _ _ _ = tt
good goals.Suffixes Super _ _ _ = tt
good goals.Suffixes Old _ _ _ = tt
good goals.Suffixes Complement _ _ _ = tt
good goals.Suffixes _ _ ss h = h.1
good goals.Selected LeftParenthesis _ ss h = (tt, (refl, (tt, h)))
good goals.Selected _ _ ss h = h
good goals.Arguments RightParenthesis _ ss h = h.1
good goals.Arguments _ _ ss h = (right_parenthesis_closes (first ss) h.0, h)
good goals.MoreArguments Comma _ ss h = (tt, (right_parenthesis_closes (first ss) h.0, h))
good goals.MoreArguments _ _ ss h = h.1
good goals.Expression _ _ ss h = (h.0, h)
good goals.AfterUnary Equal tags.Target ss h = (tt, h)
good goals.AfterUnary Compound tags.Target ss h = (tt, h)
good goals.AfterUnary _ _ ss h = (h.0, h)
good goals.AfterOperation Question _ ss h = (tt, (refl, (tt, h)))
good goals.AfterOperation _ _ ss h = h.1
good goals.Conditional _ _ ss h = (h.0, (h.0, h))
good goals.Unary Sign _ ss h = (tt, h)
good goals.Unary Step _ ss h = (tt, h)
good goals.Unary _ _ ss h = h
good goals.Unsigned Complement _ ss h = (tt, h)
good goals.Unsigned LeftParenthesis _ ss h = (tt, h)
good goals.Unsigned _ _ ss h = (closes_primary (first ss) h.0, h)
good goals.Postfixes Step _ ss h = (tt, h)
good goals.Postfixes _ _ ss h = h.1
good goals.InParentheses Primitive _ ss h = (tt, h)
good goals.InParentheses Identifier _ ss h = h
good goals.InParentheses _ _ ss h = (refl, h)
good goals.PrimitiveCast RightParenthesis _ ss h = (tt, h)
good goals.PrimitiveCast LeftBracket _ ss h = (tt, (tt, (refl, (tt, h))))
good goals.PrimitiveCast _ _ _ _ = tt
good goals.EnclosedName RightParenthesis _ ss h = (tt, h)
good goals.EnclosedName Dot tags.Word ss h = (tt, h)
good goals.EnclosedName LeftBracket _ ss h = (tt, h)
good goals.EnclosedName Less _ ss h = (tt, (refl, h))
good goals.EnclosedName LeftParenthesis _ ss h = (tt, (refl, (tt, h)))
good goals.EnclosedName _ _ ss h = h
good goals.EnclosedBracket RightBracket _ ss h = (tt, (refl, (tt, h)))
good goals.EnclosedBracket _ _ ss h = (refl, (tt, h))
good goals.EnclosedPrimary _ _ ss h = (refl, (refl, (refl, h)))
good goals.Closing _ _ ss h = (tt, (closes_primary (first ss) h.0, h))
good goals.AfterEnclosedName Identifier _ ss h = h
good goals.AfterEnclosedName Literal _ ss h = h
good goals.AfterEnclosedName LeftParenthesis _ ss h = h
good goals.AfterEnclosedName New _ ss h = h
good goals.AfterEnclosedName Super _ ss h = h
good goals.AfterEnclosedName Old _ ss h = h
good goals.AfterEnclosedName Complement _ ss h = h
good goals.AfterEnclosedName _ _ ss h = (closes_primary (first ss) h.0, h)
good goals.AfterChain _ tags.Type ss h = (tt, h)
good goals.AfterChain _ _ ss h = (refl, (refl, h))
good goals.ChainArgument Primitive _ ss h = (tt, h)
good goals.ChainArgument Identifier _ ss h = h
good goals.ChainArgument _ _ ss h = (h.0, h)
good goals.ChainName Dot tags.Word ss h = (tt, h)
good goals.ChainName Less _ ss h = (tt, h)
good goals.ChainName Greater _ ss h = (tt, h)
good goals.ChainName LeftBracket _ ss h = (tt, h)
good goals.ChainName LeftParenthesis _ ss h = (tt, (refl, (tt, h)))
good goals.ChainName _ _ ss h = h
good goals.ChainBracket RightBracket _ ss h = (tt, h)
good goals.ChainBracket _ _ ss h = (refl, (tt, h))
good goals.ChainPrimary _ _ ss h = (closes_primary (first ss) h.0, (h.0, h))
good goals.ChainGreater Sign _ ss h = (h.0, h)
good goals.ChainGreater Step _ ss h = (h.0, h)
good goals.ChainGreater Identifier _ ss h = (h.0, h)
good goals.ChainGreater Literal _ ss h = (h.0, h)
good goals.ChainGreater LeftParenthesis _ ss h = (h.0, h)
good goals.ChainGreater New _ ss h = (h.0, h)
good goals.ChainGreater Super _ ss h = (h.0, h)
good goals.ChainGreater Old _ ss h = (h.0, h)
good goals.ChainGreater Complement _ ss h = (h.0, h)
good goals.ChainGreater _ _ ss h = h
good goals.ChainClosing LeftBracket _ ss h = (tt, (tt, h))
good goals.ChainClosing _ tags.InnerType ss h = (tt, h)
good goals.ChainClosing _ _ ss h = h.1
good goals.Tested Primitive _ ss h = (tt, (tt, (tt, (closes_type (first ss) h.0, h.1))))
good goals.Tested Identifier _ ss h = h
good goals.Tested _ _ _ _ = tt
good goals.TestedName Dot tags.Word ss h = (tt, h)
good goals.TestedName Less _ ss h = (tt, (h.0, h))
good goals.TestedName _ _ ss h = (closes_type (first ss) h.0, h.1)
good goals.AfterTested _ tags.Type ss h = h.1
good goals.AfterTested _ _ ss h = h.1
good (goals.Operators n x) k q ss h = good_operators n x k (level_of k) refl ss h

pub preservation : Preservation
preservation g k q body ss e h = rw e at (good g k q ss h)
