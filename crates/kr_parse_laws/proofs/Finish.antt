-- Good symbols can be taken, whatever the values are: a short way for each goal.
use Rattle.std.proofs.Common.{◌≡◌, ◌≢◌, ℕ, Bool, true, false, if◌then◌else◌, List, [], ◌∷◌, ◌++◌, Some, refl, sym, ◌∙◌}
use Rattle.kr_base.specs.declared.place.Place.{Place}
use Rattle.kr_base.specs.Places.{nowhere}
use Rattle.kr_lex.specs.Lexemes.{Lexeme}
use Rattle.kr_lex.specs.declared.kind.Kind.{Kind}
use Rattle.kr_lex.specs.declared.kind.Kind.TheVariants as kinds
use Rattle.kr_ast.specs.Tree as trees
use Rattle.kr_ast.specs.Tree.{Tree}
use Rattle.kr_parse_grammar.specs.declared.terminal.Terminal.{Terminal}
use Rattle.kr_parse_grammar.specs.declared.terminal.Terminal.TheVariants.{End, Identifier, Literal, Primitive, Access, Static, Final, Package, Import, Class, Extends, Void, New, Super, Instanceof, Return, Break, Continue, If, Else, While, Do, For, LeftParenthesis, RightParenthesis, LeftBrace, RightBrace, LeftBracket, RightBracket, Semicolon, Comma, Dot, At, Question, Colon, Equal, Compound, Less, Greater, Star, Sign, Step, Complement, Or, And, BitOr, BitXor, BitAnd, Equality, Relation, Shift, Division, Contract, Requires, Ensures, Old, Outside, Throw, Try, Catch, Signals}
use Rattle.kr_parse_grammar.specs.declared.value.Form.{Form}
use Rattle.kr_parse_grammar.specs.declared.value.Form.TheVariants as forms
use Rattle.kr_parse_grammar.specs.declared.value.Modifiers.{Modifiers}
use Rattle.kr_parse_grammar.specs.declared.value.Tag.{Tag}
use Rattle.kr_parse_grammar.specs.declared.value.Tag.TheVariants as tags
use Rattle.kr_parse_grammar.specs.declared.goal.Spelled.{Spelled}
use Rattle.kr_parse_grammar.specs.declared.goal.Goal.{Goal}
use Rattle.kr_parse_grammar.specs.declared.goal.Goal.TheVariants as goals
use Rattle.kr_parse_grammar.specs.declared.goal.Make.{Make}
use Rattle.kr_parse_grammar.specs.declared.goal.Make.TheVariants as makes
use Rattle.kr_parse_grammar.specs.declared.goal.Symbol.{Symbol}
use Rattle.kr_parse_grammar.specs.declared.goal.Symbol.TheVariants.{Take, Keep, Word, Literal as Leaf, Spell, Want, Build}
use Rattle.kr_parse_grammar.specs.Terminals.{terminal_of}
use Rattle.kr_parse_grammar.specs.Values.{StackItem, mark, word, pair, part, member, owner, tag, tag_of_word, tag_of_member}
use Rattle.kr_parse_grammar.specs.Made.{made}
use Rattle.kr_parse_grammar.specs.Machine.{ahead, rule, spelling, Runs, done, take, keep, name, leaf, spell, want, build}
use Rattle.kr_parse_grammar.specs.State.{is_inside, closes, ends_primary, ends_type, ends_statement, follows, first_of, first, IsTaken, Good}
use Rattle.kr_parse_laws.specs.Laws.{Productivity}
use Rattle.kr_parse_laws.proofs.Behind.{void_is, of_class_name, class_name_inside, of_closes, of_primary, of_type, end_is, semicolon_is, left_brace_is, right_brace_is, right_parenthesis_is, closes_primary, closes_type, closes_inside, primary_inside, type_inside, statement_inside, inside_apart}

-- tokens that take the symbols; what they begin with is known, but for a chain of names that closes
record Finish (ss : List Symbol) (vs : List StackItem) : Type 0 where
  tokens : List Lexeme
  left : List StackItem
  runs : Runs ss vs tokens left
  begins : first ss ≢ Outside → ahead tokens ≡ first ss

abbrev Finishes : List Symbol → Type 0
Finishes ss = (vs : List StackItem) → Finish ss vs

-- a kind for each terminal
abbrev kind_of : Terminal → Kind
kind_of Identifier = kinds.Identifier
kind_of Primitive = kinds.Int
kind_of Access = kinds.Public
kind_of Static = kinds.Static
kind_of Final = kinds.Final
kind_of Package = kinds.Package
kind_of Import = kinds.Import
kind_of Class = kinds.Class
kind_of Extends = kinds.Extends
kind_of Void = kinds.Void
kind_of New = kinds.New
kind_of Super = kinds.Super
kind_of Instanceof = kinds.Instanceof
kind_of Return = kinds.Return
kind_of Break = kinds.Break
kind_of Continue = kinds.Continue
kind_of If = kinds.If
kind_of Else = kinds.Else
kind_of While = kinds.While
kind_of Do = kinds.Do
kind_of For = kinds.For
kind_of LeftParenthesis = kinds.LeftParenthesis
kind_of RightParenthesis = kinds.RightParenthesis
kind_of LeftBrace = kinds.LeftBrace
kind_of RightBrace = kinds.RightBrace
kind_of LeftBracket = kinds.LeftBracket
kind_of RightBracket = kinds.RightBracket
kind_of Semicolon = kinds.Semicolon
kind_of Comma = kinds.Comma
kind_of Dot = kinds.Dot
kind_of At = kinds.At
kind_of Question = kinds.Question
kind_of Colon = kinds.Colon
kind_of Equal = kinds.Equal
kind_of Compound = kinds.PlusEqual
kind_of Less = kinds.Less
kind_of Greater = kinds.Greater
kind_of Star = kinds.Star
kind_of Sign = kinds.Plus
kind_of Step = kinds.PlusPlus
kind_of Complement = kinds.Tilde
kind_of Or = kinds.BarBar
kind_of And = kinds.AmpersandAmpersand
kind_of BitOr = kinds.Bar
kind_of BitXor = kinds.Caret
kind_of BitAnd = kinds.Ampersand
kind_of Equality = kinds.EqualEqual
kind_of Relation = kinds.LessEqual
kind_of Shift = kinds.LessLess
kind_of Division = kinds.Slash
kind_of Throw = kinds.Throw
kind_of Try = kinds.Try
kind_of Catch = kinds.Catch
kind_of Signals = kinds.Signals
kind_of Contract = kinds.Contract
kind_of Requires = kinds.Requires
kind_of Ensures = kinds.Ensures
kind_of Old = kinds.Old
kind_of _ = kinds.Null

is_kind : (k : Terminal) → IsTaken k → terminal_of (kind_of k) ≡ k
is_kind End t = absurd t
is_kind Outside t = absurd t
is_kind _ t = refl

abbrev token : Terminal → List ℕ → Lexeme
token k s = record { kind = kind_of k; text = s; place = nowhere }

finish_take : (k : Terminal) (ss : List Symbol) → IsTaken k → Finishes ss → Finishes (Take k ∷ ss)
finish_take k ss t d vs = record {
  tokens = token k [] ∷ (d vs).tokens;
  left = (d vs).left;
  runs = take (token k []) (is_kind k t) (d vs).runs;
  begins = λ _. is_kind k t;
}

finish_keep : (k : Terminal) (ss : List Symbol) → IsTaken k → Finishes ss → Finishes (Keep k ∷ ss)
finish_keep k ss t d vs =
    let f : Finish ss (mark (kind_of k) nowhere ∷ vs) = d (mark (kind_of k) nowhere ∷ vs) in
    record { tokens = token k [] ∷ f.tokens; left = f.left; runs = keep (token k []) (is_kind k t) f.runs; begins = λ _. is_kind k t }

finish_word : (ss : List Symbol) → Finishes ss → Finishes (Word ∷ ss)
finish_word ss d vs =
    let f : Finish ss (word nowhere [] ∷ vs) = d (word nowhere [] ∷ vs) in
    record { tokens = token Identifier [] ∷ f.tokens; left = f.left; runs = name (token Identifier []) refl f.runs; begins = λ _. refl }

finish_leaf : (ss : List Symbol) → Finishes ss → Finishes (Leaf ∷ ss)
finish_leaf ss d vs =
    let f : Finish ss (part nowhere forms.Other (trees.Null nowhere) ∷ vs) = d (part nowhere forms.Other (trees.Null nowhere) ∷ vs) in
    record { tokens = token Literal [] ∷ f.tokens; left = f.left; runs = leaf (token Literal []) refl f.runs; begins = λ _. refl }

finish_spell : (s : Spelled) (ss : List Symbol) → Finishes ss → Finishes (Spell s ∷ ss)
finish_spell s ss d vs = record {
  tokens = token Identifier (spelling s) ∷ (d vs).tokens;
  left = (d vs).left;
  runs = spell (token Identifier (spelling s)) refl refl (d vs).runs;
  begins = λ _. refl;
}

finish_build : (m : Make) (ss : List Symbol) → Finishes ss → Finishes (Build m ∷ ss)
finish_build m ss d vs = record { tokens = (d (made m vs)).tokens; left = (d (made m vs)).left; runs = build (d (made m vs)).runs; begins = (d (made m vs)).begins }

-- a goal can be finished if its rule can
by_rule : (g : Goal) (body ss : List Symbol) (vs : List StackItem) → rule g (first (body ++ ss)) (tag vs) ≡ Some body → first_of g (first ss) ≡ first (body ++ ss) → is_inside (first (body ++ ss)) ≡ true
    → Finish (body ++ ss) vs → Finish (Want g ∷ ss) vs
by_rule g body ss vs r e n f =
    let a : ahead f.tokens ≡ first (body ++ ss) = f.begins (inside_apart (first (body ++ ss)) n) in
    record { tokens = f.tokens; left = f.left; runs = want body (rw a r) f.runs; begins = λ _. a ∙ sym e }

-- where the rule begins with the symbols that follow
module _ (g : Goal) (body ss : List Symbol) (vs : List StackItem) where
  by_equal : (k : Terminal) → first ss ≡ k → rule g k (tag vs) ≡ Some body → first (body ++ ss) ≡ first ss → first_of g (first ss) ≡ first ss → is_inside k ≡ true
      → Finish (body ++ ss) vs → Finish (Want g ∷ ss) vs
  by_equal k e r b o n f = by_rule g body ss vs (rw b (rw e r)) (o ∙ sym b) (rw b (rw e n)) f

  by_closes : rule g RightParenthesis (tag vs) ≡ Some body → rule g RightBracket (tag vs) ≡ Some body → rule g Semicolon (tag vs) ≡ Some body → rule g Comma (tag vs) ≡ Some body → rule g Colon (tag vs) ≡ Some body
      → first (body ++ ss) ≡ first ss → first_of g (first ss) ≡ first ss → closes (first ss) ≡ true
      → Finish (body ++ ss) vs → Finish (Want g ∷ ss) vs
  by_closes r s t u v b o h f = by_equal (first ss) refl (of_closes (λ k. rule g k (tag vs) ≡ Some body) r s t u v (first ss) h) b o (closes_inside (first ss) h) f

  by_primary : rule g Step (tag vs) ≡ Some body
      → rule g RightParenthesis (tag vs) ≡ Some body → rule g RightBracket (tag vs) ≡ Some body → rule g Semicolon (tag vs) ≡ Some body → rule g Comma (tag vs) ≡ Some body → rule g Colon (tag vs) ≡ Some body
      → first (body ++ ss) ≡ first ss → first_of g (first ss) ≡ first ss → ends_primary (first ss) ≡ true
      → Finish (body ++ ss) vs → Finish (Want g ∷ ss) vs
  by_primary q r s t u v b o h f =
      by_equal (first ss) refl (of_primary (λ k. rule g k (tag vs) ≡ Some body) q (of_closes (λ k. rule g k (tag vs) ≡ Some body) r s t u v) (first ss) h) b o (primary_inside (first ss) h) f

  by_type : rule g Identifier (tag vs) ≡ Some body → rule g Greater (tag vs) ≡ Some body
      → rule g RightParenthesis (tag vs) ≡ Some body → rule g RightBracket (tag vs) ≡ Some body → rule g Semicolon (tag vs) ≡ Some body → rule g Comma (tag vs) ≡ Some body → rule g Colon (tag vs) ≡ Some body
      → first (body ++ ss) ≡ first ss → first_of g (first ss) ≡ first ss → ends_type (first ss) ≡ true
      → Finish (body ++ ss) vs → Finish (Want g ∷ ss) vs
  by_type p q r s t u v b o h f =
      by_equal (first ss) refl (of_type (λ k. rule g k (tag vs) ≡ Some body) p q (of_closes (λ k. rule g k (tag vs) ≡ Some body) r s t u v) (first ss) h) b o (type_inside (first ss) h) f

ends_operators : (n x : ℕ) (k : Terminal) (q : Tag) → closes k ≡ true → rule (goals.Operators n x) k q ≡ Some []
ends_operators n x k q = of_closes (λ k. rule (goals.Operators n x) k q ≡ Some []) refl refl refl refl refl k

finish_operators : (n x : ℕ) (ss : List Symbol) → closes (first ss) ≡ true → Finishes ss → Finishes (Want (goals.Operators n x) ∷ ss)
finish_operators n x ss h d vs = by_rule (goals.Operators n x) [] ss vs (ends_operators n x (first ss) (tag vs) h) refl (closes_inside (first ss) h) (d vs)

else_part : (k : Terminal) (q : Tag) → ends_statement k ≡ true → rule goals.ElsePart k q ≡ Some (Build makes.IfThen ∷ [])
else_part Else q h = cc
else_part _ q h = refl

-- Types with names before them that wait for their arguments are closed one by one.
abbrev is_inner : Tag → Bool
is_inner tags.InnerType = true
is_inner _ = false

if_outer : (b : Bool) (q r : Tag) → is_inner q ≡ false → is_inner r ≡ false → is_inner (if b then q else r) ≡ false
if_outer true q r h g = h
if_outer false q r h g = g

word_outer : (n : List ℕ) (vs : List StackItem) → is_inner (tag_of_word n vs) ≡ false
word_outer n (member b m ∷ owner c p o ∷ vs) = if_outer _ tags.Constructor tags.Word refl refl
word_outer n _ = refl

member_outer : (b : Bool) (m : Modifiers) → is_inner (tag_of_member b m) ≡ false
member_outer b m = if_outer m.overrides tags.Overriding _ refl (if_outer _ tags.Nestable tags.Other refl refl)

ends_chain : (q : Tag) (k : Terminal) → closes k ≡ true → is_inner q ≡ false → rule goals.ChainClosing k q ≡ Some []
ends_chain tags.InnerType k h e = cc
ends_chain q k h e = of_closes (λ k. rule goals.ChainClosing k q ≡ Some []) refl refl refl refl refl k h

by_closing : (body ss : List Symbol) (vs : List StackItem) → rule goals.ChainClosing (first (body ++ ss)) (tag vs) ≡ Some body → is_inside (first (body ++ ss)) ≡ true
    → Finish (body ++ ss) vs → Finish (Want goals.ChainClosing ∷ ss) vs
by_closing body ss vs r n f =
    let a : ahead f.tokens ≡ first (body ++ ss) = f.begins (inside_apart (first (body ++ ss)) n) in
    record { tokens = f.tokens; left = f.left; runs = want body (rw a r) f.runs; begins = λ m. absurd (m refl) }

module _ (ss : List Symbol) (h : closes (first ss) ≡ true) (d : Finishes ss) where
  closed : (vs : List StackItem) → is_inner (tag vs) ≡ false → Finish (Want goals.ChainClosing ∷ ss) vs
  closed vs n = by_closing [] ss vs (ends_chain (tag vs) (first ss) h n) (closes_inside (first ss) h) (d vs)

  inner : (vs : List StackItem) → tag vs ≡ tags.InnerType → Finish (Want goals.ChainClosing ∷ ss) (made makes.Generic vs) → Finish (Want goals.ChainClosing ∷ ss) vs
  inner vs e f = by_closing (Take Greater ∷ Build makes.Generic ∷ Want goals.ChainClosing ∷ []) ss vs (rw e refl) refl record {
    tokens = token Greater [] ∷ f.tokens;
    left = f.left;
    runs = take (token Greater []) refl (build f.runs);
    begins = λ _. refl;
  }

  finish_part : (p : Place) (f : Form) (t : Tree) (vs : List StackItem) → Finish (Want goals.ChainClosing ∷ ss) (part p f t ∷ vs)
  finish_part p forms.Type t (word r n ∷ vs) = inner (part p forms.Type t ∷ word r n ∷ vs) refl (finish_part r forms.Type (trees.GenericType r (trees.NamedType r n) t) vs)
  finish_part p forms.Type t (pair r o n ∷ vs) = inner (part p forms.Type t ∷ pair r o n ∷ vs) refl (finish_part r forms.Type (trees.GenericType r (trees.QualifiedType r o n) t) vs)
  finish_part p f t vs = closed (part p f t ∷ vs) refl

  finish_closing_chain : (vs : List StackItem) → Finish (Want goals.ChainClosing ∷ ss) vs
  finish_closing_chain (part p f t ∷ vs) = finish_part p f t vs
  finish_closing_chain (word p n ∷ vs) = closed (word p n ∷ vs) (word_outer n vs)
  finish_closing_chain (member b m ∷ vs) = closed (member b m ∷ vs) (member_outer b m)
  finish_closing_chain vs = closed vs refl

finish_chain_closing : (ss : List Symbol) → follows goals.ChainClosing (first ss) ≡ true → Finishes ss → Finishes (Want goals.ChainClosing ∷ ss)
finish_chain_closing ss h d vs = finish_closing_chain ss h d vs

finish_after_tested_by : (ss : List Symbol) (vs : List StackItem) (q : Tag) → tag vs ≡ q → closes (first ss) ≡ true → Finishes ss → Finish (Want goals.AfterTested ∷ ss) vs
finish_after_tested_by ss vs tags.Type e h d = by_rule goals.AfterTested (Build makes.InstanceOf ∷ []) ss vs (rw e refl) refl (closes_inside (first ss) h) (finish_build makes.InstanceOf _ d vs)
finish_after_tested_by ss vs _ e h d = by_rule goals.AfterTested [] ss vs (rw e refl) refl (closes_inside (first ss) h) (d vs)

finish_after_tested : (ss : List Symbol) → follows goals.AfterTested (first ss) ≡ true → Finishes ss → Finishes (Want goals.AfterTested ∷ ss)
finish_after_tested ss h d vs = finish_after_tested_by ss vs (tag vs) refl h d

-- the other goals, each by goals before it
finish_dotted : (ss : List Symbol) → follows goals.Dotted (first ss) ≡ true → Finishes ss → Finishes (Want goals.Dotted ∷ ss)
finish_dotted ss h d vs = by_equal goals.Dotted [] ss vs Semicolon (semicolon_is (first ss) h) refl refl refl refl
    (d vs)

finish_imported : (ss : List Symbol) → follows goals.Imported (first ss) ≡ true → Finishes ss → Finishes (Want goals.Imported ∷ ss)
finish_imported ss h d vs = by_rule goals.Imported (Take Identifier ∷ []) ss vs refl refl refl
    (finish_take Identifier _ tt d vs)

finish_classes : (ss : List Symbol) → follows goals.Classes (first ss) ≡ true → Finishes ss → Finishes (Want goals.Classes ∷ ss)
finish_classes ss h d vs = by_equal goals.Classes (Build makes.Nil ∷ []) ss vs End (end_is (first ss) h) refl refl refl refl
    (finish_build makes.Nil _ d vs)

finish_extended : (ss : List Symbol) → follows goals.Extended (first ss) ≡ true → Finishes ss → Finishes (Want goals.Extended ∷ ss)
finish_extended ss h d vs = by_equal goals.Extended (Build makes.Nil ∷ []) ss vs LeftBrace (left_brace_is (first ss) h) refl refl refl refl
    (finish_build makes.Nil _ d vs)

finish_class_tail : (ss : List Symbol) → follows goals.ClassTail (first ss) ≡ true → Finishes ss → Finishes (Want goals.ClassTail ∷ ss)
finish_class_tail ss h d vs = by_equal goals.ClassTail (Build makes.TypeOfName ∷ []) ss vs (first ss) refl
    (of_class_name (λ k. rule goals.ClassTail k (tag vs) ≡ Some (Build makes.TypeOfName ∷ [])) refl refl refl (first ss) h) refl refl (class_name_inside (first ss) h)
    (finish_build makes.TypeOfName _ d vs)

finish_members : (ss : List Symbol) → follows goals.Members (first ss) ≡ true → Finishes ss → Finishes (Want goals.Members ∷ ss)
finish_members ss h d vs = by_equal goals.Members (Build makes.EndMembers ∷ []) ss vs RightBrace (right_brace_is (first ss) h) refl refl refl refl
    (finish_build makes.EndMembers _ d vs)

finish_parameters : (ss : List Symbol) → follows goals.Parameters (first ss) ≡ true → Finishes ss → Finishes (Want goals.Parameters ∷ ss)
finish_parameters ss h d vs = by_equal goals.Parameters (Build makes.Nil ∷ []) ss vs RightParenthesis (right_parenthesis_is (first ss) h) refl refl refl refl
    (finish_build makes.Nil _ d vs)

finish_more_parameters : (ss : List Symbol) → follows goals.MoreParameters (first ss) ≡ true → Finishes ss → Finishes (Want goals.MoreParameters ∷ ss)
finish_more_parameters ss h d vs = by_equal goals.MoreParameters (Build makes.Nil ∷ Build makes.Cons ∷ []) ss vs RightParenthesis (right_parenthesis_is (first ss) h) refl refl refl refl
    (finish_build makes.Nil _ (finish_build makes.Cons _ d) vs)

finish_dimensions : (ss : List Symbol) → follows goals.Dimensions (first ss) ≡ true → Finishes ss → Finishes (Want goals.Dimensions ∷ ss)
finish_dimensions ss h d vs = by_type goals.Dimensions [] ss vs refl refl refl refl refl refl refl refl refl h
    (d vs)

finish_initialiser : (ss : List Symbol) → follows goals.Initialiser (first ss) ≡ true → Finishes ss → Finishes (Want goals.Initialiser ∷ ss)
finish_initialiser ss h d vs = by_equal goals.Initialiser (Build makes.Nil ∷ []) ss vs Semicolon (semicolon_is (first ss) h) refl refl refl refl
    (finish_build makes.Nil _ d vs)

finish_more_declarators : (ss : List Symbol) → follows goals.MoreDeclarators (first ss) ≡ true → Finishes ss → Finishes (Want goals.MoreDeclarators ∷ ss)
finish_more_declarators ss h d vs = by_equal goals.MoreDeclarators (Build makes.Nil ∷ Build makes.Cons ∷ []) ss vs Semicolon (semicolon_is (first ss) h) refl refl refl refl
    (finish_build makes.Nil _ (finish_build makes.Cons _ d) vs)

finish_statements : (ss : List Symbol) → follows goals.Statements (first ss) ≡ true → Finishes ss → Finishes (Want goals.Statements ∷ ss)
finish_statements ss h d vs = by_equal goals.Statements (Build makes.Nil ∷ []) ss vs RightBrace (right_brace_is (first ss) h) refl refl refl refl
    (finish_build makes.Nil _ d vs)

finish_statement : (ss : List Symbol) → follows goals.Statement (first ss) ≡ true → Finishes ss → Finishes (Want goals.Statement ∷ ss)
finish_statement ss h d vs = by_rule goals.Statement (Keep Semicolon ∷ Build makes.Empty ∷ []) ss vs refl refl refl
    (finish_keep Semicolon _ tt (finish_build makes.Empty _ d) vs)

no_catch : (k : Terminal) (q : Tag) → ends_statement k ≡ true → rule goals.Catches k q ≡ Some (Build makes.Nil ∷ [])
no_catch Catch q h = cc
no_catch _ q h = refl

finish_catches : (ss : List Symbol) → follows goals.Catches (first ss) ≡ true → Finishes ss → Finishes (Want goals.Catches ∷ ss)
finish_catches ss h d vs = by_rule goals.Catches (Build makes.Nil ∷ []) ss vs (no_catch (first ss) (tag vs) h) refl (statement_inside (first ss) h)
    (finish_build makes.Nil _ d vs)

finish_caught_parameter : (ss : List Symbol) → follows goals.CaughtParameter (first ss) ≡ true → Finishes ss → Finishes (Want goals.CaughtParameter ∷ ss)
finish_caught_parameter ss h d vs = by_rule goals.CaughtParameter (Word ∷ Want goals.ClassTail ∷ Word ∷ Build makes.Parameter ∷ []) ss vs refl refl refl
    (finish_word _ (finish_class_tail _ refl (finish_word _ (finish_build makes.Parameter _ d))) vs)

finish_catch : (ss : List Symbol) → follows goals.Catch (first ss) ≡ true → Finishes ss → Finishes (Want goals.Catch ∷ ss)
finish_catch ss h d vs = by_rule goals.Catch (Keep Catch ∷ Take LeftParenthesis ∷ Want goals.CaughtParameter ∷ Take RightParenthesis ∷ Keep LeftBrace ∷ Want goals.Statements ∷ Take RightBrace ∷ Build makes.Block ∷ Build makes.Catch ∷ []) ss vs refl refl refl
    (finish_keep Catch _ tt (finish_take LeftParenthesis _ tt (finish_caught_parameter _ refl (finish_take RightParenthesis _ tt (finish_keep LeftBrace _ tt (finish_statements _ refl (finish_take RightBrace _ tt (finish_build makes.Block _ (finish_build makes.Catch _ d)))))))) vs)

finish_optional_expression : (ss : List Symbol) → follows goals.OptionalExpression (first ss) ≡ true → Finishes ss → Finishes (Want goals.OptionalExpression ∷ ss)
finish_optional_expression ss h d vs = by_equal goals.OptionalExpression (Build makes.Nil ∷ []) ss vs Semicolon (semicolon_is (first ss) h) refl refl refl refl
    (finish_build makes.Nil _ d vs)

finish_else_part : (ss : List Symbol) → follows goals.ElsePart (first ss) ≡ true → Finishes ss → Finishes (Want goals.ElsePart ∷ ss)
finish_else_part ss h d vs = by_rule goals.ElsePart (Build makes.IfThen ∷ []) ss vs (else_part (first ss) (tag vs) h) refl (statement_inside (first ss) h)
    (finish_build makes.IfThen _ d vs)

finish_for_initial : (ss : List Symbol) → follows goals.ForInitial (first ss) ≡ true → Finishes ss → Finishes (Want goals.ForInitial ∷ ss)
finish_for_initial ss h d vs = by_equal goals.ForInitial (Build makes.Nil ∷ []) ss vs Semicolon (semicolon_is (first ss) h) refl refl refl refl
    (finish_build makes.Nil _ d vs)

finish_more_initial : (ss : List Symbol) → follows goals.MoreInitial (first ss) ≡ true → Finishes ss → Finishes (Want goals.MoreInitial ∷ ss)
finish_more_initial ss h d vs = by_equal goals.MoreInitial (Build makes.Nil ∷ Build makes.Cons ∷ []) ss vs Semicolon (semicolon_is (first ss) h) refl refl refl refl
    (finish_build makes.Nil _ (finish_build makes.Cons _ d) vs)

finish_for_updates : (ss : List Symbol) → follows goals.ForUpdates (first ss) ≡ true → Finishes ss → Finishes (Want goals.ForUpdates ∷ ss)
finish_for_updates ss h d vs = by_equal goals.ForUpdates (Build makes.Nil ∷ []) ss vs RightParenthesis (right_parenthesis_is (first ss) h) refl refl refl refl
    (finish_build makes.Nil _ d vs)

finish_more_updates : (ss : List Symbol) → follows goals.MoreUpdates (first ss) ≡ true → Finishes ss → Finishes (Want goals.MoreUpdates ∷ ss)
finish_more_updates ss h d vs = by_equal goals.MoreUpdates (Build makes.Nil ∷ Build makes.Cons ∷ []) ss vs RightParenthesis (right_parenthesis_is (first ss) h) refl refl refl refl
    (finish_build makes.Nil _ (finish_build makes.Cons _ d) vs)

finish_after_statement_primary : (ss : List Symbol) → follows goals.AfterStatementPrimary (first ss) ≡ true → Finishes ss → Finishes (Want goals.AfterStatementPrimary ∷ ss)
finish_after_statement_primary ss h d vs = by_rule goals.AfterStatementPrimary (Keep Step ∷ Build makes.StepBehind ∷ []) ss vs refl refl refl
    (finish_keep Step _ tt (finish_build makes.StepBehind _ d) vs)

finish_suffixes : (ss : List Symbol) → follows goals.Suffixes (first ss) ≡ true → Finishes ss → Finishes (Want goals.Suffixes ∷ ss)
finish_suffixes ss h d vs = by_primary goals.Suffixes [] ss vs refl refl refl refl refl refl refl refl h
    (d vs)

finish_arguments : (ss : List Symbol) → follows goals.Arguments (first ss) ≡ true → Finishes ss → Finishes (Want goals.Arguments ∷ ss)
finish_arguments ss h d vs = by_equal goals.Arguments (Build makes.Nil ∷ []) ss vs RightParenthesis (right_parenthesis_is (first ss) h) refl refl refl refl
    (finish_build makes.Nil _ d vs)

finish_more_arguments : (ss : List Symbol) → follows goals.MoreArguments (first ss) ≡ true → Finishes ss → Finishes (Want goals.MoreArguments ∷ ss)
finish_more_arguments ss h d vs = by_equal goals.MoreArguments (Build makes.Nil ∷ Build makes.Cons ∷ []) ss vs RightParenthesis (right_parenthesis_is (first ss) h) refl refl refl refl
    (finish_build makes.Nil _ (finish_build makes.Cons _ d) vs)

finish_after_operation : (ss : List Symbol) → follows goals.AfterOperation (first ss) ≡ true → Finishes ss → Finishes (Want goals.AfterOperation ∷ ss)
finish_after_operation ss h d vs = by_closes goals.AfterOperation [] ss vs refl refl refl refl refl refl refl h
    (d vs)

finish_postfixes : (ss : List Symbol) → follows goals.Postfixes (first ss) ≡ true → Finishes ss → Finishes (Want goals.Postfixes ∷ ss)
finish_postfixes ss h d vs = by_closes goals.Postfixes [] ss vs refl refl refl refl refl refl refl h
    (d vs)

finish_chain_bracket : (ss : List Symbol) → follows goals.ChainBracket (first ss) ≡ true → Finishes ss → Finishes (Want goals.ChainBracket ∷ ss)
finish_chain_bracket ss h d vs = by_rule goals.ChainBracket (Build makes.TypeOfName ∷ Take RightBracket ∷ Build makes.Array ∷ Want goals.ChainClosing ∷ []) ss vs refl refl refl
    (finish_build makes.TypeOfName _ (finish_take RightBracket _ tt (finish_build makes.Array _ (finish_chain_closing _ h d))) vs)

finish_imports : (ss : List Symbol) → follows goals.Imports (first ss) ≡ true → Finishes ss → Finishes (Want goals.Imports ∷ ss)
finish_imports ss h d vs = by_equal goals.Imports (Want goals.Classes ∷ []) ss vs End (end_is (first ss) h) refl refl refl refl
    (finish_classes _ h d vs)

finish_class_ahead : (ss : List Symbol) → follows goals.ClassAhead (first ss) ≡ true → Finishes ss → Finishes (Want goals.ClassAhead ∷ ss)
finish_class_ahead ss h d vs = by_rule goals.ClassAhead (Take Class ∷ Word ∷ Want goals.Extended ∷ Build makes.Owner ∷ Build makes.MemberAhead ∷ Take LeftBrace ∷ Want goals.Members ∷ Take RightBrace ∷ Build makes.Class ∷ []) ss vs refl refl refl
    (finish_take Class _ tt (finish_word _ (finish_extended _ refl (finish_build makes.Owner _ (finish_build makes.MemberAhead _ (finish_take LeftBrace _ tt (finish_members _ refl (finish_take RightBrace _ tt (finish_build makes.Class _ d)))))))) vs)

finish_method : (ss : List Symbol) → follows goals.Method (first ss) ≡ true → Finishes ss → Finishes (Want goals.Method ∷ ss)
finish_method ss h d vs = by_rule goals.Method (Take LeftParenthesis ∷ Want goals.Parameters ∷ Take RightParenthesis ∷ Take LeftBrace ∷ Want goals.Statements ∷ Take RightBrace ∷ Build makes.Method ∷ []) ss vs refl refl refl
    (finish_take LeftParenthesis _ tt (finish_parameters _ refl (finish_take RightParenthesis _ tt (finish_take LeftBrace _ tt (finish_statements _ refl (finish_take RightBrace _ tt (finish_build makes.Method _ d)))))) vs)

finish_thrown_name : (ss : List Symbol) → follows goals.ThrownName (first ss) ≡ true → Finishes ss → Finishes (Want goals.ThrownName ∷ ss)
finish_thrown_name ss h d vs = by_equal goals.ThrownName [] ss vs RightParenthesis (right_parenthesis_is (first ss) h) refl refl refl refl
    (d vs)

finish_contracts : (ss : List Symbol) → follows goals.Contracts (first ss) ≡ true → Finishes ss → Finishes (Want goals.Contracts ∷ ss)
finish_contracts ss h d vs = by_equal goals.Contracts (Build makes.Nil ∷ []) ss vs Void (void_is (first ss) h) refl refl refl refl
    (finish_build makes.Nil _ d vs)

finish_contracted_method : (ss : List Symbol) → follows goals.ContractedMethod (first ss) ≡ true → Finishes ss → Finishes (Want goals.ContractedMethod ∷ ss)
finish_contracted_method ss h d vs = by_rule goals.ContractedMethod (Take LeftParenthesis ∷ Want goals.Parameters ∷ Take RightParenthesis ∷ Take LeftBrace ∷ Want goals.Statements ∷ Take RightBrace ∷ Build makes.ContractedMethod ∷ []) ss vs refl refl refl
    (finish_take LeftParenthesis _ tt (finish_parameters _ refl (finish_take RightParenthesis _ tt (finish_take LeftBrace _ tt (finish_statements _ refl (finish_take RightBrace _ tt (finish_build makes.ContractedMethod _ d)))))) vs)

finish_method_ahead : (ss : List Symbol) → follows goals.MethodAhead (first ss) ≡ true → Finishes ss → Finishes (Want goals.MethodAhead ∷ ss)
finish_method_ahead ss h d vs = by_rule goals.MethodAhead (Keep Void ∷ Build makes.TypeOfMark ∷ Word ∷ Want goals.ContractedMethod ∷ []) ss vs refl refl refl
    (finish_keep Void _ tt (finish_build makes.TypeOfMark _ (finish_word _ (finish_contracted_method _ h d))) vs)

finish_field_or_method : (ss : List Symbol) → follows goals.FieldOrMethod (first ss) ≡ true → Finishes ss → Finishes (Want goals.FieldOrMethod ∷ ss)
finish_field_or_method ss h d vs = by_rule goals.FieldOrMethod (Want goals.Initialiser ∷ Build makes.Declarator ∷ Want goals.MoreDeclarators ∷ Take Semicolon ∷ Build makes.Field ∷ []) ss vs refl refl refl
    (finish_initialiser _ refl (finish_build makes.Declarator _ (finish_more_declarators _ refl (finish_take Semicolon _ tt (finish_build makes.Field _ d)))) vs)

finish_constructor_body : (ss : List Symbol) → follows goals.ConstructorBody (first ss) ≡ true → Finishes ss → Finishes (Want goals.ConstructorBody ∷ ss)
finish_constructor_body ss h d vs = by_equal goals.ConstructorBody (Build makes.Nil ∷ Want goals.Statements ∷ []) ss vs RightBrace (right_brace_is (first ss) h) refl refl refl refl
    (finish_build makes.Nil _ (finish_statements _ h d) vs)

finish_after_super : (ss : List Symbol) → follows goals.AfterSuper (first ss) ≡ true → Finishes ss → Finishes (Want goals.AfterSuper ∷ ss)
finish_after_super ss h d vs = by_rule goals.AfterSuper (Take LeftParenthesis ∷ Want goals.Arguments ∷ Take RightParenthesis ∷ Take Semicolon ∷ Build makes.ConstructorCall ∷ Want goals.Statements ∷ []) ss vs refl refl refl
    (finish_take LeftParenthesis _ tt (finish_arguments _ refl (finish_take RightParenthesis _ tt (finish_take Semicolon _ tt (finish_build makes.ConstructorCall _ (finish_statements _ h d))))) vs)

finish_type : (ss : List Symbol) → follows goals.Type (first ss) ≡ true → Finishes ss → Finishes (Want goals.Type ∷ ss)
finish_type ss h d vs = by_rule goals.Type (Keep Primitive ∷ Build makes.TypeOfMark ∷ Want goals.Dimensions ∷ []) ss vs refl refl refl
    (finish_keep Primitive _ tt (finish_build makes.TypeOfMark _ (finish_dimensions _ h d)) vs)

finish_type_tail : (ss : List Symbol) → follows goals.TypeTail (first ss) ≡ true → Finishes ss → Finishes (Want goals.TypeTail ∷ ss)
finish_type_tail ss h d vs = by_type goals.TypeTail (Build makes.TypeOfName ∷ Want goals.Dimensions ∷ []) ss vs refl refl refl refl refl refl refl refl refl h
    (finish_build makes.TypeOfName _ (finish_dimensions _ h d) vs)

finish_after_local_name : (ss : List Symbol) → follows goals.AfterLocalName (first ss) ≡ true → Finishes ss → Finishes (Want goals.AfterLocalName ∷ ss)
finish_after_local_name ss h d vs = by_equal goals.AfterLocalName (Want goals.Initialiser ∷ Build makes.Declarator ∷ Want goals.MoreDeclarators ∷ Build makes.Local ∷ []) ss vs Semicolon (semicolon_is (first ss) h) refl refl refl refl
    (finish_initialiser _ h (finish_build makes.Declarator _ (finish_more_declarators _ h (finish_build makes.Local _ d))) vs)

finish_block_statement : (ss : List Symbol) → follows goals.BlockStatement (first ss) ≡ true → Finishes ss → Finishes (Want goals.BlockStatement ∷ ss)
finish_block_statement ss h d vs = by_rule goals.BlockStatement (Want goals.Statement ∷ []) ss vs refl refl refl
    (finish_statement _ h d vs)

finish_primary : (ss : List Symbol) → follows goals.Primary (first ss) ≡ true → Finishes ss → Finishes (Want goals.Primary ∷ ss)
finish_primary ss h d vs = by_rule goals.Primary (Leaf ∷ Want goals.Suffixes ∷ []) ss vs refl refl refl
    (finish_leaf _ (finish_suffixes _ h d) vs)

finish_primary_name : (ss : List Symbol) → follows goals.PrimaryName (first ss) ≡ true → Finishes ss → Finishes (Want goals.PrimaryName ∷ ss)
finish_primary_name ss h d vs = by_primary goals.PrimaryName (Build makes.Variable ∷ Want goals.Suffixes ∷ []) ss vs refl refl refl refl refl refl refl refl h
    (finish_build makes.Variable _ (finish_suffixes _ h d) vs)

finish_object_creation : (ss : List Symbol) → follows goals.ObjectCreation (first ss) ≡ true → Finishes ss → Finishes (Want goals.ObjectCreation ∷ ss)
finish_object_creation ss h d vs = by_rule goals.ObjectCreation (Take LeftParenthesis ∷ Want goals.Arguments ∷ Take RightParenthesis ∷ Build makes.ObjectCreation ∷ []) ss vs refl refl refl
    (finish_take LeftParenthesis _ tt (finish_arguments _ refl (finish_take RightParenthesis _ tt (finish_build makes.ObjectCreation _ d))) vs)

finish_selected : (ss : List Symbol) → follows goals.Selected (first ss) ≡ true → Finishes ss → Finishes (Want goals.Selected ∷ ss)
finish_selected ss h d vs = by_primary goals.Selected (Build makes.FieldAccess ∷ Want goals.Suffixes ∷ []) ss vs refl refl refl refl refl refl refl refl h
    (finish_build makes.FieldAccess _ (finish_suffixes _ h d) vs)

finish_after_unary : (ss : List Symbol) → follows goals.AfterUnary (first ss) ≡ true → Finishes ss → Finishes (Want goals.AfterUnary ∷ ss)
finish_after_unary ss h d vs = by_closes goals.AfterUnary (Want (goals.Operators 1 10) ∷ Want goals.AfterOperation ∷ []) ss vs refl refl refl refl refl refl refl h
    (finish_operators 1 10 _ h (finish_after_operation _ h d) vs)

finish_closing : (ss : List Symbol) → follows goals.Closing (first ss) ≡ true → Finishes ss → Finishes (Want goals.Closing ∷ ss)
finish_closing ss h d vs = by_rule goals.Closing (Take RightParenthesis ∷ Build makes.Enclosed ∷ Want goals.Suffixes ∷ Want goals.Postfixes ∷ []) ss vs refl refl refl
    (finish_take RightParenthesis _ tt (finish_build makes.Enclosed _ (finish_suffixes _ (closes_primary (first ss) h) (finish_postfixes _ h d))) vs)

finish_after_enclosed_name : (ss : List Symbol) → follows goals.AfterEnclosedName (first ss) ≡ true → Finishes ss → Finishes (Want goals.AfterEnclosedName ∷ ss)
finish_after_enclosed_name ss h d vs = by_closes goals.AfterEnclosedName (Build makes.Variable ∷ Build makes.Enclosed ∷ Want goals.Suffixes ∷ Want goals.Postfixes ∷ []) ss vs refl refl refl refl refl refl refl h
    (finish_build makes.Variable _ (finish_build makes.Enclosed _ (finish_suffixes _ (closes_primary (first ss) h) (finish_postfixes _ h d))) vs)

finish_chain_primary : (ss : List Symbol) → follows goals.ChainPrimary (first ss) ≡ true → Finishes ss → Finishes (Want goals.ChainPrimary ∷ ss)
finish_chain_primary ss h d vs = by_closes goals.ChainPrimary (Want goals.Suffixes ∷ Want goals.Postfixes ∷ Want (goals.Operators 8 10) ∷ Build makes.Less ∷ []) ss vs refl refl refl refl refl refl refl h
    (finish_suffixes _ (closes_primary (first ss) h) (finish_postfixes _ h (finish_operators 8 10 _ h (finish_build makes.Less _ d))) vs)

finish_tested_name : (ss : List Symbol) → follows goals.TestedName (first ss) ≡ true → Finishes ss → Finishes (Want goals.TestedName ∷ ss)
finish_tested_name ss h d vs = by_closes goals.TestedName (Build makes.TypeOfName ∷ Want goals.Dimensions ∷ Build makes.InstanceOf ∷ []) ss vs refl refl refl refl refl refl refl h
    (finish_build makes.TypeOfName _ (finish_dimensions _ (closes_type (first ss) h) (finish_build makes.InstanceOf _ d)) vs)

finish_file : (ss : List Symbol) → follows goals.File (first ss) ≡ true → Finishes ss → Finishes (Want goals.File ∷ ss)
finish_file ss h d vs = by_equal goals.File (Want goals.Imports ∷ []) ss vs End (end_is (first ss) h) refl refl refl refl
    (finish_imports _ h d vs)

finish_member : (ss : List Symbol) → follows goals.Member (first ss) ≡ true → Finishes ss → Finishes (Want goals.Member ∷ ss)
finish_member ss h d vs = by_rule goals.Member (Keep Void ∷ Build makes.TypeOfMark ∷ Word ∷ Want goals.Method ∷ []) ss vs refl refl refl
    (finish_keep Void _ tt (finish_build makes.TypeOfMark _ (finish_word _ (finish_method _ h d))) vs)

finish_member_name : (ss : List Symbol) → follows goals.MemberName (first ss) ≡ true → Finishes ss → Finishes (Want goals.MemberName ∷ ss)
finish_member_name ss h d vs = by_rule goals.MemberName (Want goals.TypeTail ∷ Word ∷ Want goals.FieldOrMethod ∷ []) ss vs refl refl refl
    (finish_type_tail _ refl (finish_word _ (finish_field_or_method _ h d)) vs)

finish_parameter : (ss : List Symbol) → follows goals.Parameter (first ss) ≡ true → Finishes ss → Finishes (Want goals.Parameter ∷ ss)
finish_parameter ss h d vs = by_rule goals.Parameter (Want goals.Type ∷ Word ∷ Build makes.Parameter ∷ []) ss vs refl refl refl
    (finish_type _ refl (finish_word _ (finish_build makes.Parameter _ d)) vs)

finish_type_name : (ss : List Symbol) → follows goals.TypeName (first ss) ≡ true → Finishes ss → Finishes (Want goals.TypeName ∷ ss)
finish_type_name ss h d vs = by_type goals.TypeName (Want goals.TypeTail ∷ []) ss vs refl refl refl refl refl refl refl refl refl h
    (finish_type_tail _ h d vs)

finish_item : (ss : List Symbol) → follows goals.Item (first ss) ≡ true → Finishes ss → Finishes (Want goals.Item ∷ ss)
finish_item ss h d vs = by_rule goals.Item (Want goals.Type ∷ Word ∷ Want goals.AfterLocalName ∷ []) ss vs refl refl refl
    (finish_type _ refl (finish_word _ (finish_after_local_name _ h d)) vs)

finish_item_name : (ss : List Symbol) → follows goals.ItemName (first ss) ≡ true → Finishes ss → Finishes (Want goals.ItemName ∷ ss)
finish_item_name ss h d vs = by_rule goals.ItemName (Build makes.TypeOfName ∷ Word ∷ Want goals.AfterLocalName ∷ []) ss vs refl refl refl
    (finish_build makes.TypeOfName _ (finish_word _ (finish_after_local_name _ h d)) vs)

finish_item_bracket : (ss : List Symbol) → follows goals.ItemBracket (first ss) ≡ true → Finishes ss → Finishes (Want goals.ItemBracket ∷ ss)
finish_item_bracket ss h d vs = by_rule goals.ItemBracket (Build makes.TypeOfName ∷ Take RightBracket ∷ Build makes.Array ∷ Want goals.Dimensions ∷ Word ∷ Want goals.AfterLocalName ∷ []) ss vs refl refl refl
    (finish_build makes.TypeOfName _ (finish_take RightBracket _ tt (finish_build makes.Array _ (finish_dimensions _ refl (finish_word _ (finish_after_local_name _ h d))))) vs)

finish_creator_name : (ss : List Symbol) → follows goals.CreatorName (first ss) ≡ true → Finishes ss → Finishes (Want goals.CreatorName ∷ ss)
finish_creator_name ss h d vs = by_rule goals.CreatorName (Build makes.TypeOfName ∷ Want goals.ObjectCreation ∷ []) ss vs refl refl refl
    (finish_build makes.TypeOfName _ (finish_object_creation _ h d) vs)

finish_creator_argument : (ss : List Symbol) → follows goals.CreatorArgument (first ss) ≡ true → Finishes ss → Finishes (Want goals.CreatorArgument ∷ ss)
finish_creator_argument ss h d vs = by_rule goals.CreatorArgument (Take Greater ∷ Build makes.Diamond ∷ Want goals.ObjectCreation ∷ []) ss vs refl refl refl
    (finish_take Greater _ tt (finish_build makes.Diamond _ (finish_object_creation _ h d)) vs)

finish_unsigned : (ss : List Symbol) → follows goals.Unsigned (first ss) ≡ true → Finishes ss → Finishes (Want goals.Unsigned ∷ ss)
finish_unsigned ss h d vs = by_rule goals.Unsigned (Want goals.Primary ∷ Want goals.Postfixes ∷ []) ss vs refl refl refl
    (finish_primary _ (closes_primary (first ss) h) (finish_postfixes _ h d) vs)

finish_enclosed_name : (ss : List Symbol) → follows goals.EnclosedName (first ss) ≡ true → Finishes ss → Finishes (Want goals.EnclosedName ∷ ss)
finish_enclosed_name ss h d vs = by_rule goals.EnclosedName (Take RightParenthesis ∷ Want goals.AfterEnclosedName ∷ []) ss vs refl refl refl
    (finish_take RightParenthesis _ tt (finish_after_enclosed_name _ h d) vs)

finish_enclosed_primary : (ss : List Symbol) → follows goals.EnclosedPrimary (first ss) ≡ true → Finishes ss → Finishes (Want goals.EnclosedPrimary ∷ ss)
finish_enclosed_primary ss h d vs = by_rule goals.EnclosedPrimary (Want goals.Suffixes ∷ Want goals.Postfixes ∷ Want goals.AfterUnary ∷ Want goals.Closing ∷ []) ss vs refl refl refl
    (finish_suffixes _ refl (finish_postfixes _ refl (finish_after_unary _ refl (finish_closing _ h d))) vs)

finish_chain_name : (ss : List Symbol) → follows goals.ChainName (first ss) ≡ true → Finishes ss → Finishes (Want goals.ChainName ∷ ss)
finish_chain_name ss h d vs = by_closes goals.ChainName (Build makes.CompareBelow ∷ Build makes.Variable ∷ Want goals.ChainPrimary ∷ []) ss vs refl refl refl refl refl refl refl h
    (finish_build makes.CompareBelow _ (finish_build makes.Variable _ (finish_chain_primary _ h d)) vs)

finish_tested : (ss : List Symbol) → follows goals.Tested (first ss) ≡ true → Finishes ss → Finishes (Want goals.Tested ∷ ss)
finish_tested ss h d vs = by_rule goals.Tested (Word ∷ Want goals.TestedName ∷ []) ss vs refl refl refl
    (finish_word _ (finish_tested_name _ h d) vs)

finish_unary : (ss : List Symbol) → follows goals.Unary (first ss) ≡ true → Finishes ss → Finishes (Want goals.Unary ∷ ss)
finish_unary ss h d vs = by_rule goals.Unary (Want goals.Unsigned ∷ []) ss vs refl refl refl
    (finish_unsigned _ h d vs)

finish_enclosed_bracket : (ss : List Symbol) → follows goals.EnclosedBracket (first ss) ≡ true → Finishes ss → Finishes (Want goals.EnclosedBracket ∷ ss)
finish_enclosed_bracket ss h d vs = by_rule goals.EnclosedBracket (Build makes.TypeOfName ∷ Take RightBracket ∷ Build makes.Array ∷ Want goals.Dimensions ∷ Take RightParenthesis ∷ Want goals.Unsigned ∷ Build makes.Cast ∷ []) ss vs refl refl refl
    (finish_build makes.TypeOfName _ (finish_take RightBracket _ tt (finish_build makes.Array _ (finish_dimensions _ refl (finish_take RightParenthesis _ tt (finish_unsigned _ h (finish_build makes.Cast _ d)))))) vs)

finish_after_chain_by : (ss : List Symbol) (vs : List StackItem) (q : Tag) → tag vs ≡ q → closes (first ss) ≡ true → Finishes ss → Finish (Want goals.AfterChain ∷ ss) vs
finish_after_chain_by ss vs tags.Type e h d = by_rule goals.AfterChain (Take RightParenthesis ∷ Want goals.Unsigned ∷ Build makes.Cast ∷ []) ss vs (rw e refl) refl refl
    (finish_take RightParenthesis _ tt (finish_unsigned _ h (finish_build makes.Cast _ d)) vs)
finish_after_chain_by ss vs _ e h d = by_rule goals.AfterChain (Want (goals.Operators 1 7) ∷ Want goals.AfterOperation ∷ Want goals.Closing ∷ []) ss vs (rw e refl) refl refl
    (finish_operators 1 7 _ refl (finish_after_operation _ refl (finish_closing _ h d)) vs)

finish_after_chain : (ss : List Symbol) → follows goals.AfterChain (first ss) ≡ true → Finishes ss → Finishes (Want goals.AfterChain ∷ ss)
finish_after_chain ss h d vs = finish_after_chain_by ss vs (tag vs) refl h d

finish_statement_expression : (ss : List Symbol) → follows goals.StatementExpression (first ss) ≡ true → Finishes ss → Finishes (Want goals.StatementExpression ∷ ss)
finish_statement_expression ss h d vs = by_rule goals.StatementExpression (Keep Step ∷ Want goals.Unary ∷ Build makes.StepBefore ∷ []) ss vs refl refl refl
    (finish_keep Step _ tt (finish_unary _ h (finish_build makes.StepBefore _ d)) vs)

finish_expression : (ss : List Symbol) → follows goals.Expression (first ss) ≡ true → Finishes ss → Finishes (Want goals.Expression ∷ ss)
finish_expression ss h d vs = by_rule goals.Expression (Want goals.Unary ∷ Want goals.AfterUnary ∷ []) ss vs refl refl refl
    (finish_unary _ h (finish_after_unary _ h d) vs)

finish_conditional : (ss : List Symbol) → follows goals.Conditional (first ss) ≡ true → Finishes ss → Finishes (Want goals.Conditional ∷ ss)
finish_conditional ss h d vs = by_rule goals.Conditional (Want goals.Unary ∷ Want (goals.Operators 1 10) ∷ Want goals.AfterOperation ∷ []) ss vs refl refl refl
    (finish_unary _ h (finish_operators 1 10 _ h (finish_after_operation _ h d)) vs)

finish_primitive_cast : (ss : List Symbol) → follows goals.PrimitiveCast (first ss) ≡ true → Finishes ss → Finishes (Want goals.PrimitiveCast ∷ ss)
finish_primitive_cast ss h d vs = by_rule goals.PrimitiveCast (Take RightParenthesis ∷ Want goals.Unary ∷ Build makes.Cast ∷ []) ss vs refl refl refl
    (finish_take RightParenthesis _ tt (finish_unary _ h (finish_build makes.Cast _ d)) vs)

finish_chain_argument : (ss : List Symbol) → follows goals.ChainArgument (first ss) ≡ true → Finishes ss → Finishes (Want goals.ChainArgument ∷ ss)
finish_chain_argument ss h d vs = by_rule goals.ChainArgument (Build makes.CompareAll ∷ Want goals.Unary ∷ Want (goals.Operators 8 10) ∷ Build makes.Less ∷ []) ss vs refl refl refl
    (finish_build makes.CompareAll _ (finish_unary _ h (finish_operators 8 10 _ h (finish_build makes.Less _ d))) vs)

finish_chain_greater : (ss : List Symbol) → follows goals.ChainGreater (first ss) ≡ true → Finishes ss → Finishes (Want goals.ChainGreater ∷ ss)
finish_chain_greater ss h d vs = by_rule goals.ChainGreater (Build makes.CompareAll ∷ Want goals.Unary ∷ Want (goals.Operators 8 10) ∷ Build makes.Greater ∷ []) ss vs refl refl refl
    (finish_build makes.CompareAll _ (finish_unary _ h (finish_operators 8 10 _ h (finish_build makes.Greater _ d))) vs)

finish_array_length : (ss : List Symbol) → follows goals.ArrayLength (first ss) ≡ true → Finishes ss → Finishes (Want goals.ArrayLength ∷ ss)
finish_array_length ss h d vs = by_rule goals.ArrayLength (Take LeftBracket ∷ Want goals.Expression ∷ Take RightBracket ∷ Build makes.ArrayCreation ∷ []) ss vs refl refl refl
    (finish_take LeftBracket _ tt (finish_expression _ refl (finish_take RightBracket _ tt (finish_build makes.ArrayCreation _ d))) vs)

finish_contract : (ss : List Symbol) → follows goals.Contract (first ss) ≡ true → Finishes ss → Finishes (Want goals.Contract ∷ ss)
finish_contract ss h d vs = by_rule goals.Contract (Take Requires ∷ Want goals.Expression ∷ Take Semicolon ∷ Build makes.Requires ∷ []) ss vs refl refl refl
    (finish_take Requires _ tt (finish_expression _ refl (finish_take Semicolon _ tt (finish_build makes.Requires _ d))) vs)

finish_in_parentheses : (ss : List Symbol) → follows goals.InParentheses (first ss) ≡ true → Finishes ss → Finishes (Want goals.InParentheses ∷ ss)
finish_in_parentheses ss h d vs = by_rule goals.InParentheses (Want goals.Expression ∷ Want goals.Closing ∷ []) ss vs refl refl refl
    (finish_expression _ refl (finish_closing _ h d) vs)

finish_creator : (ss : List Symbol) → follows goals.Creator (first ss) ≡ true → Finishes ss → Finishes (Want goals.Creator ∷ ss)
finish_creator ss h d vs = by_rule goals.Creator (Keep Primitive ∷ Build makes.TypeOfMark ∷ Want goals.ArrayLength ∷ []) ss vs refl refl refl
    (finish_keep Primitive _ tt (finish_build makes.TypeOfMark _ (finish_array_length _ h d)) vs)

finish_goal : (g : Goal) (ss : List Symbol) → follows g (first ss) ≡ true → Finishes ss → Finishes (Want g ∷ ss)
finish_goal goals.File ss h d = finish_file ss h d
finish_goal goals.Dotted ss h d = finish_dotted ss h d
finish_goal goals.Imports ss h d = finish_imports ss h d
finish_goal goals.Imported ss h d = finish_imported ss h d
finish_goal goals.Classes ss h d = finish_classes ss h d
finish_goal goals.ClassAhead ss h d = finish_class_ahead ss h d
finish_goal goals.Extended ss h d = finish_extended ss h d
finish_goal goals.ClassTail ss h d = finish_class_tail ss h d
finish_goal goals.Members ss h d = finish_members ss h d
finish_goal goals.Member ss h d = finish_member ss h d
finish_goal goals.MemberName ss h d = finish_member_name ss h d
finish_goal goals.Contracts ss h d = finish_contracts ss h d
finish_goal goals.Contract ss h d = finish_contract ss h d
finish_goal goals.ThrownName ss h d = finish_thrown_name ss h d
finish_goal goals.MethodAhead ss h d = finish_method_ahead ss h d
finish_goal goals.ContractedMethod ss h d = finish_contracted_method ss h d
finish_goal goals.Method ss h d = finish_method ss h d
finish_goal goals.FieldOrMethod ss h d = finish_field_or_method ss h d
finish_goal goals.Parameters ss h d = finish_parameters ss h d
finish_goal goals.Parameter ss h d = finish_parameter ss h d
finish_goal goals.MoreParameters ss h d = finish_more_parameters ss h d
finish_goal goals.ConstructorBody ss h d = finish_constructor_body ss h d
finish_goal goals.AfterSuper ss h d = finish_after_super ss h d
finish_goal goals.Type ss h d = finish_type ss h d
finish_goal goals.TypeName ss h d = finish_type_name ss h d
finish_goal goals.TypeTail ss h d = finish_type_tail ss h d
finish_goal goals.Dimensions ss h d = finish_dimensions ss h d
finish_goal goals.Initialiser ss h d = finish_initialiser ss h d
finish_goal goals.MoreDeclarators ss h d = finish_more_declarators ss h d
finish_goal goals.AfterLocalName ss h d = finish_after_local_name ss h d
finish_goal goals.Statements ss h d = finish_statements ss h d
finish_goal goals.BlockStatement ss h d = finish_block_statement ss h d
finish_goal goals.Item ss h d = finish_item ss h d
finish_goal goals.ItemName ss h d = finish_item_name ss h d
finish_goal goals.ItemBracket ss h d = finish_item_bracket ss h d
finish_goal goals.Statement ss h d = finish_statement ss h d
finish_goal goals.OptionalExpression ss h d = finish_optional_expression ss h d
finish_goal goals.ElsePart ss h d = finish_else_part ss h d
finish_goal goals.Catch ss h d = finish_catch ss h d
finish_goal goals.Catches ss h d = finish_catches ss h d
finish_goal goals.CaughtParameter ss h d = finish_caught_parameter ss h d
finish_goal goals.ForInitial ss h d = finish_for_initial ss h d
finish_goal goals.MoreInitial ss h d = finish_more_initial ss h d
finish_goal goals.ForUpdates ss h d = finish_for_updates ss h d
finish_goal goals.MoreUpdates ss h d = finish_more_updates ss h d
finish_goal goals.StatementExpression ss h d = finish_statement_expression ss h d
finish_goal goals.AfterStatementPrimary ss h d = finish_after_statement_primary ss h d
finish_goal goals.Primary ss h d = finish_primary ss h d
finish_goal goals.PrimaryName ss h d = finish_primary_name ss h d
finish_goal goals.Creator ss h d = finish_creator ss h d
finish_goal goals.CreatorName ss h d = finish_creator_name ss h d
finish_goal goals.CreatorArgument ss h d = finish_creator_argument ss h d
finish_goal goals.ObjectCreation ss h d = finish_object_creation ss h d
finish_goal goals.ArrayLength ss h d = finish_array_length ss h d
finish_goal goals.Suffixes ss h d = finish_suffixes ss h d
finish_goal goals.Selected ss h d = finish_selected ss h d
finish_goal goals.Arguments ss h d = finish_arguments ss h d
finish_goal goals.MoreArguments ss h d = finish_more_arguments ss h d
finish_goal goals.Expression ss h d = finish_expression ss h d
finish_goal goals.AfterUnary ss h d = finish_after_unary ss h d
finish_goal goals.AfterOperation ss h d = finish_after_operation ss h d
finish_goal goals.Conditional ss h d = finish_conditional ss h d
finish_goal goals.Unary ss h d = finish_unary ss h d
finish_goal goals.Unsigned ss h d = finish_unsigned ss h d
finish_goal goals.Postfixes ss h d = finish_postfixes ss h d
finish_goal goals.InParentheses ss h d = finish_in_parentheses ss h d
finish_goal goals.PrimitiveCast ss h d = finish_primitive_cast ss h d
finish_goal goals.EnclosedName ss h d = finish_enclosed_name ss h d
finish_goal goals.EnclosedBracket ss h d = finish_enclosed_bracket ss h d
finish_goal goals.EnclosedPrimary ss h d = finish_enclosed_primary ss h d
finish_goal goals.Closing ss h d = finish_closing ss h d
finish_goal goals.AfterEnclosedName ss h d = finish_after_enclosed_name ss h d
finish_goal goals.AfterChain ss h d = finish_after_chain ss h d
finish_goal goals.ChainArgument ss h d = finish_chain_argument ss h d
finish_goal goals.ChainName ss h d = finish_chain_name ss h d
finish_goal goals.ChainBracket ss h d = finish_chain_bracket ss h d
finish_goal goals.ChainPrimary ss h d = finish_chain_primary ss h d
finish_goal goals.ChainGreater ss h d = finish_chain_greater ss h d
finish_goal goals.ChainClosing ss h d = finish_chain_closing ss h d
finish_goal goals.Tested ss h d = finish_tested ss h d
finish_goal goals.TestedName ss h d = finish_tested_name ss h d
finish_goal goals.AfterTested ss h d = finish_after_tested ss h d
finish_goal (goals.Operators n x) ss h d = finish_operators n x ss h d

finish_none : Finishes []
finish_none vs = record { tokens = []; left = vs; runs = done; begins = λ _. refl }

finish : (ss : List Symbol) → Good ss → Finishes ss
finish [] h = finish_none
finish (Take k ∷ ss) h = finish_take k ss h.0 (finish ss h.1)
finish (Keep k ∷ ss) h = finish_keep k ss h.0 (finish ss h.1)
finish (Word ∷ ss) h = finish_word ss (finish ss h)
finish (Leaf ∷ ss) h = finish_leaf ss (finish ss h)
finish (Spell s ∷ ss) h = finish_spell s ss (finish ss h)
finish (Build m ∷ ss) h = finish_build m ss (finish ss h)
finish (Want g ∷ ss) h = finish_goal g ss h.0 (finish ss h.1)

pub productivity : Productivity
productivity ss vs h = ((finish ss h vs).tokens, (finish ss h vs).left, (finish ss h vs).runs)
