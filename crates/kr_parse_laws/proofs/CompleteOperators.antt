-- Expressions with operators, and the chains of names with `<` between them.
use Rattle.std.proofs.Common.{◌≡◌, ℕ, zero, suc, ◌+◌, ◌≤◌, ◌<◌, Bool, true, false, nat_lt, if◌then◌else◌, List, [], ◌∷◌, Option, Some, None, refl, ap, ◌∙◌, arith}
use Rattle.std.proofs.lemmas.Bool.{lt-ltb, le-ltb, ltb-true, ltb-false}
use Rattle.kr_base.specs.declared.place.Place.{Place}
use Rattle.kr_lex.specs.Lexemes.{Lexeme}
use Rattle.kr_lex.specs.declared.kind.Kind.{Kind}
use Rattle.kr_lex.specs.declared.kind.Kind.TheVariants as kinds
use Rattle.kr_ast.specs.declared.node.BinaryOperator.{BinaryOperator}
use Rattle.kr_ast.specs.declared.node.BinaryOperator.TheVariants as binaries
use Rattle.kr_ast.specs.Tree as trees
use Rattle.kr_ast.specs.Tree.{Tree}
use Rattle.kr_parse_grammar.specs.declared.terminal.Terminal.{Terminal}
use Rattle.kr_parse_grammar.specs.declared.terminal.Terminal.TheVariants as terminals
use Rattle.kr_parse_grammar.specs.declared.value.Tag.{Tag}
use Rattle.kr_parse_grammar.specs.declared.value.Form.{Form}
use Rattle.kr_parse_grammar.specs.declared.value.Form.TheVariants as forms
use Rattle.kr_parse_grammar.specs.declared.goal.Goal.TheVariants as goals
use Rattle.kr_parse_grammar.specs.declared.goal.Make.TheVariants as makes
use Rattle.kr_parse_grammar.specs.declared.goal.Symbol.{Symbol}
use Rattle.kr_parse_grammar.specs.declared.goal.Symbol.TheVariants.{Keep, Want, Build}
use Rattle.kr_parse_grammar.specs.Terminals.{terminal_of}
use Rattle.kr_parse_grammar.specs.TokenMeanings.{binary_of, level}
use Rattle.kr_parse_grammar.specs.Values.{StackItem, mark, word, pair, part, member, owner, tag, is_name}
use Rattle.kr_parse_grammar.specs.Made.{made, compared, the_binary}
use Rattle.kr_parse_grammar.specs.Machine.{ahead, rule, starts_unary, starts_unsigned, ends_expression, level_of, infix_body, operators_rule, Runs, want}
use Rattle.kr_parse_laws.proofs.CompleteSteps.{RunsOf, opens}
use Rattle.kr_parse_laws.proofs.CompleteClaims.{IsName, a_word, a_pair, Plain, is_at_end, ends_operand, ends_suffixes, closes, is_relation}

pub suffixes_end : (k : Terminal) (q : Tag) → ends_suffixes k ≡ true → rule goals.Suffixes k q ≡ Some []
suffixes_end terminals.Dot q e = cc
suffixes_end terminals.LeftBracket q e = cc
suffixes_end terminals.Identifier q e = cc
suffixes_end terminals.Literal q e = cc
suffixes_end terminals.LeftParenthesis q e = cc
suffixes_end terminals.New q e = cc
suffixes_end terminals.Super q e = cc
suffixes_end terminals.Old q e = cc
suffixes_end terminals.Complement q e = cc
suffixes_end _ q e = refl

pub operand_primary : (k : Terminal) → ends_operand k ≡ true → ends_suffixes k ≡ true
operand_primary terminals.Dot e = e
operand_primary terminals.LeftBracket e = e
operand_primary terminals.Identifier e = e
operand_primary terminals.Literal e = e
operand_primary terminals.LeftParenthesis e = e
operand_primary terminals.New e = e
operand_primary terminals.Super e = e
operand_primary terminals.Old e = e
operand_primary terminals.Complement e = e
operand_primary _ e = refl

pub postfixes_end : (k : Terminal) (q : Tag) → ends_operand k ≡ true → rule goals.Postfixes k q ≡ Some []
postfixes_end terminals.Step q e = cc
postfixes_end _ q e = refl

pub dimensions_end : (k : Terminal) (q : Tag) → ends_operand k ≡ true → rule goals.Dimensions k q ≡ Some []
dimensions_end terminals.LeftBracket q e = cc
dimensions_end _ q e = refl

pub closes_operand : (k : Terminal) → closes k ≡ true → ends_operand k ≡ true
closes_operand terminals.RightParenthesis e = refl
closes_operand terminals.RightBracket e = refl
closes_operand terminals.Semicolon e = refl
closes_operand terminals.Comma e = refl
closes_operand terminals.Colon e = refl
closes_operand _ e = cc

-- after a whole operand the machine moves on
pub past_operand : (ss : List Symbol) (vs ws : List StackItem) (r : List Lexeme) → ends_operand (ahead r) ≡ true → Runs ss vs r ws → Runs (Want goals.Suffixes ∷ Want goals.Postfixes ∷ ss) vs r ws
past_operand ss vs ws r e d = want [] (suffixes_end (ahead r) (tag vs) (operand_primary (ahead r) e)) (want [] (postfixes_end (ahead r) (tag vs) e) d)

-- Operators.
when_runs : (b : Bool) (o : Option (List Symbol)) (ss : List Symbol) (vs ws : List StackItem) (r : List Lexeme) → RunsOf (if b then o else None) ss vs r ws → b ≡ true
when_runs true o ss vs ws r x = refl
when_runs false o ss vs ws r x = absurd x

unless_runs : (b : Bool) (o : Option (List Symbol)) (ss : List Symbol) (vs ws : List StackItem) (r : List Lexeme) → RunsOf (if b then None else o) ss vs r ws → b ≡ false
unless_runs true o ss vs ws r x = absurd x
unless_runs false o ss vs ws r x = refl

pub operators_inv : (n y : ℕ) (ss : List Symbol) (vs ws : List StackItem) (r : List Lexeme) → n ≤ suc y → Runs (Want (goals.Operators n y) ∷ ss) vs r ws → (ends_operand (ahead r) ≡ true) × (level_of (ahead r) ≤ y)
operators_inv n y ss vs ws r h d = go (level_of (ahead r)) (ahead r) (opens d)
  where
    high : (l : ℕ) (k : Terminal) (b : Bool) → nat_lt (suc l) n ≡ b → RunsOf (if b then Some [] else if nat_lt y (suc l) then None else Some (infix_body n k)) ss vs r ws → suc l ≤ y
    high l k true e x = let z : suc l < n = ltb-true (suc l) n e in omega (arith, z, h)
    high l k false e x = ltb-false y (suc l) (unless_runs (nat_lt y (suc l)) (Some (infix_body n k)) ss vs ws r x)

    go : (l : ℕ) (k : Terminal) → RunsOf (operators_rule n y k l) ss vs r ws → (is_at_end l k ≡ true) × (l ≤ y)
    go zero k x = (when_runs (ends_expression k) (Some []) ss vs ws r x, omega arith)
    go (suc l) k x = (refl, high l k (nat_lt (suc l) n) refl x)

stop_rule : (n y l : ℕ) (k : Terminal) → is_at_end l k ≡ true → l < n → operators_rule n y k l ≡ Some []
stop_rule n y zero k e h = rw e refl
stop_rule n y (suc l) k e h = let z : nat_lt (suc l) n ≡ true = lt-ltb (suc l) n h in rw z refl

pub operators_stop : (n y : ℕ) (ss : List Symbol) (vs ws : List StackItem) (r : List Lexeme) → ends_operand (ahead r) ≡ true → level_of (ahead r) < n → Runs ss vs r ws → Runs (Want (goals.Operators n y) ∷ ss) vs r ws
operators_stop n y ss vs ws r e h d = want [] (stop_rule n y (level_of (ahead r)) (ahead r) e h) d

pub go_rule : (n y l : ℕ) (k : Terminal) → 1 ≤ l → n ≤ l → l ≤ y → operators_rule n y k l ≡ Some (infix_body n k)
go_rule n y zero k o h z = absurd (omega (arith, o))
go_rule n y (suc l) k o h z =
    let a : nat_lt (suc l) n ≡ false = le-ltb (suc l) n h in
    let b : nat_lt y (suc l) ≡ false = le-ltb y (suc l) z in
    rw (a, b) refl

abbrev pub is_test : Terminal → Bool
is_test terminals.Instanceof = true
is_test _ = false

infix_at : (n : ℕ) (k : Terminal) → is_test k ≡ false → infix_body n k ≡ Keep k ∷ Want goals.Unary ∷ Want (goals.Operators (level_of k + 1) 10) ∷ Build makes.Binary ∷ Want (goals.Operators n (level_of k)) ∷ []
infix_at n terminals.Instanceof e = cc
infix_at n _ e = refl

pub infix_rule : (n y l : ℕ) (k : Terminal) → level_of k ≡ l → is_test k ≡ false → 1 ≤ l → n ≤ l → l ≤ y
    → operators_rule n y k (level_of k) ≡ Some (Keep k ∷ Want goals.Unary ∷ Want (goals.Operators (l + 1) 10) ∷ Build makes.Binary ∷ Want (goals.Operators n l) ∷ [])
infix_rule n y l k e h o z w =
    let a : operators_rule n y k (level_of k) ≡ Some (infix_body n k) = rw e (go_rule n y l k o z w) in
    let b : infix_body n k ≡ Keep k ∷ Want goals.Unary ∷ Want (goals.Operators (l + 1) 10) ∷ Build makes.Binary ∷ Want (goals.Operators n l) ∷ [] = rw e at (infix_at n k h) in
    a ∙ ap (λ x. Some x) b

-- the operators of token kinds
abbrev pub RelationOf : Terminal → BinaryOperator → Type 0
RelationOf terminals.Less o = o ≡ binaries.Less
RelationOf terminals.Greater o = o ≡ binaries.Greater
RelationOf _ o = Unit {0}

abbrev pub OperatorFacts : Kind → Option BinaryOperator → Type 0
OperatorFacts k None = Unit {0}
OperatorFacts k (Some o) = (level_of (terminal_of k) ≡ level o) × (the_binary k ≡ o) × (is_test (terminal_of k) ≡ false) × (1 ≤ level o) × (level o ≤ 10) × RelationOf (terminal_of k) o

operator_facts : (k : Kind) → OperatorFacts k (binary_of k)
operator_facts kinds.Star = (refl, refl, refl, omega arith, omega arith, tt)
operator_facts kinds.Slash = (refl, refl, refl, omega arith, omega arith, tt)
operator_facts kinds.Percent = (refl, refl, refl, omega arith, omega arith, tt)
operator_facts kinds.Plus = (refl, refl, refl, omega arith, omega arith, tt)
operator_facts kinds.Minus = (refl, refl, refl, omega arith, omega arith, tt)
operator_facts kinds.LessLess = (refl, refl, refl, omega arith, omega arith, tt)
operator_facts kinds.GreaterGreater = (refl, refl, refl, omega arith, omega arith, tt)
operator_facts kinds.GreaterGreaterGreater = (refl, refl, refl, omega arith, omega arith, tt)
operator_facts kinds.Less = (refl, refl, refl, omega arith, omega arith, refl)
operator_facts kinds.Greater = (refl, refl, refl, omega arith, omega arith, refl)
operator_facts kinds.LessEqual = (refl, refl, refl, omega arith, omega arith, tt)
operator_facts kinds.GreaterEqual = (refl, refl, refl, omega arith, omega arith, tt)
operator_facts kinds.EqualEqual = (refl, refl, refl, omega arith, omega arith, tt)
operator_facts kinds.ExclamationEqual = (refl, refl, refl, omega arith, omega arith, tt)
operator_facts kinds.Ampersand = (refl, refl, refl, omega arith, omega arith, tt)
operator_facts kinds.Caret = (refl, refl, refl, omega arith, omega arith, tt)
operator_facts kinds.Bar = (refl, refl, refl, omega arith, omega arith, tt)
operator_facts kinds.AmpersandAmpersand = (refl, refl, refl, omega arith, omega arith, tt)
operator_facts kinds.BarBar = (refl, refl, refl, omega arith, omega arith, tt)
operator_facts _ = tt

pub facts_of : (k : Kind) (o : BinaryOperator) → binary_of k ≡ Some o → OperatorFacts k (Some o)
facts_of k o e = rw e at (operator_facts k)

pub low_relation : (k : Terminal) → level_of k < 7 → is_relation k ≡ false
low_relation terminals.Less h = absurd (omega (arith, h))
low_relation terminals.Greater h = absurd (omega (arith, h))
low_relation _ h = refl

-- The first tokens of operands.
pub primary_starts : (ss : List Symbol) (vs ws : List StackItem) (i : List Lexeme) → Runs (Want goals.Primary ∷ ss) vs i ws → starts_unsigned (ahead i) ≡ true
primary_starts ss vs ws i d = go (ahead i) (opens d)
  where
    go : (k : Terminal) → RunsOf (rule goals.Primary k (tag vs)) ss vs i ws → starts_unsigned k ≡ true
    go terminals.Literal x = refl
    go terminals.Identifier x = refl
    go terminals.LeftParenthesis x = refl
    go terminals.Super x = refl
    go terminals.Old x = refl
    go terminals.New x = refl
    go _ x = absurd x

pub unsigned_starts : (ss : List Symbol) (vs ws : List StackItem) (i : List Lexeme) → Runs (Want goals.Unsigned ∷ ss) vs i ws → starts_unsigned (ahead i) ≡ true
unsigned_starts ss vs ws i d = go (ahead i) refl (opens d)
  where
    go : (k : Terminal) → ahead i ≡ k → RunsOf (rule goals.Unsigned k (tag vs)) ss vs i ws → starts_unsigned k ≡ true
    go terminals.Complement e x = refl
    go terminals.LeftParenthesis e x = refl
    go _ e x = rw e at (primary_starts (Want goals.Postfixes ∷ ss) vs ws i x)

pub signed : (k : Terminal) → starts_unsigned k ≡ true → starts_unary k ≡ true
signed terminals.Sign e = refl
signed terminals.Step e = refl
signed k e = e

pub unary_starts : (ss : List Symbol) (vs ws : List StackItem) (i : List Lexeme) → Runs (Want goals.Unary ∷ ss) vs i ws → starts_unary (ahead i) ≡ true
unary_starts ss vs ws i d = go (ahead i) refl (opens d)
  where
    go : (k : Terminal) → ahead i ≡ k → RunsOf (rule goals.Unary k (tag vs)) ss vs i ws → starts_unary k ≡ true
    go terminals.Sign e x = refl
    go terminals.Step e x = refl
    go k e x = rw e at (signed (ahead i) (unsigned_starts ss vs ws i x))

pub expression_starts : (ss : List Symbol) (vs ws : List StackItem) (i : List Lexeme) → Runs (Want goals.Expression ∷ ss) vs i ws → starts_unary (ahead i) ≡ true
expression_starts ss vs ws i d = unary_starts (Want goals.AfterUnary ∷ ss) vs ws i (want_body d)
  where
    want_body : Runs (Want goals.Expression ∷ ss) vs i ws → Runs (Want goals.Unary ∷ Want goals.AfterUnary ∷ ss) vs i ws
    want_body x = opens x

-- The reductions of names.
pub variable_of : (v : StackItem) (p : Place) (e u : Tree) (vs : List StackItem) → IsName v p e u → made makes.Variable (v ∷ vs) ≡ part p forms.Target e ∷ vs
variable_of v p e u vs a_word = refl
variable_of v p e u vs a_pair = refl

pub type_of : (v : StackItem) (p : Place) (e u : Tree) (vs : List StackItem) → IsName v p e u → made makes.TypeOfName (v ∷ vs) ≡ part p forms.Type u ∷ vs
type_of v p e u vs a_word = refl
type_of v p e u vs a_pair = refl

pub generic_of : (v : StackItem) (p : Place) (e u : Tree) (q : Place) (g : Form) (x : Tree) (vs : List StackItem) → IsName v p e u → made makes.Generic (part q g x ∷ v ∷ vs) ≡ part p forms.Type (trees.GenericType p u x) ∷ vs
generic_of v p e u q g x vs a_word = refl
generic_of v p e u q g x vs a_pair = refl

pub below_variable : (v : StackItem) (p : Place) (e u : Tree) (ns cs : List StackItem) → IsName v p e u → compared ns ≡ cs → made makes.Variable (made makes.CompareBelow (v ∷ ns)) ≡ part p forms.Target e ∷ cs
below_variable v p e u ns cs a_word z = ap (λ x. part p forms.Target e ∷ x) z
below_variable v p e u ns cs a_pair z = ap (λ x. part p forms.Target e ∷ x) z

pub plain_name : (ns : List StackItem) → is_name ns ≡ true → Plain ns
plain_name (word q m ∷ ns) e = λ p n. refl
plain_name (pair q o m ∷ ns) e = λ p n. refl
plain_name [] e = λ p n. refl
plain_name (mark k q ∷ ns) e = λ p n. refl
plain_name (part q f t ∷ ns) e = λ p n. refl
plain_name (member b m ∷ ns) e = cc
plain_name (owner b q m ∷ ns) e = λ p n. refl

-- a name after names, compared with them
pub compares : (v : StackItem) (q p : Place) (e u y : Tree) (f : Form) (ns vs : List StackItem) → IsName v q e u → is_name ns ≡ true → compared ns ≡ part p f y ∷ vs → compared (v ∷ ns) ≡ part p forms.Other (trees.Binary p binaries.Less y e) ∷ vs
compares v q p e u y f (word r m ∷ ns) vs a_word h z = rw z refl
compares v q p e u y f (word r m ∷ ns) vs a_pair h z = rw z refl
compares v q p e u y f (pair r o m ∷ ns) vs a_word h z = rw z refl
compares v q p e u y f (pair r o m ∷ ns) vs a_pair h z = rw z refl
compares v q p e u y f [] vs i h z = cc
compares v q p e u y f (mark k r ∷ ns) vs i h z = cc
compares v q p e u y f (part r g t ∷ ns) vs i h z = cc
compares v q p e u y f (member b m ∷ ns) vs i h z = cc
compares v q p e u y f (owner b r m ∷ ns) vs i h z = cc

-- a name after a tested expression
pub tests : (v : StackItem) (q p : Place) (e u y : Tree) (f : Form) (vs : List StackItem) → IsName v q e u → compared (v ∷ part p f y ∷ vs) ≡ part p forms.Other (trees.InstanceOf p y u) ∷ vs
tests v q p e u y f vs a_word = refl
tests v q p e u y f vs a_pair = refl

pub named : (v : StackItem) (q : Place) (e u : Tree) (ns : List StackItem) → IsName v q e u → is_name (v ∷ ns) ≡ true
named v q e u ns a_word = refl
named v q e u ns a_pair = refl
