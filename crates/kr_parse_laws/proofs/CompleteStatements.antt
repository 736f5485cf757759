-- Statements.
use Rattle.std.proofs.Common.{◌≡◌, Bool, true, false, List, ◌∷◌, refl, sym, ◌∙◌}
use Rattle.kr_lex.specs.Lexemes.{Lexeme}
use Rattle.kr_ast.specs.Tree as trees
use Rattle.kr_ast.specs.Tree.{Tree}
use Rattle.kr_parse_grammar.specs.declared.terminal.Terminal.{Terminal}
use Rattle.kr_parse_grammar.specs.declared.terminal.Terminal.TheVariants as terminals
use Rattle.kr_parse_grammar.specs.declared.value.Form.TheVariants as forms
use Rattle.kr_parse_grammar.specs.declared.goal.Goal.TheVariants as goals
use Rattle.kr_parse_grammar.specs.declared.goal.Make.TheVariants as makes
use Rattle.kr_parse_grammar.specs.declared.goal.Symbol.{Symbol}
use Rattle.kr_parse_grammar.specs.declared.goal.Symbol.TheVariants.{Take, Keep, Word, Want, Build}
use Rattle.kr_parse_grammar.specs.Terminals.{terminal_of}
use Rattle.kr_parse_grammar.specs.Values.{StackItem, mark, part}
use Rattle.kr_parse_grammar.specs.Made.{jump}
use Rattle.kr_parse_grammar.specs.Grammar.{at, EndsOpen}
use Rattle.kr_parse_grammar.specs.Machine.{ahead, starts_unary, Runs, take, keep, name, build}
use Rattle.kr_parse_laws.proofs.CompleteSteps.{open_at, step}
use Rattle.kr_parse_laws.proofs.CompleteOperators.{expression_starts}
use Rattle.kr_parse_laws.proofs.CompleteClaims.{Any, Optional, absent, present, Listed, end, next, Parted, last, comma, Plain, ExpressionClaim, starts_local, LocalClaim, StatementExpressionClaim, EvaluatedClaim, NoElse, NameClaim, CaughtClaim, CatchClaim, StatementClaim, BlockStatementClaim, ForInitialClaim}
use Rattle.kr_parse_laws.proofs.CompleteOperands.{differ}
use Rattle.kr_parse_laws.proofs.CompleteItems.{statement_starts}
use Rattle.kr_base.specs.Places.{nowhere}

-- where no expression begins
no_expression : (k : Terminal) → starts_unary k ≡ false → (ss : List Symbol) (vs ws : List StackItem) (i : List Lexeme) → ahead i ≡ k → Runs (Want goals.StatementExpression ∷ ss) vs i ws → ⊥
no_expression k h ss vs ws i e d = let z : starts_unary (ahead i) ≡ true = statement_starts ss vs ws i d in let w : starts_unary k ≡ true = rw e at z in (let y : true ≡ false = sym w ∙ h in cc)

-- the first tokens of a statement that is no item
abbrev begins_statement : Terminal → Bool
begins_statement terminals.LeftBrace = true
begins_statement terminals.Semicolon = true
begins_statement terminals.Return = true
begins_statement terminals.Break = true
begins_statement terminals.Continue = true
begins_statement terminals.If = true
begins_statement terminals.While = true
begins_statement terminals.Do = true
begins_statement terminals.For = true
begins_statement terminals.Throw = true
begins_statement terminals.Try = true
begins_statement _ = false

statement_by : (k : Terminal) (i r : List Lexeme) (t : Tree) → ahead i ≡ k → begins_statement k ≡ true
    → ((ss : List Symbol) (vs ws : List StackItem) → NoElse t r → Runs ss (part (at i) forms.Other t ∷ vs) r ws → Runs (Want goals.Statement ∷ ss) vs i ws) → StatementClaim i t r
statement_by k i r t e h f = record {
  simple = f;
  block = λ ss vs ws far plain d. go k e h ss vs ws (f ss vs ws far d);
}
  where
    go : (k : Terminal) → ahead i ≡ k → begins_statement k ≡ true → (ss : List Symbol) (vs ws : List StackItem) → Runs (Want goals.Statement ∷ ss) vs i ws → Runs (Want goals.BlockStatement ∷ ss) vs i ws
    go terminals.Final e h ss vs ws d = cc
    go terminals.Primitive e h ss vs ws d = cc
    go terminals.Identifier e h ss vs ws d = cc
    go k e h ss vs ws d = step goals.BlockStatement k ss vs ws i e d

-- Blocks.
statements_enter : (ss : List Symbol) (vs ws : List StackItem) (i : List Lexeme) → Runs (Want goals.BlockStatement ∷ Want goals.Statements ∷ Build makes.Cons ∷ ss) vs i ws → Runs (Want goals.Statements ∷ ss) vs i ws
statements_enter ss vs ws i d = go (ahead i) refl
  where
    go : (k : Terminal) → ahead i ≡ k → Runs (Want goals.Statements ∷ ss) vs i ws
    go terminals.RightBrace e = absurd (no_expression terminals.RightBrace refl (Build makes.ExpressionStatement ∷ Take terminals.Semicolon ∷ Want goals.Statements ∷ Build makes.Cons ∷ ss) vs ws i e
        (open_at goals.Statement terminals.RightBrace e (open_at goals.BlockStatement terminals.RightBrace e d)))
    go k e = step goals.Statements k ss vs ws i e d

statements_else : (ss : List Symbol) (vs ws : List StackItem) (i : List Lexeme) → Runs (Want goals.Statements ∷ ss) vs i ws → ahead i ≡ terminals.Else → ⊥
statements_else ss vs ws i d e = no_expression terminals.Else refl (Build makes.ExpressionStatement ∷ Take terminals.Semicolon ∷ Want goals.Statements ∷ Build makes.Cons ∷ ss) vs ws i e
    (open_at goals.Statement terminals.Else e (open_at goals.BlockStatement terminals.Else e (open_at goals.Statements terminals.Else e d)))

statements_catch : (ss : List Symbol) (vs ws : List StackItem) (i : List Lexeme) → Runs (Want goals.Statements ∷ ss) vs i ws → ahead i ≡ terminals.Catch → ⊥
statements_catch ss vs ws i d e = no_expression terminals.Catch refl (Build makes.ExpressionStatement ∷ Take terminals.Semicolon ∷ Want goals.Statements ∷ Build makes.Cons ∷ ss) vs ws i e
    (open_at goals.Statement terminals.Catch e (open_at goals.BlockStatement terminals.Catch e (open_at goals.Statements terminals.Catch e d)))

pub statements : {i r : List Lexeme} {t : Tree} → Listed BlockStatementClaim i t r → ahead r ≡ terminals.RightBrace → (ss : List Symbol) (vs ws : List StackItem) → Plain vs → Any ss vs t r ws → Runs (Want goals.Statements ∷ ss) vs i ws
statements (end {i = i}) e = λ ss vs ws plain k. step goals.Statements terminals.RightBrace ss vs ws i e (build (k nowhere forms.Other))
statements (next {i = i} {m = m} {t = t} d rest) e = λ ss vs ws plain k.
    let further : Any (Want goals.Statements ∷ Build makes.Cons ∷ ss) vs t m ws = λ p f. statements rest e (Build makes.Cons ∷ ss) (part p f t ∷ vs) ws (λ q n. refl) (λ q g. build (k p forms.Other)) in
    statements_enter ss vs ws i (d (Want goals.Statements ∷ Build makes.Cons ∷ ss) vs ws (λ h z. statements_else (Build makes.Cons ∷ ss) (part nowhere forms.Other t ∷ vs) ws m (further nowhere forms.Other) z, λ z. statements_catch (Build makes.Cons ∷ ss) (part nowhere forms.Other t ∷ vs) ws m (further nowhere forms.Other) z) plain further)

pub local_statement_claim : (i r : List Lexeme) (t : Tree) (a : Lexeme) → LocalClaim i t (a ∷ r) → terminal_of a.kind ≡ terminals.Semicolon → BlockStatementClaim i t r
local_statement_claim i r t a d ka = λ ss vs ws far plain k. go (ahead i) refl d.starts ss vs ws (d.item (Take terminals.Semicolon ∷ ss) vs ws ka plain (λ p f. take a ka (k p f)))
  where
    go : (h : Terminal) → ahead i ≡ h → starts_local h ≡ true → (ss : List Symbol) (vs ws : List StackItem) → Runs (Want goals.Item ∷ Take terminals.Semicolon ∷ ss) vs i ws → Runs (Want goals.BlockStatement ∷ ss) vs i ws
    go terminals.Final e z ss vs ws x = step goals.BlockStatement terminals.Final ss vs ws i e x
    go terminals.Primitive e z ss vs ws x = step goals.BlockStatement terminals.Primitive ss vs ws i e x
    go terminals.Identifier e z ss vs ws x = step goals.BlockStatement terminals.Identifier ss vs ws i e x
    go h e z ss vs ws x = cc

pub statement_claim : (i r : List Lexeme) (t : Tree) → StatementClaim i t r → BlockStatementClaim i t r
statement_claim i r t d = λ ss vs ws far plain k. d.block ss vs ws far plain (k (at i) forms.Other)

pub block_claim : (i r : List Lexeme) (t : Tree) (a b : Lexeme) → terminal_of a.kind ≡ terminals.LeftBrace → Listed BlockStatementClaim i t (b ∷ r) → terminal_of b.kind ≡ terminals.RightBrace → StatementClaim (a ∷ i) (trees.Block a.place t) r
block_claim i r t a b ka d kb = statement_by terminals.LeftBrace (a ∷ i) r (trees.Block a.place t) ka refl
    (λ ss vs ws far k. step goals.Statement terminals.LeftBrace ss vs ws (a ∷ i) ka
    (keep a ka (statements d kb (Take terminals.RightBrace ∷ Build makes.Block ∷ ss) (mark a.kind a.place ∷ vs) ws (λ p n. refl) (λ p f. take b kb (build k)))))

pub empty_claim : (i : List Lexeme) (a : Lexeme) → terminal_of a.kind ≡ terminals.Semicolon → StatementClaim (a ∷ i) (trees.Empty a.place) i
empty_claim i a ka = statement_by terminals.Semicolon (a ∷ i) i (trees.Empty a.place) ka refl (λ ss vs ws far k. step goals.Statement terminals.Semicolon ss vs ws (a ∷ i) ka (keep a ka (build k)))

pub evaluate_claim : (i r : List Lexeme) (t : Tree) (a : Lexeme) → EvaluatedClaim i t (a ∷ r) → terminal_of a.kind ≡ terminals.Semicolon → StatementClaim i t r
evaluate_claim i r t a d ka = record {
  simple = λ ss vs ws far k. simple ss vs ws k;
  block = λ ss vs ws far plain k. block ss vs ws plain k;
}
  where
    run : (ss : List Symbol) (vs ws : List StackItem) → Runs ss (part (at i) forms.Other t ∷ vs) r ws → Runs (Want goals.StatementExpression ∷ Build makes.ExpressionStatement ∷ Take terminals.Semicolon ∷ ss) vs i ws
    run ss vs ws k = d.simple (Take terminals.Semicolon ∷ ss) vs ws (rw ka refl) (take a ka k)

    starts : (ss : List Symbol) (vs ws : List StackItem) → Runs ss (part (at i) forms.Other t ∷ vs) r ws → starts_unary (ahead i) ≡ true
    starts ss vs ws k = statement_starts (Build makes.ExpressionStatement ∷ Take terminals.Semicolon ∷ ss) vs ws i (run ss vs ws k)

    simple : (ss : List Symbol) (vs ws : List StackItem) → Runs ss (part (at i) forms.Other t ∷ vs) r ws → Runs (Want goals.Statement ∷ ss) vs i ws
    simple ss vs ws k = go (ahead i) refl (starts ss vs ws k)
      where
        go : (h : Terminal) → ahead i ≡ h → starts_unary h ≡ true → Runs (Want goals.Statement ∷ ss) vs i ws
        go terminals.LeftBrace e z = cc
        go terminals.Semicolon e z = cc
        go terminals.Return e z = cc
        go terminals.Break e z = cc
        go terminals.Continue e z = cc
        go terminals.If e z = cc
        go terminals.While e z = cc
        go terminals.Do e z = cc
        go terminals.For e z = cc
        go terminals.Throw e z = cc
        go terminals.Try e z = cc
        go h e z = step goals.Statement h ss vs ws i e (run ss vs ws k)

    block : (ss : List Symbol) (vs ws : List StackItem) → Plain vs → Runs ss (part (at i) forms.Other t ∷ vs) r ws → Runs (Want goals.BlockStatement ∷ ss) vs i ws
    block ss vs ws plain k = go (ahead i) refl (starts ss vs ws k)
      where
        go : (h : Terminal) → ahead i ≡ h → starts_unary h ≡ true → Runs (Want goals.BlockStatement ∷ ss) vs i ws
        go terminals.Final e z = cc
        go terminals.Primitive e z = cc
        go terminals.Identifier e z = step goals.BlockStatement terminals.Identifier ss vs ws i e (d.item (Take terminals.Semicolon ∷ ss) vs ws (rw ka refl) plain (take a ka k))
        go h e z = step goals.BlockStatement h ss vs ws i e (simple ss vs ws k)

-- Statements that begin with a keyword.
optional_expression : {i r : List Lexeme} {t : Tree} → Optional ExpressionClaim i t r → ahead r ≡ terminals.Semicolon → (ss : List Symbol) (vs ws : List StackItem) → Any ss vs t r ws → Runs (Want goals.OptionalExpression ∷ ss) vs i ws
optional_expression (absent {i = i}) e = λ ss vs ws k. step goals.OptionalExpression terminals.Semicolon ss vs ws i e (build (k nowhere forms.Other))
optional_expression (present {i = i} d) e = λ ss vs ws k. enter ss vs ws i (d.simple ss vs ws (rw e refl) (λ f. k (at i) f))
  where
    enter : (ss : List Symbol) (vs ws : List StackItem) (i : List Lexeme) → Runs (Want goals.Expression ∷ ss) vs i ws → Runs (Want goals.OptionalExpression ∷ ss) vs i ws
    enter ss vs ws i d = go (ahead i) refl (expression_starts ss vs ws i d)
      where
        go : (k : Terminal) → ahead i ≡ k → starts_unary k ≡ true → Runs (Want goals.OptionalExpression ∷ ss) vs i ws
        go terminals.Semicolon e z = cc
        go k e z = step goals.OptionalExpression k ss vs ws i e d

pub return_claim : (i r : List Lexeme) (t : Tree) (a b : Lexeme) → terminal_of a.kind ≡ terminals.Return → Optional ExpressionClaim i t (b ∷ r) → terminal_of b.kind ≡ terminals.Semicolon → StatementClaim (a ∷ i) (trees.Return a.place t) r
return_claim i r t a b ka d kb = statement_by terminals.Return (a ∷ i) r (trees.Return a.place t) ka refl
    (λ ss vs ws far k. step goals.Statement terminals.Return ss vs ws (a ∷ i) ka
    (keep a ka (optional_expression d kb (Take terminals.Semicolon ∷ Build makes.Return ∷ ss) (mark a.kind a.place ∷ vs) ws (λ p f. take b kb (build k)))))

pub break_claim : (i : List Lexeme) (t : Tree) (a b : Lexeme) → terminal_of a.kind ≡ terminals.Break → terminal_of b.kind ≡ terminals.Semicolon → jump a.kind a.place ≡ t → StatementClaim (a ∷ b ∷ i) t i
break_claim i t a b ka kb e = statement_by terminals.Break (a ∷ b ∷ i) i t ka refl (λ ss vs ws far k. step goals.Statement terminals.Break ss vs ws (a ∷ b ∷ i) ka (keep a ka (take b kb (build (rw e k)))))

pub continue_claim : (i : List Lexeme) (t : Tree) (a b : Lexeme) → terminal_of a.kind ≡ terminals.Continue → terminal_of b.kind ≡ terminals.Semicolon → jump a.kind a.place ≡ t → StatementClaim (a ∷ b ∷ i) t i
continue_claim i t a b ka kb e = statement_by terminals.Continue (a ∷ b ∷ i) i t ka refl (λ ss vs ws far k. step goals.Statement terminals.Continue ss vs ws (a ∷ b ∷ i) ka (keep a ka (take b kb (build (rw e k)))))

no_else : (ss : List Symbol) (vs ws : List StackItem) (r : List Lexeme) → (ahead r ≡ terminals.Else → ⊥) → Runs (Build makes.IfThen ∷ ss) vs r ws → Runs (Want goals.ElsePart ∷ ss) vs r ws
no_else ss vs ws r h d = go (ahead r) refl
  where
    go : (k : Terminal) → ahead r ≡ k → Runs (Want goals.ElsePart ∷ ss) vs r ws
    go terminals.Else e = absurd (h e)
    go k e = step goals.ElsePart k ss vs ws r e d

pub if_then_claim : (i m r : List Lexeme) (c s : Tree) (a b d : Lexeme) → terminal_of a.kind ≡ terminals.If → terminal_of b.kind ≡ terminals.LeftParenthesis → ExpressionClaim i c (d ∷ m) → terminal_of d.kind ≡ terminals.RightParenthesis → StatementClaim m s r
    → StatementClaim (a ∷ b ∷ i) (trees.IfThen a.place c s) r
if_then_claim i m r c s a b d ka kb e kd f = statement_by terminals.If (a ∷ b ∷ i) r (trees.IfThen a.place c s) ka refl
    (λ ss vs ws far k. step goals.Statement terminals.If ss vs ws (a ∷ b ∷ i) ka
    (keep a ka
    (take b kb
    (e.simple (Take terminals.RightParenthesis ∷ Want goals.Statement ∷ Want goals.ElsePart ∷ ss) (mark a.kind a.place ∷ vs) ws (rw kd refl)
    (λ g. take d kd
    (f.simple (Want goals.ElsePart ∷ ss) (part (at i) g c ∷ mark a.kind a.place ∷ vs) ws (λ h z. far.0 tt z, far.1)
    (no_else ss (part (at m) forms.Other s ∷ part (at i) g c ∷ mark a.kind a.place ∷ vs) ws r (far.0 tt) (build k))))))))

pub if_else_claim : (i m n r : List Lexeme) (c s u : Tree) (a b d e : Lexeme) → terminal_of a.kind ≡ terminals.If → terminal_of b.kind ≡ terminals.LeftParenthesis → ExpressionClaim i c (d ∷ m) → terminal_of d.kind ≡ terminals.RightParenthesis
    → StatementClaim m s (e ∷ n) → terminal_of e.kind ≡ terminals.Else → (EndsOpen s → ⊥) → StatementClaim n u r → StatementClaim (a ∷ b ∷ i) (trees.IfElse a.place c s u) r
if_else_claim i m n r c s u a b d e ka kb x kd f ke shut w = statement_by terminals.If (a ∷ b ∷ i) r (trees.IfElse a.place c s u) ka refl
    (λ ss vs ws far k. step goals.Statement terminals.If ss vs ws (a ∷ b ∷ i) ka
    (keep a ka
    (take b kb
    (x.simple (Take terminals.RightParenthesis ∷ Want goals.Statement ∷ Want goals.ElsePart ∷ ss) (mark a.kind a.place ∷ vs) ws (rw kd refl)
    (λ g. take d kd
    (f.simple (Want goals.ElsePart ∷ ss) (part (at i) g c ∷ mark a.kind a.place ∷ vs) ws (λ h z. shut h, λ z. let y : terminals.Else ≡ terminals.Catch = differ (terminal_of e.kind) terminals.Else terminals.Catch ke z in cc)
    (step goals.ElsePart terminals.Else ss (part (at m) forms.Other s ∷ part (at i) g c ∷ mark a.kind a.place ∷ vs) ws (e ∷ n) ke
    (take e ke (w.simple (Build makes.IfElse ∷ ss) (part (at m) forms.Other s ∷ part (at i) g c ∷ mark a.kind a.place ∷ vs) ws far (build k))))))))))

pub while_claim : (i m r : List Lexeme) (c s : Tree) (a b d : Lexeme) → terminal_of a.kind ≡ terminals.While → terminal_of b.kind ≡ terminals.LeftParenthesis → ExpressionClaim i c (d ∷ m) → terminal_of d.kind ≡ terminals.RightParenthesis → StatementClaim m s r
    → StatementClaim (a ∷ b ∷ i) (trees.While a.place c s) r
while_claim i m r c s a b d ka kb e kd f = statement_by terminals.While (a ∷ b ∷ i) r (trees.While a.place c s) ka refl
    (λ ss vs ws far k. step goals.Statement terminals.While ss vs ws (a ∷ b ∷ i) ka
    (keep a ka
    (take b kb
    (e.simple (Take terminals.RightParenthesis ∷ Want goals.Statement ∷ Build makes.While ∷ ss) (mark a.kind a.place ∷ vs) ws (rw kd refl)
    (λ g. take d kd (f.simple (Build makes.While ∷ ss) (part (at i) g c ∷ mark a.kind a.place ∷ vs) ws far (build k)))))))

pub do_claim : (i m r : List Lexeme) (c s : Tree) (a b d e g : Lexeme) → terminal_of a.kind ≡ terminals.Do → StatementClaim i s (b ∷ d ∷ m) → terminal_of b.kind ≡ terminals.While → terminal_of d.kind ≡ terminals.LeftParenthesis
    → ExpressionClaim m c (e ∷ g ∷ r) → terminal_of e.kind ≡ terminals.RightParenthesis → terminal_of g.kind ≡ terminals.Semicolon → StatementClaim (a ∷ i) (trees.Do a.place s c) r
do_claim i m r c s a b d e g ka f kb kd x ke kg = statement_by terminals.Do (a ∷ i) r (trees.Do a.place s c) ka refl
    (λ ss vs ws far k. step goals.Statement terminals.Do ss vs ws (a ∷ i) ka
    (keep a ka
    (f.simple (Take terminals.While ∷ Take terminals.LeftParenthesis ∷ Want goals.Expression ∷ Take terminals.RightParenthesis ∷ Take terminals.Semicolon ∷ Build makes.Do ∷ ss) (mark a.kind a.place ∷ vs) ws
    (λ h z. let y : terminals.While ≡ terminals.Else = differ (terminal_of b.kind) terminals.While terminals.Else kb z in cc, λ z. let y : terminals.While ≡ terminals.Catch = differ (terminal_of b.kind) terminals.While terminals.Catch kb z in cc)
    (take b kb
    (take d kd
    (x.simple (Take terminals.RightParenthesis ∷ Take terminals.Semicolon ∷ Build makes.Do ∷ ss) (part (at i) forms.Other s ∷ mark a.kind a.place ∷ vs) ws (rw ke refl)
    (λ h. take e ke (take g kg (build k)))))))))

pub throw_claim : (i r : List Lexeme) (t : Tree) (a b : Lexeme) → terminal_of a.kind ≡ terminals.Throw → ExpressionClaim i t (b ∷ r) → terminal_of b.kind ≡ terminals.Semicolon → StatementClaim (a ∷ i) (trees.Throw a.place t) r
throw_claim i r t a b ka d kb = statement_by terminals.Throw (a ∷ i) r (trees.Throw a.place t) ka refl
    (λ ss vs ws far k. step goals.Statement terminals.Throw ss vs ws (a ∷ i) ka
    (keep a ka (d.simple (Take terminals.Semicolon ∷ Build makes.Throw ∷ ss) (mark a.kind a.place ∷ vs) ws (rw kb refl) (λ f. take b kb (build k)))))

-- `try`
pub caught_claim : (i r : List Lexeme) (t : Tree) (n : Lexeme) → NameClaim i t (n ∷ r) → terminal_of n.kind ≡ terminals.Identifier → CaughtClaim i (trees.Parameter n.place t n.text) r
caught_claim i r t n d kn = λ ss vs ws k. step goals.CaughtParameter terminals.Identifier ss vs ws i d.identifier
    (d.extends (Word ∷ Build makes.Parameter ∷ ss) vs ws (rw kn refl) (name n kn (build (k n.place forms.Other))))

pub final_caught_claim : (i r : List Lexeme) (t : Tree) (a n : Lexeme) → terminal_of a.kind ≡ terminals.Final → NameClaim i t (n ∷ r) → terminal_of n.kind ≡ terminals.Identifier → CaughtClaim (a ∷ i) (trees.Parameter n.place t n.text) r
final_caught_claim i r t a n ka d kn = λ ss vs ws k. step goals.CaughtParameter terminals.Final ss vs ws (a ∷ i) ka
    (take a ka (d.extends (Word ∷ Build makes.Parameter ∷ ss) vs ws (rw kn refl) (name n kn (build (k n.place forms.Other)))))

pub catch_claim : (i m r : List Lexeme) (t u : Tree) (a b d e g : Lexeme) → terminal_of a.kind ≡ terminals.Catch → terminal_of b.kind ≡ terminals.LeftParenthesis → CaughtClaim i t (d ∷ e ∷ m) → terminal_of d.kind ≡ terminals.RightParenthesis
    → terminal_of e.kind ≡ terminals.LeftBrace → Listed BlockStatementClaim m u (g ∷ r) → terminal_of g.kind ≡ terminals.RightBrace → CatchClaim (a ∷ b ∷ i) (trees.Catch a.place t (trees.Block e.place u)) r
catch_claim i m r t u a b d e g ka kb x kd ke body kg = record {
  starts = ka;
  taken = λ ss vs ws k. step goals.Catch terminals.Catch ss vs ws (a ∷ b ∷ i) ka
      (keep a ka
      (take b kb
      (x (Take terminals.RightParenthesis ∷ Keep terminals.LeftBrace ∷ Want goals.Statements ∷ Take terminals.RightBrace ∷ Build makes.Block ∷ Build makes.Catch ∷ ss) (mark a.kind a.place ∷ vs) ws
      (λ p f. take d kd
      (keep e ke
      (statements body kg (Take terminals.RightBrace ∷ Build makes.Block ∷ Build makes.Catch ∷ ss) (mark e.kind e.place ∷ part p f t ∷ mark a.kind a.place ∷ vs) ws (λ q n. refl)
      (λ q h. take g kg (build (build (k a.place forms.Other))))))))));
}

catches : {i r : List Lexeme} {t : Tree} → Listed CatchClaim i t r → (ahead r ≡ terminals.Catch → ⊥) → (ss : List Symbol) (vs ws : List StackItem) → Any ss vs t r ws → Runs (Want goals.Catches ∷ ss) vs i ws
catches (end {i = i}) h = λ ss vs ws k. none ss vs ws i h (build (k nowhere forms.Other))
  where
    none : (ss : List Symbol) (vs ws : List StackItem) (i : List Lexeme) → (ahead i ≡ terminals.Catch → ⊥) → Runs (Build makes.Nil ∷ ss) vs i ws → Runs (Want goals.Catches ∷ ss) vs i ws
    none ss vs ws i h d = go (ahead i) refl
      where
        go : (k : Terminal) → ahead i ≡ k → Runs (Want goals.Catches ∷ ss) vs i ws
        go terminals.Catch e = absurd (h e)
        go k e = step goals.Catches k ss vs ws i e d
catches (next {i = i} {t = t} c rest) h = λ ss vs ws k. step goals.Catches terminals.Catch ss vs ws i c.starts
    (c.taken (Want goals.Catches ∷ Build makes.Cons ∷ ss) vs ws
    (λ p f. catches rest h (Build makes.Cons ∷ ss) (part p f t ∷ vs) ws (λ q g. build (k p forms.Other))))

pub try_claim : (i m l r : List Lexeme) (t c u : Tree) (a b d : Lexeme) → terminal_of a.kind ≡ terminals.Try → terminal_of b.kind ≡ terminals.LeftBrace → Listed BlockStatementClaim i t (d ∷ m) → terminal_of d.kind ≡ terminals.RightBrace
    → CatchClaim m c l → Listed CatchClaim l u r → StatementClaim (a ∷ b ∷ i) (trees.Try a.place (trees.Block b.place t) (trees.Cons c u)) r
try_claim i m l r t c u a b d ka kb body kd x rest = statement_by terminals.Try (a ∷ b ∷ i) r (trees.Try a.place (trees.Block b.place t) (trees.Cons c u)) ka refl
    (λ ss vs ws far k. step goals.Statement terminals.Try ss vs ws (a ∷ b ∷ i) ka
    (keep a ka
    (keep b kb
    (statements body kd (Take terminals.RightBrace ∷ Build makes.Block ∷ Want goals.Catch ∷ Want goals.Catches ∷ Build makes.Cons ∷ Build makes.Try ∷ ss) (mark b.kind b.place ∷ mark a.kind a.place ∷ vs) ws (λ p n. refl)
    (λ p f. take d kd
    (build
    (x.taken (Want goals.Catches ∷ Build makes.Cons ∷ Build makes.Try ∷ ss) (part b.place forms.Other (trees.Block b.place t) ∷ mark a.kind a.place ∷ vs) ws
    (λ q g. catches rest far.1 (Build makes.Cons ∷ Build makes.Try ∷ ss) (part q g c ∷ part b.place forms.Other (trees.Block b.place t) ∷ mark a.kind a.place ∷ vs) ws
    (λ o h. build (build k))))))))))

-- The heads of loops.
more_initial : {i r : List Lexeme} {t : Tree} → Parted EvaluatedClaim i t r → ahead r ≡ terminals.Semicolon → (ss : List Symbol) (vs ws : List StackItem) → Any ss vs t r ws
    → Runs (Want goals.StatementExpression ∷ Build makes.ExpressionStatement ∷ Want goals.MoreInitial ∷ ss) vs i ws
more_initial (last {i = i} {r = r} {t = t} d) e = λ ss vs ws k. d.simple (Want goals.MoreInitial ∷ ss) vs ws (rw e refl)
    (step goals.MoreInitial terminals.Semicolon ss (part (at i) forms.Other t ∷ vs) ws r e (build (build (k (at i) forms.Other))))
more_initial (comma {i = i} {m = m} {t = t} a d ka rest) e = λ ss vs ws k. d.simple (Want goals.MoreInitial ∷ ss) vs ws (rw ka refl)
    (step goals.MoreInitial terminals.Comma ss (part (at i) forms.Other t ∷ vs) ws (a ∷ m) ka
    (take a ka (more_initial rest e (Build makes.Cons ∷ ss) (part (at i) forms.Other t ∷ vs) ws (λ p g. build (k (at i) forms.Other)))))

pub for_expressions_claim : {i r : List Lexeme} {t : Tree} → Parted EvaluatedClaim i t r → ForInitialClaim i t r
for_expressions_claim (last {i = i} {r = r} {t = t} d) = λ ss vs ws e plain k. d.item (Want goals.MoreInitial ∷ ss) vs ws (rw e refl) plain
    (step goals.MoreInitial terminals.Semicolon ss (part (at i) forms.Other t ∷ vs) ws r e (build (build (k (at i) forms.Other))))
for_expressions_claim (comma {i = i} {m = m} {t = t} a d ka rest) = λ ss vs ws e plain k. d.item (Want goals.MoreInitial ∷ ss) vs ws (rw ka refl) plain
    (step goals.MoreInitial terminals.Comma ss (part (at i) forms.Other t ∷ vs) ws (a ∷ m) ka
    (take a ka (more_initial rest e (Build makes.Cons ∷ ss) (part (at i) forms.Other t ∷ vs) ws (λ p g. build (k (at i) forms.Other)))))

pub for_local_claim : (i r : List Lexeme) (t : Tree) → LocalClaim i t r → ForInitialClaim i (trees.Cons t trees.Nil) r
for_local_claim i r t d = λ ss vs ws e plain k. d.item (Want goals.MoreInitial ∷ ss) vs ws e plain
    (λ p f. step goals.MoreInitial terminals.Semicolon ss (part p f t ∷ vs) ws r e (build (build (k p forms.Other))))

for_initial : {i r : List Lexeme} {t : Tree} → Optional ForInitialClaim i t r → ahead r ≡ terminals.Semicolon → (ss : List Symbol) (vs ws : List StackItem) → Plain vs → Any ss vs t r ws → Runs (Want goals.ForInitial ∷ ss) vs i ws
for_initial (absent {i = i}) e = λ ss vs ws plain k. step goals.ForInitial terminals.Semicolon ss vs ws i e (build (k nowhere forms.Other))
for_initial (present {i = i} d) e = λ ss vs ws plain k. enter ss vs ws i (d ss vs ws e plain k)
  where
    enter : (ss : List Symbol) (vs ws : List StackItem) (i : List Lexeme) → Runs (Want goals.Item ∷ Want goals.MoreInitial ∷ ss) vs i ws → Runs (Want goals.ForInitial ∷ ss) vs i ws
    enter ss vs ws i d = go (ahead i) refl
      where
        go : (k : Terminal) → ahead i ≡ k → Runs (Want goals.ForInitial ∷ ss) vs i ws
        go terminals.Semicolon e = absurd (no_expression terminals.Semicolon refl (Build makes.ExpressionStatement ∷ Want goals.MoreInitial ∷ ss) vs ws i e (open_at goals.Item terminals.Semicolon e d))
        go k e = step goals.ForInitial k ss vs ws i e d

more_updates : {i r : List Lexeme} {t : Tree} → Parted StatementExpressionClaim i t r → ahead r ≡ terminals.RightParenthesis → (ss : List Symbol) (vs ws : List StackItem) → Any ss vs t r ws → Runs (Want goals.StatementExpression ∷ Want goals.MoreUpdates ∷ ss) vs i ws
more_updates (last {i = i} {r = r} {t = t} d) e = λ ss vs ws k. d.simple (Want goals.MoreUpdates ∷ ss) vs ws (rw e refl)
    (λ f. step goals.MoreUpdates terminals.RightParenthesis ss (part (at i) f t ∷ vs) ws r e (build (build (k (at i) forms.Other))))
more_updates (comma {i = i} {m = m} {t = t} a d ka rest) e = λ ss vs ws k. d.simple (Want goals.MoreUpdates ∷ ss) vs ws (rw ka refl)
    (λ f. step goals.MoreUpdates terminals.Comma ss (part (at i) f t ∷ vs) ws (a ∷ m) ka
    (take a ka (more_updates rest e (Build makes.Cons ∷ ss) (part (at i) f t ∷ vs) ws (λ p g. build (k (at i) forms.Other)))))

for_updates : {i r : List Lexeme} {t : Tree} → Optional (Parted StatementExpressionClaim) i t r → ahead r ≡ terminals.RightParenthesis → (ss : List Symbol) (vs ws : List StackItem) → Any ss vs t r ws → Runs (Want goals.ForUpdates ∷ ss) vs i ws
for_updates (absent {i = i}) e = λ ss vs ws k. step goals.ForUpdates terminals.RightParenthesis ss vs ws i e (build (k nowhere forms.Other))
for_updates (present {i = i} d) e = λ ss vs ws k. enter ss vs ws i (more_updates d e ss vs ws k)
  where
    enter : (ss : List Symbol) (vs ws : List StackItem) (i : List Lexeme) → Runs (Want goals.StatementExpression ∷ Want goals.MoreUpdates ∷ ss) vs i ws → Runs (Want goals.ForUpdates ∷ ss) vs i ws
    enter ss vs ws i d = go (ahead i) refl
      where
        go : (k : Terminal) → ahead i ≡ k → Runs (Want goals.ForUpdates ∷ ss) vs i ws
        go terminals.RightParenthesis e = absurd (no_expression terminals.RightParenthesis refl (Want goals.MoreUpdates ∷ ss) vs ws i e d)
        go k e = step goals.ForUpdates k ss vs ws i e d

pub for_claim : (i j m n r : List Lexeme) (l c u s : Tree) (a b d e g : Lexeme) → terminal_of a.kind ≡ terminals.For → terminal_of b.kind ≡ terminals.LeftParenthesis → Optional ForInitialClaim i l (d ∷ j) → terminal_of d.kind ≡ terminals.Semicolon
    → Optional ExpressionClaim j c (e ∷ m) → terminal_of e.kind ≡ terminals.Semicolon → Optional (Parted StatementExpressionClaim) m u (g ∷ n) → terminal_of g.kind ≡ terminals.RightParenthesis → StatementClaim n s r
    → StatementClaim (a ∷ b ∷ i) (trees.For a.place l c u s) r
for_claim i j m n r l c u s a b d e g ka kb x kd y ke z kg w = statement_by terminals.For (a ∷ b ∷ i) r (trees.For a.place l c u s) ka refl
    (λ ss vs ws far k. step goals.Statement terminals.For ss vs ws (a ∷ b ∷ i) ka
    (keep a ka
    (take b kb
    (for_initial x kd (Take terminals.Semicolon ∷ Want goals.OptionalExpression ∷ Take terminals.Semicolon ∷ Want goals.ForUpdates ∷ Take terminals.RightParenthesis ∷ Want goals.Statement ∷ Build makes.For ∷ ss) (mark a.kind a.place ∷ vs) ws (λ p h. refl)
    (λ p f. take d kd
    (optional_expression y ke (Take terminals.Semicolon ∷ Want goals.ForUpdates ∷ Take terminals.RightParenthesis ∷ Want goals.Statement ∷ Build makes.For ∷ ss) (part p f l ∷ mark a.kind a.place ∷ vs) ws
    (λ q h. take e ke
    (for_updates z kg (Take terminals.RightParenthesis ∷ Want goals.Statement ∷ Build makes.For ∷ ss) (part q h c ∷ part p f l ∷ mark a.kind a.place ∷ vs) ws
    (λ o v. take g kg (w.simple (Build makes.For ∷ ss) (part o v u ∷ part q h c ∷ part p f l ∷ mark a.kind a.place ∷ vs) ws far (build k)))))))))))
