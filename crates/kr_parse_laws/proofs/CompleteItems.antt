-- Locals, and expressions that are statements.
use Rattle.std.proofs.Common.{◌≡◌, true, false, List, [], ◌∷◌, Some, refl}
use Rattle.kr_base.specs.declared.place.Place.{Place}
use Rattle.kr_lex.specs.Lexemes.{Lexeme}
use Rattle.kr_ast.specs.declared.node.StepOperator.{StepOperator}
use Rattle.kr_ast.specs.Tree as trees
use Rattle.kr_ast.specs.Tree.{Tree}
use Rattle.kr_parse_grammar.specs.declared.terminal.Terminal.{Terminal}
use Rattle.kr_parse_grammar.specs.declared.terminal.Terminal.TheVariants as terminals
use Rattle.kr_parse_grammar.specs.declared.value.Tag.{Tag}
use Rattle.kr_parse_grammar.specs.declared.value.Tag.TheVariants as tags
use Rattle.kr_parse_grammar.specs.declared.value.Form.{Form}
use Rattle.kr_parse_grammar.specs.declared.value.Form.TheVariants as forms
use Rattle.kr_parse_grammar.specs.declared.goal.Goal.TheVariants as goals
use Rattle.kr_parse_grammar.specs.declared.goal.Make.TheVariants as makes
use Rattle.kr_parse_grammar.specs.declared.goal.Symbol.{Symbol}
use Rattle.kr_parse_grammar.specs.declared.goal.Symbol.TheVariants.{Take, Word, Want, Build}
use Rattle.kr_parse_grammar.specs.Terminals.{terminal_of}
use Rattle.kr_parse_grammar.specs.TokenMeanings.{step_before, step_behind}
use Rattle.kr_parse_grammar.specs.Values.{StackItem, mark, word, part, tag}
use Rattle.kr_parse_grammar.specs.Grammar.{at}
use Rattle.kr_parse_grammar.specs.Machine.{ahead, rule, starts_unary, Runs, take, keep, name, want, build}
use Rattle.kr_parse_laws.proofs.CompleteSteps.{open_at, step, step_with, name_inv}
use Rattle.kr_parse_laws.proofs.CompleteOperators.{signed, suffixes_end, operand_primary, closes_operand, primary_starts, expression_starts, variable_of}
use Rattle.kr_parse_laws.proofs.CompleteClaims.{Part, Any, Parted, last, comma, IsName, Plain, ends_operand, closes, is_assigning, passes, Context, PrimaryClaim, OperandClaim, AssignmentClaim, ExpressionClaim, AnyTypeClaim, starts_type, starts_local, DeclaratorClaim, LocalClaim, StatementExpressionClaim, EvaluatedClaim}
use Rattle.kr_parse_laws.proofs.CompleteOperands.{BeforeFacts, before_means, BehindFacts, behind_means, differ}
use Rattle.kr_parse_laws.proofs.CompleteExpressions.{assigning_passes, assigning_suffixes}
use Rattle.kr_parse_laws.proofs.CompleteChains.{pair_tag}
use Rattle.kr_parse_laws.proofs.CompleteTypes.{name_kind}

-- Declarators.
initialiser_rule : (k : Terminal) (q : Tag) → closes k ≡ true → rule goals.Initialiser k q ≡ Some (Build makes.Nil ∷ [])
initialiser_rule terminals.Equal q e = cc
initialiser_rule _ q e = refl

pub declarator_claim : (i : List Lexeme) (a : Lexeme) → terminal_of a.kind ≡ terminals.Identifier → DeclaratorClaim (a ∷ i) (trees.Declarator a.place a.text trees.Nil) i
declarator_claim i a ka = λ ss vs ws e k. name a ka (want (Build makes.Nil ∷ []) (initialiser_rule (ahead i) (tag (word a.place a.text ∷ vs)) e) (build (build k)))

pub initialised_claim : (i r : List Lexeme) (t : Tree) (a b : Lexeme) → terminal_of a.kind ≡ terminals.Identifier → terminal_of b.kind ≡ terminals.Equal → ExpressionClaim i t r → DeclaratorClaim (a ∷ b ∷ i) (trees.Declarator a.place a.text t) r
initialised_claim i r t a b ka kb d = λ ss vs ws e k. name a ka
    (step goals.Initialiser terminals.Equal (Build makes.Declarator ∷ ss) (word a.place a.text ∷ vs) ws (b ∷ i) kb
    (take b kb (d.simple (Build makes.Declarator ∷ ss) (word a.place a.text ∷ vs) ws e (λ f. build k))))

pub declarators : {i r : List Lexeme} {t : Tree} → Parted DeclaratorClaim i t r → ahead r ≡ terminals.Semicolon → (ss : List Symbol) (vs ws : List StackItem) → Any ss vs t r ws
    → Runs (Word ∷ Want goals.Initialiser ∷ Build makes.Declarator ∷ Want goals.MoreDeclarators ∷ ss) vs i ws
declarators (last {i = i} {r = r} {t = t} d) e = λ ss vs ws k. d (Want goals.MoreDeclarators ∷ ss) vs ws (rw e refl)
    (step goals.MoreDeclarators terminals.Semicolon ss (part (at i) forms.Other t ∷ vs) ws r e (build (build (k (at i) forms.Other))))
declarators (comma {i = i} {m = m} {t = t} a d ka rest) e = λ ss vs ws k. d (Want goals.MoreDeclarators ∷ ss) vs ws (rw ka refl)
    (step goals.MoreDeclarators terminals.Comma ss (part (at i) forms.Other t ∷ vs) ws (a ∷ m) ka
    (take a ka (declarators rest e (Build makes.Cons ∷ ss) (part (at i) forms.Other t ∷ vs) ws (λ p g. build (k (at i) forms.Other)))))

-- Locals.
local_names : (ss : List Symbol) (vs ws : List StackItem) (m : List Lexeme) → Runs (Word ∷ Want goals.Initialiser ∷ Build makes.Declarator ∷ Want goals.MoreDeclarators ∷ Build makes.Local ∷ ss) vs m ws
    → Runs (Want goals.Dimensions ∷ Word ∷ Want goals.AfterLocalName ∷ ss) vs m ws
local_names ss vs ws m d =
    step goals.Dimensions terminals.Identifier (Word ∷ Want goals.AfterLocalName ∷ ss) vs ws m (name_kind (Want goals.Initialiser ∷ Build makes.Declarator ∷ Want goals.MoreDeclarators ∷ Build makes.Local ∷ ss) vs ws m d) (go (name_inv d))
  where
    go : (a : Lexeme) × (j : List Lexeme) × (m ≡ a ∷ j) × (terminal_of a.kind ≡ terminals.Identifier) × Runs (Want goals.Initialiser ∷ Build makes.Declarator ∷ Want goals.MoreDeclarators ∷ Build makes.Local ∷ ss) (word a.place a.text ∷ vs) j ws
        → Runs (Word ∷ Want goals.AfterLocalName ∷ ss) vs m ws
    go (a, j, e, ka, x) = rw e (name a ka (want (Want goals.Initialiser ∷ Build makes.Declarator ∷ Want goals.MoreDeclarators ∷ Build makes.Local ∷ []) refl x))

local_starts : (k : Terminal) → starts_type k ≡ true → starts_local k ≡ true
local_starts terminals.Final e = refl
local_starts k e = e

pub local_claim : (i m r : List Lexeme) (t u : Tree) → AnyTypeClaim i t m → Parted DeclaratorClaim m u r → LocalClaim i (trees.Local (at i) t u) r
local_claim i m r t u d ds = record {
  starts = local_starts (ahead i) d.type.starts;
  item = λ ss vs ws e plain k. d.type.local ss vs ws plain
      (local_names ss (part (at i) forms.Type t ∷ vs) ws m (declarators ds e (Build makes.Local ∷ ss) (part (at i) forms.Type t ∷ vs) ws (λ p f. build (k (at i) forms.Local))));
}

pub final_local_claim : (i m r : List Lexeme) (t u : Tree) (a : Lexeme) → terminal_of a.kind ≡ terminals.Final → AnyTypeClaim i t m → Parted DeclaratorClaim m u r → LocalClaim (a ∷ i) (trees.Local (at i) t u) r
final_local_claim i m r t u a ka d ds = record {
  starts = rw ka refl;
  item = λ ss vs ws e plain k.
      let x : Runs (Word ∷ Want goals.Initialiser ∷ Build makes.Declarator ∷ Want goals.MoreDeclarators ∷ Build makes.Local ∷ ss) (part (at i) forms.Type t ∷ vs) m ws =
      declarators ds e (Build makes.Local ∷ ss) (part (at i) forms.Type t ∷ vs) ws (λ p f. build (k (at i) forms.Local)) in
      step goals.Item terminals.Final ss vs ws (a ∷ i) ka
      (take a ka (d.type.simple (Word ∷ Want goals.AfterLocalName ∷ ss) vs ws
      (rw (name_kind (Want goals.Initialiser ∷ Build makes.Declarator ∷ Want goals.MoreDeclarators ∷ Build makes.Local ∷ ss) (part (at i) forms.Type t ∷ vs) ws m x) refl)
      (local_names ss (part (at i) forms.Type t ∷ vs) ws m x)));
}

-- Names that begin an item, as operands.
module _ (ss : List Symbol) (ns ws : List StackItem) (plain : Plain ns) where
  item_operand : (v : StackItem) (q : Place) (e u : Tree) (j : List Lexeme) → IsName v q e u → passes false v (ahead j) ≡ true
      → Runs (Want goals.Suffixes ∷ Want goals.AfterStatementPrimary ∷ Build makes.ExpressionStatement ∷ ss) (part q forms.Target e ∷ ns) j ws → Runs (Want goals.ItemName ∷ ss) (v ∷ ns) j ws
  item_operand v q e u j isn h d = go (ahead j) refl h
    where
      behind : Runs (Build makes.Variable ∷ Want goals.Suffixes ∷ Want goals.AfterStatementPrimary ∷ Build makes.ExpressionStatement ∷ ss) (v ∷ ns) j ws
      behind = build (rw (variable_of v q e u ns isn) d)

      go : (h : Terminal) → ahead j ≡ h → passes false v h ≡ true → Runs (Want goals.ItemName ∷ ss) (v ∷ ns) j ws
      go terminals.Less z y = cc
      go terminals.LeftBracket z y = cc
      go terminals.Dot z y = step_with goals.ItemName terminals.Dot tags.Pair ss (v ∷ ns) ws j z (pair_tag false v q e u ns isn y) behind
      go terminals.LeftParenthesis z y = absurd (open_at goals.Suffixes terminals.LeftParenthesis z d)
      go terminals.Identifier z y = absurd (open_at goals.Suffixes terminals.Identifier z d)
      go h z y = step goals.ItemName h ss (v ∷ ns) ws j z behind

  item_context : Context false goals.ItemName ss ns (Want goals.AfterStatementPrimary ∷ Build makes.ExpressionStatement ∷ ss) ns ws
  item_context = record {
    plain = plain;
    after = Want goals.Suffixes ∷ Want goals.AfterStatementPrimary ∷ Build makes.ExpressionStatement ∷ ss;
    onto = λ us j d. d;
    call = λ v q e u j isn z d. step goals.ItemName terminals.LeftParenthesis ss (v ∷ ns) ws j z d;
    index = λ v q e u a j isn z d. step goals.ItemName terminals.LeftBracket ss (v ∷ ns) ws (a ∷ j) z (take a z (bracket v q e u j isn d));
    dot = λ q n j z d. step_with goals.ItemName terminals.Dot tags.Word ss (word q n ∷ ns) ws j z (plain q n) d;
    operand = item_operand;
  }
    where
      bracket : (v : StackItem) (q : Place) (e u : Tree) (j : List Lexeme) → IsName v q e u
          → Runs (Want goals.Expression ∷ Take terminals.RightBracket ∷ Build makes.ArrayAccess ∷ Want goals.Suffixes ∷ Want goals.AfterStatementPrimary ∷ Build makes.ExpressionStatement ∷ ss) (part q forms.Target e ∷ ns) j ws → Runs (Want goals.ItemBracket ∷ ss) (v ∷ ns) j ws
      bracket v q e u j isn d = go (ahead j) refl (expression_starts (Take terminals.RightBracket ∷ Build makes.ArrayAccess ∷ Want goals.Suffixes ∷ Want goals.AfterStatementPrimary ∷ Build makes.ExpressionStatement ∷ ss) (part q forms.Target e ∷ ns) ws j d)
        where
          go : (h : Terminal) → ahead j ≡ h → starts_unary h ≡ true → Runs (Want goals.ItemBracket ∷ ss) (v ∷ ns) j ws
          go terminals.RightBracket z y = cc
          go h z y = step goals.ItemBracket h ss (v ∷ ns) ws j z (build (rw (variable_of v q e u ns isn) d))

-- Expressions that are statements.
primary_enter : (ss : List Symbol) (vs ws : List StackItem) (i : List Lexeme) → Runs (Want goals.Primary ∷ Want goals.AfterStatementPrimary ∷ ss) vs i ws → Runs (Want goals.StatementExpression ∷ ss) vs i ws
primary_enter ss vs ws i d = go (ahead i) refl
  where
    go : (k : Terminal) → ahead i ≡ k → Runs (Want goals.StatementExpression ∷ ss) vs i ws
    go terminals.Step e = absurd (open_at goals.Primary terminals.Step e d)
    go k e = step goals.StatementExpression k ss vs ws i e d

pub assigns_claim : (i r : List Lexeme) (t : Tree) → AssignmentClaim i t r → StatementExpressionClaim i t r
assigns_claim i r t d = record {
  simple = λ ss vs ws e k. primary_enter ss vs ws i (d.takes.simple false (Want goals.AfterStatementPrimary ∷ ss) vs ws (behind ss vs ws e k));
  item = λ ss vs ws e plain k z. d.takes.led false goals.ItemName ss vs (Want goals.AfterStatementPrimary ∷ Build makes.ExpressionStatement ∷ ss) vs ws (item_context ss vs ws plain)
      (behind (Build makes.ExpressionStatement ∷ ss) vs ws e k)
      (λ y v w isn. item_operand ss vs ws plain v (at i) d.target w d.rest isn (assigning_passes v (ahead d.rest) d.assigning) (behind (Build makes.ExpressionStatement ∷ ss) vs ws e k)) z;
}
  where
    after : (ss : List Symbol) (vs ws : List StackItem) → closes (ahead r) ≡ true → Part ss vs (at i) t r ws → Runs (Want goals.AfterStatementPrimary ∷ ss) (part (at i) forms.Target d.target ∷ vs) d.rest ws
    after ss vs ws e k = go (ahead d.rest) refl d.assigning
      where
        go : (h : Terminal) → ahead d.rest ≡ h → is_assigning h ≡ true → Runs (Want goals.AfterStatementPrimary ∷ ss) (part (at i) forms.Target d.target ∷ vs) d.rest ws
        go terminals.Equal z y = step goals.AfterStatementPrimary terminals.Equal ss (part (at i) forms.Target d.target ∷ vs) ws d.rest z (d.behind terminals.Equal ss vs ws z e (k forms.Other))
        go terminals.Compound z y = step goals.AfterStatementPrimary terminals.Compound ss (part (at i) forms.Target d.target ∷ vs) ws d.rest z (d.behind terminals.Compound ss vs ws z e (k forms.Other))
        go h z y = cc

    behind : (ss : List Symbol) (vs ws : List StackItem) → closes (ahead r) ≡ true → Part ss vs (at i) t r ws → Runs (Want goals.Suffixes ∷ Want goals.AfterStatementPrimary ∷ ss) (part (at i) forms.Target d.target ∷ vs) d.rest ws
    behind ss vs ws e k = assigning_suffixes i r t d (Want goals.AfterStatementPrimary ∷ ss) vs ws (after ss vs ws e k)

pub steps_claim : (i r : List Lexeme) (t : Tree) (o : StepOperator) (a : Lexeme) → step_before a.kind ≡ Some o → OperandClaim ends_operand goals.Unary [] i t r → StatementExpressionClaim (a ∷ i) (trees.Step a.place o t) r
steps_claim i r t o a e d =
    let facts : BeforeFacts a.kind (Some o) = before_means a.kind o e in
    record {
      simple = λ ss vs ws x k. step goals.StatementExpression terminals.Step ss vs ws (a ∷ i) facts.0
          (keep a facts.0 (d.simple (Build makes.StepBefore ∷ ss) (mark a.kind a.place ∷ vs) ws (closes_operand (ahead r) x) (λ f. build (rw facts.1 (k forms.Other)))));
      item = λ ss vs ws x plain k z. absurd (let y : terminals.Step ≡ terminals.Identifier = differ (terminal_of a.kind) terminals.Step terminals.Identifier facts.0 z in cc);
    }

pub is_stepped_claim : (f : Form) (i r : List Lexeme) (t : Tree) (o : StepOperator) (a : Lexeme) → PrimaryClaim f i t (a ∷ r) → step_behind a.kind ≡ Some o → StatementExpressionClaim i (trees.Step (at i) o t) r
is_stepped_claim f i r t o a d e = record {
  simple = λ ss vs ws x k. primary_enter ss vs ws i (d.simple false (Want goals.AfterStatementPrimary ∷ ss) vs ws (behind f ss vs ws k));
  item = λ ss vs ws x plain k z. d.led false goals.ItemName ss vs (Want goals.AfterStatementPrimary ∷ Build makes.ExpressionStatement ∷ ss) vs ws (item_context ss vs ws plain)
      (behind f (Build makes.ExpressionStatement ∷ ss) vs ws k)
      (λ y v w isn. item_operand ss vs ws plain v (at i) t w (a ∷ r) isn (rw facts.0 refl) (behind forms.Target (Build makes.ExpressionStatement ∷ ss) vs ws k)) z;
}
  where
    facts : BehindFacts a.kind (Some o)
    facts = behind_means a.kind o e

    behind : (g : Form) (ss : List Symbol) (vs ws : List StackItem) → Part ss vs (at i) (trees.Step (at i) o t) r ws → Runs (Want goals.Suffixes ∷ Want goals.AfterStatementPrimary ∷ ss) (part (at i) g t ∷ vs) (a ∷ r) ws
    behind g ss vs ws k = step goals.Suffixes terminals.Step (Want goals.AfterStatementPrimary ∷ ss) (part (at i) g t ∷ vs) ws (a ∷ r) facts.0
        (step goals.AfterStatementPrimary terminals.Step ss (part (at i) g t ∷ vs) ws (a ∷ r) facts.0 (keep a facts.0 (build (rw facts.1 (k forms.Other)))))

invocation_rule : (k : Terminal) → closes k ≡ true → rule goals.AfterStatementPrimary k tags.Invocation ≡ Some []
invocation_rule terminals.RightParenthesis e = refl
invocation_rule terminals.RightBracket e = refl
invocation_rule terminals.Semicolon e = refl
invocation_rule terminals.Comma e = refl
invocation_rule terminals.Colon e = refl
invocation_rule _ e = cc

pub invokes_claim : (i r : List Lexeme) (t : Tree) → PrimaryClaim forms.Invocation i t r → StatementExpressionClaim i t r
invokes_claim i r t d = record {
  simple = λ ss vs ws e k. primary_enter ss vs ws i (d.simple false (Want goals.AfterStatementPrimary ∷ ss) vs ws (behind ss vs ws e k));
  item = λ ss vs ws e plain k z. d.led false goals.ItemName ss vs (Want goals.AfterStatementPrimary ∷ Build makes.ExpressionStatement ∷ ss) vs ws (item_context ss vs ws plain)
      (behind (Build makes.ExpressionStatement ∷ ss) vs ws e k) (λ y. absurd (let w : forms.Invocation ≡ forms.Target = y in cc)) z;
}
  where
    behind : (ss : List Symbol) (vs ws : List StackItem) → closes (ahead r) ≡ true → Part ss vs (at i) t r ws → Runs (Want goals.Suffixes ∷ Want goals.AfterStatementPrimary ∷ ss) (part (at i) forms.Invocation t ∷ vs) r ws
    behind ss vs ws e k = want [] (suffixes_end (ahead r) tags.Invocation (operand_primary (ahead r) (closes_operand (ahead r) e)))
        (want [] (invocation_rule (ahead r) e) (k forms.Invocation))

pub statement_starts : (ss : List Symbol) (vs ws : List StackItem) (i : List Lexeme) → Runs (Want goals.StatementExpression ∷ ss) vs i ws → starts_unary (ahead i) ≡ true
statement_starts ss vs ws i d = go (ahead i) refl
  where
    go : (k : Terminal) → ahead i ≡ k → starts_unary (ahead i) ≡ true
    go terminals.Step e = rw e refl
    go k e = signed (ahead i) (primary_starts (Want goals.AfterStatementPrimary ∷ ss) vs ws i (open_at goals.StatementExpression k e d))

pub evaluated_claim : (i r : List Lexeme) (t : Tree) → StatementExpressionClaim i t r → EvaluatedClaim i (trees.ExpressionStatement (at i) t) r
evaluated_claim i r t d = record {
  simple = simple;
  item = λ ss vs ws e plain k. item ss vs ws e plain k;
}
  where
    simple : (ss : List Symbol) (vs ws : List StackItem) → closes (ahead r) ≡ true → Runs ss (part (at i) forms.Other (trees.ExpressionStatement (at i) t) ∷ vs) r ws → Runs (Want goals.StatementExpression ∷ Build makes.ExpressionStatement ∷ ss) vs i ws
    simple ss vs ws e k = d.simple (Build makes.ExpressionStatement ∷ ss) vs ws e (λ f. build k)

    item : (ss : List Symbol) (vs ws : List StackItem) → closes (ahead r) ≡ true → Plain vs → Runs ss (part (at i) forms.Other (trees.ExpressionStatement (at i) t) ∷ vs) r ws → Runs (Want goals.Item ∷ ss) vs i ws
    item ss vs ws e plain k = go (ahead i) refl (statement_starts (Build makes.ExpressionStatement ∷ ss) vs ws i (simple ss vs ws e k))
      where
        go : (h : Terminal) → ahead i ≡ h → starts_unary h ≡ true → Runs (Want goals.Item ∷ ss) vs i ws
        go terminals.Identifier z y = step goals.Item terminals.Identifier ss vs ws i z (d.item ss vs ws e plain (λ f. build k) z)
        go terminals.Final z y = cc
        go terminals.Primitive z y = cc
        go h z y = step goals.Item h ss vs ws i z (simple ss vs ws e k)
