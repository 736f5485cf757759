-- Expressions, plain and in parentheses.
use Rattle.std.proofs.Common.{◌≡◌, ℕ, ◌<◌, true, false, List, [], ◌∷◌, Some, refl, arith}
use Rattle.kr_base.specs.declared.place.Place.{Place}
use Rattle.kr_lex.specs.Lexemes.{Lexeme}
use Rattle.kr_lex.specs.declared.kind.Kind.{Kind}
use Rattle.kr_ast.specs.Tree as trees
use Rattle.kr_ast.specs.Tree.{Tree}
use Rattle.kr_parse_grammar.specs.declared.terminal.Terminal.{Terminal}
use Rattle.kr_parse_grammar.specs.declared.terminal.Terminal.TheVariants as terminals
use Rattle.kr_parse_grammar.specs.declared.value.Tag.{Tag}
use Rattle.kr_parse_grammar.specs.declared.value.Tag.TheVariants as tags
use Rattle.kr_parse_grammar.specs.declared.value.Form.TheVariants as forms
use Rattle.kr_parse_grammar.specs.declared.goal.Goal.TheVariants as goals
use Rattle.kr_parse_grammar.specs.declared.goal.Make.TheVariants as makes
use Rattle.kr_parse_grammar.specs.declared.goal.Symbol.{Symbol}
use Rattle.kr_parse_grammar.specs.declared.goal.Symbol.TheVariants.{Take, Word, Want, Build}
use Rattle.kr_parse_grammar.specs.Terminals.{terminal_of}
use Rattle.kr_parse_grammar.specs.Values.{StackItem, mark, word, part, tag}
use Rattle.kr_parse_grammar.specs.Made.{compared, assigned}
use Rattle.kr_parse_grammar.specs.Grammar.{at}
use Rattle.kr_parse_grammar.specs.Machine.{ahead, rule, starts_unary, ends_expression, level_of, Runs, take, keep, want, build}
use Rattle.kr_parse_laws.proofs.CompleteSteps.{open_at, step, step_with, take_inv, build_inv}
use Rattle.kr_parse_laws.proofs.CompleteOperators.{suffixes_end, past_operand, operators_stop, expression_starts, variable_of}
use Rattle.kr_parse_laws.proofs.CompleteClaims.{Part, IsName, a_word, a_pair, ends_operand, ends_suffixes, closes, is_relation, is_assigning, passes, Context, PrimaryClaim, Enters, Conts, Begins, OperationClaim, ConditionalClaim, AssignmentClaim, ExpressionClaim}
use Rattle.kr_parse_laws.proofs.CompleteChains.{conts_end, pair_tag}
use Rattle.kr_parse_laws.proofs.CompleteOperands.{unary_enter}

-- Names in parentheses, as operands.
module _ (ss : List Symbol) (k : Kind) (p : Place) (vs ws : List StackItem) where
  enclosed_operand : (v : StackItem) (q : Place) (e u : Tree) (j : List Lexeme) → IsName v q e u → passes false v (ahead j) ≡ true
      → Runs (Want goals.Suffixes ∷ Want goals.Postfixes ∷ Want goals.AfterUnary ∷ Want goals.Closing ∷ ss) (part q forms.Target e ∷ mark k p ∷ vs) j ws → Runs (Want goals.EnclosedName ∷ ss) (v ∷ mark k p ∷ vs) j ws
  enclosed_operand v q e u j isn h d = go (ahead j) refl h
    where
      behind : Runs (Build makes.Variable ∷ Want goals.EnclosedPrimary ∷ ss) (v ∷ mark k p ∷ vs) j ws
      behind = build (rw (variable_of v q e u (mark k p ∷ vs) isn) (want (Want goals.Suffixes ∷ Want goals.Postfixes ∷ Want goals.AfterUnary ∷ Want goals.Closing ∷ []) refl d))

      after : (l : List Lexeme) → Runs (Build makes.Enclosed ∷ Want goals.Suffixes ∷ Want goals.Postfixes ∷ ss) (part q forms.Target e ∷ mark k p ∷ vs) l ws → Runs (Want goals.AfterEnclosedName ∷ ss) (v ∷ mark k p ∷ vs) l ws
      after l x = at_kind (ahead l) refl
        where
          at_kind : (h : Terminal) → ahead l ≡ h → Runs (Want goals.AfterEnclosedName ∷ ss) (v ∷ mark k p ∷ vs) l ws
          at_kind terminals.Identifier z = absurd (open_at goals.Suffixes terminals.Identifier z (build_inv x))
          at_kind terminals.Literal z = absurd (open_at goals.Suffixes terminals.Literal z (build_inv x))
          at_kind terminals.LeftParenthesis z = absurd (open_at goals.Suffixes terminals.LeftParenthesis z (build_inv x))
          at_kind terminals.New z = absurd (open_at goals.Suffixes terminals.New z (build_inv x))
          at_kind terminals.Super z = absurd (open_at goals.Suffixes terminals.Super z (build_inv x))
          at_kind terminals.Old z = absurd (open_at goals.Suffixes terminals.Old z (build_inv x))
          at_kind terminals.Complement z = absurd (open_at goals.Suffixes terminals.Complement z (build_inv x))
          at_kind h z = step goals.AfterEnclosedName h ss (v ∷ mark k p ∷ vs) ws l z (build (rw (variable_of v q e u (mark k p ∷ vs) isn) x))

      alone : ahead j ≡ terminals.RightParenthesis → (a : Lexeme) × (l : List Lexeme) × (j ≡ a ∷ l) × (terminal_of a.kind ≡ terminals.RightParenthesis) × Runs (Build makes.Enclosed ∷ Want goals.Suffixes ∷ Want goals.Postfixes ∷ ss) (part q forms.Target e ∷ mark k p ∷ vs) l ws
          → Runs (Want goals.EnclosedName ∷ ss) (v ∷ mark k p ∷ vs) j ws
      alone z (a, l, w, ka, x) = rw w (step goals.EnclosedName terminals.RightParenthesis ss (v ∷ mark k p ∷ vs) ws (a ∷ l) ka (take a ka (after l x)))

      go : (h : Terminal) → ahead j ≡ h → passes false v h ≡ true → Runs (Want goals.EnclosedName ∷ ss) (v ∷ mark k p ∷ vs) j ws
      go terminals.Less z y = cc
      go terminals.LeftBracket z y = cc
      go terminals.Dot z y = step_with goals.EnclosedName terminals.Dot tags.Pair ss (v ∷ mark k p ∷ vs) ws j z (pair_tag false v q e u (mark k p ∷ vs) isn y) behind
      go terminals.LeftParenthesis z y = absurd (open_at goals.Suffixes terminals.LeftParenthesis z d)
      go terminals.RightParenthesis z y = alone z
          (take_inv (open_at goals.Closing terminals.RightParenthesis z
          (open_at goals.AfterOperation terminals.RightParenthesis z
          (open_at (goals.Operators 1 10) terminals.RightParenthesis z
          (open_at goals.AfterUnary terminals.RightParenthesis z
          (open_at goals.Postfixes terminals.RightParenthesis z
          (open_at goals.Suffixes terminals.RightParenthesis z d)))))))
      go h z y = step goals.EnclosedName h ss (v ∷ mark k p ∷ vs) ws j z behind

  enclosed_context : Context false goals.EnclosedName ss (mark k p ∷ vs) (Want goals.Postfixes ∷ Want goals.AfterUnary ∷ Want goals.Closing ∷ ss) (mark k p ∷ vs) ws
  enclosed_context = record {
    plain = λ q n. refl;
    after = Want goals.EnclosedPrimary ∷ ss;
    onto = λ us j d. want (Want goals.Suffixes ∷ Want goals.Postfixes ∷ Want goals.AfterUnary ∷ Want goals.Closing ∷ []) refl d;
    call = λ v q e u j isn z d. step goals.EnclosedName terminals.LeftParenthesis ss (v ∷ mark k p ∷ vs) ws j z d;
    index = λ v q e u a j isn z d. step goals.EnclosedName terminals.LeftBracket ss (v ∷ mark k p ∷ vs) ws (a ∷ j) z (take a z (bracket v q e u j isn d));
    dot = λ q n j z d. step_with goals.EnclosedName terminals.Dot tags.Word ss (word q n ∷ mark k p ∷ vs) ws j z refl d;
    operand = enclosed_operand;
  }
    where
      bracket : (v : StackItem) (q : Place) (e u : Tree) (j : List Lexeme) → IsName v q e u
          → Runs (Want goals.Expression ∷ Take terminals.RightBracket ∷ Build makes.ArrayAccess ∷ Want goals.EnclosedPrimary ∷ ss) (part q forms.Target e ∷ mark k p ∷ vs) j ws → Runs (Want goals.EnclosedBracket ∷ ss) (v ∷ mark k p ∷ vs) j ws
      bracket v q e u j isn d = go (ahead j) refl (expression_starts (Take terminals.RightBracket ∷ Build makes.ArrayAccess ∷ Want goals.EnclosedPrimary ∷ ss) (part q forms.Target e ∷ mark k p ∷ vs) ws j d)
        where
          go : (h : Terminal) → ahead j ≡ h → starts_unary h ≡ true → Runs (Want goals.EnclosedBracket ∷ ss) (v ∷ mark k p ∷ vs) j ws
          go terminals.RightBracket z y = cc
          go h z y = step goals.EnclosedBracket h ss (v ∷ mark k p ∷ vs) ws j z (build (rw (variable_of v q e u (mark k p ∷ vs) isn) d))

  enclosed_begins : Begins goals.EnclosedName ss (mark k p ∷ vs) 1 (Want goals.AfterOperation ∷ Want goals.Closing ∷ ss) (mark k p ∷ vs) ws
  enclosed_begins = record {
    gate = Want goals.AfterChain ∷ ss;
    gated = λ q t us j d. step goals.AfterChain (ahead j) ss (part q forms.Other t ∷ us) ws j refl d;
    less = λ v q e u a m isn z d. step goals.EnclosedName terminals.Less ss (v ∷ mark k p ∷ vs) ws (a ∷ m) z (take a z d);
    names = names;
  }
    where
      names : (v : StackItem) (q : Place) (e u : Tree) → IsName v q e u → compared (v ∷ mark k p ∷ vs) ≡ part q forms.Target e ∷ mark k p ∷ vs
      names v q e u a_word = refl
      names v q e u a_pair = refl

-- where operators follow, no assignment does
pub after_unary : (ss : List Symbol) (ws : List StackItem) → Enters 1 (Want goals.AfterOperation ∷ ss) (Want goals.AfterUnary ∷ ss) ws
after_unary ss ws vs j d = go (ahead j) refl
  where
    go : (k : Terminal) → ahead j ≡ k → Runs (Want goals.AfterUnary ∷ ss) vs j ws
    go terminals.Equal e = absurd (open_at (goals.Operators 1 10) terminals.Equal e d)
    go terminals.Compound e = absurd (open_at (goals.Operators 1 10) terminals.Compound e d)
    go k e = step goals.AfterUnary k ss vs ws j e d

-- The tokens that may follow an expression.
abbrev pub StopFacts : Terminal → Type 0
StopFacts k = (ends_operand k ≡ true) × (level_of k < 1) × (is_relation k ≡ false)

stop_facts : (k : Terminal) → ends_expression k ≡ true → StopFacts k
stop_facts terminals.RightParenthesis e = (refl, omega arith, refl)
stop_facts terminals.RightBracket e = (refl, omega arith, refl)
stop_facts terminals.Semicolon e = (refl, omega arith, refl)
stop_facts terminals.Comma e = (refl, omega arith, refl)
stop_facts terminals.Question e = (refl, omega arith, refl)
stop_facts terminals.Colon e = (refl, omega arith, refl)
stop_facts _ e = cc

stop_passes : (v : StackItem) (k : Terminal) → ends_expression k ≡ true → passes false v k ≡ true
stop_passes v terminals.RightParenthesis e = refl
stop_passes v terminals.RightBracket e = refl
stop_passes v terminals.Semicolon e = refl
stop_passes v terminals.Comma e = refl
stop_passes v terminals.Question e = refl
stop_passes v terminals.Colon e = refl
stop_passes v _ e = cc

closes_stops : (k : Terminal) → closes k ≡ true → ends_expression k ≡ true
closes_stops terminals.RightParenthesis e = refl
closes_stops terminals.RightBracket e = refl
closes_stops terminals.Semicolon e = refl
closes_stops terminals.Comma e = refl
closes_stops terminals.Colon e = refl
closes_stops _ e = cc

closes_rule : (k : Terminal) (q : Tag) → closes k ≡ true → rule goals.AfterOperation k q ≡ Some []
closes_rule terminals.Question q e = cc
closes_rule _ q e = refl

-- an operation and its continuation
conditional_by : (x : ℕ) (i l r : List Lexeme) (c t : Tree) → OperationClaim x i c l → (closes (ahead r) ≡ true → ends_expression (ahead l) ≡ true)
    → ((ss : List Symbol) (vs ws : List StackItem) → closes (ahead r) ≡ true → Part ss vs (at i) t r ws → Part (Want goals.AfterOperation ∷ ss) vs (at i) c l ws) → ConditionalClaim i t r
conditional_by x i l r c t d stop after = record {
  simple = λ ts ss vs ws enters e k. d.simple ts 1 (Want goals.AfterOperation ∷ ss) vs ws d.least enters (conts ss vs ws e k);
  enclosed = λ ss h p vs ws e k z. d.led false goals.EnclosedName ss (mark h p ∷ vs) (Want goals.AfterUnary ∷ Want goals.Closing ∷ ss) 1 (Want goals.AfterOperation ∷ Want goals.Closing ∷ ss) (mark h p ∷ vs) ws
      (enclosed_context ss h p vs ws) d.least (after_unary (Want goals.Closing ∷ ss) ws) (λ w. let y : false ≡ true = w in cc) (λ w. enclosed_begins ss h p vs ws) (conts (Want goals.Closing ∷ ss) (mark h p ∷ vs) ws e k)
      (λ v w isn. enclosed_operand ss h p vs ws v (at i) c w l isn (stop_passes v (ahead l) (stop e))
      (past_operand (Want goals.AfterUnary ∷ Want goals.Closing ∷ ss) (part (at i) forms.Target c ∷ mark h p ∷ vs) ws l (facts e).0
      (after_unary (Want goals.Closing ∷ ss) ws (part (at i) forms.Target c ∷ mark h p ∷ vs) l (rels (Want goals.Closing ∷ ss) (mark h p ∷ vs) ws e k 10 forms.Target)))) z;
}
  where
    facts : closes (ahead r) ≡ true → StopFacts (ahead l)
    facts e = stop_facts (ahead l) (stop e)

    rels : (ss : List Symbol) (vs ws : List StackItem) → closes (ahead r) ≡ true → Part ss vs (at i) t r ws → (y : ℕ) → Part (Want (goals.Operators 1 y) ∷ Want goals.AfterOperation ∷ ss) vs (at i) c l ws
    rels ss vs ws e k y f = operators_stop 1 y (Want goals.AfterOperation ∷ ss) (part (at i) f c ∷ vs) ws l (facts e).0 (facts e).1 (after ss vs ws e k f)

    conts : (ss : List Symbol) (vs ws : List StackItem) → closes (ahead r) ≡ true → Part ss vs (at i) t r ws → Conts x 1 (Want goals.AfterOperation ∷ ss) vs ws (at i) c l
    conts ss vs ws e k = conts_end x 1 (Want goals.AfterOperation ∷ ss) vs ws (at i) c l (λ z. omega arith) (λ z. (facts e).2) (λ y h f. rels ss vs ws e k y f)

pub operation_claim : (x : ℕ) (i r : List Lexeme) (t : Tree) → OperationClaim x i t r → ConditionalClaim i t r
operation_claim x i r t d = conditional_by x i r r t t d (closes_stops (ahead r)) (λ ss vs ws e k f. want [] (closes_rule (ahead r) (tag (part (at i) f t ∷ vs)) e) (k f))

pub choice_claim : (x : ℕ) (i m n r : List Lexeme) (c t u : Tree) (a b : Lexeme) → OperationClaim x i c (a ∷ m) → terminal_of a.kind ≡ terminals.Question → ExpressionClaim m t (b ∷ n) → terminal_of b.kind ≡ terminals.Colon → ConditionalClaim n u r
    → ConditionalClaim i (trees.Conditional (at i) c t u) r
choice_claim x i m n r c t u a b d ka e kb g = conditional_by x i (a ∷ m) r c (trees.Conditional (at i) c t u) d (λ z. rw ka refl) after
  where
    after : (ss : List Symbol) (vs ws : List StackItem) → closes (ahead r) ≡ true → Part ss vs (at i) (trees.Conditional (at i) c t u) r ws → Part (Want goals.AfterOperation ∷ ss) vs (at i) c (a ∷ m) ws
    after ss vs ws z k f =
        step goals.AfterOperation terminals.Question ss (part (at i) f c ∷ vs) ws (a ∷ m) ka
        (take a ka
        (e.simple (Take terminals.Colon ∷ Want goals.Conditional ∷ Build makes.Conditional ∷ ss) (part (at i) f c ∷ vs) ws (rw kb refl)
        (λ y. take b kb
        (want (Want goals.Unary ∷ Want (goals.Operators 1 10) ∷ Want goals.AfterOperation ∷ []) refl
        (g.simple (Want (goals.Operators 1 10) ∷ Want goals.AfterOperation ∷ Build makes.Conditional ∷ ss) (Build makes.Conditional ∷ ss) (part (at m) y t ∷ part (at i) f c ∷ vs) ws (λ us j w. w) z (λ w. build (k forms.Other)))))))

-- Expressions.
in_parentheses : (ss : List Symbol) (vs ws : List StackItem) (i : List Lexeme) → Runs (Want goals.Expression ∷ Want goals.Closing ∷ ss) vs i ws → (ahead i ≡ terminals.Identifier → Runs (Word ∷ Want goals.EnclosedName ∷ ss) vs i ws) → Runs (Want goals.InParentheses ∷ ss) vs i ws
in_parentheses ss vs ws i d h = go (ahead i) refl (expression_starts (Want goals.Closing ∷ ss) vs ws i d)
  where
    go : (k : Terminal) → ahead i ≡ k → starts_unary k ≡ true → Runs (Want goals.InParentheses ∷ ss) vs i ws
    go terminals.Identifier e z = step goals.InParentheses terminals.Identifier ss vs ws i e (h e)
    go terminals.Primitive e z = cc
    go k e z = step goals.InParentheses k ss vs ws i e d

pub conditional_claim : (i r : List Lexeme) (t : Tree) → ConditionalClaim i t r → ExpressionClaim i t r
conditional_claim i r t d = record {
  simple = simple;
  enclosed = λ ss h p vs ws e k. in_parentheses ss (mark h p ∷ vs) ws i (simple (Want goals.Closing ∷ ss) (mark h p ∷ vs) ws e k) (d.enclosed ss h p vs ws e k);
}
  where
    simple : (ss : List Symbol) (vs ws : List StackItem) → closes (ahead r) ≡ true → Part ss vs (at i) t r ws → Runs (Want goals.Expression ∷ ss) vs i ws
    simple ss vs ws e k = want (Want goals.Unary ∷ Want goals.AfterUnary ∷ []) refl (d.simple (Want goals.AfterUnary ∷ ss) ss vs ws (after_unary ss ws) e k)

pub assignment_by : (i m r : List Lexeme) (t u w : Tree) (a : Lexeme) → PrimaryClaim forms.Target i t (a ∷ m) → is_assigning (terminal_of a.kind) ≡ true → ExpressionClaim m u r → assigned a.kind (at i) t u ≡ w → AssignmentClaim i w r
assignment_by i m r t u w a d e x z = record {
  target = t;
  rest = a ∷ m;
  takes = d;
  assigning = e;
  behind = λ k ss vs ws ka c y. keep a ka (x.simple (Build makes.Assign ∷ ss) (mark a.kind a.place ∷ part (at i) forms.Target t ∷ vs) ws c (λ f. build (rw z y)));
}

assigning_primary : (k : Terminal) → is_assigning k ≡ true → ends_suffixes k ≡ true
assigning_primary terminals.Equal e = refl
assigning_primary terminals.Compound e = refl
assigning_primary _ e = cc

assigning_postfix : (k : Terminal) (q : Tag) → is_assigning k ≡ true → rule goals.Postfixes k q ≡ Some []
assigning_postfix terminals.Equal q e = refl
assigning_postfix terminals.Compound q e = refl
assigning_postfix _ q e = cc

pub assigning_passes : (v : StackItem) (k : Terminal) → is_assigning k ≡ true → passes false v k ≡ true
assigning_passes v terminals.Equal e = refl
assigning_passes v terminals.Compound e = refl
assigning_passes v _ e = cc

pub assigning_suffixes : (i r : List Lexeme) (t : Tree) (d : AssignmentClaim i t r) (ss : List Symbol) (vs ws : List StackItem) → Runs ss (part (at i) forms.Target d.target ∷ vs) d.rest ws → Runs (Want goals.Suffixes ∷ ss) (part (at i) forms.Target d.target ∷ vs) d.rest ws
assigning_suffixes i r t d ss vs ws x = want [] (suffixes_end (ahead d.rest) tags.Target (assigning_primary (ahead d.rest) d.assigning)) x

pub assignment_claim : (i r : List Lexeme) (t : Tree) → AssignmentClaim i t r → ExpressionClaim i t r
assignment_claim i r t d = record {
  simple = simple;
  enclosed = λ ss h p vs ws e k. in_parentheses ss (mark h p ∷ vs) ws i (simple (Want goals.Closing ∷ ss) (mark h p ∷ vs) ws e k)
      (λ z. d.takes.led false goals.EnclosedName ss (mark h p ∷ vs) (Want goals.Postfixes ∷ Want goals.AfterUnary ∷ Want goals.Closing ∷ ss) (mark h p ∷ vs) ws (enclosed_context ss h p vs ws)
      (behind (Want goals.Closing ∷ ss) (mark h p ∷ vs) ws e k)
      (λ y v w isn. enclosed_operand ss h p vs ws v (at i) d.target w d.rest isn (assigning_passes v (ahead d.rest) d.assigning) (behind (Want goals.Closing ∷ ss) (mark h p ∷ vs) ws e k)) z);
}
  where
    after : (ss : List Symbol) (vs ws : List StackItem) → closes (ahead r) ≡ true → Part ss vs (at i) t r ws → Runs (Want goals.AfterUnary ∷ ss) (part (at i) forms.Target d.target ∷ vs) d.rest ws
    after ss vs ws e k = go (ahead d.rest) refl d.assigning
      where
        go : (h : Terminal) → ahead d.rest ≡ h → is_assigning h ≡ true → Runs (Want goals.AfterUnary ∷ ss) (part (at i) forms.Target d.target ∷ vs) d.rest ws
        go terminals.Equal z y = step goals.AfterUnary terminals.Equal ss (part (at i) forms.Target d.target ∷ vs) ws d.rest z (d.behind terminals.Equal ss vs ws z e (k forms.Other))
        go terminals.Compound z y = step goals.AfterUnary terminals.Compound ss (part (at i) forms.Target d.target ∷ vs) ws d.rest z (d.behind terminals.Compound ss vs ws z e (k forms.Other))
        go h z y = cc

    behind : (ss : List Symbol) (vs ws : List StackItem) → closes (ahead r) ≡ true → Part ss vs (at i) t r ws → Runs (Want goals.Suffixes ∷ Want goals.Postfixes ∷ Want goals.AfterUnary ∷ ss) (part (at i) forms.Target d.target ∷ vs) d.rest ws
    behind ss vs ws e k = assigning_suffixes i r t d (Want goals.Postfixes ∷ Want goals.AfterUnary ∷ ss) vs ws (want [] (assigning_postfix (ahead d.rest) tags.Target d.assigning) (after ss vs ws e k))

    simple : (ss : List Symbol) (vs ws : List StackItem) → closes (ahead r) ≡ true → Part ss vs (at i) t r ws → Runs (Want goals.Expression ∷ ss) vs i ws
    simple ss vs ws e k = want (Want goals.Unary ∷ Want goals.AfterUnary ∷ []) refl (unary_enter (Want goals.AfterUnary ∷ ss) vs ws i (d.takes.simple true (Want goals.AfterUnary ∷ ss) vs ws (behind ss vs ws e k)))
