-- Binary operations, after operands and after names that may begin a chain.
use Rattle.std.proofs.Common.{◌≡◌, ℕ, zero, suc, ◌+◌, ◌≤◌, ◌<◌, Bool, true, false, not, List, [], ◌∷◌, Some, refl, ap, arith}
use Rattle.kr_base.specs.declared.place.Place.{Place}
use Rattle.kr_lex.specs.Lexemes.{Lexeme}
use Rattle.kr_ast.specs.declared.node.BinaryOperator.{BinaryOperator}
use Rattle.kr_ast.specs.declared.node.BinaryOperator.TheVariants as binaries
use Rattle.kr_ast.specs.Tree as trees
use Rattle.kr_ast.specs.Tree.{Tree}
use Rattle.kr_parse_grammar.specs.declared.terminal.Terminal.{Terminal}
use Rattle.kr_parse_grammar.specs.declared.terminal.Terminal.TheVariants as terminals
use Rattle.kr_parse_grammar.specs.declared.value.Tag.{Tag}
use Rattle.kr_parse_grammar.specs.declared.value.Tag.TheVariants as tags
use Rattle.kr_parse_grammar.specs.declared.value.Form.{Form}
use Rattle.kr_parse_grammar.specs.declared.value.Form.TheVariants as forms
use Rattle.kr_parse_grammar.specs.declared.goal.Goal.{Goal}
use Rattle.kr_parse_grammar.specs.declared.goal.Goal.TheVariants as goals
use Rattle.kr_parse_grammar.specs.declared.goal.Make.TheVariants as makes
use Rattle.kr_parse_grammar.specs.declared.goal.Symbol.{Symbol}
use Rattle.kr_parse_grammar.specs.declared.goal.Symbol.TheVariants.{Take, Keep, Want, Build}
use Rattle.kr_parse_grammar.specs.Terminals.{terminal_of}
use Rattle.kr_parse_grammar.specs.TokenMeanings.{binary_of, level}
use Rattle.kr_parse_grammar.specs.Values.{StackItem, mark, word, part, tag, is_name}
use Rattle.kr_parse_grammar.specs.Made.{made, compared}
use Rattle.kr_parse_grammar.specs.Grammar.{at}
use Rattle.kr_parse_grammar.specs.Machine.{ahead, rule, starts_unary, level_of, operators_rule, Runs, take, keep, want, build}
use Rattle.kr_parse_laws.proofs.CompleteSteps.{open_at, step, step_with}
use Rattle.kr_parse_laws.proofs.CompleteClaims.{Part, IsName, a_word, a_pair, is_at_end, ends_operand, is_relation, is_less, passes, Context, Bare, Enters, Gated, Reaches, Conts, Begins, OperandClaim, OperationClaim, ReferenceClaim}
use Rattle.kr_parse_laws.proofs.CompleteOperators.{dimensions_end, past_operand, operators_inv, operators_stop, go_rule, infix_rule, RelationOf, OperatorFacts, facts_of, low_relation, unary_starts, expression_starts, type_of, below_variable, plain_name, compares, tests, named}

-- after a name in a chain, if it is an operand
chain_rule : (k : Terminal) (q : Tag) → ends_operand k ≡ true → is_relation k ≡ false → rule goals.ChainName k q ≡ Some (Build makes.CompareBelow ∷ Build makes.Variable ∷ Want goals.ChainPrimary ∷ [])
chain_rule terminals.Dot q e h = cc
chain_rule terminals.LeftBracket q e h = cc
chain_rule terminals.LeftParenthesis q e h = cc
chain_rule terminals.Less q e h = cc
chain_rule terminals.Greater q e h = cc
chain_rule _ q e h = refl

tested_rule : (k : Terminal) (q : Tag) → ends_operand k ≡ true → is_less k ≡ false → rule goals.TestedName k q ≡ Some (Build makes.TypeOfName ∷ Want goals.Dimensions ∷ Build makes.InstanceOf ∷ [])
tested_rule terminals.Dot q e h = cc
tested_rule terminals.Less q e h = cc
tested_rule _ q e h = refl

chain_end : (n : ℕ) (ss : List Symbol) (vs ws : List StackItem) (p : Place) (t : Tree) (r : List Lexeme) → n ≤ 8 → is_relation (ahead r) ≡ false → Runs (Want (goals.Operators n 7) ∷ ss) (part p forms.Other t ∷ vs) r ws
    → (ts : List Symbol) (ns : List StackItem) (v : StackItem) (q : Place) (e u y : Tree) (f : Form) → Gated n ss ts ws → IsName v q e u → is_name ns ≡ true → compared ns ≡ part p f y ∷ vs
    → t ≡ trees.Binary p binaries.Less y e → Runs (Want goals.ChainName ∷ ts) (v ∷ ns) r ws
chain_end n ss vs ws p t r h far d ts ns v q e u y f gate isn isns nm z =
    let c : (ends_operand (ahead r) ≡ true) × (level_of (ahead r) ≤ 7) = operators_inv n 7 ss (part p forms.Other t ∷ vs) ws r h d in
    let cs : List StackItem = part q forms.Target e ∷ part p f y ∷ vs in
    let x : Runs ts (part p forms.Other (trees.Binary p binaries.Less y e) ∷ vs) r ws = rw z at (gate p t vs r d) in
    let low : level_of (ahead r) < 8 = omega (arith, c.1) in
    let w : Runs (Want goals.ChainPrimary ∷ ts) cs r ws =
    want (Want goals.Suffixes ∷ Want goals.Postfixes ∷ Want (goals.Operators 8 10) ∷ Build makes.Less ∷ []) refl
    (past_operand (Want (goals.Operators 8 10) ∷ Build makes.Less ∷ ts) cs ws r c.0 (operators_stop 8 10 (Build makes.Less ∷ ts) cs ws r c.0 low (build x))) in
    let b : made makes.Variable (made makes.CompareBelow (v ∷ ns)) ≡ cs = below_variable v q e u ns (part p f y ∷ vs) isn nm in
    want (Build makes.CompareBelow ∷ Build makes.Variable ∷ Want goals.ChainPrimary ∷ []) (chain_rule (ahead r) (tag (v ∷ ns)) c.0 far) (build (build (rw b w)))

test_end : (n : ℕ) (ss : List Symbol) (vs ws : List StackItem) (p : Place) (t : Tree) (r : List Lexeme) → n ≤ 8 → is_less (ahead r) ≡ false → Runs (Want (goals.Operators n 7) ∷ ss) (part p forms.Other t ∷ vs) r ws
    → (v : StackItem) (q : Place) (e u y : Tree) (f : Form) → IsName v q e u → t ≡ trees.InstanceOf p y u → Runs (Want goals.TestedName ∷ Want (goals.Operators n 7) ∷ ss) (v ∷ part p f y ∷ vs) r ws
test_end n ss vs ws p t r h far d v q e u y f isn z =
    let c : (ends_operand (ahead r) ≡ true) × (level_of (ahead r) ≤ 7) = operators_inv n 7 ss (part p forms.Other t ∷ vs) ws r h d in
    let x : Runs (Want (goals.Operators n 7) ∷ ss) (part p forms.Other (trees.InstanceOf p y u) ∷ vs) r ws = rw z at d in
    let w : Runs (Want goals.Dimensions ∷ Build makes.InstanceOf ∷ Want (goals.Operators n 7) ∷ ss) (part q forms.Type u ∷ part p f y ∷ vs) r ws = want [] (dimensions_end (ahead r) tags.Type c.0) (build x) in
    want (Build makes.TypeOfName ∷ Want goals.Dimensions ∷ Build makes.InstanceOf ∷ []) (tested_rule (ahead r) (tag (v ∷ part p f y ∷ vs)) c.0 far) (build (rw (type_of v q e u (part p f y ∷ vs) isn) w))

not_less : (k : Terminal) → is_relation k ≡ false → is_less k ≡ false
not_less terminals.Less h = cc
not_less _ h = refl

-- where no comparison comes
pub conts_end : (x n : ℕ) (ss : List Symbol) (vs ws : List StackItem) (p : Place) (t : Tree) (r : List Lexeme) → (x ≡ 7 → n ≤ 8) → (x ≡ 7 → is_relation (ahead r) ≡ false) → ((y : ℕ) → Reaches x y → Part (Want (goals.Operators n y) ∷ ss) vs p t r ws)
    → Conts x n ss vs ws p t r
conts_end x n ss vs ws p t r h far rel = record {
  rels = rel;
  chain = λ e. chain_end n ss vs ws p t r (h e) (far e) (rel 7 (reach e) forms.Other);
  test = λ e. test_end n ss vs ws p t r (h e) (not_less (ahead r) (far e)) (rel 7 (reach e) forms.Other);
}
  where
    reach : x ≡ 7 → Reaches x 7
    reach e l a b = omega (arith, e, a)

-- two names with a dot between them are followed by no third
pub pair_tag : (c : Bool) (v : StackItem) (q : Place) (e u : Tree) (ns : List StackItem) → IsName v q e u → passes c v terminals.Dot ≡ true → tag (v ∷ ns) ≡ tags.Pair
pair_tag c v q e u ns a_word h = cc
pair_tag c v q e u ns a_pair h = refl

-- Names in a chain, as operands.
module _ (ts : List Symbol) (ns : List StackItem) (p : Place) (f : Form) (t : Tree) (vs ws : List StackItem) (isns : is_name ns ≡ true) (nm : compared ns ≡ part p f t ∷ vs) where
  pub chain_operand : (v : StackItem) (q : Place) (e u : Tree) (j : List Lexeme) → IsName v q e u → passes true v (ahead j) ≡ true
      → Runs (Want goals.Suffixes ∷ Want goals.Postfixes ∷ Want (goals.Operators 8 10) ∷ Build makes.Less ∷ ts) (part q forms.Target e ∷ part p f t ∷ vs) j ws → Runs (Want goals.ChainName ∷ ts) (v ∷ ns) j ws
  chain_operand v q e u j isn h d = go v isn (ahead j) refl h
    where
      behind : (v : StackItem) → IsName v q e u → Runs (Build makes.CompareBelow ∷ Build makes.Variable ∷ Want goals.ChainPrimary ∷ ts) (v ∷ ns) j ws
      behind v isn = build (build (rw (below_variable v q e u ns (part p f t ∷ vs) isn nm) (want (Want goals.Suffixes ∷ Want goals.Postfixes ∷ Want (goals.Operators 8 10) ∷ Build makes.Less ∷ []) refl d)))

      go : (v : StackItem) → IsName v q e u → (k : Terminal) → ahead j ≡ k → passes true v k ≡ true → Runs (Want goals.ChainName ∷ ts) (v ∷ ns) j ws
      go v isn terminals.Less z y = cc
      go v isn terminals.Greater z y = cc
      go v isn terminals.LeftBracket z y = cc
      go v isn terminals.Dot z y = step_with goals.ChainName terminals.Dot tags.Pair ts (v ∷ ns) ws j z (pair_tag true v q e u ns isn y) (behind v isn)
      go v isn terminals.LeftParenthesis z y = absurd (open_at goals.Suffixes terminals.LeftParenthesis z d)
      go v isn k z y = step goals.ChainName k ts (v ∷ ns) ws j z (behind v isn)

  chain_context : Context true goals.ChainName ts ns (Want goals.Postfixes ∷ Want (goals.Operators 8 10) ∷ Build makes.Less ∷ ts) (part p f t ∷ vs) ws
  chain_context = record {
    plain = plain_name ns isns;
    after = Want goals.ChainPrimary ∷ ts;
    onto = λ us j d. want (Want goals.Suffixes ∷ Want goals.Postfixes ∷ Want (goals.Operators 8 10) ∷ Build makes.Less ∷ []) refl d;
    call = λ v q e u j isn k d. step goals.ChainName terminals.LeftParenthesis ts (v ∷ ns) ws j k (build (rw nm d));
    index = λ v q e u a j isn k d. step goals.ChainName terminals.LeftBracket ts (v ∷ ns) ws (a ∷ j) k (take a k (bracket v q e u j isn d));
    dot = λ q n j k d. step_with goals.ChainName terminals.Dot tags.Word ts (word q n ∷ ns) ws j k (plain_name ns isns q n) d;
    operand = chain_operand;
  }
    where
      bracket : (v : StackItem) (q : Place) (e u : Tree) (j : List Lexeme) → IsName v q e u
          → Runs (Want goals.Expression ∷ Take terminals.RightBracket ∷ Build makes.ArrayAccess ∷ Want goals.ChainPrimary ∷ ts) (part q forms.Target e ∷ part p f t ∷ vs) j ws → Runs (Want goals.ChainBracket ∷ ts) (v ∷ ns) j ws
      bracket v q e u j isn d = go (ahead j) refl (expression_starts (Take terminals.RightBracket ∷ Build makes.ArrayAccess ∷ Want goals.ChainPrimary ∷ ts) (part q forms.Target e ∷ part p f t ∷ vs) ws j d)
        where
          go : (k : Terminal) → ahead j ≡ k → starts_unary k ≡ true → Runs (Want goals.ChainBracket ∷ ts) (v ∷ ns) j ws
          go terminals.RightBracket z y = cc
          go k z y = step goals.ChainBracket k ts (v ∷ ns) ws j z (build (build (rw (below_variable v q e u ns (part p f t ∷ vs) isn nm) d)))

-- An operand after `<` in a chain, which may be a further name.
arg_of : (n : ℕ) (ss : List Symbol) (vs ws : List StackItem) (p : Place) (f : Form) (t u : Tree) (y : ℕ) (m r : List Lexeme) (ts : List Symbol) (ns : List StackItem) → n ≤ 7 → 7 < y → is_name ns ≡ true → compared ns ≡ part p f t ∷ vs
    → Gated n ss ts ws → OperationClaim y m u r → Conts 7 n ss vs ws p (trees.Binary p binaries.Less t u) r → Runs (Want goals.ChainArgument ∷ ts) ns m ws
arg_of n ss vs ws p f t u y m r ts ns low high isns nm gate claim k = go (ahead m) refl (unary_starts (Want (goals.Operators 8 10) ∷ Build makes.Less ∷ ts) (part p f t ∷ vs) ws m simple)
  where
    rel : Runs (Want (goals.Operators n 7) ∷ ss) (part p forms.Other (trees.Binary p binaries.Less t u) ∷ vs) r ws
    rel = k.rels 7 (λ l a b. a) forms.Other

    ends : (ends_operand (ahead r) ≡ true) × (level_of (ahead r) ≤ 7)
    ends = operators_inv n 7 ss (part p forms.Other (trees.Binary p binaries.Less t u) ∷ vs) ws r (omega (arith, low)) rel

    conts : Conts y 8 (Build makes.Less ∷ ts) (part p f t ∷ vs) ws (at m) u r
    conts = conts_end y 8 (Build makes.Less ∷ ts) (part p f t ∷ vs) ws (at m) u r (λ e. omega arith) (λ e. absurd (omega (arith, e, high)))
        (λ z h g. operators_stop 8 z (Build makes.Less ∷ ts) (part (at m) g u ∷ part p f t ∷ vs) ws r ends.0 (let w : level_of (ahead r) ≤ 7 = ends.1 in omega (arith, w)) (build (gate p (trees.Binary p binaries.Less t u) vs r rel)))

    simple : Runs (Want goals.Unary ∷ Want (goals.Operators 8 10) ∷ Build makes.Less ∷ ts) (part p f t ∷ vs) m ws
    simple = claim.simple (Want (goals.Operators 8 10) ∷ Build makes.Less ∷ ts) 8 (Build makes.Less ∷ ts) (part p f t ∷ vs) ws (omega (arith, high)) (λ us j d. d) conts

    go : (h : Terminal) → ahead m ≡ h → starts_unary h ≡ true → Runs (Want goals.ChainArgument ∷ ts) ns m ws
    go terminals.Identifier z s = step goals.ChainArgument terminals.Identifier ts ns ws m z
        (claim.led true goals.ChainName ts ns (Want (goals.Operators 8 10) ∷ Build makes.Less ∷ ts) 8 (Build makes.Less ∷ ts) (part p f t ∷ vs) ws (chain_context ts ns p f t vs ws isns nm) (omega (arith, high)) (λ us j d. d)
        (λ e. omega arith) (λ e. absurd (omega (arith, e))) conts (λ v w isn. k.chain refl ts ns v (at m) u w t f gate isn isns nm refl) z)
    go terminals.Primitive z s = cc
    go h z s = step goals.ChainArgument h ts ns ws m z (build (rw nm simple))

at_end : (l : ℕ) (k : Terminal) → 1 ≤ l → is_at_end l k ≡ true
at_end zero k h = absurd (omega (arith, h))
at_end (suc l) k h = refl

quiet_end : (k : Terminal) → ends_operand k ≡ true → level_of k ≤ 7 → starts_unary k ≡ false
quiet_end terminals.Sign e h = absurd (omega (arith, h))
quiet_end terminals.Step e h = cc
quiet_end terminals.Identifier e h = cc
quiet_end terminals.Literal e h = cc
quiet_end terminals.LeftParenthesis e h = cc
quiet_end terminals.New e h = cc
quiet_end terminals.Super e h = cc
quiet_end terminals.Old e h = cc
quiet_end terminals.Complement e h = cc
quiet_end _ e h = refl

tested_gate : (n : ℕ) (ss : List Symbol) (ws : List StackItem) → Gated n ss (Want goals.AfterTested ∷ Want (goals.Operators n 7) ∷ ss) ws
tested_gate n ss ws p t vs j d = step goals.AfterTested (ahead j) (Want (goals.Operators n 7) ∷ ss) (part p forms.Other t ∷ vs) ws j refl d

-- After the left operand of an operator.
module _ (x y n : ℕ) (ss : List Symbol) (vs ws : List StackItem) (p : Place) (t u : Tree) (o : BinaryOperator) (a : Lexeme) (m r : List Lexeme)
    (po : binary_of a.kind ≡ Some o) (lx : level o ≤ x) (ly : level o < y) (nl : n ≤ level o) (claim : OperationClaim y m u r) (k : Conts (level o) n ss vs ws p (trees.Binary p o t u) r) where
  facts : OperatorFacts a.kind (Some o)
  facts = facts_of a.kind o po

  result : Runs (Want (goals.Operators n (level o)) ∷ ss) (part p forms.Other (trees.Binary p o t u) ∷ vs) r ws
  result = k.rels (level o) (λ l a b. a) forms.Other

  ends : (ends_operand (ahead r) ≡ true) × (level_of (ahead r) ≤ level o)
  ends = operators_inv n (level o) ss (part p forms.Other (trees.Binary p o t u) ∷ vs) ws r (omega (arith, nl)) result

  right : (st : List Symbol) (us : List StackItem) → Part st us (at m) u r ws → Runs (Want goals.Unary ∷ Want (goals.Operators (level o + 1) 10) ∷ st) us m ws
  right st us d =
      let low : level_of (ahead r) ≤ level o = ends.1 in
      claim.simple (Want (goals.Operators (level o + 1) 10) ∷ st) (level o + 1) st us ws (omega (arith, ly)) (λ vs j d. d)
      (conts_end y (level o + 1) st us ws (at m) u r (λ e. omega (arith, ly, e)) (λ e. low_relation (ahead r) (omega (arith, low, ly, e)))
      (λ z h g. operators_stop (level o + 1) z st (part (at m) g u ∷ us) ws r ends.0 (omega (arith, low)) (d g)))

  operate : (z : ℕ) → level o ≤ z → (f : Form) → Runs (Want (goals.Operators n z) ∷ ss) (part p f t ∷ vs) (a ∷ m) ws
  operate z h f =
      want (Keep (terminal_of a.kind) ∷ Want goals.Unary ∷ Want (goals.Operators (level o + 1) 10) ∷ Build makes.Binary ∷ Want (goals.Operators n (level o)) ∷ [])
      (infix_rule n z (level o) (terminal_of a.kind) facts.0 facts.2 facts.3 nl h)
      (keep a refl (right (Build makes.Binary ∷ Want (goals.Operators n (level o)) ∷ ss) (mark a.kind a.place ∷ part p f t ∷ vs) (λ g. build (rw facts.1 result))))

  arg_at : (ts : List Symbol) (ns : List StackItem) (f : Form) → o ≡ binaries.Less → is_name ns ≡ true → compared ns ≡ part p f t ∷ vs → Gated n ss ts ws → Runs (Want goals.ChainArgument ∷ ts) ns m ws
  arg_at ts ns f ro isns nm gate =
      let e : level o ≡ 7 = ap level ro in
      arg_of n ss vs ws p f t u y m r ts ns (omega (arith, nl, e)) (omega (arith, ly, e)) isns nm gate claim (rw ro at k)

  greater_at : (ts : List Symbol) (ns : List StackItem) → o ≡ binaries.Greater → compared ns ≡ part p forms.Other t ∷ vs → Gated n ss ts ws → Runs (Want goals.ChainGreater ∷ ts) ns m ws
  greater_at ts ns ro nm gate = go (ahead m) refl (unary_starts (Want (goals.Operators 8 10) ∷ Build makes.Greater ∷ ts) (part p forms.Other t ∷ vs) ws m operand)
    where
      e : level o ≡ 7
      e = ap level ro

      rel : Runs (Want (goals.Operators n 7) ∷ ss) (part p forms.Other (trees.Binary p binaries.Greater t u) ∷ vs) r ws
      rel = rw ro at result

      operand : Runs (Want goals.Unary ∷ Want (goals.Operators 8 10) ∷ Build makes.Greater ∷ ts) (part p forms.Other t ∷ vs) m ws
      operand = rw e at (right (Build makes.Greater ∷ ts) (part p forms.Other t ∷ vs) (λ g. build (gate p (trees.Binary p binaries.Greater t u) vs r rel)))

      go : (h : Terminal) → ahead m ≡ h → starts_unary h ≡ true → Runs (Want goals.ChainGreater ∷ ts) ns m ws
      go terminals.Sign z s = step goals.ChainGreater terminals.Sign ts ns ws m z (build (rw nm operand))
      go terminals.Step z s = step goals.ChainGreater terminals.Step ts ns ws m z (build (rw nm operand))
      go terminals.Identifier z s = step goals.ChainGreater terminals.Identifier ts ns ws m z (build (rw nm operand))
      go terminals.Literal z s = step goals.ChainGreater terminals.Literal ts ns ws m z (build (rw nm operand))
      go terminals.LeftParenthesis z s = step goals.ChainGreater terminals.LeftParenthesis ts ns ws m z (build (rw nm operand))
      go terminals.New z s = step goals.ChainGreater terminals.New ts ns ws m z (build (rw nm operand))
      go terminals.Super z s = step goals.ChainGreater terminals.Super ts ns ws m z (build (rw nm operand))
      go terminals.Old z s = step goals.ChainGreater terminals.Old ts ns ws m z (build (rw nm operand))
      go terminals.Complement z s = step goals.ChainGreater terminals.Complement ts ns ws m z (build (rw nm operand))
      go h z s = cc

  chain_at : x ≡ 7 → (ts : List Symbol) (ns : List StackItem) (v : StackItem) (q : Place) (e w z : Tree) (f : Form) → Gated n ss ts ws → IsName v q e w → is_name ns ≡ true → compared ns ≡ part p f z ∷ vs
      → t ≡ trees.Binary p binaries.Less z e → Runs (Want goals.ChainName ∷ ts) (v ∷ ns) (a ∷ m) ws
  chain_at x7 ts ns v q e w z f gate isn isns nm tz = go (terminal_of a.kind) refl facts.5
    where
      nms : compared (v ∷ ns) ≡ part p forms.Other t ∷ vs
      nms = rw tz (compares v q p e w z f ns vs isn isns nm)

      go : (h : Terminal) → terminal_of a.kind ≡ h → RelationOf h o → Runs (Want goals.ChainName ∷ ts) (v ∷ ns) (a ∷ m) ws
      go terminals.Less h ro = step goals.ChainName terminals.Less ts (v ∷ ns) ws (a ∷ m) h (take a h (arg_at ts (v ∷ ns) forms.Other ro (named v q e w ns isn) nms gate))
      go terminals.Greater h ro = step goals.ChainName terminals.Greater ts (v ∷ ns) ws (a ∷ m) h (take a h (greater_at ts (v ∷ ns) ro nms gate))
      go h z ro = chain_end n ss vs ws p t (a ∷ m) (omega (arith, nl, lx, x7)) (rw z refl) (operate 7 (omega (arith, lx, x7)) forms.Other) ts ns v q e w _ f gate isn isns nm tz

  test_at : x ≡ 7 → (v : StackItem) (q : Place) (e w z : Tree) (f : Form) → IsName v q e w → t ≡ trees.InstanceOf p z w → Runs (Want goals.TestedName ∷ Want (goals.Operators n 7) ∷ ss) (v ∷ part p f z ∷ vs) (a ∷ m) ws
  test_at x7 v q e w z f isn tz = go (terminal_of a.kind) refl facts.5
    where
      nms : compared (v ∷ part p f z ∷ vs) ≡ part p forms.Other t ∷ vs
      nms = rw tz (tests v q p e w z f vs isn)

      go : (h : Terminal) → terminal_of a.kind ≡ h → RelationOf h o → Runs (Want goals.TestedName ∷ Want (goals.Operators n 7) ∷ ss) (v ∷ part p f z ∷ vs) (a ∷ m) ws
      go terminals.Less h ro = step goals.TestedName terminals.Less (Want (goals.Operators n 7) ∷ ss) (v ∷ part p f z ∷ vs) ws (a ∷ m) h
          (take a h (arg_at (Want goals.AfterTested ∷ Want (goals.Operators n 7) ∷ ss) (v ∷ part p f z ∷ vs) forms.Other ro (named v q e w (part p f z ∷ vs) isn) nms (tested_gate n ss ws)))
      go h y ro = test_end n ss vs ws p t (a ∷ m) (omega (arith, nl, lx, x7)) (rw y refl) (operate 7 (omega (arith, lx, x7)) forms.Other) v q e w z f isn tz

  conts_left : Conts x n ss vs ws p t (a ∷ m)
  conts_left = record {
    rels = λ z h f. operate z (h (level o) lx facts.4) f;
    chain = chain_at;
    test = test_at;
  }

  -- where the left operand is a name
  bare_left : (c : Bool) (g : Goal) (us : List Symbol) (ns : List StackItem) (ts : List Symbol) → Context c g us ns (Want goals.Postfixes ∷ ts) vs ws → Enters n ss ts ws → (c ≡ true → 8 ≤ n) → (n ≤ 7 → Begins g us ns n ss vs ws) → Bare g us ns p t (a ∷ m) ws
  bare_left c g us ns ts ctx enters high begins v w isn = go (terminal_of a.kind) refl facts.5 (let f : level_of (terminal_of a.kind) ≡ level o = facts.0 in let h : 1 ≤ level o = facts.3 in omega (arith, f, h))
    where
      operand : Runs (Want goals.Suffixes ∷ Want goals.Postfixes ∷ ts) (part p forms.Target t ∷ vs) (a ∷ m) ws
      operand = past_operand ts (part p forms.Target t ∷ vs) ws (a ∷ m) (at_end (level_of (terminal_of a.kind)) (terminal_of a.kind) (let f : level_of (terminal_of a.kind) ≡ level o = facts.0 in let h : 1 ≤ level o = facts.3 in omega (arith, f, h)))
          (enters (part p forms.Target t ∷ vs) (a ∷ m) (operate 10 facts.4 forms.Target))

      greater : (c : Bool) → (c ≡ true → 8 ≤ n) → o ≡ binaries.Greater → not c ≡ true
      greater false h ro = refl
      greater true h ro = let e : level o ≡ 7 = ap level ro in let z : 8 ≤ n = h refl in absurd (omega (arith, nl, e, z))

      go : (h : Terminal) → terminal_of a.kind ≡ h → RelationOf h o → 1 ≤ level_of h → Runs (Want g ∷ us) (v ∷ ns) (a ∷ m) ws
      go terminals.Less h ro z =
          let b : Begins g us ns n ss vs ws = begins (let e : level o ≡ 7 = ap level ro in omega (arith, nl, e)) in
          b.less v p t w a m isn h (arg_at b.gate (v ∷ ns) forms.Target ro (named v p t w ns isn) (b.names v p t w isn) b.gated)
      go terminals.Greater h ro z = ctx.operand v p t w (a ∷ m) isn (rw h (greater c high ro)) operand
      go terminals.Dot h ro z = absurd (omega (arith, z))
      go terminals.LeftBracket h ro z = absurd (omega (arith, z))
      go h y ro z = ctx.operand v p t w (a ∷ m) isn (rw y refl) operand

pub binary_claim : (x y : ℕ) (i m r : List Lexeme) (t u : Tree) (o : BinaryOperator) (a : Lexeme) → OperationClaim x i t (a ∷ m) → binary_of a.kind ≡ Some o → level o ≤ x → OperationClaim y m u r → level o < y
    → OperationClaim (level o) i (trees.Binary (at i) o t u) r
binary_claim x y i m r t u o a left po lx claim ly = record {
  least = (facts_of a.kind o po).3;
  simple = λ ts n ss vs ws nl enters k. left.simple ts n ss vs ws (omega (arith, nl, lx)) enters (conts_left x y n ss vs ws (at i) t u o a m r po lx ly nl claim k);
  led = λ c g us ns ts n ss vs ws ctx nl enters high begins k bare z.
      left.led c g us ns ts n ss vs ws ctx (omega (arith, nl, lx)) enters high begins (conts_left x y n ss vs ws (at i) t u o a m r po lx ly nl claim k)
      (bare_left x y n ss vs ws (at i) t u o a m r po lx ly nl claim k c g us ns ts ctx enters high begins) z;
}

-- After the expression that `instanceof` tests.
module _ (x n : ℕ) (ss : List Symbol) (vs ws : List StackItem) (p : Place) (t u : Tree) (a : Lexeme) (m r : List Lexeme)
    (ka : terminal_of a.kind ≡ terminals.Instanceof) (lx : 7 ≤ x) (nl : n ≤ 7) (claim : ReferenceClaim m u r) (k : Conts 7 n ss vs ws p (trees.InstanceOf p t u) r) where
  tested : Runs (Want (goals.Operators n 7) ∷ ss) (part p forms.Other (trees.InstanceOf p t u) ∷ vs) r ws
  tested = k.rels 7 (λ l a b. a) forms.Other

  test_ends : (ends_operand (ahead r) ≡ true) × (level_of (ahead r) ≤ 7)
  test_ends = operators_inv n 7 ss (part p forms.Other (trees.InstanceOf p t u) ∷ vs) ws r (omega (arith, nl)) tested

  test_rule : (z : ℕ) → 7 ≤ z → operators_rule n z (terminal_of a.kind) (level_of (terminal_of a.kind)) ≡ Some (Take terminals.Instanceof ∷ Want goals.Tested ∷ Want (goals.Operators n 7) ∷ [])
  test_rule z h = rw ka (go_rule n z 7 terminals.Instanceof (omega arith) nl h)

  test_operate : (z : ℕ) → 7 ≤ z → (f : Form) → Runs (Want (goals.Operators n z) ∷ ss) (part p f t ∷ vs) (a ∷ m) ws
  test_operate z h f = want (Take terminals.Instanceof ∷ Want goals.Tested ∷ Want (goals.Operators n 7) ∷ []) (test_rule z h)
      (take a ka (claim.tested (Want (goals.Operators n 7) ∷ ss) p f t vs ws (quiet_end (ahead r) test_ends.0 test_ends.1) (want [] (dimensions_end (ahead r) tags.Type test_ends.0) (build tested))
      (λ v e isn. k.test refl v (at m) e u t f isn refl)))

  test_conts : Conts x n ss vs ws p t (a ∷ m)
  test_conts = conts_end x n ss vs ws p t (a ∷ m) (λ e. omega (arith, nl)) (λ e. rw ka refl) (λ z h f. test_operate z (h 7 lx (omega arith)) f)

  test_bare : (c : Bool) (g : Goal) (us : List Symbol) (ns : List StackItem) (ts : List Symbol) → Context c g us ns (Want goals.Postfixes ∷ ts) vs ws → Enters n ss ts ws → Bare g us ns p t (a ∷ m) ws
  test_bare c g us ns ts ctx enters v w isn = ctx.operand v p t w (a ∷ m) isn (rw ka refl)
      (past_operand ts (part p forms.Target t ∷ vs) ws (a ∷ m) (rw ka refl) (enters (part p forms.Target t ∷ vs) (a ∷ m) (test_operate 10 (omega arith) forms.Target)))

pub test_claim : (x : ℕ) (i m r : List Lexeme) (t u : Tree) (a : Lexeme) → OperationClaim x i t (a ∷ m) → terminal_of a.kind ≡ terminals.Instanceof → 7 ≤ x → ReferenceClaim m u r → OperationClaim 7 i (trees.InstanceOf (at i) t u) r
test_claim x i m r t u a left ka lx claim = record {
  least = omega arith;
  simple = λ ts n ss vs ws nl enters k. left.simple ts n ss vs ws (omega (arith, nl, lx)) enters (test_conts x n ss vs ws (at i) t u a m r ka lx nl claim k);
  led = λ c g us ns ts n ss vs ws ctx nl enters high begins k bare z.
      left.led c g us ns ts n ss vs ws ctx (omega (arith, nl, lx)) enters high begins (test_conts x n ss vs ws (at i) t u a m r ka lx nl claim k)
      (test_bare x n ss vs ws (at i) t u a m r ka lx nl claim k c g us ns ts ctx enters) z;
}

pub operand_claim : (i r : List Lexeme) (t : Tree) → OperandClaim ends_operand goals.Unary [] i t r → OperationClaim 11 i t r
operand_claim i r t claim = record {
  least = omega arith;
  simple = λ ts n ss vs ws nl enters k. claim.simple ts vs ws (ends n ss vs ws nl k) (λ f. enters (part (at i) f t ∷ vs) r (k.rels 10 (λ l a b. b) f));
  led = λ c g us ns ts n ss vs ws ctx nl enters high begins k bare z. claim.led c g us ns ts vs ws ctx (ends n ss vs ws nl k) (λ f. enters (part (at i) f t ∷ vs) r (k.rels 10 (λ l a b. b) f)) bare z;
}
  where
    ends : (n : ℕ) (ss : List Symbol) (vs ws : List StackItem) → n ≤ 11 → Conts 11 n ss vs ws (at i) t r → ends_operand (ahead r) ≡ true
    ends n ss vs ws nl k = (operators_inv n 10 ss (part (at i) forms.Other t ∷ vs) ws r (omega (arith, nl)) (k.rels 10 (λ l a b. b) forms.Other)).0
