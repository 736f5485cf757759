-- Primary expressions.
use Rattle.std.proofs.Common.{◌≡◌, ◌≢◌, ℕ, Bool, true, false, if◌then◌else◌, List, [], ◌∷◌, Some, refl}
use Rattle.kr_base.specs.declared.place.Place.{Place}
use Rattle.kr_base.specs.Places.{nowhere}
use Rattle.kr_lex.specs.Lexemes.{Lexeme}
use Rattle.kr_ast.specs.Tree as trees
use Rattle.kr_ast.specs.Tree.{Tree}
use Rattle.kr_parse_grammar.specs.declared.terminal.Terminal.{Terminal}
use Rattle.kr_parse_grammar.specs.declared.terminal.Terminal.TheVariants as terminals
use Rattle.kr_parse_grammar.specs.declared.value.Tag.TheVariants as tags
use Rattle.kr_parse_grammar.specs.declared.value.Form.{Form}
use Rattle.kr_parse_grammar.specs.declared.value.Form.TheVariants as forms
use Rattle.kr_parse_grammar.specs.declared.goal.Goal.{Goal}
use Rattle.kr_parse_grammar.specs.declared.goal.Goal.TheVariants as goals
use Rattle.kr_parse_grammar.specs.declared.goal.Make.TheVariants as makes
use Rattle.kr_parse_grammar.specs.declared.goal.Symbol.{Symbol}
use Rattle.kr_parse_grammar.specs.declared.goal.Symbol.TheVariants.{Take, Want, Build}
use Rattle.kr_parse_grammar.specs.Terminals.{terminal_of}
use Rattle.kr_parse_grammar.specs.Values.{StackItem, mark, word, pair, part, tag, is_name}
use Rattle.kr_parse_grammar.specs.Made.{literal}
use Rattle.kr_parse_grammar.specs.Grammar.{at}
use Rattle.kr_parse_grammar.specs.Machine.{ahead, rule, starts_unary, Runs, take, keep, name, leaf, want, build}
use Rattle.kr_parse_laws.proofs.CompleteSteps.{RunsOf, open_at, step}
use Rattle.kr_parse_laws.proofs.CompleteOperators.{expression_starts}
use Rattle.kr_parse_laws.proofs.CompleteClaims.{Any, Optional, absent, present, Parted, last, comma, IsName, a_word, a_pair, Context, Bare, start, tail, PrimaryClaim, ExpressionClaim}
use Rattle.kr_parse_laws.proofs.CompleteOperands.{differ}

-- Arguments.
more_arguments : {i r : List Lexeme} {t : Tree} → Parted ExpressionClaim i t r → ahead r ≡ terminals.RightParenthesis → (ss : List Symbol) (vs ws : List StackItem) → Any ss vs t r ws → Runs (Want goals.Expression ∷ Want goals.MoreArguments ∷ ss) vs i ws
more_arguments (last {i = i} {r = r} {t = t} d) e = λ ss vs ws k. d.simple (Want goals.MoreArguments ∷ ss) vs ws (rw e refl)
    (λ f. step goals.MoreArguments terminals.RightParenthesis ss (part (at i) f t ∷ vs) ws r e (build (build (k (at i) forms.Other))))
more_arguments (comma {i = i} {m = m} {r = r} {t = t} a d ka rest) e = λ ss vs ws k. d.simple (Want goals.MoreArguments ∷ ss) vs ws (rw ka refl)
    (λ f. step goals.MoreArguments terminals.Comma ss (part (at i) f t ∷ vs) ws (a ∷ m) ka
    (take a ka (more_arguments rest e (Build makes.Cons ∷ ss) (part (at i) f t ∷ vs) ws (λ p g. build (k (at i) forms.Other)))))

arguments_enter : (ss : List Symbol) (vs ws : List StackItem) (i : List Lexeme) → Runs (Want goals.Expression ∷ Want goals.MoreArguments ∷ ss) vs i ws → Runs (Want goals.Arguments ∷ ss) vs i ws
arguments_enter ss vs ws i d = go (ahead i) refl (expression_starts (Want goals.MoreArguments ∷ ss) vs ws i d)
  where
    go : (k : Terminal) → ahead i ≡ k → starts_unary k ≡ true → Runs (Want goals.Arguments ∷ ss) vs i ws
    go terminals.RightParenthesis e z = cc
    go k e z = step goals.Arguments k ss vs ws i e d

pub arguments : {i r : List Lexeme} {t : Tree} → Optional (Parted ExpressionClaim) i t r → ahead r ≡ terminals.RightParenthesis → (ss : List Symbol) (vs ws : List StackItem) → Any ss vs t r ws → Runs (Want goals.Arguments ∷ ss) vs i ws
arguments (absent {i = i}) e = λ ss vs ws k. step goals.Arguments terminals.RightParenthesis ss vs ws i e (build (k nowhere forms.Other))
arguments (present {i = i} d) e = λ ss vs ws k. arguments_enter ss vs ws i (more_arguments d e ss vs ws k)

-- The two goals for primary expressions.
abbrev pub is_lead : Terminal → Bool
is_lead terminals.Literal = true
is_lead terminals.Identifier = true
is_lead terminals.Super = true
is_lead terminals.Old = true
is_lead terminals.New = true
is_lead _ = false

pub enter : (b : Bool) (k : Terminal) → is_lead k ≡ true → (ss : List Symbol) (vs ws : List StackItem) (i : List Lexeme) → ahead i ≡ k → RunsOf (rule goals.Primary k (tag vs)) (tail b ss) vs i ws → Runs (Want (start b) ∷ ss) vs i ws
enter false k h ss vs ws i e d = step goals.Primary k ss vs ws i e d
enter true terminals.Literal h ss vs ws i e d = step goals.Unsigned terminals.Literal ss vs ws i e (step goals.Primary terminals.Literal (Want goals.Postfixes ∷ ss) vs ws i e d)
enter true terminals.Identifier h ss vs ws i e d = step goals.Unsigned terminals.Identifier ss vs ws i e (step goals.Primary terminals.Identifier (Want goals.Postfixes ∷ ss) vs ws i e d)
enter true terminals.Super h ss vs ws i e d = step goals.Unsigned terminals.Super ss vs ws i e (step goals.Primary terminals.Super (Want goals.Postfixes ∷ ss) vs ws i e d)
enter true terminals.Old h ss vs ws i e d = step goals.Unsigned terminals.Old ss vs ws i e (step goals.Primary terminals.Old (Want goals.Postfixes ∷ ss) vs ws i e d)
enter true terminals.New h ss vs ws i e d = step goals.Unsigned terminals.New ss vs ws i e (step goals.Primary terminals.New (Want goals.Postfixes ∷ ss) vs ws i e d)
enter true k h ss vs ws i e d = cc

pub leaf_claim : (i : List Lexeme) (a : Lexeme) (t : Tree) → terminal_of a.kind ≡ terminals.Literal → literal a ≡ t → PrimaryClaim forms.Other (a ∷ i) t i
leaf_claim i a t ka e = record {
  simple = λ b ss vs ws d. enter b terminals.Literal refl ss vs ws (a ∷ i) ka (leaf a ka (rw e d));
  led = λ c g ss ns ts vs ws ctx d bare z. absurd (let y : terminals.Literal ≡ terminals.Identifier = differ (terminal_of a.kind) terminals.Literal terminals.Identifier ka z in cc);
}

pub parentheses_claim : (i r : List Lexeme) (t : Tree) (a b : Lexeme) → terminal_of a.kind ≡ terminals.LeftParenthesis → ExpressionClaim i t (b ∷ r) → terminal_of b.kind ≡ terminals.RightParenthesis → PrimaryClaim forms.Other (a ∷ i) t r
parentheses_claim i r t a b ka d kb = record {
  simple = go;
  led = λ c g ss ns ts vs ws ctx x bare z. absurd (let y : terminals.LeftParenthesis ≡ terminals.Identifier = differ (terminal_of a.kind) terminals.LeftParenthesis terminals.Identifier ka z in cc);
}
  where
    go : (w : Bool) (ss : List Symbol) (vs ws : List StackItem) → Runs (Want goals.Suffixes ∷ tail w ss) (part a.place forms.Other t ∷ vs) r ws → Runs (Want (start w) ∷ ss) vs (a ∷ i) ws
    go false ss vs ws k = step goals.Primary terminals.LeftParenthesis ss vs ws (a ∷ i) ka
        (keep a ka (d.simple (Take terminals.RightParenthesis ∷ Build makes.Enclosed ∷ Want goals.Suffixes ∷ ss) (mark a.kind a.place ∷ vs) ws (rw kb refl) (λ f. take b kb (build k))))
    go true ss vs ws k = step goals.Unsigned terminals.LeftParenthesis ss vs ws (a ∷ i) ka
        (keep a ka (d.enclosed ss a.kind a.place vs ws (rw kb refl)
        (λ f. step goals.Closing terminals.RightParenthesis ss (part (at i) f t ∷ mark a.kind a.place ∷ vs) ws (b ∷ r) kb (take b kb (build k)))))

-- a variable, where no call begins
primary_name : (ss : List Symbol) (p : Place) (n : List ℕ) (vs ws : List StackItem) (j : List Lexeme) → Runs (Want goals.Suffixes ∷ ss) (part p forms.Target (trees.Variable p n) ∷ vs) j ws → Runs (Want goals.PrimaryName ∷ ss) (word p n ∷ vs) j ws
primary_name ss p n vs ws j d = go (ahead j) refl
  where
    go : (k : Terminal) → ahead j ≡ k → Runs (Want goals.PrimaryName ∷ ss) (word p n ∷ vs) j ws
    go terminals.LeftParenthesis e = absurd (open_at goals.Suffixes terminals.LeftParenthesis e d)
    go k e = step goals.PrimaryName k ss (word p n ∷ vs) ws j e (build d)

pub variable_claim : (i : List Lexeme) (a : Lexeme) → terminal_of a.kind ≡ terminals.Identifier → PrimaryClaim forms.Target (a ∷ i) (trees.Variable a.place a.text) i
variable_claim i a ka = record {
  simple = λ b ss vs ws d. enter b terminals.Identifier refl ss vs ws (a ∷ i) ka (name a ka (primary_name (tail b ss) a.place a.text vs ws i d));
  led = λ c g ss ns ts vs ws ctx d bare z. name a ka (bare refl (word a.place a.text) (trees.NamedType a.place a.text) a_word);
}

pub call_claim : (i r : List Lexeme) (t : Tree) (a b c : Lexeme) → terminal_of a.kind ≡ terminals.Identifier → terminal_of b.kind ≡ terminals.LeftParenthesis → Optional (Parted ExpressionClaim) i t (c ∷ r) → terminal_of c.kind ≡ terminals.RightParenthesis
    → PrimaryClaim forms.Invocation (a ∷ b ∷ i) (trees.Call a.place a.text t) r
call_claim i r t a b c ka kb d kc = record {
  simple = λ w ss vs ws k. enter w terminals.Identifier refl ss vs ws (a ∷ b ∷ i) ka
      (name a ka
      (step goals.PrimaryName terminals.LeftParenthesis (tail w ss) (word a.place a.text ∷ vs) ws (b ∷ i) kb
      (take b kb (arguments d kc (Take terminals.RightParenthesis ∷ Build makes.CallOfName ∷ Want goals.Suffixes ∷ tail w ss) (word a.place a.text ∷ vs) ws (λ p f. take c kc (build k))))));
  led = λ x g ss ns ts vs ws ctx k bare z. name a ka
      (ctx.call (word a.place a.text) a.place (trees.Variable a.place a.text) (trees.NamedType a.place a.text) (b ∷ i) a_word kb
      (take b kb (arguments d kc (Take terminals.RightParenthesis ∷ Build makes.CallOfName ∷ ctx.after) (word a.place a.text ∷ vs) ws
      (λ p f. take c kc (build (ctx.onto (part a.place forms.Invocation (trees.Call a.place a.text t) ∷ vs) r k))))));
}

pub super_claim : (i r : List Lexeme) (t : Tree) (s d a b c : Lexeme) → terminal_of s.kind ≡ terminals.Super → terminal_of d.kind ≡ terminals.Dot → terminal_of a.kind ≡ terminals.Identifier → terminal_of b.kind ≡ terminals.LeftParenthesis
    → Optional (Parted ExpressionClaim) i t (c ∷ r) → terminal_of c.kind ≡ terminals.RightParenthesis → PrimaryClaim forms.Invocation (s ∷ d ∷ a ∷ b ∷ i) (trees.SuperCall s.place a.text t) r
super_claim i r t s d a b c ks kd ka kb args kc = record {
  simple = λ w ss vs ws k. enter w terminals.Super refl ss vs ws (s ∷ d ∷ a ∷ b ∷ i) ks
      (keep s ks (take d kd (name a ka (take b kb
      (arguments args kc (Take terminals.RightParenthesis ∷ Build makes.SuperCall ∷ Want goals.Suffixes ∷ tail w ss) (word a.place a.text ∷ mark s.kind s.place ∷ vs) ws (λ p f. take c kc (build k)))))));
  led = λ x g ss ns ts vs ws ctx k bare z. absurd (let y : terminals.Super ≡ terminals.Identifier = differ (terminal_of s.kind) terminals.Super terminals.Identifier ks z in cc);
}

pub old_claim : (i r : List Lexeme) (t : Tree) (a b c : Lexeme) → terminal_of a.kind ≡ terminals.Old → terminal_of b.kind ≡ terminals.LeftParenthesis → ExpressionClaim i t (c ∷ r) → terminal_of c.kind ≡ terminals.RightParenthesis
    → PrimaryClaim forms.Other (a ∷ b ∷ i) (trees.Old a.place t) r
old_claim i r t a b c ka kb d kc = record {
  simple = λ w ss vs ws k. enter w terminals.Old refl ss vs ws (a ∷ b ∷ i) ka
      (keep a ka (take b kb (d.simple (Take terminals.RightParenthesis ∷ Build makes.Old ∷ Want goals.Suffixes ∷ tail w ss) (mark a.kind a.place ∷ vs) ws (rw kc refl) (λ f. take c kc (build k)))));
  led = λ x g ss ns ts vs ws ctx k bare z. absurd (let y : terminals.Old ≡ terminals.Identifier = differ (terminal_of a.kind) terminals.Old terminals.Identifier ka z in cc);
}

-- The continuations of a primary expression.
field_simple : (f : Form) (p : Place) (t : Tree) (a b : Lexeme) (r : List Lexeme) (ts : List Symbol) (vs ws : List StackItem) → terminal_of a.kind ≡ terminals.Dot → terminal_of b.kind ≡ terminals.Identifier
    → Runs (Want goals.Suffixes ∷ ts) (part p forms.Target (trees.FieldAccess p t b.text) ∷ vs) r ws → Runs (Want goals.Suffixes ∷ ts) (part p f t ∷ vs) (a ∷ b ∷ r) ws
field_simple f p t a b r ts vs ws ka kb k = step goals.Suffixes terminals.Dot ts (part p f t ∷ vs) ws (a ∷ b ∷ r) ka (take a ka (name b kb (go (ahead r) refl)))
  where
    go : (h : Terminal) → ahead r ≡ h → Runs (Want goals.Selected ∷ ts) (word b.place b.text ∷ part p f t ∷ vs) r ws
    go terminals.LeftParenthesis e = absurd (open_at goals.Suffixes terminals.LeftParenthesis e k)
    go h e = step goals.Selected h ts (word b.place b.text ∷ part p f t ∷ vs) ws r e (build k)

field_bare : (v : StackItem) (p : Place) (t w : Tree) → IsName v p t w → (c : Bool) (g : Goal) (ss : List Symbol) (ns : List StackItem) (ts : List Symbol) (vs ws : List StackItem) → Context c g ss ns ts vs ws → (a b : Lexeme) (r : List Lexeme)
    → terminal_of a.kind ≡ terminals.Dot → terminal_of b.kind ≡ terminals.Identifier → Runs (Want goals.Suffixes ∷ ts) (part p forms.Target t ∷ vs) (a ∷ b ∷ r) ws → Bare g ss ns p (trees.FieldAccess p t b.text) r ws → Runs (Want g ∷ ss) (v ∷ ns) (a ∷ b ∷ r) ws
field_bare v p t w (a_word {n = n}) c g ss ns ts vs ws ctx a b r ka kb k bare =
    ctx.dot p n (a ∷ b ∷ r) ka (take a ka (name b kb (build (bare (pair p n b.text) (trees.QualifiedType p n b.text) a_pair))))
field_bare v p t w (a_pair {o = o} {n = n}) c g ss ns ts vs ws ctx a b r ka kb k bare = ctx.operand v p t w (a ∷ b ∷ r) a_pair (rw ka refl) k

pub field_claim : (f : Form) (i r : List Lexeme) (t : Tree) (a b : Lexeme) → PrimaryClaim f i t (a ∷ b ∷ r) → terminal_of a.kind ≡ terminals.Dot → terminal_of b.kind ≡ terminals.Identifier → PrimaryClaim forms.Target i (trees.FieldAccess (at i) t b.text) r
field_claim f i r t a b d ka kb = record {
  simple = λ w ss vs ws k. d.simple w ss vs ws (field_simple f (at i) t a b r (tail w ss) vs ws ka kb k);
  led = λ c g ss ns ts vs ws ctx k bare z. d.led c g ss ns ts vs ws ctx (field_simple f (at i) t a b r ts vs ws ka kb k)
      (λ h v w isn. field_bare v (at i) t w isn c g ss ns ts vs ws ctx a b r ka kb (field_simple forms.Target (at i) t a b r ts vs ws ka kb k) (bare refl)) z;
}

method_simple : (f : Form) (p : Place) (t u : Tree) (a b c d : Lexeme) (m r : List Lexeme) (ts : List Symbol) (vs ws : List StackItem) → terminal_of a.kind ≡ terminals.Dot → terminal_of b.kind ≡ terminals.Identifier → terminal_of c.kind ≡ terminals.LeftParenthesis
    → Optional (Parted ExpressionClaim) m u (d ∷ r) → terminal_of d.kind ≡ terminals.RightParenthesis → Runs (Want goals.Suffixes ∷ ts) (part p forms.Invocation (trees.MethodCall p t b.text u) ∷ vs) r ws
    → Runs (Want goals.Suffixes ∷ ts) (part p f t ∷ vs) (a ∷ b ∷ c ∷ m) ws
method_simple f p t u a b c d m r ts vs ws ka kb kc args kd k =
    step goals.Suffixes terminals.Dot ts (part p f t ∷ vs) ws (a ∷ b ∷ c ∷ m) ka
    (take a ka
    (name b kb
    (step goals.Selected terminals.LeftParenthesis ts (word b.place b.text ∷ part p f t ∷ vs) ws (c ∷ m) kc
    (take c kc (arguments args kd (Take terminals.RightParenthesis ∷ Build makes.MethodCall ∷ Want goals.Suffixes ∷ ts) (word b.place b.text ∷ part p f t ∷ vs) ws (λ q g. take d kd (build k)))))))

method_bare : (v : StackItem) (p : Place) (t w : Tree) → IsName v p t w → (x : Bool) (g : Goal) (ss : List Symbol) (ns : List StackItem) (ts : List Symbol) (vs ws : List StackItem) → Context x g ss ns ts vs ws → (u : Tree) (a b c d : Lexeme) (m r : List Lexeme)
    → terminal_of a.kind ≡ terminals.Dot → terminal_of b.kind ≡ terminals.Identifier → terminal_of c.kind ≡ terminals.LeftParenthesis → Optional (Parted ExpressionClaim) m u (d ∷ r) → terminal_of d.kind ≡ terminals.RightParenthesis
    → Runs (Want goals.Suffixes ∷ ts) (part p forms.Invocation (trees.MethodCall p t b.text u) ∷ vs) r ws → Runs (Want goals.Suffixes ∷ ts) (part p forms.Target t ∷ vs) (a ∷ b ∷ c ∷ m) ws → Runs (Want g ∷ ss) (v ∷ ns) (a ∷ b ∷ c ∷ m) ws
method_bare v p t w (a_word {n = n}) x g ss ns ts vs ws ctx u a b c d m r ka kb kc args kd k simple =
    ctx.dot p n (a ∷ b ∷ c ∷ m) ka
    (take a ka
    (name b kb
    (build
    (ctx.call (pair p n b.text) p (trees.FieldAccess p (trees.Variable p n) b.text) (trees.QualifiedType p n b.text) (c ∷ m) a_pair kc
    (take c kc
    (arguments args kd (Take terminals.RightParenthesis ∷ Build makes.CallOfName ∷ ctx.after) (pair p n b.text ∷ vs) ws
    (λ q h. take d kd (build (ctx.onto (part p forms.Invocation (trees.MethodCall p (trees.Variable p n) b.text u) ∷ vs) r k)))))))))
method_bare v p t w (a_pair {o = o} {n = n}) x g ss ns ts vs ws ctx u a b c d m r ka kb kc args kd k simple = ctx.operand v p t w (a ∷ b ∷ c ∷ m) a_pair (rw ka refl) simple

pub method_claim : (f : Form) (i m r : List Lexeme) (t u : Tree) (a b c d : Lexeme) → PrimaryClaim f i t (a ∷ b ∷ c ∷ m) → terminal_of a.kind ≡ terminals.Dot → terminal_of b.kind ≡ terminals.Identifier → terminal_of c.kind ≡ terminals.LeftParenthesis
    → Optional (Parted ExpressionClaim) m u (d ∷ r) → terminal_of d.kind ≡ terminals.RightParenthesis → PrimaryClaim forms.Invocation i (trees.MethodCall (at i) t b.text u) r
method_claim f i m r t u a b c d left ka kb kc args kd = record {
  simple = λ w ss vs ws k. left.simple w ss vs ws (method_simple f (at i) t u a b c d m r (tail w ss) vs ws ka kb kc args kd k);
  led = λ x g ss ns ts vs ws ctx k bare z. left.led x g ss ns ts vs ws ctx (method_simple f (at i) t u a b c d m r ts vs ws ka kb kc args kd k)
      (λ h v w isn. method_bare v (at i) t w isn x g ss ns ts vs ws ctx u a b c d m r ka kb kc args kd k (method_simple forms.Target (at i) t u a b c d m r ts vs ws ka kb kc args kd k)) z;
}

index_rule : (f : Form) (p : Place) (t : Tree) (vs : List StackItem) → f ≢ forms.ArrayCreation → rule goals.Suffixes terminals.LeftBracket (tag (part p f t ∷ vs)) ≡ Some (Take terminals.LeftBracket ∷ Want goals.Expression ∷ Take terminals.RightBracket ∷ Build makes.ArrayAccess ∷ Want goals.Suffixes ∷ [])
index_rule forms.ArrayCreation p t vs h = absurd (h refl)
index_rule forms.Type p t vs h = go (is_name vs)
  where
    go : (b : Bool) → rule goals.Suffixes terminals.LeftBracket (if b then tags.InnerType else tags.Type) ≡ Some (Take terminals.LeftBracket ∷ Want goals.Expression ∷ Take terminals.RightBracket ∷ Build makes.ArrayAccess ∷ Want goals.Suffixes ∷ [])
    go true = refl
    go false = refl
index_rule forms.Target p t vs h = refl
index_rule forms.Invocation p t vs h = refl
index_rule forms.Local p t vs h = refl
index_rule forms.Other p t vs h = refl

index_simple : (f : Form) (p : Place) (t u : Tree) (a b : Lexeme) (m r : List Lexeme) (ts : List Symbol) (vs ws : List StackItem) → f ≢ forms.ArrayCreation → terminal_of a.kind ≡ terminals.LeftBracket → ExpressionClaim m u (b ∷ r) → terminal_of b.kind ≡ terminals.RightBracket
    → Runs (Want goals.Suffixes ∷ ts) (part p forms.Target (trees.ArrayAccess p t u) ∷ vs) r ws → Runs (Want goals.Suffixes ∷ ts) (part p f t ∷ vs) (a ∷ m) ws
index_simple f p t u a b m r ts vs ws h ka d kb k =
    want (Take terminals.LeftBracket ∷ Want goals.Expression ∷ Take terminals.RightBracket ∷ Build makes.ArrayAccess ∷ Want goals.Suffixes ∷ []) (rw ka (index_rule f p t vs h))
    (take a ka (d.simple (Take terminals.RightBracket ∷ Build makes.ArrayAccess ∷ Want goals.Suffixes ∷ ts) (part p f t ∷ vs) ws (rw kb refl) (λ g. take b kb (build k))))

pub index_claim : (f : Form) (i m r : List Lexeme) (t u : Tree) (a b : Lexeme) → PrimaryClaim f i t (a ∷ m) → f ≢ forms.ArrayCreation → terminal_of a.kind ≡ terminals.LeftBracket → ExpressionClaim m u (b ∷ r) → terminal_of b.kind ≡ terminals.RightBracket
    → PrimaryClaim forms.Target i (trees.ArrayAccess (at i) t u) r
index_claim f i m r t u a b left h ka d kb = record {
  simple = λ w ss vs ws k. left.simple w ss vs ws (index_simple f (at i) t u a b m r (tail w ss) vs ws h ka d kb k);
  led = λ c g ss ns ts vs ws ctx k bare z. left.led c g ss ns ts vs ws ctx (index_simple f (at i) t u a b m r ts vs ws h ka d kb k)
      (λ y v w isn. ctx.index v (at i) t w a m isn ka
      (d.simple (Take terminals.RightBracket ∷ Build makes.ArrayAccess ∷ ctx.after) (part (at i) forms.Target t ∷ vs) ws (rw kb refl)
      (λ g. take b kb (build (ctx.onto (part (at i) forms.Target (trees.ArrayAccess (at i) t u) ∷ vs) r k))))) z;
}
