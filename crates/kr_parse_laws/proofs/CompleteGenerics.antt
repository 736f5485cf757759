-- Array types and generic types.
use Rattle.std.proofs.Common.{◌≡◌, true, false, List, [], ◌∷◌, refl, sym, ap, ◌∙◌}
use Rattle.kr_base.specs.declared.place.Place.{Place}
use Rattle.kr_lex.specs.Lexemes.{Lexeme}
use Rattle.kr_ast.specs.Tree as trees
use Rattle.kr_ast.specs.Tree.{Tree}
use Rattle.kr_parse_grammar.specs.declared.terminal.Terminal.{Terminal}
use Rattle.kr_parse_grammar.specs.declared.terminal.Terminal.TheVariants as terminals
use Rattle.kr_parse_grammar.specs.declared.value.Tag.TheVariants as tags
use Rattle.kr_parse_grammar.specs.declared.value.Form.TheVariants as forms
use Rattle.kr_parse_grammar.specs.declared.goal.Goal.TheVariants as goals
use Rattle.kr_parse_grammar.specs.declared.goal.Make.TheVariants as makes
use Rattle.kr_parse_grammar.specs.declared.goal.Symbol.{Symbol}
use Rattle.kr_parse_grammar.specs.declared.goal.Symbol.TheVariants.{Take, Word, Want, Build}
use Rattle.kr_parse_grammar.specs.Terminals.{terminal_of}
use Rattle.kr_parse_grammar.specs.Values.{StackItem, mark, part, tag, is_name}
use Rattle.kr_parse_grammar.specs.Grammar.{at}
use Rattle.kr_parse_grammar.specs.Machine.{ahead, starts_unary, Runs, take, want, build}
use Rattle.kr_parse_laws.proofs.CompleteSteps.{open_at, open_with, step, step_with, take_next, take_kind, build_inv}
use Rattle.kr_parse_laws.proofs.CompleteOperators.{type_of, generic_of, plain_name, named}
use Rattle.kr_parse_laws.proofs.CompleteClaims.{IsName, NameClaim, Quiet, ReferenceClaim, AnyTypeClaim}
use Rattle.kr_parse_laws.proofs.CompleteOperands.{differ}
use Rattle.kr_parse_laws.proofs.CompleteTypes.{member_name_rule}

-- An array type.
module _ (i r : List Lexeme) (t : Tree) (a b : Lexeme) (ka : terminal_of a.kind ≡ terminals.LeftBracket) (kb : terminal_of b.kind ≡ terminals.RightBracket) where
  dimension : (ss : List Symbol) (vs ws : List StackItem) → Runs (Want goals.Dimensions ∷ ss) (part (at i) forms.Type (trees.ArrayType (at i) t) ∷ vs) r ws → Runs (Want goals.Dimensions ∷ ss) (part (at i) forms.Type t ∷ vs) (a ∷ b ∷ r) ws
  dimension ss vs ws d = step goals.Dimensions terminals.LeftBracket ss (part (at i) forms.Type t ∷ vs) ws (a ∷ b ∷ r) ka (take a ka (take b kb (build d)))

  quiet_bracket : Quiet (a ∷ b ∷ r)
  quiet_bracket c m e kc = let z : terminals.LeftBracket ≡ terminals.Greater = differ (terminal_of a.kind) terminals.LeftBracket terminals.Greater ka (ap ahead e ∙ kc) in cc

  tested_dimension : (ss : List Symbol) (vs ws : List StackItem) → Runs (Want goals.Dimensions ∷ Build makes.InstanceOf ∷ ss) (part (at i) forms.Type (trees.ArrayType (at i) t) ∷ vs) r ws → (v : StackItem) (q : Place) (e : Tree) → IsName v q e t → q ≡ at i
      → Runs (Want goals.TestedName ∷ ss) (v ∷ vs) (a ∷ b ∷ r) ws
  tested_dimension ss vs ws d v q e isn z = step goals.TestedName terminals.LeftBracket ss (v ∷ vs) ws (a ∷ b ∷ r) ka
      (build (rw (type_of v q e t vs isn, z) (dimension (Build makes.InstanceOf ∷ ss) vs ws d)))

pub array_claim : (i r : List Lexeme) (t : Tree) (a b : Lexeme) → AnyTypeClaim i t (a ∷ b ∷ r) → terminal_of a.kind ≡ terminals.LeftBracket → terminal_of b.kind ≡ terminals.RightBracket → ReferenceClaim i (trees.ArrayType (at i) t) r
array_claim i r t a b d ka kb = record {
  type = record {
    starts = d.type.starts;
    simple = λ ss vs ws h x. d.type.simple ss vs ws (rw ka refl) (dimension i r t a b ka kb ss vs ws x);
    local = λ ss vs ws h x. d.type.local ss vs ws h (dimension i r t a b ka kb (Word ∷ Want goals.AfterLocalName ∷ ss) vs ws x);
    member = λ ss vs ws h x. d.type.member ss vs ws h (dimension i r t a b ka kb (Word ∷ Want goals.FieldOrMethod ∷ ss) vs ws x);
    chain = λ ss ns ws h q x. d.type.chain ss ns ws h (quiet_bracket i r t a b ka kb)
        (step goals.ChainClosing terminals.LeftBracket ss (part (at i) forms.Type t ∷ ns) ws (a ∷ b ∷ r) ka (take a ka (take b kb (build x))));
  };
  cast = λ ss k p vs ws x. (d.reference ka).cast ss k p vs ws (dimension i r t a b ka kb (Take terminals.RightParenthesis ∷ Want goals.Unsigned ∷ Build makes.Cast ∷ ss) (mark k p ∷ vs) ws x);
  tested = λ ss p f x vs ws q y nm. (d.reference ka).tested ss p f x vs ws (rw ka refl) (dimension i r t a b ka kb (Build makes.InstanceOf ∷ ss) (part p f x ∷ vs) ws y)
      (λ v e isn. tested_dimension i r t a b ka kb ss (part p f x ∷ vs) ws y v (at i) e isn refl);
}

-- dimensions after a chain that is a type
past_dimensions : (ss ts : List Symbol) (q : Place) (ns ws : List StackItem) → is_name ns ≡ false → ((t : Tree) (j : List Lexeme) → Runs ss (part q forms.Type t ∷ ns) j ws → Runs ts (part q forms.Type t ∷ ns) j ws)
    → (r : List Lexeme) (t : Tree) → Runs (Want goals.Dimensions ∷ ss) (part q forms.Type t ∷ ns) r ws → Runs (Want goals.ChainClosing ∷ ts) (part q forms.Type t ∷ ns) r ws
past_dimensions ss ts q ns ws h f [] t d = step_with goals.ChainClosing terminals.End tags.Type ts (part q forms.Type t ∷ ns) ws [] refl (rw h refl) (f t [] (open_at goals.Dimensions terminals.End refl d))
past_dimensions ss ts q ns ws h f (a ∷ []) t d = go (terminal_of a.kind) refl
  where
    go : (k : Terminal) → terminal_of a.kind ≡ k → Runs (Want goals.ChainClosing ∷ ts) (part q forms.Type t ∷ ns) (a ∷ []) ws
    go terminals.LeftBracket e = absurd (let z : terminals.End ≡ terminals.RightBracket = take_kind (take_next (open_at goals.Dimensions terminals.LeftBracket e d)) in cc)
    go k e = step_with goals.ChainClosing k tags.Type ts (part q forms.Type t ∷ ns) ws (a ∷ []) e (rw h refl) (f t (a ∷ []) (open_at goals.Dimensions k e d))
past_dimensions ss ts q ns ws h f (a ∷ b ∷ r) t d = further ss ts q ns ws h f a b r t (past_dimensions ss ts q ns ws h f r (trees.ArrayType q t)) d
  where
    further : (ss ts : List Symbol) (q : Place) (ns ws : List StackItem) → is_name ns ≡ false → ((t : Tree) (j : List Lexeme) → Runs ss (part q forms.Type t ∷ ns) j ws → Runs ts (part q forms.Type t ∷ ns) j ws)
        → (a b : Lexeme) (r : List Lexeme) (t : Tree) → (Runs (Want goals.Dimensions ∷ ss) (part q forms.Type (trees.ArrayType q t) ∷ ns) r ws → Runs (Want goals.ChainClosing ∷ ts) (part q forms.Type (trees.ArrayType q t) ∷ ns) r ws)
        → Runs (Want goals.Dimensions ∷ ss) (part q forms.Type t ∷ ns) (a ∷ b ∷ r) ws → Runs (Want goals.ChainClosing ∷ ts) (part q forms.Type t ∷ ns) (a ∷ b ∷ r) ws
    further ss ts q ns ws h f a b r t rest d = go (terminal_of a.kind) refl
      where
        bracket : terminal_of a.kind ≡ terminals.LeftBracket → Runs (Take terminals.RightBracket ∷ Build makes.Array ∷ Want goals.Dimensions ∷ ss) (part q forms.Type t ∷ ns) (b ∷ r) ws → Runs (Want goals.ChainClosing ∷ ts) (part q forms.Type t ∷ ns) (a ∷ b ∷ r) ws
        bracket e x = step goals.ChainClosing terminals.LeftBracket ts (part q forms.Type t ∷ ns) ws (a ∷ b ∷ r) e (take a e (take b (take_kind x) (build (rest (build_inv (take_next x))))))

        go : (k : Terminal) → terminal_of a.kind ≡ k → Runs (Want goals.ChainClosing ∷ ts) (part q forms.Type t ∷ ns) (a ∷ b ∷ r) ws
        go terminals.LeftBracket e = bracket e (take_next (open_at goals.Dimensions terminals.LeftBracket e d))
        go k e = step_with goals.ChainClosing k tags.Type ts (part q forms.Type t ∷ ns) ws (a ∷ b ∷ r) e (rw h refl) (f t (a ∷ b ∷ r) (open_at goals.Dimensions k e d))

abbrev rest_of : List Lexeme → List Lexeme
rest_of [] = []
rest_of (a ∷ r) = r

-- A generic type.
module _ (i m r : List Lexeme) (t u : Tree) (a b : Lexeme) (n : NameClaim i t (a ∷ m)) (ka : terminal_of a.kind ≡ terminals.Less) (d : AnyTypeClaim m u (b ∷ r)) (kb : terminal_of b.kind ≡ terminals.Greater) where
  angle : (ss : List Symbol) (vs ws : List StackItem) → Runs ss (part (at i) forms.Type (trees.GenericType (at i) t u) ∷ vs) r ws → Runs (Want goals.Type ∷ Take terminals.Greater ∷ Build makes.Generic ∷ ss) (n.value ∷ vs) m ws
  angle ss vs ws x = d.type.simple (Take terminals.Greater ∷ Build makes.Generic ∷ ss) (n.value ∷ vs) ws (rw kb refl)
      (step goals.Dimensions terminals.Greater (Take terminals.Greater ∷ Build makes.Generic ∷ ss) (part (at m) forms.Type u ∷ n.value ∷ vs) ws (b ∷ r) kb
      (take b kb (build (rw (generic_of n.value (at i) n.operand t (at m) forms.Type u vs n.isname) x))))

  angle_tail : (ss : List Symbol) (vs ws : List StackItem) → Runs (Want goals.Dimensions ∷ ss) (part (at i) forms.Type (trees.GenericType (at i) t u) ∷ vs) r ws → Runs (Want goals.TypeTail ∷ ss) (n.value ∷ vs) (a ∷ m) ws
  angle_tail ss vs ws x = step goals.TypeTail terminals.Less ss (n.value ∷ vs) ws (a ∷ m) ka (take a ka (angle (Want goals.Dimensions ∷ ss) vs ws x))

  angle_chain : (ss : List Symbol) (ns ws : List StackItem) → starts_unary (ahead r) ≡ false → Runs (Want goals.ChainClosing ∷ ss) (part (at i) forms.Type (trees.GenericType (at i) t u) ∷ ns) r ws → Runs (Want goals.ChainArgument ∷ ss) (n.value ∷ ns) m ws
  angle_chain ss ns ws q x = d.type.chain ss (n.value ∷ ns) ws isns quiet
      (step_with goals.ChainClosing terminals.Greater tags.InnerType ss (part (at m) forms.Type u ∷ n.value ∷ ns) ws (b ∷ r) kb (rw isns refl)
      (take b kb (build (rw (generic_of n.value (at i) n.operand t (at m) forms.Type u ns n.isname) x))))
    where
      isns : is_name (n.value ∷ ns) ≡ true
      isns = named n.value (at i) n.operand t ns n.isname

      quiet : Quiet (b ∷ r)
      quiet c l e kc = let z : starts_unary (ahead r) ≡ starts_unary (ahead l) = ap (λ x. starts_unary (ahead (rest_of x))) e in sym z ∙ q

  closing_quiet : (ss : List Symbol) (ns ws : List StackItem) → is_name ns ≡ true → Runs (Want goals.ChainClosing ∷ ss) (part (at i) forms.Type (trees.GenericType (at i) t u) ∷ ns) r ws → starts_unary (ahead r) ≡ false
  closing_quiet ss ns ws h x = go (ahead r) refl
    where
      go : (k : Terminal) → ahead r ≡ k → starts_unary (ahead r) ≡ false
      go terminals.LeftBracket e = rw e refl
      go k e = rw (take_kind (open_with goals.ChainClosing k tags.InnerType e (rw h refl) x)) refl

  dimensions_quiet : (ss : List Symbol) (vs ws : List StackItem) → Runs (Want goals.Dimensions ∷ Take terminals.RightParenthesis ∷ ss) vs r ws → starts_unary (ahead r) ≡ false
  dimensions_quiet ss vs ws x = go (ahead r) refl
    where
      go : (k : Terminal) → ahead r ≡ k → starts_unary (ahead r) ≡ false
      go terminals.LeftBracket e = rw e refl
      go k e = rw (take_kind (open_at goals.Dimensions k e x)) refl

pub generic_claim : (i m r : List Lexeme) (t u : Tree) (a b : Lexeme) → NameClaim i t (a ∷ m) → terminal_of a.kind ≡ terminals.Less → AnyTypeClaim m u (b ∷ r) → terminal_of b.kind ≡ terminals.Greater → ReferenceClaim i (trees.GenericType (at i) t u) r
generic_claim i m r t u a b n ka d kb = record {
  type = record {
    starts = rw n.identifier refl;
    simple = λ ss vs ws h x. step goals.Type terminals.Identifier ss vs ws i n.identifier (n.typed ss vs ws (λ z. let y : terminals.Less ≡ terminals.Dot = differ (terminal_of a.kind) terminals.Less terminals.Dot ka z in cc) (angle_tail i m r t u a b n ka d kb ss vs ws x));
    local = λ ss vs ws h x. step goals.Item terminals.Identifier ss vs ws i n.identifier
        (n.loop goals.ItemName ss vs ws refl h (step goals.ItemName terminals.Less ss (n.value ∷ vs) ws (a ∷ m) ka (take a ka (angle i m r t u a b n ka d kb (Want goals.Dimensions ∷ Word ∷ Want goals.AfterLocalName ∷ ss) vs ws x))));
    member = λ ss vs ws h x. want (Word ∷ Want goals.MemberName ∷ []) (rw n.identifier (member_name_rule (tag vs) h))
        (n.member ss vs ws (rw ka refl) (angle_tail i m r t u a b n ka d kb (Word ∷ Want goals.FieldOrMethod ∷ ss) vs ws x));
    chain = λ ss ns ws h q x. step goals.ChainArgument terminals.Identifier ss ns ws i n.identifier
        (n.loop goals.ChainName ss ns ws refl (plain_name ns h)
        (step goals.ChainName terminals.Less ss (n.value ∷ ns) ws (a ∷ m) ka (take a ka (angle_chain i m r t u a b n ka d kb ss ns ws (closing_quiet i m r t u a b n ka d kb ss ns ws h x) x))));
  };
  cast = λ ss k p vs ws x. step goals.InParentheses terminals.Identifier ss (mark k p ∷ vs) ws i n.identifier
      (n.loop goals.EnclosedName ss (mark k p ∷ vs) ws refl (λ q l. refl)
      (step goals.EnclosedName terminals.Less ss (n.value ∷ mark k p ∷ vs) ws (a ∷ m) ka
      (take a ka (angle_chain i m r t u a b n ka d kb (Want goals.AfterChain ∷ ss) (mark k p ∷ vs) ws (dimensions_quiet i m r t u a b n ka d kb (Want goals.Unsigned ∷ Build makes.Cast ∷ ss) (part (at i) forms.Type (trees.GenericType (at i) t u) ∷ mark k p ∷ vs) ws x)
      (past_dimensions (Take terminals.RightParenthesis ∷ Want goals.Unsigned ∷ Build makes.Cast ∷ ss) (Want goals.AfterChain ∷ ss) (at i) (mark k p ∷ vs) ws refl
      (λ y j w. step goals.AfterChain (ahead j) ss (part (at i) forms.Type y ∷ mark k p ∷ vs) ws j refl w) r (trees.GenericType (at i) t u) x)))));
  tested = λ ss p f x vs ws q y nm. step goals.Tested terminals.Identifier ss (part p f x ∷ vs) ws i n.identifier
      (n.loop goals.TestedName ss (part p f x ∷ vs) ws refl (λ z l. refl)
      (step goals.TestedName terminals.Less ss (n.value ∷ part p f x ∷ vs) ws (a ∷ m) ka
      (take a ka (angle_chain i m r t u a b n ka d kb (Want goals.AfterTested ∷ ss) (part p f x ∷ vs) ws q
      (past_dimensions (Build makes.InstanceOf ∷ ss) (Want goals.AfterTested ∷ ss) (at i) (part p f x ∷ vs) ws refl
      (λ z j w. step goals.AfterTested (ahead j) ss (part (at i) forms.Type z ∷ part p f x ∷ vs) ws j refl w) r (trees.GenericType (at i) t u) y)))));
}

pub reference_claim : (i r : List Lexeme) (t : Tree) → ReferenceClaim i t r → AnyTypeClaim i t r
reference_claim i r t d = record { type = d.type; reference = λ e. d }
