-- Creations of objects and arrays.
use Rattle.std.proofs.Common.{◌≡◌, ◌≢◌, Bool, List, ◌∷◌, Some, refl}
use Rattle.kr_base.specs.declared.place.Place.{Place}
use Rattle.kr_lex.specs.Lexemes.{Lexeme}
use Rattle.kr_ast.specs.declared.node.Primitive.{Primitive}
use Rattle.kr_ast.specs.Tree as trees
use Rattle.kr_ast.specs.Tree.{Tree}
use Rattle.kr_parse_grammar.specs.declared.terminal.Terminal.{Terminal}
use Rattle.kr_parse_grammar.specs.declared.terminal.Terminal.TheVariants as terminals
use Rattle.kr_parse_grammar.specs.declared.value.Form.{Form}
use Rattle.kr_parse_grammar.specs.declared.value.Form.TheVariants as forms
use Rattle.kr_parse_grammar.specs.declared.goal.Goal.TheVariants as goals
use Rattle.kr_parse_grammar.specs.declared.goal.Make.TheVariants as makes
use Rattle.kr_parse_grammar.specs.declared.goal.Symbol.{Symbol}
use Rattle.kr_parse_grammar.specs.declared.goal.Symbol.TheVariants.{Take, Want, Build}
use Rattle.kr_parse_grammar.specs.Terminals.{terminal_of}
use Rattle.kr_parse_grammar.specs.TokenMeanings.{primitive_of}
use Rattle.kr_parse_grammar.specs.Values.{StackItem, mark, part}
use Rattle.kr_parse_grammar.specs.Made.{made}
use Rattle.kr_parse_grammar.specs.Grammar.{at}
use Rattle.kr_parse_grammar.specs.Machine.{ahead, Runs, take, keep, build}
use Rattle.kr_parse_laws.proofs.CompleteSteps.{open_at, step}
use Rattle.kr_parse_laws.proofs.CompleteOperators.{type_of, generic_of}
use Rattle.kr_parse_laws.proofs.CompleteClaims.{Optional, Parted, IsName, a_word, a_pair, start, tail, PrimaryClaim, ExpressionClaim, NameClaim, AnyTypeClaim}
use Rattle.kr_parse_laws.proofs.CompleteOperands.{PrimitiveFacts, primitive_means, differ}
use Rattle.kr_parse_laws.proofs.CompletePrimary.{arguments, enter}

new_not_name : (a : Lexeme) → terminal_of a.kind ≡ terminals.New → terminal_of a.kind ≡ terminals.Identifier → ⊥
new_not_name a ka z = let y : terminals.New ≡ terminals.Identifier = differ (terminal_of a.kind) terminals.New terminals.Identifier ka z in cc

type_starts : (ss : List Symbol) (vs ws : List StackItem) (i : List Lexeme) → Runs (Want goals.Type ∷ ss) vs i ws → ahead i ≢ terminals.Greater
type_starts ss vs ws i d = λ e. open_at goals.Type terminals.Greater e d

diamond_of : (v : StackItem) (p : Place) (e u : Tree) (vs : List StackItem) → IsName v p e u → made makes.Diamond (v ∷ vs) ≡ part p forms.Type (trees.DiamondType p u) ∷ vs
diamond_of v p e u vs a_word = refl
diamond_of v p e u vs a_pair = refl

-- the arguments of a creation, after its type
object : (f : Form) (q : Place) (t : Tree) (a b c : Lexeme) (m r : List Lexeme) (u : Tree) → terminal_of b.kind ≡ terminals.LeftParenthesis → Optional (Parted ExpressionClaim) m u (c ∷ r) → terminal_of c.kind ≡ terminals.RightParenthesis
    → (ss : List Symbol) (vs ws : List StackItem) → Runs ss (part a.place forms.Invocation (trees.ObjectCreation a.place t u) ∷ vs) r ws → Runs (Want goals.ObjectCreation ∷ ss) (part q f t ∷ mark a.kind a.place ∷ vs) (b ∷ m) ws
object f q t a b c m r u kb args kc ss vs ws k =
    step goals.ObjectCreation terminals.LeftParenthesis ss (part q f t ∷ mark a.kind a.place ∷ vs) ws (b ∷ m) kb
    (take b kb (arguments args kc (Take terminals.RightParenthesis ∷ Build makes.ObjectCreation ∷ ss) (part q f t ∷ mark a.kind a.place ∷ vs) ws (λ p g. take c kc (build k))))

-- a class, created by its name
module _ (a : Lexeme) (i l : List Lexeme) (t : Tree) (ka : terminal_of a.kind ≡ terminals.New) (n : NameClaim i t l) where
  created : (w : Bool) (ss : List Symbol) (vs ws : List StackItem) → Runs (Want goals.CreatorName ∷ Want goals.Suffixes ∷ tail w ss) (n.value ∷ mark a.kind a.place ∷ vs) l ws → Runs (Want (start w) ∷ ss) vs (a ∷ i) ws
  created w ss vs ws k = enter w terminals.New refl ss vs ws (a ∷ i) ka
      (keep a ka
      (step goals.Creator terminals.Identifier (Want goals.Suffixes ∷ tail w ss) (mark a.kind a.place ∷ vs) ws i n.identifier
      (n.loop goals.CreatorName (Want goals.Suffixes ∷ tail w ss) (mark a.kind a.place ∷ vs) ws refl (λ q m. refl) k)))

  created_type : (ss : List Symbol) (vs ws : List StackItem) → Runs ss (part (at i) forms.Type t ∷ mark a.kind a.place ∷ vs) l ws → Runs (Build makes.TypeOfName ∷ ss) (n.value ∷ mark a.kind a.place ∷ vs) l ws
  created_type ss vs ws k = build (rw (type_of n.value (at i) n.operand t (mark a.kind a.place ∷ vs) n.isname) k)

pub creation_claim : (i m r : List Lexeme) (t u : Tree) (a b c : Lexeme) → terminal_of a.kind ≡ terminals.New → NameClaim i t (b ∷ m) → terminal_of b.kind ≡ terminals.LeftParenthesis → Optional (Parted ExpressionClaim) m u (c ∷ r) → terminal_of c.kind ≡ terminals.RightParenthesis
    → PrimaryClaim forms.Invocation (a ∷ i) (trees.ObjectCreation a.place t u) r
creation_claim i m r t u a b c ka n kb args kc = record {
  simple = λ w ss vs ws k. created a i (b ∷ m) t ka n w ss vs ws
      (step goals.CreatorName terminals.LeftParenthesis (Want goals.Suffixes ∷ tail w ss) (n.value ∷ mark a.kind a.place ∷ vs) ws (b ∷ m) kb
      (created_type a i (b ∷ m) t ka n (Want goals.ObjectCreation ∷ Want goals.Suffixes ∷ tail w ss) vs ws
      (object forms.Type (at i) t a b c m r u kb args kc (Want goals.Suffixes ∷ tail w ss) vs ws k)));
  led = λ c g ss ns ts vs ws ctx x bare z. absurd (new_not_name a ka z);
}

pub generic_creation_claim : (i m n r : List Lexeme) (t u v : Tree) (a b c d e : Lexeme) → terminal_of a.kind ≡ terminals.New → NameClaim i t (b ∷ m) → terminal_of b.kind ≡ terminals.Less → AnyTypeClaim m u (c ∷ d ∷ n) → terminal_of c.kind ≡ terminals.Greater
    → terminal_of d.kind ≡ terminals.LeftParenthesis → Optional (Parted ExpressionClaim) n v (e ∷ r) → terminal_of e.kind ≡ terminals.RightParenthesis → PrimaryClaim forms.Invocation (a ∷ i) (trees.ObjectCreation a.place (trees.GenericType (at i) t u) v) r
generic_creation_claim i m n r t u v a b c d e ka nm kb type kc kd args ke = record {
  simple = λ w ss vs ws k. created a i (b ∷ m) t ka nm w ss vs ws
      (step goals.CreatorName terminals.Less (Want goals.Suffixes ∷ tail w ss) (nm.value ∷ mark a.kind a.place ∷ vs) ws (b ∷ m) kb
      (take b kb (argument w ss vs ws (typed w ss vs ws k))));
  led = λ c g ss ns ts vs ws ctx x bare z. absurd (new_not_name a ka z);
}
  where
    typed : (w : Bool) (ss : List Symbol) (vs ws : List StackItem) → Runs (Want goals.Suffixes ∷ tail w ss) (part a.place forms.Invocation (trees.ObjectCreation a.place (trees.GenericType (at i) t u) v) ∷ vs) r ws
        → Runs (Want goals.Type ∷ Take terminals.Greater ∷ Build makes.Generic ∷ Want goals.ObjectCreation ∷ Want goals.Suffixes ∷ tail w ss) (nm.value ∷ mark a.kind a.place ∷ vs) m ws
    typed w ss vs ws k = type.type.simple (Take terminals.Greater ∷ Build makes.Generic ∷ Want goals.ObjectCreation ∷ Want goals.Suffixes ∷ tail w ss) (nm.value ∷ mark a.kind a.place ∷ vs) ws (rw kc refl)
        (step goals.Dimensions terminals.Greater (Take terminals.Greater ∷ Build makes.Generic ∷ Want goals.ObjectCreation ∷ Want goals.Suffixes ∷ tail w ss) (part (at m) forms.Type u ∷ nm.value ∷ mark a.kind a.place ∷ vs) ws (c ∷ d ∷ n) kc
        (take c kc (build (rw (generic_of nm.value (at i) nm.operand t (at m) forms.Type u (mark a.kind a.place ∷ vs) nm.isname)
        (object forms.Type (at i) (trees.GenericType (at i) t u) a d e n r v kd args ke (Want goals.Suffixes ∷ tail w ss) vs ws k)))))

    argument : (w : Bool) (ss : List Symbol) (vs ws : List StackItem) → Runs (Want goals.Type ∷ Take terminals.Greater ∷ Build makes.Generic ∷ Want goals.ObjectCreation ∷ Want goals.Suffixes ∷ tail w ss) (nm.value ∷ mark a.kind a.place ∷ vs) m ws
        → Runs (Want goals.CreatorArgument ∷ Want goals.Suffixes ∷ tail w ss) (nm.value ∷ mark a.kind a.place ∷ vs) m ws
    argument w ss vs ws x = go (ahead m) refl
      where
        go : (k : Terminal) → ahead m ≡ k → Runs (Want goals.CreatorArgument ∷ Want goals.Suffixes ∷ tail w ss) (nm.value ∷ mark a.kind a.place ∷ vs) m ws
        go terminals.Greater z = absurd (type_starts (Take terminals.Greater ∷ Build makes.Generic ∷ Want goals.ObjectCreation ∷ Want goals.Suffixes ∷ tail w ss) (nm.value ∷ mark a.kind a.place ∷ vs) ws m x z)
        go k z = step goals.CreatorArgument k (Want goals.Suffixes ∷ tail w ss) (nm.value ∷ mark a.kind a.place ∷ vs) ws m z x

pub diamond_creation_claim : (i n r : List Lexeme) (t v : Tree) (a b c d e : Lexeme) → terminal_of a.kind ≡ terminals.New → NameClaim i t (b ∷ c ∷ d ∷ n) → terminal_of b.kind ≡ terminals.Less → terminal_of c.kind ≡ terminals.Greater
    → terminal_of d.kind ≡ terminals.LeftParenthesis → Optional (Parted ExpressionClaim) n v (e ∷ r) → terminal_of e.kind ≡ terminals.RightParenthesis → PrimaryClaim forms.Invocation (a ∷ i) (trees.ObjectCreation a.place (trees.DiamondType (at i) t) v) r
diamond_creation_claim i n r t v a b c d e ka nm kb kc kd args ke = record {
  simple = λ w ss vs ws k. created a i (b ∷ c ∷ d ∷ n) t ka nm w ss vs ws
      (step goals.CreatorName terminals.Less (Want goals.Suffixes ∷ tail w ss) (nm.value ∷ mark a.kind a.place ∷ vs) ws (b ∷ c ∷ d ∷ n) kb
      (take b kb
      (step goals.CreatorArgument terminals.Greater (Want goals.Suffixes ∷ tail w ss) (nm.value ∷ mark a.kind a.place ∷ vs) ws (c ∷ d ∷ n) kc
      (take c kc (build (rw (diamond_of nm.value (at i) nm.operand t (mark a.kind a.place ∷ vs) nm.isname)
      (object forms.Type (at i) (trees.DiamondType (at i) t) a d e n r v kd args ke (Want goals.Suffixes ∷ tail w ss) vs ws k)))))));
  led = λ c g ss ns ts vs ws ctx x bare z. absurd (new_not_name a ka z);
}

-- the length of an array, after its type
length_of : (f : Form) (q : Place) (t : Tree) (a b c : Lexeme) (m r : List Lexeme) (u : Tree) → terminal_of b.kind ≡ terminals.LeftBracket → ExpressionClaim m u (c ∷ r) → terminal_of c.kind ≡ terminals.RightBracket
    → (ss : List Symbol) (vs ws : List StackItem) → Runs ss (part a.place forms.ArrayCreation (trees.ArrayCreation a.place t u) ∷ vs) r ws → Runs (Want goals.ArrayLength ∷ ss) (part q f t ∷ mark a.kind a.place ∷ vs) (b ∷ m) ws
length_of f q t a b c m r u kb d kc ss vs ws k =
    step goals.ArrayLength terminals.LeftBracket ss (part q f t ∷ mark a.kind a.place ∷ vs) ws (b ∷ m) kb
    (take b kb (d.simple (Take terminals.RightBracket ∷ Build makes.ArrayCreation ∷ ss) (part q f t ∷ mark a.kind a.place ∷ vs) ws (rw kc refl) (λ g. take c kc (build k))))

pub primitive_array_claim : (i r : List Lexeme) (o : Primitive) (u : Tree) (a p b c : Lexeme) → terminal_of a.kind ≡ terminals.New → primitive_of p.kind ≡ Some o → terminal_of b.kind ≡ terminals.LeftBracket → ExpressionClaim i u (c ∷ r) → terminal_of c.kind ≡ terminals.RightBracket
    → PrimaryClaim forms.ArrayCreation (a ∷ p ∷ b ∷ i) (trees.ArrayCreation a.place (trees.PrimitiveType p.place o) u) r
primitive_array_claim i r o u a p b c ka e kb d kc =
    let facts : PrimitiveFacts p.kind (Some o) = primitive_means p.kind o e in
    record {
      simple = λ w ss vs ws k. enter w terminals.New refl ss vs ws (a ∷ p ∷ b ∷ i) ka
          (keep a ka
          (step goals.Creator terminals.Primitive (Want goals.Suffixes ∷ tail w ss) (mark a.kind a.place ∷ vs) ws (p ∷ b ∷ i) facts.0
          (keep p facts.0 (build (rw facts.1 (length_of forms.Type p.place (trees.PrimitiveType p.place o) a b c i r u kb d kc (Want goals.Suffixes ∷ tail w ss) vs ws k))))));
      led = λ c g ss ns ts vs ws ctx x bare z. absurd (new_not_name a ka z);
    }

pub class_array_claim : (i m r : List Lexeme) (t u : Tree) (a b c : Lexeme) → terminal_of a.kind ≡ terminals.New → NameClaim i t (b ∷ m) → terminal_of b.kind ≡ terminals.LeftBracket → ExpressionClaim m u (c ∷ r) → terminal_of c.kind ≡ terminals.RightBracket
    → PrimaryClaim forms.ArrayCreation (a ∷ i) (trees.ArrayCreation a.place t u) r
class_array_claim i m r t u a b c ka n kb d kc = record {
  simple = λ w ss vs ws k. created a i (b ∷ m) t ka n w ss vs ws
      (step goals.CreatorName terminals.LeftBracket (Want goals.Suffixes ∷ tail w ss) (n.value ∷ mark a.kind a.place ∷ vs) ws (b ∷ m) kb
      (created_type a i (b ∷ m) t ka n (Want goals.ArrayLength ∷ Want goals.Suffixes ∷ tail w ss) vs ws
      (length_of forms.Type (at i) t a b c m r u kb d kc (Want goals.Suffixes ∷ tail w ss) vs ws k)));
  led = λ c g ss ns ts vs ws ctx x bare z. absurd (new_not_name a ka z);
}
