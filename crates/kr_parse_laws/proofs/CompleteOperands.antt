-- Expressions with one operand.
use Rattle.std.proofs.Common.{◌≡◌, true, List, [], ◌∷◌, Option, Some, None, refl, sym, ◌∙◌}
use Rattle.kr_base.specs.declared.place.Place.{Place}
use Rattle.kr_lex.specs.Lexemes.{Lexeme}
use Rattle.kr_lex.specs.declared.kind.Kind.{Kind}
use Rattle.kr_lex.specs.declared.kind.Kind.TheVariants as kinds
use Rattle.kr_ast.specs.declared.node.Primitive.{Primitive}
use Rattle.kr_ast.specs.declared.node.UnaryOperator.{UnaryOperator}
use Rattle.kr_ast.specs.declared.node.StepOperator.{StepOperator}
use Rattle.kr_ast.specs.declared.node.BinaryOperator.{BinaryOperator}
use Rattle.kr_ast.specs.Tree as trees
use Rattle.kr_ast.specs.Tree.{Tree}
use Rattle.kr_parse_grammar.specs.declared.terminal.Terminal.{Terminal}
use Rattle.kr_parse_grammar.specs.declared.terminal.Terminal.TheVariants as terminals
use Rattle.kr_parse_grammar.specs.declared.value.Tag.TheVariants as tags
use Rattle.kr_parse_grammar.specs.declared.value.Form.{Form}
use Rattle.kr_parse_grammar.specs.declared.value.Form.TheVariants as forms
use Rattle.kr_parse_grammar.specs.declared.goal.Goal.TheVariants as goals
use Rattle.kr_parse_grammar.specs.declared.goal.Make.TheVariants as makes
use Rattle.kr_parse_grammar.specs.declared.goal.Symbol.{Symbol}
use Rattle.kr_parse_grammar.specs.declared.goal.Symbol.TheVariants.{Take, Want, Build}
use Rattle.kr_parse_grammar.specs.Terminals.{terminal_of}
use Rattle.kr_parse_grammar.specs.TokenMeanings.{primitive_of, sign_of, step_before, step_behind, complement_of, compound_of}
use Rattle.kr_parse_grammar.specs.Values.{StackItem, mark, part, tag}
use Rattle.kr_parse_grammar.specs.Made.{the_primitive, the_unary, the_step_before, the_step_behind, assigned}
use Rattle.kr_parse_grammar.specs.Grammar.{at}
use Rattle.kr_parse_grammar.specs.Machine.{ahead, starts_unsigned, Runs, take, keep, want, build}
use Rattle.kr_parse_laws.proofs.CompleteSteps.{step}
use Rattle.kr_parse_laws.proofs.CompleteOperators.{suffixes_end, operand_primary, postfixes_end, unsigned_starts}
use Rattle.kr_parse_laws.proofs.CompleteClaims.{Part, ends_operand, ends_suffixes, PrimaryClaim, OperandClaim, ReferenceClaim}

-- The meanings of tokens.
abbrev pub SignFacts : Kind → Option UnaryOperator → Type 0
SignFacts k None = Unit {0}
SignFacts k (Some o) = (terminal_of k ≡ terminals.Sign) × (the_unary k ≡ o)

sign_facts : (k : Kind) → SignFacts k (sign_of k)
sign_facts kinds.Plus = (refl, refl)
sign_facts kinds.Minus = (refl, refl)
sign_facts _ = tt

pub sign_means : (k : Kind) (o : UnaryOperator) → sign_of k ≡ Some o → SignFacts k (Some o)
sign_means k o e = rw e at (sign_facts k)

abbrev pub ComplementFacts : Kind → Option UnaryOperator → Type 0
ComplementFacts k None = Unit {0}
ComplementFacts k (Some o) = (terminal_of k ≡ terminals.Complement) × (the_unary k ≡ o)

complement_facts : (k : Kind) → ComplementFacts k (complement_of k)
complement_facts kinds.Tilde = (refl, refl)
complement_facts kinds.Exclamation = (refl, refl)
complement_facts _ = tt

pub complement_means : (k : Kind) (o : UnaryOperator) → complement_of k ≡ Some o → ComplementFacts k (Some o)
complement_means k o e = rw e at (complement_facts k)

abbrev pub BeforeFacts : Kind → Option StepOperator → Type 0
BeforeFacts k None = Unit {0}
BeforeFacts k (Some o) = (terminal_of k ≡ terminals.Step) × (the_step_before k ≡ o)

before_facts : (k : Kind) → BeforeFacts k (step_before k)
before_facts kinds.PlusPlus = (refl, refl)
before_facts kinds.MinusMinus = (refl, refl)
before_facts _ = tt

pub before_means : (k : Kind) (o : StepOperator) → step_before k ≡ Some o → BeforeFacts k (Some o)
before_means k o e = rw e at (before_facts k)

abbrev pub BehindFacts : Kind → Option StepOperator → Type 0
BehindFacts k None = Unit {0}
BehindFacts k (Some o) = (terminal_of k ≡ terminals.Step) × (the_step_behind k ≡ o)

behind_facts : (k : Kind) → BehindFacts k (step_behind k)
behind_facts kinds.PlusPlus = (refl, refl)
behind_facts kinds.MinusMinus = (refl, refl)
behind_facts _ = tt

pub behind_means : (k : Kind) (o : StepOperator) → step_behind k ≡ Some o → BehindFacts k (Some o)
behind_means k o e = rw e at (behind_facts k)

abbrev pub PrimitiveFacts : Kind → Option Primitive → Type 0
PrimitiveFacts k None = Unit {0}
PrimitiveFacts k (Some o) = (terminal_of k ≡ terminals.Primitive) × (the_primitive k ≡ o)

primitive_facts : (k : Kind) → PrimitiveFacts k (primitive_of k)
primitive_facts kinds.Int = (refl, refl)
primitive_facts kinds.Long = (refl, refl)
primitive_facts kinds.Boolean = (refl, refl)
primitive_facts _ = tt

pub primitive_means : (k : Kind) (o : Primitive) → primitive_of k ≡ Some o → PrimitiveFacts k (Some o)
primitive_means k o e = rw e at (primitive_facts k)

abbrev pub CompoundFacts : Kind → Option BinaryOperator → Type 0
CompoundFacts k None = Unit {0}
CompoundFacts k (Some o) = (terminal_of k ≡ terminals.Compound) × ((p : Place) (t u : Tree) → assigned k p t u ≡ trees.CompoundAssignment p o t u)

compound_facts : (k : Kind) → CompoundFacts k (compound_of k)
compound_facts kinds.PlusEqual = (refl, λ p t u. refl)
compound_facts kinds.MinusEqual = (refl, λ p t u. refl)
compound_facts kinds.StarEqual = (refl, λ p t u. refl)
compound_facts kinds.SlashEqual = (refl, λ p t u. refl)
compound_facts kinds.PercentEqual = (refl, λ p t u. refl)
compound_facts kinds.AmpersandEqual = (refl, λ p t u. refl)
compound_facts kinds.BarEqual = (refl, λ p t u. refl)
compound_facts kinds.CaretEqual = (refl, λ p t u. refl)
compound_facts kinds.LessLessEqual = (refl, λ p t u. refl)
compound_facts kinds.GreaterGreaterEqual = (refl, λ p t u. refl)
compound_facts kinds.GreaterGreaterGreaterEqual = (refl, λ p t u. refl)
compound_facts _ = tt

pub compound_means : (k : Kind) (o : BinaryOperator) → compound_of k ≡ Some o → CompoundFacts k (Some o)
compound_means k o e = rw e at (compound_facts k)

pub differ : (k h g : Terminal) → k ≡ h → k ≡ g → h ≡ g
differ k h g a b = sym a ∙ b

-- Operands.
pub postfix_of_primary : (f : Form) (i r : List Lexeme) (t : Tree) → PrimaryClaim f i t r → OperandClaim ends_suffixes goals.Unsigned (Want goals.Postfixes ∷ []) i t r
postfix_of_primary f i r t d = record {
  simple = λ ss vs ws e k. d.simple true ss vs ws (want [] (suffixes_end (ahead r) (tag (part (at i) f t ∷ vs)) e) (k f));
  led = λ c g ss ns ts vs ws ctx e k bare z. d.led c g ss ns (Want goals.Postfixes ∷ ts) vs ws ctx (want [] (suffixes_end (ahead r) (tag (part (at i) f t ∷ vs)) e) (k f)) (λ h. bare) z;
}

pub step_postfix : (i r : List Lexeme) (t : Tree) (o : StepOperator) (a : Lexeme) → OperandClaim ends_suffixes goals.Unsigned (Want goals.Postfixes ∷ []) i t (a ∷ r) → step_behind a.kind ≡ Some o
    → OperandClaim ends_suffixes goals.Unsigned (Want goals.Postfixes ∷ []) i (trees.Step (at i) o t) r
step_postfix i r t o a d e = record {
  simple = λ ss vs ws x k. d.simple ss vs ws (rw facts.0 refl) (stepped ss vs ws k);
  led = λ c g ss ns ts vs ws ctx x k bare z. d.led c g ss ns ts vs ws ctx (rw facts.0 refl) (stepped ts vs ws k)
      (λ v w isn. ctx.operand v (at i) t w (a ∷ r) isn (rw facts.0 refl) (want [] (suffixes_end (terminal_of a.kind) tags.Target (rw facts.0 refl)) (stepped ts vs ws k forms.Target))) z;
}
  where
    facts : BehindFacts a.kind (Some o)
    facts = behind_means a.kind o e

    stepped : (ss : List Symbol) (vs ws : List StackItem) → Part (Want goals.Postfixes ∷ ss) vs (at i) (trees.Step (at i) o t) r ws → Part (Want goals.Postfixes ∷ ss) vs (at i) t (a ∷ r) ws
    stepped ss vs ws k f = step goals.Postfixes terminals.Step ss (part (at i) f t ∷ vs) ws (a ∷ r) facts.0 (keep a facts.0 (build (rw facts.1 (k forms.Other))))

pub unsigned_of_postfix : (i r : List Lexeme) (t : Tree) → OperandClaim ends_suffixes goals.Unsigned (Want goals.Postfixes ∷ []) i t r → OperandClaim ends_operand goals.Unsigned [] i t r
unsigned_of_postfix i r t d = record {
  simple = λ ss vs ws e k. d.simple ss vs ws (operand_primary (ahead r) e) (λ f. want [] (postfixes_end (ahead r) (tag (part (at i) f t ∷ vs)) e) (k f));
  led = λ c g ss ns ts vs ws ctx e k bare z. d.led c g ss ns ts vs ws ctx (operand_primary (ahead r) e) (λ f. want [] (postfixes_end (ahead r) (tag (part (at i) f t ∷ vs)) e) (k f)) bare z;
}

pub complement_claim : (i r : List Lexeme) (t : Tree) (o : UnaryOperator) (a : Lexeme) → complement_of a.kind ≡ Some o → OperandClaim ends_operand goals.Unary [] i t r → OperandClaim ends_operand goals.Unsigned [] (a ∷ i) (trees.Unary a.place o t) r
complement_claim i r t o a e d =
    let facts : ComplementFacts a.kind (Some o) = complement_means a.kind o e in
    record {
      simple = λ ss vs ws x k. step goals.Unsigned terminals.Complement ss vs ws (a ∷ i) facts.0
          (keep a facts.0 (d.simple (Build makes.Unary ∷ ss) (mark a.kind a.place ∷ vs) ws x (λ f. build (rw facts.1 (k forms.Other)))));
      led = λ c g ss ns ts vs ws ctx x k bare z. absurd (let y : terminals.Complement ≡ terminals.Identifier = differ (terminal_of a.kind) terminals.Complement terminals.Identifier facts.0 z in cc);
    }

pub sign_claim : (i r : List Lexeme) (t : Tree) (o : UnaryOperator) (a : Lexeme) → sign_of a.kind ≡ Some o → OperandClaim ends_operand goals.Unary [] i t r → OperandClaim ends_operand goals.Unary [] (a ∷ i) (trees.Unary a.place o t) r
sign_claim i r t o a e d =
    let facts : SignFacts a.kind (Some o) = sign_means a.kind o e in
    record {
      simple = λ ss vs ws x k. step goals.Unary terminals.Sign ss vs ws (a ∷ i) facts.0
          (keep a facts.0 (d.simple (Build makes.Unary ∷ ss) (mark a.kind a.place ∷ vs) ws x (λ f. build (rw facts.1 (k forms.Other)))));
      led = λ c g ss ns ts vs ws ctx x k bare z. absurd (let y : terminals.Sign ≡ terminals.Identifier = differ (terminal_of a.kind) terminals.Sign terminals.Identifier facts.0 z in cc);
    }

pub before_claim : (i r : List Lexeme) (t : Tree) (o : StepOperator) (a : Lexeme) → step_before a.kind ≡ Some o → OperandClaim ends_operand goals.Unary [] i t r → OperandClaim ends_operand goals.Unary [] (a ∷ i) (trees.Step a.place o t) r
before_claim i r t o a e d =
    let facts : BeforeFacts a.kind (Some o) = before_means a.kind o e in
    record {
      simple = λ ss vs ws x k. step goals.Unary terminals.Step ss vs ws (a ∷ i) facts.0
          (keep a facts.0 (d.simple (Build makes.StepBefore ∷ ss) (mark a.kind a.place ∷ vs) ws x (λ f. build (rw facts.1 (k forms.Other)))));
      led = λ c g ss ns ts vs ws ctx x k bare z. absurd (let y : terminals.Step ≡ terminals.Identifier = differ (terminal_of a.kind) terminals.Step terminals.Identifier facts.0 z in cc);
    }

pub primitive_cast_claim : (i r : List Lexeme) (t : Tree) (o : Primitive) (a p b : Lexeme) → terminal_of a.kind ≡ terminals.LeftParenthesis → primitive_of p.kind ≡ Some o → terminal_of b.kind ≡ terminals.RightParenthesis
    → OperandClaim ends_operand goals.Unary [] i t r → OperandClaim ends_operand goals.Unsigned [] (a ∷ p ∷ b ∷ i) (trees.Cast a.place (trees.PrimitiveType p.place o) t) r
primitive_cast_claim i r t o a p b ka e kb d =
    let facts : PrimitiveFacts p.kind (Some o) = primitive_means p.kind o e in
    record {
      simple = λ ss vs ws x k.
          step goals.Unsigned terminals.LeftParenthesis ss vs ws (a ∷ p ∷ b ∷ i) ka
          (keep a ka
          (step goals.InParentheses terminals.Primitive ss (mark a.kind a.place ∷ vs) ws (p ∷ b ∷ i) facts.0
          (keep p facts.0
          (build
          (step goals.PrimitiveCast terminals.RightParenthesis ss (part p.place forms.Type (trees.PrimitiveType p.place (the_primitive p.kind)) ∷ mark a.kind a.place ∷ vs) ws (b ∷ i) kb
          (take b kb
          (d.simple (Build makes.Cast ∷ ss) (part p.place forms.Type (trees.PrimitiveType p.place (the_primitive p.kind)) ∷ mark a.kind a.place ∷ vs) ws x (λ f. build (rw facts.1 (k forms.Other))))))))));
      led = λ c g ss ns ts vs ws ctx x k bare z. absurd (let y : terminals.LeftParenthesis ≡ terminals.Identifier = differ (terminal_of a.kind) terminals.LeftParenthesis terminals.Identifier ka z in cc);
    }

pub reference_cast_claim : (i m r : List Lexeme) (t u : Tree) (a b : Lexeme) → terminal_of a.kind ≡ terminals.LeftParenthesis → ReferenceClaim i t (b ∷ m) → terminal_of b.kind ≡ terminals.RightParenthesis
    → OperandClaim ends_operand goals.Unsigned [] m u r → OperandClaim ends_operand goals.Unsigned [] (a ∷ i) (trees.Cast a.place t u) r
reference_cast_claim i m r t u a b ka type kb d = record {
  simple = λ ss vs ws x k.
      step goals.Unsigned terminals.LeftParenthesis ss vs ws (a ∷ i) ka
      (keep a ka
      (type.cast ss a.kind a.place vs ws
      (step goals.Dimensions terminals.RightParenthesis (Take terminals.RightParenthesis ∷ Want goals.Unsigned ∷ Build makes.Cast ∷ ss) (part (at i) forms.Type t ∷ mark a.kind a.place ∷ vs) ws (b ∷ m) kb
      (take b kb (d.simple (Build makes.Cast ∷ ss) (part (at i) forms.Type t ∷ mark a.kind a.place ∷ vs) ws x (λ f. build (k forms.Other)))))));
  led = λ c g ss ns ts vs ws ctx x k bare z. absurd (let y : terminals.LeftParenthesis ≡ terminals.Identifier = differ (terminal_of a.kind) terminals.LeftParenthesis terminals.Identifier ka z in cc);
}

pub unary_enter : (ss : List Symbol) (vs ws : List StackItem) (i : List Lexeme) → Runs (Want goals.Unsigned ∷ ss) vs i ws → Runs (Want goals.Unary ∷ ss) vs i ws
unary_enter ss vs ws i d = go (ahead i) refl (unsigned_starts ss vs ws i d)
  where
    go : (k : Terminal) → ahead i ≡ k → starts_unsigned k ≡ true → Runs (Want goals.Unary ∷ ss) vs i ws
    go terminals.Sign e z = cc
    go terminals.Step e z = cc
    go k e z = step goals.Unary k ss vs ws i e d

pub unary_of_unsigned : (i r : List Lexeme) (t : Tree) → OperandClaim ends_operand goals.Unsigned [] i t r → OperandClaim ends_operand goals.Unary [] i t r
unary_of_unsigned i r t d = record {
  simple = λ ss vs ws e k. unary_enter ss vs ws i (d.simple ss vs ws e k);
  led = d.led;
}
