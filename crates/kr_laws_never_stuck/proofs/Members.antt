-- Fields, methods and constructors of a class none of whose members is broken.
use Rattle.std.proofs.Common.{◌≡◌, refl, sym, ap, ◌∙◌, subst, inl, inr, ◌⊎◌, ℕ, Bool, true, false, ◌||◌, List, [], ◌∷◌, ◌++◌}
use Rattle.std.specs.Prelude.{map, flat_map, reverse}
use Rattle.std.proofs.lemmas.List.{reverse-append, append_assoc, append-nil}
use Rattle.kr_base.specs.declared.place.Place.{Place}
use Rattle.kr_ast.specs.declared.node.Primitive.TheVariants as primitives
use Rattle.kr_ast.specs.Tree as trees
use Rattle.kr_ast.specs.Tree.{Tree}
use Rattle.kr_classes_table.specs.Types.{JavaType, is_void}
use Rattle.kr_classes_table.specs.Table.{Heading, Parameter, Method, Constructor, items, type_named, parameters_in, methods_in, constructors_in}
use Rattle.kr_classes_table.specs.Rules.{Fault}
use Rattle.kr_types_meaning.specs.Scopes.{Scope, Local, written, after, bind_local, static_if, super_parameters}
use Rattle.kr_types_meaning.specs.Rules as rules
use Rattle.kr_types_meaning.specs.Rules.{Typed, Judgement, Fits, ask, fine, implied_rule, is_none_of}
use Rattle.kr_types_meaning.specs.Typing.{judge, on_maybe, judged}
use Rattle.kr_laws_types.specs.Derivation.{IsVariableType, IsResultType, AreParameters, MayCallSuper, IsMember}
use Rattle.kr_laws_types.specs.Types.{is_variable_type, is_result_type}
use Rattle.kr_laws_types.proofs.Expressions.{written_variable}
use Rattle.kr_mean.specs.Program.{parameter_local}
use Rattle.kr_mean.specs.Purity.{IsOneOf}
use Rattle.kr_laws_runs.proofs.Respects.{AllOf}
use Rattle.kr_laws_safety.specs.Typed.{Olds, AreAllVariables, types_in, AreUnbroken}
use Rattle.kr_laws_safety.proofs.Glue.{kept}
use Rattle.kr_laws_safety.proofs.Operands.{written_is}
use Rattle.kr_laws_never_stuck.proofs.Declared.{one_split}
use Rattle.kr_laws_never_stuck.proofs.Shaped.{AreStatements}
use Rattle.kr_laws_types.proofs.Typed.{below_none}
use Rattle.kr_base.proofs.ListLemmas.{append_is_nil}

-- one of what is made of the members of a list
pub member_of : {A : Type 0} (P : Tree → Type 0) (f : Tree → List A) (x : A) (ms : List Tree) → AllOf P ms → IsOneOf x (flat_map f ms) → (m : Tree) × P m × IsOneOf x (f m)
member_of P f x [] h i = absurd i
member_of P f x (m ∷ ms) h i = go (one_split x (f m) (flat_map f ms) i) (member_of P f x ms h.1)
  where
    go : IsOneOf x (f m) ⊎ IsOneOf x (flat_map f ms) → (IsOneOf x (flat_map f ms) → (m : Tree) × P m × IsOneOf x (f m)) → (m : Tree) × P m × IsOneOf x (f m)
    go (inl j) r = (m, h.0, j)
    go (inr j) r = r j

-- ---- types that are written

pub type_variable : (s : Scope) (t : Tree) → IsVariableType t → (judged s t).faults ≡ [] → is_variable_type (written s t) ≡ true
type_variable s t h f = let v = written_variable s t h f in subst (λ (u : JavaType). is_variable_type u ≡ true) (written_is s t v.0 h v.1) v.2

result_written : (u : JavaType) → is_variable_type u ≡ true → is_result_type u ≡ true
result_written u e = go (is_void u)
  where
    go : (b : Bool) → (b || is_variable_type u) ≡ true
    go true = refl
    go false = e

type_result : (s : Scope) (t : Tree) → IsResultType t → (judged s t).faults ≡ [] → is_result_type (written s t) ≡ true
type_result s (trees.PrimitiveType p primitives.Int) h f = refl
type_result s (trees.PrimitiveType p primitives.Long) h f = refl
type_result s (trees.PrimitiveType p primitives.Boolean) h f = refl
type_result s (trees.PrimitiveType p primitives.Void) h f = refl
type_result s (trees.NamedType p n) h f = result_written (written s (trees.NamedType p n)) (type_variable s (trees.NamedType p n) h f)
type_result s (trees.QualifiedType p o n) h f = result_written (written s (trees.QualifiedType p o n)) (type_variable s (trees.QualifiedType p o n) h f)
type_result s (trees.GenericType p k a) h f = result_written (written s (trees.GenericType p k a)) (type_variable s (trees.GenericType p k a) h f)
type_result s (trees.ArrayType p e) h f = result_written (written s (trees.ArrayType p e)) (type_variable s (trees.ArrayType p e) h f)
type_result s _ h f = absurd h

-- ---- parameters

abbrev with_locals : List Local → Scope → Scope
with_locals ls s = record s { locals = ls }

abbrev locals_of : List Parameter → List Local
locals_of ps = reverse (map parameter_local ps)

-- parameters are the locals after them
pub after_parameters : (s : Scope) (ps : Tree) → AreParameters ps → after s ps ≡ with_locals (locals_of (parameters_in s.table.headings ps) ++ s.locals) s
after_parameters s trees.Nil h = refl
after_parameters s (trees.Cons (trees.Parameter p t n) b) h =
    let w = written s t in
    let rest = map parameter_local (parameters_in s.table.headings b) in
    let l : Local = record { name = n; type = w } in
    after_parameters (bind_local n w s) b h.1
    ∙ ap (λ (ls : List Local). with_locals ls s) (sym (append_assoc (reverse rest) (l ∷ []) s.locals) ∙ ap (λ (ls : List Local). ls ++ s.locals) (sym (reverse-append (l ∷ []) rest)))
after_parameters s (trees.Cons _ b) h = absurd h
after_parameters s _ h = absurd h

pub parameters_variable : (s : Scope) (ps : Tree) → AreParameters ps → (judged s ps).faults ≡ [] → AreAllVariables (types_in (parameters_in s.table.headings ps))
unfolding judged
parameters_variable s trees.Nil h f = tt
parameters_variable s (trees.Cons (trees.Parameter p t n) b) h f =
    let parts = append_is_nil (judged s (trees.Parameter p t n)).faults (judged (bind_local n (written s t) s) b).faults f in
    (type_variable s t h.0 (below_none p (rules.parameter_rule s n) (judged s t).faults parts.0), parameters_variable (bind_local n (written s t) s) b h.1 parts.1)
parameters_variable s (trees.Cons _ b) h f = absurd h
parameters_variable s _ h f = absurd h

-- ---- bodies

pub statements_unbroken : (arrays : List JavaType) (olds : Olds) (s : Scope) (b : Tree) → AreStatements arrays olds s (items b) → (judged s b).faults ≡ [] → AreUnbroken arrays olds s (items b)
unfolding judged
statements_unbroken arrays olds s (trees.Cons a b) h f = let parts = append_is_nil (judged s a).faults (judged (after s a) b).faults f in (h.0, parts.0, statements_unbroken arrays olds (after s a) b h.1 parts.1)
statements_unbroken arrays olds s _ h f = tt

-- from a method's member
pub record IsGoodMethod (s : Scope) (hs : List Heading) (c : ℕ) (m : Method) : Type 0 where
  pub class : m.class ≡ c
  pub parameters : AreAllVariables (types_in m.parameters)
  pub result : is_result_type m.result ≡ true
  pub tree : Tree
  pub body : m.body ≡ items tree
  pub unbroken : (judged (with_locals (locals_of m.parameters) (record s { is_static = m.is_static; result = m.result })) tree).faults ≡ []

pub method_good : (s : Scope) (c : ℕ) (m : Method) (t : Tree) → s.locals ≡ [] → (judged s t).faults ≡ [] → IsMember false t → IsOneOf m (methods_in s.table.headings c t) → IsGoodMethod s s.table.headings c m
unfolding judged
method_good s c m (trees.Method p st n (trees.Signature q r ps cs) b) none f h (inl i) = subst (IsGoodMethod s s.table.headings c) i made
  where
    S : Scope
    S = static_if st s

    parts : ((judged S (trees.Signature q r ps cs)).faults ≡ []) × ((judged (after S (trees.Signature q r ps cs)) b).faults ≡ [])
    parts = append_is_nil (judged S (trees.Signature q r ps cs)).faults (judged (after S (trees.Signature q r ps cs)) b).faults f

    made : IsGoodMethod s s.table.headings c (record { class = c; name = n; place = p; is_static = st; parameters = parameters_in s.table.headings ps; result = type_named s.table.headings r; contracts = items cs; body = items b })
    made =
        let signed = append_is_nil ((judged S r).faults ++ (judged S ps).faults) (judged (after S (trees.Signature q r ps cs)) cs).faults parts.0 in
        let both = append_is_nil (judged S r).faults (judged S ps).faults signed.0 in
        let inside = ap (λ (z : Scope). record z { result = written S r }) (after_parameters S ps h.0.1 ∙ ap (λ (ls : List Local). with_locals ls S) (ap (λ (ls : List Local). locals_of (parameters_in s.table.headings ps) ++ ls) none ∙ append-nil (locals_of (parameters_in s.table.headings ps)))) in
        record {
          class = refl;
          parameters = parameters_variable S ps h.0.1 both.1;
          result = type_result S r h.0.0 both.0;
          tree = b;
          body = refl;
          unbroken = subst (λ (z : Scope). (judged z b).faults ≡ []) inside parts.1;
        }
method_good s c m (trees.Method p st n (trees.Signature q r ps cs) b) none f h (inr i) = absurd i
method_good s c m (trees.Method p st n _ b) none f h i = absurd h.0
method_good s c m _ none f h i = absurd i

-- ---- constructors

pub record IsGoodConstructor (s : Scope) (k : Constructor) : Type 0 where
  pub parameters : AreAllVariables (types_in k.parameters)
  pub tree : Tree
  pub body : k.body ≡ items tree
  pub unbroken : (judged (with_locals (locals_of k.parameters) s) tree).faults ≡ []
  pub shape : MayCallSuper k.call
  pub called : (judged (with_locals (locals_of k.parameters) s) k.call).faults ≡ []
  pub implied : k.call ≡ trees.Nil → super_parameters s ≡ []

none_are : (ps : List Parameter) → is_none_of ps ≡ true → ps ≡ []
none_are [] e = refl
none_are (p ∷ ps) e = absurd (cc (e))

pub none_implied : (s : Scope) (p : Place) (below : List Fault) → (judge p (implied_rule s) below).faults ≡ [] → super_parameters s ≡ []
none_implied s p below f = let rule = kept p (implied_rule s) below f in none_are (super_parameters s) (go (is_none_of (super_parameters s)) rule.0 rule.1)
  where
    go : (b : Bool) (x : Typed) → ask b 34 fine ≡ Fits x → b ≡ true
    go true x e = refl
    go false x e = absurd (cc (e))

pub constructor_good : (s : Scope) (k : Constructor) (t : Tree) → s.locals ≡ [] → (judged s t).faults ≡ [] → IsMember false t → IsOneOf k (constructors_in s.table.headings t) → IsGoodConstructor s k
unfolding judged
constructor_good s k (trees.Constructor p ps call b) none f h (inl i) = subst (IsGoodConstructor s) i made
  where
    inside : after s ps ≡ with_locals (locals_of (parameters_in s.table.headings ps)) s
    inside = after_parameters s ps h.0 ∙ ap (λ (ls : List Local). with_locals ls s) (ap (λ (ls : List Local). locals_of (parameters_in s.table.headings ps) ++ ls) none ∙ append-nil (locals_of (parameters_in s.table.headings ps)))

    v : Judgement
    v = on_maybe (λ t. implied_rule s) (judged (after s ps) call).typed

    made : IsGoodConstructor s (record { place = p; parameters = parameters_in s.table.headings ps; call = call; body = items b })
    made =
        let all = append_is_nil ((judged s ps).faults ++ (judged (after s ps) call).faults) (judged (after s ps) b).faults (below_none p v ((judged s ps).faults ++ (judged (after s ps) call).faults ++ (judged (after s ps) b).faults) f) in
        let front = append_is_nil (judged s ps).faults (judged (after s ps) call).faults all.0 in
        record {
          parameters = parameters_variable s ps h.0 front.0;
          tree = b;
          body = refl;
          unbroken = subst (λ (z : Scope). (judged z b).faults ≡ []) inside all.1;
          shape = h.1;
          called = subst (λ (z : Scope). (judged z call).faults ≡ []) inside front.1;
          implied = λ e. none_implied s p ((judged s ps).faults ++ (judged (after s ps) call).faults ++ (judged (after s ps) b).faults) (ap (λ (z : Tree). (judge p (on_maybe (λ t. implied_rule s) (judged (after s ps) z).typed) ((judged s ps).faults ++ (judged (after s ps) call).faults ++ (judged (after s ps) b).faults)).faults) (sym e) ∙ f);
        }
constructor_good s k (trees.Constructor p ps call b) none f h (inr i) = absurd i
constructor_good s k _ none f h i = absurd i
