-- The classes of well typed files are the same where one name more means a class.
use Rattle.std.proofs.Common.{◌≡◌, refl, sym, ap, ◌∙◌, subst, ℕ, Bool, true, false, ◌+◌, List, [], ◌∷◌, ◌++◌, length, Option, Some, None}
use Rattle.std.specs.Prelude.{flat_map, is_none}
use Rattle.std.specs.List.{AllByRecursion}
use Rattle.kr_base.specs.declared.place.Place.{Place}
use Rattle.kr_base.proofs.ListLemmas.{append_is_nil}
use Rattle.kr_ast.specs.Tree as trees
use Rattle.kr_ast.specs.Tree.{Tree}
use Rattle.kr_classes_table.specs.Types.{JavaType}
use Rattle.kr_classes_table.specs.Rules.{break_if, extended_at, each_class, C2}
use Rattle.kr_classes_table.specs.Table.{Heading, Table, Class, Field, Parameter, Method, Constructor, items, heading_of, with_nested, headings_from, class_named, type_named, declared_in, fields_in, parameter_in, parameters_in, method_with, methods_in, constructors_in, class_of, classes_from}
use Rattle.kr_types_meaning.specs.Scopes.{Scope, in_class, static_if, declaring, field_kind, bind_local, after}
use Rattle.kr_types_meaning.specs.Rules.{parameter_rule, implied_rule}
use Rattle.kr_types_meaning.specs.Typing.{on_maybe, class_rule, has_constructor, judged}
use Rattle.kr_laws_types.specs.Derivation.{AreParameters, IsSignature, IsMember, IsClass, AreClasses}
use Rattle.kr_laws_types.proofs.Typed.{below_none}
use Rattle.kr_emit_laws.specs.Larger.{AreNames}
use Rattle.kr_emit_laws.proofs.TypingNames.{IsFree, class_kept}
use Rattle.kr_emit_laws.proofs.Rules.{at}
use Rattle.kr_emit_laws.proofs.TypingLines.{each_same}
use Rattle.kr_emit_laws.proofs.TypingExpressions.{type_kept, result_kept}
use Rattle.kr_emit_laws.proofs.Members.{member_scope}

pub all_both : {A : Type 0} (P : A → Type 0) (xs ys : List A) → AllByRecursion P xs → AllByRecursion P ys → AllByRecursion P (xs ++ ys)
all_both P [] ys h k = k
all_both P (x ∷ xs) ys h k = (h.0, all_both P xs ys h.1 k)

-- lists made of each item alike
map_same : {A B : Type 0} (P : A → Type 0) (f h : A → List B) (xs : List A) → AllByRecursion P xs → ((x : A) → P x → f x ≡ h x) → flat_map f xs ≡ flat_map h xs
map_same P f h [] all e = refl
map_same P f h (x ∷ xs) all e = ap (λ z. z ++ flat_map f xs) (e x all.0) ∙ ap (λ z. h x ++ z) (map_same P f h xs all.1 e)

module _ (t : Table) where
  -- a member that isn't broken in some scope
  pub record IsGood (m : Tree) : Type 0 where
    pub scope : Scope
    pub unbroken : (judged (at t scope) m).faults ≡ []
    pub shape : IsMember false m

  abbrev pub AreGood : Heading → Type 0
  AreGood h = AllByRecursion IsGood h.members

  members_good : (s : Scope) (ms : Tree) → IsMember true ms → (judged (at t s) ms).faults ≡ [] → AllByRecursion IsGood (items ms)
  unfolding judged
  members_good s trees.Nil h f = tt
  members_good s (trees.Cons a b) h f =
      let parts = append_is_nil (judged (at t s) a).faults (judged (after (at t s) a) b).faults f in
      (record { scope = s; unbroken = parts.0; shape = h.0 }, members_good s b h.1 (subst (λ (z : Scope). (judged z b).faults ≡ []) (member_scope t s a h.0) parts.1))
  members_good s _ h f = absurd h

  -- the members of a class that isn't broken
  class_members : (s : Scope) (p : Place) (n : List ℕ) (e ms : Tree) → IsMember true ms → (judged (at t s) (trees.Class p n e ms)).faults ≡ [] → AllByRecursion IsGood (items ms)
  unfolding judged
  class_members s p n e ms h f =
      let here = in_class n (at t s) in
      members_good here ms h (below_none p (class_rule (has_constructor here) here) (judged here ms).faults f)

  class_good : (o : Option ℕ) (m : Tree) → IsGood m → AllByRecursion AreGood (heading_of o m)
  class_good o (trees.Class p n e ms) h = (class_members h.scope p n e ms h.shape.1 h.unbroken, tt)
  class_good o _ h = tt

  nested_good : (k : ℕ) (ms : List Tree) → AllByRecursion IsGood ms → AllByRecursion AreGood (flat_map (heading_of (Some k)) ms)
  nested_good k [] h = tt
  nested_good k (m ∷ ms) h = all_both AreGood (heading_of (Some k) m) (flat_map (heading_of (Some k)) ms) (class_good (Some k) m h.0) (nested_good k ms h.1)

  -- a class of a file
  pub record IsGoodClass (m : Tree) : Type 0 where
    pub scope : Scope
    pub unbroken : (judged (at t scope) m).faults ≡ []
    pub shape : IsClass m

  own_good : (k : ℕ) (m : Tree) → IsGoodClass m → AllByRecursion AreGood (with_nested k (heading_of None m))
  own_good k (trees.Class p n e ms) h = let all = class_members h.scope p n e ms h.shape.1 h.unbroken in (all, nested_good k (items ms) all)
  own_good k _ h = absurd h.shape

  headings_good : (k : ℕ) (ms : List Tree) → AllByRecursion IsGoodClass ms → AllByRecursion AreGood (headings_from k ms)
  headings_good k [] h = tt
  headings_good k (m ∷ ms) h =
      let own = with_nested k (heading_of None m) in
      all_both AreGood own (headings_from (k + length own) ms) (own_good k m h.0) (headings_good (k + length own) ms h.1)

  file_good : (s : Scope) (file : Tree) → AreClasses file → (judged (at t s) file).faults ≡ [] → AllByRecursion IsGoodClass (items file)
  unfolding judged
  file_good s trees.Nil h f = tt
  file_good s (trees.Cons (trees.Class p n e ms) b) h f =
      let parts = append_is_nil (judged (at t s) (trees.Class p n e ms)).faults (judged (at t s) b).faults f in
      (record { scope = s; unbroken = parts.0; shape = h.0 }, file_good s b h.1 parts.1)
  file_good s (trees.Cons _ b) h f = absurd h.0
  file_good s _ h f = absurd h

  files_good : (s : Scope) (files : List Tree) → AllByRecursion AreClasses files → flat_map (λ file. (judged (at t s) file).faults) files ≡ [] → AllByRecursion IsGoodClass (flat_map items files)
  files_good s [] h f = tt
  files_good s (file ∷ files) h f =
      let parts = append_is_nil (judged (at t s) file).faults (flat_map (λ file. (judged (at t s) file).faults) files) f in
      all_both IsGoodClass (items file) (flat_map items files) (file_good s file h.0 parts.0) (files_good s files h.1 parts.1)

  pub all_good : (s : Scope) (files : List Tree) → AllByRecursion AreClasses files → flat_map (λ file. (judged (at t s) file).faults) files ≡ [] → AllByRecursion AreGood (headings_from 0 (flat_map items files))
  all_good s files h f = headings_good 0 (flat_map items files) (files_good s files h f)

  -- ---- what members declare

  module _ (more : List Heading) (w : List ℕ) (free : IsFree w) (names : AreNames t.headings more w) where
    declared_kept : (c : ℕ) (st fi : Bool) (k d : Tree) → type_named more k ≡ type_named t.headings k → declared_in more c st fi k d ≡ declared_in t.headings c st fi k d
    declared_kept c st fi k (trees.Declarator p n e) q = ap (λ (z : JavaType). record { class = c; name = n; place = p; is_static = st; is_final = fi; type = z; initial = e } ∷ []) q
    declared_kept c st fi k d q = refl

    field_kept : (c : ℕ) (m : Tree) → IsGood m → fields_in more c m ≡ fields_in t.headings c m
    unfolding judged
    field_kept c (trees.Field p st fi k ds) h =
        let s = h.scope in
        let q = type_kept t more w free names s k h.shape.0 (append_is_nil (judged (at t s) k).faults (judged (static_if st (declaring (field_kind st fi) k (at t s))) ds).faults h.unbroken).0 in
        each_same (declared_in more c st fi k) (declared_in t.headings c st fi k) (items ds) (λ d. declared_kept c st fi k d q)
    field_kept c _ h = refl

    parameters_kept : (s : Scope) (ps : Tree) → AreParameters ps → (judged (at t s) ps).faults ≡ [] → parameters_in more ps ≡ parameters_in t.headings ps
    unfolding judged
    parameters_kept s trees.Nil h f = refl
    parameters_kept s (trees.Cons (trees.Parameter p k n) b) h f =
        let to = bind_local n (type_named t.headings k) s in
        let parts = append_is_nil (judged (at t s) (trees.Parameter p k n)).faults (judged (at t to) b).faults f in
        ap (λ (z : JavaType). record { name = n; place = p; type = z } ∷ flat_map (parameter_in more) (items b)) (type_kept t more w free names s k h.0 (below_none p (parameter_rule (at t s) n) (judged (at t s) k).faults parts.0))
        ∙ ap (λ (z : List Parameter). record { name = n; place = p; type = type_named t.headings k } ∷ z) (parameters_kept to b h.1 parts.1)
    parameters_kept s (trees.Cons _ b) h f = absurd h
    parameters_kept s _ h f = absurd h

    signature_kept : (s : Scope) (c : ℕ) (p : Place) (st : Bool) (n : List ℕ) (b e : Tree) → IsSignature e → (judged (at t s) e).faults ≡ [] → method_with more c p st n b e ≡ method_with t.headings c p st n b e
    unfolding judged
    signature_kept s c p st n b (trees.Signature q r ps cs) h f =
        let parts = append_is_nil ((judged (at t s) r).faults ++ (judged (at t s) ps).faults) (judged (after (at t s) (trees.Signature q r ps cs)) cs).faults f in
        let front = append_is_nil (judged (at t s) r).faults (judged (at t s) ps).faults parts.0 in
        ap (λ (z : List Parameter). record { class = c; name = n; place = p; is_static = st; parameters = z; result = type_named more r; contracts = items cs; body = items b } ∷ []) (parameters_kept s ps h.1 front.1)
        ∙ ap (λ (z : JavaType). record { class = c; name = n; place = p; is_static = st; parameters = parameters_in t.headings ps; result = z; contracts = items cs; body = items b } ∷ []) (result_kept t more w free names s r h.0 front.0)
    signature_kept s c p st n b _ h f = absurd h

    method_kept : (c : ℕ) (m : Tree) → IsGood m → methods_in more c m ≡ methods_in t.headings c m
    unfolding judged
    method_kept c (trees.Method p st n e b) h =
        let s = static_if st h.scope in
        signature_kept s c p st n b e h.shape.0 (append_is_nil (judged (at t s) e).faults (judged (after (at t s) e) b).faults h.unbroken).0
    method_kept c _ h = refl

    constructor_kept : (m : Tree) → IsGood m → constructors_in more m ≡ constructors_in t.headings m
    unfolding judged
    constructor_kept (trees.Constructor p ps call b) h =
        let s = h.scope in
        let to = after (at t s) ps in
        let v = on_maybe (λ k. implied_rule (at t s)) (judged to call).typed in
        let below = below_none p v ((judged (at t s) ps).faults ++ (judged to call).faults ++ (judged to b).faults) h.unbroken in
        let front = append_is_nil ((judged (at t s) ps).faults ++ (judged to call).faults) (judged to b).faults below in
        ap (λ (z : List Parameter). record { place = p; parameters = z; call = call; body = items b } ∷ []) (parameters_kept s ps h.shape.0 (append_is_nil (judged (at t s) ps).faults (judged to call).faults front.0).0)
    constructor_kept _ h = refl

    -- `extends` names a class
    super_kept : (e : Tree) → flat_map (break_if (is_none (class_named t.headings e)) 2) (extended_at e) ≡ [] → class_named more e ≡ class_named t.headings e
    super_kept (trees.NamedType p n) f = go (class_named t.headings (trees.NamedType p n)) refl (append_is_nil (break_if (is_none (class_named t.headings (trees.NamedType p n))) 2 p) [] f).0
      where
        go : (x : Option ℕ) → class_named t.headings (trees.NamedType p n) ≡ x → break_if (is_none x) 2 p ≡ [] → class_named more (trees.NamedType p n) ≡ class_named t.headings (trees.NamedType p n)
        go (Some c) q e = class_kept t.headings more w free names (trees.NamedType p n) c q ∙ sym q
        go None q e = absurd (cc (e))
    super_kept (trees.QualifiedType p o n) f = go (class_named t.headings (trees.QualifiedType p o n)) refl (append_is_nil (break_if (is_none (class_named t.headings (trees.QualifiedType p o n))) 2 p) [] f).0
      where
        go : (x : Option ℕ) → class_named t.headings (trees.QualifiedType p o n) ≡ x → break_if (is_none x) 2 p ≡ [] → class_named more (trees.QualifiedType p o n) ≡ class_named t.headings (trees.QualifiedType p o n)
        go (Some c) q e = class_kept t.headings more w free names (trees.QualifiedType p o n) c q ∙ sym q
        go None q e = absurd (cc (e))
    super_kept e f = refl

    class_same : (c : ℕ) (h : Heading) → AreGood h → C2 t c (class_of t.headings c h) ≡ [] → class_of more c h ≡ class_of t.headings c h
    class_same c h good f =
        let made : Option ℕ → List Field → List Method → List Constructor → Class = λ s fs ms ks. record { name = h.name; place = h.place; outer = h.outer; extended = h.extended; super = s; fields = fs; methods = ms; constructors = ks } in
        ap (λ z. made z (flat_map (fields_in more c) h.members) (flat_map (methods_in more c) h.members) (flat_map (constructors_in more) h.members)) (super_kept h.extended f)
        ∙ (ap (λ z. made (class_named t.headings h.extended) z (flat_map (methods_in more c) h.members) (flat_map (constructors_in more) h.members)) (map_same IsGood (fields_in more c) (fields_in t.headings c) h.members good (field_kept c))
        ∙ (ap (λ z. made (class_named t.headings h.extended) (flat_map (fields_in t.headings c) h.members) z (flat_map (constructors_in more) h.members)) (map_same IsGood (methods_in more c) (methods_in t.headings c) h.members good (method_kept c))
        ∙ ap (made (class_named t.headings h.extended) (flat_map (fields_in t.headings c) h.members) (flat_map (methods_in t.headings c) h.members)) (map_same IsGood (constructors_in more) (constructors_in t.headings) h.members good constructor_kept)))

    pub classes_same : (k : ℕ) (hs : List Heading) → AllByRecursion AreGood hs → each_class (C2 t) k (classes_from t.headings k hs) ≡ [] → classes_from more k hs ≡ classes_from t.headings k hs
    classes_same k [] good f = refl
    classes_same k (h ∷ hs) good f =
        let parts = append_is_nil (C2 t k (class_of t.headings k h)) (each_class (C2 t) (k + 1) (classes_from t.headings (k + 1) hs)) f in
        ap (λ (z : Class). z ∷ classes_from more (k + 1) hs) (class_same k h good.0 parts.0) ∙ ap (λ (z : List Class). class_of t.headings k h ∷ z) (classes_same (k + 1) hs good.1 parts.1)
