-- The parameters of a method have names of their own.
use Rattle.std.proofs.Common.{◌≡◌, ℕ, Bool, true, false, List, [], ◌∷◌, ◌++◌, length, Option, Some, None, inl, inr, refl, sym, ap, ◌∙◌, subst}
use Rattle.std.specs.Prelude.{flat_map, find, bytes_eq, option_to_list, if◌then◌else◌}
use Rattle.kr_base.specs.declared.place.Place.{Place}
use Rattle.kr_ast.specs.Tree as trees
use Rattle.kr_ast.specs.Tree.{Tree}
use Rattle.kr_classes_table.specs.Table.{Table, Class, Field, Parameter, Method, items, headings_of, table_of, class_at, own_methods, line_of, method_named, methods_in, parameters_in}
use Rattle.kr_classes_table.specs.Constants.{field_meant}
use Rattle.kr_classes_table.specs.Rules.{class_fault}
use Rattle.kr_types_meaning.specs.Scopes.{Scope, Local, written, after, bind_local, static_if, meant_by, meant}
use Rattle.kr_types_meaning.specs.Rules.{Typed, Fits, ask, fine, is_new, parameter_rule}
use Rattle.kr_types_meaning.specs.Typing.{judged, IsWellTyped}
use Rattle.kr_laws_types.specs.Derivation.{AreParameters, IsMember}
use Rattle.kr_mean.specs.Program.{program_with, class_scope}
use Rattle.kr_mean.specs.Purity.{IsOneOf}
use Rattle.kr_laws_safety.proofs.Glue.{kept}
use Rattle.kr_laws_never_stuck.proofs.Declared.{one_part, found_one, no_more, equal_names}
use Rattle.kr_laws_never_stuck.specs.WellTyped.{AreFiles}
use Rattle.kr_laws_never_stuck.proofs.Files.{class_good_at}
use Rattle.kr_laws_never_stuck.proofs.Members.{member_of}
use Rattle.kr_base.proofs.ListLemmas.{append_is_nil}

-- no local has the name
HasNone : List Local → List ℕ → Type 0
HasNone [] n = Unit {0}
HasNone (l ∷ ls) n = (bytes_eq l.name n ≡ false) × HasNone ls n

none_meant : (s : Scope) (ls : List Local) (f : Option Field) (n : List ℕ) → is_new s n (meant_by ls f n) ≡ true → HasNone ls n
unfolding HasNone
none_meant s [] f n e = tt
none_meant s (l ∷ ls) f n e = go (bytes_eq l.name n) refl e (none_meant s ls f n)
  where
    go : (b : Bool) → bytes_eq l.name n ≡ b → is_new s n (if b then Rattle.kr_types_meaning.specs.Scopes.LocalName (length ls) l.type else meant_by ls f n) ≡ true → (is_new s n (meant_by ls f n) ≡ true → HasNone ls n) → (bytes_eq l.name n ≡ false) × HasNone ls n
    go true q e r = absurd (cc (e))
    go false q e r = (q, r e)

new_name : (s : Scope) (p : Place) (n : List ℕ) (below : _) → (Rattle.kr_types_meaning.specs.Typing.judge p (parameter_rule s n) below).faults ≡ [] → is_new s n (meant s n) ≡ true
new_name s p n below f = let rule = kept p (parameter_rule s n) below f in go (is_new s n (meant s n)) rule.0 rule.1
  where
    go : (b : Bool) (x : Typed) → ask b 4 fine ≡ Fits x → b ≡ true
    go true x e = refl
    go false x e = absurd (cc (e))

-- a parameter found by name: no local before it has its name, and it is the first of its name
record IsFound (ls : List Local) (ps : List Parameter) (q : Parameter) : Type 0 where
  none : HasNone ls q.name
  found : find (λ p. bytes_eq p.name q.name) ps ≡ Some q

parameters_found : (s : Scope) (ps : Tree) (q : Parameter) → AreParameters ps → (judged s ps).faults ≡ [] → IsOneOf q (parameters_in s.table.headings ps) → IsFound s.locals (parameters_in s.table.headings ps) q
unfolding judged HasNone
parameters_found s trees.Nil q h f i = absurd i
parameters_found s (trees.Cons (trees.Parameter p t n) b) q h f i = go i (parameters_found (bind_local n (written s t) s) b q h.1 parts.1)
  where
    parts : ((judged s (trees.Parameter p t n)).faults ≡ []) × ((judged (bind_local n (written s t) s) b).faults ≡ [])
    parts = append_is_nil (judged s (trees.Parameter p t n)).faults (judged (bind_local n (written s t) s) b).faults f

    ps : List Parameter
    ps = parameters_in s.table.headings b

    x : Parameter
    x = record { name = n; place = p; type = written s t }

    none : HasNone s.locals n
    none = none_meant s s.locals (field_meant s.table s.class n) n (new_name s p n (judged s t).faults parts.0)

    go : IsOneOf q (x ∷ ps) → (IsOneOf q ps → IsFound (record { name = n; type = written s t } ∷ s.locals) ps q) → IsFound s.locals (x ∷ ps) q
    go (inl i) r = record {
      none = subst (HasNone s.locals) (ap (λ (z : Parameter). z.name) i) none;
      found = ap (λ (b : Bool). if b then Some x else find (λ p. bytes_eq p.name q.name) ps) (equal_names n q.name (ap (λ (z : Parameter). z.name) i)) ∙ ap (λ (z : Parameter). Some z) i;
    }
    go (inr i) r = let y = r i in record { none = y.none.1; found = ap (λ (b : Bool). if b then Some x else find (λ p. bytes_eq p.name q.name) ps) y.none.0 ∙ y.found }
parameters_found s (trees.Cons _ b) q h f i = absurd h
parameters_found s _ q h f i = absurd h

method_found : (s : Scope) (c : ℕ) (m : Method) (q : Parameter) (t : Tree) → (judged s t).faults ≡ [] → IsMember false t → IsOneOf m (methods_in s.table.headings c t) → IsOneOf q m.parameters → find (λ p. bytes_eq p.name q.name) m.parameters ≡ Some q
unfolding judged
method_found s c m q (trees.Method p st n (trees.Signature a r ps cs) b) f h (inl i) j =
    let S = static_if st s in
    let parts = append_is_nil (judged S (trees.Signature a r ps cs)).faults (judged (after S (trees.Signature a r ps cs)) b).faults f in
    let signed = append_is_nil ((judged S r).faults ++ (judged S ps).faults) (judged (after S (trees.Signature a r ps cs)) cs).faults parts.0 in
    let both = append_is_nil (judged S r).faults (judged S ps).faults signed.0 in
    subst (λ (xs : List Parameter). find (λ p. bytes_eq p.name q.name) xs ≡ Some q) (ap (λ (x : Method). x.parameters) i)
    (parameters_found S ps q h.0.1 both.1 (subst (λ (xs : List Parameter). IsOneOf q xs) (sym (ap (λ (x : Method). x.parameters) i)) j)).found
method_found s c m q (trees.Method p st n (trees.Signature a r ps cs) b) f h (inr i) j = absurd i
method_found s c m q (trees.Method p st n _ b) f h i j = absurd h.0
method_found s c m q _ f h i j = absurd i

module _ (files : List Tree) (shapes : AreFiles files) (faults : class_fault (table_of files) ≡ None) (typed : IsWellTyped files) where
  abbrev t : Table
  t = table_of files

  own_found : (c : ℕ) (d : Class) (m : Method) (q : Parameter) → class_at t.classes c ≡ Some d → IsOneOf m d.methods → IsOneOf q m.parameters → find (λ p. bytes_eq p.name q.name) m.parameters ≡ Some q
  unfolding table_of
  own_found c d m q at i j =
      let g = class_good_at files shapes faults typed c d at in
      let here = subst (λ (ms : List Tree). IsOneOf m (flat_map (methods_in (headings_of files) c) ms)) g.members (subst (λ (y : Class). IsOneOf m y.methods) g.is i) in
      let x = member_of _ (methods_in (headings_of files) c) m (items g.tree) g.all here in
      method_found (class_scope (program_with t []) c) c m q x.0 x.1.0 x.1.1 x.2 j

  pub parameter_found : (c : ℕ) (n : List ℕ) (m : Method) (q : Parameter) → method_named t c n ≡ Some m → IsOneOf q m.parameters → find (λ p. bytes_eq p.name q.name) m.parameters ≡ Some q
  parameter_found c n m q e j =
      let part = one_part m (own_methods t) (line_of t c) (found_one (λ (y : Method). bytes_eq y.name n) m (flat_map (own_methods t) (line_of t c)) e).0 in
      go part.0 (class_at t.classes part.0) refl part.2
    where
      go : (e : ℕ) (o : Option Class) → class_at t.classes e ≡ o → IsOneOf m (flat_map (λ d. d.methods) (option_to_list o)) → find (λ p. bytes_eq p.name q.name) m.parameters ≡ Some q
      go e None at i = absurd i
      go e (Some d) at i = own_found e d m q at (no_more m d.methods i) j
