-- Members and classes without broken nodes are judged alike in the larger table.
use Rattle.std.proofs.Common.{◌≡◌, refl, sym, ap, ◌∙◌, subst, ℕ, Bool, true, false, List, [], ◌∷◌, ◌++◌, Option}
use Rattle.std.specs.Prelude.{bytes_eq, unwrap_or}
use Rattle.kr_base.specs.declared.place.Place.{Place}
use Rattle.kr_base.proofs.ListLemmas.{append_is_nil}
use Rattle.kr_ast.specs.Tree as trees
use Rattle.kr_ast.specs.Tree.{Tree}
use Rattle.kr_classes_table.specs.Types.{JavaType}
use Rattle.kr_classes_table.specs.Rules.{Fault}
use Rattle.kr_classes_table.specs.Table.{Table, Constructor, type_named}
use Rattle.kr_types_meaning.specs.Scopes.{Scope, Requiring, Ensuring, Signalling, scope_of, in_class, static_if, declaring, field_kind, in_contract, in_signals, caught_type, after}
use Rattle.kr_types_meaning.specs.Rules.{Judgement, contract_rule, caught_rule, then_rule, super_constructor_rule, implied_rule}
use Rattle.kr_types_meaning.specs.Typing.{Judged, judge, on_one, on_maybe, signals, plain, class_rule, has_constructor, judged}
use Rattle.kr_laws_types.specs.Derivation.{IsExpression, IsSignalled, IsResultType, Several, AreParameters, IsContractLine, AreContractLines, IsSignature, MayCallSuper, IsMember, AreClasses}
use Rattle.kr_laws_types.proofs.Typed.{below_none}
use Rattle.kr_emit_laws.specs.Larger.{IsLarger}
use Rattle.kr_emit_laws.proofs.TypingNames.{IsFree, known_same}
use Rattle.kr_emit_laws.proofs.Rules.{at, Keeps, equal, then_keeps, caught_keeps, type_keeps, super_constructor_keeps, implied_keeps}
use Rattle.kr_emit_laws.proofs.Parts.{judge_keeps, on_one_keeps, on_maybe_keeps, one_keeps, list_keeps, append_alike}
use Rattle.kr_emit_laws.proofs.TypingExpressions.{result_kept, written_same, written_alike, alike}
use Rattle.kr_emit_laws.proofs.Statements.{Leaves, follows, pair, alike_after, class_variable, parameter_written, parameter_leaves, parameter_alike, declarators_alike, code_alike}

-- no class in it has this name
abbrev pub Others : List ℕ → Tree → Type 0
Others w (trees.Cons a b) = Others w a × Others w b
Others w (trees.Class p n e ms) = (bytes_eq w n ≡ false) × Others w ms
Others w _ = Unit {0}

-- members leave their scope
pub member_scope : (v : Table) (s : Scope) (m : Tree) → IsMember false m → after (at v s) m ≡ at v s
member_scope v s (trees.Class p n e ms) h = refl
member_scope v s (trees.Field p st fi k ds) h = refl
member_scope v s (trees.Method p st n e b) h = refl
member_scope v s (trees.Constructor p ps c b) h = refl
member_scope v s _ h = absurd h

module _ (t u : Table) (w : List ℕ) (free : IsFree w) (g : IsLarger t u w) where
  -- ---- parameters

  pub parameters_leave : (s : Scope) (ps : Tree) → AreParameters ps → (judged (at t s) ps).faults ≡ [] → Leaves t u w free g s ps
  unfolding judged
  parameters_leave s trees.Nil h f = record { to = s; old = refl; new = refl }
  parameters_leave s (trees.Cons (trees.Parameter p k n) b) h f =
      let a = trees.Parameter p k n in
      let parts = append_is_nil (judged (at t s) a).faults (judged (after (at t s) a) b).faults f in
      let first = parameter_leaves t u w free g s p k n h.0 parts.0 in
      follows t u w free g s a b first (parameters_leave first.to b h.1 (subst (λ (z : Scope). (judged z b).faults ≡ []) first.old parts.1))
  parameters_leave s (trees.Cons _ b) h f = absurd h
  parameters_leave s _ h f = absurd h

  pub parameters_alike : (s : Scope) (ps : Tree) → AreParameters ps → (judged (at t s) ps).faults ≡ [] → judged (at u s) ps ≡ judged (at t s) ps
  unfolding judged
  parameters_alike s trees.Nil h f = refl
  parameters_alike s (trees.Cons (trees.Parameter p k n) b) h f =
      let a = trees.Parameter p k n in
      let parts = append_is_nil (judged (at t s) a).faults (judged (after (at t s) a) b).faults f in
      let first = parameter_leaves t u w free g s p k n h.0 parts.0 in
      pair t u w free g s a b first (parameter_alike t u w free g s p k n h.0) (parameters_alike first.to b h.1) f
  parameters_alike s (trees.Cons _ b) h f = absurd h
  parameters_alike s _ h f = absurd h

  -- ---- signatures

  -- a `signals`, by what it declares
  signalled : (s : Scope) (p : Place) (d e : Tree) → (first : Leaves t u w free g s d) → caught_type (at u s) d ≡ caught_type (at t s) d → ((judged (at t s) d).faults ≡ [] → judged (at u s) d ≡ judged (at t s) d) → IsExpression e → (judged (at t s) (trees.Signals p d e)).faults ≡ []
      → judged (at u s) (trees.Signals p d e) ≡ judged (at t s) (trees.Signals p d e)
  unfolding judged
  signalled s p d e first type same h f =
      let x = judged (at t s) d in
      let y = judged (in_signals d (at t s)) e in
      let old_rule : JavaType → Judgement = λ a. then_rule (contract_rule (at t s) a) (caught_rule (at t s) 43 (caught_type (at t s) d)) in
      let new_rule : JavaType → JavaType → Judgement = λ z a. then_rule (contract_rule (at u s) a) (caught_rule (at u s) 43 z) in
      let rule = on_one old_rule y.typed in
      let parts = append_is_nil x.faults y.faults (below_none p rule (x.faults ++ y.faults) f) in
      let there : judged (in_signals d (at u s)) e ≡ y =
      ap (λ (z : Scope). judged (in_contract Signalling z) e) first.new
      ∙ (alike t u w free g false (in_contract Signalling first.to) e h (subst (λ (z : Scope). (judged (in_contract Signalling z) e).faults ≡ []) first.old parts.1) ∙ ap (λ (z : Scope). judged (in_contract Signalling z) e) (sym first.old)) in
      ap (λ (z : Judged). signals p (at u s) d z (judged (in_signals d (at u s)) e)) (same parts.0)
      ∙ (ap (λ (z : Judged). signals p (at u s) d x z) there
      ∙ (ap (λ (z : JavaType). judge p (on_one (new_rule z) y.typed) (x.faults ++ y.faults)) type
      ∙ judge_keeps p rule (on_one (new_rule (caught_type (at t s) d)) y.typed) (x.faults ++ y.faults)
      (on_one_keeps old_rule (new_rule (caught_type (at t s) d)) y.typed (λ a. then_keeps (contract_rule (at t s) a) _ _ (caught_keeps t u w free g s 43 (caught_type (at t s) d)))) f))

  -- what it declares isn't broken
  declared_fine : (s : Scope) (p : Place) (d e : Tree) → (judged (at t s) (trees.Signals p d e)).faults ≡ [] → (judged (at t s) d).faults ≡ []
  unfolding judged
  declared_fine s p d e f =
      let x = judged (at t s) d in
      let y = judged (in_signals d (at t s)) e in
      (append_is_nil x.faults y.faults (below_none p (on_one (λ a. then_rule (contract_rule (at t s) a) (caught_rule (at t s) 43 (caught_type (at t s) d))) y.typed) (x.faults ++ y.faults) f)).0

  signals_alike : (s : Scope) (p : Place) (d e : Tree) → IsSignalled d → IsExpression e → (judged (at t s) (trees.Signals p d e)).faults ≡ [] → judged (at u s) (trees.Signals p d e) ≡ judged (at t s) (trees.Signals p d e)
  signals_alike s p (trees.Parameter q k n) e c h f =
      let d = trees.Parameter q k n in
      let fine = declared_fine s p d e f in
      signalled s p d e (parameter_leaves t u w free g s q k n (class_variable k c) fine) (written_same t u w free g s k (class_variable k c) (parameter_written t u w free g s q k n fine)) (parameter_alike t u w free g s q k n (class_variable k c)) h f
  signals_alike s p (trees.NamedType q n) e c h f =
      let d = trees.NamedType q n in
      signalled s p d e (record { to = s; old = refl; new = refl }) (written_same t u w free g s d c (declared_fine s p d e f)) (written_alike t u w free g s d c) h f
  signals_alike s p (trees.QualifiedType q o n) e c h f =
      let d = trees.QualifiedType q o n in
      signalled s p d e (record { to = s; old = refl; new = refl }) (written_same t u w free g s d c (declared_fine s p d e f)) (written_alike t u w free g s d c) h f
  signals_alike s p _ e c h f = absurd c

  line_alike : (s : Scope) (c : Tree) → IsContractLine c → (judged (at t s) c).faults ≡ [] → judged (at u s) c ≡ judged (at t s) c
  unfolding judged
  line_alike s (trees.Requires p e) h f = one_keeps p (contract_rule (at t s)) (contract_rule (at u s)) (judged (at t (in_contract Requiring s)) e) (judged (at u (in_contract Requiring s)) e) (alike t u w free g false (in_contract Requiring s) e h) (λ a. equal _ _ refl) f
  line_alike s (trees.Ensures p e) h f = one_keeps p (contract_rule (at t s)) (contract_rule (at u s)) (judged (at t (in_contract Ensuring s)) e) (judged (at u (in_contract Ensuring s)) e) (alike t u w free g false (in_contract Ensuring s) e h) (λ a. equal _ _ refl) f
  line_alike s (trees.Signals p d e) h f = signals_alike s p d e h.0 h.1 f
  line_alike s _ h f = absurd h

  line_leaves : (s : Scope) (c : Tree) → IsContractLine c → Leaves t u w free g s c
  line_leaves s (trees.Requires p e) h = record { to = s; old = refl; new = refl }
  line_leaves s (trees.Ensures p e) h = record { to = s; old = refl; new = refl }
  line_leaves s (trees.Signals p d e) h = record { to = s; old = refl; new = refl }
  line_leaves s _ h = absurd h

  lines_alike : (s : Scope) (cs : Tree) → AreContractLines cs → (judged (at t s) cs).faults ≡ [] → judged (at u s) cs ≡ judged (at t s) cs
  unfolding judged
  lines_alike s trees.Nil h f = refl
  lines_alike s (trees.Cons a b) h f = let first = line_leaves s a h.0 in pair t u w free g s a b first (line_alike s a h.0) (lines_alike first.to b h.1) f
  lines_alike s _ h f = absurd h

  result_alike : (s : Scope) (r : Tree) → IsResultType r → (judged (at t s) r).faults ≡ [] → judged (at u s) r ≡ judged (at t s) r
  unfolding judged
  result_alike s (trees.PrimitiveType p k) h f = judge_keeps p _ _ [] (type_keeps _ _ (known_same t.headings u.headings w free g.names (trees.PrimitiveType p k))) f
  result_alike s (trees.NamedType p n) h f = written_alike t u w free g s (trees.NamedType p n) h f
  result_alike s (trees.QualifiedType p o n) h f = written_alike t u w free g s (trees.QualifiedType p o n) h f
  result_alike s (trees.GenericType p k a) h f = written_alike t u w free g s (trees.GenericType p k a) h f
  result_alike s (trees.ArrayType p a) h f = written_alike t u w free g s (trees.ArrayType p a) h f
  result_alike s _ h f = absurd h

  -- what isn't broken in a signature
  record IsWhole (s : Scope) (p : Place) (r ps cs : Tree) : Type 0 where
    result : (judged (at t s) r).faults ≡ []
    parameters : (judged (at t s) ps).faults ≡ []
    contracts : (judged (after (at t s) (trees.Signature p r ps cs)) cs).faults ≡ []

  whole : (s : Scope) (p : Place) (r ps cs : Tree) → (judged (at t s) (trees.Signature p r ps cs)).faults ≡ [] → IsWhole s p r ps cs
  unfolding judged
  whole s p r ps cs f =
      let parts = append_is_nil ((judged (at t s) r).faults ++ (judged (at t s) ps).faults) (judged (after (at t s) (trees.Signature p r ps cs)) cs).faults f in
      let front = append_is_nil (judged (at t s) r).faults (judged (at t s) ps).faults parts.0 in
      record { result = front.0; parameters = front.1; contracts = parts.1 }

  abbrev with_result : JavaType → Scope → Scope
  with_result r s = record s { result = r }

  pub signature_leaves : (s : Scope) (e : Tree) → IsSignature e → (judged (at t s) e).faults ≡ [] → Leaves t u w free g s e
  signature_leaves s (trees.Signature p r ps cs) h f =
      let parts = whole s p r ps cs f in
      let inner = parameters_leave s ps h.1 parts.parameters in
      record {
        to = with_result (type_named t.headings r) inner.to;
        old = ap (with_result (type_named t.headings r)) inner.old;
        new = ap (λ (z : JavaType). with_result z (after (at u s) ps)) (result_kept t u.headings w free g.names s r h.0 parts.result) ∙ ap (with_result (type_named t.headings r)) inner.new;
      }
  signature_leaves s _ h f = absurd h

  signature_alike : (s : Scope) (e : Tree) → IsSignature e → (judged (at t s) e).faults ≡ [] → judged (at u s) e ≡ judged (at t s) e
  unfolding judged
  signature_alike s (trees.Signature p r ps cs) h f =
      let parts = whole s p r ps cs f in
      let e = trees.Signature p r ps cs in
      let leaves = signature_leaves s e h f in
      ap plain (append_alike ((judged (at t s) r).faults ++ (judged (at t s) ps).faults) (judged (after (at t s) e) cs).faults ((judged (at u s) r).faults ++ (judged (at u s) ps).faults) (judged (after (at u s) e) cs).faults
      (append_alike (judged (at t s) r).faults (judged (at t s) ps).faults (judged (at u s) r).faults (judged (at u s) ps).faults (λ b. ap (λ (z : Judged). z.faults) (result_alike s r h.0 b)) (λ b. ap (λ (z : Judged). z.faults) (parameters_alike s ps h.1 b)))
      (λ b. ap (λ (z : Judged). z.faults) (alike_after t u w free g s e cs leaves (lines_alike leaves.to cs h.2) b)) f)
  signature_alike s _ h f = absurd h

  -- ---- members

  class_keeps : (s : Scope) (b c : Bool) → c ≡ b → Keeps (class_rule b (at t s)) (class_rule c (at u s))
  class_keeps s true c e = equal _ _ (ap (λ z. class_rule z (at u s)) e)
  class_keeps s false c e = subst (λ z. Keeps (implied_rule (at t s)) (class_rule z (at u s))) (sym e) (implied_keeps t u w free g s)

  has_same : (s : Scope) → has_constructor (at u s) ≡ has_constructor (at t s)
  has_same s = ap some (g.constructors s.class)
    where
      some : List Constructor → Bool
      some xs = elim xs [ [] ↦ false | _ ∷ _ ↦ true ]

  super_alike : (s : Scope) (c : Tree) → MayCallSuper c → (judged (at t s) c).faults ≡ [] → judged (at u s) c ≡ judged (at t s) c
  unfolding judged
  super_alike s trees.Nil h f = refl
  super_alike s (trees.ConstructorCall p es) h f = list_keeps p (super_constructor_rule (at t s)) (super_constructor_rule (at u s)) (judged (at t s) es) (judged (at u s) es) (alike t u w free g true s es h) (super_constructor_keeps t u w free g s) f
  super_alike s _ h f = absurd h

  class_scope : (s : Scope) (n : List ℕ) → bytes_eq w n ≡ false → in_class n (at u s) ≡ at u (in_class n (at t s))
  class_scope s n e = ap (λ (z : Option ℕ). scope_of u s.values (unwrap_or z 0)) (g.names.other n e)

  -- a class, by its members
  class_alike : (s : Scope) (p : Place) (n : List ℕ) (ms : Tree) → bytes_eq w n ≡ false → ((judged (at t (in_class n (at t s))) ms).faults ≡ [] → judged (at u (in_class n (at t s))) ms ≡ judged (at t (in_class n (at t s))) ms)
      → (judge p (class_rule (has_constructor (in_class n (at t s))) (in_class n (at t s))) (judged (in_class n (at t s)) ms).faults).faults ≡ []
      → judge p (class_rule (has_constructor (in_class n (at u s))) (in_class n (at u s))) (judged (in_class n (at u s)) ms).faults ≡ judge p (class_rule (has_constructor (in_class n (at t s))) (in_class n (at t s))) (judged (in_class n (at t s)) ms).faults
  class_alike s p n ms e h f =
      let here = in_class n (at t s) in
      ap (λ (z : Scope). judge p (class_rule (has_constructor z) z) (judged z ms).faults) (class_scope s n e)
      ∙ (ap (λ (z : Judged). judge p (class_rule (has_constructor (at u here)) (at u here)) z.faults) (h (below_none p (class_rule (has_constructor here) here) (judged here ms).faults f))
      ∙ judge_keeps p (class_rule (has_constructor here) here) (class_rule (has_constructor (at u here)) (at u here)) (judged here ms).faults (class_keeps here (has_constructor here) (has_constructor (at u here)) (has_same here)) f)

  pub member_alike : (b : Bool) (s : Scope) (m : Tree) → IsMember b m → Others w m → (judged (at t s) m).faults ≡ [] → judged (at u s) m ≡ judged (at t s) m
  unfolding judged
  member_alike true s trees.Nil h o f = refl
  member_alike true s (trees.Cons a b) h o f =
      pair t u w free g s a b (record { to = s; old = member_scope t s a h.0; new = member_scope u s a h.0 }) (member_alike false s a h.0 o.0) (member_alike true s b h.1 o.1) f
  member_alike true s _ h o f = absurd h
  member_alike false s (trees.Class p n e ms) h o f = class_alike s p n ms o.0 (member_alike true (in_class n (at t s)) ms h.1 o.1) f
  member_alike false s (trees.Field p st fi k ds) h o f =
      let what = field_kind st fi in
      let parts = append_is_nil (judged (at t s) k).faults (judged (static_if st (declaring what k (at t s))) ds).faults f in
      let to : Scope = record s { declaring = what; declared = type_named t.headings k; is_static = st } in
      ap (λ (z : Judged). plain (z.faults ++ (judged (static_if st (declaring what k (at u s))) ds).faults)) (written_alike t u w free g s k h.0 parts.0)
      ∙ ap (λ (z : Judged). plain ((judged (at t s) k).faults ++ z.faults))
      (ap (λ (z : JavaType). judged (at u (record s { declaring = what; declared = z; is_static = st })) ds) (written_same t u w free g s k h.0 parts.0) ∙ declarators_alike t u w free g to ds h.1 parts.1)
  member_alike false s (trees.Method p st n e b) h o f =
      let to = static_if st s in
      let parts = append_is_nil (judged (at t to) e).faults (judged (after (at t to) e) b).faults f in
      let leaves = signature_leaves to e h.0 parts.0 in
      ap plain (append_alike (judged (at t to) e).faults (judged (after (at t to) e) b).faults (judged (at u to) e).faults (judged (after (at u to) e) b).faults (λ q. ap (λ (z : Judged). z.faults) (signature_alike to e h.0 q))
      (λ q. ap (λ (z : Judged). z.faults) (alike_after t u w free g to e b leaves (code_alike t u w free g Several leaves.to b h.1) q)) f)
  member_alike false s (trees.Constructor p ps c b) h o f =
      let to = after (at t s) ps in
      let tn = after (at u s) ps in
      let v = on_maybe (λ k. implied_rule (at t s)) (judged to c).typed in
      let below = below_none p v ((judged (at t s) ps).faults ++ (judged to c).faults ++ (judged to b).faults) f in
      let parts = append_is_nil ((judged (at t s) ps).faults ++ (judged to c).faults) (judged to b).faults below in
      let front = append_is_nil (judged (at t s) ps).faults (judged to c).faults parts.0 in
      let first = parameters_leave s ps h.0 front.0 in
      let call = alike_after t u w free g s ps c first (super_alike first.to c h.1) in
      ap (λ (z : List Fault). judge p (on_maybe (λ k. implied_rule (at u s)) (judged tn c).typed) z)
      (append_alike ((judged (at t s) ps).faults ++ (judged to c).faults) (judged to b).faults ((judged (at u s) ps).faults ++ (judged tn c).faults) (judged tn b).faults
      (append_alike (judged (at t s) ps).faults (judged to c).faults (judged (at u s) ps).faults (judged tn c).faults (λ q. ap (λ (z : Judged). z.faults) (parameters_alike s ps h.0 q)) (λ q. ap (λ (z : Judged). z.faults) (call q)))
      (λ q. ap (λ (z : Judged). z.faults) (alike_after t u w free g s ps b first (code_alike t u w free g Several first.to b h.2) q)) below)
      ∙ (ap (λ (z : Judged). judge p (on_maybe (λ k. implied_rule (at u s)) z.typed) ((judged (at t s) ps).faults ++ (judged to c).faults ++ (judged to b).faults)) (call front.1)
      ∙ judge_keeps p v (on_maybe (λ k. implied_rule (at u s)) (judged to c).typed) ((judged (at t s) ps).faults ++ (judged to c).faults ++ (judged to b).faults)
      (on_maybe_keeps (λ k. implied_rule (at t s)) (λ k. implied_rule (at u s)) (judged to c).typed (λ k. implied_keeps t u w free g s)) f)
  member_alike false s _ h o f = absurd h

  -- ---- files

  pub file_alike : (s : Scope) (file : Tree) → AreClasses file → Others w file → (judged (at t s) file).faults ≡ [] → judged (at u s) file ≡ judged (at t s) file
  unfolding judged
  file_alike s trees.Nil h o f = refl
  file_alike s (trees.Cons (trees.Class p n e ms) b) h o f =
      pair t u w free g s (trees.Class p n e ms) b (record { to = s; old = refl; new = refl }) (λ q. class_alike s p n ms o.0.0 (member_alike true (in_class n (at t s)) ms h.0.1 o.0.1) q) (file_alike s b h.1 o.1) f
  file_alike s (trees.Cons _ b) h o f = absurd h.0
  file_alike s _ h o f = absurd h
