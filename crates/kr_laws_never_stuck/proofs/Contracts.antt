-- Each method's contract is typed.
use Rattle.std.proofs.Common.{◌≡◌, ℕ, ◌+◌, ◌≤◌, Bool, true, false, List, [], ◌∷◌, ◌++◌, Option, Some, None, inl, inr, refl, sym, ap, ◌∙◌, subst, arith}
use Rattle.std.specs.Prelude.{map, flat_map, reverse, bytes_eq, option_to_list}
use Rattle.std.proofs.lemmas.List.{append-nil}
use Rattle.kr_base.specs.declared.place.Place.{Place}
use Rattle.kr_ast.specs.Tree as trees
use Rattle.kr_ast.specs.Tree.{Tree}
use Rattle.kr_classes_table.specs.Nodes.{nodes}
use Rattle.kr_classes_table.specs.Types.{JavaType, BooleanType, ClassType, UnknownType}
use Rattle.kr_classes_table.specs.Table.{Heading, Table, Class, Method, items, headings_of, table_of, class_at, own_methods, line_of, method_named, methods_in, parameters_in, class_or, class_named, type_named}
use Rattle.kr_classes_table.specs.Arrays.{array_types_of}
use Rattle.kr_classes_table.specs.Rules.{class_fault}
use Rattle.kr_types_meaning.specs.Scopes.{Scope, Requiring, Ensuring, AsValue, written, caught_type, after, static_if, in_contract, in_signals, in_old}
use Rattle.kr_types_meaning.specs.Rules.{Typed, Untyped, Value, Variable, Values, Judgement, Fits, Breaks, ask, fine, is_code, contract_rule, caught_rule, then_rule, parameter_rule, is_boolean}
use Rattle.kr_types_meaning.specs.Laws.{IsClassName}
use Rattle.kr_types_meaning.specs.Typing.{judge, on_one, judged, type_in, IsWellTyped}
use Rattle.kr_laws_types.specs.Derivation.{IsSignalled, IsContractLine, AreContractLines, IsMember}
use Rattle.kr_laws_types.specs.DerivedExpressions.{Shaped, IsWritten}
use Rattle.kr_laws_types.specs.Types.{is_variable_type, HasVariables}
use Rattle.kr_laws_types.specs.Shapes.{Expression, IsCode}
use Rattle.kr_laws_types.specs.Expressions.{plain}
use Rattle.kr_laws_types.proofs.Expressions.{is_typed, written_variable}
use Rattle.kr_mean.specs.Program.{Program, program_with, class_scope, method_scope, parameter_local}
use Rattle.kr_mean.specs.Purity.{IsOneOf}
use Rattle.kr_mean.specs.Code.{Node, code}
use Rattle.kr_mean.specs.Runs.{required_in, ensured_in}
use Rattle.kr_mean.specs.Verdicts.{OldNode, old_in, names_thrown, olds_among, olds_in, olds_of}
use Rattle.kr_laws_runs.proofs.Respects.{AllOf, all_front, all_back, all_both}
use Rattle.kr_laws_safety.specs.Triples.{type_of_old}
use Rattle.kr_laws_safety.proofs.Heaps.{same_type}
use Rattle.kr_laws_safety.specs.Typed.{Olds, IsTypedProgram}
use Rattle.kr_laws_safety.specs.Tested.{IsCondition, AreConditions, AreSignals, type_or_none, old_types, IsOld, AreOldNodes}
use Rattle.kr_laws_safety.proofs.Calls.{parameter_variables}
use Rattle.kr_laws_safety.proofs.Operands.{written_is}
use Rattle.kr_laws_safety.proofs.Glue.{kept, on_type}
use Rattle.kr_laws_never_stuck.specs.Apart.{nodes_at}
use Rattle.kr_laws_never_stuck.proofs.Declared.{one_part, found_one, no_more}
use Rattle.kr_laws_never_stuck.specs.WellTyped.{AreFiles}
use Rattle.kr_laws_never_stuck.proofs.Codes.{IsNumbered, files_numbered, expression_code}
use Rattle.kr_laws_never_stuck.proofs.Files.{class_good_at}
use Rattle.kr_laws_never_stuck.proofs.Members.{member_of, after_parameters}
use Rattle.kr_laws_never_stuck.specs.TypedContracts.{HasContract, ContractsLaw}
use Rattle.kr_laws_never_stuck.proofs.Closed.{IsNamed}
use Rattle.kr_laws_never_stuck.proofs.Walks.{OldGood, GoodOld, GoodNode, KnownOld, KnownNode, Numbered, ensuring_code, old_nodes}
use Rattle.kr_laws_never_stuck.proofs.Parts.{IsPart, IsIn, part_all, part_less, nodes_append, members_in}
use Rattle.kr_laws_never_stuck.proofs.Found.{olds_at, olds_append, type_found, count_is, fewer}
use Rattle.kr_laws_runs.proofs.Overriders.{one_front, one_back}
use Rattle.kr_laws_types.proofs.Typed.{below_none}
use Rattle.kr_base.proofs.ListLemmas.{append_is_nil}

-- ---- lines

-- a line of a contract, in the scope of its method
pub record IsLine (arrays : List JavaType) (hs : List Heading) (M : Scope) (line : Tree) : Type 0 where
  unbroken : (judged M line).faults ≡ []
  shape : IsContractLine line
  numbered : Numbered arrays hs line

line_after : (s : Scope) (line : Tree) → IsContractLine line → after s line ≡ s
line_after s (trees.Requires p e) h = refl
line_after s (trees.Ensures p e) h = refl
line_after s (trees.Signals p d e) h = refl
line_after s _ h = absurd h

lines_good : (arrays : List JavaType) (hs : List Heading) (s : Scope) (cs : Tree) → AreContractLines cs → (judged s cs).faults ≡ [] → Numbered arrays hs cs → AllOf (IsLine arrays hs s) (items cs)
unfolding judged
lines_good arrays hs s trees.Nil h f a = tt
lines_good arrays hs s (trees.Cons x y) h f a =
    let parts = append_is_nil (judged s x).faults (judged (after s x) y).faults f in (
      record { unbroken = parts.0; shape = h.0; numbered = all_front (IsNumbered arrays hs) (nodes x) (nodes y) a },
      lines_good arrays hs s y h.1 (subst (λ (z : Scope). (judged z y).faults ≡ []) (line_after s x h.0) parts.1) (all_back (IsNumbered arrays hs) (nodes x) (nodes y) a),
    )
lines_good arrays hs s _ h f a = absurd h

-- how many of the marked nodes in lines are at a place
L : Place → List Tree → ℕ
L p [] = 0
L p (line ∷ lines) = nodes_at p (nodes line) + L p lines

lines_fewer : (p : Place) (cs : Tree) → L p (items cs) ≤ nodes_at p (nodes cs)
unfolding L
lines_fewer p (trees.Cons x y) = omega (arith, nodes_append p (nodes x) (nodes y), lines_fewer p y)
lines_fewer p _ = omega arith

-- ---- classes

-- a class's name that is known names a class
class_written : (s : Scope) (t : Tree) → IsClassName t → (judged s t).faults ≡ [] → (c : ℕ) × (written s t ≡ ClassType c)
class_written s t h f = go t h (subst (λ (z : JavaType). is_variable_type z ≡ true) (written_is s t v.0 (is_written t h) v.1) v.2)
  where
    is_written : (t : Tree) → IsClassName t → IsWritten t
    is_written (trees.NamedType p n) h = tt
    is_written (trees.QualifiedType p o n) h = tt
    is_written _ h = absurd h

    v : (u : JavaType) × (type_in (judged s t).typed ≡ Some u) × (is_variable_type u ≡ true)
    v = written_variable s t (is_written t h) f

    named : (x : Option ℕ) (o n : List ℕ) → is_variable_type (class_or x (UnknownType o n)) ≡ true → (c : ℕ) × (class_or x (UnknownType o n) ≡ ClassType c)
    named (Some c) o n e = (c, refl)
    named None o n e = absurd (cc (e))

    go : (t : Tree) → IsClassName t → is_variable_type (written s t) ≡ true → (c : ℕ) × (written s t ≡ ClassType c)
    go (trees.NamedType p n) h e = named (class_named s.table.headings (trees.NamedType p n)) [] n e
    go (trees.QualifiedType p o n) h e = named (class_named s.table.headings (trees.QualifiedType p o n)) o n e
    go _ h e = absurd h

-- two rules one after the other
then_kept : (v w : Judgement) (x : Typed) → then_rule v w ≡ Fits x → (y : Typed) × (v ≡ Fits y)
then_kept (Fits y) w x e = (y, refl)
then_kept (Breaks r) w x e = absurd (cc (e))

-- of a condition, if it has a type
first_kept : (f : JavaType → Judgement) (w : Judgement) (t x : Typed) → on_one (λ a. then_rule (f a) w) t ≡ Fits x → (y : Typed) × (on_one f t ≡ Fits y)
first_kept f w (Value a) x e = then_kept (f a) w x e
first_kept f w (Variable a) x e = then_kept (f a) w x e
first_kept f w (Values ts) x e = (Untyped, refl)
first_kept f w Untyped x e = (Untyped, refl)

-- ---- the conditions of a method

module _ (program : Program) (hs : List Heading) (m : Method) (table : program.table.headings ≡ hs) (named : IsNamed (method_scope program m)) where
  abbrev M : Scope
  M = method_scope program m

  abbrev R : Scope
  R = in_contract Requiring M

  abbrev E : Scope
  E = in_contract Ensuring M

  -- a scope in which a condition after the body is judged
  record IsUnder (u : Scope) : Type 0 where
    known : IsNamed u
    headings : u.table.headings ≡ hs
    code : is_code u.part ≡ false
    plainly : plain u ≡ u

  under : IsUnder E
  under = record { known = named; headings = table; code = refl; plainly = refl }

  -- the class that a `signals` names
  declared_class : (d : Tree) → IsSignalled d → (judged M d).faults ≡ [] → (c : ℕ) × (caught_type M d ≡ ClassType c)
  unfolding judged
  declared_class (trees.Parameter p t n) h f = class_written M t h (below_none p (parameter_rule M n) (judged M t).faults f)
  declared_class (trees.NamedType p n) h f = class_written M (trees.NamedType p n) tt f
  declared_class (trees.QualifiedType p o n) h f = class_written M (trees.QualifiedType p o n) tt f
  declared_class _ h f = absurd h

  under_signals : (d : Tree) → IsSignalled d → (c : ℕ) → caught_type M d ≡ ClassType c → IsUnder (in_signals d M)
  under_signals (trees.Parameter p t n) h c e = record { known = (named.0, (ap is_variable_type e, named.1), named.2); headings = table; code = refl; plainly = refl }
  under_signals (trees.NamedType p n) h c e = record { known = named; headings = table; code = refl; plainly = refl }
  under_signals (trees.QualifiedType p o n) h c e = record { known = named; headings = table; code = refl; plainly = refl }
  under_signals _ h c e = absurd h

  abbrev Line : Tree → Type 0
  Line line = IsLine program.arrays hs M line

  boolean_only : (t : JavaType) (x : Typed) → contract_rule M t ≡ Fits x → t ≡ BooleanType
  boolean_only t x e = same_type t BooleanType (go (is_boolean t) e)
    where
      go : (b : Bool) → ask b 28 (ask (Rattle.std.specs.Prelude.not M.is_static) 40 fine) ≡ Fits x → b ≡ true
      go true e = refl
      go false e = absurd (cc (e))

  -- a condition, from its line
  is_condition : (olds : Olds) (s : Scope) (e : Tree) → IsNamed s → (judged s e).faults ≡ [] → (x : Typed) × (on_one (contract_rule M) (judged s e).typed ≡ Fits x) → IsCode program.arrays olds (Expression false) (plain s) e → plain s ≡ s → IsCondition program olds (record { scope = s; tree = e })
  is_condition olds s e k below rule c same =
      let t = is_typed program.arrays olds s e k.0 k.1 k.2 c below in
      record {
        code = subst (λ (z : Scope). IsCode program.arrays olds (Expression false) z e) same c;
        unbroken = below;
        boolean = t.known ∙ ap (λ (u : JavaType). Some u) (boolean_only t.type rule.0 (sym (on_type (contract_rule M) (judged s e).typed t.type t.known) ∙ rule.1));
      }

  -- the condition of a line that isn't broken isn't broken, and keeps its rule
  line_parts : (p : Place) (s : Scope) (e : Tree) → (judge p (on_one (contract_rule M) (judged s e).typed) (judged s e).faults).faults ≡ [] → ((judged s e).faults ≡ []) × ((x : Typed) × (on_one (contract_rule M) (judged s e).typed ≡ Fits x))
  line_parts p s e f = (below_none p (on_one (contract_rule M) (judged s e).typed) (judged s e).faults f, kept p (on_one (contract_rule M) (judged s e).typed) (judged s e).faults f)

  signal_parts : (p : Place) (d e : Tree) → (judged M (trees.Signals p d e)).faults ≡ [] → ((judged M d).faults ≡ []) × ((judged (in_signals d M) e).faults ≡ []) × ((x : Typed) × (on_one (contract_rule M) (judged (in_signals d M) e).typed ≡ Fits x))
  unfolding judged
  signal_parts p d e f =
      let t = (judged (in_signals d M) e).typed in
      let w = caught_rule M 43 (caught_type M d) in
      let v = on_one (λ a. then_rule (contract_rule M a) w) t in
      let both = (judged M d).faults ++ (judged (in_signals d M) e).faults in
      let parts = append_is_nil (judged M d).faults (judged (in_signals d M) e).faults (below_none p v both f) in
      let rule = kept p v both f in
      (parts.0, parts.1, first_kept (contract_rule M) w t rule.0 rule.1)

  -- ---- preconditions

  required : (olds : Olds) (lines : List Tree) → AllOf Line lines → AreConditions program olds (map (λ e. record { scope = R; tree = e }) (flat_map required_in lines))
  unfolding judged
  required olds [] h = tt
  required olds (trees.Requires p e ∷ lines) h =
      let parts = line_parts p R e h.0.unbroken in
      (is_condition olds R e named parts.0 parts.1 (expression_code program.arrays olds hs (Expression false) R e (table, refl) h.0.shape h.0.numbered.1) refl, required olds lines h.1)
  required olds (trees.Ensures p e ∷ lines) h = required olds lines h.1
  required olds (trees.Signals p d e ∷ lines) h = required olds lines h.1
  required olds (_ ∷ lines) h = absurd h.0.shape

  -- ---- operands of `\old`s

  abbrev Good : Node → Type 0
  Good n = GoodNode program.arrays n

  -- the nodes of a condition after the body
  condition_good : (u : Scope) (e : Tree) → IsUnder u → Shaped false e → Numbered program.arrays hs e → (judged u e).faults ≡ [] → AllOf Good (code u e)
  condition_good u e i h a f =
      subst (λ (z : Scope). AllOf Good (code z e)) i.plainly (old_nodes program.arrays hs (Expression false) u AsValue e i.known i.code i.headings h a (subst (λ (z : Scope). (judged z e).faults ≡ []) (sym i.plainly) f))

  numbered_back : (d e : Tree) → AllOf (IsNumbered program.arrays hs) (nodes d ++ nodes e) → Numbered program.arrays hs e
  numbered_back d e h = all_back (IsNumbered program.arrays hs) (nodes d) (nodes e) h

  ensured_good : (p : Place) (e : Tree) → Line (trees.Ensures p e) → AllOf Good (code E e)
  unfolding judged
  ensured_good p e h = condition_good E e under h.shape h.numbered.1 (line_parts p E e h.unbroken).0

  signalled_good : (p : Place) (d e : Tree) → Line (trees.Signals p d e) → AllOf Good (code (in_signals d M) e)
  signalled_good p d e h =
      let parts = signal_parts p d e h.unbroken in
      let class = declared_class d h.shape.0 parts.0 in
      condition_good (in_signals d M) e (under_signals d h.shape.0 class.0 class.1) h.shape.1 (numbered_back d e h.numbered.1) parts.1

  old_is : (b : Bool) (s : Scope) (p : Place) (x : Tree) → OldGood program.arrays s x → IsOld program (record { place = p; is_named = b; scope = in_old s; tree = x })
  old_is b s p x g = record { code = g.code; unbroken = g.unbroken; target = subst (λ (o : Option JavaType). Rattle.kr_laws_safety.specs.Claims.is_target (type_or_none o) ≡ true) (sym g.known) g.target }

  abbrev Old : OldNode → Type 0
  Old o = IsOld program o

  node_olds : (b : Bool) (n : Node) → Good n → AllOf Old (old_in b n.scope n.tree)
  node_olds b n g = go n.tree g
    where
      go : (t : Tree) → GoodOld program.arrays n.scope t → AllOf Old (old_in b n.scope t)
      go (trees.Old p x) g = (old_is b n.scope p x g, tt)
      go _ g = tt

  code_olds : (b : Bool) (ns : List Node) → AllOf Good ns → AllOf Old (olds_among b ns)
  code_olds b [] h = tt
  code_olds b (n ∷ ns) h = all_both Old (old_in b n.scope n.tree) (olds_among b ns) (node_olds b n h.0) (code_olds b ns h.1)

  abbrev olds_of_all : List Tree → List OldNode
  olds_of_all lines = flat_map (olds_in M) lines

  all_olds : (lines : List Tree) → AllOf Line lines → AllOf Old (olds_of_all lines)
  all_olds [] h = tt
  all_olds (trees.Requires p e ∷ lines) h = all_olds lines h.1
  all_olds (trees.Ensures p e ∷ lines) h = all_both Old (olds_among false (code E e)) (olds_of_all lines) (code_olds false (code E e) (ensured_good p e h.0)) (all_olds lines h.1)
  all_olds (trees.Signals p d e ∷ lines) h =
      all_both Old (olds_among (names_thrown d) (code (in_signals d M) e)) (olds_of_all lines) (code_olds (names_thrown d) (code (in_signals d M) e) (signalled_good p d e h.0)) (all_olds lines h.1)
  all_olds (_ ∷ lines) h = absurd h.0.shape

  are_olds : (os : List OldNode) → AllOf Old os → AreOldNodes program os
  are_olds [] h = tt
  are_olds (o ∷ os) h = (h.0, are_olds os h.1)

  -- ---- postconditions

  module _ (os : List OldNode) (apart : (o : OldNode) → olds_at o.place os ≤ 1) where
    abbrev types : Olds
    types = type_of_old (old_types os)

    known_old : (b : Bool) (s : Scope) (p : Place) (x : Tree) → OldGood program.arrays s x → IsOneOf (record { place = p; is_named = b; scope = in_old s; tree = x }) os → types p ≡ type_in (judged (in_old s) x).typed
    known_old b s p x g i =
        let o : OldNode = record { place = p; is_named = b; scope = in_old s; tree = x } in
        type_found os o (apart o) i ∙ (ap (λ (u : Option JavaType). Some (type_or_none u)) g.known ∙ sym g.known)

    known_node : (b : Bool) (n : Node) → Good n → ((o : OldNode) → IsOneOf o (old_in b n.scope n.tree) → IsOneOf o os) → KnownNode types n
    known_node b n g i = go n.tree g i
      where
        go : (t : Tree) → GoodOld program.arrays n.scope t → ((o : OldNode) → IsOneOf o (old_in b n.scope t) → IsOneOf o os) → KnownOld types n.scope t
        go (trees.Old p x) g i = λ e. known_old b n.scope p x g (i (record { place = p; is_named = b; scope = in_old n.scope; tree = x }) (inl refl))
        go _ g i = tt

    known_nodes : (b : Bool) (ns : List Node) → AllOf Good ns → ((o : OldNode) → IsOneOf o (olds_among b ns) → IsOneOf o os) → AllOf (KnownNode types) ns
    known_nodes b [] h i = tt
    known_nodes b (n ∷ ns) h i = (known_node b n h.0 (λ o j. i o (one_front o (old_in b n.scope n.tree) (olds_among b ns) j)), known_nodes b ns h.1 (λ o j. i o (one_back o (old_in b n.scope n.tree) (olds_among b ns) j)))

    -- a condition whose `\old`s are among them
    known_condition : (b : Bool) (u : Scope) (e : Tree) → IsUnder u → Shaped false e → Numbered program.arrays hs e → (judged u e).faults ≡ [] → (x : Typed) × (on_one (contract_rule M) (judged u e).typed ≡ Fits x) → AllOf Good (code u e) → ((o : OldNode) → IsOneOf o (olds_among b (code u e)) → IsOneOf o os)
        → IsCondition program types (record { scope = u; tree = e })
    known_condition b u e k h a f rule good i =
        let known = known_nodes b (code u e) good i in
        is_condition types u e k.known f rule (ensuring_code program.arrays hs types (Expression false) u e k.headings h a (subst (λ (z : Scope). AllOf Good (code z e)) (sym k.plainly) good) (λ o. subst (λ (z : Scope). AllOf (KnownNode types) (code z e)) (sym k.plainly) known)) k.plainly

    ensured : (lines : List Tree) → AllOf Line lines → ((o : OldNode) → IsOneOf o (olds_of_all lines) → IsOneOf o os) → AreConditions program types (map (λ e. record { scope = E; tree = e }) (flat_map ensured_in lines))
    unfolding judged
    ensured [] h i = tt
    ensured (trees.Requires p e ∷ lines) h i = ensured lines h.1 i
    ensured (trees.Ensures p e ∷ lines) h i =
        let parts = line_parts p E e h.0.unbroken in (
          known_condition false E e under h.0.shape h.0.numbered.1 parts.0 parts.1 (ensured_good p e h.0) (λ o j. i o (one_front o (olds_among false (code E e)) (olds_of_all lines) j)),
          ensured lines h.1 (λ o j. i o (one_back o (olds_among false (code E e)) (olds_of_all lines) j)),
        )
    ensured (trees.Signals p d e ∷ lines) h i = ensured lines h.1 (λ o j. i o (one_back o (olds_among (names_thrown d) (code (in_signals d M) e)) (olds_of_all lines) j))
    ensured (_ ∷ lines) h i = absurd h.0.shape

    signalled : (lines : List Tree) → AllOf Line lines → ((o : OldNode) → IsOneOf o (olds_of_all lines) → IsOneOf o os) → AreSignals program types M lines
    signalled [] h i = tt
    signalled (trees.Requires p e ∷ lines) h i = signalled lines h.1 i
    signalled (trees.Ensures p e ∷ lines) h i = signalled lines h.1 (λ o j. i o (one_back o (olds_among false (code E e)) (olds_of_all lines) j))
    signalled (trees.Signals p d e ∷ lines) h i =
        let parts = signal_parts p d e h.0.unbroken in
        let class = declared_class d h.0.shape.0 parts.0 in (
          record {
            shape = h.0.shape.0;
            class = class.0;
            type = class.1;
            condition = known_condition (names_thrown d) (in_signals d M) e (under_signals d h.0.shape.0 class.0 class.1) h.0.shape.1 (numbered_back d e h.0.numbered.1) parts.1 parts.2 (signalled_good p d e h.0) (λ o j. i o (one_front o (olds_among (names_thrown d) (code (in_signals d M) e)) (olds_of_all lines) j));
          },
          signalled lines h.1 (λ o j. i o (one_back o (olds_among (names_thrown d) (code (in_signals d M) e)) (olds_of_all lines) j)),
        )
    signalled (_ ∷ lines) h i = absurd h.0.shape

  -- how many `\old`s of the conditions are at a place
  counted : (p : Place) (lines : List Tree) → AllOf Line lines → olds_at p (olds_of_all lines) ≤ L p lines
  unfolding L
  counted p [] h = omega arith
  counted p (trees.Requires q e ∷ lines) h = omega (arith, counted p lines h.1)
  counted p (trees.Ensures q e ∷ lines) h =
      omega (arith, olds_append p (olds_among false (code E e)) (olds_of_all lines), count_is p false (code E e), fewer p (Expression false) E e h.0.shape, counted p lines h.1)
  counted p (trees.Signals q d e ∷ lines) h =
      omega (arith, olds_append p (olds_among (names_thrown d) (code (in_signals d M) e)) (olds_of_all lines), count_is p (names_thrown d) (code (in_signals d M) e), fewer p (Expression false) (in_signals d M) e h.0.shape.1, nodes_append p (nodes d) (nodes e), counted p lines h.1)
  counted p (_ ∷ lines) h = absurd h.0.shape

  has_contract : AllOf Line m.contracts → ((p : Place) → L p m.contracts ≤ 1) → HasContract program m
  has_contract h few =
      let os = olds_of program m in
      let apart : (o : OldNode) → olds_at o.place os ≤ 1 = λ o. omega (arith, counted o.place m.contracts h, few o.place) in
      record {
        requires = λ olds. required olds m.contracts h;
        olds = are_olds os (all_olds m.contracts h);
        ensures = ensured os apart m.contracts h (λ o i. i);
        signals = signalled os apart m.contracts h (λ o i. i);
      }

-- ---- from the members of the files

-- the lines of a method's member
record HasLines (arrays : List JavaType) (hs : List Heading) (whole : List Tree) (program : Program) (m : Method) : Type 0 where
  lines : AllOf (IsLine arrays hs (method_scope program m)) m.contracts
  few : (p : Place) → L p m.contracts ≤ nodes_at p whole

module _ (table : Table) (arrays : List JavaType) (whole : List Tree) (c : ℕ) where
  abbrev P : Program
  P = program_with table arrays

  abbrev hs : List Heading
  hs = table.headings

  method_lines : (m : Method) (t : Tree) → (judged (class_scope P c) t).faults ≡ [] → IsMember false t → IsPart whole (nodes t) → AllOf (IsNumbered arrays hs) (nodes t) → IsOneOf m (methods_in hs c t) → HasLines arrays hs whole P m
  unfolding judged L
  method_lines m (trees.Method p st n (trees.Signature q r ps cs) b) f h part a (inl i) = subst (HasLines arrays hs whole P) i made
    where
      s : Scope
      s = class_scope P c

      S : Scope
      S = static_if st s

      sig : Tree
      sig = trees.Signature q r ps cs

      x : Method
      x = record { class = c; name = n; place = p; is_static = st; parameters = parameters_in hs ps; result = type_named hs r; contracts = items cs; body = items b }

      inside : after S sig ≡ method_scope P x
      inside = ap (λ (z : Scope). record z { result = written S r }) (after_parameters S ps h.0.1 ∙ ap (λ (ls : List Rattle.kr_types_meaning.specs.Scopes.Local). record S { locals = ls }) (append-nil (reverse (map parameter_local (parameters_in hs ps)))))

      made : HasLines arrays hs whole P x
      made =
          let parts = append_is_nil (judged S sig).faults (judged (after S sig) b).faults f in
          let signed = append_is_nil ((judged S r).faults ++ (judged S ps).faults) (judged (after S sig) cs).faults parts.0 in
          let numbered = all_back (IsNumbered arrays hs) (nodes r ++ nodes ps) (nodes cs) (all_front (IsNumbered arrays hs) (nodes sig) (nodes b) a.1).1 in
          record {
            lines = lines_good arrays hs (method_scope P x) cs h.0.2 (subst (λ (z : Scope). (judged z cs).faults ≡ []) inside signed.1) numbered;
            few = λ at. omega (arith, lines_fewer at cs, nodes_append at (nodes r ++ nodes ps) (nodes cs), nodes_append at (nodes sig) (nodes b), part_less at whole (nodes (trees.Method p st n sig b)) part);
          }
  method_lines m (trees.Method p st n (trees.Signature q r ps cs) b) f h part a (inr i) = absurd i
  method_lines m (trees.Method p st n _ b) f h part a i = absurd h.0
  method_lines m _ f h part a i = absurd i

both_of : {A : Type 0} (Q R : A → Type 0) (xs : List A) → AllOf Q xs → AllOf R xs → AllOf (λ x. Q x × R x) xs
both_of Q R [] h k = tt
both_of Q R (x ∷ xs) h k = ((h.0, k.0), both_of Q R xs h.1 k.1)

module _ (files : List Tree) (more : List JavaType) (shapes : AreFiles files) (faults : class_fault (table_of files) ≡ None) (typed : IsWellTyped files) (few : (p : Place) → nodes_at p (flat_map nodes files) ≤ 1) (facts : IsTypedProgram (program_with (table_of files) (array_types_of files ++ more))) where
  abbrev t : Table
  t = table_of files

  abbrev arrays : List JavaType
  arrays = array_types_of files ++ more

  abbrev program : Program
  program = program_with t arrays

  own_lines : (c : ℕ) (d : Class) (m : Method) → class_at t.classes c ≡ Some d → IsOneOf m d.methods → HasLines arrays (headings_of files) (flat_map nodes files) program m
  unfolding table_of
  own_lines c d m q i =
      let whole = flat_map nodes files in
      let g = class_good_at files shapes faults typed c d q in
      let here = subst (λ (ms : List Tree). IsOneOf m (flat_map (methods_in (headings_of files) c) ms)) g.members (subst (λ (y : Class). IsOneOf m y.methods) g.is i) in
      let parts = subst (AllOf (IsIn whole)) g.members (members_in files c g.heading g.there) in
      let x = member_of _ (methods_in (headings_of files) c) m (items g.tree) (both_of _ (IsIn whole) (items g.tree) g.all parts) here in
      method_lines t arrays whole c m x.0 x.1.0.0 x.1.0.1 x.1.1 (part_all (IsNumbered arrays (headings_of files)) whole (nodes x.0) x.1.1 (files_numbered files more)) x.2

  lines_of : (c : ℕ) (n : List ℕ) (m : Method) → method_named t c n ≡ Some m → HasLines arrays (headings_of files) (flat_map nodes files) program m
  lines_of c n m e =
      let part = one_part m (own_methods t) (line_of t c) (found_one (λ (y : Method). bytes_eq y.name n) m (flat_map (own_methods t) (line_of t c)) e).0 in
      go part.0 (class_at t.classes part.0) refl part.2
    where
      go : (e : ℕ) (o : Option Class) → class_at t.classes e ≡ o → IsOneOf m (flat_map (λ d. d.methods) (option_to_list o)) → HasLines arrays (headings_of files) (flat_map nodes files) program m
      go e None at i = absurd i
      go e (Some d) at i = own_lines e d m at (no_more m d.methods i)

  headings_are : t.headings ≡ headings_of files
  unfolding table_of
  headings_are = refl

  variables : HasVariables t
  variables = record { fields = λ c n f q. (facts.fields c n f q).type; results = λ c n m q. (facts.methods c n m q).0.result }

  contract_of : (c : ℕ) (n : List ℕ) (m : Method) → method_named t c n ≡ Some m → HasContract program m
  contract_of c n m e =
      let method = (facts.methods c n m e).0 in
      let lines = lines_of c n m e in
      has_contract program (headings_of files) m headings_are (variables, parameter_variables m.parameters method.parameters, method.result) lines.lines (λ p. omega (arith, lines.few p, few p))

pub contracts_typed : ContractsLaw
contracts_typed files more shapes faults typed few facts c n m e = contract_of files more shapes faults typed few facts c n m e
