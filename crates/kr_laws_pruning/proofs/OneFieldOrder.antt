-- The order of a class of one `int` field is the object and then its field, in every candidate: the premises hold.
use Rattle.std.proofs.Common.{◌≡◌, ℕ, ◌<◌, true, inl, inr, List, [], ◌∷◌, length, map, refl, sym, ap, ◌∙◌, subst, arith}
use Rattle.kr_ast.specs.Tree as trees
use Rattle.kr_ast.specs.Tree.{Tree}
use Rattle.kr_mean.specs.Space.{space_of, IsVector, IsRenaming, IsRenamed}
use Rattle.kr_mean.specs.Blocks.{on_slot}
use Rattle.kr_mean.specs.Heaps.{walk}
use Rattle.kr_mean.specs.Runs.{order_of}
use Rattle.kr_mean.specs.Readings.{Forks, AllBelow, AreRenamedSlots, Differ, AreIn, IsReading}
use Rattle.kr_mean.specs.Entries.{mark_of}
use Rattle.kr_classes_table.specs.Table.{table_of}
use Rattle.kr_types_meaning.specs.Scopes.{Scope}
use Rattle.kr_value.specs.declared.object.Class.TheVariants.{Object, Array, Set, List as ListClass}
use Rattle.kr_mean.specs.Program.{Program}
use Rattle.kr_mean.specs.Meaning.{NoTarget}
use Rattle.kr_mean.specs.Code.{Node, code_run}
use Rattle.kr_mean.specs.Purity.{IsOneOf, IsPure, writes_to, may_touch, roots, IsPredicateCode, root, run}
use Rattle.kr_iso.proofs.Moves.{moved_orders}
use Rattle.kr_laws_pruning.specs.Laws.{ended, IsLawful}
use Rattle.kr_value.specs.declared.object.Class.{Class}
use Rattle.kr_laws_pruning.proofs.OneFieldSpace.{Form, problem_of, space_for, spelled, is_space, slots_stay, vectors_stay}
use Rattle.kr_laws_pruning.proofs.OneFieldRun.{orders_both, walks_both}

-- ---- the code touches nothing

-- the nodes of the predicate
abbrev code_of : Form → List Tree
code_of form =
    let variable = trees.Variable form.at.variable form.field_name in
    let number = trees.Number form.at.number form.number in
    let comparison = trees.Binary form.at.comparison form.test variable number in
    trees.Return form.at.return comparison ∷ comparison ∷ variable ∷ number ∷ []

abbrev OfCode : Form → Node → Type 0
OfCode form node = IsOneOf node.tree (code_of form)

-- it runs nothing, and writes nothing
runs_nothing : (form : Form) (s : Scope) (t : Tree) → IsOneOf t (code_of form) → code_run (problem_of form).program (record { scope = s; tree = t }) ≡ []
runs_nothing form s t (inl h) = subst (λ (x : Tree). code_run (problem_of form).program (record { scope = s; tree = x }) ≡ []) h refl
runs_nothing form s t (inr (inl h)) = subst (λ (x : Tree). code_run (problem_of form).program (record { scope = s; tree = x }) ≡ []) h refl
runs_nothing form s t (inr (inr (inl h))) = subst (λ (x : Tree). code_run (problem_of form).program (record { scope = s; tree = x }) ≡ []) h refl
runs_nothing form s t (inr (inr (inr (inl h)))) = subst (λ (x : Tree). code_run (problem_of form).program (record { scope = s; tree = x }) ≡ []) h refl
runs_nothing form s t (inr (inr (inr (inr h)))) = absurd h

no_target : (program : Program) (class : Class) → writes_to program NoTarget class ≡ true → ⊥
no_target program (Object c) h = absurd (cc (h))
no_target program (Array t) h = absurd (cc (h))
no_target program Set h = absurd (cc (h))
no_target program ListClass h = absurd (cc (h))

touches_nothing : (form : Form) (s : Scope) (t : Tree) (class : Class) → IsOneOf t (code_of form) → may_touch (problem_of form).program s t class ≡ true → ⊥
touches_nothing form s t class (inl h) k = no_target (problem_of form).program class (subst (λ (x : Tree). may_touch (problem_of form).program s x class ≡ true) (sym h) k)
touches_nothing form s t class (inr (inl h)) k = no_target (problem_of form).program class (subst (λ (x : Tree). may_touch (problem_of form).program s x class ≡ true) (sym h) k)
touches_nothing form s t class (inr (inr (inl h))) k = no_target (problem_of form).program class (subst (λ (x : Tree). may_touch (problem_of form).program s x class ≡ true) (sym h) k)
touches_nothing form s t class (inr (inr (inr (inl h)))) k = no_target (problem_of form).program class (subst (λ (x : Tree). may_touch (problem_of form).program s x class ≡ true) (sym h) k)
touches_nothing form s t class (inr (inr (inr (inr h)))) k = absurd h

roots_are : (form : Form) (node : Node) → IsOneOf node (roots (problem_of form)) → OfCode form node
unfolding table_of
roots_are form node (inl h) = inl (ap (λ (n : Node). n.tree) h)
roots_are form node (inr (inl h)) = inr (inl (ap (λ (n : Node). n.tree) h))
roots_are form node (inr (inr (inl h))) = inr (inr (inl (ap (λ (n : Node). n.tree) h)))
roots_are form node (inr (inr (inr (inl h)))) = inr (inr (inr (inl (ap (λ (n : Node). n.tree) h))))
roots_are form node (inr (inr (inr (inr h)))) = absurd h

is_code : (form : Form) (node : Node) → IsPredicateCode (problem_of form) node → OfCode form node
is_code form node (root h) = roots_are form node h
is_code form node (run by h k) = absurd (subst (IsOneOf node) (runs_nothing form by.scope by.tree (is_code form by h)) k)

pub is_pure : (form : Form) → IsPure (problem_of form)
is_pure form node impure = touches_nothing form node.scope node.tree impure.1.0 (is_code form node impure.0) impure.1.1

-- ---- the premises

order_there : (form : Form) (v : List ℕ) → IsVector (space_for form) v → order_of (problem_of form) v ≡ 0 ∷ 1 ∷ []
order_there form v h = let a = spelled form v h in ap (order_of (problem_of form)) a.2 ∙ orders_both form a.0 a.1

two_slots : (form : Form) → AllBelow (space_for form).slots (0 ∷ 1 ∷ [])
unfolding space_of
two_slots form = (omega arith, (omega arith, tt))

apart : Differ (0 ∷ 1 ∷ [])
apart = ((λ e. cc, tt), (tt, tt))

-- vectors that agree along the order are one, so that every claim about one is about the other
forks_spelled : {M : Type 0} (said : List ℕ → M) (i j : ℕ) → Forks (0 ∷ i ∷ []) (0 ∷ j ∷ []) (said (0 ∷ i ∷ []) ≡ said (0 ∷ j ∷ [])) (0 ∷ 1 ∷ []) (0 ∷ 1 ∷ [])
forks_spelled said i j = (refl, λ e. (refl, λ same. ap (λ i. said (0 ∷ i ∷ [])) same))

orders_fork : {M : Type 0} (said : List ℕ → M) (form : Form) (u v : List ℕ) → IsVector (space_for form) u → IsVector (space_for form) v
    → Forks u v (said u ≡ said v) (order_of (problem_of form) u) (order_of (problem_of form) v)
orders_fork said form u v h k =
    let p = problem_of form in
    let a = spelled form u h in
    let b = spelled form v k in
    subst (λ o. Forks u v (said u ≡ said v) o (order_of p v)) (sym (order_there form u h))
    (subst (λ o. Forks u v (said u ≡ said v) (0 ∷ 1 ∷ []) o) (sym (order_there form v k))
    (subst (λ u. Forks u v (said u ≡ said v) (0 ∷ 1 ∷ []) (0 ∷ 1 ∷ [])) (sym a.2)
    (subst (λ v. Forks (0 ∷ a.0 ∷ []) v (said (0 ∷ a.0 ∷ []) ≡ said v) (0 ∷ 1 ∷ []) (0 ∷ 1 ∷ [])) (sym b.2) (forks_spelled said a.0 b.0))))

order_below : (form : Form) (v : List ℕ) → IsVector (space_for form) v → AllBelow (space_for form).slots (order_of (problem_of form) v)
order_below form v h = subst (λ o. AllBelow (space_for form).slots o) (sym (order_there form v h)) (two_slots form)

orders_rename : (form : Form) (name : ℕ → ℕ → ℕ) (v w : List ℕ) → IsRenaming (space_for form) name → IsVector (space_for form) v → IsRenamed (space_for form) name v w
    → AreRenamedSlots (space_for form) name (order_of (problem_of form) v) (order_of (problem_of form) w)
orders_rename form name v w r h m =
    let a = spelled form v h in
    let there : order_of (problem_of form) w ≡ map (on_slot (space_for form) name) (order_of (problem_of form) v) =
    order_there form w m.vector ∙ (sym (slots_stay form name r) ∙ ap (map (on_slot (space_for form) name)) (sym (order_there form v h))) in
    subst (AreRenamedSlots (space_for form) name (order_of (problem_of form) v)) (sym there)
    (moved_orders (space_for form) (is_space form (omega (arith, a.1))) name r (order_of (problem_of form) v) (order_below form v h))

pub is_reading : (form : Form) → IsReading (space_for form) (order_of (problem_of form)) (mark_of (problem_of form))
is_reading form = record {
  below = order_below form;
  once = λ v h. subst (λ o. Differ o) (sym (order_there form v h)) apart;
  forks = orders_fork (mark_of (problem_of form)) form;
  renames = orders_rename form;
}

both_there : AreIn (0 ∷ 1 ∷ []) (0 ∷ 1 ∷ [])
both_there = (inl refl, (inr (inl refl), tt))

reads_reachable : (form : Form) (v : List ℕ) → IsVector (space_for form) v → AreIn (order_of (problem_of form) v) (walk (problem_of form) v)
reads_reachable form v h =
    let a = spelled form v h in
    let walked : walk (problem_of form) v ≡ 0 ∷ 1 ∷ [] = ap (walk (problem_of form)) a.2 ∙ walks_both form a.0 a.1 in
    subst (λ o. AreIn o (walk (problem_of form) v)) (sym (order_there form v h)) (subst (λ w. AreIn (0 ∷ 1 ∷ []) w) (sym walked) both_there)

pub is_lawful : (form : Form) → 0 < length form.values → IsLawful (problem_of form)
is_lawful form h = record {
  space = is_space form h;
  reading = is_reading form;
  agreed = orders_fork (ended (problem_of form)) form;
  ends = λ name v w r k m. ap (ended (problem_of form)) (vectors_stay form name v w r k m);
  reachable = reads_reachable form;
}
