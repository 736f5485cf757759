-- Steps of the walk.
use Rattle.std.proofs.Common.{◌≡◌, refl, sym, ap, ◌∙◌, subst, ℕ, zero, suc, ◌+◌, ◌<◌, ◌≤◌, List, [], ◌∷◌, length, map, All, arith, ◌⊎◌, inl, inr}
use Rattle.std.proofs.lemmas.List.Elements.{All-nil, All-cons, All-contains, All-weaker, All-contains_itself}
use Rattle.std.proofs.lemmas.Option.{slice_get_within}
use Rattle.std.specs.Prelude.{Contains, Some, slice_get}
use Rattle.kr_ast.specs.declared.node.Node.{Node as AstNode}
use Rattle.kr_ast.specs.declared.node.Node.TheVariants as nodes
use Rattle.kr_ast.specs.declared.node.Entry.{Entry}
use Rattle.kr_ast.specs.Arena.{ArePartsFrom, parts}
use Rattle.kr_ast.specs.Tree as trees
use Rattle.kr_ast.specs.Tree.{Tree}
use Rattle.kr_classes_table.specs.Constants.{values_of}
use Rattle.kr_types_meaning.specs.Scopes.{Scope}
use Rattle.kr_ast.specs.declared.files.NodeId.{NodeId}
use Rattle.kr_ast.specs.Files.{IsNode}
use Rattle.kr_classes_members.specs.Shown.{table_in}
use Rattle.kr_types.specs.Programs.{setting_in, scope_there}
use Rattle.kr_mean.specs.Program.{Program}
use Rattle.kr_mean.specs.Code.{Node, code_run}
use Rattle.kr_mean.specs.Purity.{IsOneOf, IsPredicateCode, root, run, roots}
use Rattle.kr_pure.specs.Seen.{IsActing, node_on}
use Rattle.kr_pure.specs.Walk.{walk_parts}
use Rattle.kr_pure.proofs.Walk.{walked}
use Rattle.kr_code_members.specs.Nodes.{arena_at, node_tree}
use Rattle.kr_space_problem.specs.declared.problem.Problem.{Problem}
use Rattle.kr_space_problem.specs.Posed.{IsPosed, posed}
use Rattle.kr_pure.specs.Found.{IsAdded}
use Rattle.kr_pure.proofs.Adding.{at_contained, contains_at, stays}
use Rattle.kr_pure.specs.Entries.{Enter, IsEntry, code_at, node_of}
use Rattle.kr_pure.specs.Reach.{AreArenas, IsBelow, IsFollowed, IsStep, beside}
use Rattle.kr_pure.proofs.Lists.{part_of_all}
use Rattle.kr_pure.proofs.Files.{all_file, file_there, some}
use Rattle.kr_pure.proofs.Reached.{runs}
use Rattle.kr_code_members.proofs.Zipped.{unmapped}

-- ---- parts

below_all : (es : List Entry) (i k : ℕ) (cs : List ℕ) → ArePartsFrom es i k cs → All (λ c. c < i) cs
below_all es i k [] h = All-nil (λ c. c < i)
below_all es i k (c ∷ cs) h = All-cons (λ c. c < i) c cs h.0.below (below_all es i (k + 1) cs h.1)

-- the parts that the walk goes into come before the node
pub parts_below : (es : List Entry) (i : ℕ) (n : AstNode) → ArePartsFrom es i 0 (parts n) → All (λ c. c < i) (walk_parts n)
parts_below es i (nodes.GenericType a b) h = All-nil (λ c. c < i)
parts_below es i (nodes.DiamondType a) h = All-nil (λ c. c < i)
parts_below es i (nodes.ArrayType a) h = All-nil (λ c. c < i)
parts_below es i n h = below_all es i 0 (parts n) h

-- ---- code that acts

pub run_acts : (program : Program) (s : Scope) (t : Tree) (m : Node) → IsOneOf m (code_run program (record { scope = s; tree = t })) → IsActing t
run_acts program s (trees.Call p n es) m h = tt
run_acts program s (trees.MethodCall p e n es) m h = tt
run_acts program s (trees.SuperCall p n es) m h = tt
run_acts program s (trees.ObjectCreation p t es) m h = tt
run_acts program s _ m h = absurd h

-- ---- below the entries

pub some_same : {A : Type 0} (x y : A) → Some x ≡ Some y → x ≡ y
some_same x y e = cc

module _ (problem : Problem) (is : IsPosed problem) (arenas : AreArenas problem.program.trees.items) where
  -- a part of a node below an entry is below it too
  onward : (n : NodeId) (e : Entry) (j c : ℕ) → n.file < length problem.program.trees.items → IsBelow problem n → slice_get (arena_at problem.program n.file).entries n.node ≡ Some e → slice_get (walk_parts e.node) j ≡ Some c → IsBelow problem (beside n c)
  onward n e j c l b at part =
      let p = problem.program in
      let files = p.trees.items in
      let f = file_there p n.file is.program l in
      let t = f.0 in
      let walk = walked (setting_in files n.file) t.scopes.bindings.items t.scopes.within.items (all_file files n.file l arenas) (f.1.typed.scopes (table_in files) (values_of (table_in files))) in
      let on : node_on (scope_there files n.file t b.from) (node_tree p n.file b.from) b.path ≡ Some (record { scope = scope_there files n.file t n.node; tree = node_tree p n.file n.node }) =
      sym (ap (λ s. node_on s (node_tree p n.file b.from) b.path) (f.1.scope b.from)) ∙ (b.on ∙ ap (λ s. Some (record { scope = s; tree = node_tree p n.file n.node })) (f.1.scope n.node)) in
      let next = walk.onward b.from n.node j c e (b.path, on) at part in
      record {
        from = b.from;
        entry = b.entry;
        code = b.code;
        path = next.0;
        on = ap (λ s. node_on s (node_tree p n.file b.from) next.0) (f.1.scope b.from) ∙ (next.1 ∙ ap (λ s. Some (record { scope = s; tree = node_tree p n.file c })) (sym (f.1.scope c)));
      }

  -- entries of the predicate's code are below themselves
  pub entered_below : (ns : List Node) (entries : List NodeId) → Enter problem.program ns entries → ((m : Node) → IsOneOf m ns → IsPredicateCode (posed problem) m) → All (IsBelow problem) entries
  entered_below ns entries enter code = All-weaker (Contains entries) (IsBelow problem) at entries (All-contains_itself entries)
    where
      at : (n : NodeId) → Contains entries n → IsBelow problem n
      at n c = record {
        from = n.node;
        entry = All-contains (IsEntry problem.program) entries n enter.stand c;
        code = λ m h. code m (subst (λ (xs : List Node). IsOneOf m xs) enter.code (part_of_all (code_at problem.program) entries n m c h));
        path = [];
        on = refl;
      }

  -- code that a node of the predicate's code runs is of the predicate's code
  run_below : (n : NodeId) (entries : List NodeId) → IsBelow problem n → Enter problem.program (code_run (posed problem).program (node_of problem.program n)) entries → All (IsBelow problem) entries
  run_below n entries b enter =
      let program = (posed problem).program in
      entered_below (code_run program (node_of problem.program n)) entries enter
      (λ m h. run (node_of problem.program n) (runs problem n b (run_acts program (node_of problem.program n).scope (node_of problem.program n).tree m h)) h)

  all_mapped : (n : NodeId) (P : NodeId → Type 0) (cs : List ℕ) → ((j c : ℕ) → slice_get cs j ≡ Some c → P (beside n c)) → All P (map (beside n) cs)
  all_mapped n P [] h = All-nil P
  all_mapped n P (c ∷ cs) h = All-cons P (beside n c) (map (beside n) cs) (h 0 c refl) (all_mapped n P cs (λ j d e. h (suc j) d e))

  pub step : (n : NodeId) (old mid new entries : List NodeId) (e : Entry) → IsNode problem.program.trees.items n → slice_get (arena_at problem.program n.file).entries n.node ≡ Some e → IsAdded old (map (beside n) (walk_parts e.node)) mid → IsAdded mid entries new
      → Enter problem.program (code_run (posed problem).program (node_of problem.program n)) entries → IsStep problem n old new
  step n old mid new entries e here at first second enter = record {
    kept = λ k m q. second.kept k m (first.kept k m q);
    followed = record {
      parts = λ x q. subst (λ (y : Entry). All (λ c. Contains new (beside n c)) (walk_parts y.node)) (some_same e x (sym at ∙ q))
          (unmapped (beside n) (Contains new) (walk_parts e.node) (All-weaker (Contains mid) (Contains new) (stays mid entries new second) (map (beside n) (walk_parts e.node)) first.there));
      runs = (entries, enter, second.there);
    };
    below = λ b all. All-weaker (λ m. Contains mid m ⊎ Contains entries m) (IsBelow problem) (λ m h. from b all m h) new second.from;
  }
    where
      parts_of : IsBelow problem n → All (IsBelow problem) (map (beside n) (walk_parts e.node))
      parts_of b = all_mapped n (IsBelow problem) (walk_parts e.node) (λ j c q. onward n e j c here.file b at q)

      middle : IsBelow problem n → All (IsBelow problem) old → (m : NodeId) → Contains old m ⊎ Contains (map (beside n) (walk_parts e.node)) m → IsBelow problem m
      middle b all m (inl c) = All-contains (IsBelow problem) old m all c
      middle b all m (inr c) = All-contains (IsBelow problem) (map (beside n) (walk_parts e.node)) m (parts_of b) c

      from : IsBelow problem n → All (IsBelow problem) old → (m : NodeId) → Contains mid m ⊎ Contains entries m → IsBelow problem m
      from b all m (inl c) = middle b all m (All-contains (λ x. Contains old x ⊎ Contains (map (beside n) (walk_parts e.node)) x) mid m first.from c)
      from b all m (inr c) = All-contains (IsBelow problem) entries m (run_below n entries b enter) c

-- a followed node stays followed when more is found
pub followed_stays : (problem : Problem) (old new : List NodeId) (n : NodeId) → ((m : NodeId) → Contains old m → Contains new m) → IsFollowed problem old n → IsFollowed problem new n
followed_stays problem old new n kept h = record {
  parts = λ e at. All-weaker (λ c. Contains old (beside n c)) (λ c. Contains new (beside n c)) (λ c. kept (beside n c)) (walk_parts e.node) (h.parts e at);
  runs = (h.runs.0, h.runs.1, All-weaker (Contains old) (Contains new) kept h.runs.0 h.runs.2);
}

-- ---- the walk

pub step_stays : (problem : Problem) (at : NodeId) (old new : List NodeId) → IsStep problem at old new → (n : NodeId) → Contains old n → Contains new n
step_stays problem at old new s n c = let k = at_contained old n c in contains_at new k.0 n (s.kept k.0 n k.1)

pub walk_more : (problem : Problem) (next : ℕ) (at : NodeId) (old new : List NodeId) → slice_get old next ≡ Some at → IsStep problem at old new → ((k : ℕ) (n : NodeId) → k < next → slice_get old k ≡ Some n → IsFollowed problem old n)
    → (k : ℕ) (n : NodeId) → k < next + 1 → slice_get new k ≡ Some n → IsFollowed problem new n
walk_more problem next at old new here s before k n l q = go (earlier_or k next l)
  where
    earlier_or : (a b : ℕ) → a < b + 1 → (a < b) ⊎ (a ≡ b)
    earlier_or a zero h = inr (omega (arith, h))
    earlier_or zero (suc b) h = inl (omega arith)
    earlier_or (suc a) (suc b) h = elim (earlier_or a b (omega (arith, h))) [ inl x ↦ inl (omega (arith, x)) | inr x ↦ inr (omega (arith, x)) ]

    go : (k < next) ⊎ (k ≡ next) → IsFollowed problem new n
    go (inl x) =
        let there = some old k (let m = slice_get_within old next at here in omega (arith, m, x)) in
        let same : there.0 ≡ n = some_same there.0 n (sym (s.kept k there.0 there.1) ∙ q) in
        followed_stays problem old new n (step_stays problem at old new s) (before k n x (there.1 ∙ ap Some same))
    go (inr x) =
        let same : at ≡ n = some_same at n (sym (s.kept next at here) ∙ (ap (slice_get new) (sym x) ∙ q)) in
        subst (IsFollowed problem new) same s.followed

pub all_by_index : (P : NodeId → Type 0) (xs : List NodeId) (next : ℕ) → length xs ≤ next → ((k : ℕ) (n : NodeId) → k < next → slice_get xs k ≡ Some n → P n) → All P xs
all_by_index P [] next l h = All-nil P
all_by_index P (x ∷ xs) zero l h = absurd (omega (arith, l))
all_by_index P (x ∷ xs) (suc next) l h = All-cons P x xs (h 0 x (omega arith) refl) (all_by_index P xs next (omega (arith, l)) (λ k n m e. h (suc k) n (omega (arith, m)) e))

-- the entries of the roots are below themselves
pub start_below : (problem : Problem) (is : IsPosed problem) (arenas : AreArenas problem.program.trees.items) (old entries new : List NodeId) → old ≡ [] → IsAdded old entries new → Enter problem.program (roots (posed problem)) entries → All (IsBelow problem) new
start_below problem is arenas old entries new none a enter = All-weaker (λ n. Contains old n ⊎ Contains entries n) (IsBelow problem) at new a.from
  where
    at : (n : NodeId) → Contains old n ⊎ Contains entries n → IsBelow problem n
    at n (inl c) = let l = c.1 in let z = ap length none in absurd (omega (arith, l, z))
    at n (inr c) = All-contains (IsBelow problem) entries n (entered_below problem is arenas (roots (posed problem)) entries enter (λ m h. root h)) c
