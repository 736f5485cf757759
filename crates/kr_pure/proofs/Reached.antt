-- A completed walk has seen exactly the predicate's code.
use Rattle.std.proofs.Common.{◌≡◌, sym, ap, ◌∙◌, subst, ℕ, List, All}
use Rattle.std.proofs.lemmas.List.Elements.{All-contains, All-weaker}
use Rattle.std.specs.Prelude.{Contains, Some, slice_get}
use Rattle.kr_ast.specs.declared.node.Entry.{Entry}
use Rattle.kr_ast.specs.declared.files.NodeId.{NodeId}
use Rattle.kr_classes_table.specs.Constants.{values_of}
use Rattle.kr_classes_members.specs.Shown.{table_in}
use Rattle.kr_types_meaning.specs.Running.{running}
use Rattle.kr_types.specs.Programs.{setting_in, scope_there}
use Rattle.kr_mean.specs.Code.{Node, code_run}
use Rattle.kr_mean.specs.Purity.{IsOneOf, IsPredicateCode, root, run, roots}
use Rattle.kr_pure.specs.Seen.{IsActing, node_on, run_of}
use Rattle.kr_pure.specs.Walk.{walk_parts}
use Rattle.kr_pure.proofs.Walk.{reached}
use Rattle.kr_code_members.specs.Nodes.{IsThere, arena_at, node_scope, node_tree}
use Rattle.kr_space_problem.specs.declared.problem.Problem.{Problem}
use Rattle.kr_space_problem.specs.Posed.{IsPosed, posed}
use Rattle.kr_pure.specs.Entries.{Enter, IsEntry, code_at, node_of}
use Rattle.kr_pure.specs.Reach.{AreArenas, ArePredicateCode, IsBelow, IsFollowed, beside}
use Rattle.kr_pure.proofs.Lists.{all_at, one_of_part}
use Rattle.kr_pure.proofs.Files.{all_file, file_there}

-- the walk is complete
pub record IsReached (problem : Problem) (found : List NodeId) : Type 0 where
  pub there : All (λ n. IsThere problem.program n.file n.node) found
  pub roots : (entries : List NodeId) × Enter problem.program (roots (posed problem)) entries × All (Contains found) entries
  pub followed : All (IsFollowed problem found) found
  pub below : All (IsBelow problem) found

-- a node that acts is one of the code that was entered
pub runs : (problem : Problem) (n : NodeId) → IsBelow problem n → IsActing (node_tree problem.program n.file n.node) → IsPredicateCode (posed problem) (node_of problem.program n)
runs problem n b act = b.code (node_of problem.program n) (b.entry.seen.up b.path (record { scope = node_scope problem.program n.file n.node; tree = node_tree problem.program n.file n.node }) b.on act)

module _ (problem : Problem) (found : List NodeId) (is : IsPosed problem) (arenas : AreArenas problem.program.trees.items) (done : IsReached problem found) where
  -- a walk from an entry stays among the nodes that were found
  walked : (r : NodeId) → Contains found r → IsEntry problem.program r → (m : Node) → IsOneOf m (code_at problem.program r) → (n : NodeId) × Contains found n × (m ≡ node_of problem.program n)
  walked r there entry m h =
      let p = problem.program in
      let files = p.trees.items in
      let f = file_there p r.file is.program entry.there.file in
      let t = f.0 in
      let bs = t.scopes.bindings.items in
      let ws = t.scopes.within.items in
      let arena = all_file files r.file entry.there.file arenas in
      let scoped = f.1.typed.scopes (table_in files) (values_of (table_in files)) in
      let seen = entry.seen.down m h in
      let on : node_on (scope_there files r.file t r.node) (node_tree p r.file r.node) seen.0 ≡ Some seen.1 = sym (ap (λ s. node_on s (node_tree p r.file r.node) seen.0) (f.1.scope r.node)) ∙ seen.2 in
      let x = reached (setting_in files r.file) bs ws arena scoped (λ i. Contains found (beside r i)) closed seen.0 r.node seen.1 there entry.there.node on in
      (beside r x.0, x.1, seen.3 ∙ (ap run_of x.2 ∙ ap (λ s. record { scope = running s; tree = node_tree p r.file x.0 }) (sym (f.1.scope x.0))))
    where
      closed : (i j c : ℕ) (e : Entry) → Contains found (beside r i) → slice_get (arena_at problem.program r.file).entries i ≡ Some e → slice_get (walk_parts e.node) j ≡ Some c → Contains found (beside r c)
      closed i j c e h at part =
          let followed = All-contains (IsFollowed problem found) found (beside r i) done.followed h in
          all_at (λ k. Contains found (beside r k)) (walk_parts e.node) j c (followed.parts e at) part

  entered : (ns : List Node) → (entries : List NodeId) × Enter problem.program ns entries × All (Contains found) entries → (m : Node) → IsOneOf m ns → (n : NodeId) × Contains found n × (m ≡ node_of problem.program n)
  entered ns e m h =
      let part = one_of_part (code_at problem.program) e.0 m (subst (λ (xs : List Node). IsOneOf m xs) (sym e.1.code) h) in
      walked part.0 (All-contains (Contains found) e.0 part.0 e.2 part.1) (All-contains (IsEntry problem.program) e.0 part.0 e.1.stand part.1) m part.2

  complete : (m : Node) → IsPredicateCode (posed problem) m → (n : NodeId) × Contains found n × (m ≡ node_of problem.program n)
  complete m (root h) = entered (roots (posed problem)) done.roots m h
  complete m (run by b h) =
      let x = complete by b in
      let followed = All-contains (IsFollowed problem found) found x.0 done.followed x.1 in
      entered (code_run (posed problem).program (node_of problem.program x.0)) followed.runs m (subst (λ (k : Node). IsOneOf m (code_run (posed problem).program k)) x.2 h)

  pub all_reached : ArePredicateCode problem found
  all_reached = record {
    there = done.there;
    sound = All-weaker (IsBelow problem) _ (runs problem) found done.below;
    complete = complete;
  }
