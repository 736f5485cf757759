-- The conditions, by the numbers of their nodes.
use Rattle.std.proofs.Common.{◌≡◌, refl, sym, ap, ◌∙◌, ℕ, ◌+◌, ◌<◌, get_or, List, [], ◌∷◌, ◌++◌, length, map, subst, arith, append-nil, Option, Some, None}
use Rattle.std.specs.Prelude.{flat_map, option_to_list}
use Rattle.kr_classes_table.specs.Table.{Method, items}
use Rattle.kr_types_meaning.specs.Running.{running}
use Rattle.kr_laws_types.specs.Derivation.{AreContractLines}
use Rattle.kr_mean.specs.Code as meaning
use Rattle.kr_mean.specs.Program.{method_scope}
use Rattle.kr_mean.specs.Runs.{conditions, rep_ok_node, requires_of, tested_method}
use Rattle.kr_mean.specs.Verdicts.{olds_in, signals_from}
use Rattle.kr_classes_names.specs.Types.{type_at}
use Rattle.kr_types.specs.declared.program.Program.{Program}
use Rattle.kr_space_problem.specs.declared.problem.Problem.{Problem}
use Rattle.kr_space_problem.specs.Posed.{posed}
use Rattle.kr_classes_members.specs.Rosters.{all_methods, method_numbered, no_method}
use Rattle.kr_code_lowering.specs.declared.site.Site.{Site}
use Rattle.kr_code_lowering.specs.Origins.{Final, coded_count, node_scope, node_tree, nothing, numbering_of, origin_of, others_from}
use Rattle.kr_code_lowering.specs.Sites.{scope_at, tree_at}
use Rattle.kr_code_lowering.specs.Calls.{IsFound}
use Rattle.kr_code_lowering.proofs.Numbers.{origin_behind}
use Rattle.kr_code_members.specs.declared.nodes.MemberNodes.{MemberNodes}
use Rattle.kr_code_members.specs.declared.nodes.MethodNode.{MethodNode}
use Rattle.kr_code_members.specs.Nodes.{AreMemberNodes, IsMethodNode, table, run_program}
use Rattle.kr_code.specs.declared.code.Code.{Code}
use Rattle.kr_code.specs.Resolved.{IsMethod, Numbering}
use Rattle.kr_code_lowering.proofs.Called.{there}
use Rattle.kr_judge_prepared.specs.Tested.{IsCodeFor, IsContractOf, IsTestedBy, old_shown, signals_shown}
use Rattle.kr_judge_prepared.specs.declared.contract.Contract.{Contract}
use Rattle.kr_judge_prepared.specs.declared.contract.OldCode.{OldCode}
use Rattle.kr_judge_prepared.specs.declared.contract.SignalCode.{SignalCode}
use Rattle.kr_judge_prepared.specs.declared.contract.ProblemCode.{ProblemCode}
use Rattle.kr_judge_code.specs.Lines.{ensured}
use Rattle.kr_judge_code.specs.Olds.{AreAdded}
use Rattle.kr_judge_code.specs.Compiled.{HasMethods, IsCompiled, call_nodes, final_of}
use Rattle.std.proofs.lemmas.Option.{get_or_from_slice_get, slice_get_read}

-- the call is the first node after those of the files
pub call_first : (problem : Problem) (final : Final) → final.nodes ≡ call_nodes problem → (k : ℕ) → k ≡ coded_count problem.program → coded_count problem.program < others_from problem.program → (numbering_of problem.program final).origin k ≡ rep_ok_node (posed problem)
call_first problem final is k e room =
    let p = problem.program in
    let k' : k ≡ coded_count p + 0 = omega (arith, e) in
    ap (origin_of p final.nodes) k' ∙ (origin_behind p final.nodes 0 (omega (arith, room)) ∙ ap (λ (ns : List meaning.Node). get_or ns 0 (nothing p)) is)

-- the nodes of the method of a number
pub method_node : (p : Program) (ns : MemberNodes) → AreMemberNodes p ns → (k : ℕ) → k < length (all_methods (table p)) → (x : MethodNode) → x ≡ get_or ns.methods.items k x → IsMethodNode p (method_numbered (table p) k) x
method_node p ns are k h x e =
    let within : k < length ns.methods.items = omega (arith, h, are.method_count) in
    are.methods k x (slice_get_read ns.methods.items (length ns.methods.items) k x refl within e)

-- the scope and the lines of a method's contract
pub lines_stand : (p : Program) (m : Method) (n : MethodNode) → IsMethodNode p m n → (s : Site) → s.file ≡ n.file → s.node ≡ n.contracts → (arrays : List ℕ) → running (scope_at p s) ≡ method_scope (run_program p arrays) m
lines_stand p m n is s f i arrays = ap (λ (g : ℕ). running (node_scope p g s.node)) f ∙ (ap (λ (j : ℕ). running (node_scope p n.file j)) i ∙ is.contracts_scope (map (type_at p.table.types) arrays))

pub lines_are : (p : Program) (m : Method) (n : MethodNode) → IsMethodNode p m n → (s : Site) → s.file ≡ n.file → s.node ≡ n.contracts → items (tree_at p s) ≡ m.contracts
lines_are p m n is s f i = ap (λ (g : ℕ). items (node_tree p g s.node)) f ∙ (ap (λ (j : ℕ). items (node_tree p n.file j)) i ∙ is.contracts)

-- of a method under test by its number
pub tested_conditions : (problem : Problem) (k : ℕ) → IsFound problem.program (Some k) (tested_method (posed problem) (posed problem).mode)
    → conditions (posed problem) ≡ rep_ok_node (posed problem) ∷ [] ++ requires_of (posed problem).program (method_numbered (table problem.program) k)
tested_conditions problem k w =
    let same : method_numbered (table problem.program) k ≡ w.0 = get_or_from_slice_get _ k w.0 (no_method (table problem.program)) w.2 in
    ap (λ (o : Option Method). rep_ok_node (posed problem) ∷ flat_map (requires_of (posed problem).program) (option_to_list o)) w.1
    ∙ (ap (λ (ns : List meaning.Node). rep_ok_node (posed problem) ∷ ns) (append-nil (requires_of (posed problem).program w.0)) ∙ ap (λ (m : Method). rep_ok_node (posed problem) ∷ requires_of (posed problem).program m) (sym same))

pub no_tested_conditions : (problem : Problem) → IsFound problem.program None (tested_method (posed problem) (posed problem).mode) → conditions (posed problem) ≡ rep_ok_node (posed problem) ∷ []
no_tested_conditions problem none = ap (λ (o : Option Method). rep_ok_node (posed problem) ∷ flat_map (requires_of (posed problem).program) (option_to_list o)) none

pub lines_shape : (p : Program) (m : Method) (n : MethodNode) → IsMethodNode p m n → (s : Site) → s.file ≡ n.file → s.node ≡ n.contracts → AreContractLines (tree_at p s)
lines_shape p m n is s f i = subst AreContractLines (sym (ap (λ (g : ℕ). node_tree p g s.node) f ∙ ap (λ (j : ℕ). node_tree p n.file j) i)) is.contracts_shape

-- the call alone
pub call_alone : (problem : Problem) (final : Final) → final.nodes ≡ call_nodes problem → (k : ℕ) → k ≡ coded_count problem.program → coded_count problem.program < others_from problem.program → (old new : List ℕ) → old ≡ [] → new ≡ old ++ k ∷ [] → map (numbering_of problem.program final).origin new ≡ rep_ok_node (posed problem) ∷ []
call_alone problem final is k e room old new none pushed =
    let o = (numbering_of problem.program final).origin in
    ap (map o) (pushed ∙ ap (λ (ks : List ℕ). ks ++ k ∷ []) none) ∙ ap (λ (n : meaning.Node). n ∷ []) (call_first problem final is k e room)

-- ---- the contract of the method under test

-- the method of a number, with what is asked after its body
pub contract_is : (problem : Problem) (k : ℕ) → k < length (all_methods (table problem.program)) → (lines : Site) (x : MethodNode) → IsMethodNode problem.program (method_numbered (table problem.program) k) x → lines.file ≡ x.file → lines.node ≡ x.contracts
    → (final : Final) (code : Code) → HasMethods problem code → (none contract : Contract) → none.method ≡ k → none.olds.items ≡ [] → none.postconditions.items ≡ [] → none.signals.items ≡ []
    → AreAdded (numbering_of problem.program final) (method_scope (posed problem).program (method_numbered (table problem.program) k)) (items (tree_at problem.program lines)) none contract
    → IsContractOf (posed problem).program code (numbering_of problem.program final) (method_numbered (table problem.program) k) contract
contract_is problem k h lines x is file node final code methods none contract number no_olds no_conditions no_signals added =
    let p = problem.program in
    let m = method_numbered (table p) k in
    let n = numbering_of p final in
    let scope = method_scope (posed problem).program m in
    let same : items (tree_at p lines) ≡ m.contracts = lines_are p m x is lines file node in
    let body = there code.methods.items k (let e = methods in omega (arith, e, h)) in
    record {
      method = subst (λ (j : ℕ). IsMethod code n m j) (sym (added.method ∙ number)) (record { is = refl; body = body.0; there = body.1 });
      olds =
          added.olds ∙ (ap (λ (os : List OldCode). map (old_shown n) os ++ flat_map (olds_in scope) (items (tree_at p lines))) no_olds
          ∙ ap (flat_map (olds_in scope)) same);
      postconditions =
          added.postconditions ∙ (ap (λ (ks : List ℕ). map n.origin ks ++ ensured scope (items (tree_at p lines))) no_conditions
          ∙ ap (ensured scope) same);
      signals =
          added.signals ∙ (ap (λ (cs : List SignalCode). signals_shown n 1 cs ++ signals_from scope (length cs + 1) (items (tree_at p lines))) no_signals
          ∙ ap (signals_from scope 1) same);
    }

-- a method is tested, or none
pub none_tested : (problem : Problem) (code : Code) (n : Numbering) → IsFound problem.program None (tested_method (posed problem) (posed problem).mode) → IsTestedBy (posed problem).program code n (tested_method (posed problem) (posed problem).mode) None
none_tested problem code n none = subst (λ (m : Option Method). IsTestedBy (posed problem).program code n m None) (sym none) tt

pub one_tested : (problem : Problem) (code : Code) (n : Numbering) (k : ℕ) → IsFound problem.program (Some k) (tested_method (posed problem) (posed problem).mode) → (contract : Contract) → IsContractOf (posed problem).program code n (method_numbered (table problem.program) k) contract
    → IsTestedBy (posed problem).program code n (tested_method (posed problem) (posed problem).mode) (Some contract)
one_tested problem code n k w contract is =
    let same : method_numbered (table problem.program) k ≡ w.0 = get_or_from_slice_get _ k w.0 (no_method (table problem.program)) w.2 in
    subst (λ (m : Option Method). IsTestedBy (posed problem).program code n m (Some contract)) (sym w.1) (subst (λ (m : Method). IsContractOf (posed problem).program code n m contract) same is)

-- the whole
pub code_for : (problem : Problem) (made : ProblemCode) → IsCompiled problem made.predicate.code → ((final : Final) → final.nodes ≡ call_nodes problem → coded_count problem.program < others_from problem.program → map (numbering_of problem.program final).origin made.predicate.conditions.items ≡ conditions (posed problem))
    → ((final : Final) (code : Code) → HasMethods problem code → IsTestedBy (posed problem).program code (numbering_of problem.program final) (tested_method (posed problem) (posed problem).mode) made.contract) → IsCodeFor (posed problem) made
code_for problem made is hold tested =
    let final = final_of problem is.names in
    ∣ (numbering_of problem.program final, record { code = is.is; conditions = hold final refl is.room }, tested final made.predicate.code is.methods) ∣₁
