use Rattle.std.proofs.Common.{◌≡◌, ◌-◌, ◌∙◌, ℕ, List, length, ap, subst, arith, replicate, sym}
use Rattle.kr_types_scopes.specs.declared.within.Within.{Within}
use Rattle.kr_types_scopes.specs.declared.within.Binding.{Binding}
use Rattle.kr_types_scopes.specs.Scoped.{AreScopes, AreStarts, nowhere}
use Rattle.kr_types_scopes.proofs.Chains.{chain_none}
use Rattle.kr_types_scopes.proofs.Handed.{AreDone, scoped_of, done_step, done_start}
use Rattle.kr_types_scopes.proofs.scopes.Scopes.of.Goals as goal

pub loop-at-init : goal.loop-at-init
loop-at-init c =
    let tree = c.args.tree.now in
    let some = c.nodes-nodes.ensures.arena.some in
    let all : c.in_ok-within.within.items ≡ replicate (length tree.entries) nowhere = c.in_ok-within.ensures ∙ ap (λ n. replicate n nowhere) c.nodes-nodes.ensures.count in
    record {
      bound = omega (arith, c.nodes-nodes.ensures.count, some);
      none = c.new-tasks.ensures;
      done = rw c.new-bindings.ensures.items (done_start tree c.in_ok-within.within.items (c.nodes-nodes.result - 1) chain_none all (omega (arith, c.nodes-nodes.ensures.count, some)));
    }

pub loop-at-preserved : goal.loop-at-preserved
loop-at-preserved c =
    let inv = c.loop-at.invariant in
    let placed = c.in_ok-add_scope.ensures.placed in
    record {
      bound = omega (arith, inv.bound);
      none = c.in_ok-add_scope.ensures.none;
      done = subst (λ (ws : List Within). AreDone c.args.tree.now c.add_scope.new.bindings.items ws (c.loop-at.at - 1)) (sym placed.items)
          (done_step c.args.tree.now c.nodes-nodes.ensures.arena c.loop-at.bindings.items c.add_scope.new.bindings.items c.loop-at.within.items (c.loop-at.at - 1) c.loop-at.at placed.made inv.done
          (omega (arith, c.loop-at-test.true)) inv.bound placed.handed);
    }

pub returns : goal.returns
returns c =
    let tree = c.args.tree.now in
    let bs = c.loop-at.bindings.items in
    let ws = c.loop-at.within.items in
    let ss = c.in_ok-starts.starts.items in
    let zero_is : c.loop-at.at ≡ 0 = omega arith in
    subst (λ (us : List Within). AreScopes tree bs us) (sym c.new-within.ensures)
    (scoped_of tree c.nodes-nodes.ensures.arena bs ws ss (subst (λ (k : ℕ). AreDone tree bs ws k) zero_is c.loop-at.invariant.done) c.in_ok-starts.ensures.count
    (subst (λ (xs : List Binding). AreStarts tree xs ws ss 0) c.deref.ensures.value c.in_ok-starts.ensures.starts))
