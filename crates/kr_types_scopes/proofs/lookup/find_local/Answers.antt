use Rattle.std.proofs.Common.{◌-◌, ◌∙◌, sym, refl, arith}
use Rattle.std.proofs.lemmas.Slice.Eq.{slice_eq-Decides}
use Rattle.std.proofs.lemmas.Bool.{both_ways}
use Rattle.std.proofs.lemmas.Bool.Decides.{Decides-eqb}
use Rattle.kr_types_scopes.proofs.Looking.{newest_there, below_less, meant_same, meant_other, meant_none}
use Rattle.kr_types_scopes.proofs.lookup.find_local.Goals as goal

pub loop-at-init : goal.loop-at-init
loop-at-init c = record { within = c.requires.top; same = λ t v f. refl }

pub name-own-requires : goal.name-own-requires
name-own-requires c =
    c.requires.named (c.loop-at.at - 1) c.index-binding.result.now
    (newest_there c.args.tree.now c.args.bindings.now.items c.requires.chain c.loop-at.at c.index-binding.result.now c.loop-at.invariant.within c.loop-at-test.true c.index-binding.ensures)

pub returns-then-eq-clause-found : goal.returns-then-eq-clause-found
returns-then-eq-clause-found c t v f =
    let same = slice_eq-Decides Decides-eqb _ _ _ c.eq.ensures in
    sym (c.loop-at.invariant.same t v f)
    ∙ meant_same c.args.tree.now c.args.bindings.now.items c.requires.chain c.loop-at.at c.index-binding.result.now c.loop-at.invariant.within c.loop-at-test.true c.index-binding.ensures c.args.name.now
    (sym c.name-own.ensures ∙ same.0 c.if-eq.true) t v f

pub loop-at-smaller : goal.loop-at-smaller
loop-at-smaller c = below_less c.args.tree.now c.args.bindings.now.items c.requires.chain c.loop-at.at c.index-binding.result.now c.loop-at.invariant.within c.loop-at-test.true c.index-binding.ensures

pub loop-at-preserved : goal.loop-at-preserved
loop-at-preserved c =
    let same = slice_eq-Decides Decides-eqb _ _ _ c.eq.ensures in
    let less = below_less c.args.tree.now c.args.bindings.now.items c.requires.chain c.loop-at.at c.index-binding.result.now c.loop-at.invariant.within c.loop-at-test.true c.index-binding.ensures in
    record {
      within = omega (arith, less, c.loop-at.invariant.within);
      same = λ t v f.
          meant_other c.args.tree.now c.args.bindings.now.items c.requires.chain c.loop-at.at c.index-binding.result.now c.loop-at.invariant.within c.loop-at-test.true c.index-binding.ensures c.args.name.now
          (λ e. both_ways c.eq.result c.if-eq.false (same.1 (c.name-own.ensures ∙ e))) t v f
          ∙ c.loop-at.invariant.same t v f;
    }

pub returns-clause-none : goal.returns-clause-none
returns-clause-none c t v f = sym (c.loop-at.invariant.same t v f) ∙ meant_none c.args.tree.now c.args.bindings.now.items c.loop-at.at c.args.name.now (omega arith) t v f
