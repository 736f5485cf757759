use Rattle.std.proofs.Common.{subst, ℕ, arith}
use Rattle.std.specs.Prelude.{Option}
use Rattle.kr_classes.specs.Faults.{IsLeft}
use Rattle.kr_classes.proofs.Lines.{start, step, found, at_end, past}
use Rattle.kr_classes.proofs.name_rules.is_own_ancestor.Goals as goal

pub loop-turn-init : goal.loop-turn-init
loop-turn-init c = record {
  within = λ d e. c.requires.below c.args.class d e;
  left = start c.args.supers.now c.args.class c.requires.class;
}

pub loop-turn-preserved : goal.loop-turn-preserved
loop-turn-preserved c =
    let supers = c.args.supers.now in
    let i = c.loop-turn.turn in
    let above = c.in-Some.above in
    let left = subst (λ (o : Option ℕ). IsLeft supers c.args.class i o) c.in-Some.is c.loop-turn.invariant.left in
    record {
      within = λ d e. c.requires.below above d e;
      left = step supers c.args.class i above (omega arith) (c.loop-turn.invariant.within above c.in-Some.is) c.if-above-class.false left;
    }

pub returns-in-None : goal.returns-in-None
returns-in-None c =
    let supers = c.args.supers.now in
    at_end supers c.args.class c.loop-turn.turn (subst (λ (o : Option ℕ). IsLeft supers c.args.class c.loop-turn.turn o) c.in-None.is c.loop-turn.invariant.left)

pub returns-then-above-class : goal.returns-then-above-class
returns-then-above-class c =
    let supers = c.args.supers.now in
    let i = c.loop-turn.turn in
    found supers c.args.class i c.in-Some.above (omega arith) c.if-above-class.true (subst (λ (o : Option ℕ). IsLeft supers c.args.class i o) c.in-Some.is c.loop-turn.invariant.left)

pub returns : goal.returns
returns c = past c.args.supers.now c.args.class c.loop-turn.turn c.loop-turn.at (omega arith) c.loop-turn.invariant.left
