use Rattle.std.proofs.Common.{◌+◌, refl, sym, ◌∙◌, subst}
use Rattle.kr_parse_trees.specs.Chain.{Compares}
use Rattle.kr_parse_trees.proofs.Chains.{below_move, below_none}
use Rattle.kr_parse_trees.proofs.builder.Builder.compare_below.Goals as goal

pub put_again-requires-clause-fits : goal.put_again-requires-clause-fits
put_again-requires-clause-fits c =
    let e = subst (Compares c.args.self.now.forest c.args.self.now.values c.compare.new.self.forest c.compare.new.self.values 1) c.in-Some.is c.in_ok-used.ensures in
    rw (c.value-top.ensures, c.peek-below.ensures) (below_move c.args.self.now.forest c.compare.new.self.forest c.args.self.now.values c.compare.new.self.values e.0 c.in-Some.past (c.in-Some.past + 1) refl e.1 e.3 e.2).0

pub returns-in_ok-put_again-in-Some-clause-shown : goal.returns-in_ok-put_again-in-Some-clause-shown
returns-in_ok-put_again-in-Some-clause-shown c =
    let e = subst (Compares c.args.self.now.forest c.args.self.now.values c.compare.new.self.forest c.compare.new.self.values 1) c.in-Some.is c.in_ok-used.ensures in
    let s = rw (c.value-top.ensures, c.peek-below.ensures) at c.in_ok-put_again-in-Some.ensures.shown in
    s ∙ (below_move c.args.self.now.forest c.compare.new.self.forest c.args.self.now.values c.compare.new.self.values e.0 c.in-Some.past (c.in-Some.past + 1) refl e.1 e.3 e.2).1

pub returns-in-None-clause-shown : goal.returns-in-None-clause-shown
returns-in-None-clause-shown c =
    let e = subst (Compares c.args.self.now.forest c.args.self.now.values c.compare.new.self.forest c.compare.new.self.values 1) c.in-None.is c.in_ok-used.ensures in
    e.1 ∙ sym (below_none c.args.self.now.forest c.args.self.now.values e.2)
