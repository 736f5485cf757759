use Rattle.std.proofs.Common.{ℕ, List, ◌∷◌, [], sym, subst}
use Rattle.kr_ast.specs.Arena.{AreNamesIn}
use Rattle.kr_parse_reduction.specs.declared.value.Kept.{Kept}
use Rattle.kr_parse_reduction.specs.declared.value.Kept.TheVariants.{Pair}
use Rattle.kr_parse_reduction.specs.Shown.{names_of}
use Rattle.kr_parse_trees.proofs.Chains.{name_fits, field_fits}
use Rattle.kr_parse_trees.proofs.builder.Builder.put_operand.Goals as goal

pub put-requires-clause-fits : goal.put-requires-clause-fits
put-requires-clause-fits c =
    let n = subst (λ (v : Kept). AreNamesIn c.args.self.now.forest.text (names_of (v ∷ []))) c.in-Word.is c.requires.named in
    rw c.tree.ensures (name_fits c.args.self.now.forest.text c.args.self.now.values _ _ _ n.0 n.1)

pub put-requires-in-Pair-clause-fits : goal.put-requires-in-Pair-clause-fits
put-requires-in-Pair-clause-fits c =
    let n = subst (λ (v : Kept). AreNamesIn c.args.self.now.forest.text (names_of (v ∷ []))) c.in-Pair.is c.requires.named in
    rw c.tree-in-Pair.ensures (name_fits c.args.self.now.forest.text c.args.self.now.values _ _ _ n.0 n.1)

pub put-requires-in-Pair-2-clause-fits : goal.put-requires-in-Pair-2-clause-fits
put-requires-in-Pair-2-clause-fits c =
    let o = c.in_ok-put-in-Pair.ensures in
    let n = subst (λ (v : Kept). AreNamesIn c.args.self.now.forest.text (names_of (v ∷ []))) c.in-Pair.is c.requires.named in
    let m = subst (λ (text : List ℕ). AreNamesIn text (names_of (Pair c.in-Pair.place c.in-Pair.outer c.in-Pair.name ∷ []))) (sym o.text) n in
    let k = rw c.tree-in-Pair.ensures at o.kept.1 in
    rw (c.tree-in-Pair-2.ensures, c.node-object.ensures)
    (field_fits c.put-in-Pair.new.self.forest.text c.args.self.now.values c.put-in-Pair.new.self.values c.in-Pair.place c.in-Pair.outer c.in-Pair.name o.kept.0 m.2.0 m.2.1 k)
