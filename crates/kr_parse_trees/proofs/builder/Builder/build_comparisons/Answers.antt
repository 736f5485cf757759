use Rattle.std.proofs.Common.{◌≡◌, true, sym, ap, ◌∙◌, subst}
use Rattle.kr_parse_grammar.specs.declared.goal.Make.{Make}
use Rattle.kr_parse_grammar.specs.Made.{made}
use Rattle.kr_parse_reduction.specs.Kept.{are}
use Rattle.kr_parse_reduction.specs.Plans.{sorts}
use Rattle.kr_parse_trees.specs.Built.{values_of}
use Rattle.kr_parse_trees.proofs.Methods.{below_made, below_some}
use Rattle.kr_parse_trees.proofs.builder.Builder.build_comparisons.Goals as goal

pub compare_below-requires-clause-some : goal.compare_below-requires-clause-some
compare_below-requires-clause-some c =
    below_some c.args.self.now.values (subst (λ (m : Make). are (sorts m) c.args.self.now.values ≡ true) c.in-CompareBelow.is c.requires.values)

pub returns-in_ok-compare_below-in-CompareBelow-clause-shown : goal.returns-in_ok-compare_below-in-CompareBelow-clause-shown
returns-in_ok-compare_below-in-CompareBelow-clause-shown c =
    c.in_ok-compare_below-in-CompareBelow.ensures.shown
    ∙ below_made c.args.self.now.forest c.args.self.now.values (subst (λ (m : Make). are (sorts m) c.args.self.now.values ≡ true) c.in-CompareBelow.is c.requires.values)
    ∙ ap (λ (m : Make). made m (values_of c.args.self.now)) (sym c.in-CompareBelow.is)
