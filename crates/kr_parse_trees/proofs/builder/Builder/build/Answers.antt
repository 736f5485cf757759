use Rattle.std.proofs.Common.{◌≡◌, true, false, sym, ap, subst, ◌∙◌}
use Rattle.kr_parse_grammar.specs.declared.goal.Make.{Make}
use Rattle.kr_parse_grammar.specs.Made.{made}
use Rattle.kr_parse_reduction.specs.Kept.{are}
use Rattle.kr_parse_reduction.specs.Plans.{sorts}
use Rattle.kr_parse_trees.specs.Built.{values_of}
use Rattle.kr_parse_reduction.proofs.Planned.{one_node}
use Rattle.kr_parse_trees.proofs.Methods.{is_method, is_swap}
use Rattle.kr_parse_trees.proofs.Contracted.{is_contracted}
use Rattle.kr_parse_reduction.proofs.Stays.{stays}
use Rattle.kr_parse_trees.proofs.builder.Builder.build.Goals as goal

pub put-requires-clause-fits : goal.put-requires-clause-fits
put-requires-clause-fits c =
    let e : are (sorts c.args.make) c.args.self.now.values ≡ true = ap (λ ss. are ss c.args.self.now.values) (sym c.sorts_of.ensures) ∙ sym c.are.ensures ∙ c.if-not-are.false in
    (one_node c.args.make c.args.self.now.forest c.args.self.now.values c.plan_of-node.result (sym c.way_of.ensures ∙ c.in-Node.is) e c.requires c.plan_of-node.ensures).0

pub returns-in_ok-put-in-Node-clause-shown : goal.returns-in_ok-put-in-Node-clause-shown
returns-in_ok-put-in-Node-clause-shown c =
    let e : are (sorts c.args.make) c.args.self.now.values ≡ true = ap (λ ss. are ss c.args.self.now.values) (sym c.sorts_of.ensures) ∙ sym c.are.ensures ∙ c.if-not-are.false in
    c.in_ok-put-in-Node.ensures.shown
    ∙ (one_node c.args.make c.args.self.now.forest c.args.self.now.values c.plan_of-node.result (sym c.way_of.ensures ∙ c.in-Node.is) e c.requires c.plan_of-node.ensures).1

pub method-requires-clause-values : goal.method-requires-clause-values
method-requires-clause-values c =
    let e : are (sorts c.args.make) c.args.self.now.values ≡ true = ap (λ ss. are ss c.args.self.now.values) (sym c.sorts_of.ensures) ∙ sym c.are.ensures ∙ c.if-not-are.false in
    subst (λ (m : Make). are (sorts m) c.args.self.now.values ≡ true) (is_method c.args.make (sym c.way_of.ensures ∙ c.in-Method.is)) e

pub contracted_method-requires-clause-values : goal.contracted_method-requires-clause-values
contracted_method-requires-clause-values c =
    let e : are (sorts c.args.make) c.args.self.now.values ≡ true = ap (λ ss. are ss c.args.self.now.values) (sym c.sorts_of.ensures) ∙ sym c.are.ensures ∙ c.if-not-are.false in
    subst (λ (m : Make). are (sorts m) c.args.self.now.values ≡ true) (is_contracted c.args.make (sym c.way_of.ensures ∙ c.in-ContractedMethod.is)) e

pub returns-then-not-are-clause-shown : goal.returns-then-not-are-clause-shown
returns-then-not-are-clause-shown c =
    let e : are (sorts c.args.make) c.args.self.now.values ≡ false = ap (λ ss. are ss c.args.self.now.values) (sym c.sorts_of.ensures) ∙ sym c.are.ensures ∙ c.if-not-are.true in
    sym (stays c.args.make c.args.self.now.forest c.args.self.now.values e)

pub swap-requires-clause-values : goal.swap-requires-clause-values
swap-requires-clause-values c =
    let e : are (sorts c.args.make) c.args.self.now.values ≡ true = ap (λ ss. are ss c.args.self.now.values) (sym c.sorts_of.ensures) ∙ sym c.are.ensures ∙ c.if-not-are.false in
    subst (λ (m : Make). are (sorts m) c.args.self.now.values ≡ true) (is_swap c.args.make (sym c.way_of.ensures ∙ c.in-Swap.is)) e

pub returns-in-Swap-clause-shown : goal.returns-in-Swap-clause-shown
returns-in-Swap-clause-shown c =
    c.swap.ensures.shown ∙ ap (λ (m : Make). made m (values_of c.args.self.now)) (sym (is_swap c.args.make (sym c.way_of.ensures ∙ c.in-Swap.is)))
