use Rattle.std.proofs.Common.{List, ◌≡◌, ◌∙◌, ap, sym}
use Rattle.std.specs.Prelude.{Some, None}
use Rattle.std.specs.Option.{option_map}
use Rattle.kr_trace.specs.declared.nodes.Node.{Node}
use Rattle.kr_trace.specs.Chains.{node_of}
use Rattle.kr_trace.proofs.Views.{found_is, none_for, some_for}
use Rattle.kr_trace.proofs.chain.Chain.find.Goals as goal

pub returns-clause-none : goal.returns-clause-none
returns-clause-none c =
    let own = c.self.inside in
    let is = found_is own.nodes.items own.first c.args.self.now c.args.number c.self.invariant c.self.view_is in
    none_for c.find.result _ _ (λ none. is ∙ ap (option_map (λ (x : Node). x.segment)) (ap (λ (ns : List Node). node_of ns c.args.number) (sym c.as_slice.ensures.value) ∙ none)) c.find.ensures.none

pub returns-clause-some : goal.returns-clause-some
returns-clause-some c =
    let own = c.self.inside in
    let is = found_is own.nodes.items own.first c.args.self.now c.args.number c.self.invariant c.self.view_is in
    some_for c.find.result _ _ (λ s some. is ∙ (ap (λ (ns : List Node). option_map (λ (x : Node). x.segment) (node_of ns c.args.number)) (sym c.as_slice.ensures.value) ∙ some)) c.find.ensures.some
