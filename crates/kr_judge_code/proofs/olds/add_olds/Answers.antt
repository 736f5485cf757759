use Rattle.std.proofs.Common.{◌≡◌, ◌∙◌, sym, subst, inl}
use Rattle.std.specs.Prelude.{option_to_list}
use Rattle.kr_types_meaning.specs.Running.{running}
use Rattle.kr_mean.specs.Verdicts.{old_in}
use Rattle.kr_code_lowering.specs.declared.site.Site.{Site}
use Rattle.kr_code_lowering.specs.Sites.{IsHere, IsSite, scope_at, tree_at}
use Rattle.kr_judge_code.specs.Olds.{shown}
use Rattle.kr_judge_code.proofs.Walked.{begun, next_waits, shrunk, walked_on}
use Rattle.kr_judge_code.proofs.olds.add_olds.Goals as goal

pub loop-node-init : goal.loop-node-init
loop-node-init c = begun c.args.is_named c.args.program.now c.args.expression c.requires.site (inl c.requires.shape) c.args.olds.now.items c.new-waiting.result.items c.push.new.self.items c.new-waiting.ensures.items c.in_ok-push.ensures.items

pub old_of-requires-clause-site : goal.old_of-requires-clause-site
old_of-requires-clause-site c =
    subst (λ (s : Site). IsSite c.args.program.now s) (sym c.at-at.ensures)
    (next_waits c.args.is_named c.args.program.now c.args.expression c.args.olds.now.items c.loop-node.olds.items c.loop-node.waiting.items c.pop.new.self.items c.in-Some.node c.in-Some.ensures.items c.loop-node.invariant).site

pub entry-requires : goal.entry-requires
entry-requires c =
    subst (λ (s : Site). IsSite c.args.program.now s) (sym c.at-at.ensures)
    (next_waits c.args.is_named c.args.program.now c.args.expression c.args.olds.now.items c.loop-node.olds.items c.loop-node.waiting.items c.pop.new.self.items c.in-Some.node c.in-Some.ensures.items c.loop-node.invariant).site

pub loop-node-smaller : goal.loop-node-smaller
loop-node-smaller c =
    let p = c.args.program.now in
    shrunk p (record c.args.expression { node = c.in-Some.node }) c.entry.result (subst (λ (s : Site). IsHere p s c.entry.result) c.at-at.ensures c.entry.ensures) c.loop-node.waiting.items c.add_reversed.new.waiting.items c.pop.new.self.items c.as_slice.result.now
    c.in-Some.ensures.items (c.as_slice.ensures.all ∙ c.parts-parts.ensures) c.in_ok-add_reversed.ensures

pub loop-node-preserved : goal.loop-node-preserved
loop-node-preserved c =
    let p = c.args.program.now in
    let from = c.args.expression in
    walked_on c.args.is_named p c.requires.program from c.args.olds.now.items c.loop-node.olds.items c.add_found.new.items.items c.loop-node.waiting.items c.add_reversed.new.waiting.items c.pop.new.self.items c.as_slice.result.now c.in-Some.node c.entry.result
    (subst (λ (s : Site). IsHere p s c.entry.result) c.at-at.ensures c.entry.ensures) c.old_of.result
    (λ final. subst (λ (s : Site). shown p final (option_to_list c.old_of.result) ≡ old_in c.args.is_named (running (scope_at p s)) (tree_at p s)) c.at-at.ensures (c.old_of.ensures final))
    c.in-Some.ensures.items (c.as_slice.ensures.all ∙ c.parts-parts.ensures) c.in_ok-add_found.ensures c.in_ok-add_reversed.ensures c.loop-node.invariant
