use Rattle.std.proofs.Common.{rules, ◌≡◌, ◌∙◌, ◌++◌, ◌∷◌, [], List, ap, arith, length, sym}
use Rattle.std.proofs.lemmas.Grind.{common_steps}
use Rattle.kr_shard.specs.declared.shard.Shard.{Shard}
use Rattle.kr_shard.specs.Merging.{numbered}
use Rattle.kr_shard.specs.declared.order.Given.{Given}
use Rattle.kr_shard.proofs.Orders.{onto, onto_end, onto_more, onto_none}
use Rattle.kr_shard.proofs.order.in_order.Goals as goal

pub loop-shard-init : goal.loop-shard-init
loop-shard-init c = ap (λ (l : List Given). onto (numbered 0 c.args.shards.items) l) c.new-ordered.ensures.items ∙ onto_none (numbered 0 c.args.shards.items)

pub loop-shard-preserved : goal.loop-shard-preserved
loop-shard-preserved c =
    let popped : c.loop-shard.shards.items ≡ c.pop.new.self.items ++ c.in-Some.shard ∷ [] = first_of (search rules, grind (arith, common_steps)) in
    let count : c.len.result ≡ length c.pop.new.self.items = first_of (search rules, omega arith) in
    ap (onto (numbered 0 c.pop.new.self.items)) c.in_ok-add_given.ensures
    ∙ (sym (onto_more c.pop.new.self.items c.in-Some.shard c.len.result c.loop-shard.ordered.items count)
    ∙ (ap (λ (l : List Shard). onto (numbered 0 l) c.loop-shard.ordered.items) (sym popped) ∙ c.loop-shard.invariant))

pub returns : goal.returns
returns c =
    let none : c.loop-shard.shards.items ≡ [] = first_of (search rules, grind (arith, common_steps)) in
    sym (onto_end c.loop-shard.ordered.items) ∙ (ap (λ (l : List Shard). onto (numbered 0 l) c.loop-shard.ordered.items) (sym none) ∙ c.loop-shard.invariant)
