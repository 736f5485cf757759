use Rattle.std.proofs.Common.{Some, refl, sym, ap, ◌∙◌}
use Rattle.kr_parse_reduction.specs.declared.value.Kept.{Kept}
use Rattle.kr_parse_trees.proofs.Tagged.{tag_of_top}
use Rattle.kr_parse_trees.proofs.builder.Builder.tag.Goals as goal

pub returns-in-Pair : goal.returns-in-Pair
returns-in-Pair c = sym (tag_of_top c.args.self.now.forest c.args.self.now.values _ _ (sym (c.top.ensures ∙ ap (λ (v : Kept). Some v) c.in-Pair.is)) (λ us. refl))

pub returns-in-Member : goal.returns-in-Member
returns-in-Member c =
    c.tag_of_member.ensures ∙ sym (tag_of_top c.args.self.now.forest c.args.self.now.values _ _ (sym (c.top.ensures ∙ ap (λ (v : Kept). Some v) c.in-Member.is)) (λ us. refl))

pub returns-in-Mark : goal.returns-in-Mark
returns-in-Mark c = sym (tag_of_top c.args.self.now.forest c.args.self.now.values _ _ (sym (c.top.ensures ∙ ap (λ (v : Kept). Some v) c.in-Mark.is)) (λ us. refl))

pub returns-in-Owner : goal.returns-in-Owner
returns-in-Owner c = sym (tag_of_top c.args.self.now.forest c.args.self.now.values _ _ (sym (c.top.ensures ∙ ap (λ (v : Kept). Some v) c.in-Owner.is)) (λ us. refl))
