use Rattle.std.proofs.Common.{◌<◌, ◌∙◌, List, ℕ, ap, length, rules}
use Rattle.kr_classes_members.specs.Shown.{field_shown}
use Rattle.kr_space_rules.specs.Classes.{files_of}
use Rattle.kr_space.specs.Basis.{setting_on}
use Rattle.kr_space.specs.Pools.{fields_given, pool}
use Rattle.kr_space.proofs.Laid.{spots_next}
use Rattle.kr_space.proofs.object_domains.field_spots.Goals as goal

pub loop-at-preserved : goal.loop-at-preserved
loop-at-preserved c =
    let setting = setting_on c.args.basis.now in
    let document = c.args.basis.now.document.now in
    let inside : c.loop-at.at < length c.in_ok-fields.fields.items = search rules in
    spots_next (files_of c.args.basis.now.classes.now) document (pool setting document) _ c.loop-at.spots c.push.new.self (field_shown c.args.basis.now.classes.now.trees.now) c.in_ok-fields.fields.items c.loop-at.at c.field_domain.result c.index.result.now inside c.index.ensures
    (c.field_domain.ensures setting ∙ ap (λ (key : List ℕ). fields_given setting document key) (c.deref.ensures.value ∙ c.in_ok-key.ensures))
    c.in_ok-push.ensures.added c.loop-at.invariant
