use Rattle.std.proofs.Common.{◌≡◌, ◌∷◌, [], map, ap, sym, ◌∙◌, rules}
use Rattle.kr_ast.specs.Arena.{root}
use Rattle.kr_fin.specs.declared.document.Item.TheVariants.{Range}
use Rattle.kr_space_layout.specs.Items.{domain_of}
use Rattle.kr_space_meaning.specs.Bounds.{item_values, setting_of}
use Rattle.kr_space_rules.proofs.entries.entry_of.Goals as goal

pub returns-in-Range-clause-is : goal.returns-in-Range-clause-is
returns-in-Range-clause-is c =
    let setting = setting_of (map root c.args.trees.now) c.args.document.now in
    let here : domain_of (c.range_entry.result ∷ []) ≡ item_values setting c.args.width (Range c.in-Range.from c.in-Range.to) = search rules in
    here ∙ ap (item_values setting c.args.width) (sym c.in-Range.is)
