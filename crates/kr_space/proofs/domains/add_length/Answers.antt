use Rattle.std.proofs.Common.{◌∙◌, ◌++◌, ◌∷◌, [], List, ap, map}
use Rattle.std.proofs.lemmas.Result.{on_ok_weaker}
use Rattle.kr_fin.specs.declared.document.Item.{Item as FinItem}
use Rattle.kr_space_layout.specs.Items.{domain_of}
use Rattle.kr_classes_table.specs.Numbers.{Bits32}
use Rattle.kr_space_meaning.specs.Bounds.{values_with}
use Rattle.kr_space.specs.Basis.{setting_on}
use Rattle.kr_space.proofs.Pooled.{lengths_added}
use Rattle.kr_space.proofs.domains.add_length.Goals as goal

pub returns-clause-added : goal.returns-clause-added
returns-clause-added c =
    on_ok_weaker c.add_values.result
    (λ n. lengths_added (setting_on c.args.basis.now) c.args.domains.now.items c.add_values.new.domains.items c.args.bound.now.lengths c.requires.lengths
    (n ∙ ap (λ (is : List FinItem). map domain_of c.args.domains.now.items ++ values_with (setting_on c.args.basis.now) Bits32 is ∷ []) c.as_slice-lengths.ensures))
    c.add_values.ensures.added
