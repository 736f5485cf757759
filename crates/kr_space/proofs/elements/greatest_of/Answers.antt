use Rattle.std.proofs.Common.{List, ap, ◌∙◌}
use Rattle.kr_fin.specs.declared.document.Item.{Item}
use Rattle.kr_space_meaning.specs.Bounds.{greatest, lengths_of, setting_of}
use Rattle.kr_space_rules.specs.Classes.{files_of}
use Rattle.kr_space.proofs.elements.greatest_of.Goals as goal

pub returns : goal.returns
returns c =
    let setting = setting_of (files_of c.args.classes.now) c.args.document.now in
    c.greatest_length.ensures setting ∙ ap (λ (xs : List Item). greatest (lengths_of setting xs)) c.as_slice.ensures
