use Rattle.std.proofs.Common.{◌≡◌, refl, sym, ap, ◌∙◌, List, map}
use Rattle.std.specs.Prelude.{Option, Some, slice_get}
use Rattle.std.proofs.lemmas.Option.{slice_get-get_or}
use Rattle.kr_ast.specs.Arena.{Arena, root}
use Rattle.kr_classes_table.specs.Table.{Field, headings_of, number_of, table_of}
use Rattle.kr_types_meaning.specs.Scopes.{field_or_none}
use Rattle.kr_classes_members.specs.Shown.{table_in}
use Rattle.kr_classes_members.specs.Rosters.{all_fields, field_numbered, no_field}
use Rattle.kr_types_resolving.specs.Meanings.{class_meaning, field_meaning, name_meaning}
use Rattle.kr_types_resolving.proofs.names.unbound_meaning.Goals as goal

headings_are : (files : List Arena) → headings_of (map root files) ≡ (table_in files).headings
unfolding table_of
headings_are files = refl

pub returns-in-None-clause-within : goal.returns-in-None-clause-within
returns-in-None-clause-within c = c.of_class.ensures.within (table_in c.args.classes.now.trees.now)

pub returns-in-None-clause-shown : goal.returns-in-None-clause-shown
returns-in-None-clause-shown c =
    let files = c.args.classes.now.trees.now in
    let t = table_in files in
    let n = c.args.name.now in
    c.of_class.ensures.shown t
    ∙ (ap class_meaning (c.number_of.ensures files c.requires.classes.heads ∙ ap (λ hs. number_of hs n) (headings_are files))
    ∙ ap (λ (o : Option Field). name_meaning t n (field_or_none o)) c.in-None.ensures.shown)

pub returns-in-Some-clause-shown : goal.returns-in-Some-clause-shown
returns-in-Some-clause-shown c =
    let t = table_in c.args.classes.now.trees.now in
    let n = c.args.name.now in
    let k = c.in-Some.number in
    let got : slice_get (all_fields t) k ≡ Some (field_numbered t k) = slice_get-get_or (all_fields t) k (no_field t) c.in-Some.ensures.within in
    c.field_meaning.ensures.shown
    ∙ (ap field_meaning got ∙ ap (λ (o : Option Field). name_meaning t n (field_or_none o)) (sym got ∙ c.in-Some.ensures.shown))
