-- Rule S1 part by part.
use Rattle.std.proofs.Common.{◌≡◌, List, ◌++◌, Option, ◌∙◌, fold}
use Rattle.std.specs.Prelude.{codes}
use Rattle.std.proofs.lemmas.List.Sums.{fold-append}
use Rattle.kr_ast.specs.Tree.{Tree}
use Rattle.kr_classes_table.specs.Table.{headings_of, table_of}
use Rattle.kr_fin.specs.declared.document.FinDoc.{FinDoc}
use Rattle.kr_space_meaning.specs.declared.refusal.SpaceRule.TheVariants.{UnknownName}
use Rattle.kr_space_meaning.specs.Bounds.{setting_of}
use Rattle.kr_space_meaning.specs.Faults.{S1, arrays_unknown, objects_unknown, owners_unknown, root_unknown, values_unknown}
use Rattle.kr_space_meaning.specs.Order.{Fault, break_if, lesser}

parts : (old : Option Fault) (root objects arrays owners fields params : List Fault) → fold lesser old (root ++ (objects ++ (arrays ++ (owners ++ (fields ++ params))))) ≡ fold lesser (fold lesser (fold lesser (fold lesser (fold lesser (fold lesser old root) objects) arrays) owners) fields) params
parts old root objects arrays owners fields params =
    fold-append lesser old root (objects ++ (arrays ++ (owners ++ (fields ++ params))))
    ∙ (fold-append lesser (fold lesser old root) objects (arrays ++ (owners ++ (fields ++ params)))
    ∙ (fold-append lesser (fold lesser (fold lesser old root) objects) arrays (owners ++ (fields ++ params))
    ∙ (fold-append lesser (fold lesser (fold lesser (fold lesser old root) objects) arrays) owners (fields ++ params)
    ∙ fold-append lesser (fold lesser (fold lesser (fold lesser (fold lesser old root) objects) arrays) owners) fields params)))

pub S1_is : (files : List Tree) (document : FinDoc) (old : Option Fault) → fold lesser old (S1 (setting_of files document))
    ≡ fold lesser (fold lesser (fold lesser (fold lesser (fold lesser (fold lesser old
    (break_if (root_unknown (headings_of files) document) UnknownName (codes "root")))
    (objects_unknown (headings_of files) document.objects))
    (arrays_unknown (headings_of files) document.arrays))
    (owners_unknown (headings_of files) document.fields))
    (values_unknown (headings_of files) document (codes "fields.") document.fields))
    (values_unknown (headings_of files) document (codes "params.") document.params)
unfolding setting_of table_of
S1_is files document old =
    parts old (break_if (root_unknown (headings_of files) document) UnknownName (codes "root")) (objects_unknown (headings_of files) document.objects) (arrays_unknown (headings_of files) document.arrays)
    (owners_unknown (headings_of files) document.fields) (values_unknown (headings_of files) document (codes "fields.") document.fields) (values_unknown (headings_of files) document (codes "params.") document.params)
