use Rattle.std.proofs.Common.{◌≡◌, sym, subst, List, map, All}
use Rattle.kr_ast.specs.Arena.{root}
use Rattle.kr_classes_table.specs.Table.{headings_of}
use Rattle.kr_classes_names.specs.declared.headings.Heading.{Heading}
use Rattle.kr_classes_names.specs.Shown.{heading_shown, IsHeading}
use Rattle.kr_classes_names.proofs.class_names.Heads.headings.Goals as goal

pub returns-clause-stands : goal.returns-clause-stands
returns-clause-stands c = λ files h. subst (λ (xs : List Heading). All (IsHeading files) xs) (sym c.as_slice.ensures.value) h.stands

pub returns-clause-shown : goal.returns-clause-shown
returns-clause-shown c = λ files h. subst (λ (xs : List Heading). map (heading_shown files) xs ≡ headings_of (map root files)) (sym c.as_slice.ensures.value) h.shown
