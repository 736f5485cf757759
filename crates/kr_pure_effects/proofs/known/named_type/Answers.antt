use Rattle.std.proofs.Common.{◌≡◌, refl, sym, subst, List, ℕ, map}
use Rattle.kr_ast.specs.Arena.{Arena, root, tree_in}
use Rattle.kr_classes_table.specs.Table.{Heading, headings_of, table_of, type_named}
use Rattle.kr_ast.specs.Files.{file_at}
use Rattle.kr_classes_members.specs.Shown.{table_in}
use Rattle.kr_classes_names.specs.Types.{IsTypeNumber}
use Rattle.kr_classes_names.specs.Numbers.{number_in}
use Rattle.kr_pure_effects.proofs.known.named_type.Goals as goal

headings_are : (files : List Arena) → headings_of (map root files) ≡ (table_in files).headings
unfolding table_of
headings_are files = refl

pub returns : goal.returns
returns c =
    let p = c.args.program.now in
    let l = p.table.types in
    let t = tree_in (file_at p.trees.items c.args.file) c.args.node in
    let number = c.requires.table.table.numbers c.args.file c.args.node in
    subst (λ (k : ℕ). IsTypeNumber l k (type_named (table_in p.trees.items).headings t)) (sym c.number.ensures)
    (subst (λ (hs : List Heading). IsTypeNumber l (number_in p.table.numbers c.args.file c.args.node) (type_named hs t)) (headings_are p.trees.items) number)
