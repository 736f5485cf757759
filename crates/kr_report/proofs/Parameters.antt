-- The names of a method's parameters are those that the class table has.
use Rattle.std.proofs.Common.{◌≡◌, List, [], ◌∷◌, ◌++◌, refl, sym, ap, ◌∙◌, map}
use Rattle.std.specs.Prelude.{ℕ, flat_map, option_map, Option, Some, None}
use Rattle.std.proofs.lemmas.List.{map-append}
use Rattle.kr_ast.specs.Tree as trees
use Rattle.kr_ast.specs.Tree.{Tree}
use Rattle.kr_ast.specs.Arena.{Arena, tree_in}
use Rattle.kr_ast.specs.Files.{file_at}
use Rattle.kr_classes_table.specs.Table.{Heading, Parameter, items, parameter_in}
use Rattle.kr_classes_members.specs.declared.methods.Method.{Method}
use Rattle.kr_classes_members.specs.Shown.{headings_in, method_shown}
use Rattle.kr_report.specs.Names.{name_under, names_of}
use Rattle.kr_report.specs.Texts.{parameter_names}

one_name : (hs : List Heading) (t : Tree) → name_under t ≡ map (λ (p : Parameter). p.name) (parameter_in hs t)
one_name hs (trees.Parameter p t n) = refl
one_name hs _ = refl

names_in : (hs : List Heading) (ts : List Tree) → flat_map name_under ts ≡ map (λ (p : Parameter). p.name) (flat_map (parameter_in hs) ts)
names_in hs [] = refl
names_in hs (t ∷ ts) =
    ap (λ (ns : List (List ℕ)). ns ++ flat_map name_under ts) (one_name hs t)
    ∙ (ap (λ (ns : List (List ℕ)). map (λ (p : Parameter). p.name) (parameter_in hs t) ++ ns) (names_in hs ts)
    ∙ sym (map-append (λ (p : Parameter). p.name) (parameter_in hs t) (flat_map (parameter_in hs) ts)))

pub names_shown : (files : List Arena) (m : Option Method) → names_of files m ≡ parameter_names (option_map (method_shown files) m)
names_shown files None = refl
names_shown files (Some m) = names_in (headings_in files) (items (tree_in (file_at files m.file) m.parameters))
