-- The number of the root's domain, by the root's class.
use Rattle.std.proofs.Common.{◌≡◌, ℕ, List, map, Option, Some, None, sym, ap, ◌∙◌}
use Rattle.kr_ast.specs.Tree.{Tree}
use Rattle.kr_classes_table.specs.Table.{headings_of, table_of}
use Rattle.kr_fin.specs.declared.document.Count.{Count}
use Rattle.kr_fin.specs.declared.document.FinDoc.{FinDoc}
use Rattle.kr_space_meaning.specs.Names.{array_type}
use Rattle.kr_space_meaning.specs.Bounds.{bounded_root, object_number, root_number, root_of, setting_of}
use Rattle.kr_space_rules.specs.declared.objects.Declared.{Declared}
use Rattle.kr_space_rules.specs.ObjectDomains.{declared_shown}

pub root_some : (files : List Tree) (document : FinDoc) (objects : List Declared) (all : List Count) (name : List ℕ) (found root : Option ℕ) (class : ℕ) → all ≡ document.objects → name ≡ document.root
    → map (declared_shown document.objects) objects ≡ (setting_of files document).objects → root ≡ root_of (setting_of files document) → root ≡ Some class
    → found ≡ object_number 0 (map (declared_shown all) objects) name class → found ≡ root_number (setting_of files document) (root_of (setting_of files document))
unfolding setting_of
root_some files document objects all name found root class a n o r e f =
    let setting = setting_of files document in
    f ∙ (ap (λ (cs : List Count). object_number 0 (map (declared_shown cs) objects) name class) a
    ∙ (ap (λ (t : List ℕ). object_number 0 (map (declared_shown document.objects) objects) t class) n
    ∙ (ap (λ (os : List (ℕ × Count)). object_number 0 os document.root class) o ∙ ap (root_number setting) (sym e ∙ r))))

pub root_none : (files : List Tree) (document : FinDoc) (root : Option ℕ) → root ≡ root_of (setting_of files document) → root ≡ None
    → bounded_root (setting_of files document) (array_type (headings_of files) document.root) ≡ root_number (setting_of files document) (root_of (setting_of files document))
unfolding setting_of table_of
root_none files document root r e = ap (root_number (setting_of files document)) (sym e ∙ r)
