-- Object domains that are declared, one after another.
use Rattle.std.proofs.Common.{◌≡◌, ℕ, ◌+◌, ◌<◌, List, [], ◌++◌, length, get_or, take, Option}
use Rattle.std.specs.Prelude.{IfSome, option_map, option_to_list}
use Rattle.kr_base.proofs.Added.{found_shown, found_stands}
use Rattle.kr_classes_table.specs.Table.{Heading}
use Rattle.kr_fin.specs.declared.document.Count.{Count}
use Rattle.kr_space_meaning.specs.Bounds.{declared, declared_by}
use Rattle.kr_space_rules.specs.declared.objects.Declared.{Declared}
use Rattle.kr_space_rules.specs.ObjectDomains.{AreDeclared, IsDeclared, declared_shown, no_count}

-- one more
pub declared_more : (hs : List Heading) (all : List Count) (kept new : List Declared) (found : Option Declared) (i : ℕ) → i < length all → new ≡ kept ++ option_to_list found
    → AreDeclared all kept (declared hs (take i all)) → IfSome found (IsDeclared all) → option_to_list (option_map (declared_shown all) found) ≡ declared_by hs (get_or all i no_count) → AreDeclared all new (declared hs (take (i + 1) all))
declared_more hs all kept new found i h n k s e = record {
  stand = found_stands (IsDeclared all) kept new found n k.stand s;
  shown = found_shown (declared_shown all) (declared_by hs) [] kept new found all i no_count h n k.shown e;
}
