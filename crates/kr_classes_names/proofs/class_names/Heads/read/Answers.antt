use Rattle.std.proofs.Common.{◌≡◌, sym, ap, ◌∙◌, subst, List, ℕ, map, arith}
use Rattle.kr_classes_names.proofs.Walks.{map_map}
use Rattle.kr_classes_table.specs.Table.{Heading}
use Rattle.kr_classes_names.specs.Listed.{IsIndexOf}
use Rattle.kr_classes_names.specs.Shown.{heading_shown, name_shown}
use Rattle.kr_classes_names.proofs.class_names.Heads.read.Goals as goal

pub returns : goal.returns
returns c =
    let files = c.args.trees.now in
    let headings = c.in_ok-headings.headings.items in
    let name : Heading → List ℕ = λ h. h.name in
    let names : map (name_shown files) headings ≡ map name (map (heading_shown files) headings) = sym (map_map name (heading_shown files) headings) in
    record {
      stands = c.in_ok-headings.ensures.stands;
      few = omega arith;
      shown = c.in_ok-headings.ensures.shown;
      index = subst (λ (ns : List (List ℕ)). IsIndexOf ns c.in_ok-index.index) (names ∙ ap (map name) c.in_ok-headings.ensures.shown)
          (subst (λ (hs : List _). IsIndexOf (map (name_shown files) hs) c.in_ok-index.index) c.deref.ensures.value c.in_ok-index.ensures);
    }
