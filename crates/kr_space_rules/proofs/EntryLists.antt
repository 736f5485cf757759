-- The entries of a domain, one after another.
use Rattle.std.proofs.Common.{◌≡◌, ℕ, ◌+◌, ◌<◌, List, ◌++◌, length, get_or, drop, Option, sym, ap, ◌∙◌}
use Rattle.std.specs.Prelude.{option_to_list}
use Rattle.std.proofs.lemmas.List.{append_assoc, drop_more}
use Rattle.std.proofs.lemmas.List.Concat.{flat_map-append}
use Rattle.kr_classes_table.specs.Numbers.{Width}
use Rattle.kr_mean.specs.Problem.{Domain}
use Rattle.kr_fin.specs.declared.document.Item.{Item as FinItem}
use Rattle.kr_space_layout.specs.declared.item.DomainEntry.{DomainEntry}
use Rattle.kr_space_layout.specs.Items.{domain_of, meant}
use Rattle.kr_space_meaning.specs.Bounds.{Setting, item_values, values_with}

pub entries_more : (setting : Setting) (w : Width) (items : List FinItem) (all : Domain) (kept new : List DomainEntry) (found : Option DomainEntry) (i : ℕ) (x : FinItem) → i < length items
    → all ≡ domain_of kept ++ values_with setting w (drop i items) → new ≡ kept ++ option_to_list found → domain_of (option_to_list found) ≡ item_values setting w (get_or items i x) → all ≡ domain_of new ++ values_with setting w (drop (i + 1) items)
entries_more setting w items all kept new found i x h e n s =
    let rest = values_with setting w (drop (i + 1) items) in
    e ∙ (ap (λ (is : List FinItem). domain_of kept ++ values_with setting w is) (drop_more items i x h)
    ∙ (sym (append_assoc (domain_of kept) (item_values setting w (get_or items i x)) rest)
    ∙ ap (λ (ys : Domain). ys ++ rest) (ap (λ (ys : Domain). domain_of kept ++ ys) (sym s) ∙ (sym (flat_map-append meant kept (option_to_list found)) ∙ ap domain_of (sym n)))))
