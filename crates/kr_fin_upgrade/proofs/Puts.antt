-- A key put into a table, and an item at the end of an array.
use Rattle.std.proofs.Common.{◌≡◌, ℕ, ◌+◌, ◌<◌, ◌≤◌, List, [], ◌∷◌, ◌++◌, length, drop, get_or, String, Global, Ordering, Less, Equal, Greater, string_bytes, refl, sym, ap, ◌∙◌}
use Rattle.std.proofs.lemmas.List.{drop_more}
use Rattle.std.proofs.Math.ListN.{drop_of_length-le}
use Rattle.std.specs.String.{string_cmp}
use Rattle.std.specs.Ordering.{match_ordering}
use Rattle.std.specs.BTreeMap.{insert_entry}
use Rattle.toml.specs.Data.{Data, Items, no_items, item, member, array}
use Rattle.toml.specs.View.{view, items_view, members_view}
use Rattle.toml.specs.declared.value.Value.{Value}
use Rattle.kr_fin.specs.declared.document.Item.{Item}
use Rattle.kr_fin_upgrade.specs.Shown.{after_items}
use Rattle.kr_fin_upgrade.specs.Tables.{data_of, domain_items, put}

pub put_view : (es : List (String Global × Value)) (k : String Global) (v : Value) → members_view (insert_entry string_cmp es k v) ≡ put (members_view es) (string_bytes k) (view v)
put_view [] k v = refl
put_view (e ∷ es) k v = go (string_cmp k e.0) (put_view es k v)
  where
    go : (o : Ordering) → members_view (insert_entry string_cmp es k v) ≡ put (members_view es) (string_bytes k) (view v)
        → members_view (match_ordering o ((k, v) ∷ e ∷ es) ((e.0, v) ∷ es) (e ∷ insert_entry string_cmp es k v))
        ≡ match_ordering o (member (string_bytes k) (view v) (members_view (e ∷ es))) (member (string_bytes e.0) (view v) (members_view es)) (member (string_bytes e.0) (view e.1) (put (members_view es) (string_bytes k) (view v)))
    go Less r = refl
    go Equal r = refl
    go Greater r = ap (member (string_bytes e.0) (view e.1)) r

-- ---- items

items_at_end : (vs : List Value) (v : Value) → items_view (vs ++ v ∷ []) ≡ after_items (items_view vs) (item (view v) no_items)
items_at_end [] v = refl
items_at_end (x ∷ xs) v = ap (item (view x)) (items_at_end xs v)

-- one more at the end of an array
pub pushed_view : (vs ws : List Value) (v : Value) (d : Data) → ws ≡ vs ++ v ∷ [] → view v ≡ d → items_view ws ≡ after_items (items_view vs) (item d no_items)
pushed_view vs ws v d e k = ap items_view e ∙ (items_at_end vs v ∙ ap (λ (x : Data). after_items (items_view vs) (item x no_items)) k)

after_assoc : (a : Items) (d : Data) (c : Items) → after_items (after_items a (item d no_items)) c ≡ after_items a (item d c)
after_assoc no_items d c = refl
after_assoc (item e es) d c = ap (item e) (after_assoc es d c)

after_none : (ds : Items) → after_items ds no_items ≡ ds
after_none no_items = refl
after_none (item d ds) = ap (item d) (after_none ds)

-- one item more of a domain
pub items_next : (is : List Item) (i : ℕ) (x : Item) (all old new : Items) → i < length is → x ≡ get_or is i x → all ≡ after_items old (domain_items (drop i is)) → new ≡ after_items old (item (data_of x) no_items)
    → all ≡ after_items new (domain_items (drop (i + 1) is))
items_next is i x all old new h e k n =
    k ∙ (ap (λ (ys : List Item). after_items old (domain_items ys)) (drop_more is i x h)
    ∙ (ap (λ (y : Item). after_items old (item (data_of y) (domain_items (drop (i + 1) is)))) (sym e)
    ∙ (sym (after_assoc old (data_of x) (domain_items (drop (i + 1) is))) ∙ ap (λ (ds : Items). after_items ds (domain_items (drop (i + 1) is))) (sym n))))

-- no item more
pub items_end : (is : List Item) (i : ℕ) (all old : Items) → length is ≤ i → all ≡ after_items old (domain_items (drop i is)) → array old ≡ array all
items_end is i all old h k = ap array (sym (k ∙ (ap (λ (ys : List Item). after_items old (domain_items ys)) (drop_of_length-le is h) ∙ after_none old)))
