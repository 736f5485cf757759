-- A table without floats has one text, and a document's table is one.
use Rattle.std.proofs.Common.{◌≡◌, ◌∙◌, ◌++◌, ℕ, pos, Bool, true, false, List, [], ◌∷◌, Ordering, Less, Equal, Greater, ap, ap₂, sym}
use Rattle.std.specs.Prelude.{codes, fold, if◌then◌else◌, ◌==◌}
use Rattle.std.specs.Ordering.{match_ordering, nat_cmp}
use Rattle.std.specs.Cmp.Lexicographic.{slice_cmp}
use Rattle.toml_parser.specs.Strings.{Key}
use Rattle.toml_writer.specs.Text.{key_text, dotted_text}
use Rattle.toml_parser.specs.Lexical.{line_feed}
use Rattle.toml.specs.Data.{Data, string, integer, float, boolean, datetime, array, table, Items, no_items, item, Members, no_members, member}
use Rattle.toml.specs.Tables.{Definition, key_value, std_table, array_table, Expression}
use Rattle.toml.specs.Text.{IsDocumentText, IsItemsText, IsLineText, IsLinesText, IsMembersText, IsValueText, after_item, are_tables, before_item, before_member, breaks_lines, elements, expressions, header_of, is_section, needs_header, pairs, section, sections}
use Rattle.kr_fin.specs.declared.document.ArrayBound.{ArrayBound}
use Rattle.kr_fin.specs.declared.document.Count.{Count}
use Rattle.kr_fin.specs.declared.document.FinDoc.{FinDoc}
use Rattle.kr_fin.specs.declared.document.NamedDomain.{NamedDomain}
use Rattle.kr_fin.specs.declared.document.Item.{Item}
use Rattle.kr_fin.specs.declared.document.Item.TheVariants.{Number, Range, Truth, Name}
use Rattle.kr_fin_upgrade.specs.Tables.{put, data_of, domain_items, domain_data, count_data, bound_data, put_count, put_bound, put_domain, counts_table, bounds_table, domains_table, table_of}

-- ---- data without floats

abbrev mutual
  IsExact : Data → Type 0
  IsExact (string s) = Unit {0}
  IsExact (integer z) = Unit {0}
  IsExact (float x) = ⊥
  IsExact (boolean b) = Unit {0}
  IsExact (datetime d) = Unit {0}
  IsExact (array ds) = AreExact ds
  IsExact (table ms) = HasExact ms

  AreExact : Items → Type 0
  AreExact no_items = Unit {0}
  AreExact (item d ds) = IsExact d × AreExact ds

  HasExact : Members → Type 0
  HasExact no_members = Unit {0}
  HasExact (member k d ms) = IsExact d × HasExact ms

-- ---- one text of a value

module _ (pretty : Bool) where
  mutual
    one_value : (d : Data) (t u : List ℕ) → IsExact d → IsValueText pretty d t → IsValueText pretty d u → t ≡ u
    one_value (string s) t u h x y = x ∙ sym y
    one_value (integer z) t u h x y = x.0 ∙ sym y.0
    one_value (float f) t u h x y = absurd h
    one_value (boolean b) t u h x y = x ∙ sym y
    one_value (datetime dt) t u h x y = x ∙ sym y
    one_value (array ds) t u h x y = x.1 ∙ ap (λ r. codes "[" ++ r) (one_items (breaks_lines pretty ds) true ds x.0 y.0 h x.2 y.2) ∙ sym y.1
    one_value (table ms) t u h x y = x.1 ∙ ap (λ r. codes "{" ++ r) (one_members true ms x.0 y.0 h x.2 y.2) ∙ sym y.1

    one_items : (lines is_first : Bool) (ds : Items) (t u : List ℕ) → AreExact ds → IsItemsText pretty lines is_first ds t → IsItemsText pretty lines is_first ds u → t ≡ u
    one_items lines is_first no_items t u h x y = x ∙ sym y
    one_items lines is_first (item d ds) t u h x y =
        let this = one_value d x.0 y.0 h.0 x.3 y.3 in
        let rest = one_items lines false ds x.1 y.1 h.1 x.4 y.4 in
        x.2 ∙ ap₂ (λ p q. before_item lines is_first ++ (p ++ (after_item lines ++ q))) this rest ∙ sym y.2

    one_members : (is_first : Bool) (ms : Members) (t u : List ℕ) → HasExact ms → IsMembersText pretty is_first ms t → IsMembersText pretty is_first ms u → t ≡ u
    one_members is_first no_members t u h x y = x ∙ sym y
    one_members is_first (member k d ms) t u h x y =
        let this = one_value d x.0 y.0 h.0 x.3 y.3 in
        let rest = one_members false ms x.1 y.1 h.1 x.4 y.4 in
        x.2 ∙ ap₂ (λ p q. before_member is_first ++ (key_text k ++ (codes " = " ++ (p ++ q)))) this rest ∙ sym y.2

-- ---- one text of a document

abbrev IsExactLine : Definition → Type 0
IsExactLine (key_value d) = IsExact d
IsExactLine std_table = Unit {0}
IsExactLine array_table = Unit {0}

abbrev AreExactLines : List Expression → Type 0
AreExactLines [] = Unit {0}
AreExactLines (e ∷ es) = IsExactLine e.1 × AreExactLines es

both_exact : (es more : List Expression) → AreExactLines es → AreExactLines more → AreExactLines (es ++ more)
both_exact [] more h m = m
both_exact (e ∷ es) more h m = (h.0, both_exact es more h.1 m)

one_line : (pretty started : Bool) (key : Key) (d : Definition) (t u : List ℕ) → IsExactLine d → IsLineText pretty started key d t → IsLineText pretty started key d u → t ≡ u
one_line pretty started key (key_value d) t u h x y =
    x.1 ∙ ap (λ p. dotted_text key ++ (codes " = " ++ (p ++ line_feed ∷ []))) (one_value pretty d x.0 y.0 h x.2 y.2) ∙ sym y.1
one_line pretty started key std_table t u h x y = x ∙ sym y
one_line pretty started key array_table t u h x y = x ∙ sym y

one_lines : (pretty started : Bool) (es : List Expression) (t u : List ℕ) → AreExactLines es → IsLinesText pretty started es t → IsLinesText pretty started es u → t ≡ u
one_lines pretty started [] t u h x y = x ∙ sym y
one_lines pretty started (e ∷ es) t u h x y =
    x.2 ∙ ap₂ (λ p q. p ++ q) (one_line pretty started e.0 e.1 x.0 y.0 h.0 x.3 y.3) (one_lines pretty true es x.1 y.1 h.1 x.4 y.4) ∙ sym y.2

exact_pairs : (ms : Members) → HasExact ms → AreExactLines (pairs ms)
exact_pairs no_members h = tt
exact_pairs (member k d ms) h = by (is_section d) (exact_pairs ms h.1)
  where
    by : (b : Bool) → AreExactLines (pairs ms) → AreExactLines (if b then pairs ms else (([], k), key_value d) ∷ pairs ms)
    by true m = m
    by false m = (h.0, m)

exact_header : (key : Key) (ms : Members) → AreExactLines (header_of key ms)
exact_header key ms = by (needs_header ms)
  where
    by : (b : Bool) → AreExactLines (if b then (key, std_table) ∷ [] else [])
    by true = (tt, tt)
    by false = tt

mutual
  exact_sections : (path : List (List ℕ)) (ms : Members) → HasExact ms → AreExactLines (sections path ms)
  exact_sections path no_members h = tt
  exact_sections path (member k d ms) h = both_exact (section (path, k) d) (sections path ms) (exact_section (path, k) d h.0) (exact_sections path ms h.1)

  exact_section : (key : Key) (d : Data) → IsExact d → AreExactLines (section key d)
  exact_section key (string s) h = tt
  exact_section key (integer z) h = tt
  exact_section key (float x) h = tt
  exact_section key (boolean b) h = tt
  exact_section key (datetime d) h = tt
  exact_section key (array ds) h = by (are_tables ds) (exact_elements key ds h)
    where
      by : (b : Bool) → AreExactLines (elements key ds) → AreExactLines (if b then elements key ds else [])
      by true m = m
      by false m = tt
  exact_section key (table ms) h =
      both_exact (header_of key ms) (pairs ms ++ sections (key.0 ++ key.1 ∷ []) ms) (exact_header key ms)
      (both_exact (pairs ms) (sections (key.0 ++ key.1 ∷ []) ms) (exact_pairs ms h) (exact_sections (key.0 ++ key.1 ∷ []) ms h))

  exact_elements : (key : Key) (ds : Items) → AreExact ds → AreExactLines (elements key ds)
  exact_elements key no_items h = tt
  exact_elements key (item (string s) ds) h = exact_elements key ds h.1
  exact_elements key (item (integer z) ds) h = exact_elements key ds h.1
  exact_elements key (item (float x) ds) h = exact_elements key ds h.1
  exact_elements key (item (boolean b) ds) h = exact_elements key ds h.1
  exact_elements key (item (datetime d) ds) h = exact_elements key ds h.1
  exact_elements key (item (array es) ds) h = exact_elements key ds h.1
  exact_elements key (item (table ms) ds) h = (
    tt,
    both_exact (pairs ms ++ sections (key.0 ++ key.1 ∷ []) ms) (elements key ds)
        (both_exact (pairs ms) (sections (key.0 ++ key.1 ∷ []) ms) (exact_pairs ms h.0) (exact_sections (key.0 ++ key.1 ∷ []) ms h.0))
        (exact_elements key ds h.1),
  )

one_document : (pretty : Bool) (ms : Members) (t u : List ℕ) → HasExact ms → IsDocumentText pretty ms t → IsDocumentText pretty ms u → t ≡ u
one_document pretty ms t u h x y = one_lines pretty false (expressions ms) t u (both_exact (pairs ms) (sections [] ms) (exact_pairs ms h) (exact_sections [] ms h)) x y

-- ---- a document's table

put_exact : (ms : Members) (k : List ℕ) (d : Data) → HasExact ms → IsExact d → HasExact (put ms k d)
put_exact no_members k d h e = (e, tt)
put_exact (member l c ms) k d h e = by (slice_cmp nat_cmp k l) (put_exact ms k d h.1 e)
  where
    by : (o : Ordering) → HasExact (put ms k d) → HasExact (match_ordering o (member k d (member l c ms)) (member l d ms) (member l c (put ms k d)))
    by Less later = (e, h)
    by Equal later = (e, h.1)
    by Greater later = (h.0, later)

exact_item : (i : Item) → IsExact (data_of i)
exact_item (Number z) = tt
exact_item (Range from to) = put_exact (put no_members (codes "from") (integer from)) (codes "to") (integer to) (tt, tt) tt
exact_item (Truth b) = tt
exact_item (Name n) = tt

exact_items : (is : List Item) → AreExact (domain_items is)
exact_items [] = tt
exact_items (i ∷ is) = (exact_item i, exact_items is)

exact_count : (version : ℕ) (c : Count) → IsExact (count_data version c)
exact_count version c = by (version == 2)
  where
    by : (b : Bool) → IsExact (if b then table (put (put no_members (codes "class") (string c.class)) (codes "count") (integer (pos c.count))) else integer (pos c.count))
    by true = put_exact (put no_members (codes "class") (string c.class)) (codes "count") (integer (pos c.count)) (tt, tt) tt
    by false = tt

exact_bound : (b : ArrayBound) → IsExact (bound_data b)
exact_bound b = put_exact (put no_members (codes "count") (integer (pos b.count))) (codes "lengths") (domain_data b.lengths) (tt, tt) (exact_items b.lengths)

exact_counts : (version : ℕ) (ms : Members) (cs : List Count) → HasExact ms → HasExact (fold (put_count version) ms cs)
exact_counts version ms [] h = h
exact_counts version ms (c ∷ cs) h = exact_counts version (put_count version ms c) cs (put_exact ms c.name (count_data version c) h (exact_count version c))

exact_bounds : (ms : Members) (bs : List ArrayBound) → HasExact ms → HasExact (fold put_bound ms bs)
exact_bounds ms [] h = h
exact_bounds ms (b ∷ bs) h = exact_bounds (put_bound ms b) bs (put_exact ms b.name (bound_data b) h (exact_bound b))

exact_domains : (ms : Members) (ds : List NamedDomain) → HasExact ms → HasExact (fold put_domain ms ds)
exact_domains ms [] h = h
exact_domains ms (d ∷ ds) h = exact_domains (put_domain ms d) ds (put_exact ms d.key (domain_data d.domain) h (exact_items d.domain))

exact_table : (d : FinDoc) → HasExact (table_of d)
unfolding table_of
exact_table d =
    let first : Members = put no_members (codes "version") (integer (pos d.version)) in
    let second : Members = put first (codes "root") (string d.root) in
    let third : Members = put second (codes "fuel") (integer (pos d.fuel)) in
    let fourth : Members = put third (codes "objects") (table (counts_table d.version d.objects)) in
    let fifth : Members = put fourth (codes "arrays") (table (bounds_table d.arrays)) in
    let sixth : Members = put fifth (codes "fields") (table (domains_table d.fields)) in
    put_exact sixth (codes "params") (table (domains_table d.params))
    (put_exact fifth (codes "fields") (table (domains_table d.fields))
    (put_exact fourth (codes "arrays") (table (bounds_table d.arrays))
    (put_exact third (codes "objects") (table (counts_table d.version d.objects))
    (put_exact second (codes "fuel") (integer (pos d.fuel))
    (put_exact first (codes "root") (string d.root)
    (put_exact no_members (codes "version") (integer (pos d.version)) tt tt) tt) tt)
    (exact_counts d.version no_members d.objects tt))
    (exact_bounds no_members d.arrays tt))
    (exact_domains no_members d.fields tt))
    (exact_domains no_members d.params tt)

-- a document has one text
pub one_text : (d : FinDoc) (t u : List ℕ) → IsDocumentText false (table_of d) t → IsDocumentText false (table_of d) u → t ≡ u
one_text d t u x y = one_document false (table_of d) t u (exact_table d) x y
