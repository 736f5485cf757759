-- A document's table is at most four deep.
use Rattle.std.proofs.Common.{◌≤◌, ℕ, pos, suc, max, Bool, true, false, List, [], ◌∷◌, Ordering, Less, Equal, Greater, arith, codes, fold}
use Rattle.std.specs.Prelude.{◌==◌, if◌then◌else◌}
use Rattle.std.specs.Ordering.{match_ordering, nat_cmp}
use Rattle.std.specs.Cmp.Lexicographic.{slice_cmp}
use Rattle.toml.specs.Data.{Data, string, integer, table, Members, no_members, member, depth, items_depth, members_depth}
use Rattle.kr_fin.specs.declared.document.ArrayBound.{ArrayBound}
use Rattle.kr_fin.specs.declared.document.Count.{Count}
use Rattle.kr_fin.specs.declared.document.FinDoc.{FinDoc}
use Rattle.kr_fin.specs.declared.document.NamedDomain.{NamedDomain}
use Rattle.kr_fin.specs.declared.document.Item.{Item}
use Rattle.kr_fin.specs.declared.document.Item.TheVariants.{Number, Range, Truth, Name}
use Rattle.kr_fin_upgrade.specs.Tables.{put, data_of, domain_items, domain_data, count_data, bound_data, put_count, put_bound, put_domain, counts_table, bounds_table, domains_table, table_of}

most : (m n k : ℕ) → m ≤ k → n ≤ k → max m n ≤ k
most m n k a b = omega (arith, a, b)

-- the parts of a greatest
parts : (m n k : ℕ) → max m n ≤ k → (m ≤ k) × (n ≤ k)
parts m n k h = (omega (arith, h), omega (arith, h))

put_depth : (n : ℕ) (ms : Members) (k : List ℕ) (d : Data) → members_depth ms ≤ n → depth d ≤ n → members_depth (put ms k d) ≤ n
put_depth n no_members k d h e = most (depth d) 0 n e h
put_depth n (member l c ms) k d h e =
    let own = parts (depth c) (members_depth ms) n h in
    by own (slice_cmp nat_cmp k l) (put_depth n ms k d own.1 e)
  where
    by : (depth c ≤ n) × (members_depth ms ≤ n) → (o : Ordering) → members_depth (put ms k d) ≤ n → members_depth (match_ordering o (member k d (member l c ms)) (member l d ms) (member l c (put ms k d))) ≤ n
    by own Less later = most (depth d) (max (depth c) (members_depth ms)) n e h
    by own Equal later = most (depth d) (members_depth ms) n e own.1
    by own Greater later = most (depth c) (members_depth (put ms k d)) n own.0 later

nothing : (n : ℕ) → 0 ≤ n
nothing n = omega arith

-- one level more
table_depth : (n : ℕ) (ms : Members) → members_depth ms ≤ n → depth (table ms) ≤ suc n
table_depth n ms h = omega (arith, h)

item_depth : (i : Item) → depth (data_of i) ≤ 1
item_depth (Number z) = nothing 1
item_depth (Range from to) =
    table_depth 0 (put (put no_members (codes "from") (integer from)) (codes "to") (integer to))
    (put_depth 0 (put no_members (codes "from") (integer from)) (codes "to") (integer to) (put_depth 0 no_members (codes "from") (integer from) (nothing 0) (nothing 0)) (nothing 0))
item_depth (Truth b) = nothing 1
item_depth (Name n) = nothing 1

all_items_depth : (is : List Item) → items_depth (domain_items is) ≤ 1
all_items_depth [] = nothing 1
all_items_depth (i ∷ is) = most (depth (data_of i)) (items_depth (domain_items is)) 1 (item_depth i) (all_items_depth is)

domain_depth : (is : List Item) → depth (domain_data is) ≤ 2
domain_depth is = omega (arith, all_items_depth is)

count_depth : (version : ℕ) (c : Count) → depth (count_data version c) ≤ 3
count_depth version c = by (version == 2)
  where
    by : (b : Bool) → depth (if b then table (put (put no_members (codes "class") (string c.class)) (codes "count") (integer (pos c.count))) else integer (pos c.count)) ≤ 3
    by true = table_depth 2 (put (put no_members (codes "class") (string c.class)) (codes "count") (integer (pos c.count)))
        (put_depth 2 (put no_members (codes "class") (string c.class)) (codes "count") (integer (pos c.count)) (put_depth 2 no_members (codes "class") (string c.class) (nothing 2) (nothing 2)) (nothing 2))
    by false = nothing 3

bound_depth : (b : ArrayBound) → depth (bound_data b) ≤ 3
bound_depth b =
    table_depth 2 (put (put no_members (codes "count") (integer (pos b.count))) (codes "lengths") (domain_data b.lengths))
    (put_depth 2 (put no_members (codes "count") (integer (pos b.count))) (codes "lengths") (domain_data b.lengths)
    (put_depth 2 no_members (codes "count") (integer (pos b.count)) (nothing 2) (nothing 2)) (domain_depth b.lengths))

counts_depth : (version : ℕ) (ms : Members) (cs : List Count) → members_depth ms ≤ 3 → members_depth (fold (put_count version) ms cs) ≤ 3
counts_depth version ms [] h = h
counts_depth version ms (c ∷ cs) h = counts_depth version (put_count version ms c) cs (put_depth 3 ms c.name (count_data version c) h (count_depth version c))

bounds_depth : (ms : Members) (bs : List ArrayBound) → members_depth ms ≤ 3 → members_depth (fold put_bound ms bs) ≤ 3
bounds_depth ms [] h = h
bounds_depth ms (b ∷ bs) h = bounds_depth (put_bound ms b) bs (put_depth 3 ms b.name (bound_data b) h (bound_depth b))

domains_depth : (ms : Members) (ds : List NamedDomain) → members_depth ms ≤ 3 → members_depth (fold put_domain ms ds) ≤ 3
domains_depth ms [] h = h
domains_depth ms (d ∷ ds) h = domains_depth (put_domain ms d) ds (put_depth 3 ms d.key (domain_data d.domain) h (omega (arith, domain_depth d.domain)))

document_depth : (d : FinDoc) → members_depth (table_of d) ≤ 4
unfolding table_of
document_depth d =
    let first : Members = put no_members (codes "version") (integer (pos d.version)) in
    let second : Members = put first (codes "root") (string d.root) in
    let third : Members = put second (codes "fuel") (integer (pos d.fuel)) in
    let fourth : Members = put third (codes "objects") (table (counts_table d.version d.objects)) in
    let fifth : Members = put fourth (codes "arrays") (table (bounds_table d.arrays)) in
    let sixth : Members = put fifth (codes "fields") (table (domains_table d.fields)) in
    put_depth 4 sixth (codes "params") (table (domains_table d.params))
    (put_depth 4 fifth (codes "fields") (table (domains_table d.fields))
    (put_depth 4 fourth (codes "arrays") (table (bounds_table d.arrays))
    (put_depth 4 third (codes "objects") (table (counts_table d.version d.objects))
    (put_depth 4 second (codes "fuel") (integer (pos d.fuel))
    (put_depth 4 first (codes "root") (string d.root)
    (put_depth 4 no_members (codes "version") (integer (pos d.version)) (nothing 4) (nothing 4)) (nothing 4)) (nothing 4))
    (table_depth 3 (counts_table d.version d.objects) (counts_depth d.version no_members d.objects (nothing 3))))
    (table_depth 3 (bounds_table d.arrays) (bounds_depth no_members d.arrays (nothing 3))))
    (table_depth 3 (domains_table d.fields) (domains_depth no_members d.fields (nothing 3))))
    (table_depth 3 (domains_table d.params) (domains_depth no_members d.params (nothing 3)))

-- it is no deeper than TOML's reader goes
pub shallow : (d : FinDoc) → members_depth (table_of d) ≤ 80
shallow d = omega (arith, document_depth d)
