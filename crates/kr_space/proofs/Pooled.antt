-- The domains that a document gives, by number.
use Rattle.std.proofs.Common.{◌≡◌, ℕ, suc, ◌+◌, ◌<◌, Bool, true, false, cond, List, [], ◌∷◌, ◌++◌, length, map, get_or, drop, bytes_eq, Option, Some, None, All, refl, ap, sym, ◌∙◌, append_assoc, arith}
use Rattle.std.specs.Prelude.{is_none, unwrap_or}
use Rattle.std.specs.List.{position_from}
use Rattle.std.proofs.lemmas.List.{drop_more, get_or_append_left, get_or-append-add, get_or_past, get_or-map, length-append, length-map}
use Rattle.std.proofs.lemmas.Slice.Eq.{bytes_eq-Decides}
use Rattle.kr_classes_table.specs.Types.{JavaType}
use Rattle.kr_classes_table.specs.Numbers.{Width, Bits32}
use Rattle.kr_mean.specs.Problem.{Domain}
use Rattle.kr_classes_names.specs.Listed.{IsIndexOf, place_of}
use Rattle.kr_classes_names.proofs.ClassNumbers.{turned}
use Rattle.kr_fin.specs.declared.document.ArrayBound.{ArrayBound}
use Rattle.kr_fin.specs.declared.document.FinDoc.{FinDoc}
use Rattle.kr_fin.specs.declared.document.Item.{Item as FinItem}
use Rattle.kr_fin.specs.declared.document.NamedDomain.{NamedDomain}
use Rattle.kr_space_layout.specs.declared.item.DomainEntry.{DomainEntry}
use Rattle.kr_space_layout.specs.Items.{domain_of}
use Rattle.kr_space_meaning.specs.Keys.{field_type, parameter_type}
use Rattle.kr_space_meaning.specs.Bounds.{Setting, given, lengths_of, root_of, setting_of, values_given, values_of, values_with, width_for}
use Rattle.kr_space_meaning.specs.Limits.{AreLengths}
use Rattle.kr_space_rules.specs.Entries.{no_bound}
use Rattle.kr_space.specs.Keys.{AreKeys}
use Rattle.kr_space.specs.declared.keys.Keys.{Keys}
use Rattle.kr_space.specs.Pools.{all_lengths, all_values, fields_given, params_given, pool}
use Rattle.kr_space.proofs.BoundedKept.{lengths_values}
use Rattle.kr_space.proofs.Named.{given_none}

-- ---- the pool

pub lengths_added : (setting : Setting) (old new : List (List DomainEntry)) (items : List FinItem) → All AreLengths items → map domain_of new ≡ map domain_of old ++ values_with setting Bits32 items ∷ [] → map domain_of new ≡ map domain_of old ++ lengths_of setting items ∷ []
lengths_added setting old new items h e = e ∙ ap (λ (d : Domain). map domain_of old ++ d ∷ []) (lengths_values setting items h)

-- one domain more
pub domains_next : {A : Type 0} (f : A → Domain) (all old new : List Domain) (xs : List A) (i : ℕ) (x : A) → i < length xs → x ≡ get_or xs i x → all ≡ old ++ map f (drop i xs) → new ≡ old ++ f x ∷ [] → all ≡ new ++ map f (drop (i + 1) xs)
domains_next {A = A} f all old new xs i x h e k n =
    k ∙ (ap (λ (ys : List A). old ++ map f ys) (drop_more xs i x h)
    ∙ (ap (λ (y : A). old ++ f y ∷ map f (drop (i + 1) xs)) (sym e)
    ∙ (sym (append_assoc old (f x ∷ []) (map f (drop (i + 1) xs))) ∙ ap (λ (ds : List Domain). ds ++ map f (drop (i + 1) xs)) (sym n))))

-- a domain whose numbers have the width that its key requires
pub values_added : (setting : Setting) (t : Option JavaType) (w : Width) (old new : List Domain) (items : List FinItem) → w ≡ width_for t → new ≡ old ++ values_with setting w items ∷ [] → new ≡ old ++ values_of setting t items ∷ []
values_added setting t w old new items e n = n ∙ ap (λ (v : Width). old ++ values_with setting v items ∷ []) e

-- the domains of the tables of fields and of parameters
abbrev field_pool : Setting → List NamedDomain → List Domain
field_pool setting ds = all_values setting (field_type setting.table) ds

abbrev param_pool : Setting → List NamedDomain → List Domain
param_pool setting ds = all_values setting (parameter_type setting.table (root_of setting)) ds

pub pool_whole : (setting : Setting) (document : FinDoc) (old first second third : List (List DomainEntry)) → map domain_of first ≡ map domain_of old ++ field_pool setting document.fields
    → map domain_of second ≡ map domain_of first ++ param_pool setting document.params → map domain_of third ≡ map domain_of second ++ all_lengths setting document.arrays → map domain_of third ≡ map domain_of old ++ pool setting document
pool_whole setting document old first second third a b c =
    let fields = field_pool setting document.fields in
    let params = param_pool setting document.params in
    let lengths = all_lengths setting document.arrays in
    c ∙ (ap (λ (ds : List Domain). ds ++ lengths) (b ∙ ap (λ (ds : List Domain). ds ++ params) a)
    ∙ (append_assoc (map domain_of old ++ fields) params lengths ∙ append_assoc (map domain_of old) fields (params ++ lengths)))

pub pool_alone : (setting : Setting) (document : FinDoc) (none all : List (List DomainEntry)) → none ≡ [] → map domain_of all ≡ map domain_of none ++ pool setting document → map domain_of all ≡ pool setting document
pool_alone setting document none all n a = a ∙ ap (λ (ds : List (List DomainEntry)). map domain_of ds ++ pool setting document) n

-- ---- numbers

-- where a key is found its domain is
record IsGot (setting : Setting) (asked : List ℕ → Option JavaType) (ds : List NamedDomain) (n : List ℕ) (k i : ℕ) : Type 0 where
  at : ℕ
  is : i ≡ k + at
  within : at < length ds
  got : get_or (all_values setting asked ds) at [] ≡ values_given setting asked ds n

same_number : (k i : ℕ) → Some k ≡ Some i → i ≡ k + 0
same_number k i e = let s : k ≡ i = cc in omega (arith, s)

got_from : (setting : Setting) (asked : List ℕ → Option JavaType) (n : List ℕ) (k : ℕ) (ds : List NamedDomain) (i : ℕ) → position_from (bytes_eq n) k (map (λ d. d.key) ds) ≡ Some i → IsGot setting asked ds n k i
got_from setting asked n k [] i e = absurd (cc (e))
got_from setting asked n k (d ∷ ds) i e = go (bytes_eq n d.key) (bytes_eq d.key n) refl (turned n d.key) refl e (got_from setting asked n (k + 1) ds i)
  where
    values_if : Bool → Domain
    values_if b = values_of setting (asked n) (unwrap_or (cond b (Some d.domain) (given ds n)) [])

    go : (a b : Bool) → bytes_eq n d.key ≡ a → a ≡ b → b ≡ bytes_eq d.key n → cond a (Some k) (position_from (bytes_eq n) (k + 1) (map (λ d. d.key) ds)) ≡ Some i → (position_from (bytes_eq n) (k + 1) (map (λ d. d.key) ds) ≡ Some i → IsGot setting asked ds n (k + 1) i) → IsGot setting asked (d ∷ ds) n k i
    go true true q s t f r = record { at = 0; is = same_number k i f; within = omega arith; got = ap (λ (key : List ℕ). values_of setting (asked key) d.domain) (sym ((bytes_eq-Decides n d.key).0 q)) ∙ ap values_if t }
    go false false q s t f r = let g = r f in record { at = suc g.at; is = (let x = g.is in omega (arith, x)); within = (let x = g.within in omega (arith, x)); got = g.got ∙ ap values_if t }
    go true false q s t f r = absurd (cc (s))
    go false true q s t f r = absurd (cc (s))

got_at : (setting : Setting) (asked : List ℕ → Option JavaType) (n : List ℕ) (ds : List NamedDomain) (kept : List (List ℕ × ℕ)) (i : ℕ) → IsIndexOf (map (λ d. d.key) ds) kept → place_of n kept ≡ Some i → (i < length ds) × (get_or (all_values setting asked ds) i [] ≡ values_given setting asked ds n)
got_at setting asked n ds kept i k e =
    let g = got_from setting asked n 0 ds i (sym (k n) ∙ e) in
    let same : g.at ≡ i = (let x = g.is in omega (arith, x)) in
    ((let w = g.within in omega (arith, same, w)), ap (λ (j : ℕ). get_or (all_values setting asked ds) j []) (sym same) ∙ g.got)

none_of : (o : Option (List FinItem)) → true ≡ is_none o → unwrap_or o [] ≡ []
none_of None e = refl
none_of (Some x) e = absurd (cc (e))

none_given : (setting : Setting) (asked : List ℕ → Option JavaType) (n : List ℕ) (ds : List NamedDomain) (kept : List (List ℕ × ℕ)) → IsIndexOf (map (λ d. d.key) ds) kept → place_of n kept ≡ None → [] ≡ values_given setting asked ds n
none_given setting asked n ds kept k e = ap (values_of setting (asked n)) (sym (none_of (given ds n) (given_none ds kept n k e)))

values_long : (setting : Setting) (asked : List ℕ → Option JavaType) (ds : List NamedDomain) → length (all_values setting asked ds) ≡ length ds
values_long setting asked ds = length-map ds (λ d. values_of setting (asked d.key) d.domain)

fields_long : (setting : Setting) (ds : List NamedDomain) → length (field_pool setting ds) ≡ length ds
fields_long setting ds = values_long setting (field_type setting.table) ds

params_long : (setting : Setting) (ds : List NamedDomain) → length (param_pool setting ds) ≡ length ds
params_long setting ds = values_long setting (parameter_type setting.table (root_of setting)) ds

pool_long : (setting : Setting) (document : FinDoc) → length (pool setting document) ≡ length document.fields + (length document.params + length document.arrays)
pool_long setting document =
    let a = length-append (field_pool setting document.fields) (param_pool setting document.params ++ all_lengths setting document.arrays) in
    let b = length-append (param_pool setting document.params) (all_lengths setting document.arrays) in
    let e = length-map document.arrays (λ a. lengths_of setting a.lengths) in
    omega (arith, a, b, fields_long setting document.fields, params_long setting document.params, e)

pool_past : (setting : Setting) (document : FinDoc) (n : ℕ) → n ≡ length document.fields + (length document.params + length document.arrays) → get_or (pool setting document) n [] ≡ []
pool_past setting document n e = get_or_past (pool setting document) n [] (let l = pool_long setting document in omega (arith, l, e))

pub field_found : (document : FinDoc) (keys : Keys) (n : List ℕ) (i : ℕ) → AreKeys document keys → place_of n keys.fields ≡ Some i → (setting : Setting) → get_or (pool setting document) i [] ≡ fields_given setting document n
unfolding fields_given
field_found document keys n i k e setting =
    let g = got_at setting (field_type setting.table) n document.fields keys.fields i k.fields e in
    get_or_append_left (field_pool setting document.fields) (param_pool setting document.params ++ all_lengths setting document.arrays) [] i (let w = g.0 in let l = fields_long setting document.fields in omega (arith, w, l)) ∙ g.1

pub field_absent : (document : FinDoc) (keys : Keys) (n : List ℕ) (i : ℕ) → AreKeys document keys → place_of n keys.fields ≡ None → i ≡ length document.fields + (length document.params + length document.arrays) → (setting : Setting) → get_or (pool setting document) i [] ≡ fields_given setting document n
unfolding fields_given
field_absent document keys n i k e l setting = pool_past setting document i l ∙ none_given setting (field_type setting.table) n document.fields keys.fields k.fields e

behind_fields : (setting : Setting) (document : FinDoc) (k i : ℕ) → k ≡ length document.fields + i → get_or (pool setting document) k [] ≡ get_or (param_pool setting document.params ++ all_lengths setting document.arrays) i []
behind_fields setting document k i e =
    ap (λ (j : ℕ). get_or (pool setting document) j []) (e ∙ ap (λ (l : ℕ). l + i) (sym (fields_long setting document.fields)))
    ∙ get_or-append-add (field_pool setting document.fields) (param_pool setting document.params ++ all_lengths setting document.arrays) i []

pub parameter_found : (document : FinDoc) (keys : Keys) (n : List ℕ) (i k : ℕ) → AreKeys document keys → place_of n keys.params ≡ Some i → k ≡ length document.fields + i → (setting : Setting) → get_or (pool setting document) k [] ≡ params_given setting document n
unfolding params_given
parameter_found document keys n i k h e s setting =
    let g = got_at setting (parameter_type setting.table (root_of setting)) n document.params keys.params i h.params e in
    behind_fields setting document k i s
    ∙ (get_or_append_left (param_pool setting document.params) (all_lengths setting document.arrays) [] i (let w = g.0 in let l = params_long setting document.params in omega (arith, w, l)) ∙ g.1)

pub parameter_below : (document : FinDoc) (keys : Keys) (n : List ℕ) (i : ℕ) → AreKeys document keys → place_of n keys.params ≡ Some i → i < length document.params
parameter_below document keys n i h e = (got_at (setting_of [] document) (λ key. None) n document.params keys.params i h.params e).0

pub parameter_absent : (document : FinDoc) (keys : Keys) (n : List ℕ) (i : ℕ) → AreKeys document keys → place_of n keys.params ≡ None → i ≡ length document.fields + (length document.params + length document.arrays) → (setting : Setting) → get_or (pool setting document) i [] ≡ params_given setting document n
unfolding params_given
parameter_absent document keys n i k e l setting = pool_past setting document i l ∙ none_given setting (parameter_type setting.table (root_of setting)) n document.params keys.params k.params e

pub lengths_found : (document : FinDoc) (i k : ℕ) → i < length document.arrays → k ≡ length document.fields + length document.params + i → (setting : Setting) → get_or (pool setting document) k [] ≡ lengths_of setting (get_or document.arrays i no_bound).lengths
lengths_found document i k h e setting =
    behind_fields setting document k (length document.params + i) (omega (arith, e))
    ∙ (ap (λ (l : ℕ). get_or (param_pool setting document.params ++ all_lengths setting document.arrays) (l + i) []) (sym (params_long setting document.params))
    ∙ (get_or-append-add (param_pool setting document.params) (all_lengths setting document.arrays) i []
    ∙ get_or-map (λ (a : ArrayBound). lengths_of setting a.lengths) document.arrays i no_bound [] h))
