-- A method is made of three nodes.
use Rattle.std.proofs.Common.{◌≡◌, ℕ, ◌<◌, Bool, true, List, [], ◌∷◌, ◌++◌, Some, None, length, take, drop, refl, sym, arith, subst}
use Rattle.std.proofs.lemmas.Bool.{false≢true}
use Rattle.kr_base.specs.declared.place.Place.{Place}
use Rattle.kr_ast.specs.declared.node.Name.{Name}
use Rattle.kr_ast.specs.declared.node.Node.TheVariants as nodes
use Rattle.kr_ast.specs.Arena.{Arena, AreNamesIn}
use Rattle.kr_parse_grammar.specs.declared.value.Form.{Form}
use Rattle.kr_parse_grammar.specs.declared.value.Form.TheVariants as forms
use Rattle.kr_parse_grammar.specs.declared.value.Modifiers.{Modifiers}
use Rattle.kr_parse_grammar.specs.declared.goal.Make.TheVariants as makes
use Rattle.kr_parse_grammar.specs.Made.{made, compared}
use Rattle.kr_parse_reduction.specs.declared.value.Kept.{Kept}
use Rattle.kr_parse_reduction.specs.declared.value.Kept.TheVariants.{Word, Part, Member}
use Rattle.kr_parse_reduction.specs.declared.value.Sort.TheVariants as sort
use Rattle.kr_parse_reduction.specs.declared.plan.Plan.{Plan}
use Rattle.kr_parse_reduction.specs.Perm.{keep, flip, onward}
use Rattle.kr_parse_reduction.specs.Kept.{are, place_at, node_at, name_at, modifiers_at, value_at}
use Rattle.kr_parse_grammar.specs.declared.goal.Make.{Make}
use Rattle.kr_parse_reduction.specs.declared.way.Way.TheVariants as ways
use Rattle.kr_parse_reduction.specs.Plans.{sorts, way, tree}
use Rattle.kr_parse_reduction.specs.Shown.{shown, names_of, Fits, stacked, planned}
use Rattle.kr_parse_reduction.proofs.Roots.{perm_into, reverse_two}
use Rattle.kr_parse_reduction.proofs.Planned.{on_part, on_word, on_member}

abbrev pub first : List Kept → Plan
first vs = tree 0 (place_at vs 2) forms.Other nodes.Nil

abbrev pub second : List Kept → List Kept → Plan
second vs ws = record { taken = 5; place = place_at vs 2; form = forms.Other; node = nodes.Signature (node_at ws 4) (node_at ws 2) (node_at ws 0) }

abbrev pub third : List Kept → List Kept → Plan
third vs xs = tree 3 (place_at vs 2) forms.Other (nodes.Method (modifiers_at vs 4).is_static (name_at vs 2) (node_at xs 1) (node_at xs 0))

-- the values of a method, one by one
on_method : (P : List Kept → Type 0) (vs : List Kept) → are (sorts makes.Method) vs ≡ true
    → ((p0 : Place) (f0 : Form) (i0 : ℕ) (p1 : Place) (f1 : Form) (i1 : ℕ) (p2 : Place) (n2 : Name) (p3 : Place) (f3 : Form) (i3 : ℕ) (b4 : Bool) (m4 : Modifiers) (us : List Kept)
    → P (Part p0 f0 i0 ∷ Part p1 f1 i1 ∷ Word p2 n2 ∷ Part p3 f3 i3 ∷ Member b4 m4 ∷ us)) → P vs
on_method P vs e g =
    on_part (sort.Part ∷ sort.Word ∷ sort.Part ∷ sort.Member ∷ []) P vs e (λ p0 f0 i0 v0 e0.
    on_part (sort.Word ∷ sort.Part ∷ sort.Member ∷ []) (λ (ws : List Kept). P (Part p0 f0 i0 ∷ ws)) v0 e0 (λ p1 f1 i1 v1 e1.
    on_word (sort.Part ∷ sort.Member ∷ []) (λ (ws : List Kept). P (Part p0 f0 i0 ∷ Part p1 f1 i1 ∷ ws)) v1 e1 (λ p2 n2 v2 e2.
    on_part (sort.Member ∷ []) (λ (ws : List Kept). P (Part p0 f0 i0 ∷ Part p1 f1 i1 ∷ Word p2 n2 ∷ ws)) v2 e2 (λ p3 f3 i3 v3 e3.
    on_member [] (λ (ws : List Kept). P (Part p0 f0 i0 ∷ Part p1 f1 i1 ∷ Word p2 n2 ∷ Part p3 f3 i3 ∷ ws)) v3 e3 (λ b4 m4 us e4. g p0 f0 i0 p1 f1 i1 p2 n2 p3 f3 i3 b4 m4 us)))))

pub method_second : (text : List ℕ) (vs ws : List Kept) (i : ℕ) → are (sorts makes.Method) vs ≡ true → ws ≡ stacked (first vs) None i vs → Fits text ws (second vs ws) (Some (value_at ws 1))
method_second text vs ws i e =
    on_method (λ (us : List Kept). ws ≡ stacked (first us) None i us → Fits text ws (second us ws) (Some (value_at ws 1))) vs e
    (λ p0 f0 i0 p1 f1 i1 p2 n2 p3 f3 i3 b4 m4 us q.
    let v : List Kept = Part p0 f0 i0 ∷ Part p1 f1 i1 ∷ Word p2 n2 ∷ Part p3 f3 i3 ∷ Member b4 m4 ∷ us in
    subst (λ (zs : List Kept). Fits text zs (second v zs) (Some (value_at zs 1))) (sym q)
    (record {
      within = omega arith;
      same = onward (keep i (perm_into i0 (i1 ∷ i3 ∷ []) [])) (onward (perm_into i (i1 ∷ i3 ∷ []) (i0 ∷ [])) (flip i1 i3 (i ∷ i0 ∷ [])));
      named = tt;
    }))

pub method_third : (text : List ℕ) (vs ws xs : List Kept) (i j : ℕ) → are (sorts makes.Method) vs ≡ true → ws ≡ stacked (first vs) None i vs → xs ≡ stacked (second vs ws) (Some (value_at ws 1)) j ws
    → AreNamesIn text (names_of vs) → Fits text xs (third vs xs) None
method_third text vs ws xs i j e =
    on_method (λ (us : List Kept). ws ≡ stacked (first us) None i us → xs ≡ stacked (second us ws) (Some (value_at ws 1)) j ws → AreNamesIn text (names_of us) → Fits text xs (third us xs) None) vs e
    (λ p0 f0 i0 p1 f1 i1 p2 n2 p3 f3 i3 b4 m4 us q r n.
    let v : List Kept = Part p0 f0 i0 ∷ Part p1 f1 i1 ∷ Word p2 n2 ∷ Part p3 f3 i3 ∷ Member b4 m4 ∷ us in
    let s = subst (λ (zs : List Kept). xs ≡ stacked (second v zs) (Some (value_at zs 1)) j zs) q r in
    subst (λ (zs : List Kept). Fits text zs (third v zs) None) (sym s)
    (record { within = omega arith; same = reverse_two j i0; named = (n.0, n.1, tt) }))

abbrev Makes : Arena → Arena → Arena → List Kept → List Kept → List Kept → Type 0
Makes a b c vs ws xs = shown b ws ≡ planned a vs (first vs) None → shown c xs ≡ planned b ws (second vs ws) (Some (value_at ws 1)) → planned c xs (third vs xs) None ≡ made makes.Method (shown a vs)

pub method_made : (a b c : Arena) (vs ws xs : List Kept) (i j : ℕ) → are (sorts makes.Method) vs ≡ true → ws ≡ stacked (first vs) None i vs → xs ≡ stacked (second vs ws) (Some (value_at ws 1)) j ws → c.text ≡ a.text
    → shown b ws ≡ planned a vs (first vs) None → shown c xs ≡ planned b ws (second vs ws) (Some (value_at ws 1)) → planned c xs (third vs xs) None ≡ made makes.Method (shown a vs)
method_made a b c vs ws xs i j e =
    on_method (λ (us : List Kept). ws ≡ stacked (first us) None i us → xs ≡ stacked (second us ws) (Some (value_at ws 1)) j ws → c.text ≡ a.text → Makes a b c us ws xs) vs e
    (λ p0 f0 i0 p1 f1 i1 p2 n2 p3 f3 i3 b4 m4 us q r t.
    let v : List Kept = Part p0 f0 i0 ∷ Part p1 f1 i1 ∷ Word p2 n2 ∷ Part p3 f3 i3 ∷ Member b4 m4 ∷ us in
    let s = subst (λ (zs : List Kept). xs ≡ stacked (second v zs) (Some (value_at zs 1)) j zs) q r in
    subst (λ (zs : List Kept). Makes a b c v zs xs) (sym q)
    (subst (λ (zs : List Kept). Makes a b c v (stacked (first v) None i v) zs) (sym s) (λ g h. cc)))

pub below_made : (a : Arena) (vs : List Kept) → are (sorts makes.CompareBelow) vs ≡ true → take 1 (shown a vs) ++ compared (drop 1 (shown a vs)) ≡ made makes.CompareBelow (shown a vs)
below_made a [] e = absurd (false≢true e)
below_made a (v ∷ us) e = refl

pub below_some : (vs : List Kept) → are (sorts makes.CompareBelow) vs ≡ true → 0 < length vs
below_some [] e = absurd (false≢true e)
below_some (v ∷ us) e = omega arith

pub is_method : (m : Make) → way m ≡ ways.Method → m ≡ makes.Method
is_method makes.Method e = refl
is_method _ e = cc

pub is_swap : (m : Make) → way m ≡ ways.Swap → m ≡ makes.Swap
is_swap makes.Swap e = refl
is_swap _ e = cc
