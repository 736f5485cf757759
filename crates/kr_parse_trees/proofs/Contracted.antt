-- A method with contracts, above its signature.
use Rattle.std.proofs.Common.{◌≡◌, ℕ, Bool, true, List, [], ◌∷◌, Some, None, refl, sym, arith, subst}
use Rattle.kr_base.specs.declared.place.Place.{Place}
use Rattle.kr_ast.specs.declared.node.Name.{Name}
use Rattle.kr_ast.specs.declared.node.Node.TheVariants as nodes
use Rattle.kr_ast.specs.Arena.{Arena, AreNamesIn}
use Rattle.kr_parse_grammar.specs.declared.value.Form.{Form}
use Rattle.kr_parse_grammar.specs.declared.value.Form.TheVariants as forms
use Rattle.kr_parse_grammar.specs.declared.value.Modifiers.{Modifiers}
use Rattle.kr_parse_grammar.specs.declared.goal.Make.TheVariants as makes
use Rattle.kr_parse_grammar.specs.Made.{made}
use Rattle.kr_parse_reduction.specs.declared.value.Kept.{Kept}
use Rattle.kr_parse_reduction.specs.declared.value.Kept.TheVariants.{Word, Part, Member}
use Rattle.kr_parse_reduction.specs.declared.value.Sort.TheVariants as sort
use Rattle.kr_parse_reduction.specs.declared.plan.Plan.{Plan}
use Rattle.kr_parse_reduction.specs.Perm.{flip, onward}
use Rattle.kr_parse_reduction.specs.Kept.{are, place_at, node_at, name_at, modifiers_at, value_at}
use Rattle.kr_parse_grammar.specs.declared.goal.Make.{Make}
use Rattle.kr_parse_reduction.specs.declared.way.Way.TheVariants as ways
use Rattle.kr_parse_reduction.specs.Plans.{sorts, way, tree}
use Rattle.kr_parse_reduction.specs.Shown.{shown, names_of, Fits, stacked, planned}
use Rattle.kr_parse_reduction.proofs.Roots.{perm_into, reverse_two}
use Rattle.kr_parse_reduction.proofs.Planned.{on_part, on_word, on_member}

abbrev pub under : List Kept → Plan
under vs = tree 6 (place_at vs 2) forms.Other (nodes.Signature (node_at vs 3) (node_at vs 1) (node_at vs 5))

abbrev pub above : List Kept → List Kept → Plan
above vs xs = tree 2 (place_at vs 2) forms.Other (nodes.Method (modifiers_at vs 4).is_static (name_at vs 2) (node_at xs 1) (node_at xs 0))

-- the values of a method with contracts, one by one
on_contracted : (P : List Kept → Type 0) (vs : List Kept) → are (sorts makes.ContractedMethod) vs ≡ true
    → ((p0 : Place) (f0 : Form) (i0 : ℕ) (p1 : Place) (f1 : Form) (i1 : ℕ) (p2 : Place) (n2 : Name) (p3 : Place) (f3 : Form) (i3 : ℕ) (b4 : Bool) (m4 : Modifiers) (p5 : Place) (f5 : Form) (i5 : ℕ) (us : List Kept)
    → P (Part p0 f0 i0 ∷ Part p1 f1 i1 ∷ Word p2 n2 ∷ Part p3 f3 i3 ∷ Member b4 m4 ∷ Part p5 f5 i5 ∷ us)) → P vs
on_contracted P vs e g =
    on_part (sort.Part ∷ sort.Word ∷ sort.Part ∷ sort.Member ∷ sort.Part ∷ []) P vs e (λ p0 f0 i0 v0 e0.
    on_part (sort.Word ∷ sort.Part ∷ sort.Member ∷ sort.Part ∷ []) (λ (ws : List Kept). P (Part p0 f0 i0 ∷ ws)) v0 e0 (λ p1 f1 i1 v1 e1.
    on_word (sort.Part ∷ sort.Member ∷ sort.Part ∷ []) (λ (ws : List Kept). P (Part p0 f0 i0 ∷ Part p1 f1 i1 ∷ ws)) v1 e1 (λ p2 n2 v2 e2.
    on_part (sort.Member ∷ sort.Part ∷ []) (λ (ws : List Kept). P (Part p0 f0 i0 ∷ Part p1 f1 i1 ∷ Word p2 n2 ∷ ws)) v2 e2 (λ p3 f3 i3 v3 e3.
    on_member (sort.Part ∷ []) (λ (ws : List Kept). P (Part p0 f0 i0 ∷ Part p1 f1 i1 ∷ Word p2 n2 ∷ Part p3 f3 i3 ∷ ws)) v3 e3 (λ b4 m4 v4 e4.
    on_part [] (λ (ws : List Kept). P (Part p0 f0 i0 ∷ Part p1 f1 i1 ∷ Word p2 n2 ∷ Part p3 f3 i3 ∷ Member b4 m4 ∷ ws)) v4 e4 (λ p5 f5 i5 us e5. g p0 f0 i0 p1 f1 i1 p2 n2 p3 f3 i3 b4 m4 p5 f5 i5 us))))))

pub contracted_under : (text : List ℕ) (vs : List Kept) → are (sorts makes.ContractedMethod) vs ≡ true → Fits text vs (under vs) (Some (value_at vs 0))
contracted_under text vs e =
    on_contracted (λ (us : List Kept). Fits text us (under us) (Some (value_at us 0))) vs e
    (λ p0 f0 i0 p1 f1 i1 p2 n2 p3 f3 i3 b4 m4 p5 f5 i5 us.
    record {
      within = omega arith;
      same = onward (perm_into i0 (i1 ∷ i3 ∷ i5 ∷ []) []) (flip i1 i3 (i5 ∷ i0 ∷ []));
      named = tt;
    })

pub contracted_above : (text : List ℕ) (vs xs : List Kept) (j : ℕ) → are (sorts makes.ContractedMethod) vs ≡ true → xs ≡ stacked (under vs) (Some (value_at vs 0)) j vs → AreNamesIn text (names_of vs) → Fits text xs (above vs xs) None
contracted_above text vs xs j e =
    on_contracted (λ (us : List Kept). xs ≡ stacked (under us) (Some (value_at us 0)) j us → AreNamesIn text (names_of us) → Fits text xs (above us xs) None) vs e
    (λ p0 f0 i0 p1 f1 i1 p2 n2 p3 f3 i3 b4 m4 p5 f5 i5 us q n.
    let v : List Kept = Part p0 f0 i0 ∷ Part p1 f1 i1 ∷ Word p2 n2 ∷ Part p3 f3 i3 ∷ Member b4 m4 ∷ Part p5 f5 i5 ∷ us in
    subst (λ (zs : List Kept). Fits text zs (above v zs) None) (sym q)
    (record { within = omega arith; same = reverse_two j i0; named = (n.0, n.1, tt) }))

abbrev Makes : Arena → Arena → List Kept → List Kept → Type 0
Makes a b vs xs = shown b xs ≡ planned a vs (under vs) (Some (value_at vs 0)) → planned b xs (above vs xs) None ≡ made makes.ContractedMethod (shown a vs)

pub contracted_made : (a b : Arena) (vs xs : List Kept) (j : ℕ) → are (sorts makes.ContractedMethod) vs ≡ true → xs ≡ stacked (under vs) (Some (value_at vs 0)) j vs → b.text ≡ a.text
    → shown b xs ≡ planned a vs (under vs) (Some (value_at vs 0)) → planned b xs (above vs xs) None ≡ made makes.ContractedMethod (shown a vs)
contracted_made a b vs xs j e =
    on_contracted (λ (us : List Kept). xs ≡ stacked (under us) (Some (value_at us 0)) j us → b.text ≡ a.text → Makes a b us xs) vs e
    (λ p0 f0 i0 p1 f1 i1 p2 n2 p3 f3 i3 b4 m4 p5 f5 i5 us q t.
    let v : List Kept = Part p0 f0 i0 ∷ Part p1 f1 i1 ∷ Word p2 n2 ∷ Part p3 f3 i3 ∷ Member b4 m4 ∷ Part p5 f5 i5 ∷ us in
    subst (λ (zs : List Kept). Makes a b v zs) (sym q) (λ g. cc))

pub is_contracted : (m : Make) → way m ≡ ways.ContractedMethod → m ≡ makes.ContractedMethod
is_contracted makes.ContractedMethod e = refl
is_contracted _ e = cc
