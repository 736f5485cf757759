-- The nodes of names, and lists below a value that stays on top.
use Rattle.std.proofs.Common.{◌≡◌, ℕ, ◌<◌, ◌≤◌, true, List, [], ◌∷◌, Option, Some, None, refl, sym, ap, ◌∙◌, arith, subst}
use Rattle.kr_ast.specs.Arena.{Arena, AreNamesIn}
use Rattle.kr_parse_grammar.specs.declared.goal.Make.{Make}
use Rattle.kr_parse_grammar.specs.declared.goal.Make.TheVariants as makes
use Rattle.kr_parse_grammar.specs.Made.{made}
use Rattle.kr_parse_reduction.specs.declared.value.Kept.{Kept}
use Rattle.kr_parse_reduction.specs.declared.value.Kept.TheVariants.{Part, Member, Owner}
use Rattle.kr_parse_reduction.specs.declared.value.Sort.TheVariants as sort
use Rattle.kr_parse_reduction.specs.declared.plan.Plan.{Plan}
use Rattle.kr_parse_reduction.specs.Perm.{done}
use Rattle.kr_parse_reduction.specs.Kept.{are, value_at}
use Rattle.kr_parse_reduction.specs.declared.way.Way.TheVariants as ways
use Rattle.kr_parse_reduction.specs.Plans.{sorts, way, single, lower, upper, below, staying}
use Rattle.kr_parse_reduction.specs.Shown.{shown, names_of, AreBuilt, Fits, stacked, planned}
use Rattle.kr_parse_reduction.proofs.Roots.{perm_refl, reverse_two}
use Rattle.kr_parse_reduction.proofs.Planned.{on_part, on_name, on_member, on_owner, PlanMakes}

-- the single node of a word
abbrev pub SingleMakes : Make → Arena → List Kept → Option Plan → Type 0
SingleMakes m a vs None = Unit {0}
SingleMakes m a vs (Some s) = PlanMakes m a vs s

abbrev SingleClaim : Make → Arena → List Kept → Type 0
SingleClaim m a vs = AreNamesIn a.text (names_of vs) → SingleMakes m a vs (single m vs)

single_variable : (a : Arena) (vs : List Kept) → are (sorts makes.Variable) vs ≡ true → SingleClaim makes.Variable a vs
single_variable a vs e = on_name [] (λ (ws : List Kept). SingleClaim makes.Variable a ws) vs e (λ p0 n0 v0 e0. λ h. (record { within = omega arith; same = done; named = (h.0, h.1, tt) }, refl)) (λ p0 o0 n0 v0 e0. λ h. tt)

single_call : (a : Arena) (vs : List Kept) → are (sorts makes.CallOfName) vs ≡ true → SingleClaim makes.CallOfName a vs
single_call a vs e = on_part (sort.Name ∷ []) (λ (ws : List Kept). SingleClaim makes.CallOfName a ws) vs e (λ p0 f0 i0 v0 e0. on_name [] (λ (ws : List Kept). SingleClaim makes.CallOfName a (Part p0 f0 i0 ∷ ws)) v0 e0 (λ p1 n1 v1 e1. λ h. (record { within = omega arith; same = perm_refl (i0 ∷ []); named = (h.0, h.1, tt) }, refl)) (λ p1 o1 n1 v1 e1. λ h. tt))

single_makes : (m : Make) (a : Arena) (vs : List Kept) → are (sorts m) vs ≡ true → AreNamesIn a.text (names_of vs) → SingleMakes m a vs (single m vs)
single_makes makes.Variable a vs e = single_variable a vs e
single_makes makes.CallOfName a vs e = single_call a vs e
single_makes _ a vs e = λ h. tt

pub one_name : (m : Make) (a : Arena) (vs : List Kept) (s : Plan) → are (sorts m) vs ≡ true → AreBuilt a vs → Some s ≡ single m vs → PlanMakes m a vs s
one_name m a vs s e h g = subst (SingleMakes m a vs) (sym g) (single_makes m a vs e h.named)

-- the upper node fits the values after the lower one, and results in the reduction of the earlier values
abbrev pub UpperMakes : Make → Arena → List Kept → Arena → List Kept → Plan → Type 0
UpperMakes m a vs b ws u = Fits b.text ws u None × (planned b ws u None ≡ made m (shown a vs))

abbrev pub LowerMakes : Make → Arena → List Kept → Plan → Type 0
LowerMakes m a vs s = Fits a.text vs s None × ((b : Arena) (i : ℕ) → AreNamesIn b.text (names_of (stacked s None i vs)) → shown b (stacked s None i vs) ≡ planned a vs s None → UpperMakes m a vs b (stacked s None i vs) (upper m (stacked s None i vs)))

abbrev Claim : Make → Arena → List Kept → Type 0
Claim m a vs = single m vs ≡ None → AreNamesIn a.text (names_of vs) → LowerMakes m a vs (lower m vs)

none_some : (s : Plan) → Some s ≡ None → ⊥
none_some s e = cc

of_generic : (a : Arena) (vs : List Kept) → are (sorts makes.Generic) vs ≡ true → Claim makes.Generic a vs
of_generic a vs e = on_part (sort.Name ∷ []) (λ (ws : List Kept). Claim makes.Generic a ws) vs e (λ p0 f0 i0 v0 e0. on_name [] (λ (ws : List Kept). Claim makes.Generic a (Part p0 f0 i0 ∷ ws)) v0 e0 (λ p1 n1 v1 e1. λ z h. (record { within = omega arith; same = done; named = (h.0, h.1, tt) }, λ b i n g. (record { within = omega arith; same = perm_refl (i ∷ i0 ∷ []); named = tt }, cc))) (λ p1 o1 n1 v1 e1. λ z h. (record { within = omega arith; same = done; named = (h.0, h.1, (h.2.0, h.2.1, tt)) }, λ b i n g. (record { within = omega arith; same = perm_refl (i ∷ i0 ∷ []); named = tt }, cc))))

of_diamond : (a : Arena) (vs : List Kept) → are (sorts makes.Diamond) vs ≡ true → Claim makes.Diamond a vs
of_diamond a vs e = on_name [] (λ (ws : List Kept). Claim makes.Diamond a ws) vs e (λ p0 n0 v0 e0. λ z h. (record { within = omega arith; same = done; named = (h.0, h.1, tt) }, λ b i n g. (record { within = omega arith; same = perm_refl (i ∷ []); named = tt }, cc))) (λ p0 o0 n0 v0 e0. λ z h. (record { within = omega arith; same = done; named = (h.0, h.1, (h.2.0, h.2.1, tt)) }, λ b i n g. (record { within = omega arith; same = perm_refl (i ∷ []); named = tt }, cc)))

of_variable : (a : Arena) (vs : List Kept) → are (sorts makes.Variable) vs ≡ true → Claim makes.Variable a vs
of_variable a vs e = on_name [] (λ (ws : List Kept). Claim makes.Variable a ws) vs e (λ p0 n0 v0 e0. λ z h. absurd (none_some _ z)) (λ p0 o0 n0 v0 e0. λ z h. (record { within = omega arith; same = done; named = (h.0, h.1, tt) }, λ b i n g. (record { within = omega arith; same = perm_refl (i ∷ []); named = (n.2.0, n.2.1, tt) }, cc)))

of_call_of_name : (a : Arena) (vs : List Kept) → are (sorts makes.CallOfName) vs ≡ true → Claim makes.CallOfName a vs
of_call_of_name a vs e = on_part (sort.Name ∷ []) (λ (ws : List Kept). Claim makes.CallOfName a ws) vs e (λ p0 f0 i0 v0 e0. on_name [] (λ (ws : List Kept). Claim makes.CallOfName a (Part p0 f0 i0 ∷ ws)) v0 e0 (λ p1 n1 v1 e1. λ z h. absurd (none_some _ z)) (λ p1 o1 n1 v1 e1. λ z h. (record { within = omega arith; same = done; named = (h.0, h.1, tt) }, λ b i n g. (record { within = omega arith; same = perm_refl (i ∷ i0 ∷ []); named = (n.2.0, n.2.1, tt) }, cc))))

lower_makes : (m : Make) (a : Arena) (vs : List Kept) → way m ≡ ways.Name → are (sorts m) vs ≡ true → single m vs ≡ None → AreNamesIn a.text (names_of vs) → LowerMakes m a vs (lower m vs)
lower_makes makes.Generic a vs w e = of_generic a vs e
lower_makes makes.Diamond a vs w e = of_diamond a vs e
lower_makes makes.Variable a vs w e = of_variable a vs e
lower_makes makes.CallOfName a vs w e = of_call_of_name a vs e
lower_makes _ a vs w e = cc

pub lower_fits : (m : Make) (a : Arena) (vs : List Kept) (s : Plan) → way m ≡ ways.Name → are (sorts m) vs ≡ true → single m vs ≡ None → AreBuilt a vs → s ≡ lower m vs → Fits a.text vs s None
lower_fits m a vs s w e z h g = subst (λ (t : Plan). Fits a.text vs t None) (sym g) (lower_makes m a vs w e z h.named).0

pub both : (m : Make) (a b : Arena) (vs ws : List Kept) (s u : Plan) (i : ℕ) → way m ≡ ways.Name → are (sorts m) vs ≡ true → single m vs ≡ None → AreBuilt a vs → s ≡ lower m vs
    → AreBuilt b ws → ws ≡ stacked s None i vs → shown b ws ≡ planned a vs s None → u ≡ upper m ws → UpperMakes m a vs b ws u
both m a b vs ws s u i w e z h g k q t x =
    let y = subst (LowerMakes m a vs) (sym g) (lower_makes m a vs w e z h.named) in
    subst (UpperMakes m a vs b ws) (sym x)
    (subst (λ (us : List Kept). UpperMakes m a vs b us (upper m us)) (sym q)
    (y.1 b i (subst (λ (us : List Kept). AreNamesIn b.text (names_of us)) q k.named) (ap (shown b) (sym q) ∙ t)))

-- lists below a value that stays on top
abbrev pub BelowMakes : Make → Arena → List Kept → Plan → ℕ → Type 0
BelowMakes m a vs s d = (2 ≤ s.taken) × (d < s.taken) × Fits a.text vs s (Some (value_at vs d)) × (planned a vs s (Some (value_at vs d)) ≡ made m (shown a vs))

abbrev BelowClaim : Make → Arena → List Kept → Type 0
BelowClaim m a vs = AreNamesIn a.text (names_of vs) → BelowMakes m a vs (below m vs) (staying m)

of_cons_below : (a : Arena) (vs : List Kept) → are (sorts makes.ConsBelow) vs ≡ true → BelowClaim makes.ConsBelow a vs
of_cons_below a vs e = on_owner (sort.Part ∷ sort.Part ∷ []) (λ (ws : List Kept). BelowClaim makes.ConsBelow a ws) vs e (λ b0 p0 n0 v0 e0. on_part (sort.Part ∷ []) (λ (ws : List Kept). BelowClaim makes.ConsBelow a (Owner b0 p0 n0 ∷ ws)) v0 e0 (λ p1 f1 i1 v1 e1. on_part [] (λ (ws : List Kept). BelowClaim makes.ConsBelow a (Owner b0 p0 n0 ∷ Part p1 f1 i1 ∷ ws)) v1 e1 (λ p2 f2 i2 v2 e2. λ h. (omega arith, omega arith, record { within = omega arith; same = reverse_two i2 i1; named = (h.0, h.1, tt) }, refl))))

of_end_members : (a : Arena) (vs : List Kept) → are (sorts makes.EndMembers) vs ≡ true → BelowClaim makes.EndMembers a vs
of_end_members a vs e = on_member (sort.Owner ∷ []) (λ (ws : List Kept). BelowClaim makes.EndMembers a ws) vs e (λ b0 m0 v0 e0. on_owner [] (λ (ws : List Kept). BelowClaim makes.EndMembers a (Member b0 m0 ∷ ws)) v0 e0 (λ b1 p1 n1 v1 e1. λ h. (omega arith, omega arith, record { within = omega arith; same = done; named = (h.0, h.1, tt) }, refl)))

below_makes : (m : Make) (a : Arena) (vs : List Kept) → way m ≡ ways.Under → are (sorts m) vs ≡ true → AreNamesIn a.text (names_of vs) → BelowMakes m a vs (below m vs) (staying m)
below_makes makes.ConsBelow a vs w e = of_cons_below a vs e
below_makes makes.EndMembers a vs w e = of_end_members a vs e
below_makes _ a vs w e = cc

pub one_below : (m : Make) (a : Arena) (vs : List Kept) (s : Plan) (d : ℕ) → way m ≡ ways.Under → are (sorts m) vs ≡ true → AreBuilt a vs → s ≡ below m vs → d ≡ staying m → BelowMakes m a vs s d
one_below m a vs s d w e h g k = subst (λ (t : Plan). BelowMakes m a vs t d) (sym g) (subst (BelowMakes m a vs (below m vs)) (sym k) (below_makes m a vs w e h.named))
