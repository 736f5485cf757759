-- The moves' values are the results of the reductions.
use Rattle.std.proofs.Common.{◌≡◌, ℕ, ◌≤◌, true, List, [], ◌∷◌, length, drop, refl, sym, ap, arith, subst}
use Rattle.std.proofs.lemmas.Bool.{false≢true}
use Rattle.kr_ast.specs.Arena.{Arena, AreNamesIn}
use Rattle.kr_parse_grammar.specs.declared.goal.Make.{Make}
use Rattle.kr_parse_grammar.specs.declared.goal.Make.TheVariants as makes
use Rattle.kr_parse_grammar.specs.Made.{made}
use Rattle.kr_parse_reduction.specs.declared.value.Kept.{Kept}
use Rattle.kr_parse_reduction.specs.declared.value.Kept.TheVariants.{Word, Part}
use Rattle.kr_parse_reduction.specs.declared.value.Sort.TheVariants as sort
use Rattle.kr_parse_reduction.specs.declared.moves.Move.{Move}
use Rattle.kr_parse_reduction.specs.Perm.{Perm, done, flip}
use Rattle.kr_parse_reduction.specs.Kept.{are, value_at}
use Rattle.kr_parse_reduction.specs.declared.way.Way.TheVariants as ways
use Rattle.kr_parse_reduction.specs.Plans.{sorts, way, move, over}
use Rattle.kr_parse_reduction.specs.Shown.{shown, nodes_of, names_of, AreBuilt, FitsMove, moved}
use Rattle.kr_parse_reduction.proofs.Roots.{perm_refl}
use Rattle.kr_parse_reduction.proofs.Planned.{on_mark, on_word, on_part, on_member, on_owner}
use Rattle.kr_parse_trees.proofs.Growing.{names_append, in_join, in_front, in_back, move_built}

abbrev pub MoveMakes : Make → Arena → List Kept → Move → Type 0
MoveMakes m a vs s = FitsMove a.text vs s × (shown a (moved s vs) ≡ made m (shown a vs))

abbrev Claim : Make → Arena → List Kept → Type 0
Claim m a vs = AreNamesIn a.text (names_of vs) → MoveMakes m a vs (move m vs)

swapped : (v w : Kept) → Perm (nodes_of (v ∷ w ∷ [])) (nodes_of (w ∷ v ∷ []))
swapped (Part p f i) (Part q g j) = flip i j []
swapped (Part p f i) _ = perm_refl (i ∷ [])
swapped v (Part q g j) = perm_refl (j ∷ [])
swapped _ _ = done

swapped_names : (text : List ℕ) (v w : Kept) (us : List Kept) → AreNamesIn text (names_of (v ∷ w ∷ us)) → AreNamesIn text (names_of (w ∷ v ∷ []))
swapped_names text v w us h =
    let k = subst (AreNamesIn text) (names_append (v ∷ []) (w ∷ us)) h in
    let l = subst (AreNamesIn text) (names_append (w ∷ []) us) (in_back text (names_of (v ∷ [])) (names_of (w ∷ us)) k) in
    subst (AreNamesIn text) (sym (names_append (w ∷ []) (v ∷ []))) (in_join text (names_of (w ∷ [])) (names_of (v ∷ [])) (in_front text (names_of (w ∷ [])) (names_of us) l) (in_front text (names_of (v ∷ [])) (names_of (w ∷ us)) k))

of_pair : (a : Arena) (vs : List Kept) → are (sorts makes.Pair) vs ≡ true → Claim makes.Pair a vs
of_pair a vs e = on_word (sort.Word ∷ []) (λ (ws : List Kept). Claim makes.Pair a ws) vs e (λ p0 n0 v0 e0. on_word [] (λ (ws : List Kept). Claim makes.Pair a (Word p0 n0 ∷ ws)) v0 e0 (λ p1 n1 v1 e1. λ h. (record { within = omega arith; same = done; named = (h.2.0, h.2.1, (h.0, h.1, tt)) }, refl)))

of_enclosed : (a : Arena) (vs : List Kept) → are (sorts makes.Enclosed) vs ≡ true → Claim makes.Enclosed a vs
of_enclosed a vs e = on_part (sort.Mark ∷ []) (λ (ws : List Kept). Claim makes.Enclosed a ws) vs e (λ p0 f0 i0 v0 e0. on_mark [] (λ (ws : List Kept). Claim makes.Enclosed a (Part p0 f0 i0 ∷ ws)) v0 e0 (λ k1 p1 v1 e1. λ h. (record { within = omega arith; same = perm_refl (i0 ∷ []); named = tt }, refl)))

of_member_ahead : (a : Arena) (vs : List Kept) → are (sorts makes.MemberAhead) vs ≡ true → Claim makes.MemberAhead a vs
of_member_ahead a vs e = on_owner [] (λ (ws : List Kept). Claim makes.MemberAhead a ws) vs e (λ b0 p0 n0 v0 e0. λ h. (record { within = omega arith; same = done; named = tt }, refl))

of_set_static : (a : Arena) (vs : List Kept) → are (sorts makes.SetStatic) vs ≡ true → Claim makes.SetStatic a vs
of_set_static a vs e = on_member [] (λ (ws : List Kept). Claim makes.SetStatic a ws) vs e (λ b0 m0 v0 e0. λ h. (record { within = omega arith; same = done; named = tt }, refl))

of_set_final : (a : Arena) (vs : List Kept) → are (sorts makes.SetFinal) vs ≡ true → Claim makes.SetFinal a vs
of_set_final a vs e = on_member [] (λ (ws : List Kept). Claim makes.SetFinal a ws) vs e (λ b0 m0 v0 e0. λ h. (record { within = omega arith; same = done; named = tt }, refl))

of_set_overrides : (a : Arena) (vs : List Kept) → are (sorts makes.SetOverrides) vs ≡ true → Claim makes.SetOverrides a vs
of_set_overrides a vs e = on_member [] (λ (ws : List Kept). Claim makes.SetOverrides a ws) vs e (λ b0 m0 v0 e0. λ h. (record { within = omega arith; same = done; named = tt }, refl))

of_owner : (a : Arena) (vs : List Kept) → are (sorts makes.Owner) vs ≡ true → Claim makes.Owner a vs
of_owner a vs e = on_part (sort.Word ∷ []) (λ (ws : List Kept). Claim makes.Owner a ws) vs e (λ p0 f0 i0 v0 e0. on_word [] (λ (ws : List Kept). Claim makes.Owner a (Part p0 f0 i0 ∷ ws)) v0 e0 (λ p1 n1 v1 e1. λ h. (record { within = omega arith; same = perm_refl (i0 ∷ []); named = (h.0, h.1, tt) }, refl)))

of_nested_owner : (a : Arena) (vs : List Kept) → are (sorts makes.NestedOwner) vs ≡ true → Claim makes.NestedOwner a vs
of_nested_owner a vs e = on_part (sort.Word ∷ []) (λ (ws : List Kept). Claim makes.NestedOwner a ws) vs e (λ p0 f0 i0 v0 e0. on_word [] (λ (ws : List Kept). Claim makes.NestedOwner a (Part p0 f0 i0 ∷ ws)) v0 e0 (λ p1 n1 v1 e1. λ h. (record { within = omega arith; same = perm_refl (i0 ∷ []); named = (h.0, h.1, tt) }, refl)))

of_nested : (a : Arena) (vs : List Kept) → are (sorts makes.Nested) vs ≡ true → Claim makes.Nested a vs
of_nested a vs e = on_part (sort.Member ∷ []) (λ (ws : List Kept). Claim makes.Nested a ws) vs e (λ p0 f0 i0 v0 e0. on_member [] (λ (ws : List Kept). Claim makes.Nested a (Part p0 f0 i0 ∷ ws)) v0 e0 (λ b1 m1 v1 e1. λ h. (record { within = omega arith; same = perm_refl (i0 ∷ []); named = tt }, refl)))

swap_fits : (a : Arena) (v w : Kept) (us : List Kept) → AreNamesIn a.text (names_of (v ∷ w ∷ us)) → FitsMove a.text (v ∷ w ∷ us) (over w (v ∷ w ∷ us))
swap_fits a v w us h = record { within = omega arith; same = swapped v w; named = swapped_names a.text v w us h }

pub swap_room : (vs : List Kept) → are (sorts makes.Swap) vs ≡ true → 2 ≤ length vs
swap_room (v ∷ w ∷ us) e = omega arith
swap_room _ e = absurd (false≢true e)

-- the two values on top, swapped
pub swap_makes : (a : Arena) (vs us : List Kept) → are (sorts makes.Swap) vs ≡ true → AreBuilt a vs → us ≡ value_at vs 1 ∷ value_at vs 0 ∷ drop 2 vs
    → AreBuilt a us × (shown a us ≡ made makes.Swap (shown a vs))
swap_makes a (v ∷ w ∷ ts) us e h g = (move_built a (v ∷ w ∷ ts) us (over w (v ∷ w ∷ ts)) h (swap_fits a v w ts h.named) g, ap (shown a) g)
swap_makes a _ us e h g = absurd (false≢true e)

-- a move fits its values, and makes of them what it is to make
move_makes : (m : Make) (a : Arena) (vs : List Kept) → way m ≡ ways.Values → are (sorts m) vs ≡ true → AreNamesIn a.text (names_of vs) → MoveMakes m a vs (move m vs)
move_makes makes.Pair a vs w e = of_pair a vs e
move_makes makes.Enclosed a vs w e = of_enclosed a vs e
move_makes makes.MemberAhead a vs w e = of_member_ahead a vs e
move_makes makes.SetStatic a vs w e = of_set_static a vs e
move_makes makes.SetFinal a vs w e = of_set_final a vs e
move_makes makes.SetOverrides a vs w e = of_set_overrides a vs e
move_makes makes.Owner a vs w e = of_owner a vs e
move_makes makes.NestedOwner a vs w e = of_nested_owner a vs e
move_makes makes.Nested a vs w e = of_nested a vs e
move_makes _ a vs w e = cc

pub one_move : (m : Make) (a : Arena) (vs : List Kept) (s : Move) → way m ≡ ways.Values → are (sorts m) vs ≡ true → AreBuilt a vs → s ≡ move m vs → MoveMakes m a vs s
one_move m a vs s w e h g = subst (MoveMakes m a vs) (sym g) (move_makes m a vs w e h.named)
