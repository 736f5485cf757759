-- The plans' values are the results of the reductions.
use Rattle.std.proofs.Common.{◌≡◌, ℕ, Bool, true, List, [], ◌∷◌, None, refl, sym, ap, arith, subst}
use Rattle.std.proofs.lemmas.Bool.{false≢true}
use Rattle.kr_base.specs.declared.place.Place.{Place}
use Rattle.kr_lex.specs.declared.kind.Kind.{Kind}
use Rattle.kr_lex.specs.declared.kind.Kind.TheVariants as kinds
use Rattle.kr_ast.specs.declared.node.Name.{Name}
use Rattle.kr_ast.specs.Tree.{Tree}
use Rattle.kr_ast.specs.Arena.{Arena, tree_of, tree_at, parts, names, AreNamesIn}
use Rattle.kr_parse_grammar.specs.declared.value.Form.{Form}
use Rattle.kr_parse_grammar.specs.declared.value.Form.TheVariants as forms
use Rattle.kr_parse_grammar.specs.declared.value.Modifiers.{Modifiers}
use Rattle.kr_parse_grammar.specs.declared.goal.Make.{Make}
use Rattle.kr_parse_grammar.specs.declared.goal.Make.TheVariants as makes
use Rattle.kr_parse_grammar.specs.Values.{part}
use Rattle.kr_parse_grammar.specs.Made.{made, assigned, jump}
use Rattle.kr_parse_reduction.specs.declared.value.Kept.{Kept}
use Rattle.kr_parse_reduction.specs.declared.value.Kept.TheVariants.{Mark, Word, Pair, Part, Member, Owner}
use Rattle.kr_parse_reduction.specs.declared.value.Sort.{Sort}
use Rattle.kr_parse_reduction.specs.declared.value.Sort.TheVariants as sort
use Rattle.kr_parse_reduction.specs.declared.plan.Plan.{Plan}
use Rattle.kr_parse_reduction.specs.Perm.{done}
use Rattle.kr_parse_reduction.specs.Kept.{are}
use Rattle.kr_parse_reduction.specs.declared.way.Way.TheVariants as ways
use Rattle.kr_parse_reduction.specs.Plans.{sorts, way, plan, assignment, jump_node}
use Rattle.kr_parse_reduction.specs.Shown.{shown, names_of, AreBuilt, Fits, planned}
use Rattle.kr_parse_reduction.proofs.Roots.{perm_refl, reverse_two, reverse_three, reverse_four}

-- the values on top are of the sorts that are asked for
pub on_mark : (ss : List Sort) (P : List Kept → Type 0) (vs : List Kept) → are (sort.Mark ∷ ss) vs ≡ true → ((k : Kind) (p : Place) (us : List Kept) → are ss us ≡ true → P (Mark k p ∷ us)) → P vs
on_mark ss P (Mark k p ∷ us) e g = g k p us e
on_mark ss P _ e g = absurd (false≢true e)

pub on_word : (ss : List Sort) (P : List Kept → Type 0) (vs : List Kept) → are (sort.Word ∷ ss) vs ≡ true → ((p : Place) (n : Name) (us : List Kept) → are ss us ≡ true → P (Word p n ∷ us)) → P vs
on_word ss P (Word p n ∷ us) e g = g p n us e
on_word ss P _ e g = absurd (false≢true e)

pub on_part : (ss : List Sort) (P : List Kept → Type 0) (vs : List Kept) → are (sort.Part ∷ ss) vs ≡ true → ((p : Place) (f : Form) (i : ℕ) (us : List Kept) → are ss us ≡ true → P (Part p f i ∷ us)) → P vs
on_part ss P (Part p f i ∷ us) e g = g p f i us e
on_part ss P _ e g = absurd (false≢true e)

pub on_member : (ss : List Sort) (P : List Kept → Type 0) (vs : List Kept) → are (sort.Member ∷ ss) vs ≡ true → ((b : Bool) (m : Modifiers) (us : List Kept) → are ss us ≡ true → P (Member b m ∷ us)) → P vs
on_member ss P (Member b m ∷ us) e g = g b m us e
on_member ss P _ e g = absurd (false≢true e)

pub on_owner : (ss : List Sort) (P : List Kept → Type 0) (vs : List Kept) → are (sort.Owner ∷ ss) vs ≡ true → ((b : Bool) (p : Place) (n : Name) (us : List Kept) → are ss us ≡ true → P (Owner b p n ∷ us)) → P vs
on_owner ss P (Owner b p n ∷ us) e g = g b p n us e
on_owner ss P _ e g = absurd (false≢true e)

pub on_name : (ss : List Sort) (P : List Kept → Type 0) (vs : List Kept) → are (sort.Name ∷ ss) vs ≡ true → ((p : Place) (n : Name) (us : List Kept) → are ss us ≡ true → P (Word p n ∷ us)) → ((p : Place) (o n : Name) (us : List Kept) → are ss us ≡ true → P (Pair p o n ∷ us)) → P vs
on_name ss P (Word p n ∷ us) e g h = g p n us e
on_name ss P (Pair p o n ∷ us) e g h = h p o n us e
on_name ss P _ e g h = absurd (false≢true e)

-- the node fits its values, and makes of them what it is to make
abbrev pub PlanMakes : Make → Arena → List Kept → Plan → Type 0
PlanMakes m a vs s = Fits a.text vs s None × (planned a vs s None ≡ made m (shown a vs))

abbrev Claim : Make → Arena → List Kept → Type 0
Claim m a vs = AreNamesIn a.text (names_of vs) → PlanMakes m a vs (plan m vs)

parts_of_assignment : (k : Kind) (i j : ℕ) → parts (assignment k i j) ≡ i ∷ j ∷ []
parts_of_assignment kinds.Equal i j = refl
parts_of_assignment _ i j = refl

names_of_assignment : (k : Kind) (i j : ℕ) → names (assignment k i j) ≡ []
names_of_assignment kinds.Equal i j = refl
names_of_assignment _ i j = refl

tree_of_assignment : (text : List ℕ) (look : ℕ → Tree) (p : Place) (k : Kind) (i j : ℕ) → tree_of text look p (assignment k i j) ≡ assigned k p (look i) (look j)
tree_of_assignment text look p kinds.Equal i j = refl
tree_of_assignment text look p _ i j = refl

parts_of_jump : (k : Kind) → parts (jump_node k) ≡ []
parts_of_jump kinds.Break = refl
parts_of_jump _ = refl

names_of_jump : (k : Kind) → names (jump_node k) ≡ []
names_of_jump kinds.Break = refl
names_of_jump _ = refl

tree_of_jump : (text : List ℕ) (look : ℕ → Tree) (p : Place) (k : Kind) → tree_of text look p (jump_node k) ≡ jump k p
tree_of_jump text look p kinds.Break = refl
tree_of_jump text look p _ = refl

of_type_of_mark : (a : Arena) (vs : List Kept) → are (sorts makes.TypeOfMark) vs ≡ true → Claim makes.TypeOfMark a vs
of_type_of_mark a vs e = on_mark [] (λ (ws : List Kept). Claim makes.TypeOfMark a ws) vs e (λ k0 p0 v0 e0. λ h. (record { within = omega arith; same = done; named = tt }, refl))

of_type_of_name : (a : Arena) (vs : List Kept) → are (sorts makes.TypeOfName) vs ≡ true → Claim makes.TypeOfName a vs
of_type_of_name a vs e = on_name [] (λ (ws : List Kept). Claim makes.TypeOfName a ws) vs e (λ p0 n0 v0 e0. λ h. (record { within = omega arith; same = done; named = (h.0, h.1, tt) }, refl)) (λ p0 o0 n0 v0 e0. λ h. (record { within = omega arith; same = done; named = (h.0, h.1, (h.2.0, h.2.1, tt)) }, refl))

of_array : (a : Arena) (vs : List Kept) → are (sorts makes.Array) vs ≡ true → Claim makes.Array a vs
of_array a vs e = on_part [] (λ (ws : List Kept). Claim makes.Array a ws) vs e (λ p0 f0 i0 v0 e0. λ h. (record { within = omega arith; same = perm_refl (i0 ∷ []); named = tt }, refl))

of_super_call : (a : Arena) (vs : List Kept) → are (sorts makes.SuperCall) vs ≡ true → Claim makes.SuperCall a vs
of_super_call a vs e = on_part (sort.Word ∷ sort.Mark ∷ []) (λ (ws : List Kept). Claim makes.SuperCall a ws) vs e (λ p0 f0 i0 v0 e0. on_word (sort.Mark ∷ []) (λ (ws : List Kept). Claim makes.SuperCall a (Part p0 f0 i0 ∷ ws)) v0 e0 (λ p1 n1 v1 e1. on_mark [] (λ (ws : List Kept). Claim makes.SuperCall a (Part p0 f0 i0 ∷ Word p1 n1 ∷ ws)) v1 e1 (λ k2 p2 v2 e2. λ h. (record { within = omega arith; same = perm_refl (i0 ∷ []); named = (h.0, h.1, tt) }, refl))))

of_object_creation : (a : Arena) (vs : List Kept) → are (sorts makes.ObjectCreation) vs ≡ true → Claim makes.ObjectCreation a vs
of_object_creation a vs e = on_part (sort.Part ∷ sort.Mark ∷ []) (λ (ws : List Kept). Claim makes.ObjectCreation a ws) vs e (λ p0 f0 i0 v0 e0. on_part (sort.Mark ∷ []) (λ (ws : List Kept). Claim makes.ObjectCreation a (Part p0 f0 i0 ∷ ws)) v0 e0 (λ p1 f1 i1 v1 e1. on_mark [] (λ (ws : List Kept). Claim makes.ObjectCreation a (Part p0 f0 i0 ∷ Part p1 f1 i1 ∷ ws)) v1 e1 (λ k2 p2 v2 e2. λ h. (record { within = omega arith; same = reverse_two i1 i0; named = tt }, refl))))

of_array_creation : (a : Arena) (vs : List Kept) → are (sorts makes.ArrayCreation) vs ≡ true → Claim makes.ArrayCreation a vs
of_array_creation a vs e = on_part (sort.Part ∷ sort.Mark ∷ []) (λ (ws : List Kept). Claim makes.ArrayCreation a ws) vs e (λ p0 f0 i0 v0 e0. on_part (sort.Mark ∷ []) (λ (ws : List Kept). Claim makes.ArrayCreation a (Part p0 f0 i0 ∷ ws)) v0 e0 (λ p1 f1 i1 v1 e1. on_mark [] (λ (ws : List Kept). Claim makes.ArrayCreation a (Part p0 f0 i0 ∷ Part p1 f1 i1 ∷ ws)) v1 e1 (λ k2 p2 v2 e2. λ h. (record { within = omega arith; same = reverse_two i1 i0; named = tt }, refl))))

of_field_access : (a : Arena) (vs : List Kept) → are (sorts makes.FieldAccess) vs ≡ true → Claim makes.FieldAccess a vs
of_field_access a vs e = on_word (sort.Part ∷ []) (λ (ws : List Kept). Claim makes.FieldAccess a ws) vs e (λ p0 n0 v0 e0. on_part [] (λ (ws : List Kept). Claim makes.FieldAccess a (Word p0 n0 ∷ ws)) v0 e0 (λ p1 f1 i1 v1 e1. λ h. (record { within = omega arith; same = perm_refl (i1 ∷ []); named = (h.0, h.1, tt) }, refl)))

of_method_call : (a : Arena) (vs : List Kept) → are (sorts makes.MethodCall) vs ≡ true → Claim makes.MethodCall a vs
of_method_call a vs e = on_part (sort.Word ∷ sort.Part ∷ []) (λ (ws : List Kept). Claim makes.MethodCall a ws) vs e (λ p0 f0 i0 v0 e0. on_word (sort.Part ∷ []) (λ (ws : List Kept). Claim makes.MethodCall a (Part p0 f0 i0 ∷ ws)) v0 e0 (λ p1 n1 v1 e1. on_part [] (λ (ws : List Kept). Claim makes.MethodCall a (Part p0 f0 i0 ∷ Word p1 n1 ∷ ws)) v1 e1 (λ p2 f2 i2 v2 e2. λ h. (record { within = omega arith; same = reverse_two i2 i0; named = (h.0, h.1, tt) }, refl))))

of_array_access : (a : Arena) (vs : List Kept) → are (sorts makes.ArrayAccess) vs ≡ true → Claim makes.ArrayAccess a vs
of_array_access a vs e = on_part (sort.Part ∷ []) (λ (ws : List Kept). Claim makes.ArrayAccess a ws) vs e (λ p0 f0 i0 v0 e0. on_part [] (λ (ws : List Kept). Claim makes.ArrayAccess a (Part p0 f0 i0 ∷ ws)) v0 e0 (λ p1 f1 i1 v1 e1. λ h. (record { within = omega arith; same = reverse_two i1 i0; named = tt }, refl)))

of_step_behind : (a : Arena) (vs : List Kept) → are (sorts makes.StepBehind) vs ≡ true → Claim makes.StepBehind a vs
of_step_behind a vs e = on_mark (sort.Part ∷ []) (λ (ws : List Kept). Claim makes.StepBehind a ws) vs e (λ k0 p0 v0 e0. on_part [] (λ (ws : List Kept). Claim makes.StepBehind a (Mark k0 p0 ∷ ws)) v0 e0 (λ p1 f1 i1 v1 e1. λ h. (record { within = omega arith; same = perm_refl (i1 ∷ []); named = tt }, refl)))

of_step_before : (a : Arena) (vs : List Kept) → are (sorts makes.StepBefore) vs ≡ true → Claim makes.StepBefore a vs
of_step_before a vs e = on_part (sort.Mark ∷ []) (λ (ws : List Kept). Claim makes.StepBefore a ws) vs e (λ p0 f0 i0 v0 e0. on_mark [] (λ (ws : List Kept). Claim makes.StepBefore a (Part p0 f0 i0 ∷ ws)) v0 e0 (λ k1 p1 v1 e1. λ h. (record { within = omega arith; same = perm_refl (i0 ∷ []); named = tt }, refl)))

of_unary : (a : Arena) (vs : List Kept) → are (sorts makes.Unary) vs ≡ true → Claim makes.Unary a vs
of_unary a vs e = on_part (sort.Mark ∷ []) (λ (ws : List Kept). Claim makes.Unary a ws) vs e (λ p0 f0 i0 v0 e0. on_mark [] (λ (ws : List Kept). Claim makes.Unary a (Part p0 f0 i0 ∷ ws)) v0 e0 (λ k1 p1 v1 e1. λ h. (record { within = omega arith; same = perm_refl (i0 ∷ []); named = tt }, refl)))

of_old : (a : Arena) (vs : List Kept) → are (sorts makes.Old) vs ≡ true → Claim makes.Old a vs
of_old a vs e = on_part (sort.Mark ∷ []) (λ (ws : List Kept). Claim makes.Old a ws) vs e (λ p0 f0 i0 v0 e0. on_mark [] (λ (ws : List Kept). Claim makes.Old a (Part p0 f0 i0 ∷ ws)) v0 e0 (λ k1 p1 v1 e1. λ h. (record { within = omega arith; same = perm_refl (i0 ∷ []); named = tt }, refl)))

of_requires : (a : Arena) (vs : List Kept) → are (sorts makes.Requires) vs ≡ true → Claim makes.Requires a vs
of_requires a vs e = on_part (sort.Mark ∷ []) (λ (ws : List Kept). Claim makes.Requires a ws) vs e (λ p0 f0 i0 v0 e0. on_mark [] (λ (ws : List Kept). Claim makes.Requires a (Part p0 f0 i0 ∷ ws)) v0 e0 (λ k1 p1 v1 e1. λ h. (record { within = omega arith; same = perm_refl (i0 ∷ []); named = tt }, refl)))

of_ensures : (a : Arena) (vs : List Kept) → are (sorts makes.Ensures) vs ≡ true → Claim makes.Ensures a vs
of_ensures a vs e = on_part (sort.Mark ∷ []) (λ (ws : List Kept). Claim makes.Ensures a ws) vs e (λ p0 f0 i0 v0 e0. on_mark [] (λ (ws : List Kept). Claim makes.Ensures a (Part p0 f0 i0 ∷ ws)) v0 e0 (λ k1 p1 v1 e1. λ h. (record { within = omega arith; same = perm_refl (i0 ∷ []); named = tt }, refl)))

of_cast : (a : Arena) (vs : List Kept) → are (sorts makes.Cast) vs ≡ true → Claim makes.Cast a vs
of_cast a vs e = on_part (sort.Part ∷ sort.Mark ∷ []) (λ (ws : List Kept). Claim makes.Cast a ws) vs e (λ p0 f0 i0 v0 e0. on_part (sort.Mark ∷ []) (λ (ws : List Kept). Claim makes.Cast a (Part p0 f0 i0 ∷ ws)) v0 e0 (λ p1 f1 i1 v1 e1. on_mark [] (λ (ws : List Kept). Claim makes.Cast a (Part p0 f0 i0 ∷ Part p1 f1 i1 ∷ ws)) v1 e1 (λ k2 p2 v2 e2. λ h. (record { within = omega arith; same = reverse_two i1 i0; named = tt }, refl))))

of_binary : (a : Arena) (vs : List Kept) → are (sorts makes.Binary) vs ≡ true → Claim makes.Binary a vs
of_binary a vs e = on_part (sort.Mark ∷ sort.Part ∷ []) (λ (ws : List Kept). Claim makes.Binary a ws) vs e (λ p0 f0 i0 v0 e0. on_mark (sort.Part ∷ []) (λ (ws : List Kept). Claim makes.Binary a (Part p0 f0 i0 ∷ ws)) v0 e0 (λ k1 p1 v1 e1. on_part [] (λ (ws : List Kept). Claim makes.Binary a (Part p0 f0 i0 ∷ Mark k1 p1 ∷ ws)) v1 e1 (λ p2 f2 i2 v2 e2. λ h. (record { within = omega arith; same = reverse_two i2 i0; named = tt }, refl))))

of_less : (a : Arena) (vs : List Kept) → are (sorts makes.Less) vs ≡ true → Claim makes.Less a vs
of_less a vs e = on_part (sort.Part ∷ []) (λ (ws : List Kept). Claim makes.Less a ws) vs e (λ p0 f0 i0 v0 e0. on_part [] (λ (ws : List Kept). Claim makes.Less a (Part p0 f0 i0 ∷ ws)) v0 e0 (λ p1 f1 i1 v1 e1. λ h. (record { within = omega arith; same = reverse_two i1 i0; named = tt }, refl)))

of_greater : (a : Arena) (vs : List Kept) → are (sorts makes.Greater) vs ≡ true → Claim makes.Greater a vs
of_greater a vs e = on_part (sort.Part ∷ []) (λ (ws : List Kept). Claim makes.Greater a ws) vs e (λ p0 f0 i0 v0 e0. on_part [] (λ (ws : List Kept). Claim makes.Greater a (Part p0 f0 i0 ∷ ws)) v0 e0 (λ p1 f1 i1 v1 e1. λ h. (record { within = omega arith; same = reverse_two i1 i0; named = tt }, refl)))

of_instance_of : (a : Arena) (vs : List Kept) → are (sorts makes.InstanceOf) vs ≡ true → Claim makes.InstanceOf a vs
of_instance_of a vs e = on_part (sort.Part ∷ []) (λ (ws : List Kept). Claim makes.InstanceOf a ws) vs e (λ p0 f0 i0 v0 e0. on_part [] (λ (ws : List Kept). Claim makes.InstanceOf a (Part p0 f0 i0 ∷ ws)) v0 e0 (λ p1 f1 i1 v1 e1. λ h. (record { within = omega arith; same = reverse_two i1 i0; named = tt }, refl)))

of_conditional : (a : Arena) (vs : List Kept) → are (sorts makes.Conditional) vs ≡ true → Claim makes.Conditional a vs
of_conditional a vs e = on_part (sort.Part ∷ sort.Part ∷ []) (λ (ws : List Kept). Claim makes.Conditional a ws) vs e (λ p0 f0 i0 v0 e0. on_part (sort.Part ∷ []) (λ (ws : List Kept). Claim makes.Conditional a (Part p0 f0 i0 ∷ ws)) v0 e0 (λ p1 f1 i1 v1 e1. on_part [] (λ (ws : List Kept). Claim makes.Conditional a (Part p0 f0 i0 ∷ Part p1 f1 i1 ∷ ws)) v1 e1 (λ p2 f2 i2 v2 e2. λ h. (record { within = omega arith; same = reverse_three i2 i1 i0; named = tt }, refl))))

of_assign : (a : Arena) (vs : List Kept) → are (sorts makes.Assign) vs ≡ true → Claim makes.Assign a vs
of_assign a vs e = on_part (sort.Mark ∷ sort.Part ∷ []) (λ (ws : List Kept). Claim makes.Assign a ws) vs e (λ p0 f0 i0 v0 e0. on_mark (sort.Part ∷ []) (λ (ws : List Kept). Claim makes.Assign a (Part p0 f0 i0 ∷ ws)) v0 e0 (λ k1 p1 v1 e1. on_part [] (λ (ws : List Kept). Claim makes.Assign a (Part p0 f0 i0 ∷ Mark k1 p1 ∷ ws)) v1 e1 (λ p2 f2 i2 v2 e2. λ h. (record { within = omega arith; same = rw (parts_of_assignment k1 i2 i0) (reverse_two i2 i0); named = rw (names_of_assignment k1 i2 i0) tt }, ap (λ (t : Tree). part p2 forms.Other t ∷ shown a v2) (tree_of_assignment a.text (tree_at a.text a.entries) p2 k1 i2 i0)))))

of_declarator : (a : Arena) (vs : List Kept) → are (sorts makes.Declarator) vs ≡ true → Claim makes.Declarator a vs
of_declarator a vs e = on_part (sort.Word ∷ []) (λ (ws : List Kept). Claim makes.Declarator a ws) vs e (λ p0 f0 i0 v0 e0. on_word [] (λ (ws : List Kept). Claim makes.Declarator a (Part p0 f0 i0 ∷ ws)) v0 e0 (λ p1 n1 v1 e1. λ h. (record { within = omega arith; same = perm_refl (i0 ∷ []); named = (h.0, h.1, tt) }, refl)))

of_local : (a : Arena) (vs : List Kept) → are (sorts makes.Local) vs ≡ true → Claim makes.Local a vs
of_local a vs e = on_part (sort.Part ∷ []) (λ (ws : List Kept). Claim makes.Local a ws) vs e (λ p0 f0 i0 v0 e0. on_part [] (λ (ws : List Kept). Claim makes.Local a (Part p0 f0 i0 ∷ ws)) v0 e0 (λ p1 f1 i1 v1 e1. λ h. (record { within = omega arith; same = reverse_two i1 i0; named = tt }, refl)))

of_expression_statement : (a : Arena) (vs : List Kept) → are (sorts makes.ExpressionStatement) vs ≡ true → Claim makes.ExpressionStatement a vs
of_expression_statement a vs e = on_part [] (λ (ws : List Kept). Claim makes.ExpressionStatement a ws) vs e (λ p0 f0 i0 v0 e0. λ h. (record { within = omega arith; same = perm_refl (i0 ∷ []); named = tt }, refl))

of_block : (a : Arena) (vs : List Kept) → are (sorts makes.Block) vs ≡ true → Claim makes.Block a vs
of_block a vs e = on_part (sort.Mark ∷ []) (λ (ws : List Kept). Claim makes.Block a ws) vs e (λ p0 f0 i0 v0 e0. on_mark [] (λ (ws : List Kept). Claim makes.Block a (Part p0 f0 i0 ∷ ws)) v0 e0 (λ k1 p1 v1 e1. λ h. (record { within = omega arith; same = perm_refl (i0 ∷ []); named = tt }, refl)))

of_return : (a : Arena) (vs : List Kept) → are (sorts makes.Return) vs ≡ true → Claim makes.Return a vs
of_return a vs e = on_part (sort.Mark ∷ []) (λ (ws : List Kept). Claim makes.Return a ws) vs e (λ p0 f0 i0 v0 e0. on_mark [] (λ (ws : List Kept). Claim makes.Return a (Part p0 f0 i0 ∷ ws)) v0 e0 (λ k1 p1 v1 e1. λ h. (record { within = omega arith; same = perm_refl (i0 ∷ []); named = tt }, refl)))

of_constructor_call : (a : Arena) (vs : List Kept) → are (sorts makes.ConstructorCall) vs ≡ true → Claim makes.ConstructorCall a vs
of_constructor_call a vs e = on_part (sort.Mark ∷ []) (λ (ws : List Kept). Claim makes.ConstructorCall a ws) vs e (λ p0 f0 i0 v0 e0. on_mark [] (λ (ws : List Kept). Claim makes.ConstructorCall a (Part p0 f0 i0 ∷ ws)) v0 e0 (λ k1 p1 v1 e1. λ h. (record { within = omega arith; same = perm_refl (i0 ∷ []); named = tt }, refl)))

of_empty : (a : Arena) (vs : List Kept) → are (sorts makes.Empty) vs ≡ true → Claim makes.Empty a vs
of_empty a vs e = on_mark [] (λ (ws : List Kept). Claim makes.Empty a ws) vs e (λ k0 p0 v0 e0. λ h. (record { within = omega arith; same = done; named = tt }, refl))

of_jump : (a : Arena) (vs : List Kept) → are (sorts makes.Jump) vs ≡ true → Claim makes.Jump a vs
of_jump a vs e = on_mark [] (λ (ws : List Kept). Claim makes.Jump a ws) vs e (λ k0 p0 v0 e0. λ h. (record { within = omega arith; same = rw (parts_of_jump k0) done; named = rw (names_of_jump k0) tt }, ap (λ (t : Tree). part p0 forms.Other t ∷ shown a v0) (tree_of_jump a.text (tree_at a.text a.entries) p0 k0)))

of_if_then : (a : Arena) (vs : List Kept) → are (sorts makes.IfThen) vs ≡ true → Claim makes.IfThen a vs
of_if_then a vs e = on_part (sort.Part ∷ sort.Mark ∷ []) (λ (ws : List Kept). Claim makes.IfThen a ws) vs e (λ p0 f0 i0 v0 e0. on_part (sort.Mark ∷ []) (λ (ws : List Kept). Claim makes.IfThen a (Part p0 f0 i0 ∷ ws)) v0 e0 (λ p1 f1 i1 v1 e1. on_mark [] (λ (ws : List Kept). Claim makes.IfThen a (Part p0 f0 i0 ∷ Part p1 f1 i1 ∷ ws)) v1 e1 (λ k2 p2 v2 e2. λ h. (record { within = omega arith; same = reverse_two i1 i0; named = tt }, refl))))

of_while : (a : Arena) (vs : List Kept) → are (sorts makes.While) vs ≡ true → Claim makes.While a vs
of_while a vs e = on_part (sort.Part ∷ sort.Mark ∷ []) (λ (ws : List Kept). Claim makes.While a ws) vs e (λ p0 f0 i0 v0 e0. on_part (sort.Mark ∷ []) (λ (ws : List Kept). Claim makes.While a (Part p0 f0 i0 ∷ ws)) v0 e0 (λ p1 f1 i1 v1 e1. on_mark [] (λ (ws : List Kept). Claim makes.While a (Part p0 f0 i0 ∷ Part p1 f1 i1 ∷ ws)) v1 e1 (λ k2 p2 v2 e2. λ h. (record { within = omega arith; same = reverse_two i1 i0; named = tt }, refl))))

of_do : (a : Arena) (vs : List Kept) → are (sorts makes.Do) vs ≡ true → Claim makes.Do a vs
of_do a vs e = on_part (sort.Part ∷ sort.Mark ∷ []) (λ (ws : List Kept). Claim makes.Do a ws) vs e (λ p0 f0 i0 v0 e0. on_part (sort.Mark ∷ []) (λ (ws : List Kept). Claim makes.Do a (Part p0 f0 i0 ∷ ws)) v0 e0 (λ p1 f1 i1 v1 e1. on_mark [] (λ (ws : List Kept). Claim makes.Do a (Part p0 f0 i0 ∷ Part p1 f1 i1 ∷ ws)) v1 e1 (λ k2 p2 v2 e2. λ h. (record { within = omega arith; same = reverse_two i1 i0; named = tt }, refl))))

of_throw : (a : Arena) (vs : List Kept) → are (sorts makes.Throw) vs ≡ true → Claim makes.Throw a vs
of_throw a vs e = on_part (sort.Mark ∷ []) (λ (ws : List Kept). Claim makes.Throw a ws) vs e (λ p0 f0 i0 v0 e0. on_mark [] (λ (ws : List Kept). Claim makes.Throw a (Part p0 f0 i0 ∷ ws)) v0 e0 (λ k1 p1 v1 e1. λ h. (record { within = omega arith; same = perm_refl (i0 ∷ []); named = tt }, refl)))

of_try : (a : Arena) (vs : List Kept) → are (sorts makes.Try) vs ≡ true → Claim makes.Try a vs
of_try a vs e = on_part (sort.Part ∷ sort.Mark ∷ []) (λ (ws : List Kept). Claim makes.Try a ws) vs e (λ p0 f0 i0 v0 e0. on_part (sort.Mark ∷ []) (λ (ws : List Kept). Claim makes.Try a (Part p0 f0 i0 ∷ ws)) v0 e0 (λ p1 f1 i1 v1 e1. on_mark [] (λ (ws : List Kept). Claim makes.Try a (Part p0 f0 i0 ∷ Part p1 f1 i1 ∷ ws)) v1 e1 (λ k2 p2 v2 e2. λ h. (record { within = omega arith; same = reverse_two i1 i0; named = tt }, refl))))

of_catch : (a : Arena) (vs : List Kept) → are (sorts makes.Catch) vs ≡ true → Claim makes.Catch a vs
of_catch a vs e = on_part (sort.Part ∷ sort.Mark ∷ []) (λ (ws : List Kept). Claim makes.Catch a ws) vs e (λ p0 f0 i0 v0 e0. on_part (sort.Mark ∷ []) (λ (ws : List Kept). Claim makes.Catch a (Part p0 f0 i0 ∷ ws)) v0 e0 (λ p1 f1 i1 v1 e1. on_mark [] (λ (ws : List Kept). Claim makes.Catch a (Part p0 f0 i0 ∷ Part p1 f1 i1 ∷ ws)) v1 e1 (λ k2 p2 v2 e2. λ h. (record { within = omega arith; same = reverse_two i1 i0; named = tt }, refl))))

of_signals : (a : Arena) (vs : List Kept) → are (sorts makes.Signals) vs ≡ true → Claim makes.Signals a vs
of_signals a vs e = on_part (sort.Part ∷ sort.Mark ∷ []) (λ (ws : List Kept). Claim makes.Signals a ws) vs e (λ p0 f0 i0 v0 e0. on_part (sort.Mark ∷ []) (λ (ws : List Kept). Claim makes.Signals a (Part p0 f0 i0 ∷ ws)) v0 e0 (λ p1 f1 i1 v1 e1. on_mark [] (λ (ws : List Kept). Claim makes.Signals a (Part p0 f0 i0 ∷ Part p1 f1 i1 ∷ ws)) v1 e1 (λ k2 p2 v2 e2. λ h. (record { within = omega arith; same = reverse_two i1 i0; named = tt }, refl))))

of_if_else : (a : Arena) (vs : List Kept) → are (sorts makes.IfElse) vs ≡ true → Claim makes.IfElse a vs
of_if_else a vs e = on_part (sort.Part ∷ sort.Part ∷ sort.Mark ∷ []) (λ (ws : List Kept). Claim makes.IfElse a ws) vs e (λ p0 f0 i0 v0 e0. on_part (sort.Part ∷ sort.Mark ∷ []) (λ (ws : List Kept). Claim makes.IfElse a (Part p0 f0 i0 ∷ ws)) v0 e0 (λ p1 f1 i1 v1 e1. on_part (sort.Mark ∷ []) (λ (ws : List Kept). Claim makes.IfElse a (Part p0 f0 i0 ∷ Part p1 f1 i1 ∷ ws)) v1 e1 (λ p2 f2 i2 v2 e2. on_mark [] (λ (ws : List Kept). Claim makes.IfElse a (Part p0 f0 i0 ∷ Part p1 f1 i1 ∷ Part p2 f2 i2 ∷ ws)) v2 e2 (λ k3 p3 v3 e3. λ h. (record { within = omega arith; same = reverse_three i2 i1 i0; named = tt }, refl)))))

of_for : (a : Arena) (vs : List Kept) → are (sorts makes.For) vs ≡ true → Claim makes.For a vs
of_for a vs e = on_part (sort.Part ∷ sort.Part ∷ sort.Part ∷ sort.Mark ∷ []) (λ (ws : List Kept). Claim makes.For a ws) vs e (λ p0 f0 i0 v0 e0. on_part (sort.Part ∷ sort.Part ∷ sort.Mark ∷ []) (λ (ws : List Kept). Claim makes.For a (Part p0 f0 i0 ∷ ws)) v0 e0 (λ p1 f1 i1 v1 e1. on_part (sort.Part ∷ sort.Mark ∷ []) (λ (ws : List Kept). Claim makes.For a (Part p0 f0 i0 ∷ Part p1 f1 i1 ∷ ws)) v1 e1 (λ p2 f2 i2 v2 e2. on_part (sort.Mark ∷ []) (λ (ws : List Kept). Claim makes.For a (Part p0 f0 i0 ∷ Part p1 f1 i1 ∷ Part p2 f2 i2 ∷ ws)) v2 e2 (λ p3 f3 i3 v3 e3. on_mark [] (λ (ws : List Kept). Claim makes.For a (Part p0 f0 i0 ∷ Part p1 f1 i1 ∷ Part p2 f2 i2 ∷ Part p3 f3 i3 ∷ ws)) v3 e3 (λ k4 p4 v4 e4. λ h. (record { within = omega arith; same = reverse_four i3 i2 i1 i0; named = tt }, refl))))))

of_nil : (a : Arena) (vs : List Kept) → are (sorts makes.Nil) vs ≡ true → Claim makes.Nil a vs
of_nil a vs e = λ h. (record { within = omega arith; same = done; named = tt }, refl)

of_cons : (a : Arena) (vs : List Kept) → are (sorts makes.Cons) vs ≡ true → Claim makes.Cons a vs
of_cons a vs e = on_part (sort.Part ∷ []) (λ (ws : List Kept). Claim makes.Cons a ws) vs e (λ p0 f0 i0 v0 e0. on_part [] (λ (ws : List Kept). Claim makes.Cons a (Part p0 f0 i0 ∷ ws)) v0 e0 (λ p1 f1 i1 v1 e1. λ h. (record { within = omega arith; same = reverse_two i1 i0; named = tt }, refl)))

of_parameter : (a : Arena) (vs : List Kept) → are (sorts makes.Parameter) vs ≡ true → Claim makes.Parameter a vs
of_parameter a vs e = on_word (sort.Part ∷ []) (λ (ws : List Kept). Claim makes.Parameter a ws) vs e (λ p0 n0 v0 e0. on_part [] (λ (ws : List Kept). Claim makes.Parameter a (Word p0 n0 ∷ ws)) v0 e0 (λ p1 f1 i1 v1 e1. λ h. (record { within = omega arith; same = perm_refl (i1 ∷ []); named = (h.0, h.1, tt) }, refl)))

of_field : (a : Arena) (vs : List Kept) → are (sorts makes.Field) vs ≡ true → Claim makes.Field a vs
of_field a vs e = on_part (sort.Part ∷ sort.Member ∷ []) (λ (ws : List Kept). Claim makes.Field a ws) vs e (λ p0 f0 i0 v0 e0. on_part (sort.Member ∷ []) (λ (ws : List Kept). Claim makes.Field a (Part p0 f0 i0 ∷ ws)) v0 e0 (λ p1 f1 i1 v1 e1. on_member [] (λ (ws : List Kept). Claim makes.Field a (Part p0 f0 i0 ∷ Part p1 f1 i1 ∷ ws)) v1 e1 (λ b2 m2 v2 e2. λ h. (record { within = omega arith; same = reverse_two i1 i0; named = tt }, refl))))

of_constructor : (a : Arena) (vs : List Kept) → are (sorts makes.Constructor) vs ≡ true → Claim makes.Constructor a vs
of_constructor a vs e = on_part (sort.Part ∷ sort.Part ∷ sort.Word ∷ sort.Member ∷ []) (λ (ws : List Kept). Claim makes.Constructor a ws) vs e (λ p0 f0 i0 v0 e0. on_part (sort.Part ∷ sort.Word ∷ sort.Member ∷ []) (λ (ws : List Kept). Claim makes.Constructor a (Part p0 f0 i0 ∷ ws)) v0 e0 (λ p1 f1 i1 v1 e1. on_part (sort.Word ∷ sort.Member ∷ []) (λ (ws : List Kept). Claim makes.Constructor a (Part p0 f0 i0 ∷ Part p1 f1 i1 ∷ ws)) v1 e1 (λ p2 f2 i2 v2 e2. on_word (sort.Member ∷ []) (λ (ws : List Kept). Claim makes.Constructor a (Part p0 f0 i0 ∷ Part p1 f1 i1 ∷ Part p2 f2 i2 ∷ ws)) v2 e2 (λ p3 n3 v3 e3. on_member [] (λ (ws : List Kept). Claim makes.Constructor a (Part p0 f0 i0 ∷ Part p1 f1 i1 ∷ Part p2 f2 i2 ∷ Word p3 n3 ∷ ws)) v3 e3 (λ b4 m4 v4 e4. λ h. (record { within = omega arith; same = reverse_three i2 i1 i0; named = tt }, refl))))))

of_class : (a : Arena) (vs : List Kept) → are (sorts makes.Class) vs ≡ true → Claim makes.Class a vs
of_class a vs e = on_owner (sort.Part ∷ sort.Part ∷ []) (λ (ws : List Kept). Claim makes.Class a ws) vs e (λ b0 p0 n0 v0 e0. on_part (sort.Part ∷ []) (λ (ws : List Kept). Claim makes.Class a (Owner b0 p0 n0 ∷ ws)) v0 e0 (λ p1 f1 i1 v1 e1. on_part [] (λ (ws : List Kept). Claim makes.Class a (Owner b0 p0 n0 ∷ Part p1 f1 i1 ∷ ws)) v1 e1 (λ p2 f2 i2 v2 e2. λ h. (record { within = omega arith; same = reverse_two i2 i1; named = (h.0, h.1, tt) }, refl))))

-- the node of a plan fits its values, and makes of them what it is to make
pub plan_makes : (m : Make) (a : Arena) (vs : List Kept) → way m ≡ ways.Node → are (sorts m) vs ≡ true → AreNamesIn a.text (names_of vs) → PlanMakes m a vs (plan m vs)
plan_makes makes.TypeOfMark a vs w e = of_type_of_mark a vs e
plan_makes makes.TypeOfName a vs w e = of_type_of_name a vs e
plan_makes makes.Array a vs w e = of_array a vs e
plan_makes makes.SuperCall a vs w e = of_super_call a vs e
plan_makes makes.ObjectCreation a vs w e = of_object_creation a vs e
plan_makes makes.ArrayCreation a vs w e = of_array_creation a vs e
plan_makes makes.FieldAccess a vs w e = of_field_access a vs e
plan_makes makes.MethodCall a vs w e = of_method_call a vs e
plan_makes makes.ArrayAccess a vs w e = of_array_access a vs e
plan_makes makes.StepBehind a vs w e = of_step_behind a vs e
plan_makes makes.StepBefore a vs w e = of_step_before a vs e
plan_makes makes.Unary a vs w e = of_unary a vs e
plan_makes makes.Old a vs w e = of_old a vs e
plan_makes makes.Requires a vs w e = of_requires a vs e
plan_makes makes.Ensures a vs w e = of_ensures a vs e
plan_makes makes.Cast a vs w e = of_cast a vs e
plan_makes makes.Binary a vs w e = of_binary a vs e
plan_makes makes.Less a vs w e = of_less a vs e
plan_makes makes.Greater a vs w e = of_greater a vs e
plan_makes makes.InstanceOf a vs w e = of_instance_of a vs e
plan_makes makes.Conditional a vs w e = of_conditional a vs e
plan_makes makes.Assign a vs w e = of_assign a vs e
plan_makes makes.Declarator a vs w e = of_declarator a vs e
plan_makes makes.Local a vs w e = of_local a vs e
plan_makes makes.ExpressionStatement a vs w e = of_expression_statement a vs e
plan_makes makes.Block a vs w e = of_block a vs e
plan_makes makes.Return a vs w e = of_return a vs e
plan_makes makes.ConstructorCall a vs w e = of_constructor_call a vs e
plan_makes makes.Empty a vs w e = of_empty a vs e
plan_makes makes.Jump a vs w e = of_jump a vs e
plan_makes makes.IfThen a vs w e = of_if_then a vs e
plan_makes makes.While a vs w e = of_while a vs e
plan_makes makes.Do a vs w e = of_do a vs e
plan_makes makes.Throw a vs w e = of_throw a vs e
plan_makes makes.Try a vs w e = of_try a vs e
plan_makes makes.Catch a vs w e = of_catch a vs e
plan_makes makes.Signals a vs w e = of_signals a vs e
plan_makes makes.IfElse a vs w e = of_if_else a vs e
plan_makes makes.For a vs w e = of_for a vs e
plan_makes makes.Nil a vs w e = of_nil a vs e
plan_makes makes.Cons a vs w e = of_cons a vs e
plan_makes makes.Parameter a vs w e = of_parameter a vs e
plan_makes makes.Field a vs w e = of_field a vs e
plan_makes makes.Constructor a vs w e = of_constructor a vs e
plan_makes makes.Class a vs w e = of_class a vs e
plan_makes _ a vs w e = cc

pub one_node : (m : Make) (a : Arena) (vs : List Kept) (s : Plan) → way m ≡ ways.Node → are (sorts m) vs ≡ true → AreBuilt a vs → s ≡ plan m vs → PlanMakes m a vs s
one_node m a vs s w e h g = subst (PlanMakes m a vs) (sym g) (plan_makes m a vs w e h.named)
