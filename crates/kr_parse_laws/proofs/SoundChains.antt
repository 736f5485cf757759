-- Names with `<` between them: what they are as types, and as comparisons.
use Rattle.std.proofs.Common.{◌≡◌, inl, inr, Bool, true, false, if◌then◌else◌, List, [], ◌∷◌, Some, refl, sym, ap, ◌∙◌, arith, le_refl, lit≤}
use Rattle.std.proofs.Math.Path.{subst}
use Rattle.kr_base.specs.declared.place.Place.{Place}
use Rattle.kr_lex.specs.Lexemes.{Lexeme}
use Rattle.kr_lex.specs.declared.kind.Kind.{Kind}
use Rattle.kr_lex.specs.declared.kind.Kind.TheVariants as kinds
use Rattle.kr_ast.specs.declared.node.BinaryOperator.{BinaryOperator}
use Rattle.kr_ast.specs.declared.node.BinaryOperator.TheVariants as binaries
use Rattle.kr_ast.specs.Tree as trees
use Rattle.kr_ast.specs.Tree.{Tree}
use Rattle.kr_parse_grammar.specs.declared.value.Form.{Form}
use Rattle.kr_parse_grammar.specs.declared.value.Form.TheVariants as forms
use Rattle.kr_parse_grammar.specs.declared.goal.Goal.TheVariants as goals
use Rattle.kr_parse_grammar.specs.declared.goal.Make.TheVariants as makes
use Rattle.kr_parse_grammar.specs.declared.goal.Symbol.{Symbol}
use Rattle.kr_parse_grammar.specs.declared.goal.Symbol.TheVariants.{Want, Build}
use Rattle.kr_parse_grammar.specs.Values.{StackItem, mark, word, pair, part, member, owner, is_name}
use Rattle.kr_parse_grammar.specs.Made.{compared, joined}
use Rattle.kr_parse_grammar.specs.Grammar as grammar
use Rattle.kr_parse_grammar.specs.Grammar.{Der, at, ReferenceType, AnyType}
use Rattle.kr_parse_laws.proofs.SoundMeanings.{Named, NamedBefore, place_of, class_of, operand_of, Tight, Before, Chained, Behind, argument, EndingBefore, Den, Goes}
use Rattle.kr_parse_laws.proofs.SoundSteps.{from, named_at, named_class, named_operand}
use Rattle.kr_parse_grammar.specs.TokenMeanings.{binary_of, level}
use Rattle.kr_parse_laws.proofs.SoundTypes.{generic_of}

-- the facts on a chain carry over to weaker ones
pub chained_map : (us : List StackItem) (H I : List Lexeme → Type 0) (K : List StackItem → List Lexeme → Type 0) → ((j : List Lexeme) → I j → H j) → Chained us H K → Chained us I K
chained_map (word p n ∷ us) H I K m c = chained_map us H I K m c
chained_map (pair p o n ∷ us) H I K m c = chained_map us H I K m c
chained_map (part q f x ∷ us) H I K m (inl (p, t, r, h, k)) = inl (p, t, r, λ j s. h j (m j s), k)
chained_map (part q f x ∷ us) H I K m (inr (t, r, h, k)) = inr (t, r, λ j s. h j (m j s), k)
chained_map [] H I K m (inl (p, t, r, h, k)) = inl (p, t, r, λ j s. h j (m j s), k)
chained_map [] H I K m (inr (p, t, r, h, k)) = inr (p, t, r, λ j s. h j (m j s), k)
chained_map (mark x q ∷ us) H I K m (inl (p, t, r, h, k)) = inl (p, t, r, λ j s. h j (m j s), k)
chained_map (mark x q ∷ us) H I K m (inr (p, t, r, h, k)) = inr (p, t, r, λ j s. h j (m j s), k)
chained_map (member b n ∷ us) H I K m (inl (p, t, r, h, k)) = inl (p, t, r, λ j s. h j (m j s), k)
chained_map (member b n ∷ us) H I K m (inr (p, t, r, h, k)) = inr (p, t, r, λ j s. h j (m j s), k)
chained_map (owner b q n ∷ us) H I K m (inl (p, t, r, h, k)) = inl (p, t, r, λ j s. h j (m j s), k)
chained_map (owner b q n ∷ us) H I K m (inr (p, t, r, h, k)) = inr (p, t, r, λ j s. h j (m j s), k)

pub behind_of : (us : List StackItem) (X : Type 0) → (is_name us ≡ true → X) → Behind us X
behind_of (word p n ∷ us) X f = f refl
behind_of (pair p o n ∷ us) X f = f refl
behind_of _ X f = tt

pub behind_map : (us : List StackItem) (X Y : Type 0) → (X → Y) → Behind us X → Behind us Y
behind_map (word p n ∷ us) X Y f x = f x
behind_map (pair p o n ∷ us) X Y f x = f x
behind_map _ X Y f x = tt

-- arguments of types
pub as_argument : (us : List StackItem) (j r : List Lexeme) (t : Tree) → Der ReferenceType j t r → Der (argument us) j t r
as_argument us j r t d = go (is_name us)
  where
    go : (b : Bool) → Der (if b then AnyType else ReferenceType) j t r
    go true = grammar.reference_type d
    go false = d

pub of_argument : (us : List StackItem) (j r : List Lexeme) (t : Tree) → Der (argument us) j t r → Der AnyType j t r
of_argument us j r t d = go (is_name us) d
  where
    go : (b : Bool) → Der (if b then AnyType else ReferenceType) j t r → Der AnyType j t r
    go true x = x
    go false x = grammar.reference_type x

pub any_argument : (us : List StackItem) (j r : List Lexeme) (t : Tree) → is_name us ≡ true → Der AnyType j t r → Der (argument us) j t r
any_argument us j r t z d = subst (λ b. Der (if b then AnyType else ReferenceType) j t r) (sym z) d

-- a chain whose last name got its argument
pub fills : (v : StackItem) (us : List StackItem) (j m l r : List Lexeme) (t : Tree) (c : Lexeme) → (h : List Lexeme) × Before us j h × NamedBefore kinds.Less v h m → Der AnyType m t l
    → l ≡ c ∷ r → c.kind ≡ kinds.Greater
    → (h : List Lexeme) × Before us j h × (place_of v ≡ at h) × Der (argument us) h (trees.GenericType (place_of v) (class_of v) t) r
fills v us j m l r t c (h, s, (b, o, kb)) d e kc =
    (h, s, named_at v h (b ∷ m) o, as_argument us h r (trees.GenericType (place_of v) (class_of v) t) (generic_of (place_of v) h (b ∷ m) m l r (class_of v) t b c (named_at v h (b ∷ m) o) (named_class v h (b ∷ m) o) refl kb d e kc))

-- comparisons
pub less_is : (y : Kind) → y ≡ kinds.Less → binary_of y ≡ Some binaries.Less
less_is y e = subst (λ x. binary_of x ≡ Some binaries.Less) (sym e) refl

pub greater_is : (y : Kind) → y ≡ kinds.Greater → binary_of y ≡ Some binaries.Greater
greater_is y e = subst (λ x. binary_of x ≡ Some binaries.Greater) (sym e) refl

pub compare_of : (o : BinaryOperator) (p : Place) (j m r : List Lexeme) (x t : Tree) (b : Lexeme) → binary_of b.kind ≡ Some o → level o ≡ 7 → p ≡ at j → Tight 7 j x (b ∷ m)
    → Tight 8 m t r → Der (grammar.Operation 7) j (trees.Binary p o x t) r
compare_of o p j m r x t b is lv v (y, le, d) (z, ge, c) = rw v (grammar.binary b d is lv le c (omega (arith, ge)))

-- a type that an operand is tested for
pub test_of : (q : Place) (f : Form) (x : Tree) (vs : List StackItem) (j i r : List Lexeme) (u : Tree) → Before (part q f x ∷ vs) j i → Der ReferenceType i u r
    → Der (grammar.Operation 7) j (trees.InstanceOf q x u) r
test_of q f x vs j i r u (y, a, d, le, z, ka) c = rw z (grammar.instance_of a d ka le c)

alone : (j r : List Lexeme) (t : Tree) → Der (grammar.Primary forms.Target) j t r → Der (grammar.Operation 11) j t r
alone j r t d = grammar.operand (grammar.unsigned (grammar.postfix (grammar.primary d)))

-- a name as an operand, compared with the names below it
record Joined (us : List StackItem) (v : StackItem) (H : List Lexeme → Type 0) (K : List StackItem → List Lexeme → Type 0) : Type 0 where
  place : Place
  form : Form
  tree : Tree
  below : List StackItem
  is : joined (place_of v) (operand_of v) (class_of v) us (compared us) ≡ part place form tree ∷ below
  reads : (j m r : List Lexeme) → Before us j m → Named v m r → (place ≡ at j) × Tight 7 j tree r
  ends : (t : Tree) (r : List Lexeme) → ((j : List Lexeme) → H j → (place ≡ at j) × Der (grammar.Operation 7) j t r) → K (part place forms.Other t ∷ below) r → Chained us H K

-- one name more
longer : (w : StackItem) (us vs : List StackItem) (v : StackItem) (H : List Lexeme → Type 0) (K : List StackItem → List Lexeme → Type 0) → (j : Joined us w H K)
    → joined (place_of v) (operand_of v) (class_of v) vs (compared vs) ≡ part j.place forms.Other (trees.Binary j.place binaries.Less j.tree (operand_of v)) ∷ j.below
    → ((a m : List Lexeme) → Before vs a m → (h : List Lexeme) × Before us a h × NamedBefore kinds.Less w h m) → (Chained us H K → Chained vs H K) → Joined vs v H K
longer w us vs v H K j e before chained = record {
  place = j.place;
  form = forms.Other;
  tree = trees.Binary j.place binaries.Less j.tree (operand_of v);
  below = j.below;
  is = e;
  reads = λ a m r s o. reads a m r (before a m s) o;
  ends = λ t r h k. chained (j.ends t r h k);
}
  where
    reads : (a m r : List Lexeme) → (h : List Lexeme) × Before us a h × NamedBefore kinds.Less w h m → Named v m r
        → (j.place ≡ at a) × Tight 7 a (trees.Binary j.place binaries.Less j.tree (operand_of v)) r
    reads a m r (h, s, (b, o, kb)) y =
        let x = j.reads a h (b ∷ m) s o in
        (x.0, (7, le_refl 7, compare_of binaries.Less j.place a m r j.tree (operand_of v) b (less_is b.kind kb) refl x.0 x.1 (11, lit≤ tt, alone m r (operand_of v) (named_operand v m r y))))

joins : (us : List StackItem) (v : StackItem) (H : List Lexeme → Type 0) (K : List StackItem → List Lexeme → Type 0) → Joined us v H K
joins (word q n ∷ us) v H K =
    let j : Joined us (word q n) H K = joins us (word q n) H K in
    longer (word q n) us (word q n ∷ us) v H K j (ap (λ s. joined (place_of v) (operand_of v) (class_of v) (word q n ∷ us) s) j.is) (λ a m s. s) (λ c. c)
joins (pair q o n ∷ us) v H K =
    let j : Joined us (pair q o n) H K = joins us (pair q o n) H K in
    longer (pair q o n) us (pair q o n ∷ us) v H K j (ap (λ s. joined (place_of v) (operand_of v) (class_of v) (pair q o n ∷ us) s) j.is) (λ a m s. s) (λ c. c)
joins (part q f x ∷ us) v H K = record {
  place = q;
  form = forms.Other;
  tree = trees.InstanceOf q x (class_of v);
  below = us;
  is = refl;
  reads = λ j m r s o. (s.4, (7, le_refl 7, test_of q f x us j m r (class_of v) s (grammar.class_type (named_class v m r o))));
  ends = λ t r h k. inr (t, r, λ j s. (h j s).1, k);
}
joins us v H K = record {
  place = place_of v;
  form = forms.Target;
  tree = operand_of v;
  below = us;
  is = refl;
  reads = λ j m r s o. (named_at v m r o ∙ ap at (sym s), (11, lit≤ tt, from s (alone m r (operand_of v) (named_operand v m r o))));
  ends = λ t r h k. inr (place_of v, t, r, h, k);
}

-- a comparison with the last name of a chain
ends_with : (o : BinaryOperator) (x : Kind) → ((y : Kind) → y ≡ x → binary_of y ≡ Some o) → level o ≡ 7
    → (v : StackItem) (us : List StackItem) (i r : List Lexeme) (t : Tree) (K : List StackItem → List Lexeme → Type 0) → (j : Joined us v (λ a. EndingBefore x v us i a) K)
    → Tight 8 i t r → K (part j.place forms.Other (trees.Binary j.place o j.tree t) ∷ j.below) r → Chained us (λ a. EndingBefore x v us i a) K
ends_with o x is lv v us i r t K j c k = j.ends (trees.Binary j.place o j.tree t) r (λ a s. go a s) k
  where
    go : (a : List Lexeme) → EndingBefore x v us i a → (j.place ≡ at a) × Der (grammar.Operation 7) a (trees.Binary j.place o j.tree t) r
    go a (m, s, (b, y, kb)) = let z = j.reads a m (b ∷ i) s y in (z.0, compare_of o j.place a i r j.tree t b (is b.kind kb) lv z.0 z.1 c)

pub chain_less : (v : StackItem) (us : List StackItem) (ss : List Symbol) (i : List Lexeme) (ws : List StackItem)
    → Den (Want goals.Unary ∷ Want (goals.Operators 8 10) ∷ Build makes.Less ∷ ss) (joined (place_of v) (operand_of v) (class_of v) us (compared us)) i ws
    → Chained us (λ a. EndingBefore kinds.Less v us i a) (Goes ss ws)
chain_less v us ss i ws d = go (joins us v (λ a. EndingBefore kinds.Less v us i a) (Goes ss ws))
  where
    fin : (j : Joined us v (λ a. EndingBefore kinds.Less v us i a) (Goes ss ws))
        → Den (Want goals.Unary ∷ Want (goals.Operators 8 10) ∷ Build makes.Less ∷ ss) (part j.place j.form j.tree ∷ j.below) i ws
        → Chained us (λ a. EndingBefore kinds.Less v us i a) (Goes ss ws)
    fin j (p1, f1, t1, m1, (z1, x1), (p2, f2, t2, m2, (z2, h2), k)) =
        ends_with binaries.Less kinds.Less less_is refl v us i m2 t2 (Goes ss ws) j (h2 i 11 z1 (lit≤ tt) (lit≤ tt) (grammar.operand x1.0)) k

    go : Joined us v (λ a. EndingBefore kinds.Less v us i a) (Goes ss ws) → Chained us (λ a. EndingBefore kinds.Less v us i a) (Goes ss ws)
    go j = fin j (subst (λ s. Den (Want goals.Unary ∷ Want (goals.Operators 8 10) ∷ Build makes.Less ∷ ss) s i ws) j.is d)

pub chain_greater : (v : StackItem) (us : List StackItem) (ss : List Symbol) (i : List Lexeme) (ws : List StackItem)
    → Den (Want goals.Unary ∷ Want (goals.Operators 8 10) ∷ Build makes.Greater ∷ ss) (joined (place_of v) (operand_of v) (class_of v) us (compared us)) i ws
    → Chained us (λ a. EndingBefore kinds.Greater v us i a) (Goes ss ws)
chain_greater v us ss i ws d = go (joins us v (λ a. EndingBefore kinds.Greater v us i a) (Goes ss ws))
  where
    fin : (j : Joined us v (λ a. EndingBefore kinds.Greater v us i a) (Goes ss ws))
        → Den (Want goals.Unary ∷ Want (goals.Operators 8 10) ∷ Build makes.Greater ∷ ss) (part j.place j.form j.tree ∷ j.below) i ws
        → Chained us (λ a. EndingBefore kinds.Greater v us i a) (Goes ss ws)
    fin j (p1, f1, t1, m1, (z1, x1), (p2, f2, t2, m2, (z2, h2), k)) =
        ends_with binaries.Greater kinds.Greater greater_is refl v us i m2 t2 (Goes ss ws) j (h2 i 11 z1 (lit≤ tt) (lit≤ tt) (grammar.operand x1.0)) k

    go : Joined us v (λ a. EndingBefore kinds.Greater v us i a) (Goes ss ws) → Chained us (λ a. EndingBefore kinds.Greater v us i a) (Goes ss ws)
    go j = fin j (subst (λ s. Den (Want goals.Unary ∷ Want (goals.Operators 8 10) ∷ Build makes.Greater ∷ ss) s i ws) j.is d)

-- names, each followed by `<`, as one comparison
record Compared (us : List StackItem) (H : List Lexeme → Type 0) (K : List StackItem → List Lexeme → Type 0) : Type 0 where
  place : Place
  form : Form
  tree : Tree
  below : List StackItem
  is : compared us ≡ part place form tree ∷ below
  reads : (j m : List Lexeme) → Before us j m → (b : Lexeme) × (place ≡ at j) × Tight 7 j tree (b ∷ m) × (b.kind ≡ kinds.Less)
  ends : (t : Tree) (r : List Lexeme) → ((j : List Lexeme) → H j → (place ≡ at j) × Der (grammar.Operation 7) j t r) → K (part place forms.Other t ∷ below) r → Chained us H K

compares : (us : List StackItem) (H : List Lexeme → Type 0) (K : List StackItem → List Lexeme → Type 0) → is_name us ≡ true → Compared us H K
compares (word w n ∷ us) H K z =
    let j : Joined us (word w n) H K = joins us (word w n) H K in record { place = j.place; form = j.form; tree = j.tree; below = j.below; is = j.is; reads = λ a m s. (let x = j.reads a s.0 (s.2.0 ∷ m) s.1 s.2.1 in (s.2.0, x.0, x.1, s.2.2)); ends = λ t r h k. j.ends t r h k }
compares (pair w o n ∷ us) H K z =
    let j : Joined us (pair w o n) H K = joins us (pair w o n) H K in record { place = j.place; form = j.form; tree = j.tree; below = j.below; is = j.is; reads = λ a m s. (let x = j.reads a s.0 (s.2.0 ∷ m) s.1 s.2.1 in (s.2.0, x.0, x.1, s.2.2)); ends = λ t r h k. j.ends t r h k }
compares _ H K z = (let bad : false ≡ true = z in cc)

-- an operand after `<`
pub chain_operand : (us : List StackItem) (R : List Lexeme → Type 0) (f : Form) (w : Place) (t : Tree) (ss : List Symbol) (i : List Lexeme) (ws : List StackItem) → is_name us ≡ true
    → ((m : List Lexeme) → R m → (w ≡ at m) × Der (grammar.Primary f) m t i)
    → Den (Want goals.ChainPrimary ∷ ss) (part w f t ∷ compared us) i ws → Chained us (λ j. (m : List Lexeme) × Before us j m × R m) (Goes ss ws)
chain_operand us R f w t ss i ws z reads d = go (compares us (λ j. (m : List Lexeme) × Before us j m × R m) (Goes ss ws) z)
  where
    fin : (c : Compared us (λ j. (m : List Lexeme) × Before us j m × R m) (Goes ss ws))
        → Den (Want goals.ChainPrimary ∷ ss) (part w f t ∷ part c.place c.form c.tree ∷ c.below) i ws → Chained us (λ j. (m : List Lexeme) × Before us j m × R m) (Goes ss ws)
    fin c (u, r, h, k) = c.ends u r (λ j s. (let x = c.reads j s.0 s.1 in let y = reads s.0 s.2 in (x.1, h j s.0 x.0 x.1 x.2 x.3 y.0 y.1))) k

    go : Compared us (λ j. (m : List Lexeme) × Before us j m × R m) (Goes ss ws) → Chained us (λ j. (m : List Lexeme) × Before us j m × R m) (Goes ss ws)
    go c = fin c (subst (λ s. Den (Want goals.ChainPrimary ∷ ss) (part w f t ∷ s) i ws) c.is d)
