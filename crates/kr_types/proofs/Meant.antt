-- The meanings of a file's nodes, while one more node is added.
use Rattle.std.proofs.Common.{◌≡◌, refl, sym, ap, ◌∙◌, subst, ℕ, zero, suc, ◌<◌, ◌≤◌, ◌⊎◌, inl, inr, List, [], ◌∷◌, ◌++◌, length, Some, arith}
use Rattle.std.specs.Prelude.{IfOk, Option, Result, Ok, Err, slice_get, slice_index_or}
use Rattle.std.proofs.lemmas.List.{length-append}
use Rattle.std.proofs.lemmas.Option.{get_or_from_slice_get, slice_get_within}
use Rattle.kr_base.specs.declared.place.Place.{Place}
use Rattle.kr_base.proofs.ListLemmas.{slice_get-push}
use Rattle.kr_ast.specs.Tree.{Tree}
use Rattle.kr_ast.specs.declared.node.Name.{Name}
use Rattle.kr_ast.specs.declared.node.Node.{Node}
use Rattle.kr_ast.specs.declared.node.Node.TheVariants as nodes
use Rattle.kr_ast.specs.declared.node.Entry.{Entry}
use Rattle.kr_ast.specs.Arena.{Arena, AreBelow, AreNamesIn, ArePartsFrom, IsArena, IsForest, IsPart, name_in, names, parts, tree_in, tree_of}
use Rattle.kr_ast.proofs.Trees.{tree_stands}
use Rattle.kr_classes_table.specs.Types.{JavaType}
use Rattle.kr_classes_table.specs.Constants.{values_of}
use Rattle.kr_classes_members.specs.Shown.{table_in}
use Rattle.kr_types_meaning.specs.Scopes.{Scope, class_before, method_meant, super_class, value}
use Rattle.kr_types_meaning.specs.Typing.{judged, type_in}
use Rattle.kr_types_meaning.specs.Noting as noting
use Rattle.kr_types_meaning.specs.Handing.{handed}
use Rattle.kr_classes_names.specs.Types.{TypeList, Extends}
use Rattle.kr_types_scopes.specs.declared.within.Within.{Within}
use Rattle.kr_types_scopes.specs.Scoped.{nowhere}
use Rattle.kr_types_judging.specs.declared.notes.Note.{Note}
use Rattle.kr_types_resolving.specs.Meanings as meanings
use Rattle.kr_types_resolving.specs.Shown.{IsMeaningWithin, IsMeant, meaning_at, meaning_shown}
use Rattle.kr_types_resolving.specs.declared.meaning.Meaning.{Meaning}
use Rattle.kr_types_resolving.specs.declared.meaning.Meaning.TheVariants.{Nothing}
use Rattle.kr_types_resolving.proofs.Before.{before_meant, before_value}
use Rattle.kr_types_resolving.proofs.Inside.{method_law, super_law}
use Rattle.kr_types_expressions.specs.Notes.{AreNotesWithin, shown_notes}
use Rattle.kr_types_expressions.proofs.Notes.{notes_same, shown_before, within_none}
use Rattle.kr_types.specs.declared.site.Site.{Site}
use Rattle.kr_types.specs.declared.site.Spot.{Spot}
use Rattle.kr_types.specs.declared.group.Bare.{Bare}
use Rattle.kr_types.specs.declared.group.Bare.TheVariants as bares
use Rattle.kr_types.specs.Kinds.{IsContract, IsLeaf, IsOfBare, IsOperation, IsReturned, IsTest, IsThrown, IsType, IsWrite}
use Rattle.kr_types.specs.declared.notes.Noted.{Noted}
use Rattle.kr_types.specs.Sites.{AreKept, AreMeant, AreNoted, IsInside, IsMeantBy, IsNoteOf, IsSite, IsSpot, IsSpotNote, object_noted, scope_here, scope_of, tree_there}
use Rattle.kr_types.proofs.Passing.{noted_more, parts_below, some_entry}

object_near : (ns ms : List noting.Note) (i : ℕ) (n : Node) → ((k : ℕ) → k < i → noting.note_at ns k ≡ noting.note_at ms k) → AreBelow i (parts n) → object_noted ns n ≡ object_noted ms n
object_near ns ms i (nodes.FieldAccess a x) h b = ap (λ (y : noting.Note). type_in y.typed) (h a b.0)
object_near ns ms i (nodes.MethodCall a x c) h b = ap (λ (y : noting.Note). type_in y.typed) (h a b.0)
object_near ns ms i _ h b = refl

meant_near : (s : Site) (ns ms : List noting.Note) (i : ℕ) (n : Node) (m : Meaning) → object_noted ns n ≡ object_noted ms n → IsMeantBy s ns i n m → IsMeantBy s ms i n m
meant_near s ns ms i n m e h = record { within = h.within; shown = h.shown ∙ ap (meanings.meaning_by (scope_of s i) (tree_in (tree_there s) i)) e }

module _ (s : Site) (a b : TypeList) (ns : List Note) (n : Note) (forest : IsForest (tree_there s).text (tree_there s).entries) (within : AreNotesWithin a ns) (x : Extends a b) where
  same : (k : ℕ) → k < length ns → noting.note_at (shown_notes a ns) k ≡ noting.note_at (shown_notes b (ns ++ n ∷ [])) k
  same k lt = sym (shown_before b ns n k lt ∙ ap (λ (xs : List noting.Note). noting.note_at xs k) (notes_same a b ns x within))

  near : (i : ℕ) (e : Entry) (y : Meaning) → i ≤ length ns → slice_get (tree_there s).entries i ≡ Some e → IsMeantBy s (shown_notes a ns) i e.node y → IsMeantBy s (shown_notes b (ns ++ n ∷ [])) i e.node y
  near i e y le is h =
      meant_near s (shown_notes a ns) (shown_notes b (ns ++ n ∷ [])) i e.node y
      (object_near (shown_notes a ns) (shown_notes b (ns ++ n ∷ [])) i e.node (λ k lt. same k (omega (arith, lt, le))) (parts_below (tree_there s).entries i 0 (parts e.node) (forest.stands i e is)))
      h

  -- with a node more
  pub meant_more : (ms : List Meaning) (m : Meaning) → length ms ≡ length ns → AreMeant s a ns ms → ((e : Entry) → slice_get (tree_there s).entries (length ns) ≡ Some e → IsMeantBy s (shown_notes a ns) (length ns) e.node m)
      → AreMeant s b (ns ++ n ∷ []) (ms ++ m ∷ [])
  meant_more ms m count h last i e y is got = go (slice_get-push ms m i y got)
    where
      go : (slice_get ms i ≡ Some y) ⊎ ((i ≡ length ms) × (m ≡ y)) → IsMeantBy s (shown_notes b (ns ++ n ∷ [])) i e.node y
      go (inl g) = let lt = slice_get_within ms i y g in near i e y (omega (arith, lt, count)) is (h i e y is g)
      go (inr r) =
          near i e y (omega (arith, r.0, count)) is
          (subst (λ (j : ℕ). slice_get (tree_there s).entries j ≡ Some e → IsMeantBy s (shown_notes a ns) j e.node y) (sym (r.0 ∙ count))
          (λ z. subst (λ (v : Meaning). IsMeantBy s (shown_notes a ns) (length ns) e.node v) r.1 (last e z)) is)

-- the object before a dot is in the role of a value if the whole is
pub object_scope : (s : Site) (l : TypeList) → IsSite s l → (i a : ℕ) (p : Place) (n : Node) → i < length (tree_there s).entries → tree_in (tree_there s) i ≡ tree_of (tree_there s).text (tree_in (tree_there s)) p n → IsPart (tree_there s).entries i 0 a
    → handed (scope_of s i) (tree_of (tree_there s).text (tree_in (tree_there s)) p n) 0 ≡ value (scope_of s i) → scope_of s a ≡ value (scope_of s i)
object_scope s l site i a p n lt tree part runs =
    (site.scopes (table_in s.trees.now) (values_of (table_in s.trees.now))).hands i 0 a lt part ∙ (ap (λ (t : Tree). handed (scope_of s i) t 0) tree ∙ runs)

-- the class before a dot is the one that the node there means
pub class_said : (s : Site) (l : TypeList) (ns : List Note) (ms : List Meaning) (i a : ℕ) (x : Meaning) (c : Option ℕ) → AreMeant s l ns ms → length ms ≡ length ns → length ns < length (tree_there s).entries → a < length ns → slice_get ms a ≡ Some x
    → c ≡ meanings.class_meant (meaning_shown (table_in s.trees.now) x) → scope_of s a ≡ value (scope_of s i) → c ≡ class_before (scope_of s i) (tree_in (tree_there s) a)
class_said s l ns ms i a x c meant count few lt at is scope =
    let e = some_entry (tree_there s).entries a (omega (arith, few, lt)) in
    let m = meant a e.0 x e.1 at in
    let t = tree_in (tree_there s) a in
    is ∙ (ap meanings.class_meant m.shown ∙ (before_meant (scope_of s a) t (object_noted (shown_notes l ns) e.0.node) ∙ (ap (λ (r : Scope). class_before r t) scope ∙ before_value (scope_of s i) t)))

-- ---- where all nodes are kept

module _ (s : Site) (l : TypeList) (ns : List Note) (site : IsSite s l) (known : (i : ℕ) → i < length (tree_there s).entries → noting.note_at (shown_notes l ns) i ≡ noting.kept (judged (scope_of s i) (tree_in (tree_there s) i))) where
  of_object : (i a : ℕ) (p : Place) (n : Node) → i < length (tree_there s).entries → tree_in (tree_there s) i ≡ tree_of (tree_there s).text (tree_in (tree_there s)) p n → IsPart (tree_there s).entries i 0 a
      → handed (scope_of s i) (tree_of (tree_there s).text (tree_in (tree_there s)) p n) 0 ≡ value (scope_of s i) → type_in (noting.note_at (shown_notes l ns) a).typed ≡ type_in (judged (value (scope_of s i)) (tree_in (tree_there s) a)).typed
  of_object i a p n lt tree part runs =
      ap (λ (y : noting.Note). type_in y.typed) (known a (omega (arith, part.below, lt)))
      ∙ ap (λ (r : Scope). type_in (judged r (tree_in (tree_there s) a)).typed) (object_scope s l site i a p n lt tree part runs)

  object_judged : (i : ℕ) (p : Place) (n : Node) → i < length (tree_there s).entries → tree_in (tree_there s) i ≡ tree_of (tree_there s).text (tree_in (tree_there s)) p n → ArePartsFrom (tree_there s).entries i 0 (parts n)
      → object_noted (shown_notes l ns) n ≡ meanings.object_type (scope_of s i) (tree_of (tree_there s).text (tree_in (tree_there s)) p n)
  object_judged i p (nodes.FieldAccess a x) lt tree part = of_object i a p (nodes.FieldAccess a x) lt tree part.0 refl
  object_judged i p (nodes.MethodCall a x c) lt tree part = of_object i a p (nodes.MethodCall a x c) lt tree part.0 refl
  object_judged i p _ lt tree part = refl

  pub meant_there : (ms : List Meaning) → IsArena (tree_there s).text (tree_there s).entries → AreMeant s l ns ms → length ms ≡ length (tree_there s).entries → (i : ℕ) → i < length (tree_there s).entries
      → IsMeant (table_in s.trees.now) (scope_of s i) (tree_in (tree_there s) i) (meaning_at ms i)
  meant_there ms arena h count i lt =
      let e = some_entry (tree_there s).entries i lt in
      let m = some_item ms i (omega (arith, lt, count)) in
      let by = h i e.0 m.0 e.1 m.1 in
      let tree = tree_stands (tree_there s).text (tree_there s).entries arena.forest i e.0 e.1 in
      let object : object_noted (shown_notes l ns) e.0.node ≡ meanings.object_type (scope_of s i) (tree_in (tree_there s) i) =
      object_judged i e.0.place e.0.node lt tree (arena.forest.stands i e.0 e.1) ∙ ap (meanings.object_type (scope_of s i)) (sym tree) in
      subst (λ (y : Meaning). IsMeant (table_in s.trees.now) (scope_of s i) (tree_in (tree_there s) i) y) (sym (get_or_from_slice_get ms i m.0 Nothing m.1))
      (record { within = by.within; shown = by.shown ∙ ap (meanings.meaning_by (scope_of s i) (tree_in (tree_there s) i)) object })
    where
      some_item : (xs : List Meaning) (k : ℕ) → k < length xs → (x : Meaning) × (slice_get xs k ≡ Some x)
      some_item [] k l = absurd (omega (arith, l))
      some_item (x ∷ xs) zero l = (x, refl)
      some_item (x ∷ xs) (suc k) l = some_item xs k (omega (arith, l))

-- at first nothing is kept
pub none_kept : (s : Site) (l : TypeList) (k : Noted) → k.notes ≡ [] → k.meanings.items ≡ [] → IsInside s k.inside → AreKept s l k
none_kept s l k n m i = record {
  noted = subst (λ (ns : List Note). AreNoted s l ns) (sym n) (record { within = within_none l; noted = λ i e lt is. absurd (omega (arith, lt)) });
  meant = λ i e x is got. let none = subst (λ (ms : List Meaning). slice_get ms i ≡ Some x) m got in absurd (cc (none));
  count = ap length m ∙ sym (ap length n);
  inside = i;
}

-- ---- by the node's kind

module _ (s : Site) (ns : List noting.Note) (i : ℕ) (p : Place) (n : Node) (tree : tree_in (tree_there s) i ≡ tree_of (tree_there s).text (tree_in (tree_there s)) p n) where
  pub of_kind : (k : Node) (m : Meaning) → n ≡ k → IsMeaningWithin (table_in s.trees.now) m
      → meaning_shown (table_in s.trees.now) m ≡ meanings.meaning_by (scope_of s i) (tree_of (tree_there s).text (tree_in (tree_there s)) p k) (object_noted ns k) → IsMeantBy s ns i n m
  of_kind k m e within h = record {
    within = within;
    shown = h
        ∙ (sym (ap (λ (x : Node). meanings.meaning_by (scope_of s i) (tree_of (tree_there s).text (tree_in (tree_there s)) p x) (object_noted ns x)) e)
        ∙ sym (ap (λ (u : Tree). meanings.meaning_by (scope_of s i) u (object_noted ns n)) tree));
  }

  pub of_kind_if : {E : Type 0} (r : Result Meaning E) (S : Meaning → Type 0) (k : Node) → n ≡ k → IfOk r (λ m. IsMeaningWithin (table_in s.trees.now) m) → IfOk r S
      → ((m : Meaning) → S m → meaning_shown (table_in s.trees.now) m ≡ meanings.meaning_by (scope_of s i) (tree_of (tree_there s).text (tree_in (tree_there s)) p k) (object_noted ns k)) → IfOk r (λ m. IsMeantBy s ns i n m)
  of_kind_if (Ok m) S k e w h f = of_kind k m e w (f m h)
  of_kind_if (Err x) S k e w h f = tt

nothing_said : (s : Scope) (text : List ℕ) (look : ℕ → Tree) (p : Place) (n : Node) (o : Option JavaType) → ((x : Name) → n ≡ nodes.Variable x → ⊥) → ((a : ℕ) (x : Name) → n ≡ nodes.FieldAccess a x → ⊥) → ((x : Name) (b : ℕ) → n ≡ nodes.Call x b → ⊥)
    → ((a : ℕ) (x : Name) (b : ℕ) → n ≡ nodes.MethodCall a x b → ⊥) → ((x : Name) (b : ℕ) → n ≡ nodes.SuperCall x b → ⊥) → ((a b : ℕ) → n ≡ nodes.ObjectCreation a b → ⊥) → meanings.Nothing ≡ meanings.meaning_by s (tree_of text look p n) o
nothing_said s text look p (nodes.Variable x) o v f c m u j = absurd (v x refl)
nothing_said s text look p (nodes.FieldAccess a x) o v f c m u j = absurd (f a x refl)
nothing_said s text look p (nodes.Call x b) o v f c m u j = absurd (c x b refl)
nothing_said s text look p (nodes.MethodCall a x b) o v f c m u j = absurd (m a x b refl)
nothing_said s text look p (nodes.SuperCall x b) o v f c m u j = absurd (u x b refl)
nothing_said s text look p (nodes.ObjectCreation a b) o v f c m u j = absurd (j a b refl)
nothing_said s text look p _ o v f c m u j = refl

pub of_no_kind : (s : Site) (ns : List noting.Note) (i : ℕ) (p : Place) (n : Node) → tree_in (tree_there s) i ≡ tree_of (tree_there s).text (tree_in (tree_there s)) p n → ((x : Name) → n ≡ nodes.Variable x → ⊥) → ((a : ℕ) (x : Name) → n ≡ nodes.FieldAccess a x → ⊥) → ((x : Name) (b : ℕ) → n ≡ nodes.Call x b → ⊥)
    → ((a : ℕ) (x : Name) (b : ℕ) → n ≡ nodes.MethodCall a x b → ⊥) → ((x : Name) (b : ℕ) → n ≡ nodes.SuperCall x b → ⊥) → ((a b : ℕ) → n ≡ nodes.ObjectCreation a b → ⊥) → IsMeantBy s ns i n Nothing
of_no_kind s ns i p n tree v f c m u j = record {
  within = tt;
  shown = nothing_said (scope_of s i) (tree_there s).text (tree_in (tree_there s)) p n (object_noted ns n) v f c m u j ∙ sym (ap (λ (t : Tree). meanings.meaning_by (scope_of s i) t (object_noted ns n)) tree);
}

-- a node of kinds that mean nothing
pub of_other : (s : Site) (ns : List noting.Note) (i : ℕ) (p : Place) (n : Node) → tree_in (tree_there s) i ≡ tree_of (tree_there s).text (tree_in (tree_there s)) p n → (K : Node → Type 0) → K n → ((x : Name) → K (nodes.Variable x) → ⊥)
    → ((a : ℕ) (x : Name) → K (nodes.FieldAccess a x) → ⊥) → ((x : Name) (b : ℕ) → K (nodes.Call x b) → ⊥) → ((a : ℕ) (x : Name) (b : ℕ) → K (nodes.MethodCall a x b) → ⊥) → ((x : Name) (b : ℕ) → K (nodes.SuperCall x b) → ⊥)
    → ((a b : ℕ) → K (nodes.ObjectCreation a b) → ⊥) → IsMeantBy s ns i n Nothing
of_other s ns i p n tree K k v f c m u j =
    of_no_kind s ns i p n tree (λ x e. v x (subst K e k)) (λ a x e. f a x (subst K e k)) (λ x b e. c x b (subst K e k)) (λ a x b e. m a x b (subst K e k)) (λ x b e. u x b (subst K e k)) (λ a b e. j a b (subst K e k))

-- a node for which nothing is looked up
pub unmeant : (s : Site) (ns : List noting.Note) (i : ℕ) (p : Place) (n : Node) → tree_in (tree_there s) i ≡ tree_of (tree_there s).text (tree_in (tree_there s)) p n → (b : Bare) → IsOfBare b n → IsMeantBy s ns i n Nothing
unmeant s ns i p n tree bares.Type k = of_other s ns i p n tree IsType k (λ x h. h) (λ a x h. h) (λ x b h. h) (λ a x b h. h) (λ x b h. h) (λ a b h. h)
unmeant s ns i p n tree bares.Leaf k = of_other s ns i p n tree IsLeaf k (λ x h. h) (λ a x h. h) (λ x b h. h) (λ a x b h. h) (λ x b h. h) (λ a b h. h)
unmeant s ns i p n tree bares.Operation k = of_other s ns i p n tree IsOperation k (λ x h. h) (λ a x h. h) (λ x b h. h) (λ a x b h. h) (λ x b h. h) (λ a b h. h)
unmeant s ns i p n tree bares.Write k = of_other s ns i p n tree IsWrite k (λ x h. h) (λ a x h. h) (λ x b h. h) (λ a x b h. h) (λ x b h. h) (λ a b h. h)
unmeant s ns i p n tree bares.Contract k = of_other s ns i p n tree IsContract k (λ x h. h) (λ a x h. h) (λ x b h. h) (λ a x b h. h) (λ x b h. h) (λ a b h. h)
unmeant s ns i p n tree bares.Returned k = of_other s ns i p n tree IsReturned k (λ x h. h) (λ a x h. h) (λ x b h. h) (λ a x b h. h) (λ x b h. h) (λ a b h. h)
unmeant s ns i p n tree bares.Test k = of_other s ns i p n tree IsTest k (λ x h. h) (λ a x h. h) (λ x b h. h) (λ a x b h. h) (λ x b h. h) (λ a b h. h)
unmeant s ns i p n tree bares.Thrown k = of_other s ns i p n tree IsThrown k (λ x h. h) (λ a x h. h) (λ x b h. h) (λ a x b h. h) (λ x b h. h) (λ a b h. h)

-- ---- a node more

-- by its entry
pub spot_is : (s : Site) (n at : ℕ) (a : Arena) (e : Entry) → a ≡ tree_there s → n ≡ at → at < length (tree_there s).entries → slice_get a.entries at ≡ Some e
    → tree_in a at ≡ tree_of a.text (tree_in a) e.place e.node → ArePartsFrom a.entries at 0 (parts e.node) → AreNamesIn a.text (names e.node) → IsSpot s n (record { at = at; place = e.place; node = e.node })
spot_is s n at a e is count lt here tree stands named =
    let parts_there = subst (λ (t : Arena). ArePartsFrom t.entries at 0 (parts e.node)) is stands in
    record {
      count = count;
      within = lt;
      entry = λ x h. let both : Some e ≡ Some x = sym here ∙ (ap (λ (t : Arena). slice_get t.entries at) is ∙ h) in let same : e ≡ x = cc in (ap (λ (y : Entry). y.place) (sym same), ap (λ (y : Entry). y.node) (sym same));
      tree = subst (λ (t : Arena). tree_in t at ≡ tree_of t.text (tree_in t) e.place e.node) is tree;
      stands = parts_there;
      parts = subst (λ (k : ℕ). AreBelow k (parts e.node)) (sym count) (parts_below (tree_there s).entries at 0 (parts e.node) parts_there);
      names = subst (λ (t : Arena). AreNamesIn t.text (names e.node)) is named;
    }

module _ (s : Site) (a b : TypeList) (k j : Noted) (m : Note) (x : Meaning) (spot : Spot) (h : IsSpot s (length k.notes) spot) where
  note_said : (e : Entry) → slice_get (tree_there s).entries spot.at ≡ Some e → IsSpotNote s b k.notes spot m → IsNoteOf s b k.notes spot.at (scope_of s spot.at) e.place e.node m
  note_said e is made =
      subst (λ (n : Node). IsNoteOf s b k.notes spot.at (scope_of s spot.at) e.place n m) (sym (h.entry e is).1)
      (subst (λ (p : Place). IsNoteOf s b k.notes spot.at (scope_of s spot.at) p spot.node m) (sym (h.entry e is).0)
      (subst (λ (i : ℕ). IsNoteOf s b k.notes i (scope_of s spot.at) spot.place spot.node m) h.count made))

  meaning_said : (shown : List noting.Note) (e : Entry) → slice_get (tree_there s).entries (length k.notes) ≡ Some e → IsMeantBy s shown spot.at spot.node x → IsMeantBy s shown (length k.notes) e.node x
  meaning_said shown e is made =
      subst (λ (i : ℕ). IsMeantBy s shown i e.node x) (sym h.count)
      (subst (λ (n : Node). IsMeantBy s shown spot.at n x) (sym (h.entry e (ap (slice_get (tree_there s).entries) (sym h.count) ∙ is)).1) made)

  pub kept_more : IsForest (tree_there s).text (tree_there s).entries → AreKept s a k → Extends a b → IsSpotNote s b k.notes spot m → IsMeantBy s (shown_notes a k.notes) spot.at spot.node x
      → j.notes ≡ k.notes ++ m ∷ [] → j.meanings.items ≡ k.meanings.items ++ x ∷ [] → IsInside s j.inside → AreKept s b j
  kept_more forest kept grown noted meant notes items inside = record {
    noted = subst (λ (ns : List Note). AreNoted s b ns) (sym notes)
        (noted_more s a b k.notes k.notes m spot.at forest kept.noted grown h.count refl h.within (λ e z. note_said e z noted));
    meant = subst (λ (ns : List Note). AreMeant s b ns j.meanings.items) (sym notes)
        (subst (λ (ms : List Meaning). AreMeant s b (k.notes ++ m ∷ []) ms) (sym items)
        (meant_more s a b k.notes m forest kept.noted.within grown k.meanings.items x kept.count kept.meant (λ e z. meaning_said (shown_notes a k.notes) e z meant)));
    count = omega (arith, ap length items, ap length notes, length-append k.meanings.items (x ∷ []), length-append k.notes (m ∷ []), kept.count);
    inside = inside;
  }

-- ---- the method that a call means, where its note is made

module _ (s : Site) (ns : List noting.Note) (at : ℕ) (p : Place) (n : Node) (w : Within) (m : Meaning) (tree : tree_in (tree_there s) at ≡ tree_of (tree_there s).text (tree_in (tree_there s)) p n) (here : w ≡ slice_index_or s.scopes.now.within.items at nowhere)
    (meant : IsMeantBy s ns at n m) where
  said : (k : Node) → n ≡ k → meaning_shown (table_in s.trees.now) m ≡ meanings.meaning_by (scope_of s at) (tree_of (tree_there s).text (tree_in (tree_there s)) p k) (object_noted ns k)
  said k e =
      meant.shown
      ∙ (ap (λ (u : Tree). meanings.meaning_by (scope_of s at) u (object_noted ns n)) tree
      ∙ ap (λ (x : Node). meanings.meaning_by (scope_of s at) (tree_of (tree_there s).text (tree_in (tree_there s)) p x) (object_noted ns x)) e)

  pub own_found : (x : Name) (a : ℕ) → n ≡ nodes.Call x a → meanings.method_in (meaning_shown (table_in s.trees.now) m) ≡ method_meant (scope_here s w) (name_in (tree_there s).text x)
  own_found x a e =
      ap meanings.method_in (said (nodes.Call x a) e)
      ∙ (method_law (method_meant (scope_of s at) (name_in (tree_there s).text x))
      ∙ ap (λ (v : Within). method_meant (scope_here s v) (name_in (tree_there s).text x)) (sym here))

  pub super_found : (x : Name) (a : ℕ) → n ≡ nodes.SuperCall x a
      → meanings.super_in (meaning_shown (table_in s.trees.now) m) ≡ meanings.method_of (table_in s.trees.now) (name_in (tree_there s).text x) (super_class (scope_here s w))
  super_found x a e =
      ap meanings.super_in (said (nodes.SuperCall x a) e)
      ∙ (super_law (meanings.method_of (table_in s.trees.now) (name_in (tree_there s).text x) (super_class (scope_of s at)))
      ∙ ap (λ (v : Within). meanings.method_of (table_in s.trees.now) (name_in (tree_there s).text x) (super_class (scope_here s v))) (sym here))
