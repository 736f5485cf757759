-- The notes of a file as one more node gets its note.
use Rattle.std.proofs.Common.{◌≡◌, refl, sym, ap, ◌∙◌, subst, ℕ, zero, suc, ◌+◌, ◌<◌, ◌≤◌, ◌⊎◌, inl, inr, List, [], ◌∷◌, ◌++◌, length, map, Some, arith}
use Rattle.std.specs.Prelude.{None, slice_get, slice_index_or}
use Rattle.std.proofs.Math.Nat.{eq-or-lt_of_le}
use Rattle.std.proofs.lemmas.Option.{slice_get_within}
use Rattle.std.proofs.lemmas.List.{length-append}
use Rattle.kr_base.specs.declared.place.Place.{Place}
use Rattle.kr_ast.specs.Tree.{Tree}
use Rattle.kr_ast.specs.declared.node.Node.{Node}
use Rattle.kr_ast.specs.declared.node.Node.TheVariants as nodes
use Rattle.kr_ast.specs.declared.node.Entry.{Entry}
use Rattle.kr_ast.specs.Arena.{IsArena, IsForest, ArePartsFrom, parts, tree_in, tree_of}
use Rattle.kr_ast.proofs.Trees.{tree_stands}
use Rattle.kr_classes_table.specs.Constants.{values_of}
use Rattle.kr_classes_members.specs.Shown.{table_in}
use Rattle.kr_ast.specs.Arena.{AreBelow}
use Rattle.kr_types_meaning.specs.Rules.{Untyped}
use Rattle.kr_types_meaning.specs.Scopes.{Scope}
use Rattle.kr_types_meaning.specs.Typing.{judged}
use Rattle.kr_types_meaning.specs.Noting as noting
use Rattle.kr_types_scopes.proofs.Notes.{all_judged}
use Rattle.kr_classes_names.specs.Types.{TypeList, Extends}
use Rattle.kr_classes_names.proofs.Growing.{number_kept}
use Rattle.kr_types_judging.specs.declared.notes.Note.{Note}
use Rattle.kr_types_expressions.specs.Notes.{shown_notes}
use Rattle.kr_types_expressions.proofs.Notes.{notes_same, shown_before, shown_last, within_kept, within_pushed}
use Rattle.kr_types.specs.declared.site.Site.{Site}
use Rattle.kr_types.specs.Programs.{setting_in}
use Rattle.kr_types.specs.Sites.{IsSite, IsNoteOf, AreNoted, scope_of, tree_there}

-- a node's note speaks of those of its parts alone
noted_listed : (s : Scope) (text : List ℕ) (look : ℕ → Tree) (p : Place) (n : Node) (ns : List noting.Note)
    → noting.noted s (tree_of text look p n) (noting.part_note ns n) ≡ noting.noted s (tree_of text look p n) (λ j. slice_index_or (map (noting.note_at ns) (parts n)) j (noting.note Untyped None))
noted_listed s text look p nodes.Nil ns = refl
noted_listed s text look p _ ns = refl

noted_same : (s : Scope) (text : List ℕ) (look : ℕ → Tree) (p : Place) (n : Node) (ns ms : List noting.Note) → map (noting.note_at ns) (parts n) ≡ map (noting.note_at ms) (parts n)
    → noting.noted s (tree_of text look p n) (noting.part_note ns n) ≡ noting.noted s (tree_of text look p n) (noting.part_note ms n)
noted_same s text look p n ns ms e =
    noted_listed s text look p n ns
    ∙ ap (λ (xs : List noting.Note). noting.noted s (tree_of text look p n) (λ j. slice_index_or xs j (noting.note Untyped None))) e
    ∙ sym (noted_listed s text look p n ms)

-- the parts of a node come before it
pub parts_below : (es : List Entry) (i j : ℕ) (cs : List ℕ) → ArePartsFrom es i j cs → AreBelow i cs
parts_below es i j [] h = tt
parts_below es i j (c ∷ cs) h = (h.0.below, parts_below es i (j + 1) cs h.1)

near : (ns ms : List noting.Note) (i : ℕ) (cs : List ℕ) → ((k : ℕ) → k < i → noting.note_at ns k ≡ noting.note_at ms k) → AreBelow i cs → map (noting.note_at ns) cs ≡ map (noting.note_at ms) cs
near ns ms i [] h b = refl
near ns ms i (c ∷ cs) h b = cc (h c b.0, near ns ms i cs h b.1)

pub site_kept : (s : Site) (a b : TypeList) → Extends a b → IsSite s a → IsSite s b
site_kept s a b x h = record {
  heads = h.heads;
  members = h.members;
  roster = h.roster;
  numbers = λ f n. number_kept a b _ _ x (h.numbers f n);
  values = h.values;
  single = h.single;
  file = h.file;
  scopes = h.scopes;
}

module _ (s : Site) (a b : TypeList) (ns : List Note) (m : Note) (e : Entry) (forest : IsForest (tree_there s).text (tree_there s).entries) (h : AreNoted s a ns) (x : Extends a b) (here : slice_get (tree_there s).entries (length ns) ≡ Some e)
    (made : IsNoteOf s b ns (length ns) (scope_of s (length ns)) e.place e.node m) where
  same : shown_notes b ns ≡ shown_notes a ns
  same = notes_same a b ns x h.within

  -- a node among those that had notes, or this one
  stays : (i : ℕ) (f : Entry) → i ≤ length ns → slice_get (tree_there s).entries i ≡ Some f
      → noting.noted (scope_of s i) (tree_of (tree_there s).text (tree_in (tree_there s)) f.place f.node) (noting.part_note (shown_notes b ns) f.node)
      ≡ noting.noted (scope_of s i) (tree_in (tree_there s) i) (noting.part_note (shown_notes b (ns ++ m ∷ [])) f.node)
  stays i f le is =
      noted_same (scope_of s i) (tree_there s).text (tree_in (tree_there s)) f.place f.node (shown_notes b ns) (shown_notes b (ns ++ m ∷ []))
      (near _ _ i (parts f.node) (λ k lt. sym (shown_before b ns m k (omega (arith, lt, le)))) (parts_below (tree_there s).entries i 0 (parts f.node) (forest.stands i f is)))
      ∙ ap (λ (t : Tree). noting.noted (scope_of s i) t (noting.part_note (shown_notes b (ns ++ m ∷ [])) f.node)) (sym (tree_stands (tree_there s).text (tree_there s).entries forest i f is))

  noted_either : (i : ℕ) (f : Entry) → (i < length ns) ⊎ (i ≡ length ns) → slice_get (tree_there s).entries i ≡ Some f
      → noting.note_at (shown_notes b (ns ++ m ∷ [])) i ≡ noting.noted (scope_of s i) (tree_in (tree_there s) i) (noting.part_note (shown_notes b (ns ++ m ∷ [])) f.node)
  noted_either i f (inl lt) is =
      shown_before b ns m i lt
      ∙ ap (λ (xs : List noting.Note). noting.note_at xs i) same
      ∙ h.noted i f lt is
      ∙ ap (λ (xs : List noting.Note). noting.noted (scope_of s i) (tree_in (tree_there s) i) (noting.part_note xs f.node)) (sym same)
      ∙ ap (λ (t : Tree). noting.noted (scope_of s i) t (noting.part_note (shown_notes b ns) f.node)) (tree_stands (tree_there s).text (tree_there s).entries forest i f is)
      ∙ stays i f (omega (arith, lt)) is
  noted_either i f (inr at) is = last f (sym at) is
    where
      last : (f : Entry) → length ns ≡ i → slice_get (tree_there s).entries i ≡ Some f
          → noting.note_at (shown_notes b (ns ++ m ∷ [])) i ≡ noting.noted (scope_of s i) (tree_in (tree_there s) i) (noting.part_note (shown_notes b (ns ++ m ∷ [])) f.node)
      last f k is =
          let is_it : e ≡ f = let z : Some e ≡ Some f = sym here ∙ ap (slice_get (tree_there s).entries) k ∙ is in cc in
          subst (λ (j : ℕ). slice_get (tree_there s).entries j ≡ Some f → noting.note_at (shown_notes b (ns ++ m ∷ [])) j ≡ noting.noted (scope_of s j) (tree_in (tree_there s) j) (noting.part_note (shown_notes b (ns ++ m ∷ [])) f.node)) k
          (λ is. shown_last b ns m ∙ made.shown
          ∙ ap (λ (g : Entry). noting.noted (scope_of s (length ns)) (tree_of (tree_there s).text (tree_in (tree_there s)) g.place g.node) (noting.part_note (shown_notes b ns) g.node)) is_it
          ∙ stays (length ns) f (omega arith) is)
          is

  below : (i : ℕ) → i < length (ns ++ m ∷ []) → i ≤ length ns
  below i lt = omega (arith, lt, length-append ns (m ∷ []))

  pub one_more : AreNoted s b (ns ++ m ∷ [])
  one_more = record {
    within = within_pushed b ns m (within_kept a b ns x h.within) made.within made.below made.linked;
    noted = λ i f lt is. noted_either i f (elim (eq-or-lt_of_le (below i lt)) [ inl at ↦ inr at | inr l ↦ inl l ]) is;
  }

pub some_entry : (es : List Entry) (i : ℕ) → i < length es → (e : Entry) × (slice_get es i ≡ Some e)
some_entry [] i l = absurd (omega (arith, l))
some_entry (e ∷ es) zero l = (e, refl)
some_entry (e ∷ es) (suc i) l = some_entry es i (omega (arith, l))

-- in the form of a loop over the nodes
pub noted_more : (s : Site) (a b : TypeList) (ns ds : List Note) (m : Note) (at : ℕ) → IsForest (tree_there s).text (tree_there s).entries → AreNoted s a ns → Extends a b → length ns ≡ at → ds ≡ ns → at < length (tree_there s).entries
    → ((e : Entry) → slice_get (tree_there s).entries at ≡ Some e → IsNoteOf s b ds at (scope_of s at) e.place e.node m) → AreNoted s b (ns ++ m ∷ [])
noted_more s a b ns ds m at forest h x count same lt made =
    let e = some_entry (tree_there s).entries at lt in
    one_more s a b ns m e.0 forest h x (ap (slice_get (tree_there s).entries) count ∙ e.1)
    (subst (λ (k : ℕ). IsNoteOf s b ns k (scope_of s k) e.0.place e.0.node m) (sym count) (subst (λ (xs : List Note). IsNoteOf s b xs at (scope_of s at) e.0.place e.0.node m) same (made e.0 e.1)))

-- once all nodes have notes, these are the notes of the judgements
pub judged_there : (s : Site) (l : TypeList) (ns : List Note) → IsArena (tree_there s).text (tree_there s).entries → IsSite s l → AreNoted s l ns → length ns ≡ length (tree_there s).entries
    → (i : ℕ) → i < length (tree_there s).entries → noting.note_at (shown_notes l ns) i ≡ noting.kept (judged (scope_of s i) (tree_in (tree_there s) i))
judged_there s l ns arena site h count i lt =
    all_judged (setting_in s.trees.now s.file) s.scopes.now.bindings.items s.scopes.now.within.items (shown_notes l ns) arena (site.scopes (table_in s.trees.now) (values_of (table_in s.trees.now)))
    (λ i e is. h.noted i e (let lt = slice_get_within (tree_there s).entries i e is in omega (arith, lt, count)) is) i lt
