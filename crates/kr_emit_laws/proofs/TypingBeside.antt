-- Builders beside the sources of their problem.
use Rattle.std.proofs.Common.{◌≡◌, refl, ap, ◌∙◌, subst, ℕ, zero, suc, ◌+◌, ◌<◌, ◌≤◌, Bool, true, false, ◌||◌, List, [], ◌∷◌, ◌++◌, length, arith, Option, Some, None}
use Rattle.std.specs.Prelude.{bytes_eq, codes, decimal, flat_map, option_to_list, slice_get}
use Rattle.std.specs.List.{AllByRecursion}
use Rattle.std.proofs.lemmas.Fmt.{decimal_injective}
use Rattle.std.proofs.lemmas.List.{append_cancel_left}
use Rattle.kr_base.specs.declared.place.Place.{Place}
use Rattle.kr_base.proofs.ListLemmas.{append_is_nil}
use Rattle.kr_ast.specs.Tree.{Tree}
use Rattle.kr_classes_table.specs.Rules.{Fault, break_if, is_name_among, least, object_methods, repeated}
use Rattle.kr_classes_table.specs.Table.{Heading, Table, headings_of, table_of}
use Rattle.kr_classes_table.proofs.Least.{is_least}
use Rattle.kr_classes_table.proofs.Tables.{unbroken}
use Rattle.kr_mean.specs.Problem.{Problem}
use Rattle.kr_types_meaning.specs.Scopes.{in_class}
use Rattle.kr_types_meaning.specs.Typing.{outside}
use Rattle.kr_emit_meaning.specs.Buildable.{BuildFault, build_fault, builders_name, construction_at, name_at, name_fault, number_fault, first_of, E2}
use Rattle.kr_emit_laws.specs.BuilderTree.{methods_tree, method_end, result_end}
use Rattle.kr_emit_laws.specs.Pieces as pieces
use Rattle.kr_emit_laws.specs.Pieces.{after_pieces, method_name}
use Rattle.kr_emit_laws.specs.Syntax.{Builder}
use Rattle.kr_emit_laws.proofs.TextNames.{headings_are}
use Rattle.kr_laws_never_stuck.proofs.Declared.{names_equal}
use Rattle.kr_emit_laws.specs.TypingBeside.{with_file, BesideLaw}
use Rattle.kr_emit_laws.specs.OneMore.{AreMethods, method_names, IsAddable}
use Rattle.kr_emit_laws.proofs.TypingAdded.{added}
use Rattle.kr_emit_laws.proofs.TypingBodies.{methods_law}
use Rattle.kr_emit_laws.proofs.TypingNames.{other_way}

-- ---- names of methods

method_other : (i j : ℕ) → i < 9223372036854775809 → j < 9223372036854775809 → (i ≡ j → ⊥) → bytes_eq (method_name i) (method_name j) ≡ false
method_other i j l m differ = go (bytes_eq (method_name i) (method_name j)) refl
  where
    go : (b : Bool) → bytes_eq (method_name i) (method_name j) ≡ b → b ≡ false
    go true q = absurd (differ (decimal_injective i j (omega (arith, l)) (omega (arith, m)) (append_cancel_left (codes "b") (decimal i) (decimal j) (names_equal (method_name i) (method_name j) q))))
    go false q = refl

either_false : (a b : Bool) → a ≡ false → b ≡ false → (a || b) ≡ false
either_false true b e f = absurd (cc (e))
either_false false b e f = f

module _ (place : List ℕ → Place) where
  are_methods : (front : List ℕ) (n : ℕ) (bs : List Builder) → AreMethods (methods_tree place front n bs)
  are_methods front n [] = tt
  are_methods front n (b ∷ bs) = are_methods (method_end front n b) (n + 1) bs

  apart : (front : List ℕ) (n : ℕ) (bs : List Builder) (seen : List (List ℕ)) → n + length bs ≤ 9223372036854775808 → ((j : ℕ) → n ≤ j → j < 9223372036854775809 → is_name_among (method_name j) seen ≡ false) → repeated 5 seen (method_names (methods_tree place front n bs)) ≡ []
  apart front n [] seen few h = refl
  apart front n (b ∷ bs) seen few h =
      let p = place (result_end front b ++ codes " ") in
      ap (λ z. break_if z 5 p ++ repeated 5 (method_name n ∷ seen) (method_names (methods_tree place (method_end front n b) (n + 1) bs))) (h n (omega arith) (omega (arith, few)))
      ∙ apart (method_end front n b) (n + 1) bs (method_name n ∷ seen) (omega (arith, few))
      (λ j l m. let differ : j ≡ n → ⊥ = λ s. absurd (omega (arith, s, l)) in either_false (bytes_eq (method_name j) (method_name n)) (is_name_among (method_name j) seen) (method_other j n m (omega (arith, few)) differ) (h j (omega (arith, l)) m))

  -- none is one of every object's methods
  own : (front : List ℕ) (n : ℕ) (bs : List Builder) → flat_map (λ (m : List ℕ × Place). break_if (is_name_among m.0 object_methods) 6 m.1) (method_names (methods_tree place front n bs)) ≡ []
  own front n [] = refl
  own front n (b ∷ bs) = own (method_end front n b) (n + 1) bs

-- ---- rule E2

none_before : (a b : Option BuildFault) → first_of a b ≡ None → (a ≡ None) × (b ≡ None)
none_before None b e = (refl, e)
none_before (Some f) b e = absurd (cc (e))

no_name : (o : Option Fault) → name_at o ≡ None → o ≡ None
no_name None e = refl
no_name (Some f) e = absurd (cc (e))

names_kept : (problem : Problem) → build_fault problem ≡ None → E2 problem ≡ []
unfolding build_fault
names_kept problem e =
    let rest = (none_before (construction_at (least (Rattle.kr_emit_meaning.specs.Buildable.E1 problem))) _ e).1 in
    (is_least (E2 problem)).none (no_name (least (E2 problem)) (none_before (name_at (least (E2 problem))) _ rest).0)

all_new : (hs : List Heading) → flat_map name_fault hs ≡ [] → AllByRecursion (λ h. bytes_eq builders_name h.name ≡ false) hs
all_new [] e = tt
all_new (h ∷ hs) e =
    let parts = append_is_nil (name_fault h) (flat_map name_fault hs) e in
    (other_way h.name builders_name (unbroken (bytes_eq h.name builders_name) 2 h.place parts.0), all_new hs parts.1)

short : {A : Type 0} (xs : List A) (k : ℕ) → slice_get xs k ≡ None → length xs ≤ k
short [] k e = omega arith
short (x ∷ xs) zero e = absurd (cc (e))
short (x ∷ xs) (suc k) e = let s = short xs k e in omega (arith, s)

no_number : (o : Option Heading) → flat_map number_fault (option_to_list o) ≡ [] → o ≡ None
no_number None e = refl
no_number (Some h) e = absurd (cc (e))

pub addable : (files : List Tree) (problem : Problem) (place : List ℕ → Place) (front : List ℕ) (builders : List Builder) → problem.program.table.headings ≡ headings_of files → build_fault problem ≡ None → length builders ≤ 9223372036854775808
    → IsAddable files builders_name (methods_tree place front 0 builders)
addable files problem place front builders same e few =
    let hs = problem.program.table.headings in
    let parts = append_is_nil (flat_map name_fault hs) (flat_map number_fault (option_to_list (slice_get hs 76))) (names_kept problem e) in
    record {
      methods = are_methods place front 0 builders;
      apart = apart place front 0 builders [] (omega (arith, few)) (λ j l m. refl);
      own = own place front 0 builders;
      named = refl;
      set = refl;
      list = refl;
      throwable = refl;
      new = subst (λ (xs : List Heading). AllByRecursion (λ h. bytes_eq builders_name h.name ≡ false) xs) same (all_new hs parts.0);
      few = subst (λ (xs : List Heading). length xs ≤ 76) same (short hs 76 (no_number (slice_get hs 76) parts.1));
    }

pub beside : BesideLaw
beside files problem place builders derived classes types table e few =
    let front = after_pieces [] (pieces.class_head []) in
    let all = added files (place (codes "class" ++ codes " ")) builders_name (methods_tree place front 0 builders) derived classes types
    (addable files problem place front builders (ap (λ (t : Table). t.headings) table ∙ headings_are files) e (omega (arith, few))) in
    record {
      classed = all.classed;
      typed = λ fit. all.typed (methods_law place front 0 (in_class builders_name (outside (table_of (with_file files place builders)))) builders refl refl fit);
    }
