-- The first rules decide, and superclasses are classes of the table.
use Rattle.std.proofs.Common.{◌≡◌, refl, sym, ap, ◌∙◌, ℕ, zero, suc, ◌<◌, ◌≤◌, List, [], ◌∷◌, length, map, get_or, if◌then◌else◌, arith}
use Rattle.std.specs.Prelude.{Option, Some, None, option_and_then}
use Rattle.std.proofs.lemmas.List.{get_or-map, length-map}
use Rattle.kr_ast.specs.Arena.{Arena, root}
use Rattle.kr_ast.specs.Tree as trees
use Rattle.kr_ast.specs.Tree.{Tree, Nil}
use Rattle.kr_classes_table.specs.Table.{Table, Class, Heading, class_named, headings_of, is_number, number_of, outer_of, super_of}
use Rattle.kr_classes_table.specs.Rules.{Fault, C1, C2, C3, C4, C5, C6, C7, C8, class_fault, first_of, least}
use Rattle.kr_classes_table.proofs.Tables.{within, past, long}
use Rattle.kr_classes_names.specs.Shown.{superclass_in}
use Rattle.kr_classes_names.proofs.ClassNumbers.{some_below}
use Rattle.kr_classes.specs.Faults.{AreBelow, AreSuperclasses, first_of_rule, no_class}
use Rattle.kr_classes_members.specs.Shown.{table_in}
use Rattle.kr_classes.specs.Refusals.{names_fault}
use Rattle.kr_classes.specs.MemberRules.{members_fault}
use Rattle.kr_classes_members.proofs.Classes.{classes_in}
use Rattle.kr_classes.proofs.ByClass.{at_index, class_read}

front : (a b c : Option Fault) (os : List (Option Fault)) (f : Fault) → first_of (a ∷ b ∷ c ∷ []) ≡ Some f → first_of (a ∷ b ∷ c ∷ os) ≡ Some f
front (Some g) b c os f e = e
front None (Some g) c os f e = e
front None None (Some g) os f e = e
front None None None os f e = absurd (cc (e))

-- a violation of the rules on names is one of all class rules
pub by_names : (t : Table) (f : Fault) → names_fault t ≡ Some f → class_fault t ≡ Some f
unfolding class_fault
by_names t f e =
    front (least (C1 t)) (first_of_rule C2 t) (first_of_rule C3 t) (first_of_rule C4 t ∷ first_of_rule C5 t ∷ first_of_rule C6 t ∷ first_of_rule C7 t ∷ first_of_rule C8 t ∷ []) f e

behind : (a b c : Option Fault) (os : List (Option Fault)) → first_of (a ∷ b ∷ c ∷ []) ≡ None → first_of (a ∷ b ∷ c ∷ os) ≡ first_of os
behind (Some g) b c os e = absurd (cc (e))
behind None (Some g) c os e = absurd (cc (e))
behind None None (Some g) os e = absurd (cc (e))
behind None None None os e = refl

-- where none of the rules on names is broken those on members decide
pub by_members : (t : Table) → names_fault t ≡ None → class_fault t ≡ members_fault t
unfolding class_fault
by_members t e =
    behind (least (C1 t)) (first_of_rule C2 t) (first_of_rule C3 t) (first_of_rule C4 t ∷ first_of_rule C5 t ∷ first_of_rule C6 t ∷ first_of_rule C7 t ∷ first_of_rule C8 t ∷ []) e

no_heading : Heading
no_heading = record { name = []; place = record { file = 0; line = 0; col = 0 }; outer = None; extended = Nil; members = [] }

pub superclasses_of : (files : List Arena) (supers : List (Option ℕ)) → supers ≡ map (superclass_in (headings_of (map root files))) (headings_of (map root files)) → AreSuperclasses supers (table_in files)
superclasses_of files supers e =
    let hs = headings_of (map root files) in
    let t = table_in files in
    let n : length supers ≡ length hs = ap length e ∙ length-map hs (superclass_in hs) in
    let m : length t.classes ≡ length hs = ap length (classes_in files) ∙ long hs 0 hs in
    record {
      count = n ∙ sym m;
      each = λ c l.
          ap (option_and_then (λ (k : Class). k.super)) (at_index t.classes c no_class (omega (arith, l, n, m)) ∙ ap (λ ds. Some (get_or ds c no_class)) (classes_in files) ∙ ap Some (class_read hs 0 hs c no_class no_heading (omega (arith, l, n))))
          ∙ sym (ap (λ os. get_or os c None) e ∙ get_or-map (superclass_in hs) hs c no_heading None (omega (arith, l, n)));
    }

named : (hs : List Heading) (t : Tree) (d : ℕ) → class_named hs t ≡ Some d → d < length hs
named hs (trees.NamedType p n) d e = some_below hs n d (sym e)
named hs (trees.QualifiedType p o n) d e = within (length hs) (λ c. is_number (outer_of hs c) (number_of hs o)) (number_of hs n) d (λ c s. some_below hs n c (sym s)) e
named hs t d e = absurd (cc (e))

inside : (all : List Heading) (hs : List Heading) (c d : ℕ) → get_or (map (superclass_in all) hs) c None ≡ Some d → d < length all
inside all [] c d e = absurd (cc (e))
inside all (h ∷ hs) zero d e = named all h.extended d e
inside all (h ∷ hs) (suc c) d e = inside all hs c d e

pub below_of : (files : List Arena) (supers : List (Option ℕ)) → supers ≡ map (superclass_in (headings_of (map root files))) (headings_of (map root files)) → AreBelow supers
below_of files supers e c d s =
    let hs = headings_of (map root files) in
    let n : length supers ≡ length hs = ap length e ∙ length-map hs (superclass_in hs) in
    let b = inside hs hs c d (sym (ap (λ os. get_or os c None) e) ∙ s) in
    omega (arith, b, n)

-- a number past the classes has no superclass
pub past_superclass : (t : Table) (c n : ℕ) → length t.classes ≡ n → n ≤ c → None ≡ super_of t c
past_superclass t c n e l = sym (ap (option_and_then (λ (k : Class). k.super)) (past t.classes c (omega (arith, e, l))))
