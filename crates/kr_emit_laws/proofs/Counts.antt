-- Code has no fewer bytes than methods, and a method no fewer than lines.
use Rattle.std.proofs.Common.{◌≡◌, ℕ, ◌+◌, ◌<◌, ◌≤◌, ◌⊎◌, inl, inr, List, [], ◌∷◌, ◌++◌, length, get_or, sym, ap, subst, ◌∙◌, arith, length-append}
use Rattle.std.specs.Prelude.{codes, decimal, flat_map}
use Rattle.std.specs.List.{AllByRecursion}
use Rattle.std.proofs.Math.ListN.{get_or-eq_default}
use Rattle.std.proofs.lemmas.Bool.{cases_lt}
use Rattle.kr_emit_meaning.specs.Builders.{class_of_object}
use Rattle.kr_emit_laws.specs.Pieces as pieces
use Rattle.kr_emit_laws.specs.Pieces.{Piece, text_of}
use Rattle.kr_emit_laws.specs.Syntax.{Builder, Line, assignment_lines, created_lines, creation_lines, length_of, lines_of, local_of}
use Rattle.kr_emit_laws.proofs.Texts.{line_some, line_text, statement_is, type_is, words}
use Rattle.kr_laws_pruning.proofs.Numbering.{object, object_at_number, number_of_object}
use Rattle.kr_mean.specs.Problem.{Problem, DomainObject, all_objects, domain_at, slot_at}
use Rattle.kr_mean.specs.WellFormed.{AreSpots, IsWellFormed}
use Rattle.kr_report.specs.Texts.{no_domain_object}
use Rattle.kr_value.specs.declared.object.Class.{Class}
use Rattle.kr_value.specs.declared.object.Class.TheVariants as classes
use Rattle.kr_value.specs.declared.value.Value.{Value}

-- ---- lines

body_long : (lines : List Line) (more : List Piece) → length lines + length (text_of more) ≤ length (text_of (pieces.body lines more))
body_long [] more = omega (arith, length-append (decimal 0) (codes ";\n" ++ text_of more))
body_long (a ∷ lines) more =
    let rest = pieces.body lines more in
    omega (arith, ap (λ (t : List ℕ). length t) (statement_is a rest), length-append (line_text a) (text_of rest), line_some a, body_long lines more)

-- ---- methods

opening_long : (n : ℕ) (more : List Piece) → length (text_of more) ≤ length (text_of (pieces.method_opening n more))
opening_long n more = omega (arith, length-append (decimal n) (codes "() {\n" ++ text_of more))

head_long : (b : Builder) (more : List Piece) → length (text_of more) < length (text_of (pieces.method_head b more))
head_long b more =
    let typed = text_of (pieces.type b.type more) in
    omega (arith, length-append b.key (codes "\n  static " ++ typed), ap (λ (t : List ℕ). length t) (type_is b.type more), length-append (words b.type) (text_of more))

method_long : (n : ℕ) (b : Builder) (more : List Piece) → length b.lines + length (text_of more) < length (text_of (pieces.method n b more))
method_long n b more =
    let end = pieces.indent (pieces.close_brace more) in
    let inner = pieces.body b.lines end in
    let ended : length (text_of more) ≤ length (text_of end) = omega arith in
    omega (arith, ended, body_long b.lines end, opening_long n inner, head_long b (pieces.method_opening n inner))

methods_long : (n : ℕ) (bs : List Builder) (more : List Piece) → length bs + length (text_of more) ≤ length (text_of (pieces.methods n bs more))
methods_long n [] more = omega arith
methods_long n (b ∷ bs) more = omega (arith, method_long n b (pieces.methods (n + 1) bs more), methods_long (n + 1) bs more)

each_long : (n most : ℕ) (bs : List Builder) (more : List Piece) → length (text_of (pieces.methods n bs more)) ≤ most → AllByRecursion (λ (b : Builder). length b.lines ≤ most) bs
each_long n most [] more l = tt
each_long n most (b ∷ bs) more l =
    let rest = pieces.methods (n + 1) bs more in
    (omega (arith, l, method_long n b rest), each_long (n + 1) most bs more (omega (arith, l, method_long n b rest)))

class_long : (more : List Piece) → length (text_of more) ≤ length (text_of (pieces.class_head more))
class_long more = omega arith

pub few_builders : (bs : List Builder) (last : List ℕ) → length bs ≤ length (text_of (pieces.code bs last))
few_builders bs last =
    let end = pieces.close_brace (pieces.comment last []) in
    omega (arith, class_long (pieces.methods 0 bs end), methods_long 0 bs end)

pub few_lines : (bs : List Builder) (last : List ℕ) → AllByRecursion (λ (b : Builder). length b.lines ≤ length (text_of (pieces.code bs last))) bs
few_lines bs last = let end = pieces.close_brace (pieces.comment last []) in each_long 0 (length (text_of (pieces.code bs last))) bs end (class_long (pieces.methods 0 bs end))

-- ---- objects

-- an object's class, or an array
IsKind : Class → Type 0
IsKind (classes.Object c) = Unit {0}
IsKind (classes.Array k) = Unit {0}
IsKind classes.Set = ⊥
IsKind classes.List = ⊥

module _ (problem : Problem) (w : IsWellFormed problem) where
  domain_kind : (d : ℕ) → d < length problem.domains → IsKind (domain_at problem d).class
  unfolding IsKind
  domain_kind d l = go (domain_at problem d).class (w.spots d l)
    where
      go : (c : Class) → AreSpots c (domain_at problem d).spots → IsKind c
      go (classes.Object c) h = tt
      go (classes.Array k) h = tt
      go classes.Set h = h
      go classes.List h = h

  object_kind : (o : ℕ) → IsKind (class_of_object problem o)
  object_kind o = go (cases_lt o (length (all_objects problem)))
    where
      go : (o < length (all_objects problem)) ⊎ (length (all_objects problem) ≤ o) → IsKind (class_of_object problem o)
      go (inl l) =
          let r = number_of_object problem o l in
          let at : get_or (all_objects problem) o no_domain_object ≡ object r.domain r.number =
          ap (λ (x : ℕ). get_or (all_objects problem) x no_domain_object) r.is ∙ (object_at_number problem r.domain r.number r.domain_in r.number_in).1 in
          subst (λ (x : DomainObject). IsKind (domain_at problem x.domain).class) (sym at) (domain_kind r.domain r.domain_in)
      go (inr l) = subst (λ (x : DomainObject). IsKind (domain_at problem x.domain).class) (sym (get_or-eq_default (all_objects problem) no_domain_object l)) (domain_kind 0 (omega (arith, w.root)))

  creation_some : (structure : List (ℕ × Value)) (objects : List ℕ) (o : ℕ) → 1 ≤ length (creation_lines problem structure objects o)
  unfolding IsKind
  creation_some structure objects o = go (class_of_object problem o) (object_kind o)
    where
      go : (c : Class) → IsKind c → 1 ≤ length (created_lines problem.program (local_of objects o) (length_of problem structure o) c)
      go (classes.Object c) h = omega arith
      go (classes.Array k) h = omega arith
      go classes.Set h = absurd h
      go classes.List h = absurd h

  creations_long : (structure : List (ℕ × Value)) (objects os : List ℕ) → length os ≤ length (flat_map (creation_lines problem structure objects) os)
  creations_long structure objects [] = omega arith
  creations_long structure objects (o ∷ os) =
      omega (arith, length-append (creation_lines problem structure objects o) (flat_map (creation_lines problem structure objects) os), creation_some structure objects o, creations_long structure objects os)

  pub few_objects : (structure : List (ℕ × Value)) (objects : List ℕ) → length objects ≤ length (lines_of problem structure objects)
  few_objects structure objects =
      omega (arith, length-append (flat_map (creation_lines problem structure objects) objects) (flat_map (λ (p : ℕ × Value). assignment_lines problem objects p.1 (slot_at problem p.0).place) structure), creations_long structure objects objects)
