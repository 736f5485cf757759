-- The steps, read top down, and the chain of the work say the same.
use Rattle.std.proofs.Common.{◌≡◌, ℕ, ◌+◌, inl, inr, List, [], ◌∷◌, ◌++◌, length, refl, sym, ap, subst, arith}
use Rattle.std.specs.Prelude.{None, Result, Ok, Err}
use Rattle.kr_ast.specs.Tree.{Tree}
use Rattle.kr_classes_table.specs.Predefined.{with_predefined}
use Rattle.kr_classes_table.specs.Table.{Table, table_of}
use Rattle.kr_classes_table.specs.Rules.{class_fault}
use Rattle.kr_mean.specs.Problem.{Problem}
use Rattle.kr_mean.specs.declared.mode.Mode.{Mode}
use Rattle.korat_top_files.specs.declared.refusal.InputFile.TheVariants as input
use Rattle.korat_top_files.specs.Refusals.{Inputs, Refusal, too_long}
use Rattle.korat_top_files.specs.Steps.{AreProgram, AreRead, AreTrees, Judges, unlexed, unparsed, unclassed, untyped, unstated, unposed, impure, accepted, Checks, long_finitization, long_source, judged}
use Rattle.kr_io.specs.Held.{Held}
use Rattle.korat_top_files.specs.Chains.{and_then, each, made, reading, reading_source, lexing, parsing, growing, classing, typing, stating, spacing, purifying, from_problem, from_document, from_trees, from_table, from_grown, from_texts, from_fin, checking}
use Rattle.korat_top_files.proofs.Outcomes.{each_stop}

-- ---- a step and the next one

on_ok : {A B C : Type 0} (first : Result A Refusal → Type 0) (next : A → Result B Refusal → Type 0) (b : B) → and_then first next (Ok b)
    → ((a : A) → first (Ok a) → next a (Ok b) → C) → C
on_ok first next b h go = go h.0 h.1 h.2

on_err : {A B C : Type 0} (first : Result A Refusal → Type 0) (next : A → Result B Refusal → Type 0) (r : Refusal) → and_then first next (Err r)
    → (first (Err r) → C) → ((a : A) → first (Ok a) → next a (Err r) → C) → C
on_err first next r (inl h) stop go = stop h
on_err first next r (inr h) stop go = go h.0 h.1 h.2

-- what goes on
onward : {A B : Type 0} (first : Result A Refusal → Type 0) (next : A → Result B Refusal → Type 0) (r : Result B Refusal) (a : A) → first (Ok a) → next a r → and_then first next r
onward first next (Ok b) a h n = (a, h, n)
onward first next (Err r) a h n = inr (a, h, n)

stopping : {A B : Type 0} (first : Result A Refusal → Type 0) (next : A → Result B Refusal → Type 0) (r : Refusal) → first (Err r) → and_then first next (Err r)
stopping first next r h = inl h

-- ---- items in order

moved : {A : Type 0} (n : ℕ) (a : A) (items : List A) → (n + 1) + length items ≡ n + length (a ∷ items)
moved n a items = omega arith

-- a refusal comes after some items
on_stop : {A B C : Type 0} (step : ℕ → A → Result B Refusal → Type 0) (n : ℕ) (items : List A) (r : Refusal) → each step n items (Err r)
    → ((front : List A) (a : A) (rest : List A) (made : List B) → items ≡ front ++ a ∷ rest → each step n front (Ok made) → step (n + length front) a (Err r) → C) → C
on_stop step n [] r h go = absurd h
on_stop {A} step n (a ∷ items) r (inl h) go =
    let none : n ≡ n + length (let nil : List A = [] in nil) = omega arith in
    go [] a items [] refl tt (subst (λ k. step k a (Err r)) none h)
on_stop step n (a ∷ items) r (inr h) go =
    on_stop step (n + 1) items r h.2
    (λ front b rest made is e s. go (a ∷ front) b rest (h.0 ∷ made) (ap (λ xs. a ∷ xs) is) (h.1, e) (subst (λ k. step k b (Err r)) (moved n a front) s))

trees_of : (n : ℕ) (sources : List (List ℕ)) (trees : List Tree) → each growing n sources (Ok trees) → AreTrees n sources trees
trees_of n [] [] h = tt
trees_of n [] (tree ∷ trees) h = absurd h
trees_of n (bytes ∷ sources) [] h = absurd h
trees_of n (bytes ∷ sources) (tree ∷ trees) h = (h.0, trees_of (n + 1) sources trees h.1)

grown_of : (n : ℕ) (sources : List (List ℕ)) (trees : List Tree) → AreTrees n sources trees → each growing n sources (Ok trees)
grown_of n [] [] h = tt
grown_of n [] (tree ∷ trees) h = absurd h
grown_of n (bytes ∷ sources) [] h = absurd h
grown_of n (bytes ∷ sources) (tree ∷ trees) h = (h.0, grown_of (n + 1) sources trees h.1)

read_of : (held : Held) (n : ℕ) (names texts : List (List ℕ)) → each (reading_source held) n names (Ok texts) → AreRead held names texts
read_of held n [] [] h = tt
read_of held n [] (text ∷ texts) h = absurd h
read_of held n (name ∷ names) [] h = absurd h
read_of held n (name ∷ names) (text ∷ texts) h = (h.0, read_of held (n + 1) names texts h.1)

reads_of : (held : Held) (n : ℕ) (names texts : List (List ℕ)) → AreRead held names texts → each (reading_source held) n names (Ok texts)
reads_of held n [] [] h = tt
reads_of held n [] (text ∷ texts) h = absurd h
reads_of held n (name ∷ names) [] h = absurd h
reads_of held n (name ∷ names) (text ∷ texts) h = (h.0, reads_of held (n + 1) names texts h.1)

first_of_all : (n : ℕ) → n ≡ 0 + n
first_of_all n = omega arith

class_of : (trees : List Tree) (table : Table) → classing trees (Ok table) → class_fault (table_of trees) ≡ None
class_of trees table h = subst (λ (t : Table). class_fault t ≡ None) h.0 h.1

-- ---- what texts give

module _ (mode : Mode) (fin : List ℕ) (sources : List (List ℕ)) where
  from_accepted : (p : Problem) → from_texts mode fin sources (Ok p) → Judges mode fin sources (Ok p)
  from_accepted p h =
      on_ok (each growing 0 sources) (λ files. from_grown mode fin (with_predefined files)) p h (λ files grown h.
      let trees = with_predefined files in
      on_ok (classing trees) (λ table. from_table mode fin trees) p h (λ table classed h.
      on_ok (typing trees) (λ done. from_trees mode fin trees) p h (λ done typed h.
      on_ok (stating fin) (λ document. from_document mode trees document) p h (λ document stated h.
      on_ok (spacing mode trees document) from_problem p h (λ problem posed h.
      on_ok (purifying problem) (λ done. made problem) p h (λ done pure is.
      subst (λ (q : Problem). Judges mode fin sources (Ok q)) is
      (accepted trees document problem (refl, trees_of 0 sources files grown) (class_of trees table classed) typed stated posed pure)))))))

  from_unlexed : (r : Refusal) → each growing 0 sources (Err r) → Judges mode fin sources (Err r)
  from_unlexed r h =
      on_stop growing 0 sources r h (λ front bytes rest trees is grown s.
      let s' = subst (λ k. growing k bytes (Err r)) (sym (first_of_all (length front))) s in
      on_err (lexing (length front) bytes) parsing r s'
      (λ broken. unlexed front bytes rest trees r is (trees_of 0 front trees grown) broken)
      (λ tokens lexed broken. unparsed front bytes rest trees tokens r is (trees_of 0 front trees grown) lexed broken))

  from_refused : (r : Refusal) → from_texts mode fin sources (Err r) → Judges mode fin sources (Err r)
  from_refused r h =
      on_err (each growing 0 sources) (λ files. from_grown mode fin (with_predefined files)) r h (from_unlexed r) (λ files grown h.
      let trees = with_predefined files in
      let all : AreProgram sources trees = (refl, trees_of 0 sources files grown) in
      on_err (classing trees) (λ table. from_table mode fin trees) r h (unclassed trees r all) (λ table classed h.
      let right = class_of trees table classed in
      on_err (typing trees) (λ done. from_trees mode fin trees) r h (untyped trees r all right) (λ done typed h.
      on_err (stating fin) (λ document. from_document mode trees document) r h (unstated trees r all right typed) (λ document stated h.
      on_err (spacing mode trees document) from_problem r h (unposed trees document r all right typed stated) (λ problem posed h.
      on_err (purifying problem) (λ done. made problem) r h (impure trees document problem r all right typed stated posed) (λ done pure never. absurd never))))))

  pub to_judges : (x : Result Problem Refusal) → from_texts mode fin sources x → Judges mode fin sources x
  to_judges (Ok p) h = from_accepted p h
  to_judges (Err r) h = from_refused r h

  onto_grown : (trees : List Tree) (x : Result Problem Refusal) → AreProgram sources trees → from_grown mode fin trees x → from_texts mode fin sources x
  onto_grown [] x all h = absurd all
  onto_grown (tree ∷ files) x all h =
      onward (each growing 0 sources) (λ files. from_grown mode fin (with_predefined files)) x files (grown_of 0 sources files all.1)
      (subst (λ (t : Tree). from_grown mode fin (t ∷ files) x) all.0 h)

  onto_table : (trees : List Tree) (x : Result Problem Refusal) → AreProgram sources trees → class_fault (table_of trees) ≡ None → from_table mode fin trees x → from_texts mode fin sources x
  onto_table trees x all right h = onto_grown trees x all (onward (classing trees) (λ table. from_table mode fin trees) x (table_of trees) (refl, right) h)

  pub from_judges : (x : Result Problem Refusal) → Judges mode fin sources x → from_texts mode fin sources x
  from_judges x (unlexed front bytes rest trees r is all broken) =
      stopping (each growing 0 sources) (λ files. from_grown mode fin (with_predefined files)) r
      (subst (λ xs. each growing 0 xs (Err r)) (sym is)
      (each_stop growing 0 front trees bytes rest r (grown_of 0 front trees all)
      (subst (λ k. growing k bytes (Err r)) (first_of_all (length front)) (stopping (lexing (length front) bytes) parsing r broken))))
  from_judges x (unparsed front bytes rest trees tokens r is all lexed broken) =
      stopping (each growing 0 sources) (λ files. from_grown mode fin (with_predefined files)) r
      (subst (λ xs. each growing 0 xs (Err r)) (sym is)
      (each_stop growing 0 front trees bytes rest r (grown_of 0 front trees all)
      (subst (λ k. growing k bytes (Err r)) (first_of_all (length front)) (onward (lexing (length front) bytes) parsing (Err r) tokens lexed broken))))
  from_judges x (unclassed trees r all broken) = onto_grown trees (Err r) all (stopping (classing trees) (λ table. from_table mode fin trees) r broken)
  from_judges x (untyped trees r all right broken) = onto_table trees (Err r) all right (stopping (typing trees) (λ done. from_trees mode fin trees) r broken)
  from_judges x (unstated trees r all right typed broken) =
      onto_table trees (Err r) all right
      (onward (typing trees) (λ done. from_trees mode fin trees) (Err r) tt typed
      (stopping (stating fin) (λ document. from_document mode trees document) r broken))
  from_judges x (unposed trees document r all right typed stated broken) =
      onto_table trees (Err r) all right
      (onward (typing trees) (λ done. from_trees mode fin trees) (Err r) tt typed
      (onward (stating fin) (λ document. from_document mode trees document) (Err r) document stated
      (stopping (spacing mode trees document) from_problem r broken)))
  from_judges x (impure trees document problem r all right typed stated posed broken) =
      onto_table trees (Err r) all right
      (onward (typing trees) (λ done. from_trees mode fin trees) (Err r) tt typed
      (onward (stating fin) (λ document. from_document mode trees document) (Err r) document stated
      (onward (spacing mode trees document) from_problem (Err r) problem posed
      (stopping (purifying problem) (λ done. made problem) r broken))))
  from_judges x (accepted trees document problem all right typed stated posed pure) =
      onto_table trees (Ok problem) all right
      (onward (typing trees) (λ done. from_trees mode fin trees) (Ok problem) tt typed
      (onward (stating fin) (λ document. from_document mode trees document) (Ok problem) document stated
      (onward (spacing mode trees document) from_problem (Ok problem) problem posed
      (onward (purifying problem) (λ done. made problem) (Ok problem) tt pure refl))))

-- ---- what files give

module _ (held : Held) (mode : Mode) (inputs : Inputs) where
  from_long : (fin : List ℕ) (r : Refusal) → reading held input.Finitization inputs.fin (Ok fin) → each (reading_source held) 0 inputs.sources (Err r) → Checks held mode inputs (Err r)
  from_long fin r whole h =
      on_stop (reading_source held) 0 inputs.sources r h (λ front name rest texts is e s.
      let s' = subst (λ k. reading_source held k name (Err r)) (sym (first_of_all (length front))) s in
      subst (λ (q : Refusal). Checks held mode inputs (Err q)) (sym s'.3)
      (long_source fin front name rest texts whole is (read_of held 0 front texts e) (s'.0, s'.1, s'.2)))

  pub to_checks : (x : Result Problem Refusal) → checking held mode inputs x → Checks held mode inputs x
  to_checks (Ok p) h =
      on_ok (reading held input.Finitization inputs.fin) (λ fin. from_fin held mode inputs fin) p h (λ fin whole h.
      on_ok (each (reading_source held) 0 inputs.sources) (λ sources. from_texts mode fin sources) p h (λ texts e j.
      judged fin texts (Ok p) whole (read_of held 0 inputs.sources texts e) (to_judges mode fin texts (Ok p) j)))
  to_checks (Err r) h =
      on_err (reading held input.Finitization inputs.fin) (λ fin. from_fin held mode inputs fin) r h
      (λ long. subst (λ (q : Refusal). Checks held mode inputs (Err q)) (sym long.3) (long_finitization (long.0, long.1, long.2)))
      (λ fin whole h.
      on_err (each (reading_source held) 0 inputs.sources) (λ sources. from_texts mode fin sources) r h (λ e. from_long fin r whole e) (λ texts e j.
      judged fin texts (Err r) whole (read_of held 0 inputs.sources texts e) (to_judges mode fin texts (Err r) j)))

  pub from_checks : (x : Result Problem Refusal) → Checks held mode inputs x → checking held mode inputs x
  from_checks x (long_finitization long) =
      stopping (reading held input.Finitization inputs.fin) (λ fin. from_fin held mode inputs fin) (too_long input.Finitization) (long.0, long.1, long.2, refl)
  from_checks x (long_source fin front name rest texts whole is read long) =
      let r = too_long (input.Source (length front)) in
      onward (reading held input.Finitization inputs.fin) (λ fin. from_fin held mode inputs fin) (Err r) fin whole
      (stopping (each (reading_source held) 0 inputs.sources) (λ sources. from_texts mode fin sources) r
      (subst (λ xs. each (reading_source held) 0 xs (Err r)) (sym is)
      (each_stop (reading_source held) 0 front texts name rest r (reads_of held 0 front texts read)
      (subst (λ k. reading_source held k name (Err r)) (first_of_all (length front)) (long.0, long.1, long.2, refl)))))
  from_checks x (judged fin texts r whole read j) =
      onward (reading held input.Finitization inputs.fin) (λ fin. from_fin held mode inputs fin) r fin whole
      (onward (each (reading_source held) 0 inputs.sources) (λ sources. from_texts mode fin sources) r texts (reads_of held 0 inputs.sources texts read) (from_judges mode fin texts r j))
