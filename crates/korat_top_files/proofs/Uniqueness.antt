-- The steps have one outcome.
use Rattle.std.proofs.Common.{◌≡◌, ℕ, ◌<◌, ◌≤◌, ◌⊎◌, List, length, refl, sym, ap, ◌∙◌, subst, inl, inr, arith, rules}
use Rattle.std.specs.Prelude.{Some, None, Ok, Err, ◌==◌, if◌then◌else◌, Bool, false, nat_lt}
use Rattle.kr_base.specs.declared.place.Place.{Place}
use Rattle.kr_lex.specs.declared.refusal.LexRule.{LexRule}
use Rattle.kr_lex.specs.declared.refusal.LexRule.TheVariants as rules
use Rattle.kr_lex.specs.Places.{place_after}
use Rattle.kr_lex.specs.Lexemes.{Lexemes}
use Rattle.kr_lex.specs.Rules.{rule_code as lex_code}
use Rattle.kr_lex.specs.Spells.{AreTokens, OneListLaw}
use Rattle.kr_lex.specs.Broken.{IsFirstBroken, rank, UnbrokenLaw}
use Rattle.kr_ast.specs.Tree.{Tree}
use Rattle.kr_parse.specs.Rules.{rule_code as parse_code}
use Rattle.kr_parse.specs.Refusals.{OneRefusal, ParsedUnbroken}
use Rattle.kr_parse_laws.specs.Laws.{OneTree}
use Rattle.kr_classes_table.specs.Predefined.{with_predefined}
use Rattle.kr_classes_table.specs.Table.{Table}
use Rattle.kr_classes_table.specs.Rules.{Fault as ClassFault, class_fault}
use Rattle.kr_classes.specs.declared.refusal.ClassRule.{ClassRule}
use Rattle.kr_classes.specs.declared.refusal.ClassRule.TheVariants as classes
use Rattle.kr_classes.specs.Refusals.{rule_number, rule_code as class_code}
use Rattle.kr_types_judging.specs.Numbers.{rule_number as type_number}
use Rattle.kr_fin.specs.declared.document.FinDoc.{FinDoc}
use Rattle.kr_space_meaning.specs.Order.{Fault as SpaceFault, rule_code as space_code}
use Rattle.kr_fin.specs.Order.{Fault, rule_code as fin_code}
use Rattle.kr_mean.specs.Problem.{Problem}
use Rattle.kr_mean.specs.declared.mode.Mode.{Mode}
use Rattle.kr_mean.specs.declared.mode.Mode.TheVariants.{List as Listing}
use Rattle.kr_classes_table.specs.Rules.{is_earlier, less_or}
use Rattle.korat_top_files.specs.declared.refusal.InputFile.{InputFile}
use Rattle.korat_top_files.specs.declared.refusal.InputFile.TheVariants as input
use Rattle.korat_top_files.specs.declared.rules.CallRule.TheVariants.{Impure}
use Rattle.korat_top_files.specs.Refusals.{Inputs, at_place, call_code, of_finitization, type_code}
use Rattle.korat_top_files.specs.Steps.{Judges, Checks}
use Rattle.kr_io.specs.Held.{Held}
use Rattle.korat_top_files.specs.Chains.{each, made, reading, reading_source, lexing, parsing, growing, classing, stating, typing, spacing, purifying, from_problem, from_document, from_trees, from_table, from_grown, from_texts, from_fin, checking}
use Rattle.korat_top_files.specs.OneOutcome.{HasOne, OneOutcome}
use Rattle.korat_top_files.proofs.Building.{one_building}
use Rattle.korat_top_files.proofs.Carried.{one_carried}
use Rattle.korat_top_files.proofs.Outcomes.{one_then, one_each}
use Rattle.korat_top_files.proofs.Chained.{from_checks, from_judges}

-- ---- each step has one outcome

one_reading : (held : Held) (file : InputFile) (name : List ℕ) → HasOne (reading held file name)
one_reading held file name (Ok b) (Ok c) x y =
    let same : Some b ≡ Some c = sym x.0 ∙ y.0 in
    let texts : b ≡ c = cc (same) in
    ap Ok texts
one_reading held file name (Ok b) (Err t) x y =
    let same : Some b ≡ Some y.0 = sym x.0 ∙ y.1 in
    let texts : b ≡ y.0 = cc (same) in
    absurd (omega (arith, x.1, y.2, ap length texts))
one_reading held file name (Err r) (Ok c) x y =
    let same : Some x.0 ≡ Some c = sym x.1 ∙ y.0 in
    let texts : x.0 ≡ c = cc (same) in
    absurd (omega (arith, x.2, y.1, ap length texts))
one_reading held file name (Err r) (Err t) x y = ap Err (x.3 ∙ sym y.3)

same_rank : (a b : LexRule) → rank a ≡ rank b → a ≡ b
same_rank a b e = from_rank a ∙ (ap rule_at e ∙ sym (from_rank b))
  where
    rule_at : ℕ → LexRule
    rule_at n = if n == 1 then rules.NotUtf8 else (if n == 2 then rules.StrayCharacter else (if n == 3 then rules.UnclosedComment else (if n == 4 then rules.BadNumber else (if n == 5 then rules.UnicodeEscape else rules.ContractLine))))

    from_rank : (a : LexRule) → a ≡ rule_at (rank a)
    from_rank rules.NotUtf8 = refl
    from_rank rules.StrayCharacter = refl
    from_rank rules.UnclosedComment = refl
    from_rank rules.BadNumber = refl
    from_rank rules.UnicodeEscape = refl
    from_rank rules.ContractLine = refl

both_least : (a b : List ℕ) (m n : ℕ) → (length a < length b) ⊎ ((a ≡ b) × (m ≤ n)) → (length b < length a) ⊎ ((b ≡ a) × (n ≤ m)) → (a ≡ b) × (m ≡ n)
both_least a b m n (inl x) (inl y) = absurd (omega (arith, x, y))
both_least a b m n (inl x) (inr y) = absurd (omega (arith, x, ap length y.0))
both_least a b m n (inr x) (inl y) = absurd (omega (arith, y, ap length x.0))
both_least a b m n (inr x) (inr y) = (x.0, omega (arith, x.1, y.1))

one_broken : (file : ℕ) (bytes : List ℕ) (p q : Place) (r t : LexRule) → IsFirstBroken file bytes p r → IsFirstBroken file bytes q t → (p ≡ q) × (r ≡ t)
one_broken file bytes p q r t x y =
    let same = both_least x.front y.front (rank r) (rank t) (x.least y.front t y.breaks) (y.least x.front r x.breaks) in
    (x.at ∙ (ap (place_after file) same.0 ∙ sym y.at), same_rank r t same.1)

one_tokens : (n : ℕ) (s : List ℕ) (a b : Lexemes) → OneListLaw → AreTokens n s a → AreTokens n s b → a ≡ b
one_tokens n s a b law x y =
    ap (λ l. let r : Lexemes = record { list = l; end = a.end } in r) (law n s a.list b.list x.spelled y.spelled)
    ∙ ap (λ e. let r : Lexemes = record { list = b.list; end = e } in r) (x.end ∙ sym y.end)

-- what the laws of the steps say
record Laws : Type 0 where
  lists : OneListLaw
  unbroken : UnbrokenLaw
  refusals : OneRefusal
  parsed : ParsedUnbroken
  trees : OneTree

one_lexing : Laws → (n : ℕ) (bytes : List ℕ) → HasOne (lexing n bytes)
one_lexing laws n bytes (Ok a) (Ok b) x y = ap Ok (one_tokens n bytes a b laws.lists x y)
one_lexing laws n bytes (Ok a) (Err t) x y = absurd (laws.unbroken n bytes y.2.front a y.1 x y.2.breaks)
one_lexing laws n bytes (Err r) (Ok b) x y = absurd (laws.unbroken n bytes x.2.front b x.1 y x.2.breaks)
one_lexing laws n bytes (Err r) (Err t) x y =
    let same = one_broken n bytes x.0 y.0 x.1 y.1 x.2 y.2 in
    ap Err (x.3 ∙ (ap (λ p. at_place p (lex_code x.1)) same.0 ∙ (ap (λ u. at_place y.0 (lex_code u)) same.1 ∙ sym y.3)))

one_parsing : Laws → (tokens : Lexemes) → HasOne (parsing tokens)
one_parsing laws tokens (Ok a) (Ok b) x y = ap Ok (laws.trees tokens.list a b x.derived y.derived)
one_parsing laws tokens (Ok a) (Err t) x y = absurd (laws.parsed tokens a y.0 y.1 x y.2)
one_parsing laws tokens (Err r) (Ok b) x y = absurd (laws.parsed tokens b x.0 x.1 y x.2)
one_parsing laws tokens (Err r) (Err t) x y =
    let same = laws.refusals tokens x.0 y.0 x.1 y.1 x.2 y.2 in
    ap Err (x.3 ∙ (ap (λ p. at_place p (parse_code x.1)) same.0 ∙ (ap (λ u. at_place y.0 (parse_code u)) same.1 ∙ sym y.3)))

one_growing : Laws → (n : ℕ) (bytes : List ℕ) → HasOne (growing n bytes)
one_growing laws n bytes = one_then (lexing n bytes) parsing (one_lexing laws n bytes) (one_parsing laws)

same_class_rule : (a b : ClassRule) → rule_number a ≡ rule_number b → a ≡ b
same_class_rule a b e = from_number a ∙ (ap rule_at e ∙ sym (from_number b))
  where
    rule_at : ℕ → ClassRule
    rule_at n = if n == 1 then classes.RepeatedClass else (if n == 2 then classes.UnknownSuperclass else (if n == 3 then classes.OwnAncestor else (if n == 4 then classes.RepeatedMember else (if n == 5 then classes.OtherParameters else (if n == 6 then classes.ObjectMethod else (if n == 7 then classes.OtherResult else classes.TooMany))))))

    from_number : (a : ClassRule) → a ≡ rule_at (rule_number a)
    from_number classes.RepeatedClass = refl
    from_number classes.UnknownSuperclass = refl
    from_number classes.OwnAncestor = refl
    from_number classes.RepeatedMember = refl
    from_number classes.OtherParameters = refl
    from_number classes.ObjectMethod = refl
    from_number classes.OtherResult = refl
    from_number classes.TooMany = refl

one_classing : (trees : List Tree) → HasOne (classing trees)
one_classing trees (Ok a) (Ok b) x y = ap Ok (x.0 ∙ sym y.0)
one_classing trees (Ok a) (Err t) x y = let differ = sym (subst (λ (u : Table). class_fault u ≡ None) x.0 x.1) ∙ y.2 in absurd (cc (differ))
one_classing trees (Err r) (Ok b) x y = let differ = sym (subst (λ (u : Table). class_fault u ≡ None) y.0 y.1) ∙ x.2 in absurd (cc (differ))
one_classing trees (Err r) (Err t) x y =
    let one : ClassFault = record { place = x.0; rule = rule_number x.1 } in
    let other : ClassFault = record { place = y.0; rule = rule_number y.1 } in
    let same : Some one ≡ Some other = sym x.2 ∙ y.2 in
    let faults : one ≡ other = cc (same) in
    let places : x.0 ≡ y.0 = ap (λ (f : ClassFault). f.place) faults in
    let numbers : rule_number x.1 ≡ rule_number y.1 = ap (λ (f : ClassFault). f.rule) faults in
    ap Err (x.3 ∙ (ap (λ p. at_place p (class_code x.1)) places ∙ (ap (λ c. at_place y.0 (class_code c)) (same_class_rule x.1 y.1 numbers) ∙ sym y.3)))

one_typing : (trees : List Tree) → HasOne (typing trees)
one_typing trees (Ok a) (Ok b) x y = refl
one_typing trees (Ok a) (Err t) x y = let differ = sym x ∙ y.2 in absurd (cc (differ))
one_typing trees (Err r) (Ok b) x y = let differ = sym y ∙ x.2 in absurd (cc (differ))
one_typing trees (Err r) (Err t) x y =
    let one : ClassFault = record { place = x.0; rule = type_number x.1 } in
    let other : ClassFault = record { place = y.0; rule = type_number y.1 } in
    let same : Some one ≡ Some other = sym x.2 ∙ y.2 in
    let faults : one ≡ other = cc (same) in
    ap Err (x.3 ∙ (ap (λ (f : ClassFault). at_place f.place (type_code f.rule)) faults ∙ sym y.3))

one_stating : (fin : List ℕ) → HasOne (stating fin)
one_stating fin (Ok a) (Ok b) x y = let same = sym x ∙ y in cc (same)
one_stating fin (Ok a) (Err t) x y = let differ = sym x ∙ y.1 in absurd (cc (differ))
one_stating fin (Err r) (Ok b) x y = let differ = sym x.1 ∙ y in absurd (cc (differ))
one_stating fin (Err r) (Err t) x y =
    let same = sym x.1 ∙ y.1 in
    let faults : x.0 ≡ y.0 = cc (same) in
    ap Err (x.2 ∙ (ap (λ (f : Fault). of_finitization (fin_code f.rule) f.item) faults ∙ sym y.2))

one_spacing : (mode : Mode) (trees : List Tree) (document : FinDoc) → HasOne (spacing mode trees document)
one_spacing mode trees document (Ok a) (Ok b) x y = let same = sym x ∙ y in cc (same)
one_spacing mode trees document (Ok a) (Err t) x y = let differ = sym x ∙ y.1 in absurd (cc (differ))
one_spacing mode trees document (Err r) (Ok b) x y = let differ = sym x.1 ∙ y in absurd (cc (differ))
one_spacing mode trees document (Err r) (Err t) x y =
    let same = sym x.1 ∙ y.1 in
    let faults : x.0 ≡ y.0 = cc (same) in
    ap Err (x.2 ∙ (ap (λ (f : SpaceFault). of_finitization (space_code f.rule) f.item) faults ∙ sym y.2))

-- of two places of which neither is earlier
one_place : (a b : Place) → is_earlier a b ≡ false → is_earlier b a ≡ false → a ≡ b
one_place a b x y =
    let files = level a.file b.file (less_or a.line b.line (nat_lt a.col b.col)) (less_or b.line a.line (nat_lt b.col a.col)) x y in
    let lines = level a.line b.line (nat_lt a.col b.col) (nat_lt b.col a.col) files.1 files.2 in
    let columns : a.col ≡ b.col = neither a.col b.col lines.1 lines.2 in
    ap (λ n. let p : Place = record { file = n; line = a.line; col = a.col } in p) files.0
    ∙ (ap (λ n. let p : Place = record { file = b.file; line = n; col = a.col } in p) lines.0
    ∙ ap (λ n. let p : Place = record { file = b.file; line = b.line; col = n } in p) columns)
  where
    level : (m n : ℕ) (r s : Bool) → less_or m n r ≡ false → less_or n m s ≡ false → (m ≡ n) × (r ≡ false) × (s ≡ false)
    level m n r s x y = (same m n r s x y, first m n r s x y, second m n r s x y)
      where
        same : (m n : ℕ) (r s : Bool) → less_or m n r ≡ false → less_or n m s ≡ false → m ≡ n
        same m n r s x y = grind (arith, rules)

        first : (m n : ℕ) (r s : Bool) → less_or m n r ≡ false → less_or n m s ≡ false → r ≡ false
        first m n r s x y = grind (arith, rules)

        second : (m n : ℕ) (r s : Bool) → less_or m n r ≡ false → less_or n m s ≡ false → s ≡ false
        second m n r s x y = grind (arith, rules)

    neither : (m n : ℕ) → nat_lt m n ≡ false → nat_lt n m ≡ false → m ≡ n
    neither m n x y = grind (arith, rules)

one_purifying : (problem : Problem) → HasOne (purifying problem)
one_purifying problem (Ok a) (Ok b) x y = refl
one_purifying problem (Ok a) (Err t) x y = absurd (x y.1.node y.1.impure)
one_purifying problem (Err r) (Ok b) x y = absurd (y x.1.node x.1.impure)
one_purifying problem (Err r) (Err t) x y =
    let same = one_place x.0 y.0 (y.1.first x.1.node x.0 x.1.impure x.1.at) (x.1.first y.1.node y.0 y.1.impure y.1.at) in
    ap Err (x.2 ∙ (ap (λ (p : Place). at_place p (call_code Impure)) same ∙ sym y.2))

one_made : {A : Type 0} (a : A) → HasOne (made a)
one_made a (Ok b) (Ok c) x y = ap Ok (sym x ∙ y)
one_made a (Ok b) (Err t) x y = absurd y
one_made a (Err r) z x y = absurd x

one_from_problem : (problem : Problem) → HasOne (from_problem problem)
one_from_problem problem = one_then (purifying problem) (λ done. made problem) (one_purifying problem) (λ done. one_made problem)

one_from_document : (mode : Mode) (trees : List Tree) (document : FinDoc) → HasOne (from_document mode trees document)
one_from_document mode trees document = one_then (spacing mode trees document) from_problem (one_spacing mode trees document) one_from_problem

one_from_trees : (mode : Mode) (fin : List ℕ) (trees : List Tree) → HasOne (from_trees mode fin trees)
one_from_trees mode fin trees = one_then (stating fin) (λ document. from_document mode trees document) (one_stating fin) (λ document. one_from_document mode trees document)

one_from_table : (mode : Mode) (fin : List ℕ) (trees : List Tree) → HasOne (from_table mode fin trees)
one_from_table mode fin trees = one_then (typing trees) (λ done. from_trees mode fin trees) (one_typing trees) (λ done. one_from_trees mode fin trees)

one_from_grown : (mode : Mode) (fin : List ℕ) (trees : List Tree) → HasOne (from_grown mode fin trees)
one_from_grown mode fin trees = one_then (classing trees) (λ table. from_table mode fin trees) (one_classing trees) (λ table. one_from_table mode fin trees)

one_from_texts : Laws → (mode : Mode) (fin : List ℕ) (sources : List (List ℕ)) → HasOne (from_texts mode fin sources)
one_from_texts laws mode fin sources = one_then (each growing 0 sources) (λ files. from_grown mode fin (with_predefined files)) (one_each growing (one_growing laws) 0 sources) (λ files. one_from_grown mode fin (with_predefined files))

one_checking : Laws → (held : Held) (mode : Mode) (inputs : Inputs) → HasOne (checking held mode inputs)
one_checking laws held mode inputs =
    one_then (reading held input.Finitization inputs.fin) (λ fin. from_fin held mode inputs fin) (one_reading held input.Finitization inputs.fin) (λ fin.
    one_then (each (reading_source held) 0 inputs.sources) (λ sources. from_texts mode fin sources)
    (one_each (reading_source held) (λ n name. one_reading held (input.Source n) name) 0 inputs.sources) (λ sources. one_from_texts laws mode fin sources))

-- ---- the same of the steps read top down

one_judging : Laws → (mode : Mode) (fin : List ℕ) (sources : List (List ℕ)) → HasOne (Judges mode fin sources)
one_judging laws mode fin sources x y h k = one_from_texts laws mode fin sources x y (from_judges mode fin sources x h) (from_judges mode fin sources y k)

one_of_files : Laws → (held : Held) (mode : Mode) (inputs : Inputs) → HasOne (Checks held mode inputs)
one_of_files laws held mode inputs x y h k = one_checking laws held mode inputs x y (from_checks held mode inputs x h) (from_checks held mode inputs y k)

pub one_outcome : OneListLaw → UnbrokenLaw → OneRefusal → ParsedUnbroken → OneTree → OneOutcome
one_outcome lists unbroken refusals parsed trees =
    let laws : Laws = record { lists = lists; unbroken = unbroken; refusals = refusals; parsed = parsed; trees = trees } in
    record {
      judging = one_judging laws;
      checking = one_of_files laws;
      carrying = one_carried one_reading one_stating;
      building = λ held inputs. one_building held inputs (one_of_files laws held Listing inputs);
    }
