-- Carried over to version 2, a finitization that the steps accept is accepted.
use Rattle.std.proofs.Common.{◌≡◌, ◌≤◌, ℕ, Bool, true, false, cond, List, length, codes, Option, Some, None, Result, Ok, Err, refl, sym, ap, ◌∙◌, subst}
use Rattle.std.proofs.lemmas.Bool.{le-leb}
use Rattle.toml.specs.Data.{Members}
use Rattle.kr_ast.specs.Tree.{Tree}
use Rattle.kr_classes_table.specs.Rules.{class_fault}
use Rattle.kr_classes_table.specs.Table.{Heading, headings_of, table_of as class_table}
use Rattle.kr_types_meaning.specs.Typing.{type_fault}
use Rattle.kr_mean.specs.Problem.{Problem}
use Rattle.kr_mean.specs.Purity.{IsPure}
use Rattle.kr_mean.specs.declared.mode.Mode.{Mode}
use Rattle.kr_fin.specs.declared.document.FinDoc.{FinDoc}
use Rattle.kr_fin.specs.declared.refusal.FinRule.TheVariants.{TooLong}
use Rattle.kr_fin.specs.Ascending.{IsInOrder}
use Rattle.kr_fin.specs.Order.{Fault}
use Rattle.kr_fin.specs.Meaning.{document_in, is_short, meaning, of_table, table_in}
use Rattle.kr_fin.specs.Shapes.{is_domain_name}
use Rattle.kr_fin_upgrade.specs.Documents.{IsDocument}
use Rattle.kr_fin_upgrade.specs.Laws.{AreDomainNames}
use Rattle.kr_fin_upgrade.specs.Tables.{table_of}
use Rattle.kr_fin_upgrade.specs.Upgraded.{up}
use Rattle.kr_fin_upgrade.proofs.Carries.{upgraded as law}
use Rattle.kr_fin_upgrade.proofs.Read.{read as document_read}
use Rattle.kr_fin_upgrade.proofs.Written.{written}
use Rattle.kr_space_meaning.specs.Meaning.{meaning as problem_meant}
use Rattle.kr_space_meaning.proofs.Each.{each_weaker}
use Rattle.kr_shard_laws.specs.Names.{IsIdentifier}
use Rattle.kr_shard_laws.proofs.SourceNames.{named}
use Rattle.kr_laws_never_stuck.proofs.Accepted.{posed}
use Rattle.korat_top_files.specs.Refusals.{Refusal}
use Rattle.korat_top_files.specs.Steps.{AreProgram, Judges, accepted, impure, unclassed, unlexed, unparsed, unposed, unstated, untyped}
use Rattle.korat_top_files.specs.Upgrades.{IsCarried}
use Rattle.korat_top_laws.proofs.Accepted.{program}
use Rattle.korat_top_laws.proofs.Identifiers.{domain_name}
use Rattle.korat_top_laws.proofs.Posed.{poses_it}
use Rattle.korat_top_laws.specs.Laws.{UpgradedLaw}

-- ---- the document

record IsRead (bytes : List ℕ) (document : FinDoc) : Type 0 where
  table : Members
  is : document_in table ≡ Ok document

table_read : (bytes : List ℕ) (document : FinDoc) → meaning bytes ≡ Ok document → IsRead bytes document
unfolding meaning
table_read bytes document e = short (is_short bytes) e
  where
    tabled : (o : Option Members) → of_table o ≡ Ok document → IsRead bytes document
    tabled None e = absurd (cc (e))
    tabled (Some ms) e = record { table = ms; is = e }

    short : (b : Bool) → cond b (of_table (table_in bytes)) (Err (record { rule = TooLong; item = codes "size" })) ≡ Ok document → IsRead bytes document
    short true e = tabled (table_in bytes) e
    short false e = absurd (cc (e))

-- the document of a text that reads as the table that a document is written as
read_back : (text : List ℕ) (document : FinDoc) → length text ≤ 1048576 → table_in text ≡ Some (table_of document) → IsDocument document → meaning text ≡ Ok document
unfolding meaning
read_back text document short reads is =
    ap (λ (b : Bool). cond b (of_table (table_in text)) (Err (record { rule = TooLong; item = codes "size" }))) (le-leb (length text) 1048576 short)
    ∙ (ap of_table reads ∙ written document is)

-- ---- the steps

domain_names : (sources : List (List ℕ)) (files : List Tree) → AreProgram sources files → AreDomainNames (headings_of files)
domain_names sources files read =
    each_weaker (λ (h : Heading). IsIdentifier h.name) (λ h. is_domain_name h.name ≡ true) (headings_of files) (λ h n. domain_name h.name n) (named sources files (program sources files read)).classes

same_document : (fin : List ℕ) (a b : FinDoc) → meaning fin ≡ Ok a → meaning fin ≡ Ok b → a ≡ b
same_document fin a b x y = ap inside (sym x ∙ y)
  where
    inside : Result FinDoc Fault → FinDoc
    inside (Ok d) = d
    inside (Err f) = a

carried : (mode : Mode) (fin text : List ℕ) (sources : List (List ℕ)) (problem : Problem) (files : List Tree) (document : FinDoc)
    → AreProgram sources files → class_fault (class_table files) ≡ None → type_fault files ≡ None
    → meaning fin ≡ Ok document → problem_meant files document mode ≡ Ok problem → IsPure problem → IsInOrder document → IsCarried document text → length text ≤ 1048576 → Judges mode text sources (Ok problem)
carried mode fin text sources problem files document read classes types stated meant pure order c short =
    let table = table_read fin document stated in
    let is = document_read table.table document table.is order in
    let p = posed files document mode problem meant in
    let after = law files document mode (domain_names sources files read) is c.first p.unbroken in
    accepted files (up document) problem read classes types
    (read_back text (up document) short c.read after.document_is)
    (poses_it files (up document) mode problem after.unbroken (after.problem ∙ p.is)) pure

of_steps : (mode : Mode) (fin text : List ℕ) (sources : List (List ℕ)) (problem : Problem) (given : FinDoc) (result : Result Problem Refusal) → Judges mode fin sources result → result ≡ Ok problem
    → meaning fin ≡ Ok given → IsInOrder given → IsCarried given text → length text ≤ 1048576 → Judges mode text sources (Ok problem)
of_steps mode fin text sources problem given _ (accepted files document own read classes types stated meant pure) e says order c short =
    let same : own ≡ problem = ap inside e in
    subst (λ (p : Problem). Judges mode text sources (Ok p)) same
    (carried mode fin text sources own files document read classes types stated meant pure (subst IsInOrder same_given order) (subst (λ (d : FinDoc). IsCarried d text) same_given c) short)
  where
    inside : Result Problem Refusal → Problem
    inside (Ok p) = p
    inside (Err r) = problem

    same_given : given ≡ document
    same_given = same_document fin given document says stated
of_steps mode fin text sources problem given _ (unlexed front bytes rest trees r a b c) e _ _ _ _ = absurd (cc (e))
of_steps mode fin text sources problem given _ (unparsed front bytes rest trees tokens r a b c d) e _ _ _ _ = absurd (cc (e))
of_steps mode fin text sources problem given _ (unclassed trees r a b) e _ _ _ _ = absurd (cc (e))
of_steps mode fin text sources problem given _ (untyped trees r a b c) e _ _ _ _ = absurd (cc (e))
of_steps mode fin text sources problem given _ (unstated trees r a b c d) e _ _ _ _ = absurd (cc (e))
of_steps mode fin text sources problem given _ (unposed trees document r a b c d f) e _ _ _ _ = absurd (cc (e))
of_steps mode fin text sources problem given _ (impure trees document own r a b c d f g) e _ _ _ _ = absurd (cc (e))

pub upgraded : UpgradedLaw
upgraded mode fin text sources problem document h says order c short = of_steps mode fin text sources problem document (Ok problem) h refl says order c short
